-- By how many unfinished readings a session's stream is read, one entry later.
use Rattle.std.proofs.Common.{◌≡◌, ℕ, ◌+◌, ◌≤◌, Bool, true, false, ◌&&◌, not, eqb, List, [], ◌∷◌, Option, Some, None, refl, sym, ap, ◌∙◌, subst, inl, inr, arith, eqb-true}
use Rattle.std.specs.List.{count_by, find, list_any}
use Rattle.std.specs.Option.{option_map_or, option_map, option_and_then}
use Rattle.std.proofs.lemmas.Bool.{false≢true, both_ways, and_parts, false_from_ne_true, cases_Bool, eq-eqb}
use Rattle.journal_entry.specs.declared.entry.Entry.{Entry}
use Rattle.journal_entry.specs.declared.entry.Seen.{Seen}
use Rattle.journal_entry.specs.declared.entry.Point.{Point}
use Rattle.journal_entry.specs.declared.entry.Point.TheVariants.{Done}
use Rattle.history.specs.declared.rules.Rules.{Rules}
use Rattle.history.specs.Sessions.{is_number, reading_begun, readings, reading_count, looks, ends, is_reading, has, newest}
use Rattle.history.specs.Legal.{is_allowed, is_legal}
use Rattle.history_laws.specs.EntryNumbers.{reading}
use Rattle.pins_counts.specs.Counts.{one_if}
use Rattle.ss_base.proofs.MemberLaws.{In, find_in, filter_map_in, in_filter_map}
use Rattle.history_laws.proofs.Allowed.{step}
use Rattle.history_laws.proofs.SessionLaws.{has_none, has_same, has_now, has_older, has_cases, has_from, has_not}
use Rattle.history_laws.proofs.BegunLaws.{looked_once, looks_next, looked_below}
use Rattle.history_laws.proofs.EndLaws.{ends_end, reading_parts, reading_from, ended_not_reading}
use Rattle.history_counts.proofs.CountLaws.{balanced, count_and, count_alike, count_cons, count_results, count_never, only_one, at_least_one}

-- by how many unfinished readings a session's stream is read
unfoldable pub sights : ℕ → List Entry → ℕ
sights session past = count_by (λ (seen : Seen). eqb seen.session session && is_reading seen.reader past) (readings past)

readings_kept : (entry : Entry) (past : List Entry) → reading_begun entry.point ≡ None → readings (entry ∷ past) ≡ readings past
unfolding readings
readings_kept entry past none = rw none refl

readings_more : (seen : Seen) (entry : Entry) (past : List Entry) → reading_begun entry.point ≡ Some seen → readings (entry ∷ past) ≡ seen ∷ readings past
unfolding readings
readings_more seen entry past is = rw is refl

reading_kept : (r : ℕ) (entry : Entry) (past : List Entry) → looks r entry.point ≡ false → ends r entry.point ≡ false → is_reading r (entry ∷ past) ≡ is_reading r past
unfolding is_reading
reading_kept r entry past unlooked unended = λ i. has_same (looks r) entry past unlooked i && not (has_same (ends r) entry past unended i)

looks_none : (r : ℕ) (point : Point) → reading_begun point ≡ None → looks r point ≡ false
unfolding looks
looks_none r point none = ap (λ o. is_number r (option_map (λ (seen : Seen). seen.reader) o)) none

looks_seen : (r : ℕ) (seen : Seen) (point : Point) → reading_begun point ≡ Some seen → looks r point ≡ eqb r seen.reader
unfolding looks
looks_seen r seen point is = ap (λ o. is_number r (option_map (λ (at : Seen). at.reader) o)) is

-- an entry that neither begins nor ends a reading
pub sights_same : (s : ℕ) (entry : Entry) (past : List Entry) → reading_begun entry.point ≡ None → ((r : ℕ) → ends r entry.point ≡ false) → sights s (entry ∷ past) ≡ sights s past
unfolding sights
sights_same s entry past none other =
    ap (count_by (λ (seen : Seen). eqb seen.session s && is_reading seen.reader (entry ∷ past))) (readings_kept entry past none)
    ∙ count_alike (λ (seen : Seen). eqb seen.session s && is_reading seen.reader (entry ∷ past)) (λ (seen : Seen). eqb seen.session s && is_reading seen.reader past) (readings past)
    (λ seen h. ap (λ b. eqb seen.session s && b) (reading_kept seen.reader entry past (looks_none seen.reader entry.point none) (other seen.reader)))

-- ---- a reading begins

listed_looked : (seen : Seen) (past : List Entry) → In seen (readings past) → has (looks seen.reader) past ≡ true
unfolding readings
listed_looked seen past h =
    let from = filter_map_in (λ (entry : Entry). reading_begun entry.point) seen past h in
    has_from (looks seen.reader) from.0 past from.1 (looks_seen seen.reader seen from.0.point from.2 ∙ eq-eqb seen.reader seen.reader refl)

pub ends_reading : (rules : Rules) (past : List Entry) (author r : ℕ) (point : Point) → is_allowed rules past author point ≡ true → ends r point ≡ true → is_reading r past ≡ true
unfolding is_allowed ends
ends_reading rules past author r (Done t) allowed does = subst (λ n. is_reading n past ≡ true) (sym (eqb-true _ _ does)) (and_parts _ _ allowed).0
ends_reading rules past author r _ allowed does = absurd (false≢true does)

ended_looked : (rules : Rules) (r : ℕ) (past : List Entry) → is_legal rules past ≡ true → has (ends r) past ≡ true → has (looks r) past ≡ true
ended_looked rules r [] legal ended = absurd (both_ways _ (has_none (ends r)) ended)
ended_looked rules r (entry ∷ past) legal ended =
    let now = step rules entry past legal in
    has_older (looks r) entry past (elim (has_cases (ends r) entry past ended) [
      | inl here ↦ (reading_parts r past (ends_reading rules past entry.author r entry.point now.allowed here)).0
      | inr older ↦ ended_looked rules r past now.legal older
    ])

looks_not_ends : (r t : ℕ) (point : Point) (seen : Seen) → reading_begun point ≡ Some seen → ends t point ≡ false
unfolding ends reading_begun
looks_not_ends r t (Done u) seen is = absurd (cc)
looks_not_ends r t _ seen is = refl

-- a reading that begins reads its stream
pub sights_begun : (rules : Rules) (s : ℕ) (seen : Seen) (entry : Entry) (past : List Entry) → is_legal rules (entry ∷ past) ≡ true → reading_begun entry.point ≡ Some seen
    → sights s (entry ∷ past) ≡ sights s past + one_if (eqb seen.session s)
unfolding sights
sights_begun rules s seen entry past legal is =
    let now = step rules entry past legal in
    let r = seen.reader in
    let p = λ (at : Seen). eqb at.session s && is_reading at.reader (entry ∷ past) in
    let q = λ (at : Seen). eqb at.session s && is_reading at.reader past in
    let here : looks r entry.point ≡ true = looks_seen r seen entry.point is ∙ eq-eqb r r refl in
    let next : r ≡ reading_count past = looks_next rules past entry.author r entry.point now.allowed here in
    let unlooked : has (looks r) past ≡ false = false_from_ne_true _ (λ looked. let below = looked_below rules r past now.legal looked in absurd (omega (arith, below, next))) in
    let unended : has (ends r) past ≡ false = false_from_ne_true _ (λ ended. both_ways _ unlooked (ended_looked rules r past now.legal ended)) in
    let first : is_reading r (entry ∷ past) ≡ true = reading_from r (entry ∷ past) (has_now (looks r) entry past here) (has_not (ends r) entry past (looks_not_ends r r entry.point seen is) unended) in
    let others : count_by p (readings past) ≡ count_by q (readings past) = count_alike p q (readings past) (λ at h.
    let apart : looks at.reader entry.point ≡ false = false_from_ne_true _ (λ same.
    let equal : at.reader ≡ r = eqb-true at.reader r (sym (looks_seen at.reader seen entry.point is) ∙ same) in
    both_ways _ unlooked (ap (λ n. has (looks n) past) (sym equal) ∙ listed_looked at past h)) in
    ap (λ b. eqb at.session s && b) (reading_kept at.reader entry past apart (looks_not_ends r at.reader entry.point seen is))) in
    let all = ap (count_by p) (readings_more seen entry past is) ∙ count_cons p seen (readings past) in
    let front : p seen ≡ eqb seen.session s = ap (λ b. eqb seen.session s && b) first ∙ and_true (eqb seen.session s) in
    let fronted = ap one_if front in
    omega (arith, all, others, fronted)
  where
    and_true : (b : Bool) → (b && true) ≡ b
    and_true true = refl
    and_true false = refl

-- ---- a reading ends

reader_or : (r : ℕ) (o : Option Seen) → option_map_or (λ (seen : Seen). eqb r seen.reader) o false ≡ is_number r (option_map (λ (seen : Seen). seen.reader) o)
reader_or r None = refl
reader_or r (Some seen) = refl

looks_listed : (r : ℕ) (past : List Entry) → count_by (λ (seen : Seen). eqb r seen.reader) (readings past) ≡ count_by (λ (entry : Entry). looks r entry.point) past
unfolding readings looks
looks_listed r past =
    count_results (λ (entry : Entry). reading_begun entry.point) (λ (seen : Seen). eqb r seen.reader) past
    ∙ count_alike (λ (entry : Entry). option_map_or (λ (seen : Seen). eqb r seen.reader) (reading_begun entry.point) false) (λ (entry : Entry). is_number r (option_map (λ (seen : Seen). seen.reader) (reading_begun entry.point))) past
    (λ entry h. reader_or r (reading_begun entry.point))

-- what a reading that was begun was begun with
pub record IsReadingOf (r : ℕ) (seen : Seen) (past : List Entry) : Type 0 where
  pub listed : In seen (readings past)
  pub same : seen.reader ≡ r
  pub is : reading r past ≡ Some seen

seen_of : (r : ℕ) (o : Option Seen) → is_number r (option_map (λ (seen : Seen). seen.reader) o) ≡ true → (seen : Seen) × (o ≡ Some seen) × (seen.reader ≡ r)
seen_of r None e = absurd (false≢true e)
seen_of r (Some seen) e = (seen, refl, sym (eqb-true r seen.reader e))

find_some : {X : Type 0} (p : X → Bool) (xs : List X) → list_any p xs ≡ true → (x : X) × (find p xs ≡ Some x)
find_some p [] e = absurd (false≢true e)
find_some p (x ∷ xs) e = elim (cases_Bool (p x)) [
  | inl passes ↦ (x, rw passes refl)
  | inr fails ↦ let rest = find_some p xs (rw fails at e) in (rest.0, rw fails rest.1)
]

pub found_reading : (r : ℕ) (past : List Entry) → has (looks r) past ≡ true → (seen : Seen) × IsReadingOf r seen past
unfolding newest has looks reading readings
found_reading r past looked =
    let newest_one = find_some (λ (entry : Entry). looks r entry.point) past looked in
    let at = find_in (λ (entry : Entry). looks r entry.point) past newest_one.0 newest_one.1 in
    let seen = seen_of r (reading_begun newest_one.0.point) at.1 in (
      seen.0,
      record {
        listed = in_filter_map (λ (entry : Entry). reading_begun entry.point) newest_one.0 seen.0 past at.0 seen.1;
        same = seen.2;
        is = ap (λ (o : Option Entry). option_and_then (λ (entry : Entry). reading_begun entry.point) o) newest_one.1 ∙ seen.1;
      },
    )

ends_one : (r t : ℕ) (point : Point) → ends r point ≡ true → ends t point ≡ true → r ≡ t
unfolding ends
ends_one r t (Done u) first second = eqb-true r u first ∙ sym (eqb-true t u second)
ends_one r t _ first second = absurd (false≢true first)

turned : (a b : ℕ) → a + b ≡ b + a
turned a b = omega arith

-- a reading that ends reads its stream no more
pub sights_ended : (rules : Rules) (s r : ℕ) (seen : Seen) (entry : Entry) (past : List Entry) → is_legal rules (entry ∷ past) ≡ true → ends r entry.point ≡ true → IsReadingOf r seen past
    → sights s (entry ∷ past) + one_if (eqb seen.session s) ≡ sights s past
unfolding sights
sights_ended rules s r seen entry past legal ended of =
    let now = step rules entry past legal in
    let p = λ (at : Seen). eqb at.session s && is_reading at.reader (entry ∷ past) in
    let q = λ (at : Seen). eqb at.session s && is_reading at.reader past in
    let mine = λ (at : Seen). eqb r at.reader in
    let b = eqb seen.session s in
    let none = (ends_end r entry.point ended).reading in
    let going : is_reading r past ≡ true = ends_reading rules past entry.author r entry.point now.allowed ended in
    let over : is_reading r (entry ∷ past) ≡ false = ended_not_reading r (entry ∷ past) (has_now (ends r) entry past ended) in
    let few : count_by mine (readings past) ≤ 1 = (let listed = looks_listed r past in let once = looked_once rules r past now.legal in omega (arith, listed, once)) in
    let here : mine seen ≡ true = eq-eqb r seen.reader (sym of.same) in
    let once : count_by mine (readings past) ≡ 1 = (let some = at_least_one mine seen (readings past) of.listed here in omega (arith, few, some)) in
    let each : (at : Seen) → In at (readings past) → one_if (p at) + one_if (mine at && b) ≡ one_if (q at) + one_if false = λ at h.
    elim (cases_Bool (mine at)) [
      | inl same ↦
          let is : at ≡ seen = only_one mine at seen (readings past) few h same of.listed here in
          let reader : at.reader ≡ r = ap (λ (x : Seen). x.reader) is ∙ of.same in
          let new : p at ≡ (eqb at.session s && false) = ap (λ n. eqb at.session s && is_reading n (entry ∷ past)) reader ∙ ap (λ c. eqb at.session s && c) over in
          let old : q at ≡ (eqb at.session s && true) = ap (λ n. eqb at.session s && is_reading n past) reader ∙ ap (λ c. eqb at.session s && c) going in
          let session : eqb at.session s ≡ b = ap (λ (x : Seen). eqb x.session s) is in
          ap (λ c. one_if c + one_if (mine at && b)) (new ∙ and_none (eqb at.session s))
          ∙ ap (λ c. one_if false + one_if (c && b)) same
          ∙ turned 0 (one_if b)
          ∙ ap (λ c. one_if c + one_if false) (sym session ∙ sym (and_all (eqb at.session s)) ∙ sym old)
      | inr other ↦
          let unended : ends at.reader entry.point ≡ false = false_from_ne_true _ (λ same. both_ways _ other (eq-eqb r at.reader (ends_one r at.reader entry.point ended same))) in
          let same : p at ≡ q at = ap (λ c. eqb at.session s && c) (reading_kept at.reader entry past (looks_none at.reader entry.point none) unended) in
          ap (λ c. one_if c + one_if (mine at && b)) same ∙ ap (λ c. one_if (q at) + one_if (c && b)) other
    ] in
    let sum = balanced p (λ (at : Seen). mine at && b) q (λ (at : Seen). false) (readings past) each in
    let all = ap (count_by p) (readings_kept entry past none) in
    let lost = count_and mine b (readings past) once in
    let zero_more = count_never (readings past) in
    omega (arith, sum, all, lost, zero_more)
  where
    and_none : (c : Bool) → (c && false) ≡ false
    and_none true = refl
    and_none false = refl

    and_all : (c : Bool) → (c && true) ≡ c
    and_all true = refl
    and_all false = refl
