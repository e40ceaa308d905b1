-- What a legal history keeps, at first and after one entry more.
use Rattle.std.proofs.Common.{◌≡◌, ℕ, ◌+◌, ◌^◌, ◌<◌, ◌≤◌, Bool, true, leb, List, [], ◌∷◌, ◌++◌, length, reverse, Some, None, vec_len, vec_capacity, refl, sym, ap, ◌∙◌, subst, inl, inr, arith}
use Rattle.std.specs.List.{count_by}
use Rattle.std.proofs.lemmas.Bool.{false≢true, and_parts, and_from, cases_Bool, leb-true}
use Rattle.std.proofs.lemmas.List.{reverse-append, length-reverse, length-append}
use Rattle.ss_base.proofs.MemberLaws.{count_one, count_other}
use Rattle.journal_entry.specs.declared.entry.Entry.{Entry}
use Rattle.journal_entry.specs.declared.entry.Point.{Point}
use Rattle.journal_entry.specs.declared.entry.Point.TheVariants.{Begin, Finish, Abort, Look, Done}
use Rattle.journal_entry.specs.Weight.{weight}
use Rattle.history.specs.declared.rules.Rules.{Rules}
use Rattle.history.specs.Sessions.{begins_some, session_count, looks_some, reading_count}
use Rattle.history.specs.Legal.{is_allowed, is_within, may_follow, is_legal, unfinished_sessions, unfinished_readings}
use Rattle.history_laws.proofs.UnfinishedLaws.{begins_of, closes_of, looks_of, ends_of, sessions_after, readings_after}
use Rattle.legal_history.specs.declared.legal_history.LegalHistory.TheInside.{Inside}
use Rattle.legal_history.specs.Recorded.{is_end, unfinished_after}
use Rattle.legal_history.specs.Rows.{noted, noted_reading}
use Rattle.legal_history.specs.Agrees.{AreSessions, AreReadings}
use Rattle.legal_history.specs.Names.{session_at, AreNames}
use Rattle.legal_history.specs.Parts.{HasNoted}
use Rattle.legal_history.specs.Kept.{past_in, IsKept}
use Rattle.legal_history.proofs.TableSteps.{sessions_noted, sessions_first}
use Rattle.legal_history.proofs.ReadingSteps.{readings_noted, readings_first}
use Rattle.legal_history.proofs.NameSteps.{names_noted, names_first}

pub reverse_more : (entries : List Entry) (entry : Entry) → reverse (entries ++ entry ∷ []) ≡ entry ∷ reverse entries
reverse_more entries entry = reverse-append entries (entry ∷ [])

pub legal_after : (rules : Rules) (entry : Entry) (past : List Entry) → is_legal rules past ≡ true → may_follow rules entry past ≡ true → is_legal rules (entry ∷ past) ≡ true
unfolding is_legal
legal_after rules entry past legal follows = and_from (is_legal rules past) (may_follow rules entry past) legal follows

-- ---- how many are unfinished

moves : (point : Point) (n s r s' r' : ℕ) → s' + closes_of point ≡ s + begins_of point → r' + ends_of point ≡ r + looks_of point → n ≡ s + r → unfinished_after n point ≡ s' + r'
moves (Begin name (Some session)) n s r s' r' sessions readings is = omega arith
moves (Look name (Some seen)) n s r s' r' sessions readings is = omega arith
moves (Finish session containers) n s r s' r' sessions readings is = omega arith
moves (Abort session containers texts) n s r s' r' sessions readings is = omega arith
moves (Done reader) n s r s' r' sessions readings is = omega arith
moves (Begin name None) n s r s' r' sessions readings is = omega arith
moves (Look name None) n s r s' r' sessions readings is = omega arith
moves _ n s r s' r' sessions readings is = omega arith

fewer : (point : Point) (n s r s' r' : ℕ) → s' + closes_of point ≡ s + begins_of point → r' + ends_of point ≡ r + looks_of point → n ≡ s + r → is_end point ≡ true → unfinished_after n point + 1 ≤ n
fewer (Finish session containers) n s r s' r' sessions readings is end = omega arith
fewer (Abort session containers texts) n s r s' r' sessions readings is end = omega arith
fewer (Done reader) n s r s' r' sessions readings is end = omega arith
fewer _ n s r s' r' sessions readings is end = absurd (false≢true end)

unfinished_is : (rules : Rules) (entry : Entry) (past : List Entry) (n : ℕ) → is_legal rules (entry ∷ past) ≡ true → n ≡ unfinished_sessions past + unfinished_readings past → unfinished_after n entry.point ≡ unfinished_sessions (entry ∷ past) + unfinished_readings (entry ∷ past)
unfinished_is rules entry past n legal is =
    moves entry.point n (unfinished_sessions past) (unfinished_readings past) (unfinished_sessions (entry ∷ past)) (unfinished_readings (entry ∷ past))
    (sessions_after rules entry past legal) (readings_after rules entry past legal) is

within : (rules : Rules) (entry : Entry) (past : List Entry) → may_follow rules entry past ≡ true → length (entry ∷ past) + unfinished_sessions (entry ∷ past) + unfinished_readings (entry ∷ past) ≤ rules.limits.entries
unfolding may_follow is_within
within rules entry past follows =
    let newer = entry ∷ past in
    let n = length newer + unfinished_sessions newer + unfinished_readings newer in
    let both = and_parts (is_allowed rules past entry.author entry.point) _ follows in
    leb-true n rules.limits.entries (and_parts (leb n rules.limits.entries) (leb (weight newer) rules.limits.weight) both.1).0

module _ (h : Inside) (entry : Entry) (kept : IsKept h) (follows : may_follow h.rules entry (past_in h) ≡ true) where
  legal_now : is_legal h.rules (entry ∷ past_in h) ≡ true
  legal_now = legal_after h.rules entry (past_in h) kept.legal follows

  unfinished_now : unfinished_after h.unfinished entry.point ≡ unfinished_sessions (entry ∷ past_in h) + unfinished_readings (entry ∷ past_in h)
  unfinished_now = unfinished_is h.rules entry (past_in h) h.unfinished legal_now kept.unfinished

  pub unfinished_fits : unfinished_after h.unfinished entry.point < 4294967296
  unfinished_fits =
      let most = within h.rules entry (past_in h) follows in
      let is = unfinished_now in
      let limit = kept.limit in
      omega (arith, most, is, limit)

  pub end_fits : is_end entry.point ≡ true → unfinished_after h.unfinished entry.point + 1 ≤ h.unfinished
  end_fits end =
      fewer entry.point h.unfinished (unfinished_sessions (past_in h)) (unfinished_readings (past_in h)) (unfinished_sessions (entry ∷ past_in h)) (unfinished_readings (entry ∷ past_in h))
      (sessions_after h.rules entry (past_in h) legal_now) (readings_after h.rules entry (past_in h) legal_now) kept.unfinished end

  -- what is kept after the entry
  pub kept_after : (new : Inside) (number : ℕ) → new.rules ≡ h.rules → new.entries.items ≡ h.entries.items ++ entry ∷ [] → number ≡ length h.entries.items → HasNoted number entry.point h.parts new.parts
      → new.unfinished ≡ unfinished_after h.unfinished entry.point → vec_len new.entries + new.unfinished ≤ vec_capacity new.entries → IsKept new
  kept_after new number same items place after unfinished room =
      let past : entry ∷ past_in h ≡ past_in new = sym (ap reverse items ∙ reverse_more h.entries.items entry) in
      let at : number ≡ length (past_in h) = place ∙ sym (length-reverse h.entries.items) in
      let rows = subst (λ n. new.parts.sessions ≡ noted n entry.point h.parts.sessions) at after.rows in
      let readers = subst (λ n. new.parts.readings ≡ noted_reading n entry.point h.parts.readings) at after.readers in
      record {
        legal = subst (λ (r : Rules). is_legal r (past_in new) ≡ true) (sym same) (subst (λ (p : List Entry). is_legal h.rules p ≡ true) past legal_now);
        limit = subst (λ (r : Rules). r.limits.entries < 2 ^ 32) (sym same) kept.limit;
        few =
            let most = within h.rules entry (past_in h) follows in
            let longer = ap length items ∙ length-append h.entries.items (entry ∷ []) in
            let turned = length-reverse h.entries.items in
            let limit = kept.limit in
            omega (arith, most, longer, turned, limit);
        rows = subst (AreSessions new.parts.sessions) past (subst (λ l. AreSessions l (entry ∷ past_in h)) (sym rows) (sessions_noted h.rules entry (past_in h) h.parts.sessions legal_now kept.rows));
        readers = subst (AreReadings new.parts.readings) past (subst (λ l. AreReadings l (entry ∷ past_in h)) (sym readers) (readings_noted h.rules entry (past_in h) h.parts.readings legal_now kept.readers));
        named = subst (AreNames new.parts.names.sessions) past (names_noted entry (past_in h) h.parts.names.sessions new.parts.names.sessions after.named kept.named);
        unfinished = unfinished ∙ unfinished_now ∙ ap (λ (p : List Entry). unfinished_sessions p + unfinished_readings p) past;
        room = room;
      }

none_legal : (rules : Rules) → is_legal rules [] ≡ true
unfolding is_legal
none_legal rules = refl

none_unfinished : unfinished_sessions [] + unfinished_readings [] ≡ 0
unfolding unfinished_sessions unfinished_readings
none_unfinished = refl

pub kept_first : (h : Inside) → h.entries.items ≡ [] → h.parts.sessions ≡ [] → h.parts.readings ≡ [] → ((q : List ℕ) → session_at h.parts.names.sessions q ≡ None) → h.unfinished ≡ 0 → h.rules.limits.entries < 2 ^ 32
    → vec_len h.entries + h.unfinished ≤ vec_capacity h.entries → IsKept h
kept_first h items rows readers named unfinished limit room =
    let past : [] ≡ past_in h = ap reverse (sym items) in
    record {
      legal = subst (λ (p : List Entry). is_legal h.rules p ≡ true) past (none_legal h.rules);
      limit = limit;
      few = let none = ap length items in omega (arith, none);
      rows = subst (AreSessions h.parts.sessions) past (subst (λ l. AreSessions l []) (sym rows) sessions_first);
      readers = subst (AreReadings h.parts.readings) past (subst (λ l. AreReadings l []) (sym readers) readings_first);
      named = subst (AreNames h.parts.names.sessions) past (names_first h.parts.names.sessions named);
      unfinished = unfinished ∙ sym none_unfinished ∙ ap (λ (p : List Entry). unfinished_sessions p + unfinished_readings p) past;
      room = room;
    }

-- ---- counts

count_few : (p : Entry → Bool) (past : List Entry) → count_by p past ≤ length past
count_few p [] = omega arith
count_few p (entry ∷ past) = elim (cases_Bool (p entry)) [
  | inl here ↦ let one = count_one p entry past here in omega (arith, one, count_few p past)
  | inr other ↦ let same = count_other p entry past other in omega (arith, same, count_few p past)
]

few_in : (h : Inside) (n : ℕ) → IsKept h → n ≤ length (past_in h) → n < 4294967296
few_in h n kept most = let turned = length-reverse h.entries.items in let few = kept.few in omega (arith, turned, few, most)

pub few_sessions : (h : Inside) → IsKept h → length h.parts.sessions < 4294967296
unfolding session_count
few_sessions h kept = few_in h (length h.parts.sessions) kept (let count = kept.rows.count in let most = count_few (λ (e : Entry). begins_some e.point) (past_in h) in omega (arith, count, most))

pub few_readings : (h : Inside) → IsKept h → length h.parts.readings < 4294967296
unfolding reading_count
few_readings h kept = few_in h (length h.parts.readings) kept (let count = kept.readers.count in let most = count_few (λ (e : Entry). looks_some e.point) (past_in h) in omega (arith, count, most))
