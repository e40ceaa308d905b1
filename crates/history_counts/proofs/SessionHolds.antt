-- How often a manifest is a champion of a pending choice, one entry later.
use Rattle.std.proofs.Common.{◌≡◌, ℕ, ◌+◌, true, false, ◌&&◌, eqb, List, [], ◌∷◌, Option, Some, None, refl, sym, ap, ◌∙◌, inl, inr, arith, eqb-true}
use Rattle.std.specs.List.{count_by}
use Rattle.std.specs.Option.{option_map_or, unwrap_or}
use Rattle.std.proofs.lemmas.Bool.{both_ways, false_from_ne_true, cases_Bool, eq-eqb}
use Rattle.ss_base.specs.declared.ids.ManifestId.{ManifestId}
use Rattle.ss_base.specs.Ids.{has_manifest}
use Rattle.journal_entry.specs.declared.entry.Entry.{Entry}
use Rattle.history.specs.declared.rules.Rules.{Rules}
use Rattle.history.specs.Sessions.{is_number, session_begun, sessions, begins, settles, has, champions_chosen, pending_champions}
use Rattle.history.specs.Legal.{is_legal}
use Rattle.pins_counts.specs.Counts.{one_if}
use Rattle.ss_base.proofs.MemberLaws.{In, any_in}
use Rattle.history_laws.proofs.BegunLaws.{begun_once}
use Rattle.history_laws.proofs.NeedLaws.{pending_one, pending_same, pending_begun}
use Rattle.history_counts.proofs.CountLaws.{balanced, count_and, count_alike, count_cons, count_results, at_least_one}

-- of how many pending choices a manifest is a champion
unfoldable pub choices : ManifestId → List Entry → ℕ
choices id past = count_by (λ session. has_manifest id (pending_champions session past)) (sessions past)

number_or : (s : ℕ) (o : Option ℕ) → option_map_or (eqb s) o false ≡ is_number s o
number_or s None = refl
number_or s (Some t) = refl

begun_listed : (s : ℕ) (past : List Entry) → count_by (eqb s) (sessions past) ≡ count_by (λ (entry : Entry). begins s entry.point) past
unfolding sessions begins
begun_listed s past =
    count_results (λ (entry : Entry). session_begun entry.point) (eqb s) past
    ∙ count_alike (λ (entry : Entry). option_map_or (eqb s) (session_begun entry.point) false) (λ (entry : Entry). is_number s (session_begun entry.point)) past (λ entry h. number_or s (session_begun entry.point))

-- a session that was begun is listed once
pub listed_once : (rules : Rules) (s : ℕ) (past : List Entry) → is_legal rules past ≡ true → has (begins s) past ≡ true → count_by (eqb s) (sessions past) ≡ 1
unfolding has
listed_once rules s past legal begun =
    let few = begun_once rules s past legal in
    let same = begun_listed s past in
    let at = any_in (λ (entry : Entry). begins s entry.point) past begun in
    let some = at_least_one (λ (entry : Entry). begins s entry.point) at.0 past at.1 at.2 in
    omega (arith, few, same, some)

sessions_kept : (entry : Entry) (past : List Entry) → session_begun entry.point ≡ None → sessions (entry ∷ past) ≡ sessions past
unfolding sessions
sessions_kept entry past none = rw none refl

sessions_more : (s : ℕ) (entry : Entry) (past : List Entry) → session_begun entry.point ≡ Some s → sessions (entry ∷ past) ≡ s ∷ sessions past
unfolding sessions
sessions_more s entry past is = rw is refl

-- an entry that begins no session and settles no choice
pub choices_same : (id : ManifestId) (entry : Entry) (past : List Entry) → session_begun entry.point ≡ None → ((t : ℕ) → settles t entry.point ≡ false) → choices id (entry ∷ past) ≡ choices id past
unfolding choices
choices_same id entry past none other =
    ap (λ l. count_by (λ t. has_manifest id (pending_champions t (entry ∷ past))) l) (sessions_kept entry past none)
    ∙ count_alike (λ t. has_manifest id (pending_champions t (entry ∷ past))) (λ t. has_manifest id (pending_champions t past)) (sessions past)
    (λ t h. ap (has_manifest id) (pending_same t entry past (other t)))

-- the champions of a session's pending choice are exchanged
pub choices_exchanged : (rules : Rules) (id : ManifestId) (s : ℕ) (entry : Entry) (past : List Entry) → is_legal rules past ≡ true → has (begins s) past ≡ true
    → session_begun entry.point ≡ None → ((t : ℕ) → settles t entry.point ≡ eqb t s)
    → choices id (entry ∷ past) + one_if (has_manifest id (pending_champions s past)) ≡ choices id past + one_if (has_manifest id (unwrap_or (champions_chosen entry.point) []))
unfolding choices
choices_exchanged rules id s entry past legal begun none settled =
    let old = has_manifest id (pending_champions s past) in
    let new = has_manifest id (unwrap_or (champions_chosen entry.point) []) in
    let p = λ (t : ℕ). has_manifest id (pending_champions t (entry ∷ past)) in
    let r = λ (t : ℕ). has_manifest id (pending_champions t past) in
    let once = listed_once rules s past legal begun in
    let each : (t : ℕ) → In t (sessions past) → one_if (p t) + one_if (eqb s t && old) ≡ one_if (r t) + one_if (eqb s t && new) = λ t h.
    elim (cases_Bool (eqb s t)) [
      | inl same ↦
          let is : s ≡ t = eqb-true s t same in
          let here : p t ≡ new = ap (has_manifest id) (pending_one t entry past (settled t ∙ eq-eqb t s (sym is))) in
          let there : r t ≡ old = ap (λ n. has_manifest id (pending_champions n past)) (sym is) in
          rw (same, here, there) (let e : one_if new + one_if old ≡ one_if old + one_if new = omega arith in e)
      | inr other ↦
          let apart : eqb t s ≡ false = false_from_ne_true _ (λ same. both_ways _ other (eq-eqb s t (sym (eqb-true t s same)))) in
          let here : p t ≡ r t = ap (has_manifest id) (pending_same t entry past (settled t ∙ apart)) in
          rw (other, here) refl
    ] in
    let sum = balanced p (λ t. eqb s t && old) r (λ t. eqb s t && new) (sessions past) each in
    let first = ap (count_by p) (sessions_kept entry past none) in
    let second = count_and (eqb s) old (sessions past) once in
    let third = count_and (eqb s) new (sessions past) once in
    omega (arith, sum, first, second, third)

unbegun_none : (rules : Rules) (id : ManifestId) (s : ℕ) (past : List Entry) → is_legal rules past ≡ true → has (begins s) past ≡ false → has_manifest id (pending_champions s past) ≡ false
unbegun_none rules id s past legal unbegun = false_from_ne_true _ (λ champion. both_ways _ unbegun (pending_begun rules s id past legal champion))

-- a new session has no choice
pub choices_begun : (rules : Rules) (id : ManifestId) (s : ℕ) (entry : Entry) (past : List Entry) → is_legal rules past ≡ true → has (begins s) past ≡ false
    → session_begun entry.point ≡ Some s → ((t : ℕ) → settles t entry.point ≡ false) → choices id (entry ∷ past) ≡ choices id past
unfolding choices
choices_begun rules id s entry past legal unbegun is other =
    let p = λ (t : ℕ). has_manifest id (pending_champions t (entry ∷ past)) in
    ap (count_by p) (sessions_more s entry past is)
    ∙ count_cons p s (sessions past)
    ∙ ap (λ b. one_if b + count_by p (sessions past)) (ap (has_manifest id) (pending_same s entry past (other s)) ∙ unbegun_none rules id s past legal unbegun)
    ∙ (let e : 0 + count_by p (sessions past) ≡ count_by p (sessions past) = omega arith in e)
    ∙ count_alike p (λ t. has_manifest id (pending_champions t past)) (sessions past) (λ t h. ap (has_manifest id) (pending_same t entry past (other t)))
