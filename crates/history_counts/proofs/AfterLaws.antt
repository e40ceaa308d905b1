-- Counts after one entry more, by the kind of the entry.
use Rattle.std.proofs.Common.{◌≡◌, ℕ, ◌+◌, ◌<◌, ◌≤◌, Bool, true, false, ◌&&◌, ◌||◌, eqb, ltb, leb, List, [], ◌∷◌, length, reverse, slice_get, Option, Some, None, is_some, refl, sym, ap, ◌∙◌, subst, inl, inr, arith, eqb-true}
use mathlib.Core.List.{map}
use Rattle.std.specs.List.{All}
use Rattle.std.specs.Option.{unwrap_or}
use Rattle.std.proofs.lemmas.Bool.{both_ways, and_parts, cases_Bool, leb-true}
use Rattle.std.proofs.lemmas.List.{length-reverse}
use Rattle.std.proofs.lemmas.List.Sums.{count_by-le-length}
use Rattle.std.proofs.lemmas.Option.{slice_get_within}
use Rattle.ss_base.specs.declared.ids.ContainerId.{ContainerId}
use Rattle.ss_base.specs.declared.ids.ManifestId.{ManifestId}
use Rattle.ss_base.specs.declared.object.Object.{Object}
use Rattle.ss_base.specs.Ids.{same_manifest, has_manifest}
use Rattle.journal_entry.specs.declared.entry.Entry.{Entry}
use Rattle.journal_entry.specs.declared.entry.Point.{Point}
use Rattle.journal_entry.specs.declared.entry.Point.TheVariants.{Begin, Commit, Look}
use Rattle.journal_entry.specs.Weight.{weight}
use Rattle.history.specs.declared.rules.Rules.{Rules}
use Rattle.history.specs.Sessions.{session_begun, reading_begun, sessions, readings, commits, closes, has, is_retained, champions_chosen, pending_champions}
use Rattle.history.specs.Need.{commits_manifest, all_ended, reclaims}
use Rattle.history.specs.Legal.{is_allowed, unfinished_sessions, unfinished_readings, is_within, may_follow, is_legal}
use Rattle.history_laws.specs.EntryNumbers.{numbers_of, entry_at, manifest_of, committed_at, CommitThese}
use Rattle.pins_counts.specs.Counts.{Counted, use_number, hold_number, is_ready, is_gone, one_if}
use Rattle.history_counts.specs.CountsOf.{held, AreCountsOf}
use Rattle.history_counts.specs.InStep.{uses_held, Agrees, times, HasHolds}
use Rattle.ss_base.proofs.MemberLaws.{In, All-from_in}
use Rattle.history_laws.proofs.Allowed.{step}
use Rattle.history_laws.proofs.SessionLaws.{has_same, has_none, committed_begun, unfinished_from}
use Rattle.history_laws.proofs.NeedLaws.{chosen_somewhere, stands_retained}
use Rattle.history_laws.proofs.NumberLaws.{numbers_below}
use Rattle.history_laws.proofs.LiveLaws.{somewhere_committed}
use Rattle.history_counts.proofs.SessionHolds.{choices}
use Rattle.history_counts.proofs.ReadingHolds.{sights}
use Rattle.history_counts.proofs.HeldLaws.{is_kept, held_parts, held_none, kept_open, kept_retained}
use Rattle.history_counts.proofs.EndedLaws.{ended_other, all_same}
use Rattle.history_counts.proofs.UsesLaws.{uses_recount, agrees_more, agrees_still}

-- ---- bounds

one_at_most : (b : Bool) → one_if b ≤ 1
one_at_most true = omega arith
one_at_most false = omega arith

begins_one : (id : ManifestId) (point : Point) → one_if (is_some (session_begun point)) + (one_if (is_some (reading_begun point)) + one_if (commits_manifest id point)) ≤ 1
unfolding session_begun reading_begun commits_manifest
begins_one id (Begin name session) = let few = one_at_most (is_some session) in omega (arith, few)
begins_one id (Look name seen) = let few = one_at_most (is_some seen) in omega (arith, few)
begins_one id (Commit m content text chunks bytes fresh fresh_bytes uses) = let few = one_at_most (same_manifest id m) in omega (arith, few)
begins_one id _ = omega arith

sessions_length : (entry : Entry) (past : List Entry) → length (sessions (entry ∷ past)) ≡ one_if (is_some (session_begun entry.point)) + length (sessions past)
unfolding sessions
sessions_length entry past = by_result (session_begun entry.point) refl
  where
    by_result : (o : Option ℕ) → session_begun entry.point ≡ o → length (sessions (entry ∷ past)) ≡ one_if (is_some (session_begun entry.point)) + length (sessions past)
    by_result None e = rw e (omega arith)
    by_result (Some s) e = rw e (omega arith)

readings_length : (entry : Entry) (past : List Entry) → length (readings (entry ∷ past)) ≡ one_if (is_some (reading_begun entry.point)) + length (readings past)
unfolding readings
readings_length entry past = elim (reading_begun entry.point) as (λ o. reading_begun entry.point ≡ o → length (readings (entry ∷ past)) ≡ one_if (is_some (reading_begun entry.point)) + length (readings past)) [
  | None ↦ λ e. rw e (omega arith)
  | Some s ↦ λ e. rw e (omega arith)
] refl

either_one : (a b : Bool) → one_if (a || b) ≤ one_if a + one_if b
either_one true b = omega arith
either_one false b = omega arith

has_more : (id : ManifestId) (entry : Entry) (past : List Entry) → one_if (has (commits_manifest id) (entry ∷ past)) ≤ one_if (commits_manifest id entry.point) + one_if (has (commits_manifest id) past)
unfolding has
has_more id entry past = either_one (commits_manifest id entry.point) (has (commits_manifest id) past)

lengths : (id : ManifestId) (past : List Entry) → length (sessions past) + (length (readings past) + one_if (has (commits_manifest id) past)) ≤ length past
unfolding sessions readings
lengths id [] = let none = ap one_if (has_none (commits_manifest id)) in omega (arith, none)
lengths id (entry ∷ past) =
    let s = sessions_length entry past in
    let r = readings_length entry past in
    let c = has_more id entry past in
    let one = begins_one id entry.point in
    let rest = lengths id past in
    omega (arith, s, r, c, one, rest)

choices_few : (id : ManifestId) (past : List Entry) → choices id past ≤ length (sessions past)
unfolding choices
choices_few id past = count_by-le-length (λ (t : ℕ). has_manifest id (pending_champions t past)) (sessions past)

sights_few : (s : ℕ) (past : List Entry) → sights s past ≤ length (readings past)
unfolding sights
sights_few s past = count_by-le-length _ (readings past)

-- no manifest is held more often than there are entries
pub held_bound : (id : ManifestId) (past : List Entry) → held id past ≤ length past
held_bound id past = elim (cases_Bool (has (commits_manifest id) past)) [
  | inl committed ↦
      let parts = held_parts id past committed in
      let kept = one_at_most (is_kept id.session past) in
      let first = choices_few id past in
      let second = sights_few id.session past in
      let all = lengths id past in
      let one = ap one_if committed in
      omega (arith, parts, kept, first, second, all, one)
  | inr none ↦ let nothing = held_none id past none in omega (arith, nothing)
]

pub uses_bound : (counted : Counted) (c : ContainerId) (past : List Entry) → Agrees counted past → use_number counted c ≤ length past
uses_bound counted c past agrees =
    let few = count_by-le-length (λ (e : Entry). uses_held counted c e.point) past in
    let is = agrees.uses_agree c in
    omega (arith, few, is)

-- a legal history has at most as many entries as its rules allow
pub legal_length : (rules : Rules) (entry : Entry) (past : List Entry) → is_legal rules (entry ∷ past) ≡ true → length past + 1 ≤ rules.limits.entries
unfolding is_legal may_follow is_within
legal_length rules entry past legal =
    let all = entry ∷ past in
    let many = leb (length all + unfinished_sessions all + unfinished_readings all) rules.limits.entries in
    let heavy = leb (weight all) rules.limits.weight in
    let follow : (is_allowed rules past entry.author entry.point && (many && heavy)) ≡ true = (and_parts (is_legal rules past) (is_allowed rules past entry.author entry.point && (many && heavy)) legal).1 in
    let within : (many && heavy) ≡ true = (and_parts (is_allowed rules past entry.author entry.point) (many && heavy) follow).1 in
    let few = leb-true (length all + unfinished_sessions all + unfinished_readings all) rules.limits.entries (and_parts many heavy within).0 in
    omega (arith, few)

-- ---- what may be pinned

kept_held : (id : ManifestId) (past : List Entry) → has (commits_manifest id) past ≡ true → is_kept id.session past ≡ true → 0 < held id past
kept_held id past committed kept =
    let parts = held_parts id past committed in
    let one = ap one_if kept in
    omega (arith, parts, one)

-- a champion that is chosen is held
pub chosen_held : (rules : Rules) (id : ManifestId) (entry : Entry) (past : List Entry) → is_legal rules (entry ∷ past) ≡ true → has_manifest id (unwrap_or (champions_chosen entry.point) []) ≡ true → 0 < held id past
chosen_held rules id entry past legal listed =
    let now = step rules entry past legal in
    let at = chosen_somewhere rules past entry.author id entry.point now.allowed listed in
    let committed = somewhere_committed rules id past now.legal at in
    kept_held id past committed (elim (cases_Bool (has (closes id.session) past)) [
      | inl closed ↦ kept_retained id.session past (stands_retained rules id past now.legal closed at)
      | inr open_still ↦ kept_open id.session past (unfinished_from id.session past (committed_begun rules id past now.legal committed) open_still)
    ])

-- so is a manifest of a retained stream
pub retained_held : (id : ManifestId) (s : ℕ) (past : List Entry) → is_retained s past ≡ true → 0 < one_if (has (commits_manifest id) past && eqb s id.session) → 0 < held id past
retained_held id s past retained some = elim (cases_Bool (has (commits_manifest id) past && eqb s id.session)) [
  | inl both ↦
      let parts = and_parts (has (commits_manifest id) past) (eqb s id.session) both in
      kept_held id past parts.0 (kept_retained id.session past (subst (λ n. is_retained n past ≡ true) (eqb-true s id.session parts.1) retained))
  | inr none ↦ absurd (let nothing = ap one_if none in omega (arith, some, nothing))
]

-- ---- numbers of entries

these_in : (n : ℕ) (numbers : List ℕ) (ids : List ManifestId) (past : List Entry) → CommitThese numbers ids past → In n numbers → (id : ManifestId) × (committed_at past n ≡ Some id)
unfolding CommitThese
these_in n [] ids past these h = absurd h
these_in n (m ∷ numbers) [] past these h = absurd (cc)
these_in n (m ∷ numbers) (id ∷ ids) past these (inl same) = (id, (let first : committed_at past m ≡ Some id = cc in ap (committed_at past) (sym same) ∙ first))
these_in n (m ∷ numbers) (id ∷ ids) past these (inr later) = these_in n numbers ids past (let others : map (committed_at past) numbers ≡ map (λ i. Some i) ids = cc in others) later

committed_within : (n : ℕ) (past : List Entry) (id : ManifestId) → committed_at past n ≡ Some id → n < length past
unfolding committed_at entry_at
committed_within n past id is = elim (slice_get (reverse past) n) as (λ (o : Option Entry). slice_get (reverse past) n ≡ o → n < length past) [
  | None ↦ λ e. absurd (let at = rw e at is in cc)
  | Some x ↦ λ e. (let below = slice_get_within (reverse past) n x e in let same = length-reverse past in omega (arith, below, same))
] refl

pub within_these : (numbers : List ℕ) (ids : List ManifestId) (before : List Entry) → CommitThese numbers ids (reverse before) → All (λ n. n < length before) numbers
within_these numbers ids before these = All-from_in (λ n. n < length before) numbers
    (λ n h. (let at = these_in n numbers ids (reverse before) these h in let below = committed_within n (reverse before) at.0 at.1 in let same = length-reverse before in omega (arith, below, same)))

pub within_stream : (numbers : List ℕ) (s : ℕ) (before : List Entry) → numbers ≡ numbers_of (commits s) (reverse before) → All (λ n. n < length before) numbers
within_stream numbers s before is = All-from_in (λ n. n < length before) numbers
    (λ n h. (let below = numbers_below (commits s) (reverse before) n (subst (λ (l : List ℕ). In n l) is h) in let same = length-reverse before in omega (arith, below, same)))

-- ---- after an entry

-- an entry that begins, commits and closes nothing, and reclaims nothing
pub record IsMild (point : Point) : Type 0 where
  pub begun : session_begun point ≡ None
  pub commits_none : manifest_of point ≡ None
  pub commits_for : (s : ℕ) → commits s point ≡ false
  pub closed : (s : ℕ) → closes s point ≡ false
  pub reclaimed : (q : Object) → reclaims q point ≡ false

pub mild_sessions : (entry : Entry) (past : List Entry) → IsMild entry.point → all_ended (entry ∷ past) ≡ all_ended past
mild_sessions entry past mild = all_same entry past mild.begun (λ s. ended_other s entry past (mild.closed s) (λ does. absurd (both_ways _ (mild.commits_for s) does)))

pub made : (new : Counted) (past : List Entry) → ((id : ManifestId) → hold_number new id ≡ held id past) → Agrees new past → new.sessions ≡ all_ended past → ((q : Object) → is_gone new q ≡ has (reclaims q) past) → AreCountsOf new past
made new past holds agrees sessions gone = record {
  holds_are = holds;
  uses_are = λ c. agrees.uses_agree c ∙ uses_recount new c past holds;
  sessions_are = sessions;
  gone_are = gone;
  ready_are = agrees.ready_are;
}

gone_same : (counted new : Counted) (entry : Entry) (past : List Entry) → AreCountsOf counted past → new.gone ≡ counted.gone → ((q : Object) → reclaims q entry.point ≡ false) → (q : Object) → is_gone new q ≡ has (reclaims q) (entry ∷ past)
gone_same counted new entry past are gone other q = ap (λ g. is_gone (record counted { gone = g }) q) gone ∙ are.gone_are q ∙ sym (has_same (reclaims q) entry past (other q))

-- manifests are pinned
pub after_pins : (counted new : Counted) (entry : Entry) (past : List Entry) (numbers : List ℕ) → AreCountsOf counted past → IsMild entry.point → ((id : ManifestId) → held id (entry ∷ past) ≡ held id past + times numbers past id)
    → Agrees new past → HasHolds (times numbers past) counted new → AreCountsOf new (entry ∷ past)
after_pins counted new entry past numbers are mild law agrees holds =
    made new (entry ∷ past) (λ id. (let a = holds.holds id in let b = are.holds_are id in let l = law id in omega (arith, a, b, l)))
    (agrees_more new entry past mild.commits_none agrees)
    (holds.sessions ∙ are.sessions_are ∙ sym (mild_sessions entry past mild))
    (gone_same counted new entry past are holds.gone mild.reclaimed)

-- manifests are released
pub after_releases : (counted new : Counted) (entry : Entry) (past : List Entry) (numbers : List ℕ) → AreCountsOf counted past → IsMild entry.point → ((id : ManifestId) → held id (entry ∷ past) + times numbers past id ≡ held id past)
    → Agrees new past → HasHolds (times numbers past) new counted → AreCountsOf new (entry ∷ past)
after_releases counted new entry past numbers are mild law agrees holds =
    made new (entry ∷ past) (λ id. (let a = holds.holds id in let b = are.holds_are id in let l = law id in omega (arith, a, b, l)))
    (agrees_more new entry past mild.commits_none agrees)
    (sym holds.sessions ∙ are.sessions_are ∙ sym (mild_sessions entry past mild))
    (gone_same counted new entry past are (sym holds.gone) mild.reclaimed)

-- nothing is counted
pub after_mild : (counted : Counted) (entry : Entry) (past : List Entry) → AreCountsOf counted past → IsMild entry.point → Agrees counted past → ((id : ManifestId) → held id (entry ∷ past) ≡ held id past) → AreCountsOf counted (entry ∷ past)
after_mild counted entry past are mild agrees law =
    made counted (entry ∷ past) (λ id. are.holds_are id ∙ sym (law id))
    (agrees_more counted entry past mild.commits_none agrees)
    (are.sessions_are ∙ sym (mild_sessions entry past mild))
    (gone_same counted counted entry past are refl mild.reclaimed)

-- the counts have changed in what they say of sessions and of objects that are gone
pub record HasNumbersOf (counted new : Counted) : Type 0 where
  pub holds : (id : ManifestId) → hold_number new id ≡ hold_number counted id
  pub uses : (c : ContainerId) → use_number new c ≡ use_number counted c
  pub ready : (q : Object) → is_ready new q ≡ is_ready counted q

pub agrees_numbers : (counted new : Counted) (past : List Entry) → HasNumbersOf counted new → Agrees counted past → Agrees new past
agrees_numbers counted new past same agrees = agrees_still counted new past agrees (λ id committed. ap (ltb 0) (same.holds id)) same.uses same.ready

-- what an entry that commits nothing does to sessions and to objects that are gone
pub after_other : (counted new : Counted) (entry : Entry) (past : List Entry) → AreCountsOf counted past → Agrees counted past → manifest_of entry.point ≡ None → HasNumbersOf counted new → ((id : ManifestId) → held id (entry ∷ past) ≡ held id past)
    → new.sessions ≡ all_ended (entry ∷ past) → ((q : Object) → is_gone new q ≡ has (reclaims q) (entry ∷ past)) → AreCountsOf new (entry ∷ past)
after_other counted new entry past are agrees none same law sessions gone =
    made new (entry ∷ past) (λ id. same.holds id ∙ are.holds_are id ∙ sym (law id))
    (agrees_more new entry past none (agrees_numbers counted new past same agrees)) sessions gone

-- the champions of a choice and a stream are released
pub after_both : (counted mid new : Counted) (entry : Entry) (past : List Entry) (champions stream : List ℕ) → ((id : ManifestId) → held id (entry ∷ past) + (times champions past id + times stream past id) ≡ held id past)
    → ((id : ManifestId) → hold_number counted id ≡ held id past) → manifest_of entry.point ≡ None → Agrees new past
    → ((id : ManifestId) → hold_number counted id ≡ hold_number mid id + times champions past id) → ((id : ManifestId) → hold_number mid id ≡ hold_number new id + times stream past id)
    → new.sessions ≡ all_ended (entry ∷ past) → ((q : Object) → is_gone new q ≡ has (reclaims q) (entry ∷ past)) → AreCountsOf new (entry ∷ past)
after_both counted mid new entry past champions stream law holds none agrees first second sessions gone =
    made new (entry ∷ past) (λ id. (let a = first id in let b = second id in let d = holds id in let l = law id in omega (arith, a, b, d, l)))
    (agrees_more new entry past none agrees) sessions gone
