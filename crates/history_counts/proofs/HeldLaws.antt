-- How often a manifest is held, one entry later: a law for each kind of entry.
use Rattle.std.proofs.Common.{◌≡◌, ℕ, ◌+◌, Bool, true, false, ◌&&◌, ◌||◌, not, eqb, cond, List, [], ◌∷◌, Option, Some, None, refl, sym, ap, ◌∙◌, subst, inl, inr, arith, eqb-true}
use Rattle.std.specs.Option.{unwrap_or, is_some}
use Rattle.std.proofs.lemmas.Bool.{false≢true, both_ways, and_parts, or_left, or_right, false_from_ne_true, cases_Bool, eq-eqb, not-true}
use Rattle.ss_base.specs.declared.ids.ContainerId.{ContainerId}
use Rattle.ss_base.specs.declared.ids.ManifestId.{ManifestId}
use Rattle.ss_base.specs.declared.name.Name.{Name}
use Rattle.ss_base.specs.Ids.{has_manifest, same_manifest}
use Rattle.journal_entry.specs.declared.entry.Entry.{Entry}
use Rattle.journal_entry.specs.declared.entry.Seen.{Seen}
use Rattle.journal_entry.specs.declared.entry.Point.{Point}
use Rattle.journal_entry.specs.declared.entry.Point.TheVariants.{Begin, Choose, Commit, Finish, Abort, Delete, Look, Done}
use Rattle.history.specs.declared.rules.Rules.{Rules}
use Rattle.history.specs.Sessions.{is_number, session_begun, session_count, begins, chooses, commits, finishes, aborts, closes, deletes, settles, has, is_unfinished, is_retained, champions_chosen, is_pending, pending, pending_champions, sessions, readings, is_reading, reading_begun, ends}
use Rattle.history.specs.Need.{commits_manifest}
use Rattle.history.specs.Legal.{is_allowed, is_legal}
use Rattle.history_laws.specs.Recount.{pins, holds}
use Rattle.pins_counts.specs.Counts.{one_if}
use Rattle.history_counts.specs.CountsOf.{held}
use Rattle.history_laws.proofs.Allowed.{step, choose_says, commit_says, begins_next, finishes_open, aborts_open, deletes_retained}
use Rattle.history_laws.proofs.SessionLaws.{has_same, has_now, has_not, has_older, unfinished_is, unfinished_undeleted, closed_not_unfinished, retained_parts, retained_from, finished_closed, committed_begun, begun_below}
use Rattle.history_laws.proofs.NeedLaws.{pending_one, sight_retained}
use Rattle.history_laws.proofs.OnceLaws.{never_twice}
use Rattle.ss_base.proofs.MemberLaws.{In, filter_map_in, in_filter_map}
use Rattle.ss_base.proofs.IdLaws.{same_manifest-self}
use Rattle.history_counts.proofs.CountLaws.{count_alike, count_never}
use Rattle.history_laws.proofs.LiveLaws.{pending_committed}
use Rattle.history_counts.proofs.SessionHolds.{choices, choices_same, choices_exchanged, choices_begun}
use Rattle.history_counts.proofs.ReadingHolds.{sights, sights_same, sights_begun, sights_ended, IsReadingOf}

-- whether a session's stream is being written or is retained
unfoldable pub is_kept : ℕ → List Entry → Bool
is_kept session past = is_unfinished session past || is_retained session past

pub held_parts : (id : ManifestId) (past : List Entry) → has (commits_manifest id) past ≡ true → held id past ≡ one_if (is_kept id.session past) + (choices id past + sights id.session past)
unfolding held holds pins choices sights is_kept
held_parts id past committed = ap (λ b. cond b (holds id past) 0) committed

pub held_none : (id : ManifestId) (past : List Entry) → has (commits_manifest id) past ≡ false → held id past ≡ 0
unfolding held
held_none id past none = ap (λ b. cond b (holds id past) 0) none

-- how often an entry makes a manifest held, and how often not held, where it commits another or none
pub held_changed : (id : ManifestId) (entry : Entry) (past : List Entry) (gain loss : ℕ) → commits_manifest id entry.point ≡ false
    → (has (commits_manifest id) past ≡ true → one_if (is_kept id.session (entry ∷ past)) + (choices id (entry ∷ past) + sights id.session (entry ∷ past)) + loss
    ≡ one_if (is_kept id.session past) + (choices id past + sights id.session past) + gain)
    → (has (commits_manifest id) past ≡ false → (gain ≡ 0) × (loss ≡ 0)) → held id (entry ∷ past) + loss ≡ held id past + gain
held_changed id entry past gain loss other changed none = elim (cases_Bool (has (commits_manifest id) past)) [
  | inl committed ↦
      let before = held_parts id past committed in
      let after = held_parts id (entry ∷ past) (has_same (commits_manifest id) entry past other ∙ committed) in
      let change = changed committed in
      omega (arith, before, after, change)
  | inr uncommitted ↦
      let before = held_none id past uncommitted in
      let after = held_none id (entry ∷ past) (has_same (commits_manifest id) entry past other ∙ uncommitted) in
      let parts = none uncommitted in
      omega (arith, before, after, parts.0, parts.1)
]

pub kept_same : (s : ℕ) (entry : Entry) (past : List Entry) → begins s entry.point ≡ false → finishes s entry.point ≡ false → aborts s entry.point ≡ false → deletes s entry.point ≡ false → is_kept s (entry ∷ past) ≡ is_kept s past
unfolding is_kept is_unfinished is_retained closes
kept_same s entry past unbegun unfinished unaborted undeleted =
    let unclosed : closes s entry.point ≡ false = (λ i. unfinished i || unaborted i) in
    λ i. (has_same (begins s) entry past unbegun i && not (has_same (closes s) entry past unclosed i)) || (has_same (finishes s) entry past unfinished i && not (has_same (deletes s) entry past undeleted i))

-- an entry that does nothing to what is held
pub record IsQuiet (point : Point) : Type 0 where
  pub session : session_begun point ≡ None
  pub reading : reading_begun point ≡ None
  pub settled : (s : ℕ) → settles s point ≡ false
  pub finished : (s : ℕ) → finishes s point ≡ false
  pub aborted : (s : ℕ) → aborts s point ≡ false
  pub deleted : (s : ℕ) → deletes s point ≡ false
  pub ended : (r : ℕ) → ends r point ≡ false
  pub committed : (id : ManifestId) → commits_manifest id point ≡ false

begins_none : (s : ℕ) (point : Point) → session_begun point ≡ None → begins s point ≡ false
unfolding begins
begins_none s point none = ap (is_number s) none

pub held_quiet : (id : ManifestId) (entry : Entry) (past : List Entry) → IsQuiet entry.point → held id (entry ∷ past) ≡ held id past
held_quiet id entry past quiet =
    let s = id.session in
    let all = held_changed id entry past 0 0 (quiet.committed id)
    (λ committed.
    let kept = ap one_if (kept_same s entry past (begins_none s entry.point quiet.session) (quiet.finished s) (quiet.aborted s) (quiet.deleted s)) in
    let choices_are = choices_same id entry past quiet.session quiet.settled in
    let sights_are = sights_same s entry past quiet.reading quiet.ended in
    omega (arith, kept, choices_are, sights_are))
    (λ none. (refl, refl)) in
    omega (arith, all)

-- ---- sessions

begins_is : (t s : ℕ) (name : List ℕ) (point : Point) → point ≡ Begin name (Some s) → begins t point ≡ eqb t s
unfolding begins session_begun
begins_is t s name point is = ap (begins t) is

-- a new session
pub held_begin : (rules : Rules) (id : ManifestId) (name : List ℕ) (s : ℕ) (entry : Entry) (past : List Entry) → is_legal rules (entry ∷ past) ≡ true → entry.point ≡ Begin name (Some s) → held id (entry ∷ past) ≡ held id past
unfolding session_begun reading_begun settles chooses commits finishes aborts deletes ends commits_manifest
held_begin rules id name s entry past legal is =
    let now = step rules entry past legal in
    let next : s ≡ session_count past = begins_next rules past entry.author s entry.point now.allowed (begins_is s s name entry.point is ∙ eq-eqb s s refl) in
    let unbegun : has (begins s) past ≡ false = false_from_ne_true _ (λ begun. let below = begun_below rules s past now.legal begun in absurd (omega (arith, below, next))) in
    let t = id.session in
    let all = held_changed id entry past 0 0 (ap (commits_manifest id) is)
    (λ committed.
    let other : begins t entry.point ≡ false = false_from_ne_true _ (λ begun.
    let same : t ≡ s = eqb-true t s (sym (begins_is t s name entry.point is) ∙ begun) in
    both_ways _ unbegun (subst (λ n. has (begins n) past ≡ true) same (committed_begun rules id past now.legal committed))) in
    let kept = ap one_if (kept_same t entry past other (ap (finishes t) is) (ap (aborts t) is) (ap (deletes t) is)) in
    let choices_are = choices_begun rules id s entry past now.legal unbegun (ap session_begun is) (λ n. ap (settles n) is) in
    let sights_are = sights_same t entry past (ap reading_begun is) (λ r. ap (ends r) is) in
    omega (arith, kept, choices_are, sights_are))
    (λ none. (refl, refl)) in
    omega (arith, all)

-- a stream that is whole is retained
pub held_finish : (rules : Rules) (id : ManifestId) (s containers : ℕ) (entry : Entry) (past : List Entry) → is_legal rules (entry ∷ past) ≡ true → entry.point ≡ Finish s containers → held id (entry ∷ past) ≡ held id past
unfolding session_begun reading_begun settles chooses commits finishes aborts deletes ends commits_manifest begins is_kept
held_finish rules id s containers entry past legal is =
    let now = step rules entry past legal in
    let t = id.session in
    let unfinished : is_unfinished s past ≡ true = finishes_open rules past entry.author s entry.point now.allowed (ap (finishes s) is ∙ eq-eqb s s refl) in
    let kept : is_kept t (entry ∷ past) ≡ is_kept t past = elim (cases_Bool (eqb t s)) [
      | inl same ↦
          let here : t ≡ s = eqb-true t s same in
          let open_now : is_unfinished t past ≡ true = subst (λ n. is_unfinished n past ≡ true) (sym here) unfinished in
          let undeleted : has (deletes t) (entry ∷ past) ≡ false = has_not (deletes t) entry past (ap (deletes t) is) (unfinished_undeleted rules t past now.legal open_now) in
          let retained : is_retained t (entry ∷ past) ≡ true = retained_from t (entry ∷ past) (has_now (finishes t) entry past (ap (finishes t) is ∙ same)) undeleted in
          or_right (is_unfinished t (entry ∷ past)) (is_retained t (entry ∷ past)) retained ∙ sym (or_left (is_unfinished t past) (is_retained t past) open_now)
      | inr other ↦ kept_same t entry past (ap (begins t) is) (ap (finishes t) is ∙ other) (ap (aborts t) is) (ap (deletes t) is)
    ] in
    let all = held_changed id entry past 0 0 (ap (commits_manifest id) is)
    (λ committed.
    let kept_is = ap one_if kept in
    let choices_are = choices_same id entry past (ap session_begun is) (λ n. ap (settles n) is) in
    let sights_are = sights_same t entry past (ap reading_begun is) (λ r. ap (ends r) is) in
    omega (arith, kept_is, choices_are, sights_are))
    (λ none. (refl, refl)) in
    omega (arith, all)

no_choice : (o : Option (List ManifestId)) → is_some o ≡ false → unwrap_or o [] ≡ []
no_choice None e = refl
no_choice (Some ids) e = absurd (false≢true (sym e))

none_pending : (s : ℕ) (past : List Entry) → is_pending s past ≡ false → pending_champions s past ≡ []
unfolding is_pending pending_champions
none_pending s past none = no_choice (pending s past) none

or_none : (b : Bool) → (b || (false || false)) ≡ b
or_none true = refl
or_none false = refl

or_some : (b : Bool) → (false || (b || false)) ≡ b
or_some true = refl
or_some false = refl

none_listed : (id : ManifestId) → has_manifest id [] ≡ false
unfolding has_manifest
none_listed id = refl

choice_is_first : (rules : Rules) (past : List Entry) (author s : ℕ) (hooks : List Name) (champions : List ManifestId) → is_allowed rules past author (Choose s hooks champions) ≡ true → is_pending s past ≡ false
unfolding is_allowed
choice_is_first rules past author s hooks champions allowed = not-true (is_pending s past) (and_parts _ _ (and_parts _ _ allowed).1).0

-- the champions of a choice
pub held_choose : (rules : Rules) (id : ManifestId) (s : ℕ) (hooks : List Name) (champions : List ManifestId) (entry : Entry) (past : List Entry) → is_legal rules (entry ∷ past) ≡ true → entry.point ≡ Choose s hooks champions
    → held id (entry ∷ past) ≡ held id past + one_if (has_manifest id champions)
unfolding session_begun reading_begun settles chooses commits finishes aborts deletes ends commits_manifest begins champions_chosen
held_choose rules id s hooks champions entry past legal is =
    let now = step rules entry past legal in
    let t = id.session in
    let allowed : is_allowed rules past entry.author (Choose s hooks champions) ≡ true = subst (λ (p : Point). is_allowed rules past entry.author p ≡ true) is now.allowed in
    let said = choose_says rules past entry.author s hooks champions allowed in
    let begun = (unfinished_is s past said.unfinished).0 in
    let unchosen = choice_is_first rules past entry.author s hooks champions allowed in
    let nothing : has_manifest id (pending_champions s past) ≡ false = ap (has_manifest id) (none_pending s past unchosen) ∙ none_listed id in
    let settled : (n : ℕ) → settles n entry.point ≡ eqb n s = λ n. ap (settles n) is ∙ or_none (eqb n s) in
    let chosen : unwrap_or (champions_chosen entry.point) [] ≡ champions = ap (λ p. unwrap_or (champions_chosen p) []) is in
    let other : commits_manifest id entry.point ≡ false = ap (commits_manifest id) is in
    let all = held_changed id entry past (one_if (has_manifest id champions)) 0 other
    (λ committed.
    let kept = ap one_if (kept_same t entry past (ap (begins t) is) (ap (finishes t) is) (ap (aborts t) is) (ap (deletes t) is)) in
    let exchanged = choices_exchanged rules id s entry past now.legal begun (ap session_begun is) settled in
    let gone = ap one_if nothing in
    let gained = ap (λ ids. one_if (has_manifest id ids)) chosen in
    let sights_are = sights_same t entry past (ap reading_begun is) (λ r. ap (ends r) is) in
    omega (arith, kept, exchanged, gone, gained, sights_are))
    (λ none.
    let unlisted : has_manifest id champions ≡ false = false_from_ne_true _ (λ listed.
    let champion : has_manifest id (pending_champions s (entry ∷ past)) ≡ true = ap (has_manifest id) (pending_one s entry past (settled s ∙ eq-eqb s s refl) ∙ chosen) ∙ listed in
    both_ways _ (has_same (commits_manifest id) entry past other ∙ none) (pending_committed rules s id (entry ∷ past) legal champion)) in
    (ap one_if unlisted, refl)) in
    omega (arith, all)

lost_champion : (rules : Rules) (id : ManifestId) (s : ℕ) (past : List Entry) → is_legal rules past ≡ true → has (commits_manifest id) past ≡ false → one_if (has_manifest id (pending_champions s past)) ≡ 0
lost_champion rules id s past legal none = ap one_if (false_from_ne_true (has_manifest id (pending_champions s past)) (λ listed. both_ways _ none (pending_committed rules s id past legal listed)))

-- a Commit ends its session's choice
pub held_commit : (rules : Rules) (id m : ManifestId) (content text : Name) (chunks bytes fresh fresh_bytes : ℕ) (uses : List ContainerId) (entry : Entry) (past : List Entry) → is_legal rules (entry ∷ past) ≡ true
    → entry.point ≡ Commit m content text chunks bytes fresh fresh_bytes uses → same_manifest id m ≡ false
    → held id (entry ∷ past) + one_if (has_manifest id (pending_champions m.session past)) ≡ held id past
unfolding session_begun reading_begun settles chooses commits finishes aborts deletes ends commits_manifest begins champions_chosen
held_commit rules id m content text chunks bytes fresh fresh_bytes uses entry past legal is apart =
    let now = step rules entry past legal in
    let t = id.session in
    let s = m.session in
    let allowed : is_allowed rules past entry.author (Commit m content text chunks bytes fresh fresh_bytes uses) ≡ true = subst (λ (p : Point). is_allowed rules past entry.author p ≡ true) is now.allowed in
    let said = commit_says rules past entry.author m content text chunks bytes fresh fresh_bytes uses allowed in
    let begun = (unfinished_is s past said.unfinished).0 in
    let settled : (n : ℕ) → settles n entry.point ≡ eqb n s = λ n. ap (settles n) is ∙ or_some (eqb n s) in
    let chosen : unwrap_or (champions_chosen entry.point) [] ≡ [] = ap (λ p. unwrap_or (champions_chosen p) []) is in
    let all = held_changed id entry past 0 (one_if (has_manifest id (pending_champions s past))) (ap (commits_manifest id) is ∙ apart)
    (λ committed.
    let kept = ap one_if (kept_same t entry past (ap (begins t) is) (ap (finishes t) is) (ap (aborts t) is) (ap (deletes t) is)) in
    let exchanged = choices_exchanged rules id s entry past now.legal begun (ap session_begun is) settled in
    let gained = ap one_if (ap (has_manifest id) chosen ∙ none_listed id) in
    let sights_are = sights_same t entry past (ap reading_begun is) (λ r. ap (ends r) is) in
    omega (arith, kept, exchanged, gained, sights_are))
    (λ none. (refl, lost_champion rules id s past now.legal none)) in
    omega (arith, all)

-- ---- streams that are given up

-- what was kept and is kept no more
pub kept_dropped : (s t : ℕ) (entry : Entry) (past : List Entry) → is_kept s past ≡ true → is_kept s (entry ∷ past) ≡ false → (eqb s t ≡ false → is_kept t (entry ∷ past) ≡ is_kept t past)
    → one_if (is_kept t (entry ∷ past)) + one_if (eqb s t) ≡ one_if (is_kept t past)
kept_dropped s t entry past before after others = elim (cases_Bool (eqb s t)) [
  | inl same ↦
      let here : s ≡ t = eqb-true s t same in
      let was = ap one_if (subst (λ n. is_kept n past ≡ true) here before) in
      let is = ap one_if (subst (λ n. is_kept n (entry ∷ past) ≡ false) here after) in
      let one = ap one_if same in
      omega (arith, was, is, one)
  | inr other ↦
      let unchanged = ap one_if (others other) in
      let none = ap one_if other in
      omega (arith, unchanged, none)
]

turned : (a b : ℕ) → eqb a b ≡ false → eqb b a ≡ false
turned a b other = false_from_ne_true _ (λ same. both_ways _ other (eq-eqb a b (sym (eqb-true b a same))))

unkept : (s : ℕ) (past : List Entry) → is_unfinished s past ≡ false → is_retained s past ≡ false → is_kept s past ≡ false
unfolding is_kept
unkept s past unfinished retained = λ i. unfinished i || retained i

unretained : (s : ℕ) (past : List Entry) → has (finishes s) past ≡ false → is_retained s past ≡ false
unretained s past unfinished = false_from_ne_true _ (λ retained. both_ways _ unfinished (retained_parts s past retained).0)

pub kept_open : (s : ℕ) (past : List Entry) → is_unfinished s past ≡ true → is_kept s past ≡ true
unfolding is_kept
kept_open s past open_now = or_left (is_unfinished s past) (is_retained s past) open_now

pub kept_retained : (s : ℕ) (past : List Entry) → is_retained s past ≡ true → is_kept s past ≡ true
unfolding is_kept
kept_retained s past retained = or_right (is_unfinished s past) (is_retained s past) retained

no_more : (a b : Bool) → a ≡ false → one_if (a && b) ≡ 0
no_more a b e = ap (λ c. one_if (c && b)) e

-- an aborted session: its manifests, and the champions of its choice
pub held_abort : (rules : Rules) (id : ManifestId) (s containers texts : ℕ) (entry : Entry) (past : List Entry) → is_legal rules (entry ∷ past) ≡ true → entry.point ≡ Abort s containers texts
    → held id (entry ∷ past) + (one_if (has_manifest id (pending_champions s past)) + one_if (has (commits_manifest id) past && eqb s id.session)) ≡ held id past
unfolding session_begun reading_begun settles chooses commits finishes aborts deletes ends commits_manifest begins champions_chosen closes
held_abort rules id s containers texts entry past legal is =
    let now = step rules entry past legal in
    let t = id.session in
    let here : aborts s entry.point ≡ true = ap (aborts s) is ∙ eq-eqb s s refl in
    let unfinished : is_unfinished s past ≡ true = aborts_open rules past entry.author s entry.point now.allowed here in
    let begun = (unfinished_is s past unfinished).0 in
    let closed : has (closes s) (entry ∷ past) ≡ true = has_now (closes s) entry past (ap (closes s) is ∙ eq-eqb s s refl) in
    let unended : has (finishes s) past ≡ false = false_from_ne_true _ (λ ended. both_ways _ (unfinished_is s past unfinished).1 (finished_closed s past ended)) in
    let dropped : is_kept s (entry ∷ past) ≡ false = unkept s (entry ∷ past) (closed_not_unfinished s (entry ∷ past) closed) (unretained s (entry ∷ past) (has_not (finishes s) entry past (ap (finishes s) is) unended)) in
    let settled : (n : ℕ) → settles n entry.point ≡ eqb n s = λ n. ap (settles n) is in
    let chosen : unwrap_or (champions_chosen entry.point) [] ≡ [] = ap (λ p. unwrap_or (champions_chosen p) []) is in
    let all = held_changed id entry past 0 (one_if (has_manifest id (pending_champions s past)) + one_if (has (commits_manifest id) past && eqb s t)) (ap (commits_manifest id) is)
    (λ committed.
    let kept = kept_dropped s t entry past (kept_open s past unfinished) dropped (λ other. kept_same t entry past (ap (begins t) is) (ap (finishes t) is) (ap (aborts t) is ∙ turned s t other) (ap (deletes t) is)) in
    let exchanged = choices_exchanged rules id s entry past now.legal begun (ap session_begun is) settled in
    let gained = ap one_if (ap (has_manifest id) chosen ∙ none_listed id) in
    let sights_are = sights_same t entry past (ap reading_begun is) (λ r. ap (ends r) is) in
    let mine = ap (λ b. one_if (b && eqb s t)) committed in
    omega (arith, kept, exchanged, gained, sights_are, mine))
    (λ none.
    let first = lost_champion rules id s past now.legal none in
    let second = no_more (has (commits_manifest id) past) (eqb s t) none in
    (refl, omega (arith, first, second))) in
    omega (arith, all)

-- a deleted stream: its session's manifests
pub held_delete : (rules : Rules) (id : ManifestId) (name : List ℕ) (s : ℕ) (entry : Entry) (past : List Entry) → is_legal rules (entry ∷ past) ≡ true → entry.point ≡ Delete name (Some s)
    → held id (entry ∷ past) + one_if (has (commits_manifest id) past && eqb s id.session) ≡ held id past
unfolding session_begun reading_begun settles chooses commits finishes aborts deletes ends commits_manifest begins closes is_retained
held_delete rules id name s entry past legal is =
    let now = step rules entry past legal in
    let t = id.session in
    let here : deletes s entry.point ≡ true = ap (deletes s) is ∙ eq-eqb s s refl in
    let retained : is_retained s past ≡ true = deletes_retained rules past entry.author s entry.point now.allowed here in
    let closed : has (closes s) (entry ∷ past) ≡ true = has_same (closes s) entry past (ap (closes s) is) ∙ finished_closed s past (retained_parts s past retained).0 in
    let deleted : is_retained s (entry ∷ past) ≡ false = false_from_ne_true _ (λ kept. both_ways _ (retained_parts s (entry ∷ past) kept).1 (has_now (deletes s) entry past here)) in
    let dropped : is_kept s (entry ∷ past) ≡ false = unkept s (entry ∷ past) (closed_not_unfinished s (entry ∷ past) closed) deleted in
    let all = held_changed id entry past 0 (one_if (has (commits_manifest id) past && eqb s t)) (ap (commits_manifest id) is)
    (λ committed.
    let kept = kept_dropped s t entry past (kept_retained s past retained) dropped (λ other. kept_same t entry past (ap (begins t) is) (ap (finishes t) is) (ap (aborts t) is) (ap (deletes t) is ∙ turned s t other)) in
    let choices_are = choices_same id entry past (ap session_begun is) (λ n. ap (settles n) is) in
    let sights_are = sights_same t entry past (ap reading_begun is) (λ r. ap (ends r) is) in
    let mine = ap (λ b. one_if (b && eqb s t)) committed in
    omega (arith, kept, choices_are, sights_are, mine))
    (λ none. (refl, no_more (has (commits_manifest id) past) (eqb s t) none)) in
    omega (arith, all)

-- ---- readings

-- a reading of a stream begins
pub held_look : (rules : Rules) (id : ManifestId) (name : List ℕ) (seen : Seen) (entry : Entry) (past : List Entry) → is_legal rules (entry ∷ past) ≡ true → entry.point ≡ Look name (Some seen)
    → held id (entry ∷ past) ≡ held id past + one_if (has (commits_manifest id) past && eqb seen.session id.session)
unfolding session_begun reading_begun settles chooses commits finishes aborts deletes ends commits_manifest begins
held_look rules id name seen entry past legal is =
    let t = id.session in
    let all = held_changed id entry past (one_if (has (commits_manifest id) past && eqb seen.session t)) 0 (ap (commits_manifest id) is)
    (λ committed.
    let kept = ap one_if (kept_same t entry past (ap (begins t) is) (ap (finishes t) is) (ap (aborts t) is) (ap (deletes t) is)) in
    let choices_are = choices_same id entry past (ap session_begun is) (λ n. ap (settles n) is) in
    let sights_are = sights_begun rules t seen entry past legal (ap reading_begun is) in
    let mine = ap (λ b. one_if (b && eqb seen.session t)) committed in
    omega (arith, kept, choices_are, sights_are, mine))
    (λ none. (no_more (has (commits_manifest id) past) (eqb seen.session t) none, refl)) in
    omega (arith, all)

-- a reading of a stream ends
pub held_done : (rules : Rules) (id : ManifestId) (r : ℕ) (seen : Seen) (entry : Entry) (past : List Entry) → is_legal rules (entry ∷ past) ≡ true → entry.point ≡ Done r → IsReadingOf r seen past
    → held id (entry ∷ past) + one_if (has (commits_manifest id) past && eqb seen.session id.session) ≡ held id past
unfolding session_begun reading_begun settles chooses commits finishes aborts deletes ends commits_manifest begins
held_done rules id r seen entry past legal is of =
    let t = id.session in
    let all = held_changed id entry past 0 (one_if (has (commits_manifest id) past && eqb seen.session t)) (ap (commits_manifest id) is)
    (λ committed.
    let kept = ap one_if (kept_same t entry past (ap (begins t) is) (ap (finishes t) is) (ap (aborts t) is) (ap (deletes t) is)) in
    let choices_are = choices_same id entry past (ap session_begun is) (λ n. ap (settles n) is) in
    let sights_are = sights_ended rules t r seen entry past legal (ap (ends r) is ∙ eq-eqb r r refl) of in
    let mine = ap (λ b. one_if (b && eqb seen.session t)) committed in
    omega (arith, kept, choices_are, sights_are, mine))
    (λ none. (refl, no_more (has (commits_manifest id) past) (eqb seen.session t) none)) in
    omega (arith, all)

-- ---- a new manifest

-- a stream that is read was whole
read_finished : (rules : Rules) (seen : Seen) (past : List Entry) → is_legal rules past ≡ true → In seen (readings past) → has (finishes seen.session) past ≡ true
unfolding readings
read_finished rules seen [] legal h = absurd h
read_finished rules seen (entry ∷ past) legal h =
    let now = step rules entry past legal in
    let from = filter_map_in (λ (e : Entry). reading_begun e.point) seen (entry ∷ past) h in
    has_older (finishes seen.session) entry past (elim from.1 [
      | inl here ↦ (retained_parts seen.session past (sight_retained rules past entry.author seen entry.point now.allowed (ap (λ (e : Entry). reading_begun e.point) here ∙ from.2))).0
      | inr older ↦ read_finished rules seen past now.legal (in_filter_map (λ (e : Entry). reading_begun e.point) from.0 seen past older from.2)
    ])

no_sights : (rules : Rules) (s : ℕ) (past : List Entry) → is_legal rules past ≡ true → is_unfinished s past ≡ true → sights s past ≡ 0
unfolding sights
no_sights rules s past legal open_now =
    count_alike (λ (seen : Seen). eqb seen.session s && is_reading seen.reader past) (λ (seen : Seen). false) (readings past) (λ seen h.
    let other : eqb seen.session s ≡ false = false_from_ne_true _ (λ same.
    let finished = subst (λ n. has (finishes n) past ≡ true) (eqb-true seen.session s same) (read_finished rules seen past legal h) in
    both_ways _ (unfinished_is s past open_now).1 (finished_closed s past finished)) in
    ap (λ b. b && is_reading seen.reader past) other)
    ∙ count_never (readings past)

no_choices : (rules : Rules) (id : ManifestId) (past : List Entry) → is_legal rules past ≡ true → has (commits_manifest id) past ≡ false → choices id past ≡ 0
unfolding choices
no_choices rules id past legal none =
    count_alike (λ (t : ℕ). has_manifest id (pending_champions t past)) (λ (t : ℕ). false) (sessions past)
    (λ t h. false_from_ne_true _ (λ listed. both_ways _ none (pending_committed rules t id past legal listed)))
    ∙ count_never (sessions past)

-- a manifest that is committed is held by its session
pub held_new : (rules : Rules) (m : ManifestId) (content text : Name) (chunks bytes fresh fresh_bytes : ℕ) (uses : List ContainerId) (entry : Entry) (past : List Entry) → is_legal rules (entry ∷ past) ≡ true
    → entry.point ≡ Commit m content text chunks bytes fresh fresh_bytes uses → held m (entry ∷ past) ≡ 1
unfolding session_begun reading_begun settles chooses commits finishes aborts deletes ends commits_manifest begins champions_chosen
held_new rules m content text chunks bytes fresh fresh_bytes uses entry past legal is =
    let now = step rules entry past legal in
    let s = m.session in
    let here : commits_manifest m entry.point ≡ true = ap (commits_manifest m) is ∙ same_manifest-self m in
    let none : has (commits_manifest m) past ≡ false = false_from_ne_true _ (λ committed. never_twice rules m entry past now here committed) in
    let allowed : is_allowed rules past entry.author (Commit m content text chunks bytes fresh fresh_bytes uses) ≡ true = subst (λ (p : Point). is_allowed rules past entry.author p ≡ true) is now.allowed in
    let said = commit_says rules past entry.author m content text chunks bytes fresh fresh_bytes uses allowed in
    let begun = (unfinished_is s past said.unfinished).0 in
    let settled : (n : ℕ) → settles n entry.point ≡ eqb n s = λ n. ap (settles n) is ∙ or_some (eqb n s) in
    let chosen : unwrap_or (champions_chosen entry.point) [] ≡ [] = ap (λ p. unwrap_or (champions_chosen p) []) is in
    let parts = held_parts m (entry ∷ past) (has_now (commits_manifest m) entry past here) in
    let kept = ap one_if (kept_same s entry past (ap (begins s) is) (ap (finishes s) is) (ap (aborts s) is) (ap (deletes s) is) ∙ kept_open s past said.unfinished) in
    let exchanged = choices_exchanged rules m s entry past now.legal begun (ap session_begun is) settled in
    let gained = ap one_if (ap (has_manifest m) chosen ∙ none_listed m) in
    let chosen_before = no_choices rules m past now.legal none in
    let sights_are = sights_same s entry past (ap reading_begun is) (λ r. ap (ends r) is) in
    let seen_before = no_sights rules s past now.legal said.unfinished in
    omega (arith, parts, kept, exchanged, gained, chosen_before, sights_are, seen_before)
