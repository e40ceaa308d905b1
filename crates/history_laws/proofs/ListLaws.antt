-- The list of a hook is never longer than its bound, and what stands there was put there by a choice of the hook.
use Rattle.std.proofs.Common.{◌≡◌, ◌⊎◌, ℕ, suc, ◌-◌, ◌<◌, ◌≤◌, Bool, true, false, not, eqb, cond, List, [], ◌∷◌, length, drop, reverse, Option, Some, None, refl, sym, ap, ◌∙◌, subst, inl, inr, arith, length-append}
use Rattle.std.specs.List.{filter, count_by}
use Rattle.std.proofs.lemmas.Bool.{both_ways, or_left, or_right, false_from_ne_true}
use Rattle.std.proofs.lemmas.List.{length-take, length-reverse}
use Rattle.std.proofs.lemmas.Option.{slice_get_within}
use Rattle.ss_base.specs.declared.ids.ManifestId.{ManifestId}
use Rattle.ss_base.specs.declared.ids.Standing.{Standing}
use Rattle.ss_base.specs.declared.name.Name.{Name}
use Rattle.ss_base.specs.Ids.{same_manifest, has_name, has_manifest}
use Rattle.ss_base.specs.Standings.{standing_of, chosen_standings, others_standing, promoted, without_session, in_front}
use Rattle.journal_entry.specs.declared.entry.Entry.{Entry}
use Rattle.journal_entry.specs.declared.entry.Point.{Point}
use Rattle.journal_entry.specs.declared.entry.Point.TheVariants.{Choose, Commit, Abort, Delete}
use Rattle.history.specs.declared.rules.Rules.{Rules}
use Rattle.history.specs.Sessions.{last_hooks}
use Rattle.history.specs.StandingList.{standing_after, standing}
use Rattle.history.specs.Legal.{is_legal}
use Rattle.history_laws.specs.Stands.{MayStand, before, HasChosen}
use Rattle.ss_base.proofs.IdLaws.{same_manifest-self, same_manifest-true}
use Rattle.ss_base.proofs.MemberLaws.{In, any_in, count_at_most}
use Rattle.ss_base.proofs.ApartLaws.{Apart}
use Rattle.history_laws.proofs.Allowed.{IsStep, step}
use Rattle.history_laws.proofs.CountLaws.{count_rest, count_more}
use Rattle.history_laws.proofs.StandingLaws.{made, newest, standing_of_in, promoted_in, front_in, without_in, chosen_by, standing_commit, what_stands}
use Rattle.history_laws.proofs.OnceLaws.{chosen_apart}

-- ---- the bound

-- how many of what stood is one of these
abbrev chosen_count : List ManifestId → List Standing → ℕ
chosen_count chosen stood = count_by (λ (s : Standing). has_manifest s.id chosen) stood

fewer_chosen : (id : ManifestId) (ids : List ManifestId) (stood : List Standing) → chosen_count ids stood ≤ chosen_count (id ∷ ids) stood
unfolding has_manifest
fewer_chosen id ids stood = count_at_most (λ (s : Standing). has_manifest s.id ids) (λ (s : Standing). has_manifest s.id (id ∷ ids)) stood (λ s h has. or_right (same_manifest s.id id) (has_manifest s.id ids) has)

-- one more champion, which stood or did not
few_step : (id : ManifestId) (ids : List ManifestId) (stood : List Standing) (o : Option Standing) → standing_of id stood ≡ o → Apart same_manifest (id ∷ ids) → length (chosen_standings ids stood) ≤ chosen_count ids stood → length (chosen_standings (id ∷ ids) stood) ≤ chosen_count (id ∷ ids) stood
unfolding chosen_standings has_manifest
few_step id ids stood None e distinct rest = rw e (let fewer = fewer_chosen id ids stood in omega (arith, rest, fewer))
few_step id ids stood (Some x) e distinct rest =
    let at = standing_of_in id x stood e in
    let same : id ≡ x.id = same_manifest-true _ _ at.1 in
    let absent : has_manifest x.id ids ≡ false = false_from_ne_true _ (λ has.
    let found = any_in (same_manifest x.id) ids has in
    let other : id ≡ found.0 = same ∙ same_manifest-true _ _ found.2 in
    let itself : same_manifest id found.0 ≡ true = subst (λ (m : ManifestId). same_manifest id m ≡ true) other (same_manifest-self id) in
    both_ways _ (distinct.0 found.0 found.1) itself) in
    let itself : same_manifest x.id id ≡ true = subst (λ (m : ManifestId). same_manifest x.id m ≡ true) (sym same) (same_manifest-self x.id) in
    let more = count_more (λ (s : Standing). has_manifest s.id ids) (λ (s : Standing). has_manifest s.id (id ∷ ids)) x stood at.0 absent (or_left (same_manifest x.id id) (has_manifest x.id ids) itself) (λ s h has. or_right (same_manifest s.id id) (has_manifest s.id ids) has) in
    rw e (omega (arith, rest, more))

-- of distinct champions, those that stood are no more than what stood and was chosen
chosen_few : (chosen : List ManifestId) (stood : List Standing) → Apart same_manifest chosen → length (chosen_standings chosen stood) ≤ chosen_count chosen stood
unfolding chosen_standings
chosen_few [] stood distinct = omega arith
chosen_few (id ∷ ids) stood distinct = few_step id ids stood (standing_of id stood) refl distinct (chosen_few ids stood distinct.1)

promoted_short : (chosen : List ManifestId) (stood : List Standing) → Apart same_manifest chosen → length (promoted chosen stood) ≤ length stood
unfolding promoted others_standing
promoted_short chosen stood distinct =
    let few = chosen_few chosen stood distinct in
    let rest = count_rest (λ (s : Standing). has_manifest s.id chosen) stood in
    let sum = length-append (chosen_standings chosen stood) (filter (λ (s : Standing). not (has_manifest s.id chosen)) stood) in
    omega (arith, few, rest, sum)

without_short : (s : ℕ) (stood : List Standing) → length (without_session s stood) ≤ length stood
unfolding without_session
without_short s stood = let rest = count_rest (λ (t : Standing). eqb t.id.session s) stood in omega (arith, rest)

front_short : (bound : ℕ) (newest : Standing) (stood : List Standing) → length (in_front bound newest stood) ≤ bound
unfolding in_front
front_short bound newest stood = let size = length-take bound (newest ∷ stood) in omega (arith, size)

either_short : (b : Bool) (n : ℕ) (xs ys : List Standing) → length xs ≤ n → length ys ≤ n → length (cond b xs ys) ≤ n
either_short true n xs ys first second = first
either_short false n xs ys first second = second

short_after : (rules : Rules) (bound : ℕ) (hook : Name) (author : ℕ) (point : Point) (past : List Entry) (stood : List Standing) → IsStep rules (made author point) past → length stood ≤ bound → length (standing_after bound hook point past stood) ≤ bound
unfolding standing_after
short_after rules bound hook author (Commit id content text chunks bytes fresh fresh_bytes uses) past stood now short =
    either_short (has_name hook (last_hooks id.session past)) bound (in_front bound (newest id past) stood) stood (front_short bound (newest id past) stood) short
short_after rules bound hook author (Choose s hooks chosen) past stood now short =
    let fewer = promoted_short chosen stood (chosen_apart rules past author s hooks chosen now.allowed) in
    either_short (has_name hook hooks) bound (promoted chosen stood) stood (omega (arith, fewer, short)) short
short_after rules bound hook author (Abort s containers texts) past stood now short = let fewer = without_short s stood in omega (arith, fewer, short)
short_after rules bound hook author (Delete name (Some s)) past stood now short = let fewer = without_short s stood in omega (arith, fewer, short)
short_after rules bound hook author (Delete name None) past stood now short = short
short_after rules bound hook author point past stood now short = short

-- no list of a legal history is longer than its bound
pub standing_short : (rules : Rules) (bound : ℕ) (hook : Name) (past : List Entry) → is_legal rules past ≡ true → length (standing bound hook past) ≤ bound
unfolding standing
standing_short rules bound hook [] legal = omega arith
standing_short rules bound hook (entry ∷ past) legal =
    let now = step rules entry past legal in
    short_after rules bound hook entry.author entry.point past (standing bound hook past) now (standing_short rules bound hook past now.legal)

-- ---- the choice

-- what stands has the number of an entry
pub stamp_below : (x : Standing) (past : List Entry) → MayStand x past → x.stamp < length past
stamp_below x past may =
    let at = standing_commit x past may in
    let below = slice_get_within (reverse past) x.stamp at.entry at.there in
    omega (arith, below, length-reverse past)

-- the entries before one stay so as more are recorded
before_older : (n : ℕ) (entry : Entry) (past : List Entry) → n ≤ length past → before n (entry ∷ past) ≡ before n past
unfolding before
before_older n entry past low =
    let e : suc (length past) - n ≡ suc (length past - n) = omega (arith, low) in
    ap (λ k. drop k (entry ∷ past)) e

before_last : (entry : Entry) (past : List Entry) → before (length past) (entry ∷ past) ≡ past
unfolding before
before_last entry past = let e : suc (length past) - length past ≡ 1 = omega arith in ap (λ k. drop k (entry ∷ past)) e

still_chosen : (hook : Name) (x : Standing) (entry : Entry) (past : List Entry) → MayStand x past → HasChosen hook x past → HasChosen hook x (entry ∷ past)
still_chosen hook x entry past may chosen =
    let below = stamp_below x past may in
    ap (λ older. has_name hook (last_hooks x.id.session older)) (before_older x.stamp entry past (omega (arith, below))) ∙ chosen

-- an item of the first list where the test holds, or of the second
by_test : (b : Bool) (x : Standing) (xs ys : List Standing) → In x (cond b xs ys) → ((b ≡ true) × In x xs) ⊎ In x ys
by_test true x xs ys h = inl (refl, h)
by_test false x xs ys h = inr h

newest_chosen : (hook : Name) (id : ManifestId) (entry : Entry) (past : List Entry) → has_name hook (last_hooks id.session past) ≡ true → HasChosen hook (newest id past) (entry ∷ past)
newest_chosen hook id entry past has = ap (λ older. has_name hook (last_hooks id.session older)) (before_last entry past) ∙ has

chosen_after : (bound : ℕ) (hook : Name) (author : ℕ) (point : Point) (past : List Entry) (stood : List Standing) → ((x : Standing) → In x stood → MayStand x past) → ((x : Standing) → In x stood → HasChosen hook x past)
    → (x : Standing) → In x (standing_after bound hook point past stood) → HasChosen hook x (made author point ∷ past)
unfolding standing_after
chosen_after bound hook author (Commit id content text chunks bytes fresh fresh_bytes uses) past stood may each x h =
    let entry : Entry = made author (Commit id content text chunks bytes fresh fresh_bytes uses) in
    elim (by_test (has_name hook (last_hooks id.session past)) x (in_front bound (newest id past) stood) stood h) [
      | inl fronted ↦ elim (front_in x (newest id past) bound stood fronted.1) [
        | inl same ↦ subst (λ (s : Standing). HasChosen hook s (entry ∷ past)) same (newest_chosen hook id entry past fronted.0)
        | inr there ↦ still_chosen hook x entry past (may x there) (each x there)
      ]
      | inr there ↦ still_chosen hook x entry past (may x there) (each x there)
    ]
chosen_after bound hook author (Choose s hooks chosen) past stood may each x h =
    let there : In x stood = elim (chosen_by (has_name hook hooks) x (promoted chosen stood) stood h) [
      | inl moved ↦ promoted_in x chosen stood moved
      | inr same ↦ same
    ] in
    still_chosen hook x (made author (Choose s hooks chosen)) past (may x there) (each x there)
chosen_after bound hook author (Abort s containers texts) past stood may each x h =
    let there = (without_in x s stood h).0 in
    still_chosen hook x (made author (Abort s containers texts)) past (may x there) (each x there)
chosen_after bound hook author (Delete name (Some s)) past stood may each x h =
    let there = (without_in x s stood h).0 in
    still_chosen hook x (made author (Delete name (Some s))) past (may x there) (each x there)
chosen_after bound hook author (Delete name None) past stood may each x h = still_chosen hook x (made author (Delete name None)) past (may x h) (each x h)
chosen_after bound hook author point past stood may each x h = still_chosen hook x (made author point) past (may x h) (each x h)

-- a manifest stands only at hooks of its session's choice before its Commit
pub standing_chosen : (rules : Rules) (bound : ℕ) (hook : Name) (past : List Entry) → is_legal rules past ≡ true → (x : Standing) → In x (standing bound hook past) → HasChosen hook x past
unfolding standing
standing_chosen rules bound hook [] legal x h = absurd h
standing_chosen rules bound hook (entry ∷ past) legal x h =
    let now = step rules entry past legal in
    chosen_after bound hook entry.author entry.point past (standing bound hook past) (what_stands rules bound hook past now.legal) (standing_chosen rules bound hook past now.legal) x h
