-- The lists of some hooks in a legal history, and the greedy choice over them.
use Rattle.std.proofs.Common.{◌≡◌, ℕ, true, List, [], ◌∷◌, refl, sym, ap, ◌∙◌, subst}
use mathlib.Core.List.{map}
use Rattle.std.specs.List.{All}
use Rattle.ss_base.specs.declared.ids.Standing.{Standing}
use Rattle.ss_base.specs.declared.name.Name.{Name}
use Rattle.ss_base.specs.Champions.{candidates, champions}
use Rattle.sparse_index.specs.Lists.{Lists, list_at}
use Rattle.journal_entry.specs.declared.entry.Entry.{Entry}
use Rattle.history.specs.declared.rules.Rules.{Rules}
use Rattle.history.specs.StandingList.{standing, champions_for}
use Rattle.history.specs.Legal.{is_legal}
use Rattle.history_laws.specs.Stands.{MayStand}
use Rattle.champion_choice.specs.Lists.{StampsTell}
use Rattle.champion_choice.specs.Scores.{StandsOnce}
use Rattle.ss_base.proofs.MemberLaws.{In, in_Contains, All-from_in, map_in, flat_map_in}
use Rattle.ss_base.proofs.ApartLaws.{IsDistinct-from_apart}
use Rattle.history_laws.proofs.OnceLaws.{same_standing, stands_once, same_stamps}
use Rattle.history_laws.proofs.StandingLaws.{what_stands}

-- what stands at each of the hooks
abbrev pub lists_for : ℕ → List Entry → List Name → List (List Standing)
lists_for bound past hooks = map (λ hook. standing bound hook past) hooks

map_same : {X Y : Type 0} (f g : X → Y) (xs : List X) → ((x : X) → f x ≡ g x) → map f xs ≡ map g xs
map_same f g [] each = refl
map_same f g (x ∷ xs) each = ap (λ y. y ∷ map f xs) (each x) ∙ ap (λ ys. g x ∷ ys) (map_same f g xs each)

pub lists_are : (bound : ℕ) (past : List Entry) (lists : Lists) (hooks : List Name) → ((hook : Name) → list_at lists hook ≡ standing bound hook past) → map (list_at lists) hooks ≡ lists_for bound past hooks
lists_are bound past lists hooks each = map_same (list_at lists) (λ hook. standing bound hook past) hooks each

pub each_once : (rules : Rules) (bound : ℕ) (past : List Entry) (hooks : List Name) → is_legal rules past ≡ true → All StandsOnce (lists_for bound past hooks)
each_once rules bound past hooks legal =
    All-from_in StandsOnce (lists_for bound past hooks) (λ stood h.
    let from = map_in (λ hook. standing bound hook past) stood hooks h in
    subst StandsOnce from.2 (IsDistinct-from_apart same_standing (standing bound from.0 past) (stands_once rules bound from.0 past legal)))

may_stand : (rules : Rules) (bound : ℕ) (past : List Entry) (hooks : List Name) (a : Standing) → is_legal rules past ≡ true → In a (candidates (lists_for bound past hooks)) → MayStand a past
unfolding candidates
may_stand rules bound past hooks a legal h =
    let list = flat_map_in (λ stood. stood) a (lists_for bound past hooks) h in
    let from = map_in (λ hook. standing bound hook past) list.0 hooks list.1 in
    what_stands rules bound from.0 past legal a (subst (λ l. In a l) (sym from.2) list.2)

pub stamps_tell : (rules : Rules) (bound : ℕ) (past : List Entry) (hooks : List Name) → is_legal rules past ≡ true → StampsTell (lists_for bound past hooks)
stamps_tell rules bound past hooks legal a b at_a at_b =
    same_stamps rules past a b legal
    (may_stand rules bound past hooks a legal (in_Contains a _ at_a))
    (may_stand rules bound past hooks b legal (in_Contains b _ at_b))

pub choice_is : (rules : Rules) (past : List Entry) (hooks : List Name) → champions rules.champions (lists_for rules.standings past hooks) ≡ champions_for rules hooks past
unfolding champions_for
choice_is rules past hooks = refl
