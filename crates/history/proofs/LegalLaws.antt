-- Laws of legal histories.
use Rattle.std.proofs.Common.{◌≡◌, ℕ, ◌≤◌, take, length, arith, Bool, true, false, ◌&&◌, List, [], ◌∷◌, ◌++◌}
use Rattle.journal_entry.specs.declared.entry.Entry.{Entry}
use Rattle.journal_entry.specs.declared.entry.Point.{Point}
use Rattle.journal_entry.specs.declared.entry.Point.TheVariants.{Begin, Choose, Commit, Finish, Abort, Delete, Look, Done, Reclaim, Stat}
use Rattle.std.specs.Cmp.Lexicographic.{as_long}
use Rattle.std.proofs.lemmas.List.{length-take}
use Rattle.ss_base.specs.Ids.{same_object}
use Rattle.history.specs.Need.{erasable}
use Rattle.history.specs.TotalsOf.{objects_named}
use Rattle.history.specs.declared.rules.Rules.{Rules}
use Rattle.history.specs.Legal.{is_legal, may_follow, is_allowed}

first_of_both : (a b : Bool) → (a && b) ≡ true → a ≡ true
first_of_both true b e = cc
first_of_both false b e = cc

-- what comes before legal entries is legal
pub is_legal-older : (rules : Rules) (newer older : List Entry) → is_legal rules (newer ++ older) ≡ true → is_legal rules older ≡ true
unfolding is_legal
is_legal-older rules [] older legal = legal
is_legal-older rules (entry ∷ newer) older legal =
    is_legal-older rules newer older (first_of_both (is_legal rules (newer ++ older)) (may_follow rules entry (newer ++ older)) legal)

-- an entry that is allowed names at most 16 objects
pub few_objects : (rules : Rules) (past : List Entry) (author : ℕ) (point : Point) → is_allowed rules past author point ≡ true → objects_named point ≤ 16
unfolding is_allowed objects_named
few_objects rules past author (Reclaim objects) allowed =
    let same : length objects ≡ length (take 16 (erasable past)) = as_long same_object objects (take 16 (erasable past)) allowed in
    omega (arith, same, length-take 16 (erasable past))
few_objects rules past author (Begin name session) allowed = omega arith
few_objects rules past author (Choose session hooks champions) allowed = omega arith
few_objects rules past author (Commit manifest content text chunks bytes fresh fresh_bytes uses) allowed = omega arith
few_objects rules past author (Finish session containers) allowed = omega arith
few_objects rules past author (Abort session containers texts) allowed = omega arith
few_objects rules past author (Delete name session) allowed = omega arith
few_objects rules past author (Look name seen) allowed = omega arith
few_objects rules past author (Done reader) allowed = omega arith
few_objects rules past author (Stat totals) allowed = omega arith
