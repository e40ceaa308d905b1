-- How many sessions and readings are unfinished after an entry of a legal history.
use Rattle.std.proofs.Common.{◌≡◌, ℕ, ◌+◌, ◌≤◌, Bool, true, false, cond, List, ◌∷◌, Some, None, refl, ap, arith}
use Rattle.std.proofs.lemmas.Bool.{false≢true}
use Rattle.journal_entry.specs.declared.entry.Entry.{Entry}
use Rattle.journal_entry.specs.declared.entry.Point.{Point}
use Rattle.journal_entry.specs.declared.entry.Point.TheVariants.{Begin, Finish, Abort, Look, Done}
use Rattle.history.specs.declared.rules.Rules.{Rules}
use Rattle.history.specs.Legal.{is_allowed, is_legal, unfinished_sessions, unfinished_readings}
use Rattle.history_laws.proofs.UnfinishedLaws.{begins_of, closes_of, looks_of, ends_of, sessions_more, readings_more}
use Rattle.history_totals.specs.Parts.{starts, stops}

-- the unfinished sessions and readings
abbrev pub unfinished : List Entry → ℕ
unfinished past = unfinished_sessions past + unfinished_readings past

started : (point : Point) → begins_of point + looks_of point ≡ cond (starts point) 1 0
unfolding starts
started (Begin name (Some s)) = refl
started (Begin name None) = refl
started (Look name (Some seen)) = refl
started (Look name None) = refl
started _ = refl

stopped : (point : Point) → closes_of point + ends_of point ≡ cond (stops point) 1 0
unfolding stops
stopped (Finish s containers) = refl
stopped (Abort s containers texts) = refl
stopped (Done r) = refl
stopped _ = refl

one_way : (point : Point) → starts point ≡ true → stops point ≡ false
unfolding starts stops
one_way (Begin name session) does = refl
one_way (Look name seen) does = refl
one_way _ does = absurd (false≢true does)

open_law : (rules : Rules) (entry : Entry) (past : List Entry) → is_legal rules past ≡ true → is_allowed rules past entry.author entry.point ≡ true → unfinished (entry ∷ past) + cond (stops entry.point) 1 0 ≡ unfinished past + cond (starts entry.point) 1 0
open_law rules entry past legal allowed =
    let sessions = sessions_more rules entry past legal allowed in
    let readings = readings_more rules entry past legal allowed in
    let more = started entry.point in
    let less = stopped entry.point in
    omega (arith, sessions, readings, more, less)

pub more_open : (rules : Rules) (entry : Entry) (past : List Entry) → is_legal rules past ≡ true → is_allowed rules past entry.author entry.point ≡ true → starts entry.point ≡ true → unfinished (entry ∷ past) ≡ unfinished past + 1
more_open rules entry past legal allowed does =
    let law = open_law rules entry past legal allowed in
    let more = ap {B = ℕ} (λ b. cond b 1 0) does in
    let less = ap {B = ℕ} (λ b. cond b 1 0) (one_way entry.point does) in
    omega (arith, law, more, less)

pub fewer_open : (rules : Rules) (entry : Entry) (past : List Entry) → is_legal rules past ≡ true → is_allowed rules past entry.author entry.point ≡ true → starts entry.point ≡ false → stops entry.point ≡ true → unfinished (entry ∷ past) + 1 ≡ unfinished past
fewer_open rules entry past legal allowed none does =
    let law = open_law rules entry past legal allowed in
    let more = ap {B = ℕ} (λ b. cond b 1 0) none in
    let less = ap {B = ℕ} (λ b. cond b 1 0) does in
    omega (arith, law, more, less)

pub same_open : (rules : Rules) (entry : Entry) (past : List Entry) → is_legal rules past ≡ true → is_allowed rules past entry.author entry.point ≡ true → starts entry.point ≡ false → stops entry.point ≡ false → unfinished (entry ∷ past) ≡ unfinished past
same_open rules entry past legal allowed none neither =
    let law = open_law rules entry past legal allowed in
    let more = ap {B = ℕ} (λ b. cond b 1 0) none in
    let less = ap {B = ℕ} (λ b. cond b 1 0) neither in
    omega (arith, law, more, less)

at_most_one : (b : Bool) → cond b 1 0 ≤ 1
at_most_one true = omega arith
at_most_one false = omega arith

pub one_more_open : (rules : Rules) (entry : Entry) (past : List Entry) → is_legal rules past ≡ true → is_allowed rules past entry.author entry.point ≡ true → unfinished (entry ∷ past) ≤ unfinished past + 1
one_more_open rules entry past legal allowed =
    let law = open_law rules entry past legal allowed in
    let most = at_most_one (starts entry.point) in
    omega (arith, law, most)
