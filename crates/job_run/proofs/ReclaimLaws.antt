-- Reclaims, one behind another.
use Rattle.std.proofs.Common.{◌≡◌, ℕ, suc, ◌+◌, ◌-◌, ◌<◌, ◌≤◌, Bool, true, false, leb, leb-true, is_some, List, [], ◌∷◌, length, take, Option, Some, None, Vec, refl, sym, ap, ◌∙◌, arith, length-append}
use Rattle.std.specs.Prelude.{Ok}
use Rattle.std.specs.declared.alloc.Global.{Global}
use Rattle.std.proofs.lemmas.Bool.{and_parts, false≢true}
use Rattle.std.proofs.lemmas.List.{length-take, length-reverse}
use Rattle.ss_base.specs.declared.object.Object.{Object}
use Rattle.journal_entry.specs.declared.entry.Entry.{Entry}
use Rattle.history.specs.declared.rules.Limits.{Limits}
use Rattle.history.specs.Legal.{unfinished_sessions, unfinished_readings, is_within}
use Rattle.outside.specs.Views.{ShelfView}
use Rattle.outside.specs.declared.trouble.Trouble.{Trouble}
use Rattle.store_core.specs.View.{StateView, past_of, Adds}
use Rattle.store_core.specs.Answers.{ReclaimAnswer}
use Rattle.report.specs.declared.answer.JobAnswer.{JobAnswer}
use Rattle.job_run.specs.Erasing.{of_erases, AreErased, LastReclaim}
use Rattle.job_run.specs.Erasing.LastReclaim.{troubled}

few_entries : (limits : Limits) (entry : Entry) (past : List Entry) → is_within limits (entry ∷ past) ≡ true → suc (length past) ≤ limits.entries
unfolding is_within
few_entries limits entry past within =
    let most : Bool = leb (suc (length past) + unfinished_sessions (entry ∷ past) + unfinished_readings (entry ∷ past)) limits.entries in
    let few = leb-true _ _ (and_parts most _ within).0 in
    omega (arith, few)

-- each entry leaves room for fewer
pub less_room : (old new : StateView) (entry : Entry) → Adds old new entry → new.limits.entries - length new.entries < old.limits.entries - length old.entries
less_room old new entry adds =
    let few = few_entries old.limits entry (past_of old) adds.fits in
    let past = length-reverse old.entries in
    let limit = ap (λ (state : StateView). state.limits.entries) adds.added in
    let more = ap (λ (state : StateView). length state.entries) adds.added ∙ length-append old.entries (entry ∷ []) in
    omega (arith, few, past, limit, more)

-- a reclaim that is not of fewer is of 16
pub all_sixteen : (objects erased : List Object) → erased ≡ take 16 objects → (length erased < 16 → ⊥) → length erased ≡ 16
all_sixteen objects erased is most =
    let len = ap length is ∙ length-take 16 objects in
    omega (arith, len, most)

-- erases that met trouble
pub met_trouble : (author : ℕ) (old new : StateView) (depot depot' : ShelfView) (removals : Vec Object Global) (met : Option Trouble) (answer : JobAnswer) → is_some met ≡ true
    → answer ≡ of_erases met → ReclaimAnswer old new author (Ok removals) → AreErased depot depot' removals.items met → LastReclaim author old new depot depot' answer
met_trouble author old new depot depot' removals None answer some is adds erased = absurd (false≢true some)
met_trouble author old new depot depot' removals (Some trouble) answer some is adds erased = troubled removals trouble is adds erased

-- or none
pub met_none : (met : Option Trouble) → is_some met ≡ false → met ≡ None
met_none None none = refl
met_none (Some trouble) none = absurd (false≢true (sym none))
