-- Erases, one behind another.
use Rattle.std.proofs.Common.{◌≡◌, List, [], ◌∷◌, ◌++◌, Option, Some, None, refl, ap, ◌∙◌, subst}
use Rattle.ss_base.specs.declared.object.Object.{Object}
use Rattle.outside.specs.Views.{ShelfView}
use Rattle.outside.specs.declared.trouble.Trouble.{Trouble}
use Rattle.outside.specs.declared.trouble.Trouble.TheVariants.{Fault, Memory}
use Rattle.job_run.specs.Erasing.{worse, IsErased, AreErased}

pub worse-none : (met : Option Trouble) → met ≡ worse met None
worse-none None = refl
worse-none (Some Fault) = refl
worse-none (Some Memory) = refl

worse-assoc : (a b c : Option Trouble) → worse (worse a b) c ≡ worse a (worse b c)
worse-assoc None b c = refl
worse-assoc (Some Memory) b c = refl
worse-assoc (Some Fault) None c = refl
worse-assoc (Some Fault) (Some Memory) c = refl
worse-assoc (Some Fault) (Some Fault) None = refl
worse-assoc (Some Fault) (Some Fault) (Some c) = refl

-- one erase more
pub erased-more : (objects : List Object) (object : Object) (before now after : ShelfView) (met one : Option Trouble) → AreErased before now objects met → IsErased now after object one
    → AreErased before after (objects ++ object ∷ []) (worse met one)
erased-more [] object before now after met one done erased = (
  after,
  one,
  None,
  subst (λ (shelf : ShelfView). IsErased shelf after object one) done.0 erased,
  (refl, refl),
  ap (λ (m : Option Trouble). worse m one) done.1 ∙ worse-none one,
)
erased-more (first ∷ objects) object before now after met one done erased = (
  done.0,
  done.1,
  worse done.2 one,
  done.3,
  erased-more objects object done.0 now after done.2 one done.4 erased,
  ap (λ (m : Option Trouble). worse m one) done.5 ∙ worse-assoc done.1 done.2 one,
)
