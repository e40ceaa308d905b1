-- Codes of what is counted, by which proofs tell its values apart.
use Rattle.std.specs.Prelude.{ℕ, ◌≡◌, ◌⊎◌, refl}
use Rattle.std.proofs.Common.{inl, inr}
use Rattle.std.specs.Coded.{Coded, code_by, coded×, coded⊎, coded_ℕ, coded_list, coded_option}
use Rattle.std.specs.FinMap as map
use Rattle.std.specs.FinSet as set
use Rattle.ss_base.specs.declared.object.Object.{Object}
use Rattle.ss_base.specs.declared.object.Object.TheVariants.{Container, Manifest}
use Rattle.ss_base.specs.declared.ended.Ended.{Ended}
use Rattle.pins_counts.specs.Counts.{Counted}
use Rattle.pins_counts.specs.Waiting.{Awaited}

abbrev pub numbers_from : Object → (ℕ × ℕ) ⊎ (ℕ × ℕ)
numbers_from (Container c) = inl (c.session, c.ordinal)
numbers_from (Manifest m) = inr (m.session, m.seq)

abbrev pub object_from : (ℕ × ℕ) ⊎ (ℕ × ℕ) → Object
object_from (inl p) = Container (record { session = p.0; ordinal = p.1 })
object_from (inr p) = Manifest (record { session = p.0; seq = p.1 })

abbrev pub object_from-numbers_from : (q : Object) → object_from (numbers_from q) ≡ q
object_from-numbers_from (Container c) = refl
object_from-numbers_from (Manifest m) = refl

-- an object is stored as its kind and its two numbers
abbrev pub object_code : Coded Object
object_code = code_by ((ℕ × ℕ) ⊎ (ℕ × ℕ)) (coded⊎ (coded× coded_ℕ coded_ℕ) (coded× coded_ℕ coded_ℕ)) numbers_from object_from object_from-numbers_from

abbrev pub ended_code : Coded Ended
ended_code = code_by (ℕ × ℕ) (coded× coded_ℕ coded_ℕ) (λ e. (e.containers, e.texts)) (λ p. record { containers = p.0; texts = p.1 }) (λ _. refl)

-- what is counted is stored as its four values
abbrev pub counted_code : Coded Counted
counted_code =
    code_by _ (coded× (coded× (map.code object_code coded_ℕ) (coded_list (coded_option ended_code))) (coded× (set.code object_code) coded_ℕ))
    (λ c. ((c.numbers, c.sessions), (c.gone, c.room))) (λ p. record { numbers = p.0.0; sessions = p.0.1; gone = p.1.0; room = p.1.1 }) (λ _. refl)

-- awaited sessions are stored as their numbers and the bound
abbrev pub awaited_code : Coded Awaited
awaited_code = code_by _ (coded× (coded_list coded_ℕ) coded_ℕ) (λ a. (a.sessions, a.below)) (λ p. record { sessions = p.0; below = p.1 }) (λ _. refl)
