-- How the dead objects are found: a walk over numbers and one over sessions.
use Rattle.std.proofs.Common.{◌≡◌, refl, sym, ◌∙◌, ap, ℕ, zero, suc, ◌+◌, ◌-◌, ◌<◌, ◌≤◌, List, [], ◌∷◌, ◌++◌, take, length, filter, Bool, true, false, cond, arith, append_assoc}
use Rattle.std.proofs.lemmas.List.{length-append}
use Rattle.ss_base.specs.declared.object.Object.{Object}
use Rattle.pins_counts.specs.declared.kind.Kind.{Kind}
use Rattle.pins_counts.specs.declared.kind.Kind.TheVariants.{Containers, Manifests}
use Rattle.pins_counts.specs.Facts.{place_of, at_place}
use Rattle.ss_base.specs.KnownObjects.{numbered}
use Rattle.pins_counts.specs.Counts.{object_of}

-- what is found, with the dead ones of what is left, is what there is to find
pub record Finds (limit : ℕ) (found left goal : List Object) : Type 0 where
  pub small : length found ≤ limit
  pub same : take limit (found ++ left) ≡ goal

-- the first of the objects that are left
pub first_of : (kind : Kind) (session next count : ℕ) → next < count → numbered (object_of kind session) next (count - next) ≡ object_of kind session next ∷ numbered (object_of kind session) (next + 1) (count - (next + 1))
first_of kind session next count below =
    let e : count - next ≡ suc (count - (next + 1)) = omega arith in
    ap (numbered (object_of kind session) next) e

module _ (limit : ℕ) (idle : Object → Bool) where
  -- a dead object is found
  pub finds_one : (found : List Object) (x : Object) (xs goal : List Object) → idle x ≡ true → length found < limit → Finds limit found (filter idle (x ∷ xs)) goal → Finds limit (found ++ x ∷ []) (filter idle xs) goal
  finds_one found x xs goal is below so = record {
    small = omega (arith, length-append found (x ∷ []));
    same = ap (take limit) (append_assoc found (x ∷ []) (filter idle xs) ∙ ap (λ b. found ++ cond b (x ∷ filter idle xs) (filter idle xs)) (sym is)) ∙ so.same;
  }

  -- one that isn't dead is passed
  pub finds_none : (found : List Object) (x : Object) (xs goal : List Object) → idle x ≡ false → Finds limit found (filter idle (x ∷ xs)) goal → Finds limit found (filter idle xs) goal
  finds_none found x xs goal is so = record {
    small = so.small;
    same = ap (take limit) (ap (λ b. found ++ cond b (x ∷ filter idle xs) (filter idle xs)) (sym is)) ∙ so.same;
  }

pub place_in : (kind : Kind) (session next n : ℕ) → at_place (object_of kind session next) n ≡ object_of kind session n
place_in Containers session next n = refl
place_in Manifests session next n = refl

pub own_place : (kind : Kind) (session next : ℕ) → place_of (object_of kind session next) ≡ next
own_place Containers session next = refl
own_place Manifests session next = refl

-- objects that are not dead are passed
pub passed : (idle : Object → Bool) (kind : Kind) (session count d a : ℕ) → a + d ≤ count → ((n : ℕ) → a ≤ n → n < a + d → idle (object_of kind session n) ≡ false)
    → filter idle (numbered (object_of kind session) a (count - a)) ≡ filter idle (numbered (object_of kind session) (a + d) (count - (a + d)))
passed idle kind session count zero a within none = let e : a ≡ a + 0 = omega arith in ap (λ x. filter idle (numbered (object_of kind session) x (count - x))) e
passed idle kind session count (suc d) a within none =
    let e : (a + 1) + d ≡ a + suc d = omega arith in
    let here : idle (object_of kind session a) ≡ false = none a (omega arith) (omega arith) in
    ap (filter idle) (first_of kind session a count (omega arith))
    ∙ ap (λ b. cond b (object_of kind session a ∷ filter idle (numbered (object_of kind session) (a + 1) (count - (a + 1)))) (filter idle (numbered (object_of kind session) (a + 1) (count - (a + 1))))) here
    ∙ passed idle kind session count d (a + 1) (omega arith) (λ n from to. none n (omega arith) (omega arith))
    ∙ ap (λ x. filter idle (numbered (object_of kind session) x (count - x))) e

-- and so are those up to a number
pub passed_to : (idle : Object → Bool) (kind : Kind) (session count a b : ℕ) → a ≤ b → b ≤ count → ((n : ℕ) → a ≤ n → n < b → idle (object_of kind session n) ≡ false)
    → filter idle (numbered (object_of kind session) a (count - a)) ≡ filter idle (numbered (object_of kind session) b (count - b))
passed_to idle kind session count a b low high none =
    let e : a + (b - a) ≡ b = omega arith in
    passed idle kind session count (b - a) a (omega arith) (λ n from to. none n from (omega arith)) ∙ ap (λ x. filter idle (numbered (object_of kind session) x (count - x))) e
