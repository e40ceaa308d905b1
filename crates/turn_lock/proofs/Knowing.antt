-- What a seat knows, while others go on.
use Rattle.std.proofs.Common.{◌≡◌, ◌≢◌, ℕ, ◌+◌, ◌%◌, ◌^◌, ◌<◌, ◌≤◌, eqb, Bool, true, false, List, [], ◌∷◌, ◌++◌, length, set, refl, sym, ap, ◌∙◌, subst, inl, inr, ⊎_elim, arith, append_assoc, eq-eqb, ne_eqb, Option, Some, None}
use Rattle.std.specs.Prelude.{if◌then◌else◌}
use Rattle.std.proofs.lemmas.Bool.{both_ways, false_from_ne_true}
use Rattle.std.proofs.lemmas.Bool.Decides.{nat_tests}
use Rattle.std.proofs.lemmas.List.{append-nil}
use mathlib.Core.Option.{some}
use mathlib.Core.Option as maybe
use lib.ListN.{get_elem?}
use Rattle.atomic_table.proofs.Lists.{at_set}
use Rattle.journal_entry.specs.declared.entry.Entry.{Entry}
use Rattle.turn_lock.specs.declared.view.Known.{Known}
use Rattle.turn_lock.specs.declared.view.View.{View}
use Rattle.turn_lock.specs.Seen.{has_number, IsTurnOf}
use Rattle.turn_lock.specs.Rule.{Course, is_numbered, IsUnseen, IsKnown, is_holder, next_at, IsSeat, IsPlace, word}
use Rattle.turn_lock.proofs.Lists.{all_append}

pub none_some : {A : Type 0} (x : A) (o : Option A) → o ≡ None → o ≡ Some x → ⊥
none_some x o p q = cc (p, q)

pub some_same : {A : Type 0} (x y : A) → Some x ≡ Some y → x ≡ y
some_same x y e = cc (e)

pub word_more : (t : ℕ) → (word t + 1) % 2 ^ 64 ≡ word (t + 1)
word_more t = omega arith

-- ---- one seat changed, the others did not

pub seats_set : (c : Course) (views : List View) (id : ℕ) (w : View) → ((i : ℕ) (u : View) → i ≢ id → get_elem? views i ≡ some u → IsSeat c i u) → IsSeat c id w → (i : ℕ) (u : View) → get_elem? (set views id w) i ≡ some u → IsSeat c i u
seats_set c views id w others mine i u e =
    ⊎_elim
    (λ (x : (i ≡ id) × (w ≡ u)). subst (λ (y : ℕ × View). IsSeat c y.0 y.1) (λ k. (sym x.0 k, x.1 k)) mine)
    (λ (x : (i ≢ id) × (get_elem? views i ≡ some u)). others i u x.0 x.1)
    (at_set views id i w u e)

-- ---- the holder and the opener

pub holder_one : (h : Option ℕ) (i j : ℕ) → is_holder h i ≡ true → is_holder h j ≡ true → i ≡ j
holder_one None i j p q = absurd (both_ways false refl p)
holder_one (Some h) i j p q = let a : h ≡ i = grind (arith, nat_tests) in let b : h ≡ j = grind (arith, nat_tests) in sym a ∙ b

next_at_by : (b : Bool) (next m : ℕ) → (if b then Some next else None) ≡ Some m → (b ≡ true) × (m ≡ next)
next_at_by true next m e = (refl, sym (some_same next m e))
next_at_by false next m e = absurd (none_some m None refl e)

pub next_is : (o next i m : ℕ) → next_at o next i ≡ Some m → (o ≡ i) × (m ≡ next)
next_is o next i m e = let r = next_at_by (eqb o i) next m e in let t = r.0 in (grind (arith, nat_tests), r.1)

pub next_here : (o next i : ℕ) → o ≡ i → next_at o next i ≡ Some next
next_here o next i is = ap (λ b. if b then Some next else None) (eq-eqb o i is)

pub next_none : (o next i : ℕ) → o ≢ i → next_at o next i ≡ None
next_none o next i not = ap (λ b. if b then Some next else None) (ne_eqb o i not)

module _ {T : Type 0} (entries : T → List Entry) (base : T → List ℕ) where
  abbrev Homes : Type 0
  Homes = List (maybe.Option (Option T))

  pub place_views : (h : Option ℕ) (journal : List Entry) (numbers : List ℕ) (views more : List View) (homes : Homes) → length views ≤ length more → IsPlace entries base h journal numbers views homes → IsPlace entries base h journal numbers more homes
  place_views None journal numbers views more homes le p = p
  place_views (Some h) journal numbers views more homes le p = let l = p.1 in (p.0, omega arith)

  pub place_away : (h : Option ℕ) (journal after : List Entry) (numbers : List ℕ) (views more : List View) (homes : Homes) (id : ℕ) → is_holder h id ≡ true → length views ≤ length more → IsPlace entries base h journal numbers views homes → IsPlace entries base h after numbers more homes
  place_away None journal after numbers views more homes id is le p = absurd (both_ways false refl is)
  place_away (Some h) journal after numbers views more homes id is le p = let l = p.1 in (p.0, omega arith)

  pub homes_away : (h : Option ℕ) (journal : List Entry) (numbers : List ℕ) (views : List View) (homes : Homes) (id : ℕ) → is_holder h id ≡ true → IsPlace entries base h journal numbers views homes → homes ≡ maybe.none ∷ []
  homes_away None journal numbers views homes id is p = absurd (both_ways false refl is)
  homes_away (Some h) journal numbers views homes id is p = p.0

  pub holder_below : (h : Option ℕ) (journal : List Entry) (numbers : List ℕ) (views : List View) (homes : Homes) (i : ℕ) → length views ≤ i → IsPlace entries base h journal numbers views homes → is_holder h i ≡ false
  holder_below None journal numbers views homes i le p = refl
  holder_below (Some h) journal numbers views homes i le p = let l = p.1 in ne_eqb h i (λ e. absurd (omega arith))

-- ---- knowledge

pub has_numbered : (numbers : List ℕ) (n : ℕ) → has_number numbers n ≡ true → is_numbered numbers ≡ true
has_numbered [] n e = absurd (both_ways false refl e)
has_numbered (m ∷ ms) n e = refl

-- the number of one seat is none of another's
pub not_own : (owner : ℕ → ℕ) (first next : ℕ) (journal : List Entry) (i id n : ℕ) (k : Known) → IsKnown owner first next journal i k → owner n ≡ id → i ≢ id → has_number k.numbers n ≡ false
not_own owner first next journal i id n k is own ne = false_from_ne_true (has_number k.numbers n) (λ h. ne (sym (is.owned n h).0 ∙ own))

-- an entry by a number of another seat comes behind
pub grow : (owner : ℕ → ℕ) (first next : ℕ) (journal after : List Entry) (i n : ℕ) (k : Known) → IsKnown owner first next journal i k → IsTurnOf n journal after → has_number k.numbers n ≡ false → first ≤ n → IsKnown owner first next after i k
grow owner first next journal after i n k is (inl same) other late = record { owned = is.owned; behind = (is.behind.0, is.behind.1 ∙ sym same, is.behind.2) }
grow owner first next journal after i n k is (inr more) other late =
    let e : Entry = more.0 in
    let unseen : IsUnseen first k.numbers e = record {
      other = ap (has_number k.numbers) more.2 ∙ other;
      late = λ _. subst (λ z. first ≤ z) (sym more.2) late;
    } in
    record {
      owned = is.owned;
      behind = (
        is.behind.0 ++ e ∷ [],
        sym (append_assoc k.seen is.behind.0 (e ∷ [])) ∙ (ap (λ z. z ++ e ∷ []) is.behind.1 ∙ sym more.1),
        all_append (IsUnseen first k.numbers) is.behind.0 (e ∷ []) is.behind.2 (unseen, tt),
      );
    }

-- whoever has the whole journal
pub knows_all : (owner : ℕ → ℕ) (first next : ℕ) (journal : List Entry) (i : ℕ) (k : Known) (seen : List Entry) → ((n : ℕ) → has_number k.numbers n ≡ true → (owner n ≡ i) × (first ≤ n) × (n < next)) → seen ≡ journal → IsKnown owner first next journal i record { numbers = k.numbers; seen = seen }
knows_all owner first next journal i k seen owned same = record { owned = owned; behind = ([], append-nil seen ∙ same, tt) }

-- owners and the next number change, but not for these numbers
pub renumber : (owner given : ℕ → ℕ) (first next more : ℕ) (journal : List Entry) (i j : ℕ) (k : Known) → IsKnown owner first next journal i k → ((n : ℕ) → has_number k.numbers n ≡ true → owner n ≡ i → n < next → given n ≡ j) → next ≤ more → IsKnown given first more journal j k
renumber owner given first next more journal i j k is same le = record {
  owned = λ n h. let o = is.owned n h in let l = o.2 in (same n h o.0 o.2, o.1, omega arith);
  behind = is.behind;
}
