-- The order of names of streams tells them apart.
use Rattle.std.proofs.Common.{◌≡◌, ℕ, ◌-◌, List, [], ◌∷◌, ◌++◌, length, take, replicate, refl, sym, ap, ◌∙◌}
use Rattle.std.specs.Ordering.{nat_cmp}
use Rattle.std.specs.Cmp.{IsTotalOrder}
use Rattle.std.specs.Cmp.Lexicographic.{slice_cmp}
use Rattle.std.proofs.lemmas.Map.Lookups.{CmpEqualImpliesEq, exact_bytes, exact_pairs, exact_unsigned}
use Rattle.ss_base.specs.contracts.stream_name.StreamNameOrd.TheImpl.Laws.{total-law}
use Rattle.legal_history.specs.Names.{name_cmp}

pub names_total : IsTotalOrder name_cmp
names_total = total-law

front : (a zeros : List ℕ) → take (length a) (a ++ zeros) ≡ a
front [] zeros = refl
front (x ∷ a) zeros = ap (λ l. x ∷ l) (front a zeros)

padding : List ℕ → List ℕ
padding a = replicate (64 - length a) 0

pub exact_names : CmpEqualImpliesEq name_cmp
unfolding padding
exact_names a b h =
    let same = exact_pairs (slice_cmp nat_cmp) nat_cmp exact_bytes exact_unsigned (a ++ padding a, length a) (b ++ padding b, length b) h in
    sym (front a (padding a)) ∙ ap (λ (p : List ℕ × ℕ). take p.1 p.0) same ∙ front b (padding b)
