-- One more place.
use Rattle.std.proofs.Common.{◌≡◌, ℕ, ◌+◌, ◌<◌, ◌≤◌, List, [], ◌∷◌, ◌++◌, length, drop, get_or, sym, ap, ◌∙◌, subst, append_assoc, append-nil}
use Rattle.std.proofs.lemmas.List.{drop_all}
use Rattle.ss_base.specs.declared.ids.Place.{Place}
use Rattle.lack_plan.specs.declared.origin.Origin.{Origin}
use Rattle.segment_plan.specs.Plan.{place_from, left_from, placed_behind}
use Rattle.segment_plan.specs.Placing.{IsThere, AreThere}
use Rattle.segment_plan.proofs.ChunkLaws.{further}

pub next-place : (done : List Place) (os : List Origin) (i : ℕ) (d : Origin) (fresh : List Place) (lists : List (List Place)) (whole : List Place) → i < length os →
    done ++ placed_behind done (drop i os) fresh lists ≡ whole →
    (done ++ place_from (get_or os i d) done fresh lists ∷ [])
    ++ placed_behind (done ++ place_from (get_or os i d) done fresh lists ∷ []) (drop (i + 1) os) (left_from (get_or os i d) fresh) lists
    ≡ whole
unfolding placed_behind
next-place done os i d fresh lists whole lt is =
    let o = get_or os i d in
    let p = place_from o done fresh lists in
    append_assoc done (p ∷ []) (placed_behind (done ++ p ∷ []) (drop (i + 1) os) (left_from o fresh) lists)
    ∙ ap (λ (rest : List Origin). done ++ placed_behind done rest fresh lists) (sym (further os i d lt))
    ∙ is

pub next-there : (done : List Place) (os : List Origin) (i : ℕ) (d : Origin) (fresh : List Place) (lists : List (List Place)) → i < length os →
    AreThere done (drop i os) fresh lists →
    IsThere (get_or os i d) done fresh lists
    × AreThere (done ++ place_from (get_or os i d) done fresh lists ∷ []) (drop (i + 1) os) (left_from (get_or os i d) fresh) lists
unfolding AreThere
next-there done os i d fresh lists lt all = subst (λ (rest : List Origin). AreThere done rest fresh lists) (further os i d lt) all

pub all-placed : (done : List Place) (os : List Origin) (i : ℕ) (fresh : List Place) (lists : List (List Place)) (whole : List Place) → length os ≤ i →
    done ++ placed_behind done (drop i os) fresh lists ≡ whole → done ≡ whole
unfolding placed_behind
all-placed done os i fresh lists whole high is =
    sym (append-nil done) ∙ ap (λ (rest : List Origin). done ++ placed_behind done rest fresh lists) (sym (drop_all i os high)) ∙ is
