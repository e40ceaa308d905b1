-- Lists of hooks, of which some are covered.
use Rattle.std.proofs.Common.{◌≡◌, ℕ, zero, suc, ◌+◌, ◌-◌, ◌<◌, ◌≤◌, Bool, true, false, cond, not, ◌||◌, List, [], ◌∷◌, ◌++◌, length, take, drop, get_or, set, replicate, None, Vec, Global, refl, sym, ap, ◌∙◌, subst, inl, inr, arith}
use Rattle.std.proofs.lemmas.Bool.{cases_Bool}
use Rattle.std.proofs.lemmas.List.{take_more, append-nil, append_assoc, length-take}
use Rattle.std.proofs.lemmas.List.Elements.{filter-append}
use Rattle.std.proofs.lemmas.List.Sums.{sum_by-append, count_by-le-length}
use Rattle.std.proofs.lemmas.List.Filters.{sum_by-filter_both}
use Rattle.std.proofs.lemmas.Grind.{flat_map-append}
use Rattle.std.specs.Borrow.{Bor}
use Rattle.ss_base.specs.declared.ids.ManifestId.{ManifestId}
use Rattle.ss_base.specs.declared.ids.Standing.{Standing}
use Rattle.ss_base.specs.Champions.{stands_in, hooks_covered, candidates, uncovered}
use Rattle.ss_base.proofs.MemberLaws.{In, in_append_left, in_append_right, count_one, count_other}
use Rattle.champion_choice.specs.Scores.{Kept, hooks_at, stamp_at, one_if}
use Rattle.champion_choice.specs.Lists.{shown, standings, left, remaining, marked, covered_by, HasAddedList, IsScored}

plus_one : (i : ℕ) → suc i ≡ i + 1
plus_one i = omega arith

-- ---- counts

pub count_append : (xs ys : List (List Standing)) (q : ManifestId) → hooks_covered (xs ++ ys) q ≡ hooks_covered xs q + hooks_covered ys q
unfolding hooks_covered
count_append xs ys q = sum_by-append (λ (stood : List Standing). cond (stands_in q stood) 1 0) xs ys

pub count_nil : (q : ManifestId) → hooks_covered [] q ≡ 0
unfolding hooks_covered
count_nil q = refl

pub count_single : (stood : List Standing) (q : ManifestId) → hooks_covered (stood ∷ []) q ≡ one_if (stands_in q stood)
unfolding hooks_covered
count_single stood q = elim (cases_Bool (stands_in q stood)) [
  | inl stands ↦ count_one (stands_in q) stood [] stands ∙ ap one_if (sym stands)
  | inr absent ↦ count_other (stands_in q) stood [] absent ∙ ap one_if (sym absent)
]

pub count_more : (lists : List (List Standing)) (i : ℕ) (d : List Standing) (q : ManifestId) → i < length lists → hooks_covered (take (i + 1) lists) q ≡ hooks_covered (take i lists) q + one_if (stands_in q (get_or lists i d))
count_more lists i d q below =
    ap (λ l. hooks_covered l q) (take_more lists i d below)
    ∙ count_append (take i lists) (get_or lists i d ∷ []) q
    ∙ ap (λ n. hooks_covered (take i lists) q + n) (count_single (get_or lists i d) q)

pub count_bound : (lists : List (List Standing)) (i : ℕ) (q : ManifestId) → i ≤ length lists → hooks_covered (take i lists) q ≤ i
unfolding hooks_covered
count_bound lists i q within =
    let fits = count_by-le-length (stands_in q) (take i lists) in
    let len = length-take i lists in
    omega (arith, fits, len)

-- a manifest covers some lists, and leaves the others
pub count_parts : (id q : ManifestId) (lists : List (List Standing)) → hooks_covered (covered_by id lists) q + hooks_covered (uncovered id lists) q ≡ hooks_covered lists q
unfolding hooks_covered uncovered
count_parts id q lists = sum_by-filter_both (stands_in id) (λ stood. not (stands_in id stood)) (λ stood. refl) (λ stood. cond (stands_in q stood) 1 0) lists

-- ---- what stands at some hook

pub candidates_append : (xs ys : List (List Standing)) → candidates (xs ++ ys) ≡ candidates xs ++ candidates ys
unfolding candidates
candidates_append xs ys = flat_map-append (λ (stood : List Standing). stood) xs ys

candidates_single : (stood : List Standing) → candidates (stood ∷ []) ≡ stood
unfolding candidates
candidates_single stood = append-nil stood

pub candidates_more : (lists : List (List Standing)) (i : ℕ) (d : List Standing) → i < length lists → candidates (take (i + 1) lists) ≡ candidates (take i lists) ++ get_or lists i d
candidates_more lists i d below =
    ap candidates (take_more lists i d below) ∙ candidates_append (take i lists) (get_or lists i d ∷ [])
    ∙ ap (λ l. candidates (take i lists) ++ l) (candidates_single (get_or lists i d))

-- no list has no scores
pub scored_none : (m : Kept) → m ≡ [] → IsScored m []
scored_none m empty = record {
  hooks = λ q. ap (λ es. hooks_at es q) empty ∙ sym (count_nil q);
  stamps = λ q t is. let none : stamp_at m q ≡ None = ap (λ es. stamp_at es q) empty in absurd (cc);
}

-- the scores of one list more
pub scored_more : (lists : List (List Standing)) (i : ℕ) (d : List Standing) (old new : Kept) → i < length lists
    → IsScored old (take i lists) → HasAddedList old new (get_or lists i d) → IsScored new (take (i + 1) lists)
scored_more lists i d old new below so to = record {
  hooks = λ q. to.hooks q ∙ ap (λ n. n + one_if (stands_in q (get_or lists i d))) (so.hooks q) ∙ sym (count_more lists i d q below);
  stamps = λ q t is.
      let x : Standing = record { id = q; stamp = t } in
      subst (λ (l : List Standing). In x l) (sym (candidates_more lists i d below)) (elim (to.stamps q t is) [
        | inl was ↦ in_append_left x (candidates (take i lists)) (get_or lists i d) (so.stamps q t was)
        | inr newer ↦ in_append_right x (candidates (take i lists)) (get_or lists i d) newer
      ]);
}

-- what stands in a list, and in those behind it
drop_candidates : (lists : List (List Standing)) (i : ℕ) (d : List Standing) → i < length lists → candidates (drop i lists) ≡ get_or lists i d ++ candidates (drop (suc i) lists)
unfolding candidates
drop_candidates [] i d below = absurd (omega arith)
drop_candidates (l ∷ ls) zero d below = refl
drop_candidates (l ∷ ls) (suc i) d below = drop_candidates ls i d (omega arith)

pub candidates_drop : (lists : List (List Standing)) (i : ℕ) (d : List Standing) → i < length lists → candidates (drop i lists) ≡ get_or lists i d ++ candidates (drop (i + 1) lists)
candidates_drop lists i d below = drop_candidates lists i d below ∙ ap (λ n. get_or lists i d ++ candidates (drop n lists)) (plus_one i)

-- ---- the hooks that are not covered

remaining_more : (flags : List Bool) (lists : List (List Standing)) (i : ℕ) (c : Bool) (d : List Standing) → i < length lists → length flags ≡ length lists
    → remaining (take (suc i) flags) (take (suc i) lists) ≡ remaining (take i flags) (take i lists) ++ left (get_or flags i c) (get_or lists i d)
remaining_more flags [] i c d below same = absurd (omega arith)
remaining_more [] (l ∷ ls) i c d below same = absurd (omega arith)
remaining_more (f ∷ fs) (l ∷ ls) zero c d below same = append-nil (left f l)
remaining_more (f ∷ fs) (l ∷ ls) (suc i) c d below same =
    ap (λ k. left f l ++ k) (remaining_more fs ls i c d (omega arith) (omega arith))
    ∙ sym (append_assoc (left f l) (remaining (take i fs) (take i ls)) (left (get_or fs i c) (get_or ls i d)))

pub remaining_in : (flags : List Bool) (lists : List (List Standing)) (stood : List Standing) → In stood (remaining flags lists) → In stood lists
remaining_in [] lists stood h = absurd h
remaining_in (f ∷ fs) [] stood h = absurd h
remaining_in (true ∷ fs) (l ∷ ls) stood h = inr (remaining_in fs ls stood h)
remaining_in (false ∷ fs) (l ∷ ls) stood (inl same) = inl same
remaining_in (false ∷ fs) (l ∷ ls) stood (inr later) = inr (remaining_in fs ls stood later)

pub remaining_all : (lists : List (List Standing)) → remaining (replicate (length lists) false) lists ≡ lists
remaining_all [] = refl
remaining_all (l ∷ ls) = ap (λ k. l ∷ k) (remaining_all ls)

-- the lists that the manifest covers, of the first ones
abbrev pub lost : ManifestId → List Bool → List (List Standing) → ℕ → ManifestId → ℕ
lost id flags lists i q = hooks_covered (covered_by id (remaining (take i flags) (take i lists))) q

pub lost_more : (id q : ManifestId) (flags : List Bool) (lists : List (List Standing)) (i : ℕ) (c : Bool) (d : List Standing) → i < length lists → length flags ≡ length lists
    → lost id flags lists (i + 1) q ≡ lost id flags lists i q + hooks_covered (covered_by id (left (get_or flags i c) (get_or lists i d))) q
lost_more id q flags lists i c d below same =
    let more = left (get_or flags i c) (get_or lists i d) in
    let before = remaining (take i flags) (take i lists) in
    ap (λ n. lost id flags lists n q) (sym (plus_one i))
    ∙ ap (λ l. hooks_covered (covered_by id l) q) (remaining_more flags lists i c d below same)
    ∙ ap (λ l. hooks_covered l q) (filter-append (stands_in id) before more)
    ∙ count_append (covered_by id before) (covered_by id more) q

less_sum : (a b c : ℕ) → (a - b) - c ≡ a - (b + c)
less_sum a b c = omega arith

pub no_less : (n : ℕ) → n ≡ n - 0
no_less n = omega arith

pub lost_none : (id q : ManifestId) (n : ℕ) → n ≡ n - hooks_covered [] q
lost_none id q n = no_less n ∙ ap (λ k. n - k) (sym (count_nil q))

-- one hook more has lost what the manifest covers
pub lost_step : (id q : ManifestId) (flags : List Bool) (lists : List (List Standing)) (i : ℕ) (c : Bool) (d : List Standing) (old mid new : ℕ) → i < length lists → length flags ≡ length lists
    → mid ≡ old - lost id flags lists i q → new ≡ mid - hooks_covered (covered_by id (left (get_or flags i c) (get_or lists i d))) q → new ≡ old - lost id flags lists (i + 1) q
lost_step id q flags lists i c d old mid new below same so to =
    to ∙ ap (λ n. n - hooks_covered (covered_by id (left (get_or flags i c) (get_or lists i d))) q) so
    ∙ less_sum old (lost id flags lists i q) (hooks_covered (covered_by id (left (get_or flags i c) (get_or lists i d))) q)
    ∙ ap (λ n. old - n) (sym (lost_more id q flags lists i c d below same))

-- what a list loses in which the manifest stands, and one in which it does not
pub covered_here : (id q : ManifestId) (stood : List Standing) → stands_in id stood ≡ true → hooks_covered (covered_by id (stood ∷ [])) q ≡ one_if (stands_in q stood)
covered_here id q stood stands = ap (λ b. hooks_covered (cond b (stood ∷ []) []) q) stands ∙ count_single stood q

pub covered_elsewhere : (id q : ManifestId) (stood : List Standing) → stands_in id stood ≡ false → hooks_covered (covered_by id (stood ∷ [])) q ≡ 0
covered_elsewhere id q stood absent = ap (λ b. hooks_covered (cond b (stood ∷ []) []) q) absent ∙ count_nil q

-- ---- hooks that become covered

marked_one : (id : ManifestId) (flags : List Bool) (lists : List (List Standing)) (i : ℕ) (c : Bool) (d : List Standing) → i < length lists → length flags ≡ length lists
    → marked id (take (suc i) lists) flags ≡ set (marked id (take i lists) flags) i (get_or (marked id (take i lists) flags) i c || stands_in id (get_or lists i d))
marked_one id flags [] i c d below same = absurd (omega arith)
marked_one id [] (l ∷ ls) i c d below same = absurd (omega arith)
marked_one id (f ∷ fs) (l ∷ ls) zero c d below same = refl
marked_one id (f ∷ fs) (l ∷ ls) (suc i) c d below same =
    ap (λ k. (f || stands_in id l) ∷ k) (marked_one id fs ls i c d (omega arith) (omega arith))

-- one hook more is marked
pub marked_more : (id : ManifestId) (flags : List Bool) (lists : List (List Standing)) (i : ℕ) (c : Bool) (d : List Standing) → i < length lists → length flags ≡ length lists
    → marked id (take (i + 1) lists) flags ≡ set (marked id (take i lists) flags) i (get_or (marked id (take i lists) flags) i c || stands_in id (get_or lists i d))
marked_more id flags lists i c d below same =
    ap (λ n. marked id (take n lists) flags) (sym (plus_one i)) ∙ marked_one id flags lists i c d below same

-- the next one is as it was
pub marked_next : (id : ManifestId) (flags : List Bool) (lists : List (List Standing)) (i : ℕ) (c : Bool) → get_or (marked id (take i lists) flags) i c ≡ get_or flags i c
marked_next id flags [] zero c = refl
marked_next id flags [] (suc i) c = refl
marked_next id [] (l ∷ ls) zero c = refl
marked_next id [] (l ∷ ls) (suc i) c = refl
marked_next id (f ∷ fs) (l ∷ ls) zero c = refl
marked_next id (f ∷ fs) (l ∷ ls) (suc i) c = marked_next id fs ls i c

pub length_marked : (id : ManifestId) (lists : List (List Standing)) (flags : List Bool) → length (marked id lists flags) ≡ length flags
length_marked id [] flags = refl
length_marked id (l ∷ ls) [] = refl
length_marked id (l ∷ ls) (f ∷ fs) = ap suc (length_marked id ls fs)

uncovered_nil : (id : ManifestId) → uncovered id [] ≡ []
unfolding uncovered
uncovered_nil id = refl

uncovered_cons : (id : ManifestId) (l : List Standing) (ls : List (List Standing)) → uncovered id (l ∷ ls) ≡ cond (not (stands_in id l)) (l ∷ uncovered id ls) (uncovered id ls)
unfolding uncovered
uncovered_cons id l ls = refl

-- what remains once the hooks of a manifest are covered
pub remaining_marked : (id : ManifestId) (flags : List Bool) (lists : List (List Standing)) → length flags ≡ length lists → remaining (marked id lists flags) lists ≡ uncovered id (remaining flags lists)
remaining_marked id [] [] same = sym (uncovered_nil id)
remaining_marked id [] (l ∷ ls) same = absurd (omega arith)
remaining_marked id (f ∷ fs) [] same = absurd (omega arith)
remaining_marked id (true ∷ fs) (l ∷ ls) same = remaining_marked id fs ls (omega arith)
remaining_marked id (false ∷ fs) (l ∷ ls) same =
    by (stands_in id l) (remaining (marked id ls fs) ls) (uncovered id (remaining fs ls)) (remaining_marked id fs ls (omega arith))
    ∙ sym (uncovered_cons id l (remaining fs ls))
  where
    by : (b : Bool) (xs ys : List (List Standing)) → xs ≡ ys → left b l ++ xs ≡ cond (not b) (l ∷ ys) ys
    by true xs ys e = e
    by false xs ys e = ap (λ k. l ∷ k) e

-- ---- the lists that slices show, and those that vectors hold

shown_at : (lists : List (Bor (List Standing))) (i : ℕ) (v : Bor (List Standing)) → get_or (shown lists) i v.now ≡ (get_or lists i v).now
shown_at [] i v = refl
shown_at (l ∷ ls) zero v = refl
shown_at (l ∷ ls) (suc i) v = shown_at ls i v

-- a loop's item is read with this default
abbrev pub no_slice : Bor (List Standing)
no_slice = record { ref_ptr = (0, 0); now = [] }

pub slice_at : (lists : List (Bor (List Standing))) (i : ℕ) → (get_or lists i no_slice).now ≡ get_or (shown lists) i []
slice_at lists i = sym (shown_at lists i no_slice)

pub items_at : (lists : List (Vec Standing Global)) (i : ℕ) (v : Vec Standing Global) → get_or (standings lists) i v.items ≡ (get_or lists i v).items
items_at [] i v = refl
items_at (l ∷ ls) zero v = refl
items_at (l ∷ ls) (suc i) v = items_at ls i v

pub item_at : (lists : List (Vec Standing Global)) (i : ℕ) (v : Vec Standing Global) (stood : List Standing) → stood ≡ v.items → v ≡ get_or lists i v → stood ≡ get_or (standings lists) i v.items
item_at lists i v stood same is = same ∙ ap (λ (w : Vec Standing Global). w.items) is ∙ sym (items_at lists i v)
