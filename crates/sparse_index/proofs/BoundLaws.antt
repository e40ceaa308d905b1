-- Lists of standings that are cut to a bound.
use Rattle.std.proofs.Common.{◌≡◌, ℕ, zero, suc, ◌+◌, ◌*◌, ◌<◌, ◌≤◌, Bool, true, false, cond, not, List, [], ◌∷◌, ◌++◌, length, take, get_or, Option, Some, None, refl, sym, ap, ◌∙◌, subst, inl, inr, arith}
use prog.Memory.{up}
use Rattle.std.specs.List.{filter, filter_map, cons_option, IsDistinct, AllByRecursion}
use Rattle.std.specs.Option.{option_to_list}
use Rattle.std.proofs.lemmas.Bool.{both_ways, cases_Bool, false_from_ne_true}
use Rattle.std.proofs.lemmas.List.{take_more, take_all, append-nil, length-append}
use Rattle.std.proofs.lemmas.List.Elements.{filter_more, filter_map-append}
use Rattle.std.proofs.lemmas.Map.Keys.{IsDistinct-head, IsDistinct-tail}
use Rattle.ss_base.specs.declared.ids.ManifestId.{ManifestId}
use Rattle.ss_base.specs.declared.ids.Standing.{Standing}
use Rattle.ss_base.specs.Ids.{same_manifest, has_manifest}
use Rattle.ss_base.specs.Standings.{in_front, standing_of, chosen_standings, others_standing, promoted, without_manifest}
use Rattle.ss_base.proofs.IdLaws.{same_manifest-self, same_manifest-true}
use Rattle.ss_base.proofs.MemberLaws.{In, find_in}
use Rattle.ss_base.proofs.StandingLaws.{without_more}

-- ---- cut lists

-- what is cut, with more, and cut again
pub take_twice : {X : Type 0} (n : ℕ) (xs ys : List X) → take n (take n xs ++ ys) ≡ take n (xs ++ ys)
take_twice zero xs ys = refl
take_twice (suc n) [] ys = refl
take_twice (suc n) (x ∷ xs) ys = ap (λ l. x ∷ l) (take_twice n xs ys)

pub fits_none : {X : Type 0} (n : ℕ) (xs : List X) → length xs ≤ n → xs ≡ take n (xs ++ [])
fits_none n xs within = sym (take_all n xs within) ∙ ap (take n) (sym (append-nil xs))

-- the cut list of what was added and of what is added now
pub cut_more : {X : Type 0} (n : ℕ) (old new so more : List X) → old ≡ take n so → new ≡ take n (old ++ more) → new ≡ take n (so ++ more)
cut_more n old new so more was is = is ∙ ap (λ l. take n (l ++ more)) was ∙ take_twice n so more

-- ---- what stands, without some

pub unless_kept : (goes : Bool) (s : Standing) → option_to_list (cond goes None (Some s)) ≡ cond (not goes) (s ∷ []) []
unless_kept true s = refl
unless_kept false s = refl

filter_length : {X : Type 0} (p : X → Bool) (xs : List X) → length (filter p xs) ≤ length xs
filter_length p [] = omega arith
filter_length p (x ∷ xs) =
    let rest = filter_length p xs in
    elim (cases_Bool (p x)) [ inl passes ↦ rw passes (omega (arith, rest)) | inr fails ↦ rw fails (omega (arith, rest)) ]

filter_shorter : {X : Type 0} (p : X → Bool) (x : X) (xs : List X) → In x xs → p x ≡ false → length (filter p xs) + 1 ≤ length xs
filter_shorter p x [] h fails = absurd h
filter_shorter p x (y ∷ ys) (inl same) fails =
    let here : p y ≡ false = ap p same ∙ fails in
    let rest = filter_length p ys in
    rw here (omega (arith, rest))
filter_shorter p x (y ∷ ys) (inr later) fails =
    let rest = filter_shorter p x ys later fails in
    elim (cases_Bool (p y)) [ inl passes ↦ rw passes (omega (arith, rest)) | inr other ↦ rw other (omega (arith, rest)) ]

pub without_length : (id : ManifestId) (stood : List Standing) → length (without_manifest id stood) ≤ length stood
unfolding without_manifest
without_length id stood = filter_length (λ (s : Standing). not (same_manifest s.id id)) stood

-- ---- promotion

chosen_nil : (stood : List Standing) → chosen_standings [] stood ≡ []
unfolding chosen_standings
chosen_nil stood = refl

chosen_cons : (id : ManifestId) (ids : List ManifestId) (stood : List Standing) → chosen_standings (id ∷ ids) stood ≡ cons_option (standing_of id stood) (chosen_standings ids stood)
unfolding chosen_standings
chosen_cons id ids stood = refl

pub chosen_more : (ids : List ManifestId) (stood : List Standing) (i : ℕ) (d : ManifestId) → i < length ids → chosen_standings (take (i + 1) ids) stood ≡ chosen_standings (take i ids) stood ++ option_to_list (standing_of (get_or ids i d) stood)
unfolding chosen_standings
chosen_more ids stood i d below =
    ap (λ l. filter_map (λ id. standing_of id stood) l) (take_more ids i d below)
    ∙ filter_map-append (λ id. standing_of id stood) (take i ids) (get_or ids i d ∷ [])
    ∙ ap (λ l. filter_map (λ id. standing_of id stood) (take i ids) ++ l) (one (standing_of (get_or ids i d) stood))
  where
    one : (o : Option Standing) → cons_option o [] ≡ option_to_list o
    one None = refl
    one (Some s) = refl

pub others_more : (ids : List ManifestId) (stood : List Standing) (i : ℕ) (d : Standing) → i < length stood → others_standing ids (take (i + 1) stood) ≡ others_standing ids (take i stood) ++ option_to_list (cond (has_manifest (get_or stood i d).id ids) None (Some (get_or stood i d)))
unfolding others_standing
others_more ids stood i d below =
    filter_more (λ (s : Standing). not (has_manifest s.id ids)) stood i d below
    ∙ ap (λ l. filter (λ (s : Standing). not (has_manifest s.id ids)) (take i stood) ++ l) (sym (unless_kept (has_manifest (get_or stood i d).id ids) (get_or stood i d)))

pub without_manifest_more : (id : ManifestId) (stood : List Standing) (i : ℕ) (d : Standing) → i < length stood → without_manifest id (take (i + 1) stood) ≡ without_manifest id (take i stood) ++ option_to_list (cond (same_manifest (get_or stood i d).id id) None (Some (get_or stood i d)))
unfolding without_manifest
without_manifest_more id stood i d below =
    filter_more (λ (s : Standing). not (same_manifest s.id id)) stood i d below
    ∙ ap (λ l. filter (λ (s : Standing). not (same_manifest s.id id)) (take i stood) ++ l) (sym (unless_kept (same_manifest (get_or stood i d).id id) (get_or stood i d)))

pub others_nil : (stood : List Standing) → others_standing [] stood ≡ stood
unfolding others_standing has_manifest
others_nil [] = refl
others_nil (x ∷ xs) = ap (λ l. x ∷ l) (others_nil xs)

pub others_none : (ids : List ManifestId) → others_standing ids [] ≡ []
unfolding others_standing
others_none ids = refl

pub without_none : (id : ManifestId) → without_manifest id [] ≡ []
unfolding without_manifest
without_none id = refl

-- one who stands, and goes, leaves the list shorter
without_shorter : (id : ManifestId) (s : Standing) (stood : List Standing) → standing_of id stood ≡ Some s → length (without_manifest id stood) + 1 ≤ length stood
unfolding standing_of without_manifest
without_shorter id s stood is =
    let found = find_in (λ (x : Standing). same_manifest id x.id) stood s is in
    let same : id ≡ s.id = same_manifest-true id s.id found.1 in
    let goes : not (same_manifest s.id id) ≡ false = ap not (subst (λ (q : ManifestId). same_manifest q id ≡ true) same (same_manifest-self id)) in
    filter_shorter (λ (x : Standing). not (same_manifest x.id id)) s stood found.0 goes

-- one who is not the other stands as before once the other went
stands_still : (id other : ManifestId) (stood : List Standing) → same_manifest other id ≡ false → standing_of id (without_manifest other stood) ≡ standing_of id stood
unfolding standing_of without_manifest
stands_still id other [] apart = refl
stands_still id other (x ∷ xs) apart = elim (cases_Bool (same_manifest x.id other)) [
  | inl goes ↦
      let no_id : same_manifest id x.id ≡ false = false_from_ne_true (same_manifest id x.id) (λ same.
      let here : other ≡ id = sym (same_manifest-true x.id other goes) ∙ sym (same_manifest-true id x.id same) in
      both_ways (same_manifest other id) apart (subst (λ (q : ManifestId). same_manifest other q ≡ true) here (same_manifest-self other))) in
      rw goes (rw no_id (stands_still id other xs apart))
  | inr stays ↦ rw stays (elim (cases_Bool (same_manifest id x.id)) [
    | inl found ↦ rw found refl
    | inr past ↦ rw past (stands_still id other xs apart)
  ])
]

chosen_still : (ids : List ManifestId) (other : ManifestId) (stood : List Standing) → AllByRecursion (λ (id : ManifestId). same_manifest other id ≡ false) ids → chosen_standings ids (without_manifest other stood) ≡ chosen_standings ids stood
chosen_still [] other stood apart = chosen_nil (without_manifest other stood) ∙ sym (chosen_nil stood)
chosen_still (id ∷ ids) other stood apart =
    chosen_cons id ids (without_manifest other stood)
    ∙ ap (λ o. cons_option o (chosen_standings ids (without_manifest other stood))) (stands_still id other stood apart.0)
    ∙ ap (λ l. cons_option (standing_of id stood) l) (chosen_still ids other stood apart.1)
    ∙ sym (chosen_cons id ids stood)

pub promoted_length : (ids : List ManifestId) (stood : List Standing) → IsDistinct same_manifest ids → length (chosen_standings ids stood) + length (others_standing ids stood) ≤ length stood
promoted_length [] stood distinct =
    let a = ap length (chosen_nil stood) in
    let b = ap length (others_nil stood) in
    omega (arith, a, b)
promoted_length (id ∷ ids) stood distinct =
    let fewer = promoted_length ids (without_manifest id stood) (IsDistinct-tail same_manifest id ids distinct) in
    let same = ap length (chosen_still ids id stood (IsDistinct-head same_manifest id ids distinct)) in
    let others = ap length (without_more id ids stood) in
    let chosen = ap length (chosen_cons id ids stood) in
    by (standing_of id stood) refl fewer same others chosen
  where
    by : (o : Option Standing) → standing_of id stood ≡ o
        → length (chosen_standings ids (without_manifest id stood)) + length (others_standing ids (without_manifest id stood)) ≤ length (without_manifest id stood)
        → length (chosen_standings ids (without_manifest id stood)) ≡ length (chosen_standings ids stood)
        → length (others_standing (id ∷ ids) stood) ≡ length (others_standing ids (without_manifest id stood))
        → length (chosen_standings (id ∷ ids) stood) ≡ length (cons_option (standing_of id stood) (chosen_standings ids stood))
        → length (chosen_standings (id ∷ ids) stood) + length (others_standing (id ∷ ids) stood) ≤ length stood
    by None is fewer same others chosen =
        let e = chosen ∙ ap (λ o. length (cons_option o (chosen_standings ids stood))) is in
        let w = without_length id stood in
        omega (arith, e, fewer, same, others, w)
    by (Some s) is fewer same others chosen =
        let e = chosen ∙ ap (λ o. length (cons_option o (chosen_standings ids stood))) is in
        let w = without_shorter id s stood is in
        omega (arith, e, fewer, same, others, w)

-- what the loops of a promotion, a new manifest and one that goes leave
pub promoted_whole : (n : ℕ) (ids : List ManifestId) (stood : List Standing) → IsDistinct same_manifest ids → length stood ≤ n → take n (chosen_standings ids stood ++ others_standing ids stood) ≡ promoted ids stood
unfolding promoted
promoted_whole n ids stood distinct within =
    let fits = promoted_length ids stood distinct in
    let long = length-append (chosen_standings ids stood) (others_standing ids stood) in
    take_all n (chosen_standings ids stood ++ others_standing ids stood) (omega (arith, fits, long, within))

pub without_whole : (n : ℕ) (id : ManifestId) (stood : List Standing) → length stood ≤ n → take n (without_manifest id stood) ≡ without_manifest id stood
without_whole n id stood within = let fewer = without_length id stood in take_all n (without_manifest id stood) (omega (arith, fewer, within))

pub front_whole : (n : ℕ) (s : Standing) (stood : List Standing) → take n (s ∷ stood) ≡ in_front n s stood
unfolding in_front
front_whole n s stood = refl

pub chosen_none : (stood : List Standing) → chosen_standings [] stood ≡ []
chosen_none stood = chosen_nil stood

pub take_none : {X : Type 0} (n : ℕ) → ◌≡◌ {A = List X} [] (take n [])
take_none zero = refl
take_none (suc n) = refl

-- ---- the memory of a list

-- a list of at most 255 takes less than the largest object
pub size_fits : (l : ℕ) → l ≤ 255 → up 8 (up 1 (up 8 (0 + up 4 (0 + l * 12)) + 8) + 0) < 9223372036854775808
size_fits l few = omega arith
