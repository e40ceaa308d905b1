-- Laws of the layout: what one more chunk changes.
use Rattle.std.proofs.Common.{◌≡◌, ◌≢◌, ◌⊎◌, ℕ, zero, suc, ◌+◌, ◌-◌, ◌<◌, ◌≤◌, Bool, true, false, nat_le, nat_eq, List, [], ◌∷◌, ◌++◌, map, length, refl, sym, ap, ◌∙◌, inl, inr, append_assoc, append-nil, arith, if◌then◌else◌}
use Rattle.std.specs.List.{flat_map, range_with_len}
use Rattle.std.proofs.lemmas.Bool.{ne_eqb}
use Rattle.std.proofs.lemmas.List.{map-append}
use Rattle.std.proofs.lemmas.List.Elements.{filter-append}
use Rattle.std.proofs.lemmas.Grind.{flat_map-append}
use Rattle.std.proofs.lemmas.Bool.Decides.{nat_tests}
use Rattle.ss_base.specs.declared.name.Piece.{Piece}
use Rattle.container_file.specs.declared.container_end.ContainerEnd.{ContainerEnd}
use Rattle.container_file.specs.Chunk.{Chunk}
use Rattle.container_file.specs.Text.{header, record_text}
use Rattle.container_file.specs.Layout.{fits, opened, after, place_for, Laid, laid, end_after, Written, laid_in, put_to}
use Rattle.container_file.specs.Plan.{new_put}

-- a container is opened: the last one, or one more
pub record Stays (end to : ContainerEnd) : Type 0 where
  pub same : to ≡ end
  pub some : 0 < end.containers

pub record Rises (end to : ContainerEnd) : Type 0 where
  pub session : to.session ≡ end.session
  pub containers : to.containers ≡ end.containers + 1
  pub used : to.used ≡ 16

pub if-true : {X : Type 0} (b : Bool) (x y : X) → b ≡ true → (if b then x else y) ≡ x
if-true b x y is = rw is refl

pub if-false : {X : Type 0} (b : Bool) (x y : X) → b ≡ false → (if b then x else y) ≡ y
if-false b x y is = rw is refl

pub either : (b : Bool) → (b ≡ true) ⊎ (b ≡ false)
either true = inl refl
either false = inr refl

fits-some : (end : ContainerEnd) (room : ℕ) (p : Piece) → fits end room p ≡ true → 0 < end.containers
fits-some end room p is = grind (arith, nat_tests)

pub opened_cases : (end : ContainerEnd) (room : ℕ) (p : Piece) → Stays end (opened end room p) ⊎ Rises end (opened end room p)
unfolding opened
opened_cases end room p = elim (either (fits end room p)) [
  | inl is ↦ inl (record { same = if-true (fits end room p) end _ is; some = fits-some end room p is })
  | inr is ↦
      let same = if-false (fits end room p) end (record { session = end.session; containers = end.containers + 1; used = 16 }) is in
      inr (record { session = ap (λ (e : ContainerEnd). e.session) same; containers = ap (λ (e : ContainerEnd). e.containers) same; used = ap (λ (e : ContainerEnd). e.used) same })
]

-- the container of a record
abbrev pub ordinal_for : ContainerEnd → ℕ → Piece → ℕ
ordinal_for end room p = (place_for end room p).container.ordinal

pub place_ordinal : (end : ContainerEnd) (room : ℕ) (p : Piece) → ordinal_for end room p ≡ (opened end room p).containers - 1
unfolding place_for
place_ordinal end room p = refl

pub after_containers : (end : ContainerEnd) (room : ℕ) (p : Piece) → (after end room p).containers ≡ (opened end room p).containers
unfolding after
after_containers end room p = refl

pub after_session : (end : ContainerEnd) (room : ℕ) (p : Piece) → (after end room p).session ≡ end.session
unfolding after
after_session end room p = elim (opened_cases end room p) [
  | inl s ↦ ap (λ (e : ContainerEnd). e.session) s.same
  | inr r ↦ r.session
]

-- the container of a record is the last one, and none goes
pub ordinal_last : (end : ContainerEnd) (room : ℕ) (p : Piece) → ordinal_for end room p + 1 ≡ (after end room p).containers
ordinal_last end room p =
    let o = place_ordinal end room p in
    let a = after_containers end room p in
    elim (opened_cases end room p) [
      | inl s ↦ (let e : (opened end room p).containers ≡ end.containers = ap (λ (e : ContainerEnd). e.containers) s.same in let some = s.some in omega (arith, o, a, e))
      | inr r ↦ (let e = r.containers in omega (arith, o, a, e))
    ]

pub after_bounds : (end : ContainerEnd) (room : ℕ) (p : Piece) → (end.containers ≤ (after end room p).containers) × ((after end room p).containers ≤ end.containers + 1)
after_bounds end room p =
    let a = after_containers end room p in
    elim (opened_cases end room p) [
      | inl s ↦ (let e : (opened end room p).containers ≡ end.containers = ap (λ (e : ContainerEnd). e.containers) s.same in (omega (arith, a, e), omega (arith, a, e)))
      | inr r ↦ (let e = r.containers in (omega (arith, a, e), omega (arith, a, e)))
    ]

-- one more chunk
pub end_after-push : (end : ContainerEnd) (room : ℕ) (cs : List Chunk) (c : Chunk) → end_after end room (cs ++ c ∷ []) ≡ after (end_after end room cs) room c.piece
unfolding end_after
end_after-push end room [] c = refl
end_after-push end room (d ∷ cs) c = end_after-push (after end room d.piece) room cs c

abbrev pub placed : ContainerEnd → ℕ → List Chunk → Chunk → Laid
placed end room cs c = record { chunk = c; place = place_for (end_after end room cs) room c.piece }

pub laid-push : (end : ContainerEnd) (room : ℕ) (cs : List Chunk) (c : Chunk) → laid end room (cs ++ c ∷ []) ≡ laid end room cs ++ placed end room cs c ∷ []
unfolding end_after laid
laid-push end room [] c = refl
laid-push end room (d ∷ cs) c = ap (λ ls. record { chunk = d; place = place_for end room d.piece } ∷ ls) (laid-push (after end room d.piece) room cs c)

pub end_session : (end : ContainerEnd) (room : ℕ) (cs : List Chunk) → (end_after end room cs).session ≡ end.session
unfolding end_after
end_session end room [] = refl
end_session end room (c ∷ cs) = end_session (after end room c.piece) room cs ∙ after_session end room c.piece

pub end_bounds : (end : ContainerEnd) (room : ℕ) (cs : List Chunk) → (end.containers ≤ (end_after end room cs).containers) × ((end_after end room cs).containers ≤ end.containers + length cs)
unfolding end_after
end_bounds end room [] = (omega arith, omega arith)
end_bounds end room (c ∷ cs) =
    let one = after_bounds end room c.piece in
    let rest = end_bounds (after end room c.piece) room cs in
    (omega (arith, one.0, rest.0), omega (arith, one.1, rest.1))

-- the first container that is touched is there in the end
pub first_there : (end : ContainerEnd) (room : ℕ) (c : Chunk) (cs : List Chunk) → ordinal_for end room c.piece < (end_after end room (c ∷ cs)).containers
unfolding end_after
first_there end room c cs =
    let one = ordinal_last end room c.piece in
    let rest = end_bounds (after end room c.piece) room cs in
    omega (arith, one, rest.0)

-- no chunk lies in a container that is not there
pub none_laid : (end : ContainerEnd) (room : ℕ) (cs : List Chunk) (o : ℕ) → (end_after end room cs).containers ≤ o → laid_in o (laid end room cs) ≡ []
unfolding end_after laid
none_laid end room [] o high = refl
none_laid end room (c ∷ cs) o high =
    let first = first_there end room c cs in
    let not : nat_eq (ordinal_for end room c.piece) o ≡ false = ne_eqb (ordinal_for end room c.piece) o (λ same. absurd (omega (arith, first, high, same))) in
    if-false (nat_eq (ordinal_for end room c.piece) o) (record { chunk = c; place = place_for end room c.piece } ∷ laid_in o (laid (after end room c.piece) room cs)) (laid_in o (laid (after end room c.piece) room cs)) not
    ∙ none_laid (after end room c.piece) room cs o high

-- lists of puts
pub map_below : {X : Type 0} (f g : ℕ → X) (a n : ℕ) → ((o : ℕ) → a ≤ o → o < a + n → f o ≡ g o) → map f (range_with_len a n) ≡ map g (range_with_len a n)
map_below f g a zero same = refl
map_below f g a (suc n) same =
    ap (λ x. x ∷ map f (range_with_len (a + 1) n)) (same a (omega arith) (omega arith))
    ∙ ap (λ xs. g a ∷ xs) (map_below f g (a + 1) n (λ o low high. same o (omega arith) (omega arith)))

pub range-push : (a n : ℕ) → range_with_len a (n + 1) ≡ range_with_len a n ++ (a + n) ∷ []
range-push a zero = ap (λ x. x ∷ []) (omega arith)
range-push a (suc n) =
    let count : suc n + 1 ≡ suc (n + 1) = omega arith in
    let next : a + 1 + n ≡ a + suc n = omega arith in
    ap (range_with_len a) count ∙ ap (λ xs. a ∷ xs) (range-push (a + 1) n ∙ ap (λ x. range_with_len (a + 1) n ++ x ∷ []) next)

pub map-push : {X : Type 0} (f : ℕ → X) (a n o : ℕ) → a + n ≡ o → map f (range_with_len a (n + 1)) ≡ map f (range_with_len a n) ++ f o ∷ []
map-push f a n o same = ap (map f) (range-push a n) ∙ map-append f (range_with_len a n) ((a + n) ∷ []) ∙ ap (λ x. map f (range_with_len a n) ++ f x ∷ []) same

-- what one more chunk adds to a container
abbrev pub with_record : Written → Chunk → Written
with_record w c = record { container = w.container; starts = w.starts; bytes = w.bytes ++ record_text c }

laid_in-push : (end : ContainerEnd) (room : ℕ) (cs : List Chunk) (c : Chunk) (o : ℕ) → laid_in o (laid end room (cs ++ c ∷ [])) ≡ laid_in o (laid end room cs) ++ laid_in o (placed end room cs c ∷ [])
laid_in-push end room cs c o = ap (laid_in o) (laid-push end room cs c) ∙ filter-append (λ (l : Laid). nat_eq l.place.container.ordinal o) (laid end room cs) (placed end room cs c ∷ [])

abbrev records_in : List Laid → List ℕ
records_in ls = flat_map (λ (l : Laid). record_text l.chunk) ls

abbrev starting : ContainerEnd → ℕ → List ℕ
starting end o = if nat_le end.containers o then header (record { session = end.session; ordinal = o }) else []

pub put_to-same : (end : ContainerEnd) (room : ℕ) (cs : List Chunk) (c : Chunk) (o : ℕ) → o ≢ ordinal_for (end_after end room cs) room c.piece → put_to end room (cs ++ c ∷ []) o ≡ put_to end room cs o
unfolding put_to
put_to-same end room cs c o other =
    let not : nat_eq (ordinal_for (end_after end room cs) room c.piece) o ≡ false = ne_eqb _ o (λ same. other (sym same)) in
    let none : laid_in o (placed end room cs c ∷ []) ≡ [] = if-false (nat_eq (ordinal_for (end_after end room cs) room c.piece) o) (placed end room cs c ∷ []) [] not in
    let here = laid_in-push end room cs c o ∙ ap (λ ls. laid_in o (laid end room cs) ++ ls) none ∙ append-nil (laid_in o (laid end room cs)) in
    ap (λ ls. record { container = record { session = end.session; ordinal = o }; starts = nat_le end.containers o; bytes = starting end o ++ records_in ls }) here

pub put_to-more : (end : ContainerEnd) (room : ℕ) (cs : List Chunk) (c : Chunk) (o : ℕ) → o ≡ ordinal_for (end_after end room cs) room c.piece → put_to end room (cs ++ c ∷ []) o ≡ with_record (put_to end room cs o) c
unfolding put_to
put_to-more end room cs c o same =
    let is : nat_eq (ordinal_for (end_after end room cs) room c.piece) o ≡ true = grind (arith, nat_tests) in
    let one : laid_in o (placed end room cs c ∷ []) ≡ placed end room cs c ∷ [] = if-true (nat_eq (ordinal_for (end_after end room cs) room c.piece) o) (placed end room cs c ∷ []) [] is in
    let here = laid_in-push end room cs c o ∙ ap (λ ls. laid_in o (laid end room cs) ++ ls) one in
    let added = ap records_in here ∙ flat_map-append (λ (l : Laid). record_text l.chunk) (laid_in o (laid end room cs)) (placed end room cs c ∷ []) ∙ ap (λ t. records_in (laid_in o (laid end room cs)) ++ t) (append-nil (record_text c)) in
    ap (λ t. record { container = record { session = end.session; ordinal = o }; starts = nat_le end.containers o; bytes = t })
    (ap (λ t. starting end o ++ t) added ∙ sym (append_assoc (starting end o) (records_in (laid_in o (laid end room cs))) (record_text c)))

-- to a container that is not there, nothing has been added but its header
pub put_to-none : (end : ContainerEnd) (room : ℕ) (cs : List Chunk) (o : ℕ) → (end_after end room cs).containers ≤ o → put_to end room cs o ≡ new_put (record { session = end.session; ordinal = o }) (nat_le end.containers o)
unfolding put_to
put_to-none end room cs o high =
    ap (λ ls. record { container = record { session = end.session; ordinal = o }; starts = nat_le end.containers o; bytes = starting end o ++ records_in ls }) (none_laid end room cs o high)
    ∙ ap (λ t. record { container = record { session = end.session; ordinal = o }; starts = nat_le end.containers o; bytes = t }) (append-nil (starting end o))
