-- The puts of one more chunk.
use Rattle.std.proofs.Common.{◌≡◌, ℕ, ◌+◌, ◌-◌, Bool, true, false, nat_lt, nat_le, List, [], ◌∷◌, ◌++◌, map, length, refl, sym, ap, ◌∙◌, inl, inr, length-append, append-nil, arith}
use Rattle.std.specs.List.{range_with_len}
use Rattle.std.proofs.lemmas.Bool.{lt-ltb, le-ltb, le-leb}
use Rattle.std.proofs.lemmas.Bool.Decides.{nat_tests}
use Rattle.ss_base.specs.declared.ids.ContainerId.{ContainerId}
use Rattle.container_file.specs.declared.container_end.ContainerEnd.{ContainerEnd}
use Rattle.container_file.specs.Chunk.{Chunk}
use Rattle.container_file.specs.Layout.{opened, after, laid, end_after, Written, put_to, puts}
use Rattle.container_file.specs.Plan.{new_put, TakesPut}
use Rattle.container_file.specs.Plan.TakesPut.{last, fresh}
use Rattle.container_file.proofs.LayoutLaws.{Stays, Rises, opened_cases, ordinal_for, place_ordinal, ordinal_last, end_after-push, end_bounds, first_there, map_below, map-push, with_record, put_to-same, put_to-more, put_to-none}

-- the last items of two lists, and what comes before them
pub same_ends : {X : Type 0} (xs ys : List X) (x y : X) → xs ++ x ∷ [] ≡ ys ++ y ∷ [] → (xs ≡ ys) × (x ≡ y)
same_ends [] [] x y same = (refl, cc)
same_ends [] (b ∷ ys) x y same = let size = ap length same in let both = length-append ys (y ∷ []) in absurd (omega (arith, size, both))
same_ends (a ∷ xs) [] x y same = let size = ap length same in let both = length-append xs (x ∷ []) in absurd (omega (arith, size, both))
same_ends (a ∷ xs) (b ∷ ys) x y same =
    let first : a ≡ b = cc in
    let tail : xs ++ x ∷ [] ≡ ys ++ y ∷ [] = cc in
    let rest = same_ends xs ys x y tail in
    (ap (λ z. z ∷ xs) first ∙ ap (λ zs. b ∷ zs) rest.0, rest.1)

-- the id of the container to which the chunk goes
abbrev pub target : ContainerEnd → ℕ → List Chunk → Chunk → ContainerId
target end room cs c = record { session = end.session; ordinal = ordinal_for (end_after end room cs) room c.piece }

abbrev pub rises : ContainerEnd → ℕ → List Chunk → Chunk → Bool
rises end room cs c = nat_lt (end_after end room cs).containers (opened (end_after end room cs) room c.piece).containers

none_yet : (end : ContainerEnd) (room : ℕ) (o : ℕ) → put_to end room [] o ≡ new_put (record { session = end.session; ordinal = o }) (nat_le end.containers o)
unfolding put_to laid
none_yet end room o = ap (λ t. record { container = record { session = end.session; ordinal = o }; starts = nat_le end.containers o; bytes = t }) (append-nil _)

starts_alike : (end : ContainerEnd) (room : ℕ) (c : Chunk) → nat_le end.containers (ordinal_for end room c.piece) ≡ nat_lt end.containers (opened end room c.piece).containers
starts_alike end room c =
    let o = place_ordinal end room c.piece in
    elim (opened_cases end room c.piece) [
      | inl s ↦ (let e : (opened end room c.piece).containers ≡ end.containers = ap (λ (e : ContainerEnd). e.containers) s.same in let some = s.some in grind (arith, nat_tests, o, e))
      | inr r ↦ (let e = r.containers in grind (arith, nat_tests, o, e))
    ]

-- the first chunk
first_put : (end : ContainerEnd) (room : ℕ) (c : Chunk) → puts end room (c ∷ []) ≡ with_record (new_put (target end room [] c) (rises end room [] c)) c ∷ []
unfolding puts end_after
first_put end room c =
    let o = ordinal_for end room c.piece in
    let top = ordinal_last end room c.piece in
    let one : (after end room c.piece).containers - o ≡ 1 = omega (arith, top) in
    let starts : nat_le end.containers o ≡ rises end room [] c = starts_alike end room c in
    ap (λ n. map (put_to end room (c ∷ [])) (range_with_len o n)) one
    ∙ ap (λ w. w ∷ []) (put_to-more end room [] c o refl ∙ ap (λ w. with_record w c) (none_yet end room o ∙ ap (new_put (record { session = end.session; ordinal = o })) starts))

-- the puts of chunks, where there are any
abbrev counted : ContainerEnd → ℕ → Chunk → List Chunk → ℕ
counted end room d ds = (end_after end room (d ∷ ds)).containers - ordinal_for end room d.piece

puts-cons : (end : ContainerEnd) (room : ℕ) (d : Chunk) (ds : List Chunk) → puts end room (d ∷ ds) ≡ map (put_to end room (d ∷ ds)) (range_with_len (ordinal_for end room d.piece) (counted end room d ds))
unfolding puts
puts-cons end room d ds = refl

puts-nil : (end : ContainerEnd) (room : ℕ) → puts end room [] ≡ []
unfolding puts
puts-nil end room = refl

-- one more chunk, as the puts show it: those before its container's are the same
pushed : (end : ContainerEnd) (room : ℕ) (d : Chunk) (ds : List Chunk) (c : Chunk) (m : ℕ) →
    ordinal_for end room d.piece + m ≡ ordinal_for (end_after end room (d ∷ ds)) room c.piece →
    puts end room (d ∷ ds ++ c ∷ []) ≡ map (put_to end room (d ∷ ds)) (range_with_len (ordinal_for end room d.piece) m) ++ with_record (put_to end room (d ∷ ds) (ordinal_for (end_after end room (d ∷ ds)) room c.piece)) c ∷ []
pushed end room d ds c m place =
    let first = ordinal_for end room d.piece in
    let before = end_after end room (d ∷ ds) in
    let o = ordinal_for before room c.piece in
    let top = ordinal_last before room c.piece in
    let ends = ap (λ (e : ContainerEnd). e.containers) (end_after-push end room (d ∷ ds) c) in
    let count : counted end room d (ds ++ c ∷ []) ≡ m + 1 = omega (arith, top, ends, place) in
    let now = put_to end room (d ∷ ds ++ c ∷ []) in
    puts-cons end room d (ds ++ c ∷ [])
    ∙ ap (λ n. map now (range_with_len first n)) count
    ∙ map-push now first m o place
    ∙ ap (λ w. map now (range_with_len first m) ++ w ∷ []) (put_to-more end room (d ∷ ds) c o refl)
    ∙ ap (λ ws. ws ++ with_record (put_to end room (d ∷ ds) o) c ∷ []) (map_below now (put_to end room (d ∷ ds)) first m (λ p low high. put_to-same end room (d ∷ ds) c p (λ same. absurd (omega (arith, high, same, place)))))

not_both : (b : Bool) → b ≡ true → b ≡ false → ⊥
not_both b up flat = cc

-- a chunk that goes to a container which is there
stayed : (end : ContainerEnd) (room : ℕ) (d : Chunk) (ds : List Chunk) (c : Chunk) (old new : List Written) (put : Written) →
    old ≡ puts end room (d ∷ ds) → TakesPut (target end room (d ∷ ds) c) (rises end room (d ∷ ds) c) old new put →
    Stays (end_after end room (d ∷ ds)) (opened (end_after end room (d ∷ ds)) room c.piece) →
    new ++ with_record put c ∷ [] ≡ puts end room (d ∷ ds ++ c ∷ [])
stayed end room d ds c old new put is takes stays =
    let first = ordinal_for end room d.piece in
    let before = end_after end room (d ∷ ds) in
    let f = put_to end room (d ∷ ds) in
    let same : (opened before room c.piece).containers ≡ before.containers = ap (λ (e : ContainerEnd). e.containers) stays.same in
    let there = first_there end room d ds in
    let o = ordinal_for before room c.piece in
    let at = place_ordinal before room c.piece in
    let m = before.containers - 1 - first in
    let place : first + m ≡ o = omega (arith, at, same, there) in
    let count : counted end room d ds ≡ m + 1 = omega (arith, there) in
    let all : old ≡ map f (range_with_len first m) ++ f o ∷ [] = is ∙ puts-cons end room d ds ∙ ap (λ n. map f (range_with_len first n)) count ∙ map-push f first m o place in
    let flat : rises end room (d ∷ ds) c ≡ false = le-ltb before.containers (opened before room c.piece).containers (omega (arith, same)) in
    elim takes [
      | last not ends ↦
          let ends_are = same_ends new (map f (range_with_len first m)) put (f o) (sym ends ∙ all) in
          ap (λ ws. ws ++ with_record put c ∷ []) ends_are.0 ∙ ap (λ w. map f (range_with_len first m) ++ with_record w c ∷ []) ends_are.1 ∙ sym (pushed end room d ds c m place)
      | fresh (inl up) whole new_is ↦ absurd (not_both (rises end room (d ∷ ds) c) up flat)
      | fresh (inr none) whole new_is ↦
          let size = ap length (sym all ∙ none) in
          let both = length-append (map f (range_with_len first m)) (f o ∷ []) in
          absurd (omega (arith, size, both))
    ]

-- a chunk that starts a container
rose : (end : ContainerEnd) (room : ℕ) (d : Chunk) (ds : List Chunk) (c : Chunk) (old new : List Written) (put : Written) →
    old ≡ puts end room (d ∷ ds) → TakesPut (target end room (d ∷ ds) c) (rises end room (d ∷ ds) c) old new put →
    Rises (end_after end room (d ∷ ds)) (opened (end_after end room (d ∷ ds)) room c.piece) →
    new ++ with_record put c ∷ [] ≡ puts end room (d ∷ ds ++ c ∷ [])
rose end room d ds c old new put is takes rise =
    let first = ordinal_for end room d.piece in
    let before = end_after end room (d ∷ ds) in
    let f = put_to end room (d ∷ ds) in
    let same = rise.containers in
    let there = first_there end room d ds in
    let bounds = end_bounds end room (d ∷ ds) in
    let o = ordinal_for before room c.piece in
    let at = place_ordinal before room c.piece in
    let n = counted end room d ds in
    let top : before.containers ≡ o = omega (arith, at, same) in
    let place : first + n ≡ o = omega (arith, top, there) in
    let up : rises end room (d ∷ ds) c ≡ true = lt-ltb before.containers (opened before room c.piece).containers (omega (arith, same)) in
    let low : nat_le end.containers o ≡ true = le-leb end.containers o (omega (arith, top, bounds.0)) in
    let none : f o ≡ new_put (target end room (d ∷ ds) c) (rises end room (d ∷ ds) c) = put_to-none end room (d ∷ ds) o (omega (arith, top)) ∙ ap (new_put (target end room (d ∷ ds) c)) (low ∙ sym up) in
    elim takes [
      | last not ends ↦ absurd (not_both (rises end room (d ∷ ds) c) up not)
      | fresh which whole new_is ↦
          ap (λ ws. ws ++ with_record put c ∷ []) (whole ∙ is ∙ puts-cons end room d ds)
          ∙ ap (λ w. map f (range_with_len first n) ++ with_record w c ∷ []) (new_is ∙ sym none)
          ∙ sym (pushed end room d ds c n place)
    ]

-- the puts once a chunk is added to the put that it goes to
pub puts-push : (end : ContainerEnd) (room : ℕ) (cs : List Chunk) (c : Chunk) (old new : List Written) (put : Written) →
    old ≡ puts end room cs → TakesPut (target end room cs c) (rises end room cs c) old new put →
    new ++ with_record put c ∷ [] ≡ puts end room (cs ++ c ∷ [])
puts-push end room [] c old new put is (last not ends) =
    let size = ap length (sym (is ∙ puts-nil end room) ∙ ends) in
    let both = length-append new (put ∷ []) in
    absurd (omega (arith, size, both))
puts-push end room [] c old new put is (fresh which whole new_is) =
    ap (λ ws. ws ++ with_record put c ∷ []) (whole ∙ is ∙ puts-nil end room)
    ∙ ap (λ w. with_record w c ∷ []) new_is
    ∙ sym (first_put end room c)
puts-push end room (d ∷ ds) c old new put is takes =
    elim (opened_cases (end_after end room (d ∷ ds)) room c.piece) [
      | inl s ↦ stayed end room d ds c old new put is takes s
      | inr r ↦ rose end room d ds c old new put is takes r
    ]
