-- Laws of what lies in one container.
use Rattle.std.proofs.Common.{◌≡◌, ◌≢◌, ◌⊎◌, ℕ, ◌+◌, ◌<◌, ◌≤◌, true, false, nat_eq, nat_le, List, [], ◌∷◌, ◌++◌, map, length, All, refl, sym, subst, ap, ◌∙◌, inl, inr, append_assoc, arith, length-append}
use Rattle.std.specs.List.{flat_map}
use Rattle.std.proofs.lemmas.Bool.{ne_eqb, le-leb}
use Rattle.std.proofs.lemmas.Bool.Decides.{nat_tests}
use Rattle.std.proofs.lemmas.List.Elements.{All-cons}
use Rattle.std.proofs.lemmas.List.Folds.{flat_map-map}
use Rattle.std.proofs.lemmas.Grind.{flat_map-append}
use Rattle.ss_base.specs.declared.name.Piece.{Piece}
use Rattle.container_file.specs.declared.container_end.ContainerEnd.{ContainerEnd}
use Rattle.container_file.specs.declared.scanning.ScanRecord.{ScanRecord}
use Rattle.container_file.specs.Chunk.{Chunk, IsChunk}
use Rattle.container_file.specs.Text.{header, record_text, records_text, container_text}
use Rattle.container_file.specs.Scanned.{records_from, records_of}
use Rattle.container_file.specs.Layout.{opened, after, place_for, Laid, laid, laid_in, put_to}
use Rattle.container_file.specs.Containers.{id_of, chunks_in, records_in}
use Rattle.container_file.proofs.TextLaws.{All-first, All-rest, records_from-append}
use Rattle.container_file.proofs.LayoutLaws.{opened_cases, ordinal_for, ordinal_last, after_bounds, after_containers, if-true, if-false, either}

-- the place and the end, by where the record's container ends
after_used : (end : ContainerEnd) (room : ℕ) (p : Piece) → (after end room p).used ≡ (opened end room p).used + 36 + p.len
unfolding after
after_used end room p = refl

place_offset : (end : ContainerEnd) (room : ℕ) (p : Piece) → (place_for end room p).offset ≡ (opened end room p).used + 36
unfolding place_for
place_offset end room p = refl

abbrev here : ContainerEnd → ℕ → Chunk → Laid
here end room c = record { chunk = c; place = place_for end room c.piece }

-- the first chunk lies in this container, or in another
in_first : (end : ContainerEnd) (room : ℕ) (c : Chunk) (cs : List Chunk) (o : ℕ) → ordinal_for end room c.piece ≡ o → laid_in o (laid end room (c ∷ cs)) ≡ here end room c ∷ laid_in o (laid (after end room c.piece) room cs)
unfolding laid
in_first end room c cs o same =
    let is : nat_eq (ordinal_for end room c.piece) o ≡ true = grind (arith, nat_tests) in
    if-true (nat_eq (ordinal_for end room c.piece) o) (here end room c ∷ laid_in o (laid (after end room c.piece) room cs)) (laid_in o (laid (after end room c.piece) room cs)) is

in_others : (end : ContainerEnd) (room : ℕ) (c : Chunk) (cs : List Chunk) (o : ℕ) → ordinal_for end room c.piece ≢ o → laid_in o (laid end room (c ∷ cs)) ≡ laid_in o (laid (after end room c.piece) room cs)
unfolding laid
in_others end room c cs o other =
    if-false (nat_eq (ordinal_for end room c.piece) o) (here end room c ∷ laid_in o (laid (after end room c.piece) room cs)) (laid_in o (laid (after end room c.piece) room cs)) (ne_eqb (ordinal_for end room c.piece) o other)

in_none : (end : ContainerEnd) (room : ℕ) (o : ℕ) → laid_in o (laid end room []) ≡ []
unfolding laid
in_none end room o = refl

least_or_above : (a o : ℕ) → a ≤ o → (o ≡ a) ⊎ (a < o)
least_or_above a o le = grind arith

-- nothing more goes to a container before the last one
pub none_in : (end : ContainerEnd) (room : ℕ) (cs : List Chunk) (o : ℕ) → o + 1 < end.containers → laid_in o (laid end room cs) ≡ []
none_in end room [] o low = in_none end room o
none_in end room (c ∷ cs) o low =
    let top = ordinal_last end room c.piece in
    let bounds = after_bounds end room c.piece in
    in_others end room c cs o (λ same. absurd (omega (arith, top, bounds.0, same, low))) ∙ none_in (after end room c.piece) room cs o (omega (arith, bounds.0, low))

abbrev shown : List Laid → List ScanRecord
shown ls = map (λ (l : Laid). record { piece = l.chunk.piece; offset = l.place.offset }) ls

abbrev chunks : List Laid → List Chunk
chunks ls = map (λ (l : Laid). l.chunk) ls

-- the chunks that lie in the last container have their places behind what is there
pub places-last : (end : ContainerEnd) (room : ℕ) (cs : List Chunk) (o : ℕ) → end.containers ≡ o + 1 → records_from end.used (chunks_in end room cs o) ≡ records_in end room cs o
unfolding records_from
places-last end room [] o last = ap (λ ls. records_from end.used (chunks ls)) (in_none end room o) ∙ ap shown (sym (in_none end room o))
places-last end room (c ∷ cs) o last =
    let top = ordinal_last end room c.piece in
    let a = after_containers end room c.piece in
    let used = after_used end room c.piece in
    let offset = place_offset end room c.piece in
    let next = after end room c.piece in
    elim (opened_cases end room c.piece) [
      | inl s ↦
          let count : (opened end room c.piece).containers ≡ end.containers = ap (λ (e : ContainerEnd). e.containers) s.same in
          let at : (opened end room c.piece).used ≡ end.used = ap (λ (e : ContainerEnd). e.used) s.same in
          let first = in_first end room c cs o (omega (arith, top, a, count, last)) in
          let place : end.used + 36 ≡ (place_for end room c.piece).offset = omega (arith, at, offset) in
          let behind : end.used + 36 + c.piece.len ≡ next.used = omega (arith, at, used) in
          ap (λ ls. records_from end.used (chunks ls)) first
          ∙ ap (λ n. record { piece = c.piece; offset = n } ∷ records_from (end.used + 36 + c.piece.len) (chunks_in next room cs o)) place
          ∙ ap (λ n. record { piece = c.piece; offset = (place_for end room c.piece).offset } ∷ records_from n (chunks_in next room cs o)) behind
          ∙ ap (λ rs. record { piece = c.piece; offset = (place_for end room c.piece).offset } ∷ rs) (places-last next room cs o (omega (arith, a, count, last)))
          ∙ ap shown (sym first)
      | inr r ↦
          let count = r.containers in
          let none : laid_in o (laid end room (c ∷ cs)) ≡ [] = in_others end room c cs o (λ same. absurd (omega (arith, top, a, count, last, same))) ∙ none_in next room cs o (omega (arith, a, count, last)) in
          ap (λ ls. records_from end.used (chunks ls)) none ∙ ap shown (sym none)
    ]

-- the chunks that lie in a new container have their places behind its header
pub places-new : (end : ContainerEnd) (room : ℕ) (cs : List Chunk) (o : ℕ) → end.containers ≤ o → records_of (chunks_in end room cs o) ≡ records_in end room cs o
unfolding records_from
places-new end room [] o new = ap (λ ls. records_from 16 (chunks ls)) (in_none end room o) ∙ ap shown (sym (in_none end room o))
places-new end room (c ∷ cs) o new =
    let top = ordinal_last end room c.piece in
    let a = after_containers end room c.piece in
    let used = after_used end room c.piece in
    let offset = place_offset end room c.piece in
    let next = after end room c.piece in
    elim (opened_cases end room c.piece) [
      | inl s ↦
          let count : (opened end room c.piece).containers ≡ end.containers = ap (λ (e : ContainerEnd). e.containers) s.same in
          let others = in_others end room c cs o (λ same. absurd (omega (arith, top, a, count, new, same))) in
          ap (λ ls. records_from 16 (chunks ls)) others ∙ places-new next room cs o (omega (arith, a, count, new)) ∙ ap shown (sym others)
      | inr r ↦
          let count = r.containers in
          let at = r.used in
          elim (least_or_above end.containers o new) [
            | inl same ↦
                let first = in_first end room c cs o (omega (arith, top, a, count, same)) in
                let place : 52 ≡ (place_for end room c.piece).offset = omega (arith, at, offset) in
                let behind : 52 + c.piece.len ≡ next.used = omega (arith, at, used) in
                ap (λ ls. records_from 16 (chunks ls)) first
                ∙ ap (λ n. record { piece = c.piece; offset = n } ∷ records_from (52 + c.piece.len) (chunks_in next room cs o)) place
                ∙ ap (λ n. record { piece = c.piece; offset = (place_for end room c.piece).offset } ∷ records_from n (chunks_in next room cs o)) behind
                ∙ ap (λ rs. record { piece = c.piece; offset = (place_for end room c.piece).offset } ∷ rs) (places-last next room cs o (omega (arith, a, count, same)))
                ∙ ap shown (sym first)
            | inr above ↦
                let others = in_others end room c cs o (λ same. absurd (omega (arith, top, a, count, above, same))) in
                ap (λ ls. records_from 16 (chunks ls)) others ∙ places-new next room cs o (omega (arith, a, count, above)) ∙ ap shown (sym others)
          ]
    ]

same_or_not : (a b : ℕ) → (a ≡ b) ⊎ (a ≢ b)
same_or_not a b = elim (either (nat_eq a b)) [ inl is ↦ inl (grind (arith, nat_tests)) | inr not ↦ inr (λ same. absurd (grind (arith, nat_tests))) ]

pub are-chunks : (end : ContainerEnd) (room : ℕ) (cs : List Chunk) (o : ℕ) → All IsChunk cs → All IsChunk (chunks_in end room cs o)
are-chunks end room [] o all = subst (λ ls. All IsChunk (chunks ls)) (sym (in_none end room o)) (λ k d lt. absurd (omega arith))
are-chunks end room (c ∷ cs) o all =
    let next = after end room c.piece in
    let rest = are-chunks next room cs o (All-rest IsChunk c cs all) in
    elim (same_or_not (ordinal_for end room c.piece) o) [
      | inl same ↦ subst (λ ls. All IsChunk (chunks ls)) (sym (in_first end room c cs o same)) (All-cons IsChunk c (chunks_in next room cs o) (All-first IsChunk c cs all) rest)
      | inr other ↦ subst (λ ls. All IsChunk (chunks ls)) (sym (in_others end room c cs o other)) rest
    ]

-- what is put to a new container is its text, and what is put to the last one goes on with it
pub text-new : (end : ContainerEnd) (room : ℕ) (cs : List Chunk) (o : ℕ) → end.containers ≤ o → container_text (id_of end o) (chunks_in end room cs o) ≡ (put_to end room cs o).bytes
unfolding put_to
text-new end room cs o new =
    let starts : nat_le end.containers o ≡ true = le-leb end.containers o new in
    ap (λ t. header (id_of end o) ++ t) (flat_map-map record_text (λ (l : Laid). l.chunk) (laid_in o (laid end room cs)))
    ∙ ap (λ t. t ++ flat_map (λ (l : Laid). record_text l.chunk) (laid_in o (laid end room cs))) (sym (if-true (nat_le end.containers o) (header (id_of end o)) [] starts))

pub text-last : (end : ContainerEnd) (room : ℕ) (cs old : List Chunk) (o : ℕ) → end.containers ≡ o + 1 → container_text (id_of end o) (old ++ chunks_in end room cs o) ≡ container_text (id_of end o) old ++ (put_to end room cs o).bytes
unfolding put_to
text-last end room cs old o last =
    let starts : nat_le end.containers o ≡ false = grind (arith, nat_tests) in
    let records = flat_map (λ (l : Laid). record_text l.chunk) (laid_in o (laid end room cs)) in
    ap (λ t. header (id_of end o) ++ t) (flat_map-append record_text old (chunks_in end room cs o) ∙ ap (λ t. records_text old ++ t) (flat_map-map record_text (λ (l : Laid). l.chunk) (laid_in o (laid end room cs))))
    ∙ sym (append_assoc (header (id_of end o)) (records_text old) records)
    ∙ ap (λ t. container_text (id_of end o) old ++ (t ++ records)) (sym (if-false (nat_le end.containers o) (header (id_of end o)) [] starts))

pub places-behind : (end : ContainerEnd) (room : ℕ) (cs old : List Chunk) (o : ℕ) → end.containers ≡ o + 1 → All IsChunk old → end.used ≡ length (container_text (id_of end o) old) → records_of (old ++ chunks_in end room cs o) ≡ records_of old ++ records_in end room cs o
places-behind end room cs old o last are used =
    let size : end.used ≡ 16 + length (records_text old) = used ∙ length-append (header (id_of end o)) (records_text old) in
    records_from-append 16 old (chunks_in end room cs o) are
    ∙ ap (λ n. records_of old ++ records_from n (chunks_in end room cs o)) (sym size)
    ∙ ap (λ rs. records_of old ++ rs) (places-last end room cs o last)
