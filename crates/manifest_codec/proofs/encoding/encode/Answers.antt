use Rattle.std.proofs.Common.{◌≡◌, ◌<◌, [], ◌++◌, length, get_or, List, subst, sym, ap, ◌∙◌, append_assoc, arith}
use Rattle.std.proofs.lemmas.List.Elements.{All-more}
use Rattle.ss_base.specs.declared.ids.Place.{Place}
use Rattle.ss_base.specs.declared.name.Piece.{Piece}
use Rattle.manifest_codec.specs.PiecesPart.{piece_text, pieces_part}
use Rattle.manifest_codec.specs.Text.{place_text, IsPlace}
use Rattle.manifest_codec.proofs.FixedLaws.{write-more}
use Rattle.manifest_codec.proofs.encoding.encode.Goals as goal

pub loop-piece-preserved : goal.loop-piece-preserved
loop-piece-preserved c =
    let pieces = c.args.manifest.now.pieces.items in
    let i = c.loop-piece.piece-index in
    let none : Piece = record { name = record { 0 = [] }; len = 0 } in
    let lt : i < length pieces = omega arith in
    let held = c.deref-piece-items.ensures.value in
    record {
      text = c.in_ok-write_piece.ensures.text
          ∙ ap (λ (ps : List Piece). c.loop-piece.text.items ++ piece_text (get_or ps i none)) held
          ∙ ap (λ t. t ++ piece_text (get_or pieces i none)) c.loop-piece.invariant.text
          ∙ sym (write-more piece_text pieces i none lt);
      names = All-more (λ (p : Piece). length p.name.0 ≡ 32) pieces i none lt c.loop-piece.invariant.names
          (subst (λ (ps : List Piece). length (get_or ps i none).name.0 ≡ 32) held c.in_ok-write_piece.ensures.name);
    }

pub loop-place-preserved : goal.loop-place-preserved
loop-place-preserved c =
    let places = c.args.manifest.now.places.items in
    let front = pieces_part c.args.manifest.now.pieces.items in
    let i = c.loop-place.place-index in
    let none : Place = record { container = record { session = 0; ordinal = 0 }; offset = 0 } in
    let lt : i < length places = omega arith in
    let held = c.deref-place-items.ensures.value in
    record {
      text = c.in_ok-write_place.ensures.text
          ∙ ap (λ (ps : List Place). c.loop-place.text.items ++ place_text (get_or ps i none)) held
          ∙ ap (λ t. t ++ place_text (get_or places i none)) c.loop-place.invariant.text
          ∙ append_assoc front _ _
          ∙ ap (λ t. front ++ t) (sym (write-more place_text places i none lt));
      names = c.loop-place.invariant.names;
      numbers = All-more IsPlace places i none lt c.loop-place.invariant.numbers
          (subst (λ (ps : List Place). IsPlace (get_or ps i none)) held c.in_ok-write_place.ensures.numbers);
    }
