use Rattle.std.proofs.Common.{◌≡◌, ◌*◌, ◌/◌, ◌++◌, length, take, sym, ap, ◌∙◌, arith, Err}
use Rattle.std.proofs.lemmas.List.{take_at, take-append-drop}
use Rattle.std.proofs.lemmas.Result.{err_from_is_err_and}
use Rattle.manifest_codec.specs.declared.decoding.DecodeFault.TheVariants.{NotManifest}
use Rattle.manifest_codec.specs.PiecesPart.{piece_text, pieces_part}
use Rattle.manifest_codec.specs.Text.{places_part, manifest_text, AreManifest}
use Rattle.manifest_codec.proofs.FixedLaws.{length-texts}
use Rattle.manifest_codec.proofs.TextLaws.{length-manifest_text, piece_sizes, same_manifest}
use Rattle.manifest_codec.proofs.decoding.decode.Goals as goal
use Rattle.manifest_codec.proofs.decoding.decode.Goals.{then-text-ne0-via-then-text-ne0, then-text-ne0-via-else-text-ne0+then-count-eq0, then-text-ne0-via-else-text-ne0+else-count-eq0+then-count-gt-MAX_CHUNKS}

pub returns-then-text-ne0-clause-refused : goal.returns-then-text-ne0-clause-refused
returns-then-text-ne0-clause-refused c = λ _ pieces places are same.
    let len = sym (ap length same) ∙ length-manifest_text pieces places are in
    let some = are.listed.some in
    let bounded = are.listed.bounded in
    elim c.then-text-ne0.branch [
      | then-text-ne0-via-then-text-ne0 w ↦ omega (arith, len)
      | then-text-ne0-via-else-text-ne0+then-count-eq0 w ↦ omega (arith, len)
      | then-text-ne0-via-else-text-ne0+else-count-eq0+then-count-gt-MAX_CHUNKS w ↦ omega (arith, len)
    ]

pub returns-in_err-read_pieces-clause-refused : goal.returns-in_err-read_pieces-clause-refused
returns-in_err-read_pieces-clause-refused c = λ refused pieces places are same.
    let p = err_from_is_err_and c.from_residual.result c.from_residual.ensures.1 in
    let fault : c.in_err-read_pieces.field-0.0 ≡ NotManifest = cc (p.1, p.2, refused) in
    let len = sym (ap length same) ∙ length-manifest_text pieces places are in
    let front_len = length-texts piece_text 36 pieces (piece_sizes pieces are.names) in
    let front : pieces_part pieces ≡ c.split_at.result.0.now =
    sym (c.split_at.ensures.front ∙ ap (take (length c.args.text.now / 48 * 36)) (sym same)
    ∙ take_at (pieces_part pieces) (places_part places) (length c.args.text.now / 48 * 36) (omega (arith, len, front_len))) in
    c.in_err-read_pieces.ensures.refused (ap Err fault) pieces are.names are.listed.lengths front

pub returns-clause-only : goal.returns-clause-only
returns-clause-only c =
    let pieces = c.in_ok-read_pieces.field-0.items in
    let places = c.in_ok-read_places.field-0.items in
    let text = c.args.text.now in
    let read : manifest_text pieces places ≡ text =
    ap (λ t. t ++ places_part places) (c.in_ok-read_pieces.ensures.read ∙ c.split_at.ensures.front)
    ∙ ap (λ t. take (length text / 48 * 36) text ++ t) (c.in_ok-read_places.ensures.read ∙ c.split_at.ensures.back)
    ∙ take-append-drop (length text / 48 * 36) text in
    let many = c.in_ok-read_pieces.ensures.count in
    let located = c.in_ok-read_places.ensures.count in
    let are : AreManifest pieces places = record {
      listed = record {
        some = omega (arith, many);
        bounded = omega (arith, many);
        lengths = c.in_ok-read_pieces.ensures.lengths;
        located = located ∙ sym many;
      };
      names = c.in_ok-read_pieces.ensures.names;
      numbers = c.in_ok-read_places.ensures.numbers;
    } in
    λ others spots other same. same_manifest pieces others places spots are other (read ∙ sym same)
