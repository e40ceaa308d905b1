use Rattle.std.proofs.Common.{◌+◌, [], ◌∷◌, ◌++◌, refl, sym, ap, ◌∙◌, arith}
use Rattle.std.proofs.lemmas.List.Elements.{All-push}
use Rattle.container_file.specs.declared.scanning.ScanRecord.{ScanRecord}
use Rattle.container_file.specs.Chunk.{IsChunk, the_chunk}
use Rattle.container_file.specs.Text.{records_text}
use Rattle.container_file.specs.Scanned.{records_from}
use Rattle.container_file.proofs.TextLaws.{records_text-push, length-records_text-push, records_from-push}
use Rattle.container_file.proofs.scanning.scan_records.Goals as goal

pub loop-rest-init : goal.loop-rest-init
unfolding records_from
loop-rest-init c = record {
  done = [];
  chunks = λ k d lt. absurd (omega arith);
  text = refl;
  found = c.new-found.ensures.items;
  place = refl;
}

pub loop-rest-preserved : goal.loop-rest-preserved
loop-rest-preserved c =
    let before = c.loop-rest.invariant in
    let chunk = the_chunk c.in-Some.piece c.in-Some.field-0-1.now in
    let is : IsChunk chunk = c.in-Some.ensures.chunk in
    let one : ScanRecord = record { piece = c.in-Some.piece; offset = c.loop-rest.at + 36 } in
    record {
      done = before.done ++ chunk ∷ [];
      chunks = All-push IsChunk before.done chunk before.chunks is;
      text = records_text-push before.done chunk c.in-Some.next.now ∙ ap (λ t. records_text before.done ++ t) c.in-Some.ensures.found ∙ before.text;
      found = c.in_ok-push.ensures.items ∙ ap (λ rs. rs ++ one ∷ []) before.found ∙ sym (records_from-push 16 c.loop-rest.at before.done chunk before.chunks before.place);
      place = (let size = length-records_text-push before.done chunk is in omega (arith, size, before.place));
    }
