use Rattle.std.proofs.Common.{◌≡◌, ◌*◌, length, take, All}
use Rattle.manifest_codec.specs.Text.{places_part, IsPlace}
use Rattle.manifest_codec.proofs.decoding.read_places.Given as goal

abbrev pub invariant-loop-i : goal.invariant-loop-i
invariant-loop-i l = record {
  read : places_part l.places.items ≡ take (12 * l.i) l.text;
  count : length l.places.items ≡ l.i;
  numbers : All IsPlace l.places.items;
}
