use Rattle.std.proofs.Common.{◌≡◌, length, ap, ◌∙◌, arith, rules}
use Rattle.hex.proofs.HexLemmas.{length-encode_with}
use Rattle.chunk_name.proofs.hex_of.Goals as goal

pub returns-clause-len : goal.returns-clause-len
returns-clause-len c =
    let name : length c.args.name.now.0 ≡ 32 = search rules in
    let same : length c.as_slice.result.now ≡ length c.args.name.now.0 = ap length c.as_slice.ensures in
    ap length c.in_ok-text.ensures ∙ length-encode_with _ _ ∙ omega arith
