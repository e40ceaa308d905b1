use Rattle.std.proofs.Common.{sym, subst, arith}
use Rattle.std.specs.Str.{IsUtf8}
use Rattle.report.proofs.NameLaws.{IsUtf8-stream_name}
use Rattle.report.proofs.names.name_text.Goals as goal

pub unwrap-requires : goal.unwrap-requires
unwrap-requires c =
    let is_text = subst IsUtf8 (sym c.bytes.ensures.bytes) (IsUtf8-stream_name _ c.bytes.ensures.name) in
    grind (arith, is_text, c.from_utf8.ensures.cases)
