use Rattle.std.proofs.Common.{arith}
use Rattle.job_script.proofs.PathLaws.{IsUtf8-visible}
use Rattle.job_script.proofs.path_text.PathText.as_str.Goals as goal

pub unwrap-requires : goal.unwrap-requires
unwrap-requires c =
    let is_text = IsUtf8-visible _ c.self.invariant.bytes in
    grind (arith, is_text, c.from_utf8.ensures.cases)
