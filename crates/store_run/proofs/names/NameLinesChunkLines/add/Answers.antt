use Rattle.std.proofs.Common.{sym, subst}
use Rattle.std.proofs.lemmas.Result.{IfOk-weaker}
use Rattle.store_run.specs.Lines.{IsLines}
use Rattle.store_run.proofs.LineLaws.{IsLines-piece}
use Rattle.store_run.proofs.names.NameLinesChunkLines.add.Goals as goal

pub returns-clause-whole : goal.returns-clause-whole
returns-clause-whole c = IfOk-weaker c.piece_line.result _ _ (λ line is. subst IsLines (sym is) (IsLines-piece _)) c.piece_line.ensures
