use Rattle.std.proofs.Common.{refl, ap}
use Rattle.std.specs.Prelude.{Err}
use Rattle.restore.specs.Copies.StreamCopy.{not_made}
use Rattle.restore.proofs.manifests.copy_stream.Goals as goal

pub returns-in-Err-clause-answer : goal.returns-in-Err-clause-answer
returns-in-Err-clause-answer g c = not_made c.in-Err.trouble (ap Err c.of_output.ensures) c.in-Err.ensures refl
