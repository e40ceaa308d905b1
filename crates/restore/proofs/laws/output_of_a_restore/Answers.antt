use Rattle.restore.proofs.OutputLaws.{output-joined, more_output}
use Rattle.restore.proofs.HeldLaws.{names_read, digests_read, chunks_held, texts_held}
use Rattle.restore.proofs.laws.output_of_a_restore.Goals as goal

pub returns-clause-joined : goal.returns-clause-joined
returns-clause-joined c = output-joined

pub returns-clause-more : goal.returns-clause-more
returns-clause-more c = more_output

pub returns-clause-names : goal.returns-clause-names
returns-clause-names c = names_read

pub returns-clause-digests : goal.returns-clause-digests
returns-clause-digests c = digests_read

pub returns-clause-chunks : goal.returns-clause-chunks
returns-clause-chunks c = chunks_held

pub returns-clause-texts : goal.returns-clause-texts
returns-clause-texts c = texts_held
