use Rattle.store_run.proofs.StatusLaws.{source_failed, is_store}
use Rattle.store_run.proofs.laws.whole_fault_lines.Goals as goal

pub returns-clause-source_fault : goal.returns-clause-source_fault
returns-clause-source_fault c = source_failed

pub returns-clause-already : goal.returns-clause-already
returns-clause-already c = is_store
