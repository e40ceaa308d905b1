use Rattle.run_streams.proofs.ClosedStoreLaws.{runs_keep_closed, first_closed}
use Rattle.run_streams.proofs.WholeRunLaws.{run_keeps_store, runs_keep_store, same_store, first_store}
use Rattle.run_streams.proofs.laws.stores_stay_whole.Goals as goal

pub returns-clause-one : goal.returns-clause-one
returns-clause-one c = λ streams before after store run is. run_keeps_store streams before after store run is

pub returns-clause-many : goal.returns-clause-many
returns-clause-many c = λ streams before after store runs is. runs_keep_store streams before after store runs is

pub returns-clause-same : goal.returns-clause-same
returns-clause-same c = λ streams depot one other is is_too. same_store streams depot one other is is_too

pub returns-clause-first : goal.returns-clause-first
returns-clause-first c = λ streams depot objects profile told text. first_store streams depot objects profile told text

pub returns-clause-first_closed : goal.returns-clause-first_closed
returns-clause-first_closed c = λ streams depot objects profile told text. first_closed streams depot objects profile told text

pub returns-clause-closed : goal.returns-clause-closed
returns-clause-closed c = λ streams before after store runs is. runs_keep_closed streams before after store runs is
