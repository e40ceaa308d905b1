use Rattle.history_calls.proofs.TurnLaws.{open_at_turn, begun_open, chosen_open}
use Rattle.history_calls.proofs.laws.sessions_of_a_caller.Goals as goal

pub returns-clause-turn : goal.returns-clause-turn
returns-clause-turn c = λ standings champions author s k n choice seen turn is at. open_at_turn (λ came. Unit {0}) standings champions author s choice k n seen turn is at

pub returns-clause-begun : goal.returns-clause-begun
returns-clause-begun c = λ standings champions author s name seen after begun. begun_open (λ came. Unit {0}) standings champions author s name seen after begun

pub returns-clause-chosen : goal.returns-clause-chosen
returns-clause-chosen c = λ standings champions author s k n hooks choice seen after chosen at. chosen_open (λ came. Unit {0}) standings champions author s k n hooks choice seen after chosen at
