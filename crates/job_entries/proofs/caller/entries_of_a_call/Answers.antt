use Rattle.job_entries.proofs.AddsLaws.{adds-none, adds-then, adds-at_turn, adds-no_more}
use Rattle.job_entries.proofs.caller.entries_of_a_call.Goals as goal

pub returns-clause-entry : goal.returns-clause-entry
returns-clause-entry g c = λ standings champions author seen after point at. adds-at_turn g.O.Others.others author standings champions seen at.turn after point at.is_turn at.done

pub returns-clause-none : goal.returns-clause-none
returns-clause-none g c = λ standings champions author seen after at. adds-no_more g.O.Others.others author standings champions seen at.turn after at.is_turn at.done

pub returns-clause-nothing : goal.returns-clause-nothing
returns-clause-nothing g c = λ author seen. adds-none g.O.Others.others author seen

pub returns-clause-both : goal.returns-clause-both
returns-clause-both g c = λ author before between after points more one two. adds-then g.O.Others.others author before between after points more one two
