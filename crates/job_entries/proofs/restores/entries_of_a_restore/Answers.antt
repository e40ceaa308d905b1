use Rattle.job_entries.proofs.RestoreLaws.{restore-adds, restore_alone-adds}
use Rattle.job_entries.proofs.restores.entries_of_a_restore.Goals as goal

pub returns-clause-beside_others : goal.returns-clause-beside_others
returns-clause-beside_others g c = λ standings champions name output before after shelves shelves' result answer.
    restore-adds g.O.Others.others standings champions before name after output shelves shelves' result answer

pub returns-clause-alone : goal.returns-clause-alone
returns-clause-alone g c = λ author name output before after shelves shelves' result answer.
    restore_alone-adds before author name after output shelves shelves' result answer
