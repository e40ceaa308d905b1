use Rattle.history.specs.Need.{erasable}
use Rattle.ss_base.proofs.MemberLaws.{in_Contains}
use Rattle.history_laws.proofs.ObjectLaws.{erasable_parts, never_wanted, reclaimed_parts}
use Rattle.history_laws.proofs.needs.never_wanted_again.Goals as goal

pub returns-clause-erasable : goal.returns-clause-erasable
returns-clause-erasable c = λ rules newer older object legal listed.
    let parts = erasable_parts object older (in_Contains object (erasable older) listed) in
    never_wanted rules newer older object legal parts.0 parts.1

pub returns-clause-reclaimed : goal.returns-clause-reclaimed
returns-clause-reclaimed c = λ rules past object legal named. (reclaimed_parts rules object past legal named).1
