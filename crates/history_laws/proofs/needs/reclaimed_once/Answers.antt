use Rattle.ss_base.specs.Ids.{same_object}
use Rattle.history.specs.Need.{erasable}
use Rattle.ss_base.proofs.ApartLaws.{IsDistinct-from_apart}
use Rattle.history_laws.proofs.ObjectLaws.{erasable_apart, reclaimed_before}
use Rattle.history_laws.proofs.needs.reclaimed_once.Goals as goal

pub returns-clause-erasable : goal.returns-clause-erasable
returns-clause-erasable c = λ past. IsDistinct-from_apart same_object (erasable past) (erasable_apart past)

pub returns-clause-reclaimed : goal.returns-clause-reclaimed
returns-clause-reclaimed c = λ rules entry past object. reclaimed_before rules object entry past
