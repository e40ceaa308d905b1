use Rattle.lack_plan.proofs.OriginLaws.{origins-only, marks-origins}
use Rattle.lack_plan.proofs.laws.one_plan.Goals as goal

pub returns-clause-only : goal.returns-clause-only
returns-clause-only c = origins-only

pub returns-clause-marks : goal.returns-clause-marks
returns-clause-marks c = marks-origins
