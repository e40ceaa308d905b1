use Rattle.store_run.proofs.ListingLaws.{listed-told, refused-told, apart}
use Rattle.store_run.proofs.laws.listed_or_refused.Goals as goal

pub returns-clause-listed : goal.returns-clause-listed
returns-clause-listed c = listed-told

pub returns-clause-refused : goal.returns-clause-refused
returns-clause-refused c = refused-told

pub returns-clause-apart : goal.returns-clause-apart
returns-clause-apart c = apart
