use Rattle.stored_streams.proofs.SecondBackupLaws.{all_asked, byte_alone}
use Rattle.stored_streams.proofs.laws.stored_can_be_shown.Goals as goal

pub returns-clause-shown : goal.returns-clause-shown
returns-clause-shown c = λ profile bytes is. all_asked profile bytes is

pub returns-clause-byte : goal.returns-clause-byte
returns-clause-byte c = λ profile byte. byte_alone profile byte
