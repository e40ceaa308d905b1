use Rattle.std.proofs.Common.{subst}
use Rattle.std.specs.Prelude.{Result}
use Rattle.ss_base.specs.Profile.{numbers_of}
use Rattle.ss_base.proofs.SoundLaws.{AreSound-numbers_of}
use Rattle.depot.specs.declared.fault.RestoreFault.{RestoreFault}
use Rattle.restore.specs.Restores.{StateCalls, RestoreAnswer}
use Rattle.restored_streams.proofs.StreamLaws.{IsKnown}
use Rattle.restored_streams.proofs.CallLaws.{answered_undamaged}
use Rattle.restored_streams.proofs.AnsweredLaws.{answered_so}
use Rattle.restored_streams.proofs.laws.restores_answer.Goals as goal

pub returns : goal.returns
returns c = λ profile rules streams objects files before after author session name output old new result legal entries of_streams whole is answer cause held told absent none.
    let n = numbers_of profile in
    let known : IsKnown n streams rules _ = record { sound = AreSound-numbers_of profile; legal = legal; entries = entries; of_streams = of_streams } in
    answered_so before after author name session files output old new result is answer cause told absent none
    (λ fault failed.
    answered_undamaged n streams rules objects before after author name output old new fault known whole
    (subst (λ (r : Result _ RestoreFault). RestoreAnswer (StateCalls before author name after) output old new r) failed answer) held)
