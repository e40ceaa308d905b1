use Rattle.ss_base.specs.Profile.{numbers_of}
use Rattle.whole_objects.proofs.RecordLaws.{put-laid, put-stopped}
use Rattle.whole_objects.proofs.putting.puts_are_laid_out.Goals as goal

pub returns-clause-done : goal.returns-clause-done
returns-clause-done c = λ profile streams session past chunks located shelf objects small most told hold. put-laid (numbers_of profile) streams session past chunks located shelf objects small most told hold

pub returns-clause-stopped : goal.returns-clause-stopped
returns-clause-stopped c = λ profile streams session past chunks located shelf after objects trouble small most told stopped.
    let grown = put-stopped (numbers_of profile) streams session past chunks located shelf objects small after trouble most told stopped in
    (grown.now, grown.held_is, grown.grow.others, grown.grow.grown)
