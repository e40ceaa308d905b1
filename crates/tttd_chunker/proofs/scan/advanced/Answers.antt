use Rattle.std.proofs.Common.{◌<◌, length, sym, subst}
use Rattle.ss_base.specs.Profile.{numbers_of, AreSound}
use Rattle.tttd_chunker.proofs.ProgressLaws.{open-fresh}
use Rattle.tttd_chunker.proofs.scan.advanced.Goals as goal

pub returns-in-Fresh-clause-found : goal.returns-in-Fresh-clause-found
returns-in-Fresh-clause-found c =
    let sound = subst AreSound c.numbers-numbers.ensures.table c.numbers-numbers.ensures.sound in
    sym (open-fresh (numbers_of c.args.profile) c.args.bytes.now sound (subst (λ n. length c.args.bytes.now < n.tmin) c.numbers-numbers.ensures.table c.if-bytes-numbers.true))
