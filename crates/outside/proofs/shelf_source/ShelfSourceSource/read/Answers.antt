use Rattle.std.proofs.Common.{◌≡◌, ◌+◌, length, arith}
use Rattle.std.proofs.lemmas.Grind.{common_steps}
use Rattle.outside.proofs.ShelfLaws.{left_of-read}
use Rattle.outside.proofs.shelf_source.ShelfSourceSource.read.Goals as goal

pub returns-clause-bytes : goal.returns-clause-bytes
returns-clause-bytes g c =
    let place : c.args.self.now.at + c.len.result ≡ c.args.self.now.at + length c.in_ok-bytes.bytes.items = grind (arith, common_steps) in
    left_of-read _ _ c.args.self.now.name.now c.in_ok-bytes.bytes.items c.args.self.now.at c.args.max (c.args.self.now.at + c.len.result) c.read.ensures.held place c.in_ok-bytes.ensures.bytes
