use Rattle.std.proofs.Common.{rules}
use Rattle.outside.proofs.ShelfLaws.{CreateLeaves-front}
use Rattle.outside.proofs.torn_shelf.TornShelfShelf.create.Goals as goal

pub returns-then-next_fails-clause-torn : goal.returns-then-next_fails-clause-torn
returns-then-next_fails-clause-torn c = CreateLeaves-front c.args.self.now.held c.fault.new.self.held c.args.name.now c.args.bytes.now c.args.self.now.keep (search rules)
