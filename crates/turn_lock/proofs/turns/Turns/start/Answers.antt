use Rattle.std.proofs.Common.{rules, ◌≡◌, ◌∷◌, [], Some}
use Rattle.turn_lock.proofs.Starting.{starts}
use Rattle.turn_lock.proofs.turns.Turns.start.Goals as goal

pub new-requires : goal.new-requires
new-requires g c =
    let items : c.push.new.self.items ≡ Some c.args.state ∷ [] = search rules in
    let state : c.of.result.value ≡ c.args.state = search rules in
    rw (items, state) (starts g.T.Logged.entries g.T.Logged.base c.args.state c.args.first (search rules) c.requires.authors)
