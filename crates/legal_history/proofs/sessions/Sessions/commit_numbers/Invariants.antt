use Rattle.std.proofs.Common.{◌≡◌, map, take}
use Rattle.legal_history.specs.Rows.{commit_number}
use Rattle.legal_history.proofs.sessions.Sessions.commit_numbers.Given as goal

abbrev pub invariant-loop-id : goal.invariant-loop-id
invariant-loop-id l = l.numbers.items ≡ map (commit_number l.self) (take l.id-index l.ids)
