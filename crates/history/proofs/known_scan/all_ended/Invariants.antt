use Rattle.std.proofs.Common.{◌≡◌, map, reverse}
use Rattle.std.specs.List.{range_with_len}
use Rattle.history.specs.Need.{ended}
use Rattle.history.proofs.known_scan.all_ended.Given as goal

abbrev pub invariant-loop-session : goal.invariant-loop-session
invariant-loop-session l = l.all.items ≡ map (λ session. ended session (reverse l.entries)) (range_with_len 0 l.session)
