use Rattle.std.proofs.Common.{◌≡◌, ◌++◌}
use Rattle.ss_base.specs.KnownObjects.{container_at, numbered}
use Rattle.history.proofs.known_scan.push_containers.Given as goal

abbrev pub invariant-loop-ordinal : goal.invariant-loop-ordinal
invariant-loop-ordinal l = l.found.items ≡ l.initial.found.items ++ numbered (container_at l.session) 0 l.ordinal
