use Rattle.std.proofs.Common.{◌≡◌, ◌++◌}
use Rattle.ss_base.specs.KnownObjects.{manifest_at, numbered}
use Rattle.history.proofs.known_scan.push_manifests.Given as goal

abbrev pub invariant-loop-seq : goal.invariant-loop-seq
invariant-loop-seq l = l.found.items ≡ l.initial.found.items ++ numbered (manifest_at l.session) 0 l.seq
