use Rattle.std.proofs.Common.{◌≡◌, ◌++◌, drop}
use Rattle.ss_base.specs.declared.ended.Ended.{Ended}
use Rattle.ss_base.specs.KnownObjects.{manifest_at, objects_of}
use Rattle.history.proofs.known_scan.push_all_manifests.Given as goal

abbrev pub invariant-loop-session : goal.invariant-loop-session
invariant-loop-session l =
    l.found.items ++ objects_of manifest_at (λ (e : Ended). e.texts) l.session (drop l.session l.sessions) ≡ l.initial.found.items ++ objects_of manifest_at (λ (e : Ended). e.texts) 0 l.sessions
