use Rattle.std.proofs.Common.{◌≡◌, take}
use Rattle.hook_sampler.specs.Hooks.{hooks}
use Rattle.hook_sampler.proofs.sampling.hooks.Given as goal

abbrev pub invariant-loop-piece : goal.invariant-loop-piece
invariant-loop-piece l = l.found ≡ hooks l.bits (take l.piece-index l.pieces)
