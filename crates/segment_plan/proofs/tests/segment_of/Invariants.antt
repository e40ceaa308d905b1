use Rattle.std.proofs.Common.{◌≡◌}
use Rattle.ss_base.specs.Profile.{numbers_of}
use Rattle.ss_base.specs.declared.profile.Profile.TheVariants.{Tiny}
use Rattle.segment_plan.proofs.tests.segment_of.Given as goal

abbrev pub invariant-loop-chunk : goal.invariant-loop-chunk
invariant-loop-chunk l = l.segmenter.numbers ≡ numbers_of Tiny
