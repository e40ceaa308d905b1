use Rattle.std.proofs.Common.{◌≡◌, ℕ, List, [], ◌∷◌, length, take, map}
use Rattle.ss_base.specs.Profile.{numbers_of}
use Rattle.ss_base.specs.declared.profile.Profile.TheVariants.{Tiny}
use Rattle.segmenter.proofs.SegmentsLaws.{AreGiven}
use Rattle.segmenter.proofs.tests.sizes.Given as goal

abbrev pub invariant-loop-b : goal.invariant-loop-b
invariant-loop-b l = record {
  numbers : l.segmenter.numbers ≡ numbers_of Tiny;
  given : (given : List (List (List ℕ)))
      × (l.sizes.items ≡ map (λ s. length s) given)
      × AreGiven (numbers_of Tiny) (map (λ b. b ∷ []) (take l.b-index l.text)) given l.segmenter.chunks;
}
