-- A chunk that leaves the pending bytes of a chunker.
use Rattle.std.proofs.Common.{◌≡◌, ℕ, ◌+◌, ◌-◌, ◌<◌, ◌≤◌, List, ◌∷◌, ◌++◌, length, take, drop, sym, ap, ◌∙◌, subst, arith, length-drop, length-take}
use Rattle.std.proofs.lemmas.List.{take_all, take-append-drop, drop-drop}
use Rattle.ss_base.specs.declared.profile.Profile.{Profile}
use Rattle.ss_base.specs.declared.profile.Numbers.{Numbers}
use Rattle.ss_base.specs.Profile.{AreSound, numbers_of}
use Rattle.tttd_chunker.specs.Cut.{cut}
use Rattle.tttd_chunker.specs.Pending.{Pending}
use Rattle.tttd_chunker.specs.Scanned.{IsKnown}
use Rattle.ss_base.proofs.SoundLaws.{AreSound-numbers_of}
use Rattle.tttd_chunker.proofs.CutLaws.{first_cut-within}
use Rattle.tttd_chunker.proofs.StreamLaws.{cut-append, has_cut-some}

-- the bytes from a place on, as a slice gives them
pub tail-is : (bytes : List ℕ) (start : ℕ) → take (length bytes - start) (drop start bytes) ≡ drop start bytes
tail-is bytes start = take_all (length bytes - start) (drop start bytes) (omega (arith, length-drop start bytes))

-- the chunk that leaves, and what is pending behind it
pub record Leaves (n : Numbers) (bytes chunk rest : List ℕ) : Type 0 where
  pub taken : bytes ≡ chunk ++ rest
  pub cut : (more : List ℕ) → cut n (bytes ++ more) ≡ chunk ∷ cut n (rest ++ more)
  pub some : 0 < length chunk
  pub most : length chunk ≤ n.tmax

pub leaves : (n : Numbers) (bytes chunk rest : List ℕ) (k : ℕ) → AreSound n → IsKnown n bytes k → chunk ≡ take k bytes → rest ≡ drop k bytes → Leaves n bytes chunk rest
leaves n bytes chunk rest k sound known front back =
    let within = first_cut-within n bytes sound (has_cut-some n bytes sound known.ended) in
    let first = known.first in
    let inside = known.within in
    let some = within.some in
    let most = within.most in
    let long : length chunk ≡ k = ap length front ∙ omega (arith, length-take k bytes) in
    record {
      taken = sym (take-append-drop k bytes) ∙ ap (λ c. c ++ drop k bytes) (sym front) ∙ ap (λ r. chunk ++ r) (sym back);
      cut = λ more.
          cut-append n bytes more k sound known.ended known.first
          ∙ ap (λ c. c ∷ cut n (drop k bytes ++ more)) (sym front)
          ∙ ap (λ r. chunk ∷ cut n (r ++ more)) (sym back);
      some = omega arith;
      most = omega arith;
    }

-- The chunk that leaves a chunker, by what the calls in its body answer: the buffer is seen twice, what is known of
-- the first chunk is known of the bytes from the start on, and the chunk is copied from there.
pub leaves-pending : (profile : Profile) (buffer seen again chunk : List ℕ) (start k : ℕ) (now : Pending) → record { profile = profile; bytes = drop start buffer } ≡ now → seen ≡ buffer → again ≡ buffer → IsKnown (numbers_of profile) (take (length seen - start) (drop start seen)) k → chunk ≡ take (start + k - start) (drop start again) → Leaves (numbers_of now.profile) now.bytes chunk (drop (start + k) buffer)
leaves-pending profile buffer seen again chunk start k now view same also known copied =
    let width : start + k - start ≡ k = omega arith in
    leaves (numbers_of now.profile) now.bytes chunk (drop (start + k) buffer) k (AreSound-numbers_of now.profile)
    (subst (λ p. IsKnown (numbers_of p) now.bytes k) (ap (λ v. v.profile) view)
    (subst (λ bytes. IsKnown (numbers_of profile) bytes k) (tail-is seen start ∙ ap (drop start) same ∙ ap (λ v. v.bytes) view) known))
    (copied ∙ ap (λ w. take w (drop start again)) width ∙ ap (λ b. take k (drop start b)) also ∙ ap (λ v. take k v.bytes) view)
    (sym (drop-drop k start buffer) ∙ ap (λ v. drop k v.bytes) view)
