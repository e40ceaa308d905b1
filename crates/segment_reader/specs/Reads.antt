-- What a call reads of its source (this project's own).
use Rattle.std.specs.Prelude.{◌≡◌, ℕ, ◌≤◌, false, List, [], ◌++◌, length}
use Rattle.ss_base.specs.declared.profile.Numbers.{Numbers}
use Rattle.outside.specs.Views.{SourceView, Gives}
use Rattle.segment_reader.specs.Whole.{has_segment}

-- When bytes are read behind those that pend: not at all; or in pieces, of which even the last, perhaps an empty one, was
-- asked for while no segment of all before it was whole.
pub data ReadsLate (n : Numbers) (pending : List ℕ) (source source' : SourceView) (got : List ℕ) : Type 0 where
  unread : got ≡ [] → source' ≡ source → ReadsLate n pending source source' got
  read : (front last : List ℕ) → got ≡ front ++ last → length last ≤ 65536 → has_segment n (pending ++ front) ≡ false → ReadsLate n pending source source' got

-- these bytes were read, and none while a segment was whole
pub record IsRead (n : Numbers) (pending : List ℕ) (source source' : SourceView) (got : List ℕ) : Type 0 where
  pub gives : Gives source source' got
  pub late : ReadsLate n pending source source' got
