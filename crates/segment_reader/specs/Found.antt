-- What was read until a segment was whole or the stream ended (this project's own).
use Rattle.std.specs.Prelude.{◌≡◌, ℕ, ◌≤◌, true, List, [], ◌++◌, length, MatchOption}
use Rattle.ss_base.specs.declared.profile.Numbers.{Numbers}
use Rattle.outside.specs.Views.{SourceView, IsEnded}
use Rattle.segment_reader.specs.Next.{IsNext}
use Rattle.segment_reader.specs.Reads.{IsRead}
use Rattle.segment_reader.specs.declared.reading.Found.{Found}

-- with these bytes pending before and after
pub record HasFound (n : Numbers) (room : ℕ) (before after : List ℕ) (source source' : SourceView) (found : Found) : Type 0 where
  pub got : List ℕ
  pub reads : IsRead n before source source' got
  pub count : found.read ≡ length got
  pub within : found.read ≤ room
  pub end : found.ended ≡ true → IsEnded source' × (after ≡ [])
  pub next : MatchOption found.segment ((found.ended ≡ true) × (before ++ got ≡ [])) (λ segment. IsNext n found.ended segment (before ++ got) after)
