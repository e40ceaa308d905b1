-- What a printer of lines still has to write (this project's own).
use Rattle.std.specs.Prelude.{◌≡◌, ℕ, ◌≤◌, false, List, [], ◌++◌}
use Rattle.ss_base.specs.Profile.{numbers_of}
use Rattle.tttd_chunker.specs.Cut.{has_cut}
use Rattle.store_run.specs.SoFar.{Stage, so_far, chunks_of}
use Rattle.store_run.specs.declared.line_printer.LinePrinter.{LinePrinter}

-- what is still to be written where these bytes come: the text that waits, and the lines of the chunks of the pending
-- bytes and these
abbrev pub still : {L : Type 0} → (Stage → L → List (List ℕ) → List ℕ) → Stage → LinePrinter L → List ℕ → List ℕ
still text stage printer more =
    printer.waiting.items ++ text stage printer.lines (chunks_of stage (numbers_of printer.chunker.profile) (printer.chunker.bytes ++ more))

-- no chunk is longer than the lines can be made of
abbrev pub Fits : {L : Type 0} → (L → ℕ) → LinePrinter L → Type 0
Fits most printer = (numbers_of printer.chunker.profile).tmax ≤ most printer.lines

-- each chunk that is cut whatever comes was taken, and so was each line that is whole whatever comes
pub record IsUpToDate {L : Type 0} (text : Stage → L → List (List ℕ) → List ℕ) (printer : LinePrinter L) : Type 0 where
  pub no_cut : has_cut (numbers_of printer.chunker.profile) printer.chunker.bytes ≡ false
  pub no_line : text so_far printer.lines [] ≡ []
