-- What the commands print of the bytes of a stream that came (this project's own).
use Rattle.std.specs.Prelude.{ℕ, List}
use Rattle.ss_base.specs.declared.profile.Profile.{Profile}
use Rattle.ss_base.specs.Profile.{numbers_of}
use Rattle.store_run.specs.Lines.{chunk_lines, segment_lines}
use Rattle.store_run.specs.SoFar.{Stage, chunks_of}

-- what `names P` prints of these bytes: one line for each chunk
abbrev pub names_text : Profile → Stage → List ℕ → List ℕ
names_text profile stage bytes = chunk_lines (chunks_of stage (numbers_of profile) bytes)

-- what `segments P` prints of these bytes: one line for each segment
abbrev pub segments_text : Profile → Stage → List ℕ → List ℕ
segments_text profile stage bytes = segment_lines stage (numbers_of profile) (chunks_of stage (numbers_of profile) bytes)
