-- A sink over a writer, as contracts see it (this project's own).
use Rattle.std.specs.Prelude.{ℕ}
use Rattle.outside.specs.declared.write_sink.WriteSink.{WriteSink}

-- the writer
abbrev pub writer_of : {W : Type 0} → WriteSink W → W
writer_of sink = sink.writer

-- how often it failed
abbrev pub writer_faults : {W : Type 0} → WriteSink W → ℕ
writer_faults sink = sink.faults
