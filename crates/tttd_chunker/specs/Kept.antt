-- How a chunker keeps its pending bytes.
use Rattle.std.specs.Prelude.{◌≤◌, drop, length}
use Rattle.ss_base.specs.Profile.{numbers_of}
use Rattle.tttd_chunker.specs.Scanned.{IsProgress}
use Rattle.tttd_chunker.specs.Pending.{Pending}
use Rattle.tttd_chunker.specs.declared.chunker.Chunker.TheInside.{Inside}

-- the bytes behind those that have left in chunks
abbrev pub kept_bytes : Inside → Pending
kept_bytes c = record { profile = c.profile; bytes = drop c.start c.buffer.items }

-- no more have left than came, and what is remembered of the search holds of the pending bytes
pub record IsKept (c : Inside) : Type 0 where
  pub start : c.start ≤ length c.buffer.items
  pub progress : IsProgress (numbers_of c.profile) (drop c.start c.buffer.items) c.progress
