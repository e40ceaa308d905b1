-- The pass that a job began with (this project's own).
use Rattle.std.specs.Prelude.{◌≡◌, [], None}
use Rattle.turn_lock.specs.Passes.{PassView}

-- it is as it was at first, but for what it has seen
abbrev pub IsStill : PassView → PassView → Type 0
IsStill first p = p ≡ record first { seen = p.seen }

-- the pass of no store
abbrev pub no_pass : PassView
no_pass = record {
  turns = record { words = 0; slots = 0; views_name = 0; atom = 0; block = 0; offset = 0; slot_names = [] };
  first = 0;
  base = [];
  number = 0;
  joined = [];
  seen = [];
  next = None;
}
