-- A legal history with all that is kept beside it (this project's own).
use Rattle.std.specs.Prelude.{ℕ, ◌≡◌, Bool, false, List}
use Rattle.sparse_index.specs.Lists.{Lists}
use Rattle.pins_counts.specs.Counts.{Counted}
use Rattle.journal_entry.specs.declared.entry.Entry.{Entry}
use Rattle.journal_entry.specs.declared.entry.Point.{Point}
use Rattle.journal_entry.specs.declared.entry.Point.TheVariants.{Commit, Abort}
use Rattle.history.specs.Sessions.{is_pending}
use Rattle.history_index.specs.IndexOf.{IsIndexOf}
use Rattle.history_counts.specs.CountsOf.{AreCountsOf}
use Rattle.history_totals.specs.declared.tally.Tally.{Tally}
use Rattle.history_totals.specs.TallyOf.{tally_of}
use Rattle.history_totals.specs.Parts.{HasRoom}

-- the index, the counts and the running totals are those of these entries
pub record AreInStep (bound : ℕ) (past : List Entry) (lists : Lists) (counted : Counted) (tally : Tally) : Type 0 where
  pub index : IsIndexOf bound lists past
  pub counts : AreCountsOf counted past
  pub totals : tally ≡ tally_of past
  pub room : HasRoom tally.totals

-- whether an entry ends a choice that is pending
abbrev pub ends_choice : Point → List Entry → Bool
ends_choice (Commit manifest content text chunks bytes fresh fresh_bytes uses) past = is_pending manifest.session past
ends_choice (Abort session containers texts) past = is_pending session past
ends_choice _ past = false
