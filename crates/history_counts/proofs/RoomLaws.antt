-- Counts that have more room are still those of a history.
use Rattle.std.proofs.Common.{◌≡◌, true, List, ◌∙◌, ap}
use Rattle.std.specs.FinSet as set
use Rattle.ss_base.specs.declared.object.Object.{Object}
use Rattle.ss_base.specs.declared.object.Object.TheVariants.{Container, Manifest}
use Rattle.journal_entry.specs.declared.entry.Entry.{Entry}
use Rattle.pins_counts.specs.Counts.{Counted, number, is_ready}
use Rattle.history_counts.specs.CountsOf.{AreCountsOf}

pub counts_kept : (old new : Counted) → ((q : Object) → number new q ≡ number old q) → ((q : Object) → is_ready old q ≡ true → is_ready new q ≡ true) → new ≡ record old { numbers = new.numbers }
    → (past : List Entry) → AreCountsOf old past → AreCountsOf new past
counts_kept old new numbers ready rest past are = record {
  holds_are = λ id. numbers (Manifest id) ∙ are.holds_are id;
  uses_are = λ id. numbers (Container id) ∙ are.uses_are id;
  sessions_are = ap (λ (c : Counted). c.sessions) rest ∙ are.sessions_are;
  gone_are = λ q. ap (λ (c : Counted). set.contains c.gone q) rest ∙ are.gone_are q;
  ready_are = λ q listed. ready q (are.ready_are q listed);
}
