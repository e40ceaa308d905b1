use Rattle.std.proofs.Common.{◌≡◌, ◌-◌}
use Rattle.journal_entry.specs.Reading.{items_at}
use Rattle.journal_entry.proofs.Loop.{with_front}
use Rattle.journal_entry.proofs.reading.items_at.Given as goal

abbrev pub invariant-loop : goal.invariant-loop
invariant-loop g l = with_front l.items.items (items_at g.T.Item.item_at (l.count - l.counter) l.rest) ≡ items_at g.T.Item.item_at l.count l.bytes
