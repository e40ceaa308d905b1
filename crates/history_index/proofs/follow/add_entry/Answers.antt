use Rattle.std.proofs.Common.{lit<}
use Rattle.history_index.proofs.FollowLaws.{may_change, fewer_entries, follows}
use Rattle.history_index.proofs.follow.add_entry.Goals as goal

pub next_number-number-requires : goal.next_number-number-requires
next_number-number-requires g c = fewer_entries c.args.rules.now c.args.entry.now c.args.before.now c.requires.legal

pub change-requires : goal.change-requires
change-requires g c = (
  lit< tt,
  (
    c.next_number-number.ensures.number,
    may_change c.args.rules.now g.row.L c.args.index.now c.args.entry.now c.args.before.now c.args.choices.now c.requires.legal c.next_number-number.ensures.fits c.requires.agrees c.requires.choices,
  ),
)

pub returns : goal.returns
returns g c = follows g.row.L c.args.index.now c.change.new.index c.args.entry.now _ c.requires.agrees c.requires.room c.change.ensures.lists c.change.ensures.ready
