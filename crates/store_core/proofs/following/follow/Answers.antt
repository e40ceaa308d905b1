use Rattle.std.proofs.Common.{◌∙◌, lit<}
use Rattle.store_core.proofs.NewestLaws.{choices_stay, stream_stays, settled_stay}
use Rattle.store_core.proofs.following.follow.Goals as goal

pub add_entry-requires : goal.add_entry-requires
add_entry-requires g c = (lit< tt, (c.legal_rules-rules.ensures.legal, (c.requires.agrees.index, (c.requires.hooks, c.choices_of.ensures ∙ choices_stay _ _ c.args.entry.now c.requires.split))))

pub add_entry-requires-2-clause-stream : goal.add_entry-requires-2-clause-stream
add_entry-requires-2-clause-stream g c = c.stream_numbers.ensures ∙ stream_stays _ _ c.args.entry.now c.requires.split

pub add_entry-requires-3-clause-commits : goal.add_entry-requires-3-clause-commits
add_entry-requires-3-clause-commits g c = c.settled_of.ensures ∙ settled_stay _ _ c.args.entry.now c.requires.split
