use Rattle.std.proofs.Common.{lit<, refl}
use Rattle.store_core.proofs.AllowLaws.{done_allowed}
use Rattle.store_core.proofs.state.State.done.Goals as goal

pub add_end-requires : goal.add_end-requires
add_end-requires g c = (lit< tt, (done_allowed _ _ _ _ c.requires.unfinished c.requires.author, refl))
