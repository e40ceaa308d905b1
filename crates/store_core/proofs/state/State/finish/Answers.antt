use Rattle.std.proofs.Common.{lit<, refl}
use Rattle.store_core.proofs.AllowLaws.{finish_allowed}
use Rattle.store_core.proofs.state.State.finish.Goals as goal

pub add_end-requires : goal.add_end-requires
add_end-requires g c = (lit< tt, (finish_allowed _ _ _ _ _ c.requires.author c.requires.idle c.requires.containers, refl))
