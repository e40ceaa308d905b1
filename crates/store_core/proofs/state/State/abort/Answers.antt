use Rattle.std.proofs.Common.{lit<, refl}
use Rattle.store_core.proofs.AllowLaws.{abort_allowed}
use Rattle.store_core.proofs.state.State.abort.Goals as goal

pub add_end-requires : goal.add_end-requires
add_end-requires g c = (lit< tt, (abort_allowed _ _ _ _ _ _ c.requires.author c.requires.containers c.requires.texts, refl))
