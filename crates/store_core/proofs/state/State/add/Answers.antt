use Rattle.std.proofs.Common.{lit<, sym, ◌∙◌}
use Rattle.store_core.proofs.AllowLaws.{follows, allowed_inside}
use Rattle.store_core.proofs.state.State.add.Goals as goal

pub add-requires : goal.add-requires
add-requires g c = (lit< tt, follows _ _ _ (allowed_inside _ _ _ _ _ c.args.author c.args.point c.self.invariant c.self.view_is c.requires) (sym c.fits.ensures ∙ c.if-not-fits.false))
