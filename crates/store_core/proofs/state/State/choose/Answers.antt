use Rattle.std.proofs.Common.{List, lit<, ap, ◌∙◌}
use Rattle.ss_base.specs.declared.name.Name.{Name}
use Rattle.history.specs.StandingList.{champions_for}
use Rattle.store_core.specs.View.{rules_of, past_of}
use Rattle.store_core.proofs.AllowLaws.{choose_allowed}
use Rattle.store_core.proofs.state.State.choose.Goals as goal

pub add-requires : goal.add-requires
add-requires g c = (lit< tt, rw (c.new.ensures) (choose_allowed _ _ _ _ _ _ c.requires.author c.requires.idle c.requires.hooks (c.new-2.ensures ∙ c.in-Ok.ensures ∙ ap (λ (l : List Name). champions_for (rules_of g.row.L g.row.M c.args.self.now) l (past_of c.args.self.now)) c.as_slice.ensures.value)))
