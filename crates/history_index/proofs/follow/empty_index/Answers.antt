use Rattle.std.proofs.Common.{[], sym, subst}
use Rattle.sparse_index.specs.Lists.{Lists}
use Rattle.history_index.specs.IndexOf.{IsIndexOf}
use Rattle.history_index.proofs.FollowLaws.{first_index}
use Rattle.history_index.proofs.follow.empty_index.Goals as goal

pub returns : goal.returns
returns g c = subst (λ (lists : Lists). IsIndexOf g.row.L lists []) (sym c.new.ensures) (first_index g.row.L)
