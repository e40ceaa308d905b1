use Rattle.std.proofs.Common.{List, [], Option, sym, subst}
use Rattle.manifest_codec.specs.declared.manifest.Manifest.{Manifest}
use Rattle.manifest_cache.specs.Cached.{held}
use Rattle.segment_store.specs.Copies.{AreCopies}
use Rattle.segment_store.proofs.CopyLaws.{same_self, same_then, one_more_copy, some_there, on_err}
use Rattle.segment_store.proofs.loading.copies_held.Goals as goal

pub loop-kept-init : goal.loop-kept-init
loop-kept-init c = (subst (λ (copies : List (Option Manifest)). AreCopies (held c.args.cache.now.entries) [] copies) (sym c.new-copies.ensures.items) tt, same_self c.args.cache.now.entries)

pub returns-in_err-push-clause-same : goal.returns-in_err-push-clause-same
returns-in_err-push-clause-same c = same_then c.args.cache.now.entries c.loop-kept.cache c.get.new.self c.kept-item.result c.loop-kept.invariant.1 c.in_ok-copy.ensures.order c.in_ok-copy.ensures.same

pub returns-in_err-push-clause-some : goal.returns-in_err-push-clause-some
returns-in_err-push-clause-some c = on_err c.from_residual-in_err-push.result _ (some_there c.args.champions.now c.loop-kept.kept-index c.loop-kept-test.true)

pub loop-kept-preserved : goal.loop-kept-preserved
loop-kept-preserved c = (
  one_more_copy c.args.cache.now.entries c.loop-kept.cache.entries c.args.champions.now c.loop-kept.kept-index c.kept-item.result c.loop-kept.copies.items c.push.new.self.items c.in_ok-copy.copy
      c.loop-kept-test.true c.kept-item.is c.in_ok-push.ensures.items c.loop-kept.invariant.0 c.loop-kept.invariant.1 c.in_ok-copy.ensures.found c.in_ok-copy.ensures.good,
  same_then c.args.cache.now.entries c.loop-kept.cache c.get.new.self c.kept-item.result c.loop-kept.invariant.1 c.in_ok-copy.ensures.order c.in_ok-copy.ensures.same,
)
