use Rattle.std.proofs.Common.{sym, ◌∙◌}
use Rattle.manifest_cache.specs.Cached.{listed_by}
use Rattle.manifest_cache.proofs.HeldLaws.{good_for}
use Rattle.manifest_cache.proofs.cache.ManifestCache.copy_of.Goals as goal

pub returns-in_ok-copy-in-Some-clause-good : goal.returns-in_ok-copy-in-Some-clause-good
returns-in_ok-copy-in-Some-clause-good c =
    good_for c.in-Some.entry.now c.args.kept.now (listed_by c.in_ok-copy-in-Some.copy) (sym c.has_values.ensures ∙ c.if-not-has_values.false) c.in_ok-copy-in-Some.ensures.copy c.in_ok-copy-in-Some.ensures.good
