use Rattle.std.proofs.Common.{◌≡◌, ◌<◌, ◌+◌, ◌++◌, ◌∷◌, [], length, get_or, take, sym, ap, ◌∙◌, subst, arith, length-append, ℕ, List, refl}
use Rattle.std.proofs.lemmas.List.{take_all}
use Rattle.std.proofs.lemmas.Iterator.Adapters.{YieldsList-from_vec}
use Rattle.std.proofs.lemmas.Iterator.Consumers.{YieldsList-turn, YieldsList-end}
use Rattle.manifest_codec.specs.declared.manifest.Manifest.{Manifest}
use Rattle.manifest_cache.specs.Cached.{held}
use Rattle.store_core.specs.View.{KeptView}
use Rattle.depot.specs.Seen.{seen}
use Rattle.segment_store.specs.Loads.{HasLoaded}
use Rattle.segment_store.proofs.LoadLaws.{nothing_loaded, copies_length, one_more, unreserved, unloaded}
use Rattle.segment_store.proofs.loading.load_others.Goals as goal

pub loop-copy-init : goal.loop-copy-init
loop-copy-init g c = (
  tt,
  tt,
  ap length c.new-manifests.ensures.items,
  refl,
  subst (λ (ms : List Manifest). HasLoaded c.args.cache.now.entries c.args.cache.now.entries (seen g.K.Shelf c.args.depot.now) (seen g.K.Shelf c.args.depot.now) [] ms) (sym c.new-manifests.ensures.items)
      (nothing_loaded c.args.cache.now.entries (seen g.K.Shelf c.args.depot.now)),
)

pub bounds-champions-len : goal.bounds-champions-len
bounds-champions-len g c =
    let given = c.into_iter-copy-iterator.ensures.into_iter_gives in
    let turn = YieldsList-turn (YieldsList-from_vec c.args.copies.items given.0 (given.1 ∙ c.args.copies.ok.0)) c.loop-copy.yielded _ c.loop-copy.yielded_by _ c.next.new.self c.in-Some.copy c.in-Some.is c.next.ensures.steps in
    let within = turn.0 in
    let same = copies_length (held c.args.cache.now.entries) c.args.champions.now c.args.copies.items c.requires.copies in
    let len : c.len.result ≡ length c.loop-copy.yielded = c.len.ensures ∙ c.loop-copy.manifests.ok.0 ∙ c.loop-copy.invariant.2 in
    omega (arith, within, same, len)

pub returns-then-is_err-clause-answer : goal.returns-then-is_err-clause-answer
returns-then-is_err-clause-answer g c =
    let given = c.into_iter-copy-iterator.ensures.into_iter_gives in
    let turn = YieldsList-turn (YieldsList-from_vec c.args.copies.items given.0 (given.1 ∙ c.args.copies.ok.0)) c.loop-copy.yielded _ c.loop-copy.yielded_by _ c.next.new.self c.in-Some.copy c.in-Some.is c.next.ensures.steps in
    let first = turn.0 in
    let same = copies_length (held c.args.cache.now.entries) c.args.champions.now c.args.copies.items c.requires.copies in
    let within : length c.loop-copy.yielded < length c.args.champions.now = omega (arith, first, same) in
    let len : c.len.result ≡ length c.loop-copy.yielded = c.len.ensures ∙ c.loop-copy.manifests.ok.0 ∙ c.loop-copy.invariant.2 in
    let kept = c.index-champions-len.result in
    let is = subst (λ (n : ℕ). kept ≡ get_or c.args.champions.now n kept) len c.index-champions-len.is in
    unreserved c.args.cache.now.entries c.loop-copy.cache.entries (seen g.K.Shelf c.args.depot.now) (seen g.K.Shelf c.loop-copy.depot) c.args.champions.now c.args.copies.items (length c.loop-copy.yielded) kept c.loop-copy.manifests.items within is c.loop-copy.invariant.4

pub returns-in-Err-clause-answer : goal.returns-in-Err-clause-answer
returns-in-Err-clause-answer g c =
    let given = c.into_iter-copy-iterator.ensures.into_iter_gives in
    let turn = YieldsList-turn (YieldsList-from_vec c.args.copies.items given.0 (given.1 ∙ c.args.copies.ok.0)) c.loop-copy.yielded _ c.loop-copy.yielded_by _ c.next.new.self c.in-Some.copy c.in-Some.is c.next.ensures.steps in
    let first = turn.0 in
    let same = copies_length (held c.args.cache.now.entries) c.args.champions.now c.args.copies.items c.requires.copies in
    let within : length c.loop-copy.yielded < length c.args.champions.now = omega (arith, first, same) in
    let len : c.len.result ≡ length c.loop-copy.yielded = c.len.ensures ∙ c.loop-copy.manifests.ok.0 ∙ c.loop-copy.invariant.2 in
    let kept = c.index-champions-len.result in
    let is = subst (λ (n : ℕ). kept ≡ get_or c.args.champions.now n kept) len c.index-champions-len.is in
    unloaded c.args.cache.now.entries c.loop-copy.cache.entries (seen g.K.Shelf c.args.depot.now) (seen g.K.Shelf c.loop-copy.depot) c.args.champions.now c.args.copies.items (length c.loop-copy.yielded) kept c.loop-copy.manifests.items within is c.loop-copy.invariant.4
    c.load_missing.new.cache.entries (seen g.K.Shelf c.load_missing.new.depot) c.in-Some.copy c.in-Err.fault c.requires.copies turn.1 c.in-Err.ensures.answer

pub loop-copy-preserved : goal.loop-copy-preserved
loop-copy-preserved g c =
    let given = c.into_iter-copy-iterator.ensures.into_iter_gives in
    let turn = YieldsList-turn (YieldsList-from_vec c.args.copies.items given.0 (given.1 ∙ c.args.copies.ok.0)) c.loop-copy.yielded _ c.loop-copy.yielded_by _ c.next.new.self c.in-Some.copy c.in-Some.is c.next.ensures.steps in
    let first = turn.0 in
    let same = copies_length (held c.args.cache.now.entries) c.args.champions.now c.args.copies.items c.requires.copies in
    let within : length c.loop-copy.yielded < length c.args.champions.now = omega (arith, first, same) in
    let len : c.len.result ≡ length c.loop-copy.yielded = c.len.ensures ∙ c.loop-copy.manifests.ok.0 ∙ c.loop-copy.invariant.2 in
    let kept = c.index-champions-len.result in
    let is = subst (λ (n : ℕ). kept ≡ get_or c.args.champions.now n kept) len c.index-champions-len.is in
    let was = c.loop-copy.manifests.items in
    let pushed : c.push_reserved.new.manifests.items ≡ was ++ c.in-Ok.manifest ∷ [] = c.push_reserved.ensures ∙ ap (λ (ms : List Manifest). ms ++ c.in-Ok.manifest ∷ []) c.reserve.ensures.items in
    let next = length-append c.loop-copy.yielded (c.in-Some.copy ∷ []) in
    let before = seen g.K.Shelf c.args.depot.now in
    let after = seen g.K.Shelf c.load_missing.new.depot in (
      tt,
      tt,
      ap length pushed ∙ length-append was (c.in-Ok.manifest ∷ []) ∙ ap (λ (n : ℕ). n + 1) c.loop-copy.invariant.2 ∙ sym next,
      c.in-Ok.ensures.same_reference ∙ c.loop-copy.invariant.3,
      subst (λ (n : ℕ). HasLoaded c.args.cache.now.entries c.load_missing.new.cache.entries before after (take n c.args.champions.now) c.push_reserved.new.manifests.items) (sym next)
          (one_more c.args.cache.now.entries c.loop-copy.cache.entries before (seen g.K.Shelf c.loop-copy.depot) c.args.champions.now c.args.copies.items (length c.loop-copy.yielded) kept was within is c.loop-copy.invariant.4
          c.load_missing.new.cache.entries after c.in-Some.copy c.push_reserved.new.manifests.items c.in-Ok.manifest c.requires.copies turn.1 pushed c.in-Ok.ensures.answer),
    )

pub returns-clause-answer : goal.returns-clause-answer
returns-clause-answer g c =
    let given = c.into_iter-copy-iterator.ensures.into_iter_gives in
    let end = YieldsList-end (YieldsList-from_vec c.args.copies.items given.0 (given.1 ∙ c.args.copies.ok.0)) c.loop-copy.yielded _ c.loop-copy.yielded_by _ c.next.new.self c.in-None.is c.next.ensures.steps in
    let same = copies_length (held c.args.cache.now.entries) c.args.champions.now c.args.copies.items c.requires.copies in
    let all : take (length c.loop-copy.yielded) c.args.champions.now ≡ c.args.champions.now = ap (λ (n : ℕ). take n c.args.champions.now) (end.1 ∙ same) ∙ take_all (length c.args.champions.now) c.args.champions.now (omega arith) in
    subst (λ (ks : List KeptView). HasLoaded c.args.cache.now.entries c.loop-copy.cache.entries (seen g.K.Shelf c.args.depot.now) (seen g.K.Shelf c.loop-copy.depot) ks c.loop-copy.manifests.items) all c.loop-copy.invariant.4
