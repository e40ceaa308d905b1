use Rattle.std.proofs.Common.{sym, subst}
use Rattle.depot.specs.Seen.{seen}
use Rattle.segment_store.specs.Loads.{Holding}
use Rattle.segment_store.specs.Copies.{AreCopies}
use Rattle.segment_store.proofs.CopyLaws.{uncopied, holds_same, loads_same, counted}
use Rattle.segment_store.proofs.loading.load_champions.Goals as goal

pub returns-in-Err-clause-answer : goal.returns-in-Err-clause-answer
returns-in-Err-clause-answer g c = uncopied c.args.cache.now.entries c.copies_held.new.cache.entries (seen g.K.Shelf c.args.depot.now) c.args.champions.now c.in-Err.ensures.same c.in-Err.ensures.some

pub load_others-requires : goal.load_others-requires
load_others-requires g c = record { copies = subst (λ (h : Holding). AreCopies h c.args.champions.now c.in-Ok.copies.items) (sym (holds_same c.args.cache.now.entries c.copies_held.new.cache.entries c.in-Ok.ensures.same)) c.in-Ok.ensures.copies }

pub returns-clause-answer : goal.returns-clause-answer
returns-clause-answer g c =
    loads_same c.args.cache.now.entries c.copies_held.new.cache.entries c.in-Ok.ensures.same c.load_others.new.cache.entries (seen g.K.Shelf c.args.depot.now) (seen g.K.Shelf c.load_others.new.depot) c.args.champions.now c.load_others.result c.load_others.ensures.answer

pub returns-clause-reads : goal.returns-clause-reads
returns-clause-reads g c =
    counted c.args.cache.now.entries c.copies_held.new.cache.entries c.in-Ok.ensures.same c.load_others.new.cache.entries (seen g.K.Shelf c.args.depot.now) (seen g.K.Shelf c.load_others.new.depot) c.args.champions.now c.load_others.result c.load_others.ensures.answer
