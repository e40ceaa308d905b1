use Rattle.std.proofs.Common.{◌≡◌, ◌≢◌, ◌+◌, ◌≤◌, ◌∙◌, [], arith, length}
use Rattle.std.proofs.lemmas.Grind.{common_steps}
use Rattle.std.proofs.lemmas.Result.{err_from_is_err_and}
use Rattle.journal_file.specs.Front.{scan_text}
use Rattle.journal_file.proofs.ReadLaws.{length-front, more_so_far, end_told, end_gave, bad_told, bad_gave, failed_gave, unread_gave, trouble_refuses, bytes_count, end_count}
use Rattle.std.specs.Prelude.{Vec}
use Rattle.std.specs.declared.alloc.Global.{Global}
use Rattle.ss_base.specs.declared.profile.Profile.{Profile}
use Rattle.journal_entry.specs.declared.entry.Entry.{Entry}
use Rattle.outside.proofs.FaultLaws.{HasCause-after}
use Rattle.journal_file.specs.Cause.{journal_fault}
use Rattle.journal_file.proofs.CountLaws.{read_count}
use Rattle.journal_file.proofs.reading.read.Goals as goal

pub returns-then-is_empty-clause-told : goal.returns-then-is_empty-clause-told
returns-then-is_empty-clause-told g c =
    let none : c.in_ok-piece.piece.items ≡ [] = grind (arith, common_steps) in
    let given = rw c.loop-scan.invariant.2 at c.in_ok-piece.ensures.bytes in
    end_told (g.S.Shelf.held c.args.shelf.now) (g.S.Shelf.gave c.args.shelf.now) (g.S.Shelf.gave c.loop-scan.shelf) (g.S.Shelf.gave c.read.new.self) (g.S.Shelf.reads c.args.shelf.now) (g.S.Shelf.reads c.loop-scan.shelf) (g.S.Shelf.reads c.read.new.self) (scan_text c.loop-scan.scan) c.in_ok-piece.piece.items c.loop-scan.place
    c.loop-scan.invariant.1 c.in_ok-piece.ensures.reads c.in_ok-piece.ensures.gave given none c.finish.result (c.finish.ensures.ok, c.finish.ensures.bad)

pub returns-then-is_empty-clause-gave : goal.returns-then-is_empty-clause-gave
returns-then-is_empty-clause-gave g c =
    let none : c.in_ok-piece.piece.items ≡ [] = grind (arith, common_steps) in
    let given = rw c.loop-scan.invariant.2 at c.in_ok-piece.ensures.bytes in
    end_gave (g.S.Shelf.held c.args.shelf.now) (g.S.Shelf.gave c.args.shelf.now) (g.S.Shelf.gave c.loop-scan.shelf) (g.S.Shelf.gave c.read.new.self) (g.S.Shelf.reads c.args.shelf.now) (g.S.Shelf.reads c.loop-scan.shelf) (g.S.Shelf.reads c.read.new.self) (scan_text c.loop-scan.scan) c.in_ok-piece.piece.items c.loop-scan.place
    c.loop-scan.invariant.1 c.in_ok-piece.ensures.reads c.in_ok-piece.ensures.gave given none c.finish.result (c.finish.ensures.ok, c.finish.ensures.bad)

pub returns-in_err-add-clause-told : goal.returns-in_err-add-clause-told
returns-in_err-add-clause-told g c =
    let p = err_from_is_err_and c.from_residual-in_err-add.result c.from_residual-in_err-add.ensures.1 in
    let some : c.in_ok-piece.piece.items ≢ [] = (λ is. grind (arith, common_steps)) in
    let given = rw c.loop-scan.invariant.2 at c.in_ok-piece.ensures.bytes in
    let bad = rw c.deref.ensures.value at c.in_err-add.ensures.bad in
    rw (p.1, p.2) (bad_told (g.S.Shelf.held c.args.shelf.now) (g.S.Shelf.gave c.args.shelf.now) (g.S.Shelf.gave c.loop-scan.shelf) (g.S.Shelf.gave c.read.new.self) (g.S.Shelf.reads c.args.shelf.now) (g.S.Shelf.reads c.loop-scan.shelf) (g.S.Shelf.reads c.read.new.self) (scan_text c.loop-scan.scan) c.in_ok-piece.piece.items c.loop-scan.place
    c.loop-scan.invariant.1 c.in_ok-piece.ensures.reads c.in_ok-piece.ensures.gave given some c.in_err-add.field-0.0 bad)

pub returns-in_err-add-clause-gave : goal.returns-in_err-add-clause-gave
returns-in_err-add-clause-gave g c =
    let p = err_from_is_err_and c.from_residual-in_err-add.result c.from_residual-in_err-add.ensures.1 in
    let some : c.in_ok-piece.piece.items ≢ [] = (λ is. grind (arith, common_steps)) in
    let given = rw c.loop-scan.invariant.2 at c.in_ok-piece.ensures.bytes in
    let bad = rw c.deref.ensures.value at c.in_err-add.ensures.bad in
    rw (p.1, p.2) (bad_gave (g.S.Shelf.held c.args.shelf.now) (g.S.Shelf.gave c.args.shelf.now) (g.S.Shelf.gave c.loop-scan.shelf) (g.S.Shelf.gave c.read.new.self) (g.S.Shelf.reads c.args.shelf.now) (g.S.Shelf.reads c.loop-scan.shelf) (g.S.Shelf.reads c.read.new.self) (scan_text c.loop-scan.scan) c.in_ok-piece.piece.items c.loop-scan.place
    c.loop-scan.invariant.1 c.in_ok-piece.ensures.reads c.in_ok-piece.ensures.gave given some c.in_err-add.field-0.0 bad)

pub returns-in_err-add-clause-count : goal.returns-in_err-add-clause-count
returns-in_err-add-clause-count g c =
    let p = err_from_is_err_and c.from_residual-in_err-add.result c.from_residual-in_err-add.ensures.1 in
    rw (p.1, p.2) (bytes_count c.in_err-add.field-0.0 _ _ _ (c.in_err-add.ensures.bad []) (c.in_ok-piece.ensures.cause.quiet ∙ c.loop-scan.invariant.5))

pub returns-then-is_empty-clause-count : goal.returns-then-is_empty-clause-count
returns-then-is_empty-clause-count g c = end_count c.finish.result _ _ _ c.finish.ensures.bad (c.in_ok-piece.ensures.cause.quiet ∙ c.loop-scan.invariant.5)

pub returns-in_err-piece-clause-count : goal.returns-in_err-piece-clause-count
returns-in_err-piece-clause-count g c =
    let p = err_from_is_err_and c.from_residual-in_err-piece.result c.from_residual-in_err-piece.ensures.1 in
    rw (p.1, p.2) (read_count (Profile × Vec Entry Global) _ _ c.in_err-piece.field-0.0 (HasCause-after _ _ _ _ c.loop-scan.invariant.5 c.in_err-piece.ensures.cause))

pub returns-in_err-piece-clause-gave : goal.returns-in_err-piece-clause-gave
returns-in_err-piece-clause-gave g c =
    let p = err_from_is_err_and c.from_residual-in_err-piece.result c.from_residual-in_err-piece.ensures.1 in
    rw (p.1, p.2) (failed_gave _ _ (g.S.Shelf.gave c.loop-scan.shelf) _ _ (g.S.Shelf.reads c.loop-scan.shelf) _ _ _ c.loop-scan.invariant.1 c.in_err-piece.ensures.reads c.in_err-piece.ensures.gave c.in_err-piece.field-0.0)

pub returns-in_err-has-clause-count : goal.returns-in_err-has-clause-count
returns-in_err-has-clause-count g c =
    let p = err_from_is_err_and c.from_residual.result c.from_residual.ensures.1 in
    rw (p.1, p.2) (read_count (Profile × Vec Entry Global) _ _ c.in_err-has.field-0.0 c.in_err-has.ensures.cause)

pub returns-in_err-has-clause-gave : goal.returns-in_err-has-clause-gave
returns-in_err-has-clause-gave g c =
    let p = err_from_is_err_and c.from_residual.result c.from_residual.ensures.1 in
    rw (p.1, p.2) (unread_gave _ _ _ _ c.in_err-has.ensures.reads c.in_err-has.ensures.gave (journal_fault c.in_err-has.field-0.0) (trouble_refuses c.in_err-has.field-0.0 []))

pub overflow_add-place : goal.overflow_add-place
overflow_add-place g c =
    omega (arith, length-front c.loop-scan.scan c.loop-scan.invariant.0, c.loop-scan.invariant.1.place_is, c.in_ok-piece.ensures.most, c.len.ensures)

pub loop-scan-smaller : goal.loop-scan-smaller
loop-scan-smaller g c =
    let short = length-front c.loop-scan.scan c.loop-scan.invariant.0 in
    let place = c.loop-scan.invariant.1.place_is in
    let some : 1 ≤ c.len.result = grind (arith, common_steps) in
    omega arith

pub loop-scan-preserved : goal.loop-scan-preserved
loop-scan-preserved g c =
    let some : c.in_ok-piece.piece.items ≢ [] = (λ is. grind (arith, common_steps)) in
    let given = rw c.loop-scan.invariant.2 at c.in_ok-piece.ensures.bytes in
    let text = rw c.deref.ensures.value at c.in_ok-add.ensures.text in
    let place : c.loop-scan.place + c.len.result ≡ c.loop-scan.place + length c.in_ok-piece.piece.items = grind (arith, common_steps) in (
      c.in_ok-add.ensures.front,
      more_so_far (g.S.Shelf.held c.args.shelf.now) (g.S.Shelf.gave c.args.shelf.now) (g.S.Shelf.gave c.loop-scan.shelf) (g.S.Shelf.gave c.read.new.self) (g.S.Shelf.reads c.args.shelf.now) (g.S.Shelf.reads c.loop-scan.shelf) (g.S.Shelf.reads c.read.new.self) (scan_text c.loop-scan.scan) c.in_ok-piece.piece.items c.loop-scan.place
          c.loop-scan.invariant.1 c.in_ok-piece.ensures.reads c.in_ok-piece.ensures.gave given (scan_text c.add.new.self) (c.loop-scan.place + c.len.result) some text place,
      cc,
      cc,
      cc,
      c.in_ok-piece.ensures.cause.quiet ∙ c.loop-scan.invariant.5,
    )
