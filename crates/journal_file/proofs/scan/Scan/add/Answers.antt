use Rattle.std.proofs.Common.{◌≡◌, ◌++◌, arith}
use Rattle.std.proofs.lemmas.Grind.{common_steps}
use Rattle.std.proofs.lemmas.Result.{err_from_is_err_and}
use Rattle.journal_entry.specs.EntryText.{entries_text}
use Rattle.journal_file.specs.Front.{scan_text}
use Rattle.journal_file.proofs.FrontLaws.{front_opens, front_goes_on, fault_later}
use Rattle.journal_file.proofs.scan.Scan.add.Goals as goal

pub returns-in_err-rest-clause-bad : goal.returns-in_err-rest-clause-bad
returns-in_err-rest-clause-bad c =
    let p = err_from_is_err_and c.from_residual-in_err-rest.result c.from_residual-in_err-rest.ensures.1 in
    let before = c.args.self.now in
    let answer = rw c.in-Some.is at c.in_ok-profile.ensures.found in
    let bytes : c.deref.result.now ≡ before.pending.items ++ c.args.piece.now = grind (arith, common_steps) in
    let opens = front_opens before.profile before.found.entries.items before.pending.items c.args.piece.now c.in-Some.body.now c.in-Some.profile c.requires.rest (rw bytes at answer) in
    rw (p.1, p.2) (fault_later c.in_err-rest.field-0.0 c.in-Some.profile (scan_text before ++ c.args.piece.now) (entries_text before.found.entries.items ++ c.in-Some.body.now) opens c.in_err-rest.ensures.bad)

pub returns-clause-text : goal.returns-clause-text
returns-clause-text c =
    let before = c.args.self.now in
    let answer = rw c.in-Some.is at c.in_ok-profile.ensures.found in
    let bytes : c.deref.result.now ≡ before.pending.items ++ c.args.piece.now = grind (arith, common_steps) in
    let kept : c.in_ok-self.field-0.items ≡ c.in_ok-rest.rest.now = grind (arith, common_steps) in
    rw kept (front_goes_on before.profile before.found.entries.items c.take_entries.new.found.entries.items before.pending.items c.args.piece.now c.in-Some.body.now c.in_ok-rest.rest.now c.in-Some.profile c.requires.rest (rw bytes at answer) c.in_ok-rest.ensures.text)
