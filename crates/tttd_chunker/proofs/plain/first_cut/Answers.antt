use Rattle.std.proofs.Common.{◌≡◌, ◌∙◌, ap, sym, arith}
use Rattle.ss_base.specs.Search.{least}
use Rattle.tttd_chunker.specs.Cut.{meets, first_cut}
use Rattle.tttd_chunker.proofs.CutLaws.{first_cut-main, first_cut-end, first_cut-backup, first_cut-within}
use Rattle.tttd_chunker.proofs.plain.first_cut.Goals as goal

pub returns-in-Some : goal.returns-in-Some
returns-in-Some c =
    let n = c.args.numbers.now in
    let rest = c.args.rest.now in
    let main = sym (c.in-Some.ensures ∙ ap (least (meets n.d rest) n.tmin) c.min.ensures) in
    let value : c.in-Some.main ≡ first_cut n rest = sym (first_cut-main n rest c.in-Some.main main) in
    let within = first_cut-within n rest c.requires.sound c.requires.some in
    let some = within.some in
    let inside = within.inside in
    record { value = value; positive = omega arith; within = omega arith }

pub returns-in-None-clause-value : goal.returns-in-None-clause-value
returns-in-None-clause-value c =
    let n = c.args.numbers.now in
    let rest = c.args.rest.now in
    let main = sym (c.in-None.ensures ∙ ap (least (meets n.d rest) n.tmin) c.min.ensures) in
    sym (first_cut-end n rest main c.if-rest-tmax.true)

pub returns-in-None-2 : goal.returns-in-None-2
returns-in-None-2 c =
    let n = c.args.numbers.now in
    let rest = c.args.rest.now in
    let main = sym (c.in-None.ensures ∙ ap (least (meets n.d rest) n.tmin) c.min.ensures) in
    let value : c.unwrap_or.result ≡ first_cut n rest =
    c.unwrap_or.ensures ∙ sym (first_cut-backup n rest c.last_met.result main c.if-rest-tmax.false (sym c.last_met.ensures)) in
    let within = first_cut-within n rest c.requires.sound c.requires.some in
    let some = within.some in
    let inside = within.inside in
    record { value = value; positive = omega arith; within = omega arith }
