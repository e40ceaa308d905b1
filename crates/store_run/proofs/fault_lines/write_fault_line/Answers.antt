use Rattle.std.proofs.Common.{◌++◌, ◌∷◌, [], ℕ, sym, subst}
use Rattle.std.specs.Prelude.{OnOk, codes}
use Rattle.std.specs.Fmt.{decimal}
use Rattle.std.specs.Io.KnownBytes.{Appends}
use Rattle.store_run.specs.Stop.{fault_line}
use Rattle.store_run.specs.declared.stop.Stop.{Stop}
use Rattle.store_run.proofs.fault_lines.write_fault_line.Goals as goal

pub returns-in-UnfinishedSession-clause-ok : goal.returns-in-UnfinishedSession-clause-ok
returns-in-UnfinishedSession-clause-ok g c =
    let call = c.write_numbered-in-UnfinishedSession in
    subst (λ (why : Stop). OnOk call.result (Appends (g.O.Sink.written c.args.out.now) (g.O.Sink.written call.new.out) (fault_line why))) (sym c.in-UnfinishedSession.is)
    (subst (λ (n : ℕ). OnOk call.result (Appends (g.O.Sink.written c.args.out.now) (g.O.Sink.written call.new.out) (codes "journal unfinished session " ++ decimal n ++ 10 ∷ []))) c.from-in-UnfinishedSession.ensures call.ensures.ok)

pub returns-in-UnfinishedReading-clause-ok : goal.returns-in-UnfinishedReading-clause-ok
returns-in-UnfinishedReading-clause-ok g c =
    let call = c.write_numbered-in-UnfinishedReading in
    subst (λ (why : Stop). OnOk call.result (Appends (g.O.Sink.written c.args.out.now) (g.O.Sink.written call.new.out) (fault_line why))) (sym c.in-UnfinishedReading.is)
    (subst (λ (n : ℕ). OnOk call.result (Appends (g.O.Sink.written c.args.out.now) (g.O.Sink.written call.new.out) (codes "journal unfinished reading " ++ decimal n ++ 10 ∷ []))) c.from-in-UnfinishedReading.ensures call.ensures.ok)
