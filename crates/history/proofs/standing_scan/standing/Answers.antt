use Rattle.std.proofs.Common.{◌≡◌, ◌+◌, ◌∷◌, take, reverse, sym, ap, ◌∙◌}
use Rattle.journal_entry.specs.declared.entry.Entry.{Entry}
use Rattle.history.specs.StandingList.{standing, standing_after}
use Rattle.history.proofs.Scans.{reverse_more}
use Rattle.history.proofs.standing_scan.standing.Goals as goal

pub loop-i-init : goal.loop-i-init
unfolding standing
loop-i-init c = c.new-stood.ensures.items

pub loop-i-preserved : goal.loop-i-preserved
unfolding standing
loop-i-preserved c =
    let bound = c.args.bound in
    let hook = c.args.hook.now in
    let entry = c.index-entries-i.result in
    let past = reverse (take c.loop-i.i c.args.entries.now) in
    let more : reverse (take (c.loop-i.i + 1) c.args.entries.now) ≡ entry ∷ past =
    reverse_more c.args.entries.now c.loop-i.i entry c.loop-i-test.true ∙ ap (λ (e : Entry). e ∷ past) (sym c.index-entries-i.is) in
    c.in_ok-stood.ensures
    ∙ ap (standing_after bound hook entry.point past) c.loop-i.invariant
    ∙ sym (ap (standing bound hook) more)
