use Rattle.std.proofs.Common.{◌≡◌, ◌+◌, ◌≤◌, ◌<◌, take, get_or, reverse, sym, ap, ◌∙◌, arith}
use Rattle.std.specs.List.{sum_by}
use Rattle.std.proofs.lemmas.Bool.{le-leb, lt-leb}
use Rattle.std.proofs.lemmas.List.{take_all}
use Rattle.std.proofs.lemmas.List.Sums.{sum_by_more_le}
use Rattle.journal_entry.specs.declared.entry.Entry.{Entry}
use Rattle.journal_entry.specs.Weight.{point_weight, weight}
use Rattle.history.proofs.Scans.{sum_by-reverse}
use Rattle.history.proofs.limits_scan.is_weight_within.Goals as goal

pub returns-then-left-part : goal.returns-then-left-part
unfolding weight
returns-then-left-part c =
    let entries = c.args.entries.now in
    let i = c.loop-entry.entry-index in
    let f = λ (entry : Entry). point_weight entry.point in
    let entry = c.entry-item.result in
    let total : weight (reverse entries) ≡ sum_by f entries = sum_by-reverse f entries in
    let more : sum_by f (take i entries) + f (get_or entries i entry) ≤ sum_by f entries = sum_by_more_le f entries i entry c.loop-entry-test.true in
    let part : c.point_weight-part.result ≡ f (get_or entries i entry) = c.point_weight-part.ensures ∙ ap f c.entry-item.is in
    let left : c.loop-entry.left + sum_by f (take i entries) ≡ c.args.limit = c.loop-entry.invariant in
    let above : c.args.limit < weight (reverse entries) = omega arith in
    sym (lt-leb (weight (reverse entries)) c.args.limit above)

pub returns : goal.returns
unfolding weight
returns c =
    let entries = c.args.entries.now in
    let i = c.loop-entry.entry-index in
    let f = λ (entry : Entry). point_weight entry.point in
    let total : weight (reverse entries) ≡ sum_by f (take i entries) =
    sum_by-reverse f entries ∙ sym (ap (sum_by f) (take_all i entries c.loop-entry-test.false)) in
    let left : c.loop-entry.left + sum_by f (take i entries) ≡ c.args.limit = c.loop-entry.invariant in
    let within : weight (reverse entries) ≤ c.args.limit = omega arith in
    sym (le-leb (weight (reverse entries)) c.args.limit within)
