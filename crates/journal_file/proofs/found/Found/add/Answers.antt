use Rattle.std.proofs.Common.{◌+◌, List, arith, refl, inl, inr, subst, sym}
use Rattle.journal_entry.specs.declared.entry.Entry.{Entry}
use Rattle.journal_file.specs.Scan.{AreFound}
use Rattle.journal_file.proofs.Lengths.{length-entry, length-entries}
use Rattle.journal_file.proofs.FoundLaws.{found_more, full}
use Rattle.journal_file.proofs.found.Found.add.Goals as goal
use Rattle.journal_file.proofs.found.Found.add.Goals.{then-len-eq-MAX_ENTRIES-via-then-len-eq-MAX_ENTRIES, then-len-eq-MAX_ENTRIES-via-else-len-eq-MAX_ENTRIES+then-weight-self}

pub overflow_add-self-2 : goal.overflow_add-self-2
overflow_add-self-2 c =
    let before = c.requires.before in
    omega (arith, length-entries c.args.self.now.entries.items before.valid, (length-entry c.args.entry c.requires.valid).1)

pub returns-then-len-eq-MAX_ENTRIES-clause-full : goal.returns-then-len-eq-MAX_ENTRIES-clause-full
returns-then-len-eq-MAX_ENTRIES-clause-full c = (
  refl,
  full c.args.self.now.entries.items c.args.entry c.args.self.now.weight c.args.self.now.place c.weight_of-weight.result c.requires.before c.weight_of-weight.ensures.weight
      (elim c.then-len-eq-MAX_ENTRIES.branch [
        | then-len-eq-MAX_ENTRIES-via-then-len-eq-MAX_ENTRIES w ↦ inl (omega arith)
        | then-len-eq-MAX_ENTRIES-via-else-len-eq-MAX_ENTRIES+then-weight-self w ↦ inr (omega arith)
      ]),
)

pub returns-clause-after : goal.returns-clause-after
returns-clause-after c =
    let P : List Entry → Type 0 = λ entries. AreFound entries (c.args.self.now.weight + c.weight_of-weight.result) (c.args.self.now.place + c.args.len) in
    subst P (sym c.in_ok-push.ensures.items)
    (found_more c.args.self.now.entries.items c.args.entry c.args.self.now.weight c.args.self.now.place c.weight_of-weight.result c.args.len c.requires.before c.requires.valid c.requires.text c.weight_of-weight.ensures.weight
    (λ at_limit. absurd (omega (arith, at_limit, c.if-len-eq-MAX_ENTRIES.false, c.len.ensures)))
    (omega (arith, c.if-weight-self.false)))
