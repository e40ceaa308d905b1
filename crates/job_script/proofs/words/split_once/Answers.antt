use Rattle.std.proofs.Common.{◌+◌, ◌-◌, length, drop, arith, rules, length-drop}
use Rattle.std.proofs.lemmas.List.{take_all}
use Rattle.job_script.proofs.WordLaws.{parts_at, parts_none}
use Rattle.job_script.proofs.words.split_once.Goals as goal

pub returns-then-b-separator-clause-found : goal.returns-then-b-separator-clause-found
returns-then-b-separator-clause-found c =
    let bytes = c.args.bytes.now in
    let behind = drop (c.loop-i.i + 1) bytes in
    rw (take_all (length bytes - (c.loop-i.i + 1)) behind (omega (arith, length-drop (c.loop-i.i + 1) bytes)))
    (parts_at c.args.separator bytes c.loop-i.i (omega arith) c.loop-i.invariant (search rules))

pub returns-clause-none : goal.returns-clause-none
returns-clause-none c = parts_none c.args.separator c.args.bytes.now (λ k l. c.loop-i.invariant k (omega arith))
