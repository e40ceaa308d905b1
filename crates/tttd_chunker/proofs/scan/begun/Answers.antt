use Rattle.std.proofs.Common.{◌≡◌, ◌∙◌, refl, sym, true, false, arith}
use Rattle.roll_hash.specs.Fingerprint.{window_sum}
use Rattle.tttd_chunker.specs.Cut.{window, meets_main, meets_backup}
use Rattle.tttd_chunker.proofs.ScanLaws.{backup-main, greatest-last}
use Rattle.tttd_chunker.proofs.ProgressLaws.{NonePasses-at, greatest-at}
use Rattle.tttd_chunker.proofs.scan.begun.Goals as goal

pub returns-then-not-met : goal.returns-then-not-met
unfolding window
returns-then-not-met c =
    let n = c.args.numbers.now in
    let bytes = c.args.bytes.now in
    let sum : c.sum_of-sum.result ≡ window_sum (window bytes n.tmin) = c.sum_of-sum.ensures in
    let backup : meets_backup n bytes n.tmin ≡ false = sym (c.met.ensures bytes n.tmin sum) ∙ c.if-not-met.true in
    let main = backup-main n bytes n.tmin c.requires.sound backup in
    (record { from = omega arith; to = c.requires.enough; sum = sum; main = NonePasses-at (meets_main n bytes) n.tmin main; backup = sym (greatest-at (meets_backup n bytes) n.tmin backup) }, refl)

pub returns-then-met : goal.returns-then-met
unfolding window
returns-then-met c =
    let n = c.args.numbers.now in
    let bytes = c.args.bytes.now in
    let sum : c.sum_of-sum.result ≡ window_sum (window bytes n.tmin) = c.sum_of-sum.ensures in
    record { from = omega arith; to = omega arith; passes = sym (c.met-else-not-met.ensures bytes n.tmin sum) ∙ c.if-met.true; before = λ j a b. absurd (omega arith) }

pub returns-else-met : goal.returns-else-met
unfolding window
returns-else-met c =
    let n = c.args.numbers.now in
    let bytes = c.args.bytes.now in
    let sum : c.sum_of-sum.result ≡ window_sum (window bytes n.tmin) = c.sum_of-sum.ensures in
    let backup : meets_backup n bytes n.tmin ≡ true = sym (c.met.ensures bytes n.tmin sum) ∙ c.if-not-met.false in
    let main : meets_main n bytes n.tmin ≡ false = sym (c.met-else-not-met.ensures bytes n.tmin sum) ∙ c.if-met.false in
    (record { from = omega arith; to = c.requires.enough; sum = sum; main = NonePasses-at (meets_main n bytes) n.tmin main; backup = sym (greatest-last (meets_backup n bytes) n.tmin n.tmin (omega arith) backup) }, refl)
