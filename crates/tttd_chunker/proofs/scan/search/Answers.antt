use Rattle.std.proofs.Common.{◌≤◌, ◌+◌, ◌∙◌, ap, sym, subst, length, Option, MatchOption, unwrap_or, ℕ, arith}
use Rattle.ss_base.specs.Search.{NonePasses, IsLeast}
use Rattle.roll_hash.specs.Fingerprint.{window_sum}
use Rattle.tttd_chunker.specs.Cut.{window, meets_main, meets_backup}
use Rattle.tttd_chunker.proofs.ProgressLaws.{scanned-end, scanned-backup, found-main}
use Rattle.tttd_chunker.proofs.scan.search.Goals as goal

pub returns-in-None : goal.returns-in-None
returns-in-None c =
    let n = c.args.numbers.now in
    let bytes = c.args.bytes.now in
    let s = c.loop-at.scan in
    let end = c.min-end.result in
    let stop = c.next_met-stop.ensures in
    let p = meets_backup n bytes in
    let none : NonePasses p (s.at + 1) end = subst (λ (r : Option ℕ). MatchOption r (NonePasses p (s.at + 1) end) (IsLeast p (s.at + 1) end)) c.in-None.is stop.found in
    let sum = stop.sum ∙ ap (λ r. window_sum (window bytes (unwrap_or r end))) c.in-None.is in
    let within : end ≤ length bytes = omega (arith, c.min-end.ensures) in
    (scanned-end n bytes s end c.next_met-stop.result.sum c.requires.sound c.loop-at.invariant.scanned c.loop-at.invariant.range within none sum, c.min-end.ensures)

pub returns-in-Some : goal.returns-in-Some
returns-in-Some c =
    let n = c.args.numbers.now in
    let bytes = c.args.bytes.now in
    let s = c.loop-at.scan in
    let end = c.min-end.result in
    let k = c.in-Some.at in
    let stop = c.next_met-stop.ensures in
    let p = meets_backup n bytes in
    let found : IsLeast p (s.at + 1) end k = subst (λ (r : Option ℕ). MatchOption r (NonePasses p (s.at + 1) end) (IsLeast p (s.at + 1) end)) c.in-Some.is stop.found in
    let sum = stop.sum ∙ ap (λ r. window_sum (window bytes (unwrap_or r end))) c.in-Some.is in
    let passes = sym (c.met.ensures bytes k sum) ∙ c.if-met.true in
    subst (λ e. IsLeast (meets_main n bytes) n.tmin e k) c.min-end.ensures
    (found-main n bytes s end k c.requires.sound c.loop-at.invariant.scanned found passes)

pub loop-at-preserved : goal.loop-at-preserved
loop-at-preserved c =
    let n = c.args.numbers.now in
    let bytes = c.args.bytes.now in
    let s = c.loop-at.scan in
    let end = c.min-end.result in
    let k = c.in-Some-2.at in
    let stop = c.next_met-stop.ensures in
    let p = meets_backup n bytes in
    let found : IsLeast p (s.at + 1) end k = subst (λ (r : Option ℕ). MatchOption r (NonePasses p (s.at + 1) end) (IsLeast p (s.at + 1) end)) c.in-Some-2.is stop.found in
    let sum = stop.sum ∙ ap (λ r. window_sum (window bytes (unwrap_or r end))) c.in-Some-2.is in
    let fails = sym (c.met.ensures bytes k sum) ∙ c.if-met.false in
    let within : end ≤ length bytes = omega (arith, c.min-end.ensures) in
    record {
      scanned = scanned-backup n bytes s end k c.next_met-stop.result.sum c.requires.sound c.loop-at.invariant.scanned within found fails sum;
      range = found.to;
    }
