use Rattle.std.proofs.Common.{min, length, sym, subst}
use Rattle.tttd_chunker.specs.Scanned.{IsScannedTo, IsKnown}
use Rattle.tttd_chunker.proofs.ProgressLaws.{known-main, known-full, open-end}
use Rattle.tttd_chunker.proofs.scan.decided.Goals as goal

pub returns-in-Scanned-clause-found : goal.returns-in-Scanned-clause-found
returns-in-Scanned-clause-found c =
    let n = c.args.numbers.now in
    let bytes = c.args.bytes.now in
    let scanned = subst (IsScannedTo n bytes (min n.tmax (length bytes))) c.in-Scanned.is c.requires.scanned in
    sym (open-end n bytes c.in-Scanned.scan scanned.0 scanned.1 c.if-bytes-tmax.true)

pub returns-in-Scanned-2 : goal.returns-in-Scanned-2
returns-in-Scanned-2 c =
    let n = c.args.numbers.now in
    let bytes = c.args.bytes.now in
    let scanned = subst (IsScannedTo n bytes (min n.tmax (length bytes))) c.in-Scanned-2.is c.requires.scanned in
    let known = known-full n bytes c.in-Scanned-2.scan c.requires.sound scanned.0 scanned.1 c.if-bytes-tmax.false in
    record { progress = subst (IsKnown n bytes) (sym c.unwrap_or.ensures) known; found = sym known.ended }

pub returns-in-Cut : goal.returns-in-Cut
returns-in-Cut c =
    let n = c.args.numbers.now in
    let bytes = c.args.bytes.now in
    let known = known-main n bytes c.in-Cut.len c.requires.sound (subst (IsScannedTo n bytes (min n.tmax (length bytes))) c.in-Cut.is c.requires.scanned) in
    record { progress = known; found = sym known.ended }
