use Rattle.std.proofs.Common.{◌≡◌, ◌++◌, sym, ap, ◌∙◌, is_some, true, take, rules}
use Rattle.std.proofs.lemmas.List.{take-append-drop}
use Rattle.container_file.specs.Text.{header}
use Rattle.container_file.proofs.ScanLaws.{container_answer, bad_answer, behind_header, some_header, rest_of}
use Rattle.container_file.proofs.scanning.scan.Goals as goal

pub returns-clause-container : goal.returns-clause-container
returns-clause-container c = λ id chunks is.
    let some : is_some c.read_header.result ≡ true = search rules in
    let head = some_header c.read_header.result (λ j. header j ≡ c.split_at.result.0.now) some c.read_header.ensures.found in
    let whole : header head.0 ++ c.split_at.result.1.now ≡ c.args.bytes.now = ap (λ t. t ++ c.split_at.result.1.now) (head.1 ∙ c.split_at.ensures.front) ∙ ap (λ t. take 16 c.args.bytes.now ++ t) c.split_at.ensures.back ∙ take-append-drop 16 c.args.bytes.now in
    let text = behind_header id head.0 _ _ (is.text ∙ sym whole) in
    container_answer (λ v. v.items) c.scan_records.result c.split_at.result.1.now chunks c.scan_records.ensures.read c.scan_records.ensures.refused is.chunks text

pub returns-clause-bad : goal.returns-clause-bad
returns-clause-bad c = λ at bad.
    let some : is_some c.read_header.result ≡ true = search rules in
    let head = some_header c.read_header.result (λ j. header j ≡ c.split_at.result.0.now) some c.read_header.ensures.found in
    let whole : header head.0 ++ c.split_at.result.1.now ≡ c.args.bytes.now = ap (λ t. t ++ c.split_at.result.1.now) (head.1 ∙ c.split_at.ensures.front) ∙ ap (λ t. take 16 c.args.bytes.now ++ t) c.split_at.ensures.back ∙ take-append-drop 16 c.args.bytes.now in
    bad_answer (λ v. v.items) c.scan_records.result c.split_at.result.1.now at c.scan_records.ensures.read c.scan_records.ensures.refused (rest_of c.args.bytes.now c.split_at.result.1.now head.0 at whole bad)
