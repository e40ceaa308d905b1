-- What a scan answers follows from what it read.
use Rattle.std.proofs.Common.{◌≡◌, ◌⊎◌, ℕ, ◌+◌, true, List, [], ◌++◌, length, drop, All, refl, sym, ap, ◌∙◌, inl, inr, append-nil, append_assoc, length-append, Option, None, Some, Result, Ok, Err, IfOk, IfErr, IfSome, MatchResult, is_some}
use Rattle.ss_base.specs.declared.ids.ContainerId.{ContainerId}
use Rattle.container_file.specs.declared.scanning.ScanRecord.{ScanRecord}
use Rattle.container_file.specs.declared.scanning.ScanFault.{ScanFault}
use Rattle.container_file.specs.declared.scanning.ScanFault.TheVariants.{NotContainer, Memory}
use Rattle.container_file.specs.Chunk.{Chunk, IsChunk}
use Rattle.container_file.specs.Text.{header, records_text}
use Rattle.container_file.specs.Scanned.{records_of, HasBadRest, IsFirstBad, RefusesRecords}
use Rattle.container_file.proofs.TextLaws.{same_records, none-begins-empty}

-- records were read, all of the bytes
abbrev pub ReadsRecords : List ℕ → List ScanRecord → Type 0
ReadsRecords records found = (chunks : List Chunk) × All IsChunk chunks × (records_text chunks ≡ records) × (found ≡ records_of chunks)

-- the records of a list and of a text are the same
pub read_once : (records : List ℕ) (found : List ScanRecord) (chunks : List Chunk) → ReadsRecords records found → All IsChunk chunks → records_text chunks ≡ records → found ≡ records_of chunks
read_once records found chunks read are text =
    let same = same_records read.0 chunks [] [] read.1 are none-begins-empty none-begins-empty (ap (λ t. t ++ []) (read.2 ∙ sym text)) in
    read.3 ∙ ap records_of same.0

pub not_both : (records : List ℕ) (at : ℕ) (chunks : List Chunk) → HasBadRest records at → All IsChunk chunks → records_text chunks ≡ records → ⊥
not_both records at chunks bad are text =
    let same = same_records bad.before chunks bad.rest [] bad.chunks are bad.bad none-begins-empty (bad.text ∙ sym text ∙ sym (append-nil (records_text chunks))) in
    bad.some same.1

pub one_place : (records : List ℕ) (at other : ℕ) → HasBadRest records at → HasBadRest records other → at ≡ other
one_place records at other a b =
    let same = same_records a.before b.before a.rest b.rest a.chunks b.chunks a.bad b.bad (a.text ∙ sym b.text) in
    a.place ∙ ap (λ cs. 16 + length (records_text cs)) same.0 ∙ sym b.place

pub container_answer : {V : Type 0} (items : V → List ScanRecord) (r : Result V ScanFault) (records : List ℕ) (chunks : List Chunk) → IfOk r (λ v. ReadsRecords records (items v)) → IfErr r (RefusesRecords records) → All IsChunk chunks → records_text chunks ≡ records → MatchResult r (λ v. items v ≡ records_of chunks) (λ fault. fault ≡ Memory)
container_answer items (Ok v) records chunks read refused are text = read_once records (items v) chunks read are text
container_answer items (Err (NotContainer at)) records chunks read refused are text = absurd (not_both records at chunks refused are text)
container_answer items (Err Memory) records chunks read refused are text = refl

pub bad_answer : {V : Type 0} (items : V → List ScanRecord) (r : Result V ScanFault) (records : List ℕ) (at : ℕ) → IfOk r (λ v. ReadsRecords records (items v)) → IfErr r (RefusesRecords records) → HasBadRest records at → MatchResult r (λ v. ⊥) (λ fault. (fault ≡ NotContainer at) ⊎ (fault ≡ Memory))
bad_answer items (Ok v) records at read refused bad = not_both records at read.0 bad read.1 read.2
bad_answer items (Err (NotContainer other)) records at read refused bad = inl (ap NotContainer (one_place records other at refused bad))
bad_answer items (Err Memory) records at read refused bad = inr refl

-- a header takes 16 bytes
pub behind_header : (id other : ContainerId) (x y : List ℕ) → header id ++ x ≡ header other ++ y → x ≡ y
behind_header id other x y same = ap (drop 16) same

pub some_header : (r : Option ContainerId) (P : ContainerId → Type 0) → is_some r ≡ true → IfSome r P → (id : ContainerId) × P id
some_header None P some given = absurd (cc)
some_header (Some id) P some given = (id, given)

pub rest_of : (bytes records : List ℕ) (id : ContainerId) (at : ℕ) → header id ++ records ≡ bytes → IsFirstBad bytes at → HasBadRest records at
rest_of bytes records id at whole (inl h) = absurd (h.0 id records whole)
rest_of bytes records id at whole (inr bad) =
    record {
      before = bad.before;
      rest = bad.rest;
      chunks = bad.chunks;
      text = behind_header bad.id id _ _ (sym (append_assoc (header bad.id) (records_text bad.before) bad.rest) ∙ bad.text ∙ sym whole);
      place = bad.place ∙ length-append (header bad.id) (records_text bad.before);
      some = bad.some;
      bad = bad.bad;
    }
