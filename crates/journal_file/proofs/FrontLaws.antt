-- A journal that comes in pieces.
use Rattle.std.proofs.Common.{◌≡◌, ◌≢◌, ℕ, ◌≤◌, List, [], ◌∷◌, ◌++◌, length, get_or, take, drop, refl, sym, ap, ◌∙◌, append_assoc, arith, Option, Some, None}
use Rattle.std.proofs.lemmas.List.{length-append, take-append-le, take-append-drop, take_at, drop_at}
use Rattle.ss_base.specs.declared.profile.Profile.{Profile}
use Rattle.ss_base.specs.declared.profile.Profile.TheVariants.{Tiny, Small, Large}
use Rattle.journal_entry.specs.declared.entry.Entry.{Entry}
use Rattle.journal_entry.specs.EntryText.{entries_text}
use Rattle.journal_file.specs.declared.fault.JournalFault.{JournalFault}
use Rattle.journal_file.specs.declared.fault.JournalFault.TheVariants.{Shelf, NotStore, BadEntry, Memory}
use Rattle.journal_file.specs.Header.{header_text}
use Rattle.journal_file.specs.Journal.{journal_text, HasNoHeader}
use Rattle.journal_file.specs.Scan.{IsBodyFault, IsBytesFault, head_text, scanned_text, IsPending}

pub length-header : (profile : Profile) → length (header_text profile) ≡ 8
length-header Tiny = refl
length-header Small = refl
length-header Large = refl

-- eight bytes that are no header stay none, however they go on
pub no_header_later : (bytes : List ℕ) → 8 ≤ length bytes → HasNoHeader bytes → (later : List ℕ) → HasNoHeader (bytes ++ later)
no_header_later bytes long none later profile rest is =
    let front : take 8 bytes ≡ header_text profile =
    sym (take-append-le 8 bytes later long) ∙ ap (take 8) is ∙ take_at (header_text profile) rest 8 (length-header profile) in
    none profile (drop 8 bytes) (sym (take-append-drop 8 bytes) ∙ ap (λ (l : List ℕ). l ++ drop 8 bytes) front)

-- two journals that are alike have bodies alike
pub same_body : (p q : Profile) (x y : List ℕ) → header_text p ++ x ≡ header_text q ++ y → x ≡ y
same_body p q x y is = sym (drop_at (header_text p) x 8 (length-header p)) ∙ ap (drop 8) is ∙ drop_at (header_text q) y 8 (length-header q)

-- and headers too
pub same_header : (p q : Profile) (x y : List ℕ) → header_text p ++ x ≡ header_text q ++ y → header_text p ≡ header_text q
same_header p q x y is = sym (take_at (header_text p) x 8 (length-header p)) ∙ ap (take 8) is ∙ take_at (header_text q) y 8 (length-header q)

-- what was read and a further piece are a header and a body
pub front_opens : (profile : Option Profile) (entries : List Entry) (pending piece body : List ℕ) (p : Profile)
    → IsPending profile entries pending → head_text profile ++ (pending ++ piece) ≡ header_text p ++ body
    → scanned_text profile entries pending ++ piece ≡ header_text p ++ (entries_text entries ++ body)
front_opens None entries pending piece body p rest is =
    let none : entries_text entries ≡ [] = ap entries_text rest.0 in
    rw none is
front_opens (Some q) entries pending piece body p rest is =
    let bytes : pending ++ piece ≡ body = same_body q p (pending ++ piece) body is in
    let head : header_text q ≡ header_text p = same_header q p (pending ++ piece) body is in
    append_assoc (header_text q) (entries_text entries ++ pending) piece
    ∙ ap (λ (l : List ℕ). header_text q ++ l) (append_assoc (entries_text entries) pending piece ∙ ap (λ (l : List ℕ). entries_text entries ++ l) bytes)
    ∙ ap (λ (l : List ℕ). l ++ (entries_text entries ++ body)) head

-- a piece that was taken
pub front_goes_on : (profile : Option Profile) (entries new : List Entry) (pending piece body rest : List ℕ) (p : Profile)
    → IsPending profile entries pending → head_text profile ++ (pending ++ piece) ≡ header_text p ++ body
    → entries_text entries ++ body ≡ entries_text new ++ rest
    → scanned_text (Some p) new rest ≡ scanned_text profile entries pending ++ piece
front_goes_on profile entries new pending piece body rest p pends head is =
    sym (front_opens profile entries pending piece body p pends head ∙ ap (λ (l : List ℕ). header_text p ++ l) is)

-- a fault of the body is one of all bytes, however they go on
pub fault_later : (fault : JournalFault) (p : Profile) (text body : List ℕ) → text ≡ header_text p ++ body → IsBodyFault fault body → (later : List ℕ) → IsBytesFault fault (text ++ later)
fault_later Shelf p text body is bad later = bad
fault_later NotStore p text body is bad later = absurd bad
fault_later Memory p text body is bad later = tt
fault_later (BadEntry place) p text body is bad later = record {
  profile = p;
  before = bad.before;
  rest = bad.rest ++ later;
  text =
      ap (λ (l : List ℕ). l ++ later) (is ∙ ap (λ (l : List ℕ). header_text p ++ l) bad.text ∙ sym (append_assoc (header_text p) (entries_text bad.before) bad.rest))
      ∙ append_assoc (journal_text p bad.before) bad.rest later;
  place_is = omega (arith, bad.place_is, length-append (header_text p) (entries_text bad.before), length-header p);
  valid = bad.valid;
  fits = bad.fits;
  more = λ none. bad.more (no_front bad.rest later none);
  bad = λ entry n begins fits. bad.bad later entry n begins fits;
}
  where
    no_front : (x y : List ℕ) → x ++ y ≡ [] → x ≡ []
    no_front [] y none = refl
    no_front (b ∷ x) y none = (cc)

different : (x y : List ℕ) → get_or x 4 0 ≢ get_or y 4 0 → x ≢ y
different x y codes is = codes (ap (λ (l : List ℕ). get_or l 4 0) is)

-- a header is that of one profile
pub same_profile : (p q : Profile) → header_text p ≡ header_text q → p ≡ q
same_profile Tiny Tiny is = refl
same_profile Tiny Small is = absurd (different (header_text Tiny) (header_text Small) (omega arith) is)
same_profile Tiny Large is = absurd (different (header_text Tiny) (header_text Large) (omega arith) is)
same_profile Small Tiny is = absurd (different (header_text Small) (header_text Tiny) (omega arith) is)
same_profile Small Small is = refl
same_profile Small Large is = absurd (different (header_text Small) (header_text Large) (omega arith) is)
same_profile Large Tiny is = absurd (different (header_text Large) (header_text Tiny) (omega arith) is)
same_profile Large Small is = absurd (different (header_text Large) (header_text Small) (omega arith) is)
same_profile Large Large is = refl
