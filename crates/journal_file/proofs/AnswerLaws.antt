-- Bytes are one journal, or no store, or bad at one place.
use Rattle.std.proofs.Common.{◌≡◌, ℕ, List, [], ◌∷◌, ◌++◌, length, take, refl, sym, ap, subst, ◌∙◌, append_assoc, arith}
use Rattle.std.specs.List.{AllByRecursion}
use Rattle.std.proofs.lemmas.List.{length-append, append-nil, take_at}
use Rattle.journal_entry.proofs.Entries.{same_entry, same_entries}
use Rattle.journal_entry.proofs.WeightLaws.{weight-append}
use Rattle.ss_base.specs.declared.profile.Profile.{Profile}
use Rattle.journal_entry.specs.declared.entry.Entry.{Entry}
use Rattle.journal_entry.specs.Bounds.{IsEntry, Begins}
use Rattle.journal_entry.specs.EntryText.{entry_text, entries_text}
use Rattle.journal_file.specs.Header.{header_text}
use Rattle.journal_file.specs.Journal.{FitsJournal, IsJournal, HasNoHeader, IsBadAt}
use Rattle.journal_file.proofs.FrontLaws.{same_body, same_header, same_profile, length-header}

-- a front of entries that fit a journal fits it
FitsJournal-front : (xs ys : List Entry) → FitsJournal (xs ++ ys) → FitsJournal xs
FitsJournal-front xs ys fits = record {
  count = omega (arith, fits.count, length-append xs ys);
  weight = omega (arith, fits.weight, weight-append xs ys);
}

-- behind these entries there is none that fits a journal
abbrev pub IsOver : List Entry → List ℕ → Type 0
IsOver before rest = (e : Entry) (n : ℕ) → Begins e n rest → FitsJournal (before ++ e ∷ []) → ⊥

-- entries that go on to where no further one fits go on as long as any others
pub go_on : (seen xs ys : List Entry) (x y : List ℕ) → AllByRecursion IsEntry xs → AllByRecursion IsEntry ys
    → entries_text xs ++ x ≡ entries_text ys ++ y → IsOver (seen ++ xs) x → FitsJournal (seen ++ ys)
    → (zs : List Entry) × (xs ≡ ys ++ zs) × (y ≡ entries_text zs ++ x)
go_on seen xs [] x y left right same over fits = (xs, refl, sym same)
go_on seen [] (f ∷ ys) x y left right same over fits =
    let text = entry_text f in
    let parts : x ≡ text ++ (entries_text ys ++ y) = same ∙ append_assoc text (entries_text ys) y in
    let begins : Begins f (length text) x = record {
      valid = right.0;
      text = ap (take (length text)) parts ∙ take_at text (entries_text ys ++ y) (length text) refl;
      len = omega (arith, ap length parts, length-append text (entries_text ys ++ y));
    } in
    let one : FitsJournal ((seen ++ []) ++ f ∷ []) =
    subst (λ (s : List Entry). FitsJournal (s ++ f ∷ [])) (sym (append-nil seen))
    (FitsJournal-front (seen ++ f ∷ []) ys (subst FitsJournal (sym (append_assoc seen (f ∷ []) ys)) fits)) in
    absurd (over f (length text) begins one)
go_on seen (e ∷ xs) (f ∷ ys) x y left right same over fits =
    let both = same_entry e f (entries_text xs ++ x) (entries_text ys ++ y) left.0 right.0
    (sym (append_assoc (entry_text e) (entries_text xs) x) ∙ same ∙ append_assoc (entry_text f) (entries_text ys) y) in
    let rest = go_on (seen ++ e ∷ []) xs ys x y left.1 right.1 both.1
    (subst (λ (s : List Entry). IsOver s x) (sym (append_assoc seen (e ∷ []) xs)) over)
    (subst FitsJournal (sym (append_assoc seen (e ∷ []) ys)) (subst (λ (d : Entry). FitsJournal (seen ++ d ∷ ys)) (sym both.0) fits)) in
    (rest.0, ap (λ (d : Entry). d ∷ xs) both.0 ∙ ap (λ (l : List Entry). f ∷ l) rest.1, rest.2)

no_end : (x y : List ℕ) → [] ≡ x ++ y → y ≡ []
no_end [] y is = sym is
no_end (b ∷ x) y is = (cc)

-- a journal is not bad
pub not_bad : (bytes : List ℕ) (profile : Profile) (entries : List Entry) (place : ℕ) → IsJournal bytes profile entries → IsBadAt bytes place → ⊥
not_bad bytes profile entries place good bad =
    let body = same_body bad.profile profile (entries_text bad.before ++ bad.rest) (entries_text entries ++ [])
    (sym (append_assoc (header_text bad.profile) (entries_text bad.before) bad.rest) ∙ sym bad.text ∙ good.text ∙ ap (λ (l : List ℕ). header_text profile ++ l) (sym (append-nil (entries_text entries)))) in
    let longer = go_on [] bad.before entries bad.rest [] bad.valid good.valid body bad.bad good.fits in
    bad.more (no_end (entries_text longer.0) bad.rest longer.2)

-- there is one bad place
pub one_place : (bytes : List ℕ) (first second : ℕ) → IsBadAt bytes first → IsBadAt bytes second → first ≡ second
one_place bytes first second a b =
    let body = same_body a.profile b.profile (entries_text a.before ++ a.rest) (entries_text b.before ++ b.rest)
    (sym (append_assoc (header_text a.profile) (entries_text a.before) a.rest) ∙ sym a.text ∙ b.text ∙ append_assoc (header_text b.profile) (entries_text b.before) b.rest) in
    let longer = go_on [] a.before b.before a.rest b.rest a.valid b.valid body a.bad b.fits in
    let shorter = go_on [] b.before a.before b.rest a.rest b.valid a.valid (sym body) b.bad a.fits in
    omega (
      arith,
      a.place_is,
      b.place_is,
      length-append (header_text a.profile) (entries_text a.before),
      length-append (header_text b.profile) (entries_text b.before),
      length-header a.profile,
      length-header b.profile,
      ap length body,
      length-append (entries_text a.before) a.rest,
      length-append (entries_text b.before) b.rest,
      ap length longer.2,
      ap length shorter.2,
      length-append (entries_text longer.0) a.rest,
      length-append (entries_text shorter.0) b.rest,
    )

-- bytes are a journal of one profile, with one list of entries
pub one_journal : (bytes : List ℕ) (p q : Profile) (left right : List Entry) → IsJournal bytes p left → IsJournal bytes q right → (p ≡ q) × (left ≡ right)
one_journal bytes p q left right a b =
    let same = sym a.text ∙ b.text in
    (same_profile p q (same_header p q (entries_text left) (entries_text right) same), same_entries left right a.valid b.valid (same_body p q (entries_text left) (entries_text right) same))

pub has_header : (bytes : List ℕ) (place : ℕ) → IsBadAt bytes place → HasNoHeader bytes → ⊥
has_header bytes place bad none =
    none bad.profile (entries_text bad.before ++ bad.rest) (bad.text ∙ append_assoc (header_text bad.profile) (entries_text bad.before) bad.rest)
