-- Reading entries off the front of bytes.
use Rattle.std.proofs.Common.{◌≡◌, ◌≢◌, ℕ, ◌≤◌, List, [], ◌∷◌, ◌++◌, length, drop, sym, ap, subst, ◌∙◌, append_assoc, arith}
use Rattle.std.proofs.lemmas.List.{length-take-le, take-append-le, take-append-drop}
use Rattle.journal_entry.proofs.Entries.{same_entry}
use Rattle.journal_entry.specs.declared.entry.Entry.{Entry}
use Rattle.journal_entry.specs.Bounds.{Begins}
use Rattle.journal_entry.specs.EntryText.{entry_text, entries_text}
use Rattle.journal_file.specs.Journal.{FitsJournal}
use Rattle.journal_file.specs.Scan.{longest_entry, AreFound, NoneBegins, NoneWillBegin, IsBadFor, IsBodyFault}
use Rattle.journal_file.specs.declared.fault.JournalFault.{JournalFault}
use Rattle.journal_file.specs.declared.fault.JournalFault.TheVariants.{Shelf, NotStore, BadEntry, Memory}
use Rattle.journal_file.proofs.Lengths.{length-entry}

pub Begins-length : (e : Entry) (n : ℕ) (bytes : List ℕ) → Begins e n bytes → n ≡ length (entry_text e)
Begins-length e n bytes begins = omega (arith, ap length begins.text, length-take-le n bytes begins.len)

-- the text, and what follows it
pub Begins-parts : (e : Entry) (n : ℕ) (bytes : List ℕ) → Begins e n bytes → bytes ≡ entry_text e ++ drop n bytes
Begins-parts e n bytes begins = sym (take-append-drop n bytes) ∙ ap (λ (l : List ℕ). l ++ drop n bytes) begins.text

-- a text that ends within the bytes needs no more of them
pub Begins-shorter : (e : Entry) (n : ℕ) (bytes later : List ℕ) → Begins e n (bytes ++ later) → n ≤ length bytes → Begins e n bytes
Begins-shorter e n bytes later begins le =
    record { valid = begins.valid; text = sym (take-append-le n bytes later le) ∙ begins.text; len = le }

-- where as many bytes as the longest text has begin with none, none will begin them
pub none_will_begin : (bytes : List ℕ) → NoneBegins bytes → longest_entry ≤ length bytes → NoneWillBegin bytes
none_will_begin bytes none long = (
  λ is. absurd (omega (arith, ap length is)),
  λ later e n begins.
      none e n (Begins-shorter e n bytes later begins (omega (arith, Begins-length e n (bytes ++ later) begins, (length-entry e begins.valid).1))),
)

-- what begins with a text has bytes
pub Begins-some : (e : Entry) (n : ℕ) (bytes : List ℕ) → Begins e n bytes → bytes ≢ []
Begins-some e n bytes begins is =
    absurd (omega (arith, ap length is, begins.len, Begins-length e n bytes begins, (length-entry e begins.valid).0))

-- bytes begin with one entry at most, however they go on
pub Begins-only : (e f : Entry) (n m : ℕ) (bytes later : List ℕ) → Begins e n bytes → Begins f m (bytes ++ later) → f ≡ e
Begins-only e f n m bytes later first second =
    let whole = sym (Begins-parts f m (bytes ++ later) second) ∙ ap (λ (l : List ℕ). l ++ later) (Begins-parts e n bytes first) ∙ append_assoc (entry_text e) (drop n bytes) later in
    (same_entry f e (drop m (bytes ++ later)) (drop n bytes ++ later) second.valid first.valid whole).0

module _ (text : List ℕ) (found : List Entry) (sum place : ℕ) (rest : List ℕ) where
  -- where there is no room for the entry that begins the rest, it is bad
  pub full_is_bad : text ≡ entries_text found ++ rest → AreFound found sum place → (entry : Entry) (n : ℕ) → Begins entry n rest → (fault : JournalFault)
      → IsBadFor fault place (FitsJournal (found ++ entry ∷ []) → ⊥) → IsBodyFault fault text
  full_is_bad is are entry n first Shelf for = for
  full_is_bad is are entry n first NotStore for = for
  full_is_bad is are entry n first Memory for = tt
  full_is_bad is are entry n first (BadEntry at) for = record {
    before = found;
    rest = rest;
    text = is;
    place_is = for.0 ∙ are.place_is;
    valid = are.valid;
    fits = are.fits;
    more = Begins-some entry n rest first;
    bad = λ later e m begins fits. for.1 (subst (λ (x : Entry). FitsJournal (found ++ x ∷ [])) (Begins-only entry e n m rest later first begins) fits);
  }
