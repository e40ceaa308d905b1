-- Reads of a journal, one behind the other.
use Rattle.std.proofs.Common.{◌≡◌, ◌≢◌, ℕ, ◌+◌, ◌^◌, ◌<◌, ◌≤◌, List, [], ◌∷◌, ◌++◌, length, drop, refl, sym, ap, subst, ◌∙◌, append_assoc, arith, Option, Some, None, Result, Ok, Err, Vec, inl, inr}
use Rattle.std.specs.Prelude.{IfSome, IfOk, IfErr}
use Rattle.std.specs.List.{AllByRecursion}
use Rattle.std.specs.declared.alloc.Global.{Global}
use Rattle.std.proofs.lemmas.List.{length-append, append-nil}
use Rattle.std.proofs.lemmas.Grind.{flat_map-append}
use Rattle.ss_base.specs.declared.limits.TheConstants.{PIECE_LEN}
use Rattle.ss_base.specs.declared.profile.Profile.{Profile}
use Rattle.journal_entry.specs.declared.entry.Entry.{Entry}
use Rattle.journal_entry.specs.EntryText.{entries_text}
use Rattle.outside.specs.Shelf.{Objects, Given, bytes_of, part_of, read_of, one_more, next_read}
use Rattle.outside.proofs.ShelfLaws.{part_of-rest, part_of-end}
use Rattle.journal_file.specs.declared.fault.JournalFault.{JournalFault}
use Rattle.journal_file.specs.declared.fault.JournalFault.TheVariants.{Shelf, NotStore, BadEntry, Memory}
use Rattle.journal_file.specs.declared.scan.Scan.{Scan}
use Rattle.outside.specs.declared.trouble.Trouble.{Trouble}
use Rattle.outside.specs.declared.trouble.Trouble.TheVariants.{Fault, Memory as WantsMemory}
use Rattle.journal_file.specs.Cause.{journal_fault, ReadCount}
use Rattle.journal_file.specs.Header.{journal_name}
use Rattle.journal_file.specs.Journal.{IsJournal}
use Rattle.journal_file.specs.Answer.{IsRefusedBy, IsAnswer, reads_from, joined, with_reads, count_reads, AreCounted, AreParts, ReadToEnd, EndsWith, HasRead}
use Rattle.journal_file.specs.Scan.{IsBytesFault, IsPending, head_text}
use Rattle.journal_file.specs.Front.{IsFront, scan_text}
use Rattle.journal_file.proofs.Lengths.{length-entries}
use Rattle.journal_file.proofs.FrontLaws.{length-header}

-- a front of a journal is short
pub length-front : (scan : Scan) → IsFront scan → length (scan_text scan) < 2 ^ 40
length-front scan front =
    let entries = scan.found.entries.items in
    let texts = length-entries entries front.found.valid in
    let count = front.found.fits.count in
    omega (
      arith,
      length-append (head_text scan.profile) (entries_text entries ++ scan.pending.items),
      length-append (entries_text entries) scan.pending.items,
      length-head scan.profile,
      length-pending scan.profile entries scan.pending.items front.rest,
    )
  where
    length-head : (profile : Option Profile) → length (head_text profile) ≤ 8
    length-head None = omega arith
    length-head (Some p) = omega (arith, length-header p)

    length-pending : (profile : Option Profile) (entries : List Entry) (pending : List ℕ) → IsPending profile entries pending → length pending < 133124
    length-pending None entries pending rest = omega (arith, rest.1)
    length-pending (Some p) entries pending rest = rest.1

-- what was read so far: its pieces, and what an exclusive shelf still has
pub record IsSoFar (held : Option Objects) (old new : Option (List Given)) (first last : ℕ) (text : List ℕ) (place : ℕ) : Type 0 where
  pub pieces : List (List ℕ)
  pub count : last ≡ count_reads first pieces
  pub gave : new ≡ with_reads old pieces
  pub parts : AreParts pieces
  pub joined_is : joined pieces ≡ text
  pub place_is : place ≡ length text
  pub told : IfSome held (λ objects. bytes_of objects journal_name ≡ text ++ drop place (bytes_of objects journal_name))

with_reads-none : (told : Option (List Given)) → told ≡ with_reads told []
with_reads-none None = refl
with_reads-none (Some gave) = ap Some (sym (append-nil gave))

count_reads-more : (first : ℕ) (pieces : List (List ℕ)) (piece : List ℕ) → count_reads first (pieces ++ piece ∷ []) ≡ next_read (count_reads first pieces)
count_reads-more first [] piece = refl
count_reads-more first (p ∷ pieces) piece = count_reads-more (next_read first) pieces piece

reads_from-append : (place : ℕ) (pieces : List (List ℕ)) (piece : List ℕ) → reads_from place (pieces ++ piece ∷ []) ≡ reads_from place pieces ++ read_of journal_name (place + length (joined pieces)) PIECE_LEN piece ∷ []
reads_from-append place [] piece = ap (λ n. read_of journal_name n PIECE_LEN piece ∷ []) (omega arith)
reads_from-append place (p ∷ pieces) piece =
    ap (λ (l : List Given). read_of journal_name place PIECE_LEN p ∷ l)
    (reads_from-append (place + length p) pieces piece
    ∙ ap (λ n. reads_from (place + length p) pieces ++ read_of journal_name n PIECE_LEN piece ∷ []) (omega (arith, length-append p (joined pieces))))

with_reads-more : (told : Option (List Given)) (pieces : List (List ℕ)) (piece : List ℕ) (place : ℕ) → place ≡ length (joined pieces)
    → one_more (with_reads told pieces) (read_of journal_name place PIECE_LEN piece) ≡ with_reads told (pieces ++ piece ∷ [])
with_reads-more None pieces piece place is = refl
with_reads-more (Some gave) pieces piece place is =
    ap Some (append_assoc gave (reads_from 0 pieces) (read_of journal_name place PIECE_LEN piece ∷ [])
    ∙ ap (λ (l : List Given). gave ++ l) (ap (λ n. reads_from 0 pieces ++ read_of journal_name n PIECE_LEN piece ∷ []) (omega (arith, is)) ∙ sym (reads_from-append 0 pieces piece)))

pub AllByRecursion-snoc : {A : Type 0} (P : A → Type 0) (xs : List A) (x : A) → AllByRecursion P xs → P x → AllByRecursion P (xs ++ x ∷ [])
AllByRecursion-snoc P [] x all here = (here, tt)
AllByRecursion-snoc P (y ∷ ys) x all here = (all.0, AllByRecursion-snoc P ys x all.1 here)

joined-more : (pieces : List (List ℕ)) (piece : List ℕ) → joined (pieces ++ piece ∷ []) ≡ joined pieces ++ piece
joined-more pieces piece = flat_map-append (λ (p : List ℕ). p) pieces (piece ∷ []) ∙ ap (λ (l : List ℕ). joined pieces ++ l) (append-nil piece)

-- what an exclusive shelf has behind one more piece
told_more : (held : Option Objects) (text piece : List ℕ) (place : ℕ)
    → IfSome held (λ objects. bytes_of objects journal_name ≡ text ++ drop place (bytes_of objects journal_name))
    → IfSome held (λ objects. piece ≡ part_of (bytes_of objects journal_name) place PIECE_LEN)
    → IfSome held (λ objects. bytes_of objects journal_name ≡ (text ++ piece) ++ drop (place + length piece) (bytes_of objects journal_name))
told_more None text piece place told given = tt
told_more (Some objects) text piece place told given =
    told ∙ ap (λ (l : List ℕ). text ++ l) (part_of-rest (bytes_of objects journal_name) piece place PIECE_LEN given)
    ∙ sym (append_assoc text piece (drop (place + length piece) (bytes_of objects journal_name)))

module _ (held : Option Objects) (old gave new : Option (List Given)) (first last now : ℕ) (text piece : List ℕ) (place : ℕ) (before : IsSoFar held old gave first last text place)
    (counted : now ≡ next_read last)
    (read : new ≡ one_more gave (read_of journal_name place PIECE_LEN piece))
    (given : IfSome held (λ objects. piece ≡ part_of (bytes_of objects journal_name) place PIECE_LEN)) where
  gave_more : new ≡ with_reads old (before.pieces ++ piece ∷ [])
  gave_more =
      read ∙ ap (λ (o : Option (List Given)). one_more o (read_of journal_name place PIECE_LEN piece)) before.gave
      ∙ with_reads-more old before.pieces piece place (before.place_is ∙ sym (ap length before.joined_is))

  count_more : now ≡ count_reads first (before.pieces ++ piece ∷ [])
  count_more = counted ∙ ap next_read before.count ∙ sym (count_reads-more first before.pieces piece)

  joined_now : joined (before.pieces ++ piece ∷ []) ≡ text ++ piece
  joined_now = joined-more before.pieces piece ∙ ap (λ (l : List ℕ). l ++ piece) before.joined_is

  -- after a read that gave bytes
  pub more_so_far : (after : List ℕ) (next : ℕ) → piece ≢ [] → after ≡ text ++ piece → next ≡ place + length piece → IsSoFar held old new first now after next
  more_so_far after next some after_is next_is = record {
    pieces = before.pieces ++ piece ∷ [];
    count = count_more;
    gave = gave_more;
    parts = AllByRecursion-snoc (λ (p : List ℕ). p ≢ []) before.pieces piece before.parts some;
    joined_is = joined_now ∙ sym after_is;
    place_is = next_is ∙ omega (arith, before.place_is, length-append text piece, ap length after_is);
    told =
        subst (λ (t : List ℕ). IfSome held (λ objects. bytes_of objects journal_name ≡ t ++ drop next (bytes_of objects journal_name))) (sym after_is)
        (subst (λ (n : ℕ). IfSome held (λ objects. bytes_of objects journal_name ≡ (text ++ piece) ++ drop n (bytes_of objects journal_name))) (sym next_is)
        (told_more held text piece place before.told given));
  }

refused_by : (fault : JournalFault) (bytes : List ℕ) → IsBytesFault fault bytes → IsRefusedBy fault bytes
refused_by Shelf bytes bad = tt
refused_by NotStore bytes bad = bad
refused_by (BadEntry place) bytes bad = bad
refused_by Memory bytes bad = tt

-- each read gave a piece
bad_counted : (fault : JournalFault) (first now : ℕ) (pieces : List (List ℕ)) → now ≡ count_reads first pieces → AreCounted (Err fault) first now pieces
bad_counted Shelf first now pieces is = inl is
bad_counted NotStore first now pieces is = is
bad_counted (BadEntry place) first now pieces is = is
bad_counted Memory first now pieces is = inl is

-- an answer that wasn't read to the end, or a refusal that was
abbrev IsEnd : Result (Profile × Vec Entry Global) JournalFault → List ℕ → Type 0
IsEnd result text = IfOk result (λ found. IsJournal text found.0 found.1.items) × IfErr result (λ fault. IsBytesFault fault text)

all_counted : (result : Result (Profile × Vec Entry Global) JournalFault) (first now : ℕ) (pieces : List (List ℕ)) → now ≡ count_reads first pieces → AreCounted result first now pieces
all_counted (Ok found) first now pieces is = is
all_counted (Err fault) first now pieces is = bad_counted fault first now pieces is

answer_of : (result : Result (Profile × Vec Entry Global) JournalFault) (text : List ℕ) → IsEnd result text → IsAnswer result text
answer_of (Ok found) text end = end.0
answer_of (Err fault) text end = refused_by fault text end.1

ends_with : (result : Result (Profile × Vec Entry Global) JournalFault) (pieces : List (List ℕ)) → ReadToEnd pieces → EndsWith result pieces
ends_with (Ok found) pieces end = end
ends_with (Err fault) pieces end = inr end

module _ (held : Option Objects) (old gave new : Option (List Given)) (first last now : ℕ) (text piece : List ℕ) (place : ℕ) (before : IsSoFar held old gave first last text place)
    (counted : now ≡ next_read last)
    (read : new ≡ one_more gave (read_of journal_name place PIECE_LEN piece))
    (given : IfSome held (λ objects. piece ≡ part_of (bytes_of objects journal_name) place PIECE_LEN)) where
  -- after the read that gave nothing
  module _ (none : piece ≡ []) (result : Result (Profile × Vec Entry Global) JournalFault) (end : IsEnd result text) where
    pub end_told : IfSome held (λ objects. IsAnswer result (bytes_of objects journal_name))
    end_told = told held before.told given
      where
        told : (held : Option Objects) → IfSome held (λ objects. bytes_of objects journal_name ≡ text ++ drop place (bytes_of objects journal_name))
            → IfSome held (λ objects. piece ≡ part_of (bytes_of objects journal_name) place PIECE_LEN) → IfSome held (λ objects. IsAnswer result (bytes_of objects journal_name))
        told None so_far given = tt
        told (Some objects) so_far given =
            let bytes = bytes_of objects journal_name in
            let rest : drop place bytes ≡ [] = part_of-end bytes place PIECE_LEN (omega arith) (sym given ∙ none) in
            subst (λ (t : List ℕ). IsAnswer result t) (sym (so_far ∙ ap (λ (l : List ℕ). text ++ l) rest ∙ append-nil text)) (answer_of result text end)

    pub end_gave : HasRead old new first now result
    end_gave =
        let pieces = before.pieces ++ [] ∷ [] in
        record {
          pieces = pieces;
          count = all_counted result first now pieces (count_more held old gave new first last now text piece place before counted read given ∙ ap (λ (p : List ℕ). count_reads first (before.pieces ++ p ∷ [])) none);
          gave = gave_more held old gave new first last now text piece place before counted read given ∙ ap (λ (p : List ℕ). with_reads old (before.pieces ++ p ∷ [])) none;
          end = ends_with result pieces (record { parts = before.pieces; last = refl; are_parts = before.parts });
          answer = subst (λ (t : List ℕ). IsAnswer result t) (sym (joined-more before.pieces [] ∙ append-nil (joined before.pieces) ∙ before.joined_is)) (answer_of result text end);
        }

  -- after a refusal of what a read gave
  module _ (some : piece ≢ []) (fault : JournalFault) (bad : (later : List ℕ) → IsBytesFault fault ((text ++ piece) ++ later)) where
    pub bad_told : IfSome held (λ objects. IsRefusedBy fault (bytes_of objects journal_name))
    bad_told = told held (told_more held text piece place before.told given)
      where
        told : (held : Option Objects) → IfSome held (λ objects. bytes_of objects journal_name ≡ (text ++ piece) ++ drop (place + length piece) (bytes_of objects journal_name))
            → IfSome held (λ objects. IsRefusedBy fault (bytes_of objects journal_name))
        told None is = tt
        told (Some objects) is =
            refused_by fault (bytes_of objects journal_name)
            (subst (λ (t : List ℕ). IsBytesFault fault t) (sym is) (bad (drop (place + length piece) (bytes_of objects journal_name))))

    pub bad_gave : HasRead old new first now (Err fault)
    bad_gave =
        let pieces = before.pieces ++ piece ∷ [] in
        record {
          pieces = pieces;
          count = bad_counted fault first now pieces (count_more held old gave new first last now text piece place before counted read given);
          gave = gave_more held old gave new first last now text piece place before counted read given;
          end = inl (AllByRecursion-snoc (λ (p : List ℕ). p ≢ []) before.pieces piece before.parts some);
          answer =
              subst (λ (t : List ℕ). IsRefusedBy fault t) (append-nil (text ++ piece) ∙ sym (joined_now held old gave new first last now text piece place before counted read given))
              (refused_by fault ((text ++ piece) ++ []) (bad []));
        }

-- after a call that failed or wanted memory: where it was a read, one was made that gave nothing
pub failed_gave : (held : Option Objects) (old gave new : Option (List Given)) (first last now : ℕ) (text : List ℕ) (place : ℕ) (before : IsSoFar held old gave first last text place) → now ≡ next_read last → new ≡ gave
    → (trouble : Trouble) → HasRead old new first now (Err (journal_fault trouble))
failed_gave held old gave new first last now text place before counted same Fault =
    record { pieces = before.pieces; count = inr (counted ∙ ap next_read before.count); gave = same ∙ before.gave; end = inl before.parts; answer = tt }
failed_gave held old gave new first last now text place before counted same WantsMemory =
    record { pieces = before.pieces; count = inr (counted ∙ ap next_read before.count); gave = same ∙ before.gave; end = inl before.parts; answer = tt }

-- before any read
pub unread_gave : (old new : Option (List Given)) (first now : ℕ) → now ≡ first → new ≡ old → (fault : JournalFault) → IsRefusedBy fault [] → HasRead old new first now (Err fault)
unread_gave old new first now counted same fault refused =
    record { pieces = []; count = bad_counted fault first now [] counted; gave = same ∙ with_reads-none old; end = inl tt; answer = refused }

pub trouble_refuses : (trouble : Trouble) (bytes : List ℕ) → IsRefusedBy (journal_fault trouble) bytes
trouble_refuses Fault bytes = tt
trouble_refuses WantsMemory bytes = tt

-- what bytes are refused for is no failure of the shelf, which then has not failed
pub bytes_count : (fault : JournalFault) (bytes : List ℕ) (before after : ℕ) → IsBytesFault fault bytes → after ≡ before → ReadCount {T = Profile × Vec Entry Global} (Err fault) before after
bytes_count Shelf bytes before after bad same = absurd bad
bytes_count NotStore bytes before after bad same = same
bytes_count (BadEntry place) bytes before after bad same = same
bytes_count Memory bytes before after bad same = same

pub end_count : (result : Result (Profile × Vec Entry Global) JournalFault) (bytes : List ℕ) (before after : ℕ) → IfErr result (λ fault. IsBytesFault fault bytes) → after ≡ before → ReadCount result before after
end_count (Ok found) bytes before after bad same = same
end_count (Err fault) bytes before after bad same = bytes_count fault bytes before after bad same
