-- One more entry of a journal.
use Rattle.std.proofs.Common.{◌≡◌, ℕ, ◌+◌, ◌-◌, ◌<◌, ◌≤◌, ◌⊎◌, List, [], ◌∷◌, ◌++◌, length, inl, inr, ap, ◌∙◌, arith}
use Rattle.std.proofs.lemmas.List.{length-append, append-nil}
use Rattle.std.proofs.lemmas.List.Concat.{flat_map-append}
use Rattle.journal_entry.specs.declared.entry.Entry.{Entry}
use Rattle.journal_entry.specs.Bounds.{IsEntry}
use Rattle.journal_entry.specs.EntryText.{entry_text, entries_text}
use Rattle.journal_entry.specs.Weight.{point_weight}
use Rattle.journal_entry.proofs.WeightLaws.{weight_push}
use Rattle.journal_file.specs.declared.limits.TheConstants.{MAX_ENTRIES, MAX_WEIGHT}
use Rattle.journal_file.specs.Journal.{FitsJournal}
use Rattle.journal_file.specs.Scan.{AreFound}
use Rattle.journal_file.proofs.ReadLaws.{AllByRecursion-snoc}

-- an entry for which there is room
pub found_more : (entries : List Entry) (entry : Entry) (sum place weight_of len : ℕ) → AreFound entries sum place → IsEntry entry → len ≡ length (entry_text entry) → weight_of ≡ point_weight entry.point → (length entries ≡ MAX_ENTRIES → ⊥) → weight_of ≤ MAX_WEIGHT - sum
    → AreFound (entries ++ entry ∷ []) (sum + weight_of) (place + len)
found_more entries entry sum place weight_of len found valid is_len is_weight room light =
    let total = weight_push entries entry in
    let sum_is = found.sum_is in
    let count = found.fits.count in
    let most = found.fits.weight in
    let text : entries_text (entries ++ entry ∷ []) ≡ entries_text entries ++ entry_text entry =
    flat_map-append entry_text entries (entry ∷ []) ∙ ap (λ bytes. entries_text entries ++ bytes) (append-nil (entry_text entry)) in
    record {
      valid = AllByRecursion-snoc IsEntry entries entry found.valid valid;
      fits = record { count = omega (arith, count, room, length-append entries (entry ∷ [])); weight = omega (arith, total, sum_is, is_weight, light, most) };
      sum_is = omega (arith, total, sum_is, is_weight);
      place_is = omega (arith, found.place_is, is_len, ap length text, length-append (entries_text entries) (entry_text entry));
    }

-- an entry for which there is none
pub full : (entries : List Entry) (entry : Entry) (sum place weight_of : ℕ) → AreFound entries sum place → weight_of ≡ point_weight entry.point → (length entries ≡ MAX_ENTRIES) ⊎ (MAX_WEIGHT - sum < weight_of) → FitsJournal (entries ++ entry ∷ []) → ⊥
full entries entry sum place weight_of found is_weight (inl count) fits = absurd (omega (arith, count, fits.count, length-append entries (entry ∷ [])))
full entries entry sum place weight_of found is_weight (inr heavy) fits = absurd (omega (arith, heavy, is_weight, found.sum_is, fits.weight, weight_push entries entry))
