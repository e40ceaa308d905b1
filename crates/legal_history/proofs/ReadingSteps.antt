-- What one entry more does to what is kept of the readings.
use Rattle.std.proofs.Common.{◌≡◌, ◌⊎◌, ℕ, ◌+◌, ◌<◌, true, false, eqb, List, [], ◌∷◌, ◌++◌, length, slice_set, Option, Some, None, is_some, refl, sym, ap, ◌∙◌, subst, inl, inr, arith, eqb-true, length-append, length-set}
use Rattle.std.proofs.lemmas.Bool.{eqb-false, eq-eqb, cases_Bool, and_parts}
use Rattle.ss_base.proofs.MemberLaws.{count_one, count_other}
use Rattle.journal_entry.specs.declared.entry.Entry.{Entry}
use Rattle.journal_entry.specs.declared.entry.Seen.{Seen}
use Rattle.journal_entry.specs.declared.entry.Point.{Point}
use Rattle.journal_entry.specs.declared.entry.Point.TheVariants.{Look, Done}
use Rattle.history.specs.declared.rules.Rules.{Rules}
use Rattle.history.specs.Sessions.{is_number, reading_begun, looks_some, reading_count, looks, ends, is_reading, has}
use Rattle.history.specs.Legal.{is_legal, is_allowed}
use Rattle.history_laws.specs.EntryNumbers.{numbers_of}
use Rattle.history_laws.proofs.Allowed.{IsStep, step}
use Rattle.history_laws.proofs.BegunLaws.{looks_next, looked_below}
use Rattle.history_laws.proofs.NumberLaws.{numbers_more, numbers_same}
use Rattle.history_laws.proofs.SessionLaws.{has_same, has_now}
use Rattle.history_laws.proofs.StandingLaws.{made}
use Rattle.legal_history.specs.Rows.{ReadingRow, no_reading, reading_at, looked, noted_reading}
use Rattle.legal_history.specs.Agrees.{IsReading, AreReadings}
use Rattle.legal_history.proofs.PlaceLaws.{set_here, set_other, push_here, push_other, past_end}

-- the reading that an entry has to do with
abbrev reader_of : Point → Option ℕ
reader_of (Look name (Some seen)) = Some seen.reader
reader_of (Done reader) = Some reader
reader_of _ = None

record NotOf (r : ℕ) (point : Point) : Type 0 where
  pub looked : looks r point ≡ false
  pub ended : ends r point ≡ false

not_of : (r : ℕ) (point : Point) → is_number r (reader_of point) ≡ false → NotOf r point
unfolding looks reading_begun ends
not_of r (Look name (Some seen)) e = record { looked = e; ended = refl }
not_of r (Look name None) e = record { looked = refl; ended = refl }
not_of r (Done t) e = record { looked = refl; ended = e }
not_of r _ e = record { looked = refl; ended = refl }

other_kept : (row : ReadingRow) (r : ℕ) (entry : Entry) (past : List Entry) → NotOf r entry.point → IsReading row r past → IsReading row r (entry ∷ past)
other_kept row r entry past other is = record {
  begun = is.begun ∙ sym (numbers_same (looks r) entry past other.looked);
  ended = is.ended ∙ sym (has_same (ends r) entry past other.ended);
}

same_count : (entry : Entry) (past : List Entry) → reading_begun entry.point ≡ None → reading_count (entry ∷ past) ≡ reading_count past
unfolding reading_count looks_some
same_count entry past none = count_other (λ (e : Entry). looks_some e.point) entry past (ap is_some none)

more_count : (seen : Seen) (entry : Entry) (past : List Entry) → reading_begun entry.point ≡ Some seen → reading_count (entry ∷ past) ≡ 1 + reading_count past
unfolding reading_count looks_some
more_count seen entry past one = count_one (λ (e : Entry). looks_some e.point) entry past (ap is_some one)

apart : (s t : ℕ) → (s ≡ t) ⊎ (eqb s t ≡ false)
apart s t = elim (cases_Bool (eqb s t)) [ inl same ↦ inl (eqb-true s t same) | inr other ↦ inr other ]

none_noted : (rows : List ReadingRow) (entry : Entry) (past : List Entry) → reader_of entry.point ≡ None → reading_begun entry.point ≡ None → AreReadings rows past → AreReadings rows (entry ∷ past)
none_noted rows entry past none nothing are = record {
  each = λ r. other_kept (reading_at r rows) r entry past (not_of r entry.point (ap (is_number r) none)) (are.each r);
  count = are.count ∙ sym (same_count entry past nothing);
}

one_noted : (rows : List ReadingRow) (t : ℕ) (row : ReadingRow) (entry : Entry) (past : List Entry) → t < length rows → reader_of entry.point ≡ Some t → reading_begun entry.point ≡ None → AreReadings rows past → IsReading row t (entry ∷ past) → AreReadings (slice_set rows t row) (entry ∷ past)
one_noted rows t row entry past below one nothing are is = record {
  each = λ r. elim (apart r t) [
    | inl same ↦ subst (λ n. IsReading (reading_at n (slice_set rows t row)) n (entry ∷ past)) (sym same) (subst (λ (x : ReadingRow). IsReading x t (entry ∷ past)) (sym (set_here no_reading rows t row below)) is)
    | inr other ↦ subst (λ (x : ReadingRow). IsReading x r (entry ∷ past)) (sym (set_other no_reading rows r t row (eqb-false r t other)))
        (other_kept (reading_at r rows) r entry past (not_of r entry.point (ap (is_number r) one ∙ other)) (are.each r))
  ];
  count = length-set rows t row ∙ are.count ∙ sym (same_count entry past nothing);
}

new_noted : (rows : List ReadingRow) (row : ReadingRow) (seen : Seen) (entry : Entry) (past : List Entry) → seen.reader ≡ length rows → reader_of entry.point ≡ Some seen.reader → reading_begun entry.point ≡ Some seen → AreReadings rows past → IsReading row (length rows) (entry ∷ past) → AreReadings (rows ++ row ∷ []) (entry ∷ past)
new_noted rows row seen entry past next concerns one are is = record {
  each = λ r. elim (apart r (length rows)) [
    | inl same ↦ subst (λ n. IsReading (reading_at n (rows ++ row ∷ [])) n (entry ∷ past)) (sym same) (subst (λ (x : ReadingRow). IsReading x (length rows) (entry ∷ past)) (sym (push_here no_reading rows row)) is)
    | inr other ↦ subst (λ (x : ReadingRow). IsReading x r (entry ∷ past)) (sym (push_other no_reading rows r row (eqb-false r (length rows) other)))
        (other_kept (reading_at r rows) r entry past (not_of r entry.point (ap (is_number r) concerns ∙ ap (eqb r) next ∙ other)) (are.each r))
  ];
  count = let longer = length-append rows (row ∷ []) in let more = more_count seen entry past one in omega (arith, longer, more, are.count);
}

look_row : (name : List ℕ) (seen : Seen) (author r : ℕ) (past : List Entry) (row : ReadingRow) → row ≡ no_reading → seen.reader ≡ r → IsReading row r past → IsReading (looked (length past)) r (made author (Look name (Some seen)) ∷ past)
unfolding looks reading_begun ends
look_row name seen author r past row none same is =
    let e : Entry = made author (Look name (Some seen)) in
    record {
      begun = ap (λ l. l ++ length past ∷ []) (ap (λ (x : ReadingRow). x.looks) (sym none) ∙ is.begun) ∙ sym (numbers_more (looks r) e past (eq-eqb r seen.reader (sym same)));
      ended = ap (λ (x : ReadingRow). x.is_done) (sym none) ∙ is.ended ∙ sym (has_same (ends r) e past refl);
    }

done_row : (author r : ℕ) (past : List Entry) (row : ReadingRow) → IsReading row r past → IsReading (record row { is_done = true }) r (made author (Done r) ∷ past)
unfolding looks reading_begun ends
done_row author r past row is =
    let e : Entry = made author (Done r) in
    record {
      begun = is.begun ∙ sym (numbers_same (looks r) e past refl);
      ended = sym (has_now (ends r) e past (eq-eqb r r refl));
    }

reading_looked : (r : ℕ) (past : List Entry) → is_reading r past ≡ true → has (looks r) past ≡ true
unfolding is_reading
reading_looked r past open_now = (and_parts (has (looks r) past) _ open_now).0

done_says : (rules : Rules) (past : List Entry) (author r : ℕ) → is_allowed rules past author (Done r) ≡ true → is_reading r past ≡ true
unfolding is_allowed
done_says rules past author r allowed = (and_parts (is_reading r past) _ allowed).0

noted_at : (rules : Rules) (author : ℕ) (point : Point) (past : List Entry) (rows : List ReadingRow) → IsStep rules (made author point) past → AreReadings rows past → AreReadings (noted_reading (length past) point rows) (made author point ∷ past)
unfolding looks reading_begun
noted_at rules author (Look name (Some seen)) past rows now are =
    let next : seen.reader ≡ length rows = looks_next rules past author seen.reader (Look name (Some seen)) now.allowed (eq-eqb seen.reader seen.reader refl) ∙ sym are.count in
    new_noted rows (looked (length past)) seen (made author (Look name (Some seen))) past next refl refl are
    (look_row name seen author (length rows) past (reading_at (length rows) rows) (past_end no_reading rows (length rows) (omega arith)) next (are.each (length rows)))
noted_at rules author (Look name None) past rows now are = none_noted rows (made author (Look name None)) past refl refl are
noted_at rules author (Done r) past rows now are =
    let fewer = looked_below rules r past now.legal (reading_looked r past (done_says rules past author r now.allowed)) in
    let below : r < length rows = omega (arith, fewer, are.count) in
    one_noted rows r (record (reading_at r rows) { is_done = true }) (made author (Done r)) past below refl refl are (done_row author r past (reading_at r rows) (are.each r))
noted_at rules author point past rows now are = none_noted rows (made author point) past refl refl are

-- what is kept of the readings is so again after one entry more
pub readings_noted : (rules : Rules) (entry : Entry) (past : List Entry) (rows : List ReadingRow) → is_legal rules (entry ∷ past) ≡ true → AreReadings rows past → AreReadings (noted_reading (length past) entry.point rows) (entry ∷ past)
readings_noted rules entry past rows legal are = noted_at rules entry.author entry.point past rows (step rules entry past legal) are

pub readings_first : AreReadings [] []
unfolding has numbers_of reading_count
readings_first = record { each = λ r. record { begun = refl; ended = refl }; count = refl }
