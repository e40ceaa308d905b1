-- What the rows and the numbers of entries tell.
use Rattle.std.proofs.Common.{◌≡◌, ℕ, ◌-◌, Bool, true, false, not, ◌&&◌, ◌||◌, cond, List, [], ◌∷◌, ◌++◌, length, reverse, slice_get, Option, Some, None, is_some, refl, sym, ap, ◌∙◌, arith, length-append}
use Rattle.std.specs.Option.{option_and_then}
use Rattle.std.proofs.lemmas.List.{reverse-reverse}
use Rattle.ss_base.proofs.GetLaws.{get_last}
use Rattle.journal_entry.specs.declared.entry.Entry.{Entry}
use Rattle.journal_entry.specs.declared.entry.Point.{Point}
use Rattle.history.specs.Sessions.{begins, looks, has, newest, is_unfinished, is_retained, is_reading}
use Rattle.history_laws.specs.EntryNumbers.{numbers_of, entry_at}
use Rattle.history_laws.proofs.NumberLaws.{numbers_last, numbers_none}
use Rattle.legal_history.specs.Rows.{Row, ReadingRow, last_of}
use Rattle.legal_history.specs.Agrees.{IsSession, IsReading, is_open, is_kept, is_going_on}

last_here : (xs : List ℕ) (x : ℕ) → last_of (xs ++ x ∷ []) ≡ Some x
last_here xs x =
    let longer = length-append xs (x ∷ []) in
    let place : length (xs ++ x ∷ []) - 1 ≡ length xs = omega (arith, longer) in
    ap (slice_get (xs ++ x ∷ [])) place ∙ get_last xs x

newest_has : (does : Point → Bool) (past : List Entry) → is_some (newest does past) ≡ has does past
unfolding newest has
newest_has does [] = refl
newest_has does (entry ∷ past) = elim (does entry.point) as (λ b. is_some (cond b (Some entry) (newest does past)) ≡ (b || has does past)) [
  | true ↦ refl
  | false ↦ newest_has does past
]

-- the newest entry that does it is the one with the last of their numbers
pub newest_last : (does : Point → Bool) (past : List Entry) → newest does past ≡ option_and_then (λ n. entry_at n past) (last_of (numbers_of does past))
newest_last does past =
    elim (newest does past) as (λ (o : Option Entry). newest does past ≡ o → o ≡ option_and_then (λ n. entry_at n past) (last_of (numbers_of does past))) [
      | None ↦ λ e.
          let none : has does past ≡ false = sym (newest_has does past) ∙ ap is_some e in
          ap (λ l. option_and_then (λ n. entry_at n past) (last_of l)) (sym (numbers_none does past none))
      | Some found ↦ λ e.
          let at = numbers_last does past found e in
          sym (ap (λ l. option_and_then (λ n. entry_at n past) (last_of l)) at.numbers ∙ ap (λ o. option_and_then (λ n. entry_at n past) o) (last_here at.earlier at.number) ∙ at.there)
    ] refl

-- the same of entries that are kept with the oldest first
pub newest_kept : (does : Point → Bool) (entries : List Entry) (numbers : List ℕ) → numbers ≡ numbers_of does (reverse entries) → newest does (reverse entries) ≡ option_and_then (slice_get entries) (last_of numbers)
unfolding entry_at
newest_kept does entries numbers is =
    newest_last does (reverse entries)
    ∙ ap (λ l. option_and_then (λ n. slice_get (reverse (reverse entries)) n) (last_of l)) (sym is)
    ∙ ap (λ (l : List Entry). option_and_then (λ n. slice_get l n) (last_of numbers)) (reverse-reverse entries)

-- whether some entry does it, by their numbers
pub has_last : (does : Point → Bool) (past : List Entry) (numbers : List ℕ) → numbers ≡ numbers_of does past → is_some (last_of numbers) ≡ has does past
has_last does past numbers is =
    elim (newest does past) as (λ (o : Option Entry). newest does past ≡ o → is_some (last_of numbers) ≡ has does past) [
      | None ↦ λ e.
          let none : has does past ≡ false = sym (newest_has does past) ∙ ap is_some e in
          ap (λ l. is_some (last_of l)) (is ∙ numbers_none does past none) ∙ sym none
      | Some found ↦ λ e.
          let at = numbers_last does past found e in
          ap (λ l. is_some (last_of l)) (is ∙ at.numbers) ∙ ap is_some (last_here at.earlier at.number) ∙ ap is_some (sym e) ∙ newest_has does past
    ] refl

pub open_is : (row : Row) (s : ℕ) (past : List Entry) → IsSession row s past → is_open row ≡ is_unfinished s past
unfolding is_unfinished
open_is row s past is = λ i. has_last (begins s) past row.begins is.begun i && not (is.closed i)

pub kept_is : (row : Row) (s : ℕ) (past : List Entry) → IsSession row s past → is_kept row ≡ is_retained s past
unfolding is_retained
kept_is row s past is = λ i. is.finished i && not (is.deleted i)

pub going_on_is : (row : ReadingRow) (r : ℕ) (past : List Entry) → IsReading row r past → is_going_on row ≡ is_reading r past
unfolding is_reading
going_on_is row r past is = λ i. has_last (looks r) past row.looks is.begun i && not (is.ended i)
