-- The seat of a pass that rests, and of one that has its turn (this project's own).
use Rattle.std.specs.Prelude.{ℕ, true, ◌≡◌, [], ◌∷◌, Option, Some, None}
use Rattle.atomic_table.specs.declared.shared.Seat.{Seat}
use Rattle.turn_lock.specs.declared.view.View.{View}
use Rattle.turn_lock.specs.Passes.{PassView, pass_of, view_of}

abbrev pub waiting : ℕ → PassView → View
waiting t p = record (view_of p) { ticket = Some t }

abbrev pub within : ℕ → PassView → View
within t p = record (view_of p) { ticket = Some t; inside = true }

abbrev pub ticket_of : Option ℕ → ℕ
ticket_of None = 0
ticket_of (Some t) = t

module _ {T : Type 0} where
  abbrev pub seat_pass : Seat (Option T) View → PassView
  seat_pass s = pass_of s.table_id s.me.0

  abbrev pub IsAtRest : Seat (Option T) View → Type 0
  IsAtRest s = s.me ≡ (view_of (seat_pass s), [])

  abbrev pub IsWaiting : ℕ → Seat (Option T) View → Type 0
  IsWaiting t s = s.me ≡ (waiting t (seat_pass s), [])

  -- it has its turn, and the state is out of its slot
  abbrev pub IsEntered : Seat (Option T) View → Type 0
  IsEntered s = s.me ≡ (within (ticket_of s.me.0.ticket) (seat_pass s), (0, None) ∷ [])
