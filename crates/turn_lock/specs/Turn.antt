-- What contracts see of a turn (this project's own).
use Rattle.turn_lock.specs.declared.inside.Inside.{Inside}
use Rattle.turn_lock.specs.Passes.{PassView}
use Rattle.turn_lock.specs.Entered.{seat_pass}

-- the pass whose turn it is, which has seen the whole list at entry
abbrev pub pass_in : {T : Type 0} → Inside T → PassView
pass_in inside = seat_pass inside.seat
