-- The Begin of the first session may be a history's first entry.
use Rattle.std.proofs.Common.{◌≡◌, ℕ, nat_le, true, ◌&&◌, List, [], ◌∷◌, Some, refl, ap, ◌∙◌}
use Rattle.journal_entry.specs.declared.entry.Entry.{Entry}
use Rattle.journal_entry.specs.declared.entry.Point.TheVariants.{Begin}
use Rattle.journal_entry.specs.Weight.{weight, point_weight}
use Rattle.history.specs.declared.rules.Rules.{Rules}
use Rattle.history.specs.Sessions.{session_begun, session_count, sessions_under, begins, closes, finishes, aborts, has, is_unfinished, is_held, reading_begun}
use Rattle.history.specs.Legal.{reply_to_begin, is_allowed, begins_unfinished, looks_unfinished, unfinished_sessions, unfinished_readings, is_within, may_follow, is_legal}

abbrev pub first_begin : ℕ → List ℕ → Entry
first_begin author name = record { author = author; point = Begin name (Some 0) }

pub first_is_allowed : (rules : Rules) (author : ℕ) (name : List ℕ) → is_allowed rules [] author (Begin name (Some 0)) ≡ true
unfolding is_allowed reply_to_begin is_held sessions_under session_count
first_is_allowed rules author name = refl

-- there is room for it and for the session's end
pub first_is_legal : (rules : Rules) (author : ℕ) (name : List ℕ) → nat_le 2 rules.limits.entries ≡ true → nat_le 0 rules.limits.weight ≡ true → is_legal rules (first_begin author name ∷ []) ≡ true
unfolding is_legal may_follow is_allowed reply_to_begin is_held sessions_under session_count is_within unfinished_sessions unfinished_readings begins_unfinished looks_unfinished weight point_weight session_begun reading_begun is_unfinished has begins closes finishes aborts
first_is_legal rules author name room light = ap (λ b. b && nat_le 0 rules.limits.weight) room ∙ light
