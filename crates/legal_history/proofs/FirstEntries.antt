-- Two entries that may follow at first, for the tests.
use Rattle.std.proofs.Common.{◌≡◌, ℕ, true, List, [], ◌∷◌, Some, refl}
use Rattle.journal_entry.specs.declared.entry.Point.TheVariants.{Begin, Abort}
use Rattle.journal_entry.specs.Weight.{weight, point_weight}
use Rattle.history.specs.declared.rules.Rules.{Rules}
use Rattle.history.specs.OwnEnd.{own_end, greatest_by, end_used}
use Rattle.history.specs.Sessions.{session_begun, session_count, sessions_under, begins, commits, finishes, aborts, closes, has, newest, is_unfinished, is_held, author_of, is_begun_by, commits_of, reading_begun}
use Rattle.history.specs.Legal.{is_open_to, reply_to_begin, are_texts, is_allowed, begins_unfinished, looks_unfinished, unfinished_sessions, unfinished_readings, is_within, may_follow}
use Rattle.history_laws.proofs.StandingLaws.{made}

abbrev pub few_rules : Rules
few_rules = record { bits = 1; standings = 8; champions = 8; limits = record { entries = 100; weight = 100 } }

pub begin_follows : (name : List ℕ) → may_follow few_rules (made 0 (Begin name (Some 0))) [] ≡ true
unfolding may_follow is_allowed reply_to_begin is_held sessions_under session_count is_within unfinished_sessions unfinished_readings begins_unfinished looks_unfinished weight point_weight session_begun reading_begun is_unfinished has begins closes finishes aborts
begin_follows name = refl

pub abort_follows : (name : List ℕ) → may_follow few_rules (made 0 (Abort 0 0 0)) (made 0 (Begin name (Some 0)) ∷ []) ≡ true
unfolding may_follow is_allowed is_open_to is_begun_by author_of newest are_texts commits_of commits own_end greatest_by end_used is_within unfinished_sessions unfinished_readings begins_unfinished looks_unfinished weight point_weight session_begun reading_begun is_unfinished has begins closes finishes aborts
abort_follows name = refl
