-- The state that a pass has seen (this project's own).
use Rattle.std.specs.Prelude.{ℕ, ◌==◌, ◌≡◌, true, List, [], ◌∷◌, if◌then◌else◌}
use Rattle.std.specs.List.{AllByRecursion}
use Rattle.ss_base.specs.declared.profile.Profile.{Profile}
use Rattle.ss_base.specs.declared.profile.Profile.TheVariants.{Tiny, Small, Large}
use Rattle.ss_base.specs.Profile.{profile_code}
use Rattle.journal_entry.specs.declared.entry.Entry.{Entry}
use Rattle.history.specs.declared.rules.Limits.{Limits}
use Rattle.history.specs.Legal.{is_legal}
use Rattle.store_core.specs.View.{StateView, past_of, rules_of}
use Rattle.turn_lock.specs.Seen.{IsByOther}
use Rattle.turn_lock.specs.Passes.{PassView, numbers_of}

-- what a state's history is judged by, as numbers
abbrev pub base_of : StateView → List ℕ
base_of state = profile_code state.profile ∷ state.limits.entries ∷ state.limits.weight ∷ []

-- the profile with a code
unfoldable pub profile_at : ℕ → Profile
profile_at code = if code == 1 then Tiny else if code == 2 then Small else Large

-- the profile and the limits that such numbers tell
unfoldable pub base_profile : List ℕ → Profile
base_profile [] = Large
base_profile (code ∷ numbers) = profile_at code

unfoldable pub base_limits : List ℕ → Limits
base_limits (code ∷ entries ∷ weight ∷ numbers) = record { entries = entries; weight = weight }
base_limits _ = record { entries = 0; weight = 0 }

-- the state that a pass has seen
abbrev pub seen_by : PassView → StateView
seen_by p = record { profile = base_profile p.base; limits = base_limits p.base; entries = p.seen }

-- entries by none of a pass's numbers, own or joined
abbrev pub AreByOthers : PassView → List Entry → Type 0
AreByOthers p came = AllByRecursion (IsByOther (numbers_of p)) came

-- a pass has seen this state, which is legal
pub record HasSeen (standings champions : ℕ) (p : PassView) (state : StateView) : Type 0 where
  pub is : seen_by p ≡ state
  pub legal : is_legal (rules_of standings champions state) (past_of state) ≡ true
