-- What a pass has seen, and what it finds as it enters.
use Rattle.std.proofs.Common.{◌≡◌, ◌≢◌, ℕ, zero, suc, true, List, [], ◌∷◌, ◌++◌, All, refl, sym, ap, ◌∙◌, subst, arith}
use Rattle.std.specs.List.{AllByRecursion}
use Rattle.std.proofs.lemmas.Bool.{both_ways}
use Rattle.ss_base.specs.declared.profile.Profile.{Profile}
use Rattle.ss_base.specs.declared.profile.Profile.TheVariants.{Tiny, Small, Large}
use Rattle.ss_base.specs.Profile.{profile_code}
use Rattle.journal_entry.specs.declared.entry.Entry.{Entry}
use Rattle.history.specs.Legal.{is_legal}
use Rattle.store_core.specs.View.{StateView, past_of, rules_of}
use Rattle.turn_lock.specs.Seen.{has_number, IsByOther, IsLater}
use Rattle.turn_lock.specs.Passes.{PassView, numbers_of}
use Rattle.turn_lock.proofs.Lists.{has_head, all_map}
use Rattle.history_calls.specs.Turn.{IsTurn}
use Rattle.store_shared.specs.Sight.{base_of, profile_at, base_profile, base_limits, seen_by, AreByOthers, HasSeen}

profile_again : (profile : Profile) → profile_at (profile_code profile) ≡ profile
unfolding profile_at
profile_again Tiny = refl
profile_again Small = refl
profile_again Large = refl

pub profile_told : (state : StateView) (numbers : List ℕ) → base_of state ≡ numbers → state.profile ≡ base_profile numbers
unfolding base_profile
profile_told state numbers base = sym (profile_again state.profile) ∙ ap base_profile base

limits_told : (state : StateView) (numbers : List ℕ) → base_of state ≡ numbers → state.limits ≡ base_limits numbers
unfolding base_limits
limits_told state numbers base = ap base_limits base

-- a state with a pass's base is what a pass sees that has seen its entries
pub sees : (p : PassView) (state : StateView) (entries : List Entry) → base_of state ≡ p.base → state.entries ≡ entries → state ≡ record (seen_by p) { entries = entries }
sees p state entries base same = λ i. record { profile = profile_told state p.base base i; limits = limits_told state p.base base i; entries = same i }

all_each : {X : Type 0} (P : X → Type 0) (xs : List X) → AllByRecursion P xs → All P xs
all_each P [] all k d below = absurd (omega (arith, below))
all_each P (x ∷ xs) all zero d below = all.0
all_each P (x ∷ xs) all (suc k) d below = all_each P xs all.1 k d (omega (arith, below))

other_author : (n : ℕ) (joined : List ℕ) (e : Entry) → IsByOther (n ∷ joined) e → e.author ≢ n
other_author n joined e other same = both_ways _ other (subst (λ a. has_number (n ∷ joined) a ≡ true) (sym same) (has_head n joined))

-- the state that a pass finds is one at its turn
pub found : (standings champions : ℕ) (p : PassView) (state : StateView) → base_of state ≡ p.base → IsLater (numbers_of p) p.seen state.entries
    → is_legal (rules_of standings champions state) (past_of state) ≡ true → IsTurn (AreByOthers p) standings champions p.number (seen_by p) state
found standings champions p state base later legal = record {
  came = later.0;
  by_others = later.2;
  not_own = all_each (λ (e : Entry). e.author ≢ p.number) later.0 (all_map (IsByOther (numbers_of p)) (λ (e : Entry). e.author ≢ p.number) (other_author p.number p.joined) later.0 later.2);
  turn_is = sees p state (p.seen ++ later.0) base (sym later.1);
  legal = legal;
}

pub has_seen : (standings champions : ℕ) (p : PassView) (state : StateView) → base_of state ≡ p.base → state.entries ≡ p.seen
    → is_legal (rules_of standings champions state) (past_of state) ≡ true → HasSeen standings champions p state
has_seen standings champions p state base entries legal = record { is = sym (sees p state p.seen base entries); legal = legal }
