-- What a caller may ask for, by what it knows of its session.
use Rattle.std.proofs.Common.{◌≡◌, ℕ, ◌≤◌, true, false, List, [], Some, None, is_some, refl, sym, ap, subst, arith}
use Rattle.std.proofs.lemmas.Bool.{or_left, eq-eqb}
use Rattle.ss_base.specs.declared.ids.ManifestId.{ManifestId}
use Rattle.ss_base.specs.declared.name.Name.{Name}
use Rattle.ss_base.specs.Ids.{are_distinct}
use Rattle.ss_base.specs.Profile.{numbers_of}
use Rattle.journal_entry.specs.declared.entry.Entry.{Entry}
use Rattle.history.specs.Sessions.{pending, pending_champions, is_pending, commits_of}
use Rattle.history.specs.Legal.{are_hooks, are_texts}
use Rattle.store_core.specs.View.{past_of}
use Rattle.history_calls.specs.Tokens.{IdleView, OpenView, ChosenView}
use Rattle.history_calls.specs.OpenAt.{IsOpenAt}
use Rattle.history_calls.specs.SessionSteps.{CanChoose, CanFinish, CanAbortChosen, HasBegun, HasChosen}
use Rattle.history_calls.proofs.TurnLaws.{begun_open, chosen_open}

not_pending : (s : ℕ) (past : List Entry) → pending s past ≡ None → is_pending s past ≡ false
unfolding is_pending
not_pending s past none = ap (λ o. is_some o) none

texts_are : (s k : ℕ) (past : List Entry) → commits_of s past ≡ k → are_texts s k past ≡ true
unfolding are_texts
texts_are s k past count = or_left _ _ (eq-eqb _ _ (sym count))

pub no_hooks : (bits : ℕ) → are_hooks bits [] ≡ true
unfolding are_hooks are_distinct
no_hooks bits = refl

-- a session of the caller, without a pending choice and with one
abbrev pub IsIdleAt : OpenView → ℕ → ℕ → Type 0
IsIdleAt token k n = IsOpenAt token.author token.session None k n (past_of token.seen)

abbrev pub IsChosenAt : ChosenView → List ManifestId → ℕ → ℕ → Type 0
IsChosenAt token ids k n = IsOpenAt token.author token.session (Some ids) k n (past_of token.seen)

pub can_choose : (token : OpenView) (k n : ℕ) (hooks : List Name) → IsIdleAt token k n → are_hooks (numbers_of token.seen.profile).bits hooks ≡ true → CanChoose token hooks
can_choose token k n hooks at valid = record { author = at.open_to; idle = not_pending token.session (past_of token.seen) at.choice_is; valid = valid }

pub can_finish : (token : OpenView) (k n : ℕ) → IsIdleAt token k n → CanFinish token n
can_finish token k n at = record { author = at.open_to; idle = not_pending token.session (past_of token.seen) at.choice_is; above = at.used }

pub can_abort_chosen : (token : ChosenView) (ids : List ManifestId) (k n containers : ℕ) → n ≤ containers → IsChosenAt token ids k n → CanAbortChosen token containers k
can_abort_chosen token ids k n containers more at = record {
  author = at.open_to;
  above = let used = at.used in omega (arith, used, more);
  written = texts_are token.session k (past_of token.seen) at.commit_count;
}

module _ (others : List Entry → Type 0) (standings champions : ℕ) where
  pub begun_idle : (before : IdleView) (name : List ℕ) (after : OpenView) → HasBegun others standings champions before name after → IsIdleAt after 0 0
  begun_idle before name after begun =
      subst (λ (author : ℕ). IsOpenAt author after.session None 0 0 (past_of after.seen)) (sym begun.author)
      (begun_open others standings champions before.author after.session name before.seen after.seen begun.at_turn)

  pub chosen_now : (before : OpenView) (k n : ℕ) (hooks : List Name) (after : ChosenView) → HasChosen others standings champions before hooks after → IsIdleAt before k n → IsChosenAt after (pending_champions before.session (past_of after.seen)) k n
  chosen_now before k n hooks after chosen at =
      let ids = pending_champions before.session (past_of after.seen) in
      let pending_so = chosen_open others standings champions before.author before.session k n hooks after.choice before.seen after.seen chosen.at_turn at in
      subst (λ (author : ℕ). IsOpenAt author after.session (Some ids) k n (past_of after.seen)) (sym chosen.author)
      (subst (λ (session : ℕ). IsOpenAt before.author session (Some ids) k n (past_of after.seen)) (sym chosen.session) pending_so.at)
