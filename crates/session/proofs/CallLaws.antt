-- What a session may call, and how it stands then.
use Rattle.std.proofs.Common.{◌≡◌, ℕ, suc, ◌+◌, ◌<◌, ◌≤◌, ◌⊎◌, true, is_some, List, Some, None, refl, sym, ap, ◌∙◌, subst, inl, inr, arith}
use Rattle.std.specs.List.{Contains}
use Rattle.std.proofs.lemmas.Bool.{eq-eqb, and_from, or_left, or_right}
use Rattle.ss_base.specs.declared.ids.ContainerId.{ContainerId}
use Rattle.ss_base.specs.declared.ids.ManifestId.{ManifestId}
use Rattle.ss_base.specs.declared.name.Name.{Name}
use Rattle.ss_base.specs.Profile.{numbers_of}
use Rattle.journal_entry.specs.declared.entry.Entry.{Entry}
use Rattle.history.specs.OwnEnd.{own_end}
use Rattle.history.specs.Sessions.{pending, is_pending, pending_champions, commits_of}
use Rattle.history.specs.Legal.{are_hooks, are_uses, are_texts}
use Rattle.store_core.specs.declared.values.Stored.{Stored}
use Rattle.store_core.specs.View.{past_of, all_kept}
use Rattle.outside.specs.Views.{ShelfView}
use Rattle.depot.specs.Tokens.{WrittenView}
use Rattle.store_core.specs.declared.fault.PointFault.{PointFault}
use Rattle.history_calls.specs.Tokens.{OpenView, ChosenView}
use Rattle.history_calls.specs.OpenAt.{IsOpenAt, IsPendingSo}
use Rattle.history_calls.specs.SessionSteps.{CanChoose, CanCommit, CanFinish, CanAbort, CanAbortChosen, HasChosen, HasNotChosen, HasCommitted, HasNotCommitted}
use Rattle.history_calls.proofs.AskLaws.{can_choose as idle_choose, can_finish as idle_finish}
use Rattle.history_calls.proofs.TurnLaws.{legal_seen, unchosen_open, uncommitted_open, chosen_open, committed_open}
use Rattle.history_calls.proofs.UseLaws.{use_of_any, listed_below}
use Rattle.segment_store.specs.Stored.{GoesOn}
use Rattle.segment_store.proofs.UseLaws.{of_champion, uses_allowed}
use Rattle.session.specs.declared.storing.Extent.{Extent}
use Rattle.session.specs.Ready.{no_extent, IsReady, IsWaiting, CanCommitFor}

is_waiting : (s : ℕ) (ids : List ManifestId) (past : List Entry) → pending s past ≡ Some ids → is_pending s past ≡ true
unfolding is_pending
is_waiting s ids past is = ap (λ o. is_some o) is

-- as many texts as commits
texts_same : (s k texts : ℕ) (past : List Entry) → commits_of s past ≡ k → texts ≡ k → are_texts s texts past ≡ true
unfolding are_texts
texts_same s k texts past commits is = or_left _ _ (eq-eqb texts (commits_of s past) (is ∙ sym commits))

-- or one more, with a choice pending
texts_more : (s k texts : ℕ) (past : List Entry) → commits_of s past ≡ k → is_pending s past ≡ true → texts ≡ k + 1 → are_texts s texts past ≡ true
unfolding are_texts
texts_more s k texts past commits waiting is = or_right _ _ (and_from _ _ waiting (eq-eqb texts (suc (commits_of s past)) (is ∙ omega arith ∙ ap suc (sym commits))))

-- ---- an open session

-- that has just begun
pub begun_ready : (caller : OpenView) → IsOpenAt caller.author caller.session None 0 0 (past_of caller.seen) → IsReady caller (no_extent caller.session)
begun_ready caller begun = record { session = refl; at = begun }

module _ (caller : OpenView) (extent : Extent) (ready : IsReady caller extent) where
  pub can_choose : (hooks : List Name) → are_hooks (numbers_of caller.seen.profile).bits hooks ≡ true → CanChoose caller hooks
  can_choose hooks valid = idle_choose caller extent.texts extent.end.containers hooks ready.at valid

  pub can_finish : CanFinish caller extent.end.containers
  can_finish = idle_finish caller extent.texts extent.end.containers ready.at

  pub can_abort : CanAbort caller extent.end.containers extent.texts
  can_abort = record {
    author = ready.at.open_to;
    above = ready.at.used;
    written = texts_same caller.session extent.texts extent.texts (past_of caller.seen) ready.at.commit_count refl;
  }

module _ (others : List Entry → Type 0) (standings champions : ℕ) (before : OpenView) (extent : Extent) (ready : IsReady before extent) (hooks : List Name) where
  pub now_waiting : (chosen : ChosenView) → HasChosen others standings champions before hooks chosen → IsWaiting chosen extent
  now_waiting chosen has =
      let at = chosen_open others standings champions before.author before.session extent.texts extent.end.containers hooks chosen.choice before.seen chosen.seen has.at_turn ready.at in
      record {
        session = ready.session ∙ sym has.session;
        at =
            subst (λ (a : ℕ). IsPendingSo a chosen.session extent.texts extent.end.containers chosen.choice chosen.seen) (sym has.author)
            (subst (λ (s : ℕ). IsPendingSo before.author s extent.texts extent.end.containers chosen.choice chosen.seen) (sym has.session) at);
      }

  pub still_ready : (back : OpenView) (cause : PointFault) → HasNotChosen others standings champions before hooks back cause → IsReady back extent
  still_ready back cause has =
      let at = unchosen_open others standings champions before.author before.session extent.texts extent.end.containers hooks cause before.seen back.seen has.at_turn ready.at in
      record {
        session = ready.session ∙ sym has.session;
        at =
            subst (λ (a : ℕ). IsOpenAt a back.session None extent.texts extent.end.containers (past_of back.seen)) (sym has.author)
            (subst (λ (s : ℕ). IsOpenAt before.author s None extent.texts extent.end.containers (past_of back.seen)) (sym has.session) at);
      }

-- ---- a session with a pending choice

-- what gives it up
pub can_abort_open : (chosen : ChosenView) (k n containers texts : ℕ) (ids : List ManifestId) → IsOpenAt chosen.author chosen.session (Some ids) k n (past_of chosen.seen) → n ≤ containers → (texts ≡ k) ⊎ (texts ≡ k + 1) → CanAbortChosen chosen containers texts
can_abort_open chosen k n containers texts ids at more (inl same) = record {
  author = at.open_to;
  above = let used = at.used in omega (arith, used, more);
  written = texts_same chosen.session k texts (past_of chosen.seen) at.commit_count same;
}
can_abort_open chosen k n containers texts ids at more (inr one) = record {
  author = at.open_to;
  above = let used = at.used in omega (arith, used, more);
  written = texts_more chosen.session k texts (past_of chosen.seen) at.commit_count (is_waiting chosen.session ids (past_of chosen.seen) at.choice_is) one;
}

module _ (chosen : ChosenView) (before after : Extent) (waiting : IsWaiting chosen before) (pieces : ℕ) (on : GoesOn before.end after.end pieces) where
  pub can_abort_chosen : (after.texts ≡ before.texts) ⊎ (after.texts ≡ before.texts + 1) → CanAbortChosen chosen after.end.containers after.texts
  can_abort_chosen texts = can_abort_open chosen before.texts before.end.containers after.end.containers after.texts (pending_champions chosen.session (past_of chosen.seen)) waiting.at.at on.least texts

  module _ (shelf : ShelfView) (stored : Stored) (written : WrittenView) (for : CanCommitFor chosen.choice shelf after.end stored written) where
    uses_are : are_uses chosen.session (past_of chosen.seen) stored.uses.items ≡ true
    uses_are =
        let same : after.end.session ≡ chosen.session = on.session ∙ waiting.session in
        subst (λ (s : ℕ). are_uses s (past_of chosen.seen) stored.uses.items ≡ true) same
        (uses_allowed (past_of chosen.seen) after.end chosen.choice.champions.items for.holds shelf for.manifests stored
        (subst (λ (s : ℕ). chosen.choice.champions.items ≡ all_kept (pending_champions s (past_of chosen.seen)) (past_of chosen.seen)) (sym same) waiting.at.kept)
        for.loaded for.can)

    pub can_commit : CanCommit chosen stored written
    can_commit = record {
      author = waiting.at.at.open_to;
      waiting = is_waiting chosen.session (pending_champions chosen.session (past_of chosen.seen)) (past_of chosen.seen) waiting.at.at.choice_is;
      counts = for.can.counts;
      uses = uses_are;
      manifest = for.id;
      text = for.text;
      sum = for.least;
    }

    module _ (others : List Entry → Type 0) (standings champions : ℕ) where
      -- an own container that is used stands below the end
      own_below : (caller : OpenView) → HasCommitted others standings champions chosen stored caller → (id : ContainerId) → Contains stored.uses.items id → id.session ≡ chosen.session → id.ordinal < after.end.containers
      own_below caller has id there own = elim (for.can.each id there) [
        | inl mine ↦ mine.started
        | inr of ↦
            let past = past_of chosen.seen in
            let legal = legal_seen others standings champions chosen.author chosen.seen has.at_turn.turn has.at_turn.is_turn in
            let used = of_champion past chosen.session chosen.choice.champions.items for.holds shelf for.manifests waiting.at.kept for.loaded id of in
            let below = listed_below _ past id legal (use_of_any (pending_champions chosen.session past) past id used) in
            let mine : id.ordinal < own_end chosen.session past = subst (λ (s : ℕ). id.ordinal < own_end s past) own below in
            let known = waiting.at.at.used in
            let more = on.least in
            omega (arith, mine, known, more)
      ]

      pub ready_again : (caller : OpenView) → HasCommitted others standings champions chosen stored caller → after.texts ≡ before.texts + 1 → IsReady caller after
      ready_again caller has texts =
          let at = committed_open others standings champions chosen.author chosen.session before.texts before.end.containers after.end.containers (pending_champions chosen.session (past_of chosen.seen)) stored chosen.seen caller.seen on.least (own_below caller has) has.at_turn waiting.at.at in
          record {
            session = on.session ∙ waiting.session ∙ sym has.session;
            at =
                subst (λ (a : ℕ). IsOpenAt a caller.session None after.texts after.end.containers (past_of caller.seen)) (sym has.author)
                (subst (λ (s : ℕ). IsOpenAt chosen.author s None after.texts after.end.containers (past_of caller.seen)) (sym has.session)
                (subst (λ (k : ℕ). IsOpenAt chosen.author chosen.session None k after.end.containers (past_of caller.seen)) (sym texts) at));
          }

      pub can_abort_uncommitted : (back : ChosenView) (cause : PointFault) → HasNotCommitted others standings champions chosen stored back cause → after.texts ≡ before.texts + 1 → CanAbortChosen back after.end.containers after.texts
      can_abort_uncommitted back cause has texts =
          let ids = pending_champions chosen.session (past_of chosen.seen) in
          let at = uncommitted_open others standings champions chosen.author chosen.session before.texts before.end.containers (Some ids) stored cause chosen.seen back.seen has.at_turn waiting.at.at in
          can_abort_open back before.texts before.end.containers after.end.containers after.texts ids
          (subst (λ (a : ℕ). IsOpenAt a back.session (Some ids) before.texts before.end.containers (past_of back.seen)) (sym has.author)
          (subst (λ (s : ℕ). IsOpenAt chosen.author s (Some ids) before.texts before.end.containers (past_of back.seen)) (sym has.session) at))
          on.least (inr texts)
