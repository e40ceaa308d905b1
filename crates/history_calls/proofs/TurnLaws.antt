-- A session as its caller knows it, call by call.
use Rattle.std.proofs.Common.{◌≡◌, ℕ, ◌+◌, ◌<◌, ◌≤◌, true, List, [], ◌∷◌, ◌++◌, reverse, Option, Some, None, Ok, Err, refl, sym, ap, ◌∙◌, subst}
use Rattle.std.specs.List.{Contains, filter_map}
use Rattle.std.specs.Option.{unwrap_or}
use Rattle.std.proofs.lemmas.List.{reverse-append}
use Rattle.ss_base.specs.declared.ids.ContainerId.{ContainerId}
use Rattle.ss_base.specs.declared.ids.ManifestId.{ManifestId}
use Rattle.ss_base.specs.declared.name.Name.{Name}
use Rattle.journal_entry.specs.declared.entry.Entry.{Entry}
use Rattle.journal_entry.specs.declared.entry.Point.TheVariants.{Begin, Choose, Commit}
use Rattle.history.specs.Need.{commits_manifest}
use Rattle.history.specs.Sessions.{newest, pending, pending_champions}
use Rattle.history.specs.StandingList.{champions_for}
use Rattle.history.specs.Legal.{is_legal}
use Rattle.history.proofs.LegalLaws.{is_legal-older}
use Rattle.store_core.specs.declared.fault.PointFault.{PointFault}
use Rattle.store_core.specs.declared.fault.PointFault.TheVariants.{Full, Memory}
use Rattle.store_core.specs.declared.values.Choice.{Choice}
use Rattle.store_core.specs.declared.values.Stored.{Stored}
use Rattle.store_core.specs.View.{StateView, KeptView, past_of, rules_of, made, Adds, kept, all_kept}
use Rattle.store_core.specs.Answers.{BeginAnswer, ChooseAnswer, CommitAnswer, commit_entry}
use Rattle.history_calls.specs.OpenAt.{IsOpenAt, IsPendingSo}
use Rattle.history_calls.specs.Turn.{IsTurn, AtTurn}
use Rattle.history_calls.proofs.OpenLaws.{still_open, begun_at, chosen_at, committed_at}

-- what was added stands in front
pub past_added : (old new : StateView) (entry : Entry) → Adds old new entry → past_of new ≡ entry ∷ past_of old
past_added old new entry adds = ap past_of adds.added ∙ reverse-append old.entries (entry ∷ [])

module _ (others : List Entry → Type 0) (standings champions author : ℕ) where
  pub past_at_turn : (seen turn : StateView) (is : IsTurn others standings champions author seen turn) → past_of turn ≡ reverse is.came ++ past_of seen
  past_at_turn seen turn is = ap past_of is.turn_is ∙ reverse-append seen.entries is.came

  -- the turn's history is legal, and so is what the caller had seen
  pub legal_seen : (seen turn : StateView) → IsTurn others standings champions author seen turn → is_legal (rules_of standings champions turn) (past_of seen) ≡ true
  legal_seen seen turn is =
      is_legal-older (rules_of standings champions turn) (reverse is.came) (past_of seen)
      (subst (λ past. is_legal (rules_of standings champions turn) past ≡ true) (past_at_turn seen turn is) is.legal)

  -- at its turn the caller's session is as it was
  pub open_at_turn : (s : ℕ) (choice : Option (List ManifestId)) (k n : ℕ) (seen turn : StateView) → IsTurn others standings champions author seen turn → IsOpenAt author s choice k n (past_of seen) → IsOpenAt author s choice k n (past_of turn)
  open_at_turn s choice k n seen turn is at =
      let whole = past_at_turn seen turn is in
      let legal = subst (λ past. is_legal (rules_of standings champions turn) past ≡ true) whole is.legal in
      subst (λ past. IsOpenAt author s choice k n past) (sym whole)
      (still_open (rules_of standings champions turn) author s choice k n is.came (past_of seen) legal is.not_own at)

  -- a session that has begun
  pub begun_open : (s : ℕ) (name : List ℕ) (seen after : StateView) → AtTurn others standings champions author seen (λ turn. BeginAnswer turn after author name (Ok s)) → IsOpenAt author s None 0 0 (past_of after)
  begun_open s name seen after begun =
      subst (λ past. IsOpenAt author s None 0 0 past) (sym (past_added begun.turn after (made author (Begin name (Some s))) begun.done.1))
      (begun_at (rules_of standings champions begun.turn) author s name (past_of begun.turn) begun.is_turn.legal begun.done.0)

  -- a choice that was refused
  pub unchosen_open : (s k n : ℕ) (hooks : List Name) (cause : PointFault) (seen after : StateView) → AtTurn others standings champions author seen (λ turn. ChooseAnswer standings champions turn after author s hooks (Err cause)) → IsOpenAt author s None k n (past_of seen) → IsOpenAt author s None k n (past_of after)
  unchosen_open s k n hooks Full seen after refused at =
      subst (λ view. IsOpenAt author s None k n (past_of view)) (sym refused.done.same) (open_at_turn s None k n seen refused.turn refused.is_turn at)
  unchosen_open s k n hooks Memory seen after refused at =
      subst (λ view. IsOpenAt author s None k n (past_of view)) (sym refused.done) (open_at_turn s None k n seen refused.turn refused.is_turn at)

  -- a commit that was refused
  pub uncommitted_open : (s k n : ℕ) (choice : Option (List ManifestId)) (stored : Stored) (cause : PointFault) (seen after : StateView) → AtTurn others standings champions author seen (λ turn. CommitAnswer turn after author s stored (Err cause)) → IsOpenAt author s choice k n (past_of seen) → IsOpenAt author s choice k n (past_of after)
  uncommitted_open s k n choice stored Full seen after refused at =
      subst (λ view. IsOpenAt author s choice k n (past_of view)) (sym refused.done.same) (open_at_turn s choice k n seen refused.turn refused.is_turn at)
  uncommitted_open s k n choice stored Memory seen after refused at =
      subst (λ view. IsOpenAt author s choice k n (past_of view)) (sym refused.done) (open_at_turn s choice k n seen refused.turn refused.is_turn at)

-- ---- a choice

module _ (s : ℕ) (hooks : List Name) (ids : List ManifestId) (author : ℕ) (past : List Entry) where
  kept_same : (id : ManifestId) → kept id (made author (Choose s hooks ids) ∷ past) ≡ kept id past
  unfolding kept newest commits_manifest
  kept_same id = refl

  kept_all : (wanted : List ManifestId) → all_kept wanted (made author (Choose s hooks ids) ∷ past) ≡ all_kept wanted past
  kept_all wanted = ap (λ (f : ManifestId → Option KeptView). filter_map f wanted) (λ i id. kept_same id i)

pending_of : (s : ℕ) (past : List Entry) (ids : List ManifestId) → pending s past ≡ Some ids → pending_champions s past ≡ ids
unfolding pending_champions
pending_of s past ids is = ap (λ o. unwrap_or o []) is

module _ (others : List Entry → Type 0) (standings champions author : ℕ) where
  pub chosen_open : (s k n : ℕ) (hooks : List Name) (choice : Choice) (seen after : StateView) → AtTurn others standings champions author seen (λ turn. ChooseAnswer standings champions turn after author s hooks (Ok choice)) → IsOpenAt author s None k n (past_of seen) → IsPendingSo author s k n choice after
  chosen_open s k n hooks choice seen after chosen at =
      let turn = chosen.turn in
      let ids = champions_for (rules_of standings champions turn) hooks (past_of turn) in
      let at_turn = open_at_turn others standings champions author s None k n seen turn chosen.is_turn at in
      let added = past_added turn after (made author (Choose s hooks ids)) chosen.done.2 in
      let open_now : IsOpenAt author s (Some ids) k n (past_of after) =
      subst (λ past. IsOpenAt author s (Some ids) k n past) (sym added) (chosen_at author s k n hooks ids (past_of turn) at_turn) in
      let ids_are = pending_of s (past_of after) ids open_now.choice_is in
      record {
        at = subst (λ (cs : List ManifestId). IsOpenAt author s (Some cs) k n (past_of after)) (sym ids_are) open_now;
        manifest = chosen.done.0 ∙ ap (λ (q : ℕ). record { session = s; seq = q }) at_turn.commit_count;
        kept = chosen.done.1 ∙ sym (kept_all s hooks ids author (past_of turn) ids) ∙ ap (λ past. all_kept ids past) (sym added) ∙ ap (λ cs. all_kept cs (past_of after)) (sym ids_are);
      }

  -- ---- a commit

  pub committed_open : (s k n n' : ℕ) (ids : List ManifestId) (stored : Stored) (seen after : StateView) → n ≤ n' → ((id : ContainerId) → Contains stored.uses.items id → id.session ≡ s → id.ordinal < n')
      → AtTurn others standings champions author seen (λ turn. Adds turn after (commit_entry turn author s stored))
      → IsOpenAt author s (Some ids) k n (past_of seen) → IsOpenAt author s None (k + 1) n' (past_of after)
  committed_open s k n n' ids stored seen after more each commit at =
      let turn = commit.turn in
      let at_turn = open_at_turn others standings champions author s (Some ids) k n seen turn commit.is_turn at in
      let entry : ℕ → Entry = λ q. made author (Commit (record { session = s; seq = q }) stored.content stored.text stored.chunks stored.bytes stored.fresh stored.fresh_bytes stored.uses.items) in
      let added = past_added turn after (commit_entry turn author s stored) commit.done ∙ ap (λ q. entry q ∷ past_of turn) at_turn.commit_count in
      subst (λ past. IsOpenAt author s None (k + 1) n' past) (sym added)
      (committed_at author s k n n' ids stored.content stored.text stored.chunks stored.bytes stored.fresh stored.fresh_bytes stored.uses.items (past_of turn) more each at_turn)
