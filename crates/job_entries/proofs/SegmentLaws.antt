-- What a session adds for its segments.
use Rattle.std.proofs.Common.{◌≡◌, ℕ, ◌+◌, ◌<◌, ◌≤◌, List, [], ◌∷◌, Some, None, sym, ap, ◌∙◌, subst, inl, inr, arith}
use Rattle.ss_base.specs.declared.ids.ContainerId.{ContainerId}
use Rattle.ss_base.specs.declared.ids.ManifestId.{ManifestId}
use Rattle.ss_base.specs.declared.profile.Numbers.{Numbers}
use Rattle.ss_base.specs.Profile.{numbers_of}
use Rattle.ss_base.proofs.MemberLaws.{In, in_Contains}
use Rattle.journal_entry.specs.declared.entry.Entry.{Entry}
use Rattle.journal_entry.specs.declared.entry.Point.{Point}
use Rattle.journal_entry.specs.declared.entry.Point.TheVariants.{Choose}
use Rattle.history.specs.Sessions.{pending_champions, commits_of}
use Rattle.store_core.specs.declared.values.Stored.{Stored}
use Rattle.store_core.specs.View.{StateView, past_of}
use Rattle.history_calls.specs.Tokens.{OpenView, ChosenView}
use Rattle.history_calls.specs.OpenAt.{IsOpenAt}
use Rattle.history_calls.specs.SessionSteps.{HasCommitted}
use Rattle.history_calls.proofs.TurnLaws.{open_at_turn, chosen_open, committed_open}
use Rattle.session.specs.Stores.{Progress, Reached, HasStored, HasStoredAll}
use Rattle.job_entries.specs.Interleaved.{AddsPoints}
use Rattle.job_entries.specs.Pairs.{commit_of, segment_hooks, IsOfSegment, HasPairsOf}
use Rattle.job_entries.specs.Pairs.HasPairsOf.{none, pair}
use Rattle.job_entries.proofs.AddsLaws.{adds-none, adds-then, adds-at_turn, same_profile}
use Rattle.job_entries.proofs.StepLaws.{open_at, is_open_at, choose-adds}

-- a number above the ordinals of some containers, and not below another number
record IsAbove (ids : List ContainerId) (least : ℕ) : Type 0 where
  above : ℕ
  not_below : least ≤ above
  each : (id : ContainerId) → In id ids → id.ordinal < above

above_all : (ids : List ContainerId) (least : ℕ) → IsAbove ids least
above_all [] least = record { above = least; not_below = omega arith; each = λ id there. absurd there }
above_all (first ∷ ids) least =
    let rest = above_all ids least in
    record {
      above = rest.above + (first.ordinal + 1);
      not_below = let old = rest.not_below in omega (arith, old);
      each = λ id there. elim there [
        | inl same ↦ let is = ap (λ (c : ContainerId). c.ordinal) same in omega (arith, is)
        | inr later ↦ let below = rest.each id later in omega (arith, below)
      ];
    }

module _ (others : List Entry → Type 0) (standings champions : ℕ) (n : Numbers) (author session : ℕ) where
  -- One segment: its pair was added, and the session is open again.
  pub record AddsPair (chunks : List (List ℕ)) (seq : ℕ) (seen : StateView) (after : OpenView) : Type 0 where
    pub same_author : after.author ≡ author
    pub same_session : after.session ≡ session
    pub ids : List ManifestId
    pub stored : Stored
    pub of : IsOfSegment chunks stored
    pub adds : AddsPoints others author seen after.seen (Choose session (segment_hooks n chunks) ids ∷ commit_of session seq stored ∷ [])
    pub containers : ℕ
    pub at : IsOpenAt author session None (seq + 1) containers (past_of after.seen)

  -- a commit behind a choice
  record AddsCommit (seq : ℕ) (seen : StateView) (stored : Stored) (after : OpenView) : Type 0 where
    same_author : after.author ≡ author
    same_session : after.session ≡ session
    adds : AddsPoints others author seen after.seen (commit_of session seq stored ∷ [])
    containers : ℕ
    at : IsOpenAt author session None (seq + 1) containers (past_of after.seen)

  commit-adds : (chosen : ChosenView) (stored : Stored) (after : OpenView) (seq containers : ℕ) (ids : List ManifestId)
      → chosen.author ≡ author → chosen.session ≡ session → HasCommitted others standings champions chosen stored after
      → IsOpenAt author session (Some ids) seq containers (past_of chosen.seen) → AddsCommit seq chosen.seen stored after
  commit-adds chosen stored after seq containers ids same_author same_session has at =
      let is : chosen ≡ record { author = author; seen = chosen.seen; session = session; choice = chosen.choice } =
      λ i. record { author = same_author i; seen = chosen.seen; session = same_session i; choice = chosen.choice } in
      let commits = subst (λ (t : ChosenView). HasCommitted others standings champions t stored after) is has in
      let turn = commits.at_turn.turn in
      let at_turn = open_at_turn others standings champions author session (Some ids) seq containers chosen.seen turn commits.at_turn.is_turn at in
      let above = above_all stored.uses.items containers in
      record {
        same_author = commits.author;
        same_session = commits.session;
        adds =
            subst (λ (q : ℕ). AddsPoints others author chosen.seen after.seen (commit_of session q stored ∷ [])) at_turn.commit_count
            (adds-at_turn others author standings champions chosen.seen turn after.seen (commit_of session (commits_of session (past_of turn)) stored) commits.at_turn.is_turn commits.at_turn.done);
        containers = above.above;
        at =
            committed_open others standings champions author session seq containers above.above ids stored chosen.seen after.seen above.not_below
            (λ id there own. above.each id (in_Contains id stored.uses.items there)) commits.at_turn at;
      }

  pub stored-adds : (chunks : List (List ℕ)) (seq containers : ℕ) (seen : StateView) (progress : Progress) (after : Reached) → numbers_of seen.profile ≡ n
      → HasStored others standings champions chunks (record { caller = open_at author session seen; progress = progress }) after
      → IsOpenAt author session None seq containers (past_of seen) → AddsPair chunks seq seen after.caller
  stored-adds chunks seq containers seen progress after is_n has at =
      let before = open_at author session seen in
      let hooks = segment_hooks (numbers_of seen.profile) chunks in
      let chosen = has.chosen in
      let chooses = choose-adds others standings champions before hooks chosen has.chooses in
      let pending = chosen_open others standings champions author session seq containers hooks chosen.choice seen chosen.seen has.chooses.at_turn at in
      let behind = has.behind in
      let commits = commit-adds chosen behind.stored after.caller seq containers (pending_champions session (past_of chosen.seen)) has.chooses.author has.chooses.session behind.commits pending.at in
      let says = behind.stores.stored_is.stored_is in
      record {
        same_author = commits.same_author;
        same_session = commits.same_session;
        ids = chooses.0;
        stored = behind.stored;
        of = record { content = says.content; chunk_count = says.chunk_count; byte_count = says.byte_count };
        adds =
            subst (λ (m : Numbers). AddsPoints others author seen after.caller.seen (Choose session (segment_hooks m chunks) chooses.0 ∷ commit_of session seq behind.stored ∷ [])) is_n
            (adds-then others author seen chosen.seen after.caller.seen (Choose session hooks chooses.0 ∷ []) (commit_of session seq behind.stored ∷ []) chooses.1 commits.adds);
        containers = commits.containers;
        at = commits.at;
      }

  -- Some segments, one behind another: their pairs were added.
  pub record AddsPairs (segments : List (List (List ℕ))) (seq : ℕ) (seen : StateView) (after : OpenView) : Type 0 where
    pub same_author : after.author ≡ author
    pub same_session : after.session ≡ session
    pub same_numbers : numbers_of after.seen.profile ≡ n
    pub pairs : List Point
    pub pairs_of : HasPairsOf n session seq segments pairs
    pub adds : AddsPoints others author seen after.seen pairs

  pub stored_all-adds : (segments : List (List (List ℕ))) (seq containers : ℕ) (seen : StateView) (progress : Progress) (after : Reached) → numbers_of seen.profile ≡ n
      → HasStoredAll others standings champions segments (record { caller = open_at author session seen; progress = progress }) after
      → IsOpenAt author session None seq containers (past_of seen) → AddsPairs segments seq seen after.caller
  stored_all-adds [] seq containers seen progress after is_n same at =
      let caller = ap (λ (r : Reached). r.caller) same in
      record {
        same_author = ap (λ (t : OpenView). t.author) caller;
        same_session = ap (λ (t : OpenView). t.session) caller;
        same_numbers = ap (λ (t : OpenView). numbers_of t.seen.profile) caller ∙ is_n;
        pairs = [];
        pairs_of = none seq;
        adds = subst (λ (view : StateView). AddsPoints others author seen view []) (sym (ap (λ (t : OpenView). t.seen) caller)) (adds-none others author seen);
      }
  stored_all-adds (chunks ∷ segments) seq containers seen progress after is_n all at =
      let next = all.0 in
      let one = stored-adds chunks seq containers seen progress next is_n all.1 at in
      let first = Choose session (segment_hooks n chunks) one.ids ∷ commit_of session seq one.stored ∷ [] in
      let is = is_open_at author session next.caller one.same_author one.same_session in
      let now_n = ap numbers_of (same_profile others author seen next.caller.seen first one.adds) ∙ is_n in
      let behind = subst (λ (t : OpenView). HasStoredAll others standings champions segments (record { caller = t; progress = next.progress }) after) is all.2 in
      let rest = stored_all-adds segments (seq + 1) one.containers next.caller.seen next.progress after now_n behind one.at in
      record {
        same_author = rest.same_author;
        same_session = rest.same_session;
        same_numbers = rest.same_numbers;
        pairs = Choose session (segment_hooks n chunks) one.ids ∷ commit_of session seq one.stored ∷ rest.pairs;
        pairs_of = pair seq chunks segments one.ids one.stored rest.pairs one.of rest.pairs_of;
        adds = adds-then others author seen next.caller.seen after.caller.seen first rest.pairs one.adds rest.adds;
      }
