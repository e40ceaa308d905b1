-- What a Commit asks of the counts, and what they are after it.
use Rattle.std.proofs.Common.{◌≡◌, ℕ, ◌+◌, ◌-◌, ◌<◌, ◌^◌, Bool, true, false, ◌&&◌, ltb, List, ◌∷◌, length, reverse, refl, sym, ap, ◌∙◌, subst, inl, inr, arith, eqb-true}
use Rattle.std.specs.FinSet as set
use Rattle.std.specs.List.{count_by, All, IsDistinct}
use Rattle.std.specs.Ordering.{eq_by_cmp}
use Rattle.std.proofs.lemmas.Bool.{both_ways, or_left, false_from_ne_true, cases_Bool, lt-ltb}
use Rattle.ss_base.specs.declared.ids.ContainerId.{ContainerId}
use Rattle.ss_base.specs.declared.ids.ManifestId.{ManifestId}
use Rattle.ss_base.specs.declared.name.Name.{Name}
use Rattle.ss_base.specs.declared.object.Object.{Object}
use Rattle.ss_base.specs.declared.object.Object.TheVariants.{Container, Manifest}
use Rattle.ss_base.specs.Ids.{same_manifest, has_manifest, has_container, has_object}
use Rattle.ss_base.specs.Order.{object_cmp, are_ascending}
use Rattle.journal_entry.specs.declared.entry.Entry.{Entry}
use Rattle.journal_entry.specs.declared.entry.Point.{Point}
use Rattle.journal_entry.specs.declared.entry.Point.TheVariants.{Commit}
use Rattle.history.specs.declared.rules.Rules.{Rules}
use Rattle.history.specs.Sessions.{session_begun, commits, finishes, aborts, closes, has, pending_champions}
use Rattle.history.specs.Need.{commits_manifest, reclaims}
use Rattle.history.specs.Legal.{is_allowed, is_legal}
use Rattle.history_laws.specs.EntryNumbers.{uses_listed, CommitThese}
use Rattle.pins_counts.specs.Counts.{Counted, use_number, hold_number, is_ready, one_if, containers}
use Rattle.history_counts.specs.CountsOf.{held, lists_object, AreCountsOf, HasRoomFor}
use Rattle.history_counts.specs.InStep.{IsHistory, uses_held, Agrees, times, HasHolds}
use Rattle.history_counts.specs.Streams.{pins_of}
use Rattle.ss_base.proofs.IdLaws.{same_manifest-self, same_manifest-true}
use Rattle.history_laws.proofs.Allowed.{step, commit_says}
use Rattle.history_laws.proofs.SessionLaws.{has_same, has_cases, unfinished_is}
use Rattle.history_laws.proofs.OnceLaws.{never_twice}
use Rattle.history_laws.proofs.LiveLaws.{pending_committed}
use Rattle.history_counts.proofs.CountLaws.{count_cons}
use Rattle.history_counts.proofs.HeldLaws.{held_none, held_commit, held_new}
use Rattle.history_counts.proofs.EndedLaws.{ended_other, all_same}
use Rattle.history_counts.proofs.TimesLaws.{times_these, count_apart, pending_apart}
use Rattle.history_counts.proofs.StepLaws.{distinct_uses, all_ascending, as_objects}
use Rattle.history_counts.proofs.UsesLaws.{uses_older}
use Rattle.history_counts.proofs.AfterLaws.{made, legal_length, uses_bound, within_these}

-- the entry commits this manifest with these containers
pub record IsCommit (entry : Entry) (m : ManifestId) (uses : List ContainerId) : Type 0 where
  pub content : Name
  pub text : Name
  pub chunks : ℕ
  pub bytes : ℕ
  pub fresh : ℕ
  pub fresh_bytes : ℕ
  pub is : entry.point ≡ Commit m content text chunks bytes fresh fresh_bytes uses

pub room_of : (counted : Counted) (entry : Entry) (m : ManifestId) (content text : Name) (chunks bytes fresh fresh_bytes : ℕ) (uses : List ContainerId) → entry.point ≡ Commit m content text chunks bytes fresh fresh_bytes uses → HasRoomFor entry.point counted
    → (q : Object) → has_object q (Manifest m ∷ containers uses) ≡ true → is_ready counted q ≡ true
room_of counted entry m content text chunks bytes fresh fresh_bytes uses is room = subst (λ (p : Point). HasRoomFor p counted) is room

module _ (rules : Rules) (counted : Counted) (champions : List ℕ) (entry : Entry) (before : List Entry) (m : ManifestId) (uses : List ContainerId) (legal : is_legal rules (entry ∷ reverse before) ≡ true) (fits : rules.limits.entries < 2 ^ 32)
    (are : AreCountsOf counted (reverse before)) (these : CommitThese champions (pins_of entry.point (reverse before)) (reverse before)) (of : IsCommit entry m uses) where
  commits_now : commits_manifest m entry.point ≡ true
  unfolding commits_manifest
  commits_now = ap (commits_manifest m) of.is ∙ same_manifest-self m

  fresh_manifest : has (commits_manifest m) (reverse before) ≡ false
  fresh_manifest = false_from_ne_true _ (λ committed. never_twice rules m entry (reverse before) (step rules entry (reverse before) legal) commits_now committed)

  not_held : hold_number counted m ≡ 0
  not_held = are.holds_are m ∙ held_none m (reverse before) fresh_manifest

  chosen : CommitThese champions (pending_champions m.session (reverse before)) (reverse before)
  unfolding pins_of
  chosen = subst (λ (p : Point). CommitThese champions (pins_of p (reverse before)) (reverse before)) of.is these

  past_legal : is_legal rules (reverse before) ≡ true
  past_legal = (step rules entry (reverse before) legal).legal

  many : (id : ManifestId) → times champions (reverse before) id ≡ one_if (has_manifest id (pending_champions m.session (reverse before)))
  many id = times_these id champions (pending_champions m.session (reverse before)) (reverse before) chosen ∙ count_apart id (pending_champions m.session (reverse before)) (pending_apart rules m.session (reverse before) past_legal)

  not_chosen : times champions (reverse before) m ≡ 0
  not_chosen = many m ∙ ap one_if (false_from_ne_true _ (λ listed. both_ways _ fresh_manifest (pending_committed rules m.session m (reverse before) past_legal listed)))

  law : (id : ManifestId) → same_manifest id m ≡ false → held id (entry ∷ reverse before) + times champions (reverse before) id ≡ held id (reverse before)
  law id apart = ap (λ n. held id (entry ∷ reverse before) + n) (many id) ∙ held_commit rules id m of.content of.text of.chunks of.bytes of.fresh of.fresh_bytes uses entry (reverse before) legal of.is apart

  pub commit_history : IsHistory (reverse before)
  commit_history = (rules, past_legal)

  pub commit_within : All (λ n. n < length before) champions
  commit_within = within_these champions (pending_champions m.session (reverse before)) before chosen

  pub commit_above : (id : ManifestId) → times champions (reverse before) id < hold_number counted id + 1
  commit_above id = elim (cases_Bool (same_manifest id m)) [
    | inl same ↦ (let none = ap (times champions (reverse before)) (same_manifest-true id m same) ∙ not_chosen in omega (arith, none))
    | inr apart ↦ (let l = law id apart in let is = are.holds_are id in omega (arith, l, is))
  ]

  pub commit_distinct : IsDistinct (eq_by_cmp object_cmp) (containers uses)
  unfolding uses_listed
  commit_distinct = distinct_uses uses (subst (λ (p : Point). are_ascending (uses_listed p) ≡ true) of.is (all_ascending rules entry (entry ∷ reverse before) legal (inl refl)))

  -- the champions are released
  module _ (mid : Counted) (agrees : Agrees mid (reverse before)) (released : HasHolds (times champions (reverse before)) mid counted) where
    pub commit_unheld : hold_number mid m ≡ 0
    commit_unheld = let all = released.holds m in let none = not_held in omega (arith, all, none)

    pub commit_below : (c : ContainerId) → use_number mid c < 2 ^ 32 - 1
    commit_below c = let few = uses_bound mid c (reverse before) agrees in let bound = legal_length rules entry (reverse before) legal in omega (arith, few, bound, fits)

    -- the manifest is held and its containers are used
    module _ (new : Counted) (holds : (id : ManifestId) → hold_number new id ≡ hold_number mid id + one_if (same_manifest id m)) (used : (c : ContainerId) → use_number new c ≡ use_number mid c + one_if (has_container c uses))
        (ready : (q : Object) → is_ready new q ≡ is_ready mid q) (room : (q : Object) → has_object q (Manifest m ∷ containers uses) ≡ true → is_ready mid q ≡ true) (sessions : new.sessions ≡ mid.sessions) (gone : new.gone ≡ mid.gone) where
      new_holds : (id : ManifestId) → hold_number new id ≡ held id (entry ∷ reverse before)
      new_holds id = elim (cases_Bool (same_manifest id m)) [
        | inl same ↦
            let is : id ≡ m = same_manifest-true id m same in
            let h = holds id in
            let one = ap one_if same in
            let none = ap (hold_number mid) is ∙ commit_unheld in
            let now = ap (λ (i : ManifestId). held i (entry ∷ reverse before)) is ∙ held_new rules m of.content of.text of.chunks of.bytes of.fresh of.fresh_bytes uses entry (reverse before) legal of.is in
            omega (arith, h, one, none, now)
        | inr apart ↦
            let h = holds id in
            let none = ap one_if apart in
            let l = law id apart in
            let is = are.holds_are id in
            let r = released.holds id in
            omega (arith, h, none, l, is, r)
      ]

      other_id : (id : ManifestId) → has (commits_manifest id) (reverse before) ≡ true → same_manifest id m ≡ false
      other_id id committed = false_from_ne_true _ (λ same. both_ways _ fresh_manifest (subst (λ (i : ManifestId). has (commits_manifest i) (reverse before) ≡ true) (same_manifest-true id m same) committed))

      same_tests : (id : ManifestId) → has (commits_manifest id) (reverse before) ≡ true → ltb 0 (hold_number new id) ≡ ltb 0 (hold_number mid id)
      same_tests id committed = ap (ltb 0) (let h = holds id in let none = ap one_if (other_id id committed) in let e : hold_number new id ≡ hold_number mid id = omega (arith, h, none) in e)

      -- as if the new uses were not counted
      here_used : (c : ContainerId) → uses_held new c entry.point ≡ has_container c uses
      unfolding uses_held
      here_used c =
          let h = holds m in
          let one = ap one_if (same_manifest-self m) in
          ap (uses_held new c) of.is ∙ ap (λ b. has_container c uses && b) (lt-ltb 0 (hold_number new m) (omega (arith, h, one))) ∙ all_of (has_container c uses)
        where
          all_of : (b : Bool) → (b && true) ≡ b
          all_of true = refl
          all_of false = refl

      older_used : (c : ContainerId) → count_by (λ (e : Entry). uses_held new c e.point) (reverse before) ≡ count_by (λ (e : Entry). uses_held mid c e.point) (reverse before)
      older_used c = uses_older mid new (reverse before) same_tests c

      listed_ready : (q : Object) → lists_object q entry.point ≡ true → has_object q (Manifest m ∷ containers uses) ≡ true
      unfolding lists_object uses_listed commits_manifest
      listed_ready (Container c) listed = as_objects c uses ∙ (ap (λ p. has_container c (uses_listed p)) (sym of.is) ∙ listed)
      listed_ready (Manifest id) listed = or_left (same_manifest id m) (has_object (Manifest id) (containers uses)) (ap (commits_manifest id) (sym of.is) ∙ listed)

      new_agrees : Agrees new (entry ∷ reverse before)
      new_agrees = record {
        uses_agree = λ c.
            (let u = used c in
            let a = agrees.uses_agree c in
            let all = count_cons (λ (e : Entry). uses_held new c e.point) entry (reverse before) in
            let first = ap one_if (here_used c) in
            let rest = older_used c in
            omega (arith, u, a, all, first, rest));
        ready_are = λ q listed. ready q ∙ elim (has_cases (lists_object q) entry (reverse before) listed) [
          | inl here ↦ room q (listed_ready q here)
          | inr older ↦ agrees.ready_are q older
        ];
      }

      other_session : (s : ℕ) → commits s entry.point ≡ true → has (closes s) (reverse before) ≡ false
      unfolding commits
      other_session s does =
          let allowed : is_allowed rules (reverse before) entry.author (Commit m of.content of.text of.chunks of.bytes of.fresh of.fresh_bytes uses) ≡ true = subst (λ (p : Point). is_allowed rules (reverse before) entry.author p ≡ true) of.is (step rules entry (reverse before) legal).allowed in
          let said = commit_says rules (reverse before) entry.author m of.content of.text of.chunks of.bytes of.fresh of.fresh_bytes uses allowed in
          let same : s ≡ m.session = eqb-true s m.session (ap (commits s) (sym of.is) ∙ does) in
          subst (λ n. has (closes n) (reverse before) ≡ false) (sym same) (unfinished_is m.session (reverse before) said.unfinished).1

      pub after_commit : AreCountsOf new (entry ∷ reverse before)
      unfolding session_begun closes finishes aborts reclaims
      after_commit = made new (entry ∷ reverse before) new_holds new_agrees
          (sessions ∙ sym released.sessions ∙ are.sessions_are ∙ sym (all_same entry (reverse before) (ap session_begun of.is) (λ s. ended_other s entry (reverse before) (ap (closes s) of.is) (other_session s))))
          (λ q. ap (λ (g : set.FinSet object_cmp). set.contains g q) (gone ∙ sym released.gone) ∙ are.gone_are q ∙ sym (has_same (reclaims q) entry (reverse before) (ap (reclaims q) of.is)))
