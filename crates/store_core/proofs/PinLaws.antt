-- The numbers of the champions that the newest entry pins or unpins.
use Rattle.std.proofs.Common.{◌≡◌, ℕ, ◌<◌, Bool, true, false, eqb, List, [], ◌∷◌, map, Option, Some, None, refl, sym, ap, ◌∙◌, subst, inl, inr, arith, eqb-true, is_some, unwrap_or}
use Rattle.std.specs.Option.{option_and_then}
use Rattle.std.proofs.lemmas.Bool.{false≢true, and_parts, or_parts, or_left, cases_Bool, eq-eqb}
use Rattle.ss_base.specs.declared.ids.ContainerId.{ContainerId}
use Rattle.ss_base.specs.declared.ids.ManifestId.{ManifestId}
use Rattle.ss_base.specs.declared.name.Name.{Name}
use Rattle.ss_base.specs.Ids.{same_manifest, has_manifest}
use Rattle.journal_entry.specs.declared.entry.Entry.{Entry}
use Rattle.journal_entry.specs.declared.entry.Point.{Point}
use Rattle.journal_entry.specs.declared.entry.Point.TheVariants.{Choose, Commit, Abort}
use Rattle.history.specs.declared.rules.Rules.{Rules}
use Rattle.history.specs.Sessions.{has, newest, chooses, commits, aborts, settles, champions_chosen, pending, is_pending, pending_champions, commits_of}
use Rattle.history.specs.Need.{commits_manifest, is_live}
use Rattle.history.specs.Legal.{is_allowed, is_legal}
use Rattle.history_laws.specs.EntryNumbers.{entry_at, manifest_of, committed_at, CommitThese, last_champions}
use Rattle.ss_base.proofs.MemberLaws.{In, in_any}
use Rattle.ss_base.proofs.GetLaws.{reverse_cases}
use Rattle.ss_base.proofs.IdLaws.{same_manifest-self}
use Rattle.history_laws.proofs.Allowed.{step, commit_says}
use Rattle.history_laws.proofs.SessionLaws.{committed_below}
use Rattle.history_laws.proofs.LiveLaws.{pending_live}
use Rattle.history_counts.specs.Streams.{pins_of}
use Rattle.store_core.proofs.NewestLaws.{made}

-- ---- numbers of commits, before an entry

committed_before : (n : ℕ) (id : ManifestId) (entry : Entry) (past : List Entry) → committed_at (entry ∷ past) n ≡ Some id → (manifest_of entry.point ≡ Some id → ⊥) → committed_at past n ≡ Some id
unfolding committed_at entry_at
committed_before n id entry past is other =
    elim (entry_at n (entry ∷ past)) as (λ (o : Option Entry). entry_at n (entry ∷ past) ≡ o → option_and_then (λ (e : Entry). manifest_of e.point) (entry_at n past) ≡ Some id) [
      | None ↦ λ none. absurd (let at = rw none at is in cc)
      | Some found ↦ λ some. elim (reverse_cases found entry past n some) [
        | inl older ↦ rw older (rw some at is)
        | inr newest_one ↦ absurd (other (ap (λ (e : Entry). manifest_of e.point) newest_one.1 ∙ rw some at is))
      ]
    ] refl

pub these_before : (numbers : List ℕ) (ids : List ManifestId) (entry : Entry) (past : List Entry) → CommitThese numbers ids (entry ∷ past) → ((id : ManifestId) → In id ids → manifest_of entry.point ≡ Some id → ⊥) → CommitThese numbers ids past
unfolding CommitThese
these_before [] [] entry past these others = refl
these_before [] (id ∷ ids) entry past these others = absurd (cc)
these_before (n ∷ numbers) [] entry past these others = absurd (cc)
these_before (n ∷ numbers) (id ∷ ids) entry past these others =
    let first : committed_at (entry ∷ past) n ≡ Some id = cc in
    let rest : map (committed_at (entry ∷ past)) numbers ≡ map (λ i. Some i) ids = cc in
    let here = committed_before n id entry past first (others id (inl refl)) in
    let there = these_before numbers ids entry past rest (λ i h. others i (inr h)) in
    ap (λ o. o ∷ map (committed_at past) numbers) here ∙ ap (λ l. Some id ∷ l) there

-- ---- the champions of a pending choice are those of the last one

newest_more : (does : Point → Bool) (entry : Entry) (past : List Entry) → does entry.point ≡ true → newest does (entry ∷ past) ≡ Some entry
unfolding newest
newest_more does entry past here = rw here refl

newest_same : (does : Point → Bool) (entry : Entry) (past : List Entry) → does entry.point ≡ false → newest does (entry ∷ past) ≡ newest does past
unfolding newest
newest_same does entry past other = rw other refl

pub last_same : (s : ℕ) (entry : Entry) (past : List Entry) → chooses s entry.point ≡ false → last_champions s (entry ∷ past) ≡ last_champions s past
unfolding last_champions
last_same s entry past other = rw (newest_same (chooses s) entry past other) refl

chooses_own : (s : ℕ) (hooks : List Name) (champions : List ManifestId) → chooses s (Choose s hooks champions) ≡ true
unfolding chooses
chooses_own s hooks champions = eq-eqb s s refl

last_now : (s author : ℕ) (hooks : List Name) (champions : List ManifestId) (past : List Entry) → last_champions s (made author (Choose s hooks champions) ∷ past) ≡ champions
unfolding last_champions champions_chosen
last_now s author hooks champions past = rw (newest_more (chooses s) (made author (Choose s hooks champions)) past (chooses_own s hooks champions)) refl

pending_now : (s : ℕ) (entry : Entry) (past : List Entry) → settles s entry.point ≡ true → pending s (entry ∷ past) ≡ champions_chosen entry.point
unfolding pending
pending_now s entry past here = rw (newest_more (settles s) entry past here) refl

pending_older : (s : ℕ) (entry : Entry) (past : List Entry) → settles s entry.point ≡ false → pending s (entry ∷ past) ≡ pending s past
unfolding pending
pending_older s entry past other = rw (newest_same (settles s) entry past other) refl

-- what is pending are the champions of the session's last choice
abbrev PendingIsLast : ℕ → List Entry → Type 0
PendingIsLast s past = is_some (pending s past) ≡ true → unwrap_or (pending s past) [] ≡ last_champions s past

unsettled : (s : ℕ) (entry : Entry) (past : List Entry) → settles s entry.point ≡ false → PendingIsLast s past → PendingIsLast s (entry ∷ past)
unfolding settles
unsettled s entry past other older is =
    let same = pending_older s entry past other in
    let parts = or_parts (chooses s entry.point) _ other in
    ap (λ o. unwrap_or o []) same ∙ older (ap is_some (sym same) ∙ is) ∙ sym (last_same s entry past parts.0)

ended_choice : (s : ℕ) (entry : Entry) (past : List Entry) → settles s entry.point ≡ true → champions_chosen entry.point ≡ None → PendingIsLast s (entry ∷ past)
ended_choice s entry past here none is = absurd (false≢true (ap is_some (sym (pending_now s entry past here ∙ none)) ∙ is))

begun_choice : (s author t : ℕ) (hooks : List Name) (champions : List ManifestId) (past : List Entry) → eqb s t ≡ true → PendingIsLast s (made author (Choose t hooks champions) ∷ past)
unfolding settles champions_chosen chooses
begun_choice s author t hooks champions past same is =
    let t_is : s ≡ t = eqb-true _ _ same in
    ap (λ o. unwrap_or o []) (pending_now s (made author (Choose t hooks champions)) past (or_left _ _ same))
    ∙ sym (subst (λ u. last_champions u (made author (Choose t hooks champions) ∷ past) ≡ champions) (sym t_is) (last_now t author hooks champions past))

waits_after : (s author : ℕ) (point : Point) (past : List Entry) → PendingIsLast s past → PendingIsLast s (made author point ∷ past)
unfolding settles champions_chosen chooses commits aborts
waits_after s author (Choose t hooks champions) past older = elim (cases_Bool (eqb s t)) [
  | inl same ↦ begun_choice s author t hooks champions past same
  | inr other ↦ unsettled s (made author (Choose t hooks champions)) past (rw other refl) older
]
waits_after s author (Commit id content text chunks bytes fresh fresh_bytes uses) past older = elim (cases_Bool (eqb s id.session)) [
  | inl same ↦ ended_choice s (made author (Commit id content text chunks bytes fresh fresh_bytes uses)) past (rw same refl) refl
  | inr other ↦ unsettled s (made author (Commit id content text chunks bytes fresh fresh_bytes uses)) past (rw other refl) older
]
waits_after s author (Abort t containers texts) past older = elim (cases_Bool (eqb s t)) [
  | inl same ↦ ended_choice s (made author (Abort t containers texts)) past (rw same refl) refl
  | inr other ↦ unsettled s (made author (Abort t containers texts)) past (rw other refl) older
]
waits_after s author point past older = unsettled s (made author point) past refl older

waits : (s : ℕ) (past : List Entry) → PendingIsLast s past
unfolding pending newest
waits s [] is = absurd (cc)
waits s (entry ∷ past) is = waits_after s entry.author entry.point past (waits s past) is

pub pending_is_last : (s : ℕ) (past : List Entry) → is_pending s past ≡ true → last_champions s past ≡ pending_champions s past
unfolding is_pending pending_champions
pending_is_last s past is = sym (waits s past is)

-- ---- the newest entry

has_from_in : (id : ManifestId) (ids : List ManifestId) → In id ids → has_manifest id ids ≡ true
unfolding has_manifest
has_from_in id ids h = in_any (same_manifest id) id ids h (same_manifest-self id)

live_committed : (id : ManifestId) (past : List Entry) → is_live id past ≡ true → has (commits_manifest id) past ≡ true
unfolding is_live
live_committed id past live = (and_parts _ _ live).0

committed_pending : (rules : Rules) (s : ℕ) (id : ManifestId) (past : List Entry) → is_legal rules past ≡ true → In id (pending_champions s past) → id.seq < commits_of id.session past
committed_pending rules s id past legal h =
    committed_below rules id past legal (live_committed id past (pending_live rules s id past legal (has_from_in id _ h)))

commit_waits : (rules : Rules) (past : List Entry) (author : ℕ) (id : ManifestId) (content text : Name) (chunks bytes fresh fresh_bytes : ℕ) (uses : List ContainerId) → is_allowed rules past author (Commit id content text chunks bytes fresh fresh_bytes uses) ≡ true → is_pending id.session past ≡ true
unfolding is_allowed
commit_waits rules past author id content text chunks bytes fresh fresh_bytes uses allowed =
    let first = and_parts _ _ allowed in
    (and_parts _ _ first.1).0

not_committed : (rules : Rules) (past : List Entry) (s : ℕ) (new old : ManifestId) → is_legal rules past ≡ true → new.seq ≡ commits_of new.session past → In old (pending_champions s past) → Some new ≡ Some old → ⊥
not_committed rules past s new old legal next h same =
    let is : new ≡ old = cc in
    let below = committed_pending rules s old past legal h in
    let at : old.seq ≡ commits_of old.session past = subst (λ (m : ManifestId). m.seq ≡ commits_of m.session past) is next in
    omega (arith, below, at)

-- the champions of a Choose, told by the entries with it
pub pins_chosen : (author s : ℕ) (hooks : List Name) (champions : List ManifestId) (past : List Entry) (numbers : List ℕ) → CommitThese numbers (last_champions s (made author (Choose s hooks champions) ∷ past)) (made author (Choose s hooks champions) ∷ past) → CommitThese numbers (pins_of (Choose s hooks champions) past) past
unfolding pins_of manifest_of
pins_chosen author s hooks champions past numbers these =
    these_before numbers champions (made author (Choose s hooks champions)) past
    (subst (λ ids. CommitThese numbers ids (made author (Choose s hooks champions) ∷ past)) (last_now s author hooks champions past) these)
    (λ id h e. cc)

-- those of the choice that an Abort ends
pub pins_aborted : (author s containers texts : ℕ) (past : List Entry) (numbers : List ℕ) → is_pending s past ≡ true → CommitThese numbers (last_champions s (made author (Abort s containers texts) ∷ past)) (made author (Abort s containers texts) ∷ past) → CommitThese numbers (pins_of (Abort s containers texts) past) past
unfolding pins_of manifest_of chooses
pins_aborted author s containers texts past numbers waiting these =
    let entry : Entry = made author (Abort s containers texts) in
    these_before numbers (pending_champions s past) entry past
    (subst (λ ids. CommitThese numbers ids (entry ∷ past)) (last_same s entry past refl ∙ pending_is_last s past waiting) these)
    (λ id h e. cc)

-- those of the choice that a Commit ends
pub pins_committed : (rules : Rules) (author : ℕ) (id : ManifestId) (content text : Name) (chunks bytes fresh fresh_bytes : ℕ) (uses : List ContainerId) (past : List Entry) (numbers : List ℕ)
    → is_legal rules (made author (Commit id content text chunks bytes fresh fresh_bytes uses) ∷ past) ≡ true
    → CommitThese numbers (last_champions id.session (made author (Commit id content text chunks bytes fresh fresh_bytes uses) ∷ past)) (made author (Commit id content text chunks bytes fresh fresh_bytes uses) ∷ past)
    → CommitThese numbers (pins_of (Commit id content text chunks bytes fresh fresh_bytes uses) past) past
unfolding pins_of manifest_of chooses
pins_committed rules author id content text chunks bytes fresh fresh_bytes uses past numbers legal these =
    let entry : Entry = made author (Commit id content text chunks bytes fresh fresh_bytes uses) in
    let now = step rules entry past legal in
    let said = commit_says rules past author id content text chunks bytes fresh fresh_bytes uses now.allowed in
    let waiting = commit_waits rules past author id content text chunks bytes fresh fresh_bytes uses now.allowed in
    these_before numbers (pending_champions id.session past) entry past
    (subst (λ ids. CommitThese numbers ids (entry ∷ past)) (last_same id.session entry past refl ∙ pending_is_last id.session past waiting) these)
    (λ old h e. not_committed rules past id.session id old now.legal said.next h e)

-- an Abort without a pending choice ends none
pub pins_none : (s containers texts : ℕ) (past : List Entry) → is_pending s past ≡ false → CommitThese [] (pins_of (Abort s containers texts) past) past
unfolding CommitThese pins_of pending_champions is_pending
pins_none s containers texts past idle =
    elim (pending s past) as (λ (o : Option (List ManifestId)). is_some o ≡ false → map (committed_at past) [] ≡ map (λ id. Some id) (unwrap_or o [])) [
      | None ↦ λ e. refl
      | Some ids ↦ λ e. absurd (false≢true (sym e))
    ] idle
