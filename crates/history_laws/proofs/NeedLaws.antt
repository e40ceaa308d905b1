-- What is not needed after its session was closed is never needed again.
use Rattle.std.proofs.Common.{◌≡◌, ◌⊎◌, ℕ, true, false, not, ◌&&◌, ◌||◌, eqb, List, [], ◌∷◌, ◌++◌, Option, Some, None, refl, sym, ap, ◌∙◌, subst, inl, inr, eqb-true}
use mathlib.Core.List.{map}
use Rattle.std.specs.Option.{option_map, unwrap_or}
use Rattle.std.proofs.lemmas.Bool.{false≢true, both_ways, and_parts, and_from, or_cases, or_left, or_right, not-true, not_from_false, false_from_ne_true, cases_Bool, eq-eqb}
use Rattle.ss_base.specs.declared.ids.ContainerId.{ContainerId}
use Rattle.ss_base.specs.declared.ids.ManifestId.{ManifestId}
use Rattle.ss_base.specs.declared.ids.Standing.{Standing}
use Rattle.ss_base.specs.declared.name.Name.{Name}
use Rattle.ss_base.specs.Ids.{same_manifest, has_manifest, same_container, has_container}
use Rattle.ss_base.specs.Champions.{stands_in}
use Rattle.journal_entry.specs.declared.entry.Entry.{Entry}
use Rattle.journal_entry.specs.declared.entry.Seen.{Seen}
use Rattle.history.specs.declared.rules.Rules.{Rules}
use Rattle.journal_entry.specs.declared.entry.Point.{Point}
use Rattle.journal_entry.specs.declared.entry.Point.TheVariants.{Choose, Commit, Look}
use Rattle.history.specs.Sessions.{is_number, session_begun, sessions, begins, chooses, commits, finishes, aborts, closes, deletes, settles, has, newest, is_unfinished, is_closed, is_retained, champions_chosen, pending, pending_champions, reading_begun, readings, looks, ends, is_reading}
use Rattle.history.specs.StandingList.{standing, champions_for}
use Rattle.history.specs.Need.{is_champion, is_being_read, is_pinned, commits_manifest, is_live, uses_live, is_needed}
use Rattle.history.specs.Legal.{is_legal, is_allowed, lists_use, is_use, is_use_of_any, are_uses}
use Rattle.ss_base.proofs.MemberLaws.{In, any_in, in_any, all_in, filter_map_in, in_filter_map, map_in}
use Rattle.history_laws.proofs.Allowed.{IsStep, step, finishes_open, look_says, retained_is, choose_says, commit_says, commits_next}
use Rattle.history_laws.proofs.SessionLaws.{has_cases, has_parts, has_older, has_from, unfinished_is, unfinished_from, closed_not_unfinished, closed_cases, retained_parts, retained_from, committed_begun}
use Rattle.history_laws.proofs.ChampionLaws.{champion_stands}
use Rattle.ss_base.proofs.IdLaws.{same_manifest-self, same_manifest-true, same_container-true}
use Rattle.history_laws.proofs.StandingLaws.{what_stands}

-- ---- champions of pending choices

-- a manifest that stands at a hook
pub record StandsSomewhere (id : ManifestId) (past : List Entry) : Type 0 where
  pub bound : ℕ
  pub hook : Name
  pub stands : Standing
  pub listed : In stands (standing bound hook past)
  pub same : id ≡ stands.id

pub listed_manifest : (id : ManifestId) (ids : List ManifestId) → has_manifest id ids ≡ true → In id ids
unfolding has_manifest
listed_manifest id ids h =
    let found = any_in (same_manifest id) ids h in
    subst (λ (m : ManifestId). In m ids) (sym (same_manifest-true _ _ found.2)) found.1

pub manifest_listed : (id : ManifestId) (ids : List ManifestId) → In id ids → has_manifest id ids ≡ true
unfolding has_manifest
manifest_listed id ids h = in_any (same_manifest id) id ids h (same_manifest-self id)

champion_somewhere : (rules : Rules) (hooks : List Name) (past : List Entry) (id : ManifestId) → In id (champions_for rules hooks past) → StandsSomewhere id past
unfolding champions_for stands_in
champion_somewhere rules hooks past id h =
    let at = champion_stands rules.champions (map (λ hook. standing rules.standings hook past) hooks) id h in
    let hook = map_in (λ hook. standing rules.standings hook past) at.stood hooks at.listed in
    let stands = any_in (λ (s : Standing). same_manifest id s.id) at.stood at.stands in
    record {
      bound = rules.standings;
      hook = hook.0;
      stands = stands.0;
      listed = subst (λ (l : List Standing). In stands.0 l) (sym hook.2) stands.1;
      same = same_manifest-true _ _ stands.2;
    }

-- the champions of a choice that is allowed stand somewhere
pub chosen_somewhere : (rules : Rules) (past : List Entry) (author : ℕ) (id : ManifestId) (point : Point) → is_allowed rules past author point ≡ true → has_manifest id (unwrap_or (champions_chosen point) []) ≡ true → StandsSomewhere id past
unfolding champions_chosen has_manifest
chosen_somewhere rules past author id (Choose s hooks champions) allowed h =
    let said = choose_says rules past author s hooks champions allowed in
    champion_somewhere rules hooks past id (subst (λ (ids : List ManifestId). In id ids) said.greedy (listed_manifest id champions h))
chosen_somewhere rules past author id _ allowed h = absurd (false≢true h)

-- the pending choice after one more entry
pub pending_one : (t : ℕ) (entry : Entry) (past : List Entry) → settles t entry.point ≡ true → pending_champions t (entry ∷ past) ≡ unwrap_or (champions_chosen entry.point) []
unfolding pending_champions pending newest
pending_one t entry past here = rw here refl

pub pending_same : (t : ℕ) (entry : Entry) (past : List Entry) → settles t entry.point ≡ false → pending_champions t (entry ∷ past) ≡ pending_champions t past
unfolding pending_champions pending newest
pending_same t entry past other = rw other refl

pub pending_none : (t : ℕ) → pending_champions t [] ≡ []
unfolding pending_champions pending newest
pending_none t = refl

-- a session with a pending choice was begun
settled_begun : (rules : Rules) (past : List Entry) (author t : ℕ) (id : ManifestId) (point : Point) → is_allowed rules past author point ≡ true → settles t point ≡ true → has_manifest id (unwrap_or (champions_chosen point) []) ≡ true → has (begins t) past ≡ true
unfolding settles chooses commits aborts champions_chosen has_manifest
settled_begun rules past author t id (Choose s hooks champions) allowed does h = elim (or_cases _ _ does) [
  | inl same ↦
      let said = choose_says rules past author s hooks champions allowed in
      subst (λ n. has (begins n) past ≡ true) (sym (eqb-true _ _ same)) (unfinished_is _ _ said.unfinished).0
  | inr other ↦ absurd (false≢true other)
]
settled_begun rules past author t id _ allowed does h = absurd (false≢true h)

pub pending_begun : (rules : Rules) (t : ℕ) (id : ManifestId) (past : List Entry) → is_legal rules past ≡ true → has_manifest id (pending_champions t past) ≡ true → has (begins t) past ≡ true
pending_begun rules t id [] legal h = absurd (rw (pending_none t) at (listed_manifest id (pending_champions t []) h))
pending_begun rules t id (entry ∷ past) legal h =
    let now = step rules entry past legal in
    has_older (begins t) entry past (elim (cases_Bool (settles t entry.point)) [
      | inl here ↦ settled_begun rules past entry.author t id entry.point now.allowed here (subst (λ (ids : List ManifestId). has_manifest id ids ≡ true) (pending_one t entry past here) h)
      | inr other ↦ pending_begun rules t id past now.legal (subst (λ (ids : List ManifestId). has_manifest id ids ≡ true) (pending_same t entry past other) h)
    ])

pub number_is : (n : ℕ) (o : Option ℕ) → is_number n o ≡ true → o ≡ Some n
number_is n None e = absurd (false≢true e)
number_is n (Some m) e = ap Some (sym (eqb-true _ _ e))

begun_listed : (t : ℕ) (past : List Entry) → has (begins t) past ≡ true → In t (sessions past)
unfolding has begins sessions
begun_listed t past begun =
    let found = any_in (λ (entry : Entry). begins t entry.point) past begun in
    in_filter_map (λ (entry : Entry). session_begun entry.point) found.0 t past found.1 (number_is t (session_begun found.0.point) found.2)

pub champion_from : (rules : Rules) (t : ℕ) (id : ManifestId) (past : List Entry) → is_legal rules past ≡ true → has_manifest id (pending_champions t past) ≡ true → is_champion id past ≡ true
unfolding is_champion
champion_from rules t id past legal h =
    in_any (λ session. has_manifest id (pending_champions session past)) t (sessions past) (begun_listed t past (pending_begun rules t id past legal h)) h

-- what becomes a champion stood at a hook
champion_before : (rules : Rules) (id : ManifestId) (entry : Entry) (past : List Entry) → IsStep rules entry past → is_champion id (entry ∷ past) ≡ true → (is_champion id past ≡ true) ⊎ StandsSomewhere id past
unfolding is_champion
champion_before rules id entry past now h =
    let found = any_in (λ session. has_manifest id (pending_champions session (entry ∷ past))) (sessions (entry ∷ past)) h in
    let t = found.0 in
    elim (cases_Bool (settles t entry.point)) [
      | inl here ↦ inr (chosen_somewhere rules past entry.author id entry.point now.allowed (subst (λ (ids : List ManifestId). has_manifest id ids ≡ true) (pending_one t entry past here) found.2))
      | inr other ↦ inl (champion_from rules t id past now.legal (subst (λ (ids : List ManifestId). has_manifest id ids ≡ true) (pending_same t entry past other) found.2))
    ]

-- ---- streams that are read

pub sight_retained : (rules : Rules) (past : List Entry) (author : ℕ) (seen : Seen) (point : Point) → is_allowed rules past author point ≡ true → reading_begun point ≡ Some seen → is_retained seen.session past ≡ true
unfolding reading_begun
sight_retained rules past author seen (Look name None) allowed e = absurd (cc)
sight_retained rules past author seen (Look name (Some other)) allowed e =
    let same : other ≡ seen = cc in
    let kept = (retained_is name other.session past (look_says rules past author name other allowed)).1 in
    subst (λ (at : Seen). is_retained at.session past ≡ true) same kept
sight_retained rules past author seen _ allowed e = absurd (cc)

looks_at : (seen : Seen) (point : Point) → reading_begun point ≡ Some seen → looks seen.reader point ≡ true
unfolding looks
looks_at seen point e = ap (λ (o : Option Seen). is_number seen.reader (option_map (λ (at : Seen). at.reader) o)) e ∙ eq-eqb seen.reader seen.reader refl

reading_before : (seen : Seen) (began entry : Entry) (past : List Entry) → In began past → reading_begun began.point ≡ Some seen → is_reading seen.reader (entry ∷ past) ≡ true → is_reading seen.reader past ≡ true
unfolding is_reading
reading_before seen began entry past h e reads =
    let parts = and_parts _ _ reads in
    let unended = (has_parts (ends seen.reader) entry past (not-true _ parts.1)).1 in
    and_from (has (looks seen.reader) past) (not (has (ends seen.reader) past)) (has_from (looks seen.reader) began past h (looks_at seen began.point e)) (not_from_false _ unended)

-- what is read now was read before, or has the stream that a Look found
read_before : (rules : Rules) (s : ℕ) (entry : Entry) (past : List Entry) → IsStep rules entry past → is_being_read s (entry ∷ past) ≡ true → (is_being_read s past ≡ true) ⊎ (is_retained s past ≡ true)
unfolding is_being_read readings
read_before rules s entry past now h =
    let found = any_in (λ (seen : Seen). eqb seen.session s && is_reading seen.reader (entry ∷ past)) (readings (entry ∷ past)) h in
    let seen = found.0 in
    let parts = and_parts _ _ found.2 in
    let same : seen.session ≡ s = eqb-true _ _ parts.0 in
    let from = filter_map_in (λ (e : Entry). reading_begun e.point) seen (entry ∷ past) found.1 in
    elim from.1 [
      | inl here ↦ inr (subst (λ n. is_retained n past ≡ true) same (sight_retained rules past entry.author seen entry.point now.allowed (ap (λ (e : Entry). reading_begun e.point) here ∙ from.2)))
      | inr older ↦ inl (in_any (λ (other : Seen). eqb other.session s && is_reading other.reader past) seen (readings past)
          (in_filter_map (λ (e : Entry). reading_begun e.point) from.0 seen past older from.2)
          (and_from (eqb seen.session s) (is_reading seen.reader past) parts.0 (reading_before seen from.0 entry past older from.2 parts.1)))
    ]

-- ---- live manifests

live_from : (id : ManifestId) (past : List Entry) → has (commits_manifest id) past ≡ true → (is_unfinished id.session past || (is_retained id.session past || is_pinned id past)) ≡ true → is_live id past ≡ true
unfolding is_live
live_from id past committed cause = and_from (has (commits_manifest id) past) (is_unfinished id.session past || (is_retained id.session past || is_pinned id past)) committed cause

live_retained : (id : ManifestId) (past : List Entry) → has (commits_manifest id) past ≡ true → is_retained id.session past ≡ true → is_live id past ≡ true
live_retained id past committed kept = live_from id past committed
    (or_right (is_unfinished id.session past) (is_retained id.session past || is_pinned id past) (or_left (is_retained id.session past) (is_pinned id past) kept))

live_pinned : (id : ManifestId) (past : List Entry) → has (commits_manifest id) past ≡ true → is_pinned id past ≡ true → is_live id past ≡ true
live_pinned id past committed pinned = live_from id past committed
    (or_right (is_unfinished id.session past) (is_retained id.session past || is_pinned id past) (or_right (is_retained id.session past) (is_pinned id past) pinned))

live_unfinished : (id : ManifestId) (past : List Entry) → has (commits_manifest id) past ≡ true → is_unfinished id.session past ≡ true → is_live id past ≡ true
live_unfinished id past committed open_now = live_from id past committed
    (or_left (is_unfinished id.session past) (is_retained id.session past || is_pinned id past) open_now)

champion_pinned : (id : ManifestId) (past : List Entry) → is_champion id past ≡ true → is_pinned id past ≡ true
unfolding is_pinned
champion_pinned id past champion = or_left (is_champion id past) (is_being_read id.session past) champion

read_pinned : (id : ManifestId) (past : List Entry) → is_being_read id.session past ≡ true → is_pinned id past ≡ true
unfolding is_pinned
read_pinned id past read = or_right (is_champion id past) (is_being_read id.session past) read

-- what stands at a hook and is closed is retained
pub stands_retained : (rules : Rules) (id : ManifestId) (past : List Entry) → is_legal rules past ≡ true → has (closes id.session) past ≡ true → StandsSomewhere id past → is_retained id.session past ≡ true
stands_retained rules id past legal closed at =
    let may = what_stands rules at.bound at.hook past legal at.stands at.listed in
    let unaborted = subst (λ (m : ManifestId). has (aborts m.session) past ≡ false) (sym at.same) may.unaborted in
    let undeleted = subst (λ (m : ManifestId). has (deletes m.session) past ≡ false) (sym at.same) may.undeleted in
    elim (closed_cases id.session past closed) [
      | inl finished ↦ retained_from id.session past finished undeleted
      | inr aborted ↦ absurd (both_ways _ unaborted aborted)
    ]

retained_before : (rules : Rules) (s : ℕ) (entry : Entry) (past : List Entry) → IsStep rules entry past → has (closes s) past ≡ true → is_retained s (entry ∷ past) ≡ true → is_retained s past ≡ true
retained_before rules s entry past now closed kept =
    let parts = retained_parts _ _ kept in
    elim (has_cases (finishes s) entry past parts.0) [
      | inl here ↦ absurd (both_ways _ (closed_not_unfinished s past closed) (finishes_open rules past entry.author s entry.point now.allowed here))
      | inr older ↦ retained_from s past older (has_parts (deletes s) entry past parts.1).1
    ]

pinned_before : (rules : Rules) (id : ManifestId) (entry : Entry) (past : List Entry) → IsStep rules entry past → has (closes id.session) past ≡ true → is_pinned id (entry ∷ past) ≡ true → (is_pinned id past ≡ true) ⊎ (is_retained id.session past ≡ true)
unfolding is_pinned
pinned_before rules id entry past now closed pinned = elim (or_cases _ _ pinned) [
  | inl champion ↦ elim (champion_before rules id entry past now champion) [
    | inl older ↦ inl (champion_pinned id past older)
    | inr at ↦ inr (stands_retained rules id past now.legal closed at)
  ]
  | inr read ↦ elim (read_before rules id.session entry past now read) [
    | inl older ↦ inl (read_pinned id past older)
    | inr kept ↦ inr kept
  ]
]

committed_before : (rules : Rules) (id : ManifestId) (entry : Entry) (past : List Entry) → IsStep rules entry past → has (closes id.session) past ≡ true → has (commits_manifest id) (entry ∷ past) ≡ true → has (commits_manifest id) past ≡ true
committed_before rules id entry past now closed committed = elim (has_cases (commits_manifest id) entry past committed) [
  | inl here ↦ absurd (both_ways _ (closed_not_unfinished id.session past closed) (commits_next rules past entry.author id entry.point now.allowed here).0)
  | inr older ↦ older
]

-- a live manifest of a session that was closed before was live before
live_before : (rules : Rules) (id : ManifestId) (entry : Entry) (past : List Entry) → IsStep rules entry past → has (closes id.session) past ≡ true → is_live id (entry ∷ past) ≡ true → is_live id past ≡ true
unfolding is_live
live_before rules id entry past now closed live =
    let new = entry ∷ past in
    let parts = and_parts _ _ live in
    let committed = committed_before rules id entry past now closed parts.0 in
    elim (or_cases _ _ parts.1) [
      | inl open_now ↦ absurd (both_ways _ (closed_not_unfinished id.session new (has_older (closes id.session) entry past closed)) open_now)
      | inr cause ↦ elim (or_cases _ _ cause) [
        | inl kept ↦ live_retained id past committed (retained_before rules id.session entry past now closed kept)
        | inr pinned ↦ elim (pinned_before rules id entry past now closed pinned) [
          | inl older ↦ live_pinned id past committed older
          | inr kept ↦ live_retained id past committed kept
        ]
      ]
    ]

-- a manifest that was committed before, and is live, was live before
committed_live_before : (rules : Rules) (id : ManifestId) (entry : Entry) (past : List Entry) → IsStep rules entry past → has (commits_manifest id) past ≡ true → is_live id (entry ∷ past) ≡ true → is_live id past ≡ true
committed_live_before rules id entry past now committed live = elim (cases_Bool (has (closes id.session) past)) [
  | inl closed ↦ live_before rules id entry past now closed live
  | inr still_open ↦ live_unfinished id past committed (unfinished_from id.session past (committed_begun rules id past now.legal committed) still_open)
]

-- ---- needed containers

needed_from : (id : ContainerId) (past : List Entry) → has (uses_live id past) past ≡ true → is_needed id past ≡ true
unfolding is_needed
needed_from id past used = or_right (is_unfinished id.session past) (has (uses_live id past) past) used

-- a commit of a live manifest with chunks in the container
pub record IsLiveUse (id : ContainerId) (past : List Entry) (point : Point) : Type 0 where
  pub manifest : ManifestId
  pub commits : commits_manifest manifest point ≡ true
  pub uses : lists_use manifest id point ≡ true
  pub live : is_live manifest past ≡ true

live_use : (id : ContainerId) (past : List Entry) (point : Point) → uses_live id past point ≡ true → IsLiveUse id past point
unfolding uses_live commits_manifest lists_use
live_use id past (Commit manifest content text chunks bytes fresh fresh_bytes uses) e =
    let parts = and_parts _ _ e in
    record {
      manifest = manifest;
      commits = same_manifest-self manifest;
      uses = and_from (same_manifest manifest manifest) (has_container id uses) (same_manifest-self manifest) parts.0;
      live = parts.1;
    }
live_use id past _ e = absurd (false≢true e)

uses_live_from : (id : ContainerId) (past : List Entry) (manifest : ManifestId) (point : Point) → lists_use manifest id point ≡ true → is_live manifest past ≡ true → uses_live id past point ≡ true
unfolding uses_live lists_use
uses_live_from id past manifest (Commit other content text chunks bytes fresh fresh_bytes uses) e live =
    let parts = and_parts _ _ e in
    let same : manifest ≡ other = same_manifest-true _ _ parts.0 in
    and_from (has_container id uses) (is_live other past) parts.1 (subst (λ (m : ManifestId). is_live m past ≡ true) same live)
uses_live_from id past manifest _ e live = absurd (false≢true e)

lists_commits : (id : ContainerId) (manifest : ManifestId) (point : Point) → lists_use manifest id point ≡ true → commits_manifest manifest point ≡ true
unfolding lists_use commits_manifest
lists_commits id manifest (Commit other content text chunks bytes fresh fresh_bytes uses) e = (and_parts _ _ e).0
lists_commits id manifest _ e = absurd (false≢true e)

-- a use of a pending champion is needed
champion_use : (rules : Rules) (t : ℕ) (id : ContainerId) (past : List Entry) → is_legal rules past ≡ true → is_use_of_any (pending_champions t past) past id ≡ true → is_needed id past ≡ true
unfolding is_use_of_any has
champion_use rules t id past legal used =
    let champion = any_in (λ manifest. has (lists_use manifest id) past) (pending_champions t past) used in
    let at = any_in (λ (entry : Entry). lists_use champion.0 id entry.point) past champion.2 in
    let committed = has_from (commits_manifest champion.0) at.0 past at.1 (lists_commits id champion.0 at.0.point at.2) in
    let chosen = champion_from rules t champion.0 past legal (manifest_listed champion.0 (pending_champions t past) champion.1) in
    let live = live_pinned champion.0 past committed (champion_pinned champion.0 past chosen) in
    needed_from id past (has_from (uses_live id past) at.0 past at.1 (uses_live_from id past champion.0 at.0.point at.2 live))

-- what a commit may use is its session's own, or is needed already
use_cases : (rules : Rules) (s : ℕ) (id : ContainerId) (uses : List ContainerId) (past : List Entry) → is_legal rules past ≡ true → are_uses s past uses ≡ true → has_container id uses ≡ true → (id.session ≡ s) ⊎ (is_needed id past ≡ true)
unfolding are_uses has_container is_use
use_cases rules s id uses past legal may used =
    let all = (and_parts _ _ (and_parts _ _ may).1).1 in
    let found = any_in (same_container id) uses used in
    let here = all_in (is_use s (pending_champions s past) past) found.0 uses found.1 all in
    let same : id ≡ found.0 = same_container-true id found.0 found.2 in
    elim (or_cases _ _ here) [
      | inl own ↦ inl (ap (λ (c : ContainerId). c.session) same ∙ eqb-true _ _ (and_parts _ _ own).0)
      | inr lent ↦ inr (subst (λ (c : ContainerId). is_needed c past ≡ true) (sym same) (champion_use rules s found.0 past legal lent))
    ]

-- a commit uses no container of a closed session that was not needed
used_before : (rules : Rules) (past : List Entry) (author : ℕ) (id : ContainerId) (manifest : ManifestId) (point : Point) → is_legal rules past ≡ true → is_allowed rules past author point ≡ true → has (closes id.session) past ≡ true → lists_use manifest id point ≡ true → is_needed id past ≡ true
unfolding lists_use
used_before rules past author id manifest (Commit other content text chunks bytes fresh fresh_bytes uses) legal allowed closed e =
    let said = commit_says rules past author other content text chunks bytes fresh fresh_bytes uses allowed in
    elim (use_cases rules other.session id uses past legal said.may_use (and_parts _ _ e).1) [
      | inl own ↦ absurd (both_ways _ (closed_not_unfinished id.session past closed) (subst (λ n. is_unfinished n past ≡ true) (sym own) said.unfinished))
      | inr needed ↦ needed
    ]
used_before rules past author id manifest _ legal allowed closed e = absurd (false≢true e)

-- a needed container of a session that was closed before was needed before
needed_before : (rules : Rules) (id : ContainerId) (entry : Entry) (past : List Entry) → IsStep rules entry past → has (closes id.session) past ≡ true → is_needed id (entry ∷ past) ≡ true → is_needed id past ≡ true
unfolding is_needed has
needed_before rules id entry past now closed needed =
    let new = entry ∷ past in
    elim (or_cases _ _ needed) [
      | inl open_now ↦ absurd (both_ways _ (closed_not_unfinished id.session new (has_older (closes id.session) entry past closed)) open_now)
      | inr used ↦
          let at = any_in (λ (e : Entry). uses_live id new e.point) new used in
          let listed = live_use id new at.0.point at.2 in
          elim at.1 [
            | inl here ↦ used_before rules past entry.author id listed.manifest entry.point now.legal now.allowed closed (ap (λ (e : Entry). lists_use listed.manifest id e.point) here ∙ listed.uses)
            | inr older ↦
                let committed = has_from (commits_manifest listed.manifest) at.0 past older listed.commits in
                let live = committed_live_before rules listed.manifest entry past now committed listed.live in
                needed_from id past (has_from (uses_live id past) at.0 past older (uses_live_from id past listed.manifest at.0.point listed.uses live))
          ]
    ]

-- ---- never again

pub closed_still : (s : ℕ) (newer older : List Entry) → has (closes s) older ≡ true → has (closes s) (newer ++ older) ≡ true
closed_still s [] older closed = closed
closed_still s (entry ∷ newer) older closed = has_older (closes s) entry (newer ++ older) (closed_still s newer older closed)

pub never_live : (rules : Rules) (newer older : List Entry) (id : ManifestId) → is_legal rules (newer ++ older) ≡ true → is_closed id.session older ≡ true → is_live id older ≡ false → is_live id (newer ++ older) ≡ false
unfolding is_closed
never_live rules [] older id legal closed dead = dead
never_live rules (entry ∷ newer) older id legal closed dead =
    let now = step rules entry (newer ++ older) legal in
    false_from_ne_true _ (λ live.
    both_ways _ (never_live rules newer older id now.legal closed dead) (live_before rules id entry (newer ++ older) now (closed_still id.session newer older closed) live))

pub never_needed : (rules : Rules) (newer older : List Entry) (id : ContainerId) → is_legal rules (newer ++ older) ≡ true → is_closed id.session older ≡ true → is_needed id older ≡ false → is_needed id (newer ++ older) ≡ false
unfolding is_closed
never_needed rules [] older id legal closed dead = dead
never_needed rules (entry ∷ newer) older id legal closed dead =
    let now = step rules entry (newer ++ older) legal in
    false_from_ne_true _ (λ needed.
    both_ways _ (never_needed rules newer older id now.legal closed dead) (needed_before rules id entry (newer ++ older) now (closed_still id.session newer older closed) needed))
