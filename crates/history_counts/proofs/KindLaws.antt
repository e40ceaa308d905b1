-- What an entry of each kind asks of the counts, and what they are after it.
use Rattle.std.proofs.Common.{◌≡◌, ℕ, ◌+◌, ◌<◌, ◌^◌, Bool, true, false, ◌&&◌, ◌||◌, eqb, List, [], ◌∷◌, ◌++◌, length, reverse, slice_get, slice_set, Option, Some, None, is_some, refl, sym, ap, ◌∙◌, subst, inl, inr, arith}
use Rattle.std.specs.FinMap as map
use Rattle.std.specs.FinSet as set
use Rattle.std.specs.List.{All}
use Rattle.std.proofs.lemmas.List.Sums.{count_by-le-length}
use Rattle.ss_base.specs.Order.{object_cmp}
use Rattle.std.specs.Option.{option_map, unwrap_or}
use Rattle.std.proofs.lemmas.Bool.{false≢true, both_ways, cases_Bool, eq-eqb}
use Rattle.ss_base.specs.declared.ended.Ended.{Ended}
use Rattle.ss_base.specs.declared.ids.ManifestId.{ManifestId}
use Rattle.ss_base.specs.declared.name.Name.{Name}
use Rattle.ss_base.specs.declared.object.Object.{Object}
use Rattle.ss_base.specs.declared.object.Object.TheVariants.{Container, Manifest}
use Rattle.ss_base.specs.Ids.{has_manifest, has_object}
use Rattle.journal_entry.specs.declared.entry.Entry.{Entry}
use Rattle.journal_entry.specs.declared.entry.Seen.{Seen}
use Rattle.journal_entry.specs.declared.entry.Totals.{Totals}
use Rattle.journal_entry.specs.declared.entry.Point.{Point}
use Rattle.journal_entry.specs.declared.entry.Point.TheVariants.{Begin, Choose, Finish, Abort, Delete, Look, Done, Reclaim, Stat}
use Rattle.history.specs.declared.rules.Rules.{Rules}
use Rattle.history.specs.Sessions.{session_begun, reading_begun, chooses, commits, finishes, aborts, settles, closes, deletes, ends, has, is_retained, champions_chosen, commits_of, pending_champions}
use Rattle.history.specs.Need.{commits_manifest, ended_by, ended, all_ended, reclaims}
use Rattle.history.specs.Legal.{is_allowed, is_legal}
use Rattle.history_laws.specs.EntryNumbers.{numbers_of, manifest_of, CommitThese}
use Rattle.pins_counts.specs.Counts.{Counted, hold_number, is_gone, one_if}
use Rattle.history_counts.specs.CountsOf.{held, AreCountsOf}
use Rattle.history_counts.specs.InStep.{IsHistory, Agrees, times, HasHolds}
use Rattle.history_counts.specs.Streams.{pins_of, stream_of, commits_in}
use Rattle.ss_base.proofs.MemberLaws.{In, All-from_in, count_other}
use Rattle.history_laws.proofs.Allowed.{step, closes_open}
use Rattle.history_laws.proofs.SessionLaws.{has_same, unfinished_is}
use Rattle.history_laws.proofs.NumberLaws.{numbers_length}
use Rattle.history_laws.proofs.OnceLaws.{chosen_apart}
use Rattle.history_laws.proofs.NeedLaws.{sight_retained}
use Rattle.history_laws.proofs.EndLaws.{reading_parts}
use Rattle.history_counts.proofs.ReadingHolds.{found_reading, ends_reading}
use Rattle.history_counts.proofs.HeldLaws.{IsQuiet, held_quiet, held_begin, held_finish, held_choose, held_abort, held_delete, held_look, held_done}
use Rattle.history_counts.proofs.TimesLaws.{times_these, count_apart, pending_apart, times_stream}
use Rattle.history_counts.proofs.StepLaws.{times_first}
use Rattle.history_counts.proofs.AfterLaws.{IsMild, held_bound, legal_length, chosen_held, retained_held, within_these, within_stream, after_pins, after_releases, after_mild, after_other, after_both, HasNumbersOf, agrees_numbers}
use Rattle.history_counts.proofs.EndedLaws.{ended_other, ended_now, all_begun, all_closed, all_same, open_at}
use Rattle.history_counts.proofs.UsesLaws.{counts_agree}

-- ---- points that do little

mild_choose : (s : ℕ) (hooks : List Name) (champions : List ManifestId) → IsMild (Choose s hooks champions)
unfolding session_begun manifest_of commits closes finishes aborts reclaims
mild_choose s hooks champions = record { begun = refl; commits_none = refl; commits_for = λ t. refl; closed = λ t. refl; reclaimed = λ q. refl }

mild_delete : (name : List ℕ) (session : Option ℕ) → IsMild (Delete name session)
unfolding session_begun manifest_of commits closes finishes aborts reclaims
mild_delete name session = record { begun = refl; commits_none = refl; commits_for = λ t. refl; closed = λ t. refl; reclaimed = λ q. refl }

mild_look : (name : List ℕ) (seen : Option Seen) → IsMild (Look name seen)
unfolding session_begun manifest_of commits closes finishes aborts reclaims
mild_look name seen = record { begun = refl; commits_none = refl; commits_for = λ t. refl; closed = λ t. refl; reclaimed = λ q. refl }

mild_done : (r : ℕ) → IsMild (Done r)
unfolding session_begun manifest_of commits closes finishes aborts reclaims
mild_done r = record { begun = refl; commits_none = refl; commits_for = λ t. refl; closed = λ t. refl; reclaimed = λ q. refl }

pub mild_begin : (name : List ℕ) → IsMild (Begin name None)
unfolding session_begun manifest_of commits closes finishes aborts reclaims
mild_begin name = record { begun = refl; commits_none = refl; commits_for = λ t. refl; closed = λ t. refl; reclaimed = λ q. refl }

pub mild_stat : (totals : Totals) → IsMild (Stat totals)
unfolding session_begun manifest_of commits closes finishes aborts reclaims
mild_stat totals = record { begun = refl; commits_none = refl; commits_for = λ t. refl; closed = λ t. refl; reclaimed = λ q. refl }

quiet_delete : (name : List ℕ) → IsQuiet (Delete name None)
unfolding session_begun reading_begun settles chooses commits finishes aborts deletes ends commits_manifest
quiet_delete name = record { session = refl; reading = refl; settled = λ s. refl; finished = λ s. refl; aborted = λ s. refl; deleted = λ s. refl; ended = λ r. refl; committed = λ id. refl }

quiet_look : (name : List ℕ) → IsQuiet (Look name None)
unfolding session_begun reading_begun settles chooses commits finishes aborts deletes ends commits_manifest
quiet_look name = record { session = refl; reading = refl; settled = λ s. refl; finished = λ s. refl; aborted = λ s. refl; deleted = λ s. refl; ended = λ r. refl; committed = λ id. refl }

pub quiet_begin : (name : List ℕ) → IsQuiet (Begin name None)
unfolding session_begun reading_begun settles chooses commits finishes aborts deletes ends commits_manifest
quiet_begin name = record { session = refl; reading = refl; settled = λ s. refl; finished = λ s. refl; aborted = λ s. refl; deleted = λ s. refl; ended = λ r. refl; committed = λ id. refl }

pub quiet_stat : (totals : Totals) → IsQuiet (Stat totals)
unfolding session_begun reading_begun settles chooses commits finishes aborts deletes ends commits_manifest
quiet_stat totals = record { session = refl; reading = refl; settled = λ s. refl; finished = λ s. refl; aborted = λ s. refl; deleted = λ s. refl; ended = λ r. refl; committed = λ id. refl }

pub quiet_reclaim : (objects : List Object) → IsQuiet (Reclaim objects)
unfolding session_begun reading_begun settles chooses commits finishes aborts deletes ends commits_manifest
quiet_reclaim objects = record { session = refl; reading = refl; settled = λ s. refl; finished = λ s. refl; aborted = λ s. refl; deleted = λ s. refl; ended = λ r. refl; committed = λ id. refl }

pub at_point : (P : Point → Type 0) (p q : Point) → p ≡ q → P q → P p
at_point P p q is h = subst P (sym is) h

-- ---- manifests that are pinned

-- what pinning these asks for, and gives
pub record PinsThese (counted : Counted) (numbers : List ℕ) (entry : Entry) (before : List Entry) : Type 0 where
  pub within : All (λ n. n < length before) numbers
  pub held_all : (id : ManifestId) → 0 < times numbers (reverse before) id → 0 < hold_number counted id
  pub below : (id : ManifestId) → hold_number counted id + times numbers (reverse before) id < 2 ^ 32
  pub after : (new : Counted) → Agrees new (reverse before) → HasHolds (times numbers (reverse before)) counted new → AreCountsOf new (entry ∷ reverse before)

pins_below : (rules : Rules) (counted : Counted) (numbers : List ℕ) (entry : Entry) (past : List Entry) → is_legal rules (entry ∷ past) ≡ true → rules.limits.entries < 2 ^ 32 → AreCountsOf counted past
    → ((id : ManifestId) → held id (entry ∷ past) ≡ held id past + times numbers past id) → (id : ManifestId) → hold_number counted id + times numbers past id < 2 ^ 32
pins_below rules counted numbers entry past legal fits are law id =
    let l = law id in
    let is = are.holds_are id in
    let bound = held_bound id (entry ∷ past) in
    let few = legal_length rules entry past legal in
    omega (arith, l, is, bound, few, fits)

pub pins_choose : (rules : Rules) (counted : Counted) (numbers : List ℕ) (entry : Entry) (before : List Entry) (s : ℕ) (hooks : List Name) (champions : List ManifestId) → is_legal rules (entry ∷ reverse before) ≡ true → rules.limits.entries < 2 ^ 32
    → AreCountsOf counted (reverse before) → CommitThese numbers (pins_of entry.point (reverse before)) (reverse before) → entry.point ≡ Choose s hooks champions → PinsThese counted numbers entry before
unfolding pins_of champions_chosen
pins_choose rules counted numbers entry before s hooks champions legal fits are these is =
    let past = reverse before in
    let now = step rules entry past legal in
    let allowed : is_allowed rules past entry.author (Choose s hooks champions) ≡ true = subst (λ (p : Point). is_allowed rules past entry.author p ≡ true) is now.allowed in
    let chosen : CommitThese numbers champions past = subst (λ (p : Point). CommitThese numbers (pins_of p past) past) is these in
    let many : (id : ManifestId) → times numbers past id ≡ one_if (has_manifest id champions) = λ id. times_these id numbers champions past chosen ∙ count_apart id champions (chosen_apart rules past entry.author s hooks champions allowed) in
    let law : (id : ManifestId) → held id (entry ∷ past) ≡ held id past + times numbers past id = λ id. held_choose rules id s hooks champions entry past legal is ∙ ap (λ n. held id past + n) (sym (many id)) in
    record {
      within = within_these numbers champions before chosen;
      held_all = λ id some. elim (cases_Bool (has_manifest id champions)) [
        | inl listed ↦
            let first = chosen_held rules id entry past legal (ap (λ p. has_manifest id (unwrap_or (champions_chosen p) [])) is ∙ listed) in
            let e = are.holds_are id in
            omega (arith, first, e)
        | inr none ↦ absurd (let e = many id in let nothing = ap one_if none in omega (arith, some, e, nothing))
      ];
      below = pins_below rules counted numbers entry past legal fits are law;
      after = λ new agrees holds. after_pins counted new entry past numbers are (at_point IsMild entry.point (Choose s hooks champions) is (mild_choose s hooks champions)) law agrees holds;
    }

none_within : (numbers : List ℕ) (n : ℕ) → numbers ≡ [] → All (λ k. k < n) numbers
none_within numbers n is = All-from_in (λ k. k < n) numbers (λ k h. absurd (subst (λ (l : List ℕ). In k l) is h))

no_times : (id : ManifestId) (numbers : List ℕ) (past : List Entry) → numbers ≡ [] → times numbers past id ≡ 0
no_times id numbers past is = ap (λ l. times l past id) is ∙ times_first past id

-- the stream of a point
stream_is : (numbers : List ℕ) (past : List Entry) (p q : Point) (o : Option ℕ) → numbers ≡ commits_in (stream_of p past) past → p ≡ q → stream_of q past ≡ o → numbers ≡ commits_in o past
stream_is numbers past p q o all is stream = all ∙ ap (λ (x : Point). commits_in (stream_of x past) past) is ∙ ap (λ x. commits_in x past) stream

some_stream : (numbers : List ℕ) (s : ℕ) (past : List Entry) → numbers ≡ commits_in (Some s) past → numbers ≡ numbers_of (commits s) past
unfolding commits_in
some_stream numbers s past is = is

no_stream : (numbers : List ℕ) (past : List Entry) → numbers ≡ commits_in None past → numbers ≡ []
unfolding commits_in
no_stream numbers past is = is

stream_times : (rules : Rules) (id : ManifestId) (numbers : List ℕ) (s : ℕ) (past : List Entry) → is_legal rules past ≡ true → numbers ≡ numbers_of (commits s) past → times numbers past id ≡ one_if (has (commits_manifest id) past && eqb s id.session)
stream_times rules id numbers s past legal is = ap (λ l. times l past id) is ∙ times_stream rules id s past legal

pub pins_look : (rules : Rules) (counted : Counted) (numbers : List ℕ) (entry : Entry) (before : List Entry) (name : List ℕ) (seen : Option Seen) → is_legal rules (entry ∷ reverse before) ≡ true → rules.limits.entries < 2 ^ 32
    → AreCountsOf counted (reverse before) → numbers ≡ commits_in (stream_of entry.point (reverse before)) (reverse before) → entry.point ≡ Look name seen → PinsThese counted numbers entry before
unfolding stream_of reading_begun
pins_look rules counted numbers entry before name None legal fits are all is =
    let past = reverse before in
    let none = no_stream numbers past (stream_is numbers past entry.point (Look name None) None all is refl) in
    let law : (id : ManifestId) → held id (entry ∷ past) ≡ held id past + times numbers past id = λ id.
    (let quiet = held_quiet id entry past (at_point IsQuiet entry.point (Look name None) is (quiet_look name)) in let nothing = no_times id numbers past none in omega (arith, quiet, nothing)) in
    record {
      within = none_within numbers (length before) none;
      held_all = λ id some. absurd (let nothing = no_times id numbers past none in omega (arith, nothing, some));
      below = pins_below rules counted numbers entry past legal fits are law;
      after = λ new agrees holds. after_pins counted new entry past numbers are (at_point IsMild entry.point (Look name None) is (mild_look name None)) law agrees holds;
    }
pins_look rules counted numbers entry before name (Some seen) legal fits are all is =
    let past = reverse before in
    let now = step rules entry past legal in
    let s = seen.session in
    let stream = some_stream numbers s past (stream_is numbers past entry.point (Look name (Some seen)) (Some s) all is refl) in
    let many = λ (id : ManifestId). stream_times rules id numbers s past now.legal stream in
    let law : (id : ManifestId) → held id (entry ∷ past) ≡ held id past + times numbers past id = λ id. held_look rules id name seen entry past legal is ∙ ap (λ n. held id past + n) (sym (many id)) in
    let retained : is_retained s past ≡ true = sight_retained rules past entry.author seen entry.point now.allowed (ap reading_begun is) in
    record {
      within = within_stream numbers s before stream;
      held_all = λ id some.
          (let some_one : 0 < one_if (has (commits_manifest id) past && eqb s id.session) = (let e = many id in omega (arith, some, e)) in
          let first = retained_held id s past retained some_one in
          let e = are.holds_are id in omega (arith, first, e));
      below = pins_below rules counted numbers entry past legal fits are law;
      after = λ new agrees holds. after_pins counted new entry past numbers are (at_point IsMild entry.point (Look name (Some seen)) is (mild_look name (Some seen))) law agrees holds;
    }

-- ---- manifests that are released

-- what releasing these asks for, and gives
pub record ReleasesThese (counted : Counted) (numbers : List ℕ) (entry : Entry) (before : List Entry) : Type 0 where
  pub history : IsHistory (reverse before)
  pub within : All (λ n. n < length before) numbers
  pub above : (id : ManifestId) → times numbers (reverse before) id < hold_number counted id + 1
  pub after : (new : Counted) → Agrees new (reverse before) → HasHolds (times numbers (reverse before)) new counted → AreCountsOf new (entry ∷ reverse before)

-- where the law is known
releases : (rules : Rules) (counted : Counted) (numbers : List ℕ) (entry : Entry) (before : List Entry) → is_legal rules (entry ∷ reverse before) ≡ true → AreCountsOf counted (reverse before) → IsMild entry.point
    → All (λ n. n < length before) numbers → ((id : ManifestId) → held id (entry ∷ reverse before) + times numbers (reverse before) id ≡ held id (reverse before)) → ReleasesThese counted numbers entry before
releases rules counted numbers entry before legal are mild within law = record {
  history = (rules, (step rules entry (reverse before) legal).legal);
  within = within;
  above = λ id. (let l = law id in let is = are.holds_are id in omega (arith, l, is));
  after = λ new agrees holds. after_releases counted new entry (reverse before) numbers are mild law agrees holds;
}

pub releases_delete : (rules : Rules) (counted : Counted) (numbers : List ℕ) (entry : Entry) (before : List Entry) (name : List ℕ) (session : Option ℕ) → is_legal rules (entry ∷ reverse before) ≡ true
    → AreCountsOf counted (reverse before) → numbers ≡ commits_in (stream_of entry.point (reverse before)) (reverse before) → entry.point ≡ Delete name session → ReleasesThese counted numbers entry before
unfolding stream_of
releases_delete rules counted numbers entry before name None legal are all is =
    let past = reverse before in
    let none = no_stream numbers past (stream_is numbers past entry.point (Delete name None) None all is refl) in
    releases rules counted numbers entry before legal are (at_point IsMild entry.point (Delete name None) is (mild_delete name None)) (none_within numbers (length before) none)
    (λ id. (let quiet = held_quiet id entry past (at_point IsQuiet entry.point (Delete name None) is (quiet_delete name)) in let nothing = no_times id numbers past none in omega (arith, quiet, nothing)))
releases_delete rules counted numbers entry before name (Some s) legal are all is =
    let past = reverse before in
    let now = step rules entry past legal in
    let stream = some_stream numbers s past (stream_is numbers past entry.point (Delete name (Some s)) (Some s) all is refl) in
    releases rules counted numbers entry before legal are (at_point IsMild entry.point (Delete name (Some s)) is (mild_delete name (Some s))) (within_stream numbers s before stream)
    (λ id. (let law = held_delete rules id name s entry past legal is in let many = stream_times rules id numbers s past now.legal stream in omega (arith, law, many)))

pub releases_done : (rules : Rules) (counted : Counted) (numbers : List ℕ) (entry : Entry) (before : List Entry) (r : ℕ) → is_legal rules (entry ∷ reverse before) ≡ true
    → AreCountsOf counted (reverse before) → numbers ≡ commits_in (stream_of entry.point (reverse before)) (reverse before) → entry.point ≡ Done r → ReleasesThese counted numbers entry before
unfolding stream_of ends
releases_done rules counted numbers entry before r legal are all is =
    let past = reverse before in
    let now = step rules entry past legal in
    let going = ends_reading rules past entry.author r entry.point now.allowed (ap (ends r) is ∙ eq-eqb r r refl) in
    let found = found_reading r past (reading_parts r past going).0 in
    let s = found.0.session in
    let stream = some_stream numbers s past (stream_is numbers past entry.point (Done r) (Some s) all is (ap (option_map (λ (at : Seen). at.session)) found.1.is)) in
    releases rules counted numbers entry before legal are (at_point IsMild entry.point (Done r) is (mild_done r)) (within_stream numbers s before stream)
    (λ id. (let law = held_done rules id r found.0 entry past legal is found.1 in let many = stream_times rules id numbers s past now.legal stream in omega (arith, law, many)))

-- ---- sessions that begin and end

numbers_same : (counted new : Counted) → new.numbers ≡ counted.numbers → HasNumbersOf counted new
numbers_same counted new same = record {
  holds = λ id. ap (λ (m : map.FinMap object_cmp ℕ). unwrap_or (map.get m (Manifest id)) 0) same;
  uses = λ c. ap (λ (m : map.FinMap object_cmp ℕ). unwrap_or (map.get m (Container c)) 0) same;
  ready = λ q. ap (λ (m : map.FinMap object_cmp ℕ). map.contains_key m q) same;
}

gone_kept : (counted new : Counted) (entry : Entry) (past : List Entry) → AreCountsOf counted past → new.gone ≡ counted.gone → ((q : Object) → reclaims q entry.point ≡ false) → (q : Object) → is_gone new q ≡ has (reclaims q) (entry ∷ past)
gone_kept counted new entry past are gone other q = ap (λ (g : set.FinSet object_cmp). set.contains g q) gone ∙ are.gone_are q ∙ sym (has_same (reclaims q) entry past (other q))

pub after_begin : (rules : Rules) (counted new : Counted) (entry : Entry) (past : List Entry) (name : List ℕ) (s : ℕ) → is_legal rules (entry ∷ past) ≡ true → AreCountsOf counted past → entry.point ≡ Begin name (Some s)
    → new.numbers ≡ counted.numbers → new.gone ≡ counted.gone → new.sessions ≡ counted.sessions ++ None ∷ [] → AreCountsOf new (entry ∷ past)
unfolding session_begun commits closes finishes aborts reclaims manifest_of
after_begin rules counted new entry past name s legal are is numbers gone sessions =
    let now = step rules entry past legal in
    let same : (t : ℕ) → ended t (entry ∷ past) ≡ ended t past = λ t. ended_other t entry past (ap (closes t) is) (λ does. absurd (both_ways _ (ap (commits t) is) does)) in
    after_other counted new entry past are (counts_agree counted past are) (ap manifest_of is) (numbers_same counted new numbers) (λ id. held_begin rules id name s entry past legal is)
    (sessions ∙ ap (λ l. l ++ None ∷ []) are.sessions_are ∙ sym (all_begun rules s entry past now.legal (ap session_begun is) same))
    (gone_kept counted new entry past are gone (λ q. ap (reclaims q) is))

or_none : (b : Bool) → (b || false) ≡ b
or_none true = refl
or_none false = refl

-- what closing a session asks for
pub may_close : (rules : Rules) (counted : Counted) (entry : Entry) (past : List Entry) (s : ℕ) → is_legal rules (entry ∷ past) ≡ true → AreCountsOf counted past → closes s entry.point ≡ true → slice_get counted.sessions s ≡ Some None
may_close rules counted entry past s legal are does =
    let now = step rules entry past legal in
    let parts = unfinished_is s past (closes_open rules past entry.author s entry.point now.allowed does) in
    ap (λ l. slice_get l s) are.sessions_are ∙ open_at rules s past now.legal parts.0 parts.1

pub finish_closes : (s containers : ℕ) (entry : Entry) → entry.point ≡ Finish s containers → closes s entry.point ≡ true
unfolding closes finishes aborts
finish_closes s containers entry is = ap (closes s) is ∙ or_none (eqb s s) ∙ eq-eqb s s refl

pub abort_closes : (s containers texts : ℕ) (entry : Entry) → entry.point ≡ Abort s containers texts → closes s entry.point ≡ true
unfolding closes finishes aborts
abort_closes s containers texts entry is = ap (closes s) is ∙ eq-eqb s s refl

finish_stream : (numbers : List ℕ) (entry : Entry) (past : List Entry) (s containers : ℕ) → numbers ≡ commits_in (stream_of entry.point past) past → entry.point ≡ Finish s containers → numbers ≡ numbers_of (commits s) past
unfolding stream_of
finish_stream numbers entry past s containers all is = some_stream numbers s past (stream_is numbers past entry.point (Finish s containers) (Some s) all is refl)

-- the stream of a Finish has a length that fits
pub finish_length : (rules : Rules) (numbers : List ℕ) (entry : Entry) (past : List Entry) (s containers : ℕ) → is_legal rules (entry ∷ past) ≡ true → rules.limits.entries < 2 ^ 32 → numbers ≡ commits_in (stream_of entry.point past) past → entry.point ≡ Finish s containers → length numbers < 2 ^ 32
finish_length rules numbers entry past s containers legal fits all is =
    let e = ap length (finish_stream numbers entry past s containers all is) ∙ numbers_length (commits s) past in
    let few = count_by-le-length (λ (x : Entry). commits s x.point) past in
    let bound = legal_length rules entry past legal in
    omega (arith, e, few, bound, fits)

closed_by_finish : (s containers : ℕ) (entry : Entry) (past : List Entry) → entry.point ≡ Finish s containers → ended_by (entry ∷ past) entry.point ≡ Some (record { containers = containers; texts = commits_of s past })
unfolding ended_by commits_of commits
closed_by_finish s containers entry past is =
    ap (ended_by (entry ∷ past)) is
    ∙ (let texts = count_other (λ (e : Entry). commits s e.point) entry past (ap (commits s) is) in λ i. Some (record { containers = containers; texts = texts i }))

other_ends : (s t : ℕ) (entry : Entry) (past : List Entry) → ((n : ℕ) → closes n entry.point ≡ eqb n s) → ((n : ℕ) → commits n entry.point ≡ false) → eqb t s ≡ false → ended t (entry ∷ past) ≡ ended t past
other_ends s t entry past closed uncommitted apart = ended_other t entry past (closed t ∙ apart) (λ does. absurd (both_ways _ (uncommitted t) does))

pub after_finish : (rules : Rules) (counted new : Counted) (numbers : List ℕ) (entry : Entry) (past : List Entry) (s containers : ℕ) → is_legal rules (entry ∷ past) ≡ true → AreCountsOf counted past
    → numbers ≡ commits_in (stream_of entry.point past) past → entry.point ≡ Finish s containers → new.numbers ≡ counted.numbers → new.gone ≡ counted.gone
    → new.sessions ≡ slice_set counted.sessions s (Some (record { containers = containers; texts = length numbers })) → AreCountsOf new (entry ∷ past)
unfolding session_begun commits closes finishes aborts reclaims manifest_of commits_of
after_finish rules counted new numbers entry past s containers legal are all is kept gone sessions =
    let texts : length numbers ≡ commits_of s past = ap length (finish_stream numbers entry past s containers all is) ∙ numbers_length (commits s) past in
    let here = ended_now s entry past (finish_closes s containers entry is) ∙ closed_by_finish s containers entry past is in
    let closed : (n : ℕ) → closes n entry.point ≡ eqb n s = λ n. ap (closes n) is ∙ or_none (eqb n s) in
    let v : Option Ended = Some (record { containers = containers; texts = commits_of s past }) in
    after_other counted new entry past are (counts_agree counted past are) (ap manifest_of is) (numbers_same counted new kept) (λ id. held_finish rules id s containers entry past legal is)
    (sessions ∙ (λ i. slice_set (are.sessions_are i) s (Some (record { containers = containers; texts = texts i })))
    ∙ sym (all_closed s v entry past (ap session_begun is) here (λ t apart. other_ends s t entry past closed (λ n. ap (commits n) is) apart)))
    (gone_kept counted new entry past are gone (λ q. ap (reclaims q) is))

-- ---- an Abort

-- what releasing the champions of an aborted session, and then its manifests, asks for and gives
pub record AbortsThese (counted mid : Counted) (champions stream : List ℕ) (entry : Entry) (before : List Entry) (s containers texts : ℕ) : Type 0 where
  pub history : IsHistory (reverse before)
  pub within_champions : All (λ n. n < length before) champions
  pub within_manifests : All (λ n. n < length before) stream
  pub agrees : Agrees mid (reverse before)
  pub above : (id : ManifestId) → times champions (reverse before) id < hold_number mid id + 1
  pub above_then : (less : Counted) → HasHolds (times champions (reverse before)) less mid → (id : ManifestId) → times stream (reverse before) id < hold_number less id + 1
  pub after : (less new : Counted) → HasHolds (times champions (reverse before)) less mid → Agrees new (reverse before) → HasHolds (times stream (reverse before)) new less → AreCountsOf new (entry ∷ reverse before)

abort_stream : (numbers : List ℕ) (entry : Entry) (past : List Entry) (s containers texts : ℕ) → numbers ≡ commits_in (stream_of entry.point past) past → entry.point ≡ Abort s containers texts → numbers ≡ numbers_of (commits s) past
unfolding stream_of
abort_stream numbers entry past s containers texts all is = some_stream numbers s past (stream_is numbers past entry.point (Abort s containers texts) (Some s) all is refl)

pub aborts_these : (rules : Rules) (counted mid : Counted) (champions stream : List ℕ) (entry : Entry) (before : List Entry) (s containers texts : ℕ) → is_legal rules (entry ∷ reverse before) ≡ true → AreCountsOf counted (reverse before)
    → CommitThese champions (pins_of entry.point (reverse before)) (reverse before) → stream ≡ commits_in (stream_of entry.point (reverse before)) (reverse before) → entry.point ≡ Abort s containers texts
    → mid.numbers ≡ counted.numbers → mid.gone ≡ counted.gone → mid.sessions ≡ slice_set counted.sessions s (Some (record { containers = containers; texts = texts })) → AbortsThese counted mid champions stream entry before s containers texts
unfolding session_begun commits closes finishes aborts reclaims manifest_of pins_of ended_by
aborts_these rules counted mid champions stream entry before s containers texts legal are these all is kept gone sessions =
    let past = reverse before in
    let now = step rules entry past legal in
    let same = numbers_same counted mid kept in
    let chosen : CommitThese champions (pending_champions s past) past = subst (λ (p : Point). CommitThese champions (pins_of p past) past) is these in
    let numbers = abort_stream stream entry past s containers texts all is in
    let first : (id : ManifestId) → times champions past id ≡ one_if (has_manifest id (pending_champions s past)) = λ id. times_these id champions (pending_champions s past) past chosen ∙ count_apart id (pending_champions s past) (pending_apart rules s past now.legal) in
    let second = λ (id : ManifestId). stream_times rules id stream s past now.legal numbers in
    let law : (id : ManifestId) → held id (entry ∷ past) + (times champions past id + times stream past id) ≡ held id past = λ id.
    (let l = held_abort rules id s containers texts entry past legal is in let a = first id in let b = second id in omega (arith, l, a, b)) in
    let here = ended_now s entry past (abort_closes s containers texts entry is) ∙ ap (ended_by (entry ∷ past)) is in
    let v : Option Ended = Some (record { containers = containers; texts = texts }) in
    let closed_are : mid.sessions ≡ all_ended (entry ∷ past) = sessions ∙ ap (λ l. slice_set l s v) are.sessions_are
    ∙ sym (all_closed s v entry past (ap session_begun is) here (λ t apart. other_ends s t entry past (λ n. ap (closes n) is) (λ n. ap (commits n) is) apart)) in
    record {
      history = (rules, now.legal);
      within_champions = within_these champions (pending_champions s past) before chosen;
      within_manifests = within_stream stream s before numbers;
      agrees = agrees_numbers counted mid past same (counts_agree counted past are);
      above = λ id. (let l = law id in let a = are.holds_are id in let b = same.holds id in omega (arith, l, a, b));
      above_then = λ less holds id. (let l = law id in let a = are.holds_are id in let b = same.holds id in let h = holds.holds id in omega (arith, l, a, b, h));
      after = λ less new holds agrees last.
          after_both mid less new entry past champions stream law
          (λ id. same.holds id ∙ are.holds_are id) (ap manifest_of is) agrees holds.holds last.holds
          (sym last.sessions ∙ sym holds.sessions ∙ closed_are)
          (gone_kept counted new entry past are (sym last.gone ∙ sym holds.gone ∙ gone) (λ q. ap (reclaims q) is));
    }

-- ---- a Reclaim

pub after_reclaim : (counted new : Counted) (entry : Entry) (past : List Entry) (objects : List Object) → AreCountsOf counted past → entry.point ≡ Reclaim objects
    → new.numbers ≡ counted.numbers → new.sessions ≡ counted.sessions → ((q : Object) → is_gone new q ≡ (is_gone counted q || has_object q objects)) → AreCountsOf new (entry ∷ past)
unfolding session_begun commits closes finishes aborts reclaims manifest_of has
after_reclaim counted new entry past objects are is kept sessions gone =
    after_other counted new entry past are (counts_agree counted past are) (ap manifest_of is) (numbers_same counted new kept)
    (λ id. held_quiet id entry past (at_point IsQuiet entry.point (Reclaim objects) is (quiet_reclaim objects)))
    (sessions ∙ are.sessions_are ∙ sym (all_same entry past (ap session_begun is) (λ s. ended_other s entry past (ap (closes s) is) (λ does. absurd (both_ways _ (ap (commits s) is) does)))))
    (λ q. gone q ∙ ap (λ b. b || has_object q objects) (are.gone_are q) ∙ turned (has (reclaims q) past) (has_object q objects) ∙ ap (λ p. reclaims q p || has (reclaims q) past) (sym is))
  where
    turned : (a b : Bool) → (a || b) ≡ (b || a)
    turned true true = refl
    turned true false = refl
    turned false true = refl
    turned false false = refl

-- ---- a Begin

pub after_begun : (rules : Rules) (counted new : Counted) (entry : Entry) (past : List Entry) (name : List ℕ) (session : Option ℕ) → is_legal rules (entry ∷ past) ≡ true → AreCountsOf counted past → entry.point ≡ Begin name session → is_some session ≡ true
    → new.numbers ≡ counted.numbers → new.gone ≡ counted.gone → new.sessions ≡ counted.sessions ++ None ∷ [] → AreCountsOf new (entry ∷ past)
after_begun rules counted new entry past name None legal are is some numbers gone sessions = absurd (false≢true some)
after_begun rules counted new entry past name (Some s) legal are is some numbers gone sessions = after_begin rules counted new entry past name s legal are is numbers gone sessions

-- the name was taken
pub after_refused : (counted : Counted) (entry : Entry) (past : List Entry) (name : List ℕ) (session : Option ℕ) → AreCountsOf counted past → entry.point ≡ Begin name session → is_some session ≡ false → AreCountsOf counted (entry ∷ past)
after_refused counted entry past name None are is none = after_mild counted entry past are (at_point IsMild entry.point (Begin name None) is (mild_begin name)) (counts_agree counted past are)
    (λ id. held_quiet id entry past (at_point IsQuiet entry.point (Begin name None) is (quiet_begin name)))
after_refused counted entry past name (Some s) are is none = absurd (false≢true (sym none))
