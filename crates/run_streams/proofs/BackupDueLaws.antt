-- The answers of a backup, where nothing keeps it off.
use Rattle.std.proofs.Common.{◌≡◌, ℕ, zero, suc, ◌-◌, ◌<◌, ◌≤◌, Bool, true, false, leb, cond, ◌⊎◌, List, [], ◌∷◌, ◌++◌, length, take, drop, Option, None, Some, refl, sym, ap, subst, inl, inr, arith, length-append}
use Rattle.segment_store.specs.Loads.{Entries}
use Rattle.std.specs.Prelude.{IfSome, MatchOption, unwrap_or, Result, Ok, Err}
use Rattle.std.specs.FinMap.{contains_key}
use Rattle.std.specs.Io.KnownBytes.{Consumes}
use Rattle.std.proofs.lemmas.Bool.{cases_Bool, both_ways, or_right, eq-eqb, leb-true, leb-false}
use Rattle.std.proofs.lemmas.List.{length-take, length-map}
use Rattle.ss_base.specs.Parts.{parts_within, parts}
use Rattle.ss_base.specs.Search.{least, NonePasses, IsLeast}
use Rattle.ss_base.specs.declared.profile.Numbers.{Numbers}
use Rattle.ss_base.specs.Profile.{numbers_of, AreSound}
use Rattle.ss_base.proofs.MemberLaws.{In, in_append_left, in_append_right}
use Rattle.ss_base.proofs.SearchLaws.{least-is}
use Rattle.ss_base.proofs.SoundLaws.{AreSound-numbers_of}
use Rattle.chunk_name.specs.Pieces.{piece, pieces}
use Rattle.segmenter.specs.Segments.{ends_at, first_count, segments}
use Rattle.hook_sampler.proofs.HooksLaws.{length-hooks}
use Rattle.segment_plan.proofs.LieLaws.{places-count}
use Rattle.segment_plan.proofs.UseLaws.{uses-count}
use Rattle.segment_plan.specs.Planned.{located}
use Rattle.segment_reader.specs.SegmentsOf.{segments_of}
use Rattle.segment_reader.specs.WorkState.{WorkState}
use Rattle.segment_reader.specs.Cause.{EndsFor, EndsAbove}
use Rattle.segment_reader.specs.declared.fault.NextFault.{NextFault}
use Rattle.segment_reader.specs.declared.fault.NextFault.TheVariants as next
use Rattle.outside.specs.Shelf.{Objects, bytes_of, left_of}
use Rattle.outside.specs.Views.{ShelfView, SourceView}
use Rattle.outside.specs.declared.trouble.Trouble.{Trouble}
use Rattle.outside.specs.declared.trouble.Trouble.TheVariants as trouble
use Rattle.journal_entry.specs.declared.entry.Point.TheVariants as point
use Rattle.journal_entry.specs.Weight.{point_weight}
use Rattle.history.specs.Sessions.{is_held}
use Rattle.history.specs.Legal.{reply_to_begin}
use Rattle.history_calls.specs.Tokens.{IdleView, OpenView, ChosenView}
use Rattle.history_calls.specs.SessionSteps.{HasNotChosen, HasNotCommitted, HasAborted, HasAbortedChosen}
use Rattle.store_core.specs.declared.fault.BeginFault.{BeginFault}
use Rattle.store_core.specs.declared.fault.BeginFault.TheVariants as begin
use Rattle.store_core.specs.declared.fault.PointFault.{PointFault}
use Rattle.store_core.specs.declared.fault.PointFault.TheVariants as add
use Rattle.store_core.specs.declared.values.Choice.{Choice}
use Rattle.store_core.specs.declared.values.Stored.{Stored}
use Rattle.store_core.specs.View.{StateView, past_of, made, Adds}
use Rattle.store_core.specs.Answers.{BeginAnswer, ChooseAnswer, CommitAnswer, choice_entry, commit_entry}
use Rattle.depot.specs.declared.fault.LoadFault.{LoadFault}
use Rattle.depot.specs.declared.fault.LoadFault.TheVariants as load
use Rattle.depot.specs.declared.fault.BackupFault.{BackupFault}
use Rattle.depot.specs.declared.fault.BackupFault.TheVariants as backup
use Rattle.session.specs.Backup.{input_view, HasNotStarted, BackupAnswer}
use Rattle.session.specs.Backup.HasNotStarted.{unasked, absent, unbegun}
use Rattle.session.specs.Backup.HasNotBackedUp.{not_started, given_up}
use Rattle.session.specs.Causes.{of_input, of_depot, of_begin, of_point, of_next, of_load}
use Rattle.session.specs.Runs.{HasFailedStream}
use Rattle.session.specs.Runs.HasStoppedStream.{reading, storing}
use Rattle.session.specs.Runs.HasFailedStream.{unread, stopped}
use Rattle.session.specs.Split.{most_bytes, HasSplit}
use Rattle.session.specs.Stops.{NotStoredFor, HasGivenUpChosen, HasGivenUp}
use Rattle.session.specs.Stops.NotStoredFor.{not_tried, not_loaded, not_stored}
use Rattle.session.specs.Stops.HasGivenUpChosen.{unstored, uncommitted}
use Rattle.session.specs.Stops.HasGivenUp.{unsampled, unchosen, behind}
use Rattle.session.specs.Stores.{Reached, hooks_for, Progress}
use Rattle.backed_up_streams.proofs.AloneLaws.{alone, at_seen}
use Rattle.job_script.specs.declared.job.JobKind.TheVariants.{Backup}
use Rattle.report.specs.declared.answer.JobAnswer.TheVariants as job
use Rattle.job_run.specs.Jobs.{answer_of}
use Rattle.run_streams.specs.Answered.{IsNoFault, IsNearlyFull, IsDue}
use Rattle.run_streams.proofs.FullLaws.{IsClosed, begin_full, given_up_full}

-- ---- a segment has few chunks

part_of : {A : Type 0} (count : ℕ) (first : List A → ℕ) (xs part : List A) → In part (parts_within count first xs) → (ys : List A) × (part ≡ take (first ys) ys)
unfolding parts_within
part_of zero first xs part there = absurd there
part_of (suc count) first [] part there = absurd there
part_of (suc count) first (x ∷ xs) part there = elim there [
  | inl same ↦ (x ∷ xs, sym same)
  | inr later ↦ part_of count first (drop (first (x ∷ xs)) (x ∷ xs)) part later
]

either : (a b : ℕ) → (a ≤ b) ⊎ (b < a)
either a b = elim (cases_Bool (leb a b)) [ inl below ↦ inl (leb-true a b below) | inr above ↦ inr (leb-false a b above) ]

few_taken : (most : ℕ) (test : ℕ → Bool) (chunks : List (List ℕ)) (found : Option ℕ) → 1 ≤ most → test most ≡ true → MatchOption found (NonePasses test 1 (length chunks)) (IsLeast test 1 (length chunks)) → length (take (unwrap_or found (length chunks)) chunks) ≤ most
few_taken most test chunks None some ends_there none =
    let taken = length-take (length chunks) chunks in
    elim (either (length chunks) most) [
      | inl below ↦ omega (arith, taken, below)
      | inr above ↦ absurd (both_ways _ (none.none most some (omega (arith, above))) ends_there)
    ]
few_taken most test chunks (Some k) some ends_there first =
    let taken = length-take k chunks in
    elim (either k most) [
      | inl below ↦ omega (arith, taken, below)
      | inr above ↦ absurd (both_ways _ (first.before most some above) ends_there)
    ]

few_chunks : (n : Numbers) (bytes : List ℕ) (segment : List (List ℕ)) → AreSound n → In segment (segments_of n bytes) → length segment ≤ 4096
unfolding segments_of segments parts first_count
few_chunks n bytes segment sound there =
    let (ys, is) = part_of _ (first_count n) _ segment there in
    let least_chunks = sound.segment in
    let more_chunks = sound.segments in
    let most = sound.pieces in
    let few = few_taken n.smax (ends_at n ys) ys (least (ends_at n ys) 1 (length ys)) (omega (arith, least_chunks, more_chunks)) (or_right _ _ (eq-eqb n.smax n.smax refl)) (least-is (ends_at n ys) 1 (length ys)) in
    let same = ap length is in
    omega (arith, few, same, most)

-- ---- what a refusal says

module _ (old : StateView) (author : ℕ) (input asked : List ℕ) (files : Objects) (shelf : ShelfView) (told : shelf.held ≡ Some files) (after : IdleView) (closed : IsClosed after.seen) where
  abbrev before : IdleView
  before = record { author = author; seen = old }

  abbrev pub Says : BackupFault → Type 0
  Says backup.Taken = is_held asked (past_of old) ≡ true
  Says backup.NoInput = contains_key files input ≡ false
  Says backup.TooLong = most_bytes < length (bytes_of files input)
  Says backup.Full = IsNearlyFull after.seen
  Says _ = Unit {0}

  -- no session began

  held_if : (held : Bool) (n : ℕ) → cond held None (Some n) ≡ None → held ≡ true
  held_if true n is = refl
  held_if false n is = absurd (cc)

  held_is : reply_to_begin asked (past_of old) ≡ None → is_held asked (past_of old) ≡ true
  unfolding reply_to_begin
  held_is none = held_if (is_held asked (past_of old)) _ none

  by_begin : (cause : BeginFault) → BeginAnswer old after.seen author asked (Err cause) → Says (of_begin cause)
  by_begin begin.Taken is = held_is is.0
  by_begin begin.Full is = begin_full old after.seen author asked closed is
  by_begin begin.Memory is = tt

  by_input : (why : Trouble) → Says (of_input why)
  by_input trouble.Fault = tt
  by_input trouble.Memory = tt

  not_begun : (fault : BackupFault) → HasNotStarted alone 8 8 shelf input asked before after fault → Says fault
  not_begun fault (unasked why is same) = subst Says (sym is) (by_input why)
  not_begun fault (absent is there same) = subst Says (sym is) (sym (subst (λ held. IfSome held (λ (objects : Objects). false ≡ contains_key objects input)) told there))
  not_begun fault (unbegun cause is there has) =
      subst Says (sym is) (by_begin cause (at_seen 8 8 author old (λ turn. BeginAnswer turn after.seen author asked (Err cause)) has.at_turn))

  -- the stream is too long

  over_long : (bytes got rest : List ℕ) (taken : ℕ) (left last : Option (List ℕ)) → Consumes (Some bytes) left got → Consumes left last rest → taken ≡ length got → most_bytes - taken < length rest → most_bytes < length bytes
  over_long bytes got rest taken None last first second count over = absurd first
  over_long bytes got rest taken (Some left) None first second count over = absurd second
  over_long bytes got rest taken (Some left) (Some last) first second count over =
      let whole = ap length first in
      let parts_are = length-append got left in
      let behind_it = ap length second in
      let behind_parts = length-append rest last in
      omega (arith, whole, parts_are, behind_it, behind_parts, count, over)

  by_next : (cause : NextFault) → (cause ≡ next.TooLong → most_bytes < length (bytes_of files input)) → Says (of_next cause)
  by_next next.Fault long = tt
  by_next next.TooLong long = long refl
  by_next next.Memory long = tt

  too_long : (n : Numbers) (middle last : SourceView) (work : WorkState) (segments_got : List (List (List ℕ))) → HasSplit n (input_view shelf input) middle work segments_got → EndsAbove n (most_bytes - work.taken) work.bytes middle last → most_bytes < length (bytes_of files input)
  too_long n middle last work segments_got split above =
      over_long (bytes_of files input) split.got (above.got ++ above.piece) work.taken middle.left last.left
      (subst (λ held. Consumes (left_of held input 0) middle.left split.got) told split.gives) above.reads.gives split.taken above.over

  -- an entry of the session had no room

  by_load : (cause : LoadFault) → Says (of_load cause)
  by_load load.Shelf = tt
  by_load (load.Damaged want got) = tt
  by_load (load.Unlike text) = tt
  by_load load.Memory = tt

  by_depot : (why : Trouble) → Says (of_depot why)
  by_depot trouble.Fault = tt
  by_depot trouble.Memory = tt

  not_stored_says : (chunks : List (List ℕ)) (choice : Choice) (room : ℕ) (from to : Progress) (fault : BackupFault) → NotStoredFor chunks choice room from to fault → Says fault
  not_stored_says chunks choice room from to fault (not_tried is same) = subst Says (sym is) tt
  not_stored_says chunks choice room from to fault (not_loaded cause is same stops) = subst Says (sym is) (by_load cause)
  not_stored_says chunks choice room from to fault (not_stored manifests why is loaded caches failed) = subst Says (sym is) (by_depot why)

  module _ (chunks : List (List ℕ)) (few : length chunks ≤ 4096) where
    few_pieces : length (pieces chunks) ≤ 4096
    few_pieces = let same = length-map chunks piece in omega (arith, few, same)

    by_choose : (caller back : OpenView) (containers texts : ℕ) (cause : PointFault) → HasNotChosen alone 8 8 caller (hooks_for caller chunks) back cause → HasAborted alone 8 8 back containers texts after → Says (of_point cause)
    unfolding point_weight
    by_choose caller back containers texts add.Full refused ends_it =
        let full = at_seen 8 8 caller.author caller.seen (λ turn. ChooseAnswer 8 8 turn back.seen caller.author caller.session (hooks_for caller chunks) (Err add.Full)) refused.at_turn in
        let adds = at_seen 8 8 back.author back.seen (λ turn. Adds turn after.seen (made back.author (point.Abort back.session containers texts))) ends_it.at_turn in
        let light = length-hooks (numbers_of caller.seen.profile).bits (pieces chunks) in
        given_up_full caller.seen back.seen after.seen caller.author (choice_entry 8 8 caller.seen caller.author caller.session (hooks_for caller chunks)).point back.author back.session containers texts closed tt (omega (arith, light, few_pieces)) full adds
    by_choose caller back containers texts add.Memory refused ends_it = tt

    by_commit : (chosen back : ChosenView) (stored : Stored) (containers texts : ℕ) (cause : PointFault) → length stored.uses.items ≤ 4096 → HasNotCommitted alone 8 8 chosen stored back cause → HasAbortedChosen alone 8 8 back containers texts after → Says (of_point cause)
    unfolding point_weight
    by_commit chosen back stored containers texts add.Full light refused ends_it =
        let full = at_seen 8 8 chosen.author chosen.seen (λ turn. CommitAnswer turn back.seen chosen.author chosen.session stored (Err add.Full)) refused.at_turn in
        let adds = at_seen 8 8 back.author back.seen (λ turn. Adds turn after.seen (made back.author (point.Abort back.session containers texts))) ends_it.at_turn in
        given_up_full chosen.seen back.seen after.seen chosen.author (commit_entry chosen.seen chosen.author chosen.session stored).point back.author back.session containers texts closed tt light full adds
    by_commit chosen back stored containers texts add.Memory light refused ends_it = tt

    behind_choice : (room : ℕ) (chosen : ChosenView) (progress : Progress) (depot : ShelfView) (cache : Entries) (fault : BackupFault) → HasGivenUpChosen alone 8 8 chunks room chosen progress after depot cache fault → Says fault
    behind_choice room chosen progress depot cache fault (unstored last same why ends_it) = not_stored_says chunks chosen.choice room progress last fault why
    behind_choice room chosen progress depot cache fault (uncommitted last stored written back cause same is stores refused ends_it) =
        let are = stores.stored_is.stored_is.uses in
        let listed = uses-count _ stored.uses.items are in
        let placed = places-count chunks (located stores.manifests) progress.end room in
        subst Says (sym is) (by_commit chosen back stored last.end.containers last.texts cause (omega (arith, listed, placed, few_pieces)) refused ends_it)

    in_segment : (from : Reached) (depot : ShelfView) (cache : Entries) (fault : BackupFault) → HasGivenUp alone 8 8 chunks from after depot cache fault → Says fault
    in_segment from depot cache fault (unsampled is same ends_it) = subst Says (sym is) tt
    in_segment from depot cache fault (unchosen back cause is same refused ends_it) =
        subst Says (sym is) (by_choose from.caller back from.progress.end.containers from.progress.texts cause refused ends_it)
    in_segment from depot cache fault (behind chosen chooses gives) = behind_choice _ chosen from.progress depot cache fault gives

  -- the whole answer

  failed_says : (caller : OpenView) (last : SourceView) (depot depot' : ShelfView) (cache cache' : Entries) (fault : BackupFault) → HasFailedStream alone 8 8 caller (input_view shelf input) last depot cache after depot' cache' fault → Says fault
  failed_says caller last depot depot' cache cache' fault (unread is same_source same_shelf ends_it) = subst Says (sym is) tt
  failed_says caller last depot depot' cache cache' fault (stopped (reading segments_got middle work reached cause is same come ends_for ends_it)) =
      subst Says (sym is) (by_next cause (λ long. too_long (numbers_of caller.seen.profile) middle last work segments_got come.split (subst (λ (c : NextFault). EndsFor c (numbers_of caller.seen.profile) (most_bytes - work.taken) work.bytes middle last) long ends_for)))
  failed_says caller last depot depot' cache cache' fault (stopped (storing segments_got chunks work reached split stored gives)) =
      let n = numbers_of caller.seen.profile in
      let got = split.first [] (λ ended. refl) in
      let there = subst (In chunks) (sym got) (in_append_left chunks (segments_got ++ chunks ∷ []) _ (in_append_right chunks segments_got (chunks ∷ []) (inl refl))) in
      in_segment chunks (few_chunks n _ chunks (AreSound-numbers_of caller.seen.profile) there) reached depot' cache' fault gives

  pub backup_says : (depot depot' : ShelfView) (cache cache' : Entries) (fault : BackupFault) → BackupAnswer alone 8 8 shelf input asked before depot cache after depot' cache' (Err fault) → Says fault
  backup_says depot depot' cache cache' fault (not_started same has) = not_begun fault has
  backup_says depot depot' cache cache' fault (given_up started streamed) = failed_says started.caller streamed.last depot depot' cache cache' fault streamed.failed

  pub backup_due : (depot depot' : ShelfView) (cache cache' : Entries) (result : Result ℕ BackupFault) → IsNoFault result → BackupAnswer alone 8 8 shelf input asked before depot cache after depot' cache' result → IsDue old after.seen files (answer_of job.Backup result) (Backup input asked)
  backup_due depot depot' cache cache' (Ok session) fine answer = tt
  backup_due depot depot' cache cache' (Err backup.Taken) fine answer = backup_says depot depot' cache cache' backup.Taken answer
  backup_due depot depot' cache cache' (Err backup.NoInput) fine answer = backup_says depot depot' cache cache' backup.NoInput answer
  backup_due depot depot' cache cache' (Err backup.TooLong) fine answer = backup_says depot depot' cache cache' backup.TooLong answer
  backup_due depot depot' cache cache' (Err backup.Full) fine answer = backup_says depot depot' cache cache' backup.Full answer
  backup_due depot depot' cache cache' (Err backup.Memory) fine answer = tt
  backup_due depot depot' cache cache' (Err backup.InputFault) fine answer = absurd fine
  backup_due depot depot' cache cache' (Err backup.DepotFault) fine answer = absurd fine
  backup_due depot depot' cache cache' (Err (backup.Damaged want got)) fine answer = absurd fine
  backup_due depot depot' cache cache' (Err (backup.Unlike text)) fine answer = absurd fine
