-- A run leaves no session and no reading unfinished.
use Rattle.std.proofs.Common.{◌≡◌, ◌⊎◌, ℕ, ◌==◌, ◌+◌, ◌&&◌, not, Option, append_assoc, Bool, true, false, List, [], ◌∷◌, ◌++◌, reverse, map, None, Some, refl, sym, ap, ◌∙◌, subst, inl, inr}
use Rattle.std.specs.Prelude.{Result, Ok, Err}
use Rattle.std.proofs.lemmas.Bool.{false≢true, both_ways, and_from, and_parts, not-true, not_from_false, or_left, or_right, false_from_ne_true}
use Rattle.std.proofs.lemmas.List.{reverse-append, reverse-reverse}
use Rattle.ss_base.proofs.MemberLaws.{In, any_in, in_any, append_in, in_append_left, in_append_right, map_in, reverse_in}
use Rattle.outside.specs.Views.{SinkView}
use Rattle.journal_entry.specs.declared.entry.Entry.{Entry}
use Rattle.journal_entry.specs.declared.entry.Point.{Point}
use Rattle.journal_entry.specs.declared.entry.Point.TheVariants as point
use Rattle.history.specs.Sessions.{session_begun, begins, finishes, aborts, closes, reading_begun, looks, ends, has, is_unfinished, is_reading}
use Rattle.store_core.specs.View.{StateView, past_of, made}
use Rattle.store_core.specs.Replay.{NoneIs, has_session, has_reading}
use Rattle.store_core.specs.declared.fault.NameFault.TheVariants as name
use Rattle.depot.specs.declared.fault.BackupFault.{BackupFault}
use Rattle.depot.specs.declared.fault.BackupFault.TheVariants as backup
use Rattle.depot.specs.declared.fault.RestoreFault.{RestoreFault}
use Rattle.depot.specs.declared.fault.RestoreFault.TheVariants as restore
use Rattle.restore.specs.Copies.{Shelves}
use Rattle.report.specs.declared.answer.JobAnswer.{JobAnswer}
use Rattle.report.specs.declared.answer.JobAnswer.TheVariants as job
use Rattle.report.specs.declared.answer.ReclaimFault.TheVariants as reclaim
use Rattle.job_script.specs.declared.job.JobKind.{JobKind}
use Rattle.job_script.specs.declared.job.JobKind.TheVariants.{Backup, Restore, Delete, Reclaim, Stat}
use Rattle.job_entries.specs.Pairs.{HasPairs}
use Rattle.job_entries.specs.Pairs.HasPairs.{none as no_pair, pair}
use Rattle.job_entries.specs.BackupPoints.{BackupPoints, IsFinished, IsGivenUp, IsChoice}
use Rattle.job_entries.specs.BackupPoints.IsChoice.{none as no_choice, one as one_choice}
use Rattle.job_entries.specs.RestorePoints.{RestorePoints, IsRead}
use Rattle.store_run.specs.JobCalls.{JobCalls, DeleteCalls, StatCalls, FullReclaims, EndsReclaims, ReclaimCalls}
use Rattle.store_run.specs.JobRun.{HasDoneJob}
use Rattle.store_run.specs.Opening.{Reading, FollowsFrom}

-- ---- what was opened

opened_closed : (reading : Reading) (store : StateView) → FollowsFrom reading (Ok store) → NoneIs (has_session store) × NoneIs (has_reading store)
opened_closed (Ok found) store is =
    (subst (λ (s : StateView). NoneIs (has_session s)) (sym is.0) is.2, subst (λ (s : StateView). NoneIs (has_reading s)) (sym is.0) is.3)
opened_closed (Err fault) store is = absurd (cc)

-- ---- points that end what they begin

-- a point that begins no session and no reading
record IsQuiet (p : Point) : Type 0 where
  sessions : (s : ℕ) → begins s p ≡ false
  readings : (r : ℕ) → looks r p ≡ false

record EndAll (points : List Point) : Type 0 where
  sessions : (s : ℕ) (p : Point) → In p points → begins s p ≡ true → (q : Point) × In q points × (closes s q ≡ true)
  readings : (r : ℕ) (p : Point) → In p points → looks r p ≡ true → (q : Point) × In q points × (ends r q ≡ true)

all_quiet : (points : List Point) → ((p : Point) → In p points → IsQuiet p) → EndAll points
all_quiet points quiet = record {
  sessions = λ s p there does. absurd (both_ways _ ((quiet p there).sessions s) does);
  readings = λ r p there does. absurd (both_ways _ ((quiet p there).readings r) does);
}

no_points : (points : List Point) → points ≡ [] → EndAll points
no_points points is = subst EndAll (sym is) (all_quiet [] (λ p there. absurd there))

one_quiet : (p : Point) (points : List Point) → IsQuiet p → points ≡ p ∷ [] → EndAll points
one_quiet p points quiet is = subst EndAll (sym is) (all_quiet (p ∷ []) (λ q there. elim there [ inl same ↦ subst IsQuiet same quiet | inr more ↦ absurd more ]))

deletes_quietly : (asked : List ℕ) (session : Option ℕ) → IsQuiet (point.Delete asked session)
unfolding begins session_begun looks reading_begun
deletes_quietly asked session = record { sessions = λ s. refl; readings = λ r. refl }

-- ---- a backup

pairs_quiet : (session first : ℕ) (points : List Point) → HasPairs session first points → (p : Point) → In p points → IsQuiet p
unfolding begins session_begun looks reading_begun
pairs_quiet session _ _ (no_pair first) p there = absurd there
pairs_quiet session _ _ (pair first chosen champions stored points rest) p there = elim there [
  | inl is ↦ subst IsQuiet is (record { sessions = λ s. refl; readings = λ r. refl })
  | inr (inl is) ↦ subst IsQuiet is (record { sessions = λ s. refl; readings = λ r. refl })
  | inr (inr later) ↦ pairs_quiet session (first + 1) points rest p later
]

choice_quiet : (session : ℕ) (points : List Point) → IsChoice session points → (p : Point) → In p points → IsQuiet p
unfolding begins session_begun looks reading_begun
choice_quiet session points (no_choice is) p there = absurd (subst (In p) is there)
choice_quiet session points (one_choice chosen champions is) p there = elim (subst (In p) is there) [ inl same ↦ subst IsQuiet same (record { sessions = λ s. refl; readings = λ r. refl }) | inr later ↦ absurd later ]

-- a session that begins, goes on, and is closed at the end
session_ends : (asked : List ℕ) (session : ℕ) (middle : List Point) (last : Point) → ((p : Point) → In p middle → IsQuiet p) → IsQuiet last → ((s : ℕ) → (s == session) ≡ true → closes s last ≡ true) → EndAll (point.Begin asked (Some session) ∷ middle ++ last ∷ [])
unfolding begins session_begun looks reading_begun
session_ends asked session middle last quiet last_quiet ends_it = record {
  sessions = λ s p there does. elim (by_place p there) [
    | inl first ↦ (last, inr (in_append_right last middle (last ∷ []) (inl refl)), ends_it s (ap (begins s) first ∙ does))
    | inr calm ↦ absurd (both_ways _ (calm.sessions s) does)
  ];
  readings = λ r p there does. elim (by_place p there) [
    | inl first ↦ absurd (false≢true (ap (looks r) first ∙ does))
    | inr calm ↦ absurd (both_ways _ (calm.readings r) does)
  ];
}
  where
    by_place : (p : Point) → In p (point.Begin asked (Some session) ∷ middle ++ last ∷ []) → (point.Begin asked (Some session) ≡ p) ⊎ IsQuiet p
    by_place p there = elim there [
      | inl same ↦ inl same
      | inr later ↦ elim (append_in p middle (last ∷ []) later) [
        | inl among ↦ inr (quiet p among)
        | inr (inl is_last) ↦ inr (subst IsQuiet is_last last_quiet)
        | inr (inr beyond) ↦ absurd beyond
      ]
    ]

finished_ends : (asked : List ℕ) (session : ℕ) (points : List Point) → IsFinished asked session points → EndAll points
unfolding begins session_begun looks reading_begun closes finishes
finished_ends asked session points is =
    subst EndAll (sym is.points_are)
    (session_ends asked session is.pairs (point.Finish session is.containers) (pairs_quiet session 0 is.pairs is.has_pairs) (record { sessions = λ s. refl; readings = λ r. refl })
    (λ s same. or_left (s == session) (aborts s (point.Finish session is.containers)) same))

given_up_ends : (asked : List ℕ) (points : List Point) → IsGivenUp asked points → EndAll points
unfolding begins session_begun looks reading_begun closes aborts
given_up_ends asked points is =
    let middle = is.pairs ++ is.choice in
    let last = point.Abort is.session is.containers is.texts in
    subst EndAll (sym (is.points_are ∙ ap (λ (ps : List Point). point.Begin asked (Some is.session) ∷ ps) (sym (append_assoc is.pairs is.choice (last ∷ [])))))
    (session_ends asked is.session middle last
    (λ p there. elim (append_in p is.pairs is.choice there) [ inl one ↦ pairs_quiet is.session 0 is.pairs is.has_pairs p one | inr other ↦ choice_quiet is.session is.choice is.is_choice p other ])
    (record { sessions = λ s. refl; readings = λ r. refl })
    (λ s same. or_right (finishes s last) (s == is.session) same))

perhaps_given_up : (asked : List ℕ) (points : List Point) → (points ≡ []) ⊎ IsGivenUp asked points → EndAll points
perhaps_given_up asked points (inl is) = no_points points is
perhaps_given_up asked points (inr is) = given_up_ends asked points is

backup_ends : (asked : List ℕ) (result : Result ℕ BackupFault) (points : List Point) → BackupPoints asked result points → EndAll points
unfolding begins session_begun looks reading_begun
backup_ends asked (Ok session) points is = finished_ends asked session points is
backup_ends asked (Err backup.Taken) points is = one_quiet (point.Begin asked None) points (record { sessions = λ s. refl; readings = λ r. refl }) is
backup_ends asked (Err backup.NoInput) points is = no_points points is
backup_ends asked (Err backup.InputFault) points is = perhaps_given_up asked points is
backup_ends asked (Err backup.Full) points is = perhaps_given_up asked points is
backup_ends asked (Err backup.Memory) points is = perhaps_given_up asked points is
backup_ends asked (Err backup.TooLong) points is = given_up_ends asked points is
backup_ends asked (Err backup.DepotFault) points is = given_up_ends asked points is
backup_ends asked (Err (backup.Damaged want got)) points is = given_up_ends asked points is
backup_ends asked (Err (backup.Unlike text)) points is = given_up_ends asked points is

-- ---- a restore

read_ends : (asked : List ℕ) (points : List Point) → IsRead asked points → EndAll points
unfolding begins session_begun looks reading_begun ends
read_ends asked points is =
    let first = point.Look asked (Some is.found) in
    let last = point.Done is.found.reader in
    subst EndAll (sym is.points_are)
    (record {
      sessions = λ s p there does. elim there [
        | inl same ↦ absurd (false≢true (ap (begins s) same ∙ does))
        | inr (inl same) ↦ absurd (false≢true (ap (begins s) same ∙ does))
        | inr (inr beyond) ↦ absurd beyond
      ];
      readings = λ r p there does. elim there [
        | inl same ↦ (last, inr (inl refl), ap (looks r) same ∙ does)
        | inr (inl same) ↦ absurd (false≢true (ap (looks r) same ∙ does))
        | inr (inr beyond) ↦ absurd beyond
      ];
    })

perhaps_read : (asked : List ℕ) (points : List Point) → (points ≡ []) ⊎ IsRead asked points → EndAll points
perhaps_read asked points (inl is) = no_points points is
perhaps_read asked points (inr is) = read_ends asked points is

restore_ends : (asked : List ℕ) (result : Result ℕ RestoreFault) (points : List Point) → RestorePoints asked result points → EndAll points
unfolding begins session_begun looks reading_begun
restore_ends asked (Ok count) points is = read_ends asked points is
restore_ends asked (Err restore.Exists) points is = no_points points is
restore_ends asked (Err restore.NoStream) points is = one_quiet (point.Look asked None) points (record { sessions = λ s. refl; readings = λ r. refl }) is
restore_ends asked (Err restore.Full) points is = no_points points is
restore_ends asked (Err restore.OutputFault) points is = perhaps_read asked points is
restore_ends asked (Err restore.Memory) points is = perhaps_read asked points is
restore_ends asked (Err restore.DepotFault) points is = read_ends asked points is
restore_ends asked (Err (restore.Damaged want got)) points is = read_ends asked points is
restore_ends asked (Err (restore.Unlike text)) points is = read_ends asked points is

-- ---- the other jobs

delete_ends : (asked : List ℕ) (answer : JobAnswer) (points : List Point) → DeleteCalls asked answer points → EndAll points
delete_ends asked job.Ok points is = one_quiet (point.Delete asked (Some is.0)) points (deletes_quietly asked (Some is.0)) is.1
delete_ends asked (job.Delete name.NoStream) points is = one_quiet (point.Delete asked None) points (deletes_quietly asked None) is
delete_ends asked (job.Delete name.Full) points is = no_points points is
delete_ends asked (job.Delete name.Memory) points is = no_points points is
delete_ends asked (job.Backup fault) points is = absurd is
delete_ends asked (job.Restore fault) points is = absurd is
delete_ends asked (job.Reclaim fault) points is = absurd is
delete_ends asked (job.Stat fault) points is = absurd is

stat_ends : (answer : JobAnswer) (points : List Point) → StatCalls answer points → EndAll points
unfolding begins session_begun looks reading_begun
stat_ends job.Ok points is = one_quiet (point.Stat is.0) points (record { sessions = λ s. refl; readings = λ r. refl }) is.1
stat_ends (job.Stat fault) points is = no_points points is
stat_ends (job.Backup fault) points is = absurd is
stat_ends (job.Restore fault) points is = absurd is
stat_ends (job.Reclaim fault) points is = absurd is
stat_ends (job.Delete fault) points is = absurd is

reclaims_quiet : (points : List Point) → FullReclaims points → (p : Point) → In p points → IsQuiet p
unfolding begins session_begun looks reading_begun
reclaims_quiet [] is p there = absurd there
reclaims_quiet (point.Reclaim objects ∷ points) is p there = elim there [
  | inl same ↦ subst IsQuiet same (record { sessions = λ s. refl; readings = λ r. refl })
  | inr later ↦ reclaims_quiet points is.1 p later
]
reclaims_quiet (_ ∷ points) is p there = absurd is

last_reclaims : (most : ℕ) (points : List Point) → EndsReclaims most points → EndAll points
unfolding begins session_begun looks reading_begun
last_reclaims most points is =
    subst EndAll (sym is.points_are)
    (all_quiet (is.earlier ++ point.Reclaim is.objects ∷ []) (λ p there. elim (append_in p is.earlier (point.Reclaim is.objects ∷ []) there) [
      | inl among ↦ reclaims_quiet is.earlier is.full p among
      | inr (inl same) ↦ subst IsQuiet same (record { sessions = λ s. refl; readings = λ r. refl })
      | inr (inr beyond) ↦ absurd beyond
    ]))

reclaim_ends : (answer : JobAnswer) (points : List Point) → ReclaimCalls answer points → EndAll points
reclaim_ends job.Ok points is = last_reclaims 15 points is
reclaim_ends (job.Reclaim reclaim.DepotFault) points is = last_reclaims 16 points is
reclaim_ends (job.Reclaim reclaim.Full) points is = all_quiet points (reclaims_quiet points is)
reclaim_ends (job.Reclaim reclaim.Memory) points (inl is) = all_quiet points (reclaims_quiet points is)
reclaim_ends (job.Reclaim reclaim.Memory) points (inr is) = last_reclaims 16 points is
reclaim_ends (job.Backup fault) points is = absurd is
reclaim_ends (job.Restore fault) points is = absurd is
reclaim_ends (job.Delete fault) points is = absurd is
reclaim_ends (job.Stat fault) points is = absurd is

job_ends : (kind : JobKind) (answer : JobAnswer) (points : List Point) → JobCalls kind answer points → EndAll points
job_ends (Backup input asked) answer points is = backup_ends asked is.result points is.points_are
job_ends (Restore asked output) answer points is = restore_ends asked is.result points is.points_are
job_ends (Delete asked) answer points is = delete_ends asked answer points is
job_ends Reclaim answer points is = reclaim_ends answer points is
job_ends Stat answer points is = stat_ends answer points is

-- ---- the longer history

-- what an entry of both does is done by one of the points, or by an older entry
done_by : (does : Point → Bool) (author : ℕ) (points : List Point) (older : List Entry) → has does (reverse (map (made author) points) ++ older) ≡ true → ((p : Point) × In p points × (does p ≡ true)) ⊎ (has does older ≡ true)
unfolding has
done_by does author points older is =
    let (entry, there, passes) = any_in (λ (e : Entry). does e.point) (reverse (map (made author) points) ++ older) is in
    elim (append_in entry (reverse (map (made author) points)) older there) [
      | inl newer ↦
          let (p, listed, same) = map_in (made author) entry points (reverse_in entry (map (made author) points) newer) in
          inl (p, listed, ap (λ (e : Entry). does e.point) same ∙ passes)
      | inr old ↦ inr (in_any (λ (e : Entry). does e.point) entry older old passes)
    ]

made_in : (author : ℕ) (p : Point) (points : List Point) → In p points → In (made author p) (map (made author) points)
made_in author p [] there = absurd there
made_in author p (q ∷ points) there = elim there [ inl same ↦ inl (ap (made author) same) | inr later ↦ inr (made_in author p points later) ]

kept_by_points : (does : Point → Bool) (author : ℕ) (points : List Point) (older : List Entry) (p : Point) → In p points → does p ≡ true → has does (reverse (map (made author) points) ++ older) ≡ true
unfolding has
kept_by_points does author points older p there passes =
    in_any (λ (e : Entry). does e.point) (made author p) (reverse (map (made author) points) ++ older)
    (in_append_left (made author p) (reverse (map (made author) points)) older (reverse_in (made author p) (reverse (map (made author) points)) (subst (In (made author p)) (sym (reverse-reverse (map (made author) points))) (made_in author p points there)))) passes

kept_by_older : (does : Point → Bool) (newer older : List Entry) → has does older ≡ true → has does (newer ++ older) ≡ true
unfolding has
kept_by_older does newer older is =
    let (entry, there, passes) = any_in (λ (e : Entry). does e.point) older is in
    in_any (λ (e : Entry). does e.point) entry (newer ++ older) (in_append_right entry newer older there) passes

-- what was begun and not ended by the longer history was so before
none_left : (begun ended_by : Point → Bool) (author : ℕ) (points : List Point) (older : List Entry)
    → ((p : Point) → In p points → begun p ≡ true → (q : Point) × In q points × (ended_by q ≡ true))
    → (has begun older && not (has ended_by older)) ≡ false
    → (has begun (reverse (map (made author) points) ++ older) && not (has ended_by (reverse (map (made author) points) ++ older))) ≡ false
none_left begun ended_by author points older ends_each was =
    let newer = reverse (map (made author) points) in
    false_from_ne_true _ (λ left.
    let parts = and_parts _ _ left in
    let open_now : has ended_by (newer ++ older) ≡ false = not-true (has ended_by (newer ++ older)) parts.1 in
    elim (done_by begun author points older parts.0) [
      | inl (p, there, does) ↦
          let (q, there_too, closes_it) = ends_each p there does in
          both_ways _ open_now (kept_by_points ended_by author points older q there_too closes_it)
      | inr before ↦
          let open_then : has ended_by older ≡ false = false_from_ne_true _ (λ closed. both_ways _ open_now (kept_by_older ended_by newer older closed)) in
          both_ways _ was (and_from (has begun older) (not (has ended_by older)) before (not_from_false (has ended_by older) open_then))
    ])

pub closed_run : (kind : JobKind) (before after : Shelves) (sink sink' : SinkView) (status : ℕ) (done : HasDoneJob kind before after sink sink' status) → NoneIs (has_session done.new) × NoneIs (has_reading done.new)
unfolding is_unfinished is_reading
closed_run kind before after sink sink' status done =
    let older = past_of done.store in
    let newer = reverse (map (made done.author) done.points) in
    let past_is : past_of done.new ≡ newer ++ older = ap past_of done.added ∙ reverse-append done.store.entries (map (made done.author) done.points) in
    let was = opened_closed done.opens.reads.reading done.store done.opens.reads.follows in
    let all = job_ends kind done.answer done.points done.calls in (
      (λ s. subst (λ (past : List Entry). is_unfinished s past ≡ false) (sym past_is) (none_left (begins s) (closes s) done.author done.points older (all.sessions s) (was.0 s))),
      (λ r. subst (λ (past : List Entry). is_reading r past ≡ false) (sym past_is) (none_left (looks r) (ends r) done.author done.points older (all.readings r) (was.1 r))),
    )
