-- Which entries a job adds.
use Rattle.std.proofs.Common.{◌≡◌, ℕ, ◌≤◌, List, [], ◌∷◌, ◌++◌, map, take, length, Some, None, refl, sym, ap, ◌∙◌, subst, inl, inr, arith}
use Rattle.std.specs.Prelude.{Result, Ok, Err}
use Rattle.std.proofs.lemmas.List.{append-nil, append_assoc, map-append, length-take}
use Rattle.ss_base.specs.declared.object.Object.{Object}
use Rattle.journal_entry.specs.declared.entry.Entry.{Entry}
use Rattle.journal_entry.specs.declared.entry.Totals.{Totals}
use Rattle.journal_entry.specs.declared.entry.Point.{Point}
use Rattle.journal_entry.specs.declared.entry.Point.TheVariants as point
use Rattle.history.specs.Need.{erasable}
use Rattle.outside.specs.Views.{ShelfView}
use Rattle.outside.specs.declared.trouble.Trouble.{Trouble}
use Rattle.outside.specs.declared.trouble.Trouble.TheVariants as trouble
use Rattle.store_core.specs.declared.fault.NameFault.{NameFault}
use Rattle.store_core.specs.declared.fault.NameFault.TheVariants as name
use Rattle.store_core.specs.declared.fault.PointFault.{PointFault}
use Rattle.store_core.specs.declared.fault.PointFault.TheVariants as full
use Rattle.store_core.specs.View.{StateView, past_of, made}
use Rattle.store_core.specs.Answers.{DeleteAnswer, StatAnswer, ReclaimAnswer}
use Rattle.restore.specs.Copies.{Shelves}
use Rattle.job_script.specs.declared.job.JobKind.{JobKind}
use Rattle.job_script.specs.declared.job.JobKind.TheVariants.{Backup, Restore, Delete, Reclaim, Stat}
use Rattle.report.specs.declared.answer.JobAnswer.{JobAnswer}
use Rattle.report.specs.declared.answer.JobAnswer.TheVariants as job
use Rattle.job_entries.proofs.EntryLaws.{backup_alone-adds}
use Rattle.job_entries.proofs.RestoreLaws.{restore_alone-adds}
use Rattle.segment_store.specs.Loads.{Entries}
use Rattle.job_run.specs.Erasing.{of_point, of_erases, HasReclaimed, none, more, LastReclaim, few, troubled, unmade}
use Rattle.job_run.specs.Jobs.{answer_of, CommandDone}
use Rattle.store_run.specs.JobCalls.{FullReclaims, EndsReclaims, ReclaimCalls, JobCalls}

-- behind the entries of a state stand those of an author for these points
abbrev pub Behind : ℕ → StateView → StateView → List Point → Type 0
Behind author old new points = new ≡ record old { entries = old.entries ++ map (made author) points }

-- a job added the entries that its answer says
pub record AddsCalls (kind : JobKind) (author : ℕ) (old new : StateView) (answer : JobAnswer) : Type 0 where
  pub points : List Point
  pub calls : JobCalls kind answer points
  pub added : Behind author old new points

module _ (author : ℕ) (old new : StateView) where
  nothing_of : (state : StateView) → state ≡ old → Behind author old state []
  nothing_of state same = same ∙ ap (λ (entries : List Entry). record old { entries = entries }) (sym (append-nil old.entries))

  nothing : new ≡ old → Behind author old new []
  nothing same = nothing_of new same

  delete-calls : (asked : List ℕ) (result : Result ℕ NameFault) → DeleteAnswer old new author asked result → AddsCalls (Delete asked) author old new (answer_of job.Delete result)
  delete-calls asked (Ok session) answer = record { points = point.Delete asked (Some session) ∷ []; calls = (session, refl); added = answer.1.added }
  delete-calls asked (Err name.NoStream) answer = record { points = point.Delete asked None ∷ []; calls = refl; added = answer.1.added }
  delete-calls asked (Err name.Full) answer = record { points = []; calls = refl; added = nothing answer.same }
  delete-calls asked (Err name.Memory) answer = record { points = []; calls = refl; added = nothing answer }

  stat-calls : (result : Result Totals PointFault) → StatAnswer old new author result → AddsCalls Stat author old new (answer_of job.Stat result)
  stat-calls (Ok given) answer = record { points = point.Stat given ∷ []; calls = (given, refl); added = answer.1.added }
  stat-calls (Err full.Full) answer = record { points = []; calls = refl; added = nothing answer.same }
  stat-calls (Err full.Memory) answer = record { points = []; calls = refl; added = nothing answer }

  sixteen : (objects : List Object) → length (take 16 objects) ≤ 16
  sixteen objects = let len = length-take 16 objects in omega (arith, len)

  full_more : (points : List Point) (objects : List Object) → FullReclaims points → length objects ≡ 16 → FullReclaims (points ++ point.Reclaim objects ∷ [])
  full_more [] objects full sixteen = (sixteen, tt)
  full_more (point.Reclaim first ∷ points) objects full sixteen = (full.0, full_more points objects full.1 sixteen)
  full_more (point.Begin asked session ∷ points) objects full sixteen = absurd full
  full_more (point.Choose session hooks champions ∷ points) objects full sixteen = absurd full
  full_more (point.Commit manifest content text chunks bytes fresh fresh_bytes uses ∷ points) objects full sixteen = absurd full
  full_more (point.Finish session containers ∷ points) objects full sixteen = absurd full
  full_more (point.Abort session containers texts ∷ points) objects full sixteen = absurd full
  full_more (point.Delete asked session ∷ points) objects full sixteen = absurd full
  full_more (point.Look asked seen ∷ points) objects full sixteen = absurd full
  full_more (point.Done reader ∷ points) objects full sixteen = absurd full
  full_more (point.Stat given ∷ points) objects full sixteen = absurd full

  -- one entry more behind those of some points
  behind_more : (between after : StateView) (points : List Point) (last : Point) → Behind author old between points → after ≡ record between { entries = between.entries ++ made author last ∷ [] }
      → Behind author old after (points ++ last ∷ [])
  behind_more between after points last behind added =
      added
      ∙ ap (λ (state : StateView). record state { entries = state.entries ++ made author last ∷ [] }) behind
      ∙ ap (λ (entries : List Entry). record old { entries = entries }) (append_assoc old.entries (map (made author) points) (made author last ∷ []) ∙ ap (λ (entries : List Entry). old.entries ++ entries) (sym (map-append (made author) points (last ∷ []))))

  -- what reclaims of 16 objects each added
  pub record HasAddedFull (between : StateView) : Type 0 where
    pub points : List Point
    pub full : FullReclaims points
    pub behind : Behind author old between points

  full-added : (depot : ShelfView) (between : StateView) (shelf : ShelfView) → HasReclaimed author old depot between shelf → HasAddedFull between
  full-added depot _ _ none = record { points = []; full = tt; behind = nothing_of old refl }
  full-added depot _ _ (more between after shelf shelf' removals earlier answer sixteen erased) =
      let before = full-added depot between shelf earlier in
      let objects = take 16 (erasable (past_of between)) in
      record {
        points = before.points ++ point.Reclaim objects ∷ [];
        full = full_more before.points objects before.full (sym (ap length answer.0) ∙ sixteen);
        behind = behind_more between after before.points (point.Reclaim objects) before.behind answer.1.added;
      }

  ends_with : (most : ℕ) (between : StateView) (before : HasAddedFull between) (objects : List Object) → length objects ≤ most → EndsReclaims most (before.points ++ point.Reclaim objects ∷ [])
  ends_with most between before objects within = record { earlier = before.points; full = before.full; objects = objects; few = within; points_are = refl }

  trouble-calls : (met : Trouble) (points : List Point) → EndsReclaims 16 points → ReclaimCalls (of_erases (Some met)) points
  trouble-calls trouble.Fault points ends = ends
  trouble-calls trouble.Memory points ends = inr ends

  refused-calls : (cause : PointFault) (points : List Point) → FullReclaims points → ReclaimCalls (of_point cause) points
  refused-calls full.Full points earlier = earlier
  refused-calls full.Memory points earlier = inl earlier

  unchanged : (between : StateView) (cause : PointFault) → ReclaimAnswer between new author (Err cause) → new ≡ between
  unchanged between full.Full answer = answer.same
  unchanged between full.Memory answer = answer

  last-calls : (answer : JobAnswer) (between : StateView) (shelf depot' : ShelfView) → HasAddedFull between → LastReclaim author between new shelf depot' answer → AddsCalls Reclaim author old new answer
  last-calls answer between shelf depot' before (few removals is adds fewer erased) =
      let objects = take 16 (erasable (past_of between)) in
      let count = ap length adds.0 in
      record {
        points = before.points ++ point.Reclaim objects ∷ [];
        calls = subst (λ (a : JobAnswer). ReclaimCalls a (before.points ++ point.Reclaim objects ∷ [])) (sym is) (ends_with 15 between before objects (omega (arith, fewer, count)));
        added = behind_more between new before.points (point.Reclaim objects) before.behind adds.1.added;
      }
  last-calls answer between shelf depot' before (troubled removals met is adds erased) =
      let objects = take 16 (erasable (past_of between)) in
      record {
        points = before.points ++ point.Reclaim objects ∷ [];
        calls = subst (λ (a : JobAnswer). ReclaimCalls a (before.points ++ point.Reclaim objects ∷ [])) (sym is) (trouble-calls met _ (ends_with 16 between before objects (sixteen (erasable (past_of between)))));
        added = behind_more between new before.points (point.Reclaim objects) before.behind adds.1.added;
      }
  last-calls answer between shelf depot' before (unmade cause is adds same) = record {
    points = before.points;
    calls = subst (λ (a : JobAnswer). ReclaimCalls a before.points) (sym is) (refused-calls cause before.points before.full);
    added = unchanged between cause adds ∙ before.behind;
  }

  pub job-calls : (kind : JobKind) (before after : Shelves) (cache cache' : Entries) (answer : JobAnswer) → CommandDone 8 8 author kind old new before after cache cache' answer → AddsCalls kind author old new answer
  job-calls (Backup input asked) before after cache cache' answer done =
      let ran = done.done in
      let adds = backup_alone-adds 8 8 before.files input asked (record { author = author; seen = old }) before.depot cache ran.after after.depot cache' done.result ran.answer in
      record { points = adds.0; calls = record { result = done.result; answer_is = done.answer_is; points_are = adds.2 }; added = sym ran.after_is ∙ adds.1 }
  job-calls (Restore asked output) before after cache cache' answer done =
      let adds = restore_alone-adds old author asked new output before after done.result done.done in
      record { points = adds.0; calls = record { result = done.result; answer_is = done.answer_is; points_are = adds.2 }; added = adds.1 }
  job-calls (Delete asked) before after cache cache' answer done =
      subst (λ (a : JobAnswer). AddsCalls (Delete asked) author old new a) (sym done.0.answer_is) (delete-calls asked done.0.result done.0.done)
  job-calls Reclaim before after cache cache' answer done =
      last-calls answer done.0.between done.0.shelf after.depot (full-added before.depot done.0.between done.0.shelf done.0.earlier) done.0.last
  job-calls Stat before after cache cache' answer done =
      subst (λ (a : JobAnswer). AddsCalls Stat author old new a) (sym done.0.answer_is) (stat-calls done.0.result done.0.done)
