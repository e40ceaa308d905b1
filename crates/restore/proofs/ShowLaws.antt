-- What shows of a restore.
use Rattle.std.proofs.Common.{◌≡◌, ◌≢◌, ◌≤◌, ℕ, List, ◌++◌, refl, sym, ap, ◌∙◌, subst, inl, inr}
use Rattle.std.specs.Prelude.{Result, Ok, Err}
use Rattle.std.specs.List.{concat}
use Rattle.ss_base.specs.declared.name.Name.{Name}
use Rattle.store_core.specs.View.{KeptView}
use Rattle.store_core.specs.declared.fault.NameFault.{NameFault}
use Rattle.store_core.specs.declared.fault.NameFault.TheVariants as name
use Rattle.outside.specs.Faults.{Rose}
use Rattle.outside.specs.Shelf.{with_object, AppendLeaves}
use Rattle.outside.specs.Views.{ShelfView, OnlyReads}
use Rattle.outside.specs.declared.trouble.Trouble.{Trouble}
use Rattle.outside.specs.declared.trouble.Trouble.TheVariants as shelf
use Rattle.outside.proofs.ObjectLaws.{with_added-with_object}
use Rattle.depot.specs.declared.fault.LoadFault.{LoadFault}
use Rattle.depot.specs.declared.fault.LoadFault.TheVariants as load
use Rattle.depot.specs.declared.fault.ReadFault.{ReadFault}
use Rattle.depot.specs.declared.fault.ReadFault.TheVariants as chunk
use Rattle.depot.specs.declared.fault.RestoreFault.{RestoreFault}
use Rattle.depot.specs.declared.fault.RestoreFault.TheVariants.{DepotFault, Damaged, Memory}
use Rattle.depot.specs.Calls.{CountsTrouble, HasRead, HasReadNothing, WantsMemory, HasFailed}
use Rattle.depot.specs.Chunks.{ChunkAnswer}
use Rattle.depot.specs.Loading.{LoadAnswer}
use Rattle.restore.specs.Faults.{output_fault, look_fault, load_fault, chunk_fault}
use Rattle.restore.specs.Reads.{Listed, after_chunks, after_manifests, after_load, bytes_of_chunks, bytes_of_manifests}
use Rattle.restore.specs.Output.{after_making, with_output}
use Rattle.restore.specs.Copies.{Shelves, AreManifestsCopied, StopsAtChunk, StopsAtManifest, StopsInManifests, StreamCopy}
use Rattle.restore.specs.Copies.StopsAtChunk.{not_read, not_added}
use Rattle.restore.specs.Copies.StopsAtManifest.{not_loaded, in_chunks}
use Rattle.restore.specs.Copies.StreamCopy.{not_made, made}
use Rattle.restore.specs.Restores.{Calls, IsAbsent, AreQuiet, RestoreAnswer, RestoreCause, RestoreCounts, FilesLeft, FilesAnswer}
use Rattle.restore.specs.Restores.RestoreAnswer.{not_asked, exists, not_looked, copied}
use Rattle.restore.specs.Restores.FilesLeft.{as_before, holds, not_made as unmade}
use Rattle.restore.proofs.OutputLaws.{output-joined, more_output}
use Rattle.restore.proofs.HeldLaws.{Unchanged, unchanged, unchanged_then, chunks_unchanged, manifests_unchanged}

-- All that shows.
pub record Shows (output : List ℕ) (before after : Shelves) (result : Result ℕ RestoreFault) : Type 0 where
  pub cause : RestoreCause output before after result
  pub counts : RestoreCounts before after result
  pub files_left : FilesAnswer output before.files after.files result
  pub depot_read : OnlyReads before.depot after.depot

-- ---- the depot after a read

module _ (depot after : ShelfView) where
  read_unchanged : (name : List ℕ) (at max : ℕ) (bytes : List ℕ) → HasRead depot after name at max bytes → Unchanged depot after
  read_unchanged name at max bytes read = record {
    only = record { held = ap (λ (s : ShelfView). s.held) read.call; wrote = ap (λ (s : ShelfView). s.wrote) read.call; erased = ap (λ (s : ShelfView). s.erased) read.call };
    faults = ap (λ (s : ShelfView). s.faults) read.call;
  }

  nothing_unchanged : HasReadNothing depot after → OnlyReads depot after
  nothing_unchanged nothing = record { held = ap (λ (s : ShelfView). s.held) nothing.call; wrote = ap (λ (s : ShelfView). s.wrote) nothing.call; erased = ap (λ (s : ShelfView). s.erased) nothing.call }

  memory_unchanged : WantsMemory depot after → Unchanged depot after
  memory_unchanged (inl same) = subst (λ (s : ShelfView). Unchanged depot s) (sym same) (unchanged depot)
  memory_unchanged (inr read) = record {
    only = record { held = ap (λ (s : ShelfView). s.held) read; wrote = ap (λ (s : ShelfView). s.wrote) read; erased = ap (λ (s : ShelfView). s.erased) read };
    faults = ap (λ (s : ShelfView). s.faults) read;
  }

-- ---- one end each

-- the two shelves do what they may, whatever the answer
record Ends (output : List ℕ) (before after : Shelves) : Type 0 where
  pub files_left : FilesLeft output before.files after.files
  pub depot_read : OnlyReads before.depot after.depot

module _ (output : List ℕ) (before after : Shelves) where
  shows_memory : AreQuiet before after → Ends output before after → Shows output before after (Err Memory)
  shows_memory quiet ends = record { cause = tt; counts = quiet; files_left = ends.files_left; depot_read = ends.depot_read }

  -- of a call on the files
  shows_output : (why : Trouble) → CountsTrouble why before.files.faults after.files.faults → after.depot.faults ≡ before.depot.faults → Ends output before after → Shows output before after (Err (output_fault why))
  shows_output shelf.Fault count same ends = record { cause = count.1; counts = (count.0, same); files_left = ends.files_left; depot_read = ends.depot_read }
  shows_output shelf.Memory count same ends = shows_memory (count, same) ends

  -- of a look
  shows_look : (why : NameFault) → IsAbsent before.files output → after ≡ before → Ends output before after → Shows output before after (Err (look_fault why))
  shows_look name.NoStream absent same ends = record { cause = (absent, same); counts = (ap (λ (s : Shelves). s.files.faults) same, ap (λ (s : Shelves). s.depot.faults) same); files_left = ends.files_left; depot_read = ends.depot_read }
  shows_look name.Full absent same ends = record { cause = (absent, same); counts = (ap (λ (s : Shelves). s.files.faults) same, ap (λ (s : Shelves). s.depot.faults) same); files_left = ends.files_left; depot_read = ends.depot_read }
  shows_look name.Memory absent same ends = shows_memory (ap (λ (s : Shelves). s.files.faults) same, ap (λ (s : Shelves). s.depot.faults) same) ends

  -- of a read of the depot
  shows_depot : (from : ShelfView) → Unchanged before.depot from → HasReadNothing from after.depot → after.files.faults ≡ before.files.faults → IsAbsent before.files output → FilesLeft output before.files after.files → Shows output before after (Err DepotFault)
  shows_depot from so_far nothing same absent files_left = record {
    cause = (absent, subst (λ n. Rose n after.depot.faults) so_far.faults nothing.count.1);
    counts = (same, subst (λ n. n ≤ after.depot.faults) so_far.faults nothing.count.0);
    files_left = files_left;
    depot_read = let here = nothing_unchanged from after.depot nothing in record { held = here.held ∙ so_far.only.held; wrote = here.wrote ∙ so_far.only.wrote; erased = here.erased ∙ so_far.only.erased };
  }

  shows_damaged : (want got : Name) → Unchanged before.depot after.depot → want ≢ got → after.files.faults ≡ before.files.faults → IsAbsent before.files output → FilesLeft output before.files after.files → Shows output before after (Err (Damaged want got))
  shows_damaged want got so_far differ same absent files_left = record { cause = (absent, differ); counts = (same, so_far.faults); files_left = files_left; depot_read = so_far.only }

  -- of a load
  shows_load : (from : ShelfView) (kept : KeptView) (why : LoadFault) → Unchanged before.depot from → LoadAnswer from after.depot kept (Err why) → after.files.faults ≡ before.files.faults → IsAbsent before.files output → FilesLeft output before.files after.files → Shows output before after (Err (load_fault why))
  shows_load from kept load.Shelf so_far nothing same absent files_left = shows_depot from so_far nothing same absent files_left
  shows_load from kept (load.Damaged want got) so_far damaged same absent files_left =
      shows_damaged want got (unchanged_then before.depot from after.depot so_far (read_unchanged from after.depot _ _ _ _ damaged.given)) damaged.differ same absent files_left
  shows_load from kept (load.Unlike text) so_far unlike same absent files_left =
      let all = unchanged_then before.depot from after.depot so_far (read_unchanged from after.depot _ _ _ _ unlike.given) in
      record { cause = absent; counts = (same, all.faults); files_left = files_left; depot_read = all.only }
  shows_load from kept load.Memory so_far (inl wants) same absent files_left =
      let all = unchanged_then before.depot from after.depot so_far (memory_unchanged from after.depot wants) in
      shows_memory (same, all.faults) (record { files_left = files_left; depot_read = all.only })
  shows_load from kept load.Memory so_far (inr given) same absent files_left =
      let all = unchanged_then before.depot from after.depot so_far (read_unchanged from after.depot _ _ _ _ given.1) in
      shows_memory (same, all.faults) (record { files_left = files_left; depot_read = all.only })

  -- of a read of a chunk
  shows_chunk : (from : ShelfView) (listed : Listed) (why : ReadFault) → Unchanged before.depot from → ChunkAnswer from after.depot listed.1 listed.0 (Err why) → after.files.faults ≡ before.files.faults → IsAbsent before.files output → FilesLeft output before.files after.files → Shows output before after (Err (chunk_fault why))
  shows_chunk from listed chunk.Shelf so_far nothing same absent files_left = shows_depot from so_far nothing same absent files_left
  shows_chunk from listed (chunk.Damaged want got) so_far damaged same absent files_left =
      shows_damaged want got (unchanged_then before.depot from after.depot so_far (read_unchanged from after.depot _ _ _ _ damaged.given)) damaged.differ same absent files_left
  shows_chunk from listed chunk.Memory so_far wants same absent files_left =
      let all = unchanged_then before.depot from after.depot so_far (memory_unchanged from after.depot wants) in
      shows_memory (same, all.faults) (record { files_left = files_left; depot_read = all.only })

-- ---- the files

-- the output holds these chunks
held_chunks : (output : List ℕ) (files after : ShelfView) (chunks : List (List ℕ)) → after ≡ with_output files output chunks → FilesLeft output files after
held_chunks output files after chunks is =
    let w = sym (ap (λ (s : ShelfView). s.wrote) is) in
    let q = sym (ap (λ (s : ShelfView). s.faults) is) in
    holds (concat chunks) (is ∙ λ i. record files { held = with_object files.held output (concat chunks); wrote = w i; faults = q i })

-- or a front of one more
held_front : (output : List ℕ) (files after : ShelfView) (chunks : List (List ℕ)) (bytes : List ℕ) (why : Trouble)
    → HasFailed (λ old new. AppendLeaves old new output bytes) (with_output files output chunks) after why → FilesLeft output files after
held_front output files after chunks bytes why failed = by_objects failed.objects
  where
    so : (held : List ℕ) → after.held ≡ with_object files.held output held → FilesLeft output files after
    so held is =
        let w = sym (ap (λ (s : ShelfView). s.wrote) failed.others) in
        holds held (failed.others ∙ λ i. record files { held = is i; wrote = w i; faults = after.faults })

    by_objects : AppendLeaves (with_output files output chunks).held after.held output bytes → FilesLeft output files after
    by_objects (inl same) = so (concat chunks) same
    by_objects (inr (front, back, split, is)) = so (concat chunks ++ front) (is ∙ with_added-with_object files.held output (concat chunks) front)

-- ---- where copying stopped

module _ (output : List ℕ) (before after : Shelves) (absent : IsAbsent before.files output) where
  -- the files hold these chunks
  held_quiet : (chunks : List (List ℕ)) → after.files ≡ with_output before.files output chunks → after.files.faults ≡ before.files.faults
  held_quiet chunks is = ap (λ (s : ShelfView). s.faults) is

  stopped_chunk : (chunks : List (List ℕ)) (depot : ShelfView) (listed : Listed) (fault : RestoreFault) → Unchanged before.depot depot
      → StopsAtChunk output (record { files = with_output before.files output chunks; depot = depot }) after listed fault → Shows output before after (Err fault)
  stopped_chunk chunks depot listed fault so_far (not_read why is answer same) =
      subst (λ (f : RestoreFault). Shows output before after (Err f)) (sym is)
      (shows_chunk output before after depot listed why so_far answer (held_quiet chunks same) absent (held_chunks output before.files after.files chunks same))
  stopped_chunk chunks depot listed fault so_far (not_added bytes why is read failed) =
      let all = unchanged_then before.depot depot after.depot so_far (read_unchanged depot after.depot _ _ _ _ read.given) in
      subst (λ (f : RestoreFault). Shows output before after (Err f)) (sym is)
      (shows_output output before after why failed.count all.faults (record { files_left = held_front output before.files after.files chunks bytes why failed; depot_read = all.only }))

  stopped_manifest : (chunks : List (List ℕ)) (depot : ShelfView) (kept : KeptView) (fault : RestoreFault) → Unchanged before.depot depot
      → StopsAtManifest output (record { files = with_output before.files output chunks; depot = depot }) after kept fault → Shows output before after (Err fault)
  stopped_manifest chunks depot kept fault so_far (not_loaded why is answer same) =
      subst (λ (f : RestoreFault). Shows output before after (Err f)) (sym is)
      (shows_load output before after depot kept why so_far answer (held_quiet chunks same) absent (held_chunks output before.files after.files chunks same))
  stopped_manifest chunks depot kept fault so_far (in_chunks manifest loaded stop) =
      let mid = after_load depot kept manifest in
      let all = unchanged_then before.depot mid _ (unchanged_then before.depot depot mid so_far (read_unchanged depot mid _ _ _ _ loaded.given)) (chunks_unchanged mid stop.done) in
      stopped_chunk (chunks ++ bytes_of_chunks stop.done) (after_chunks mid stop.done) stop.listed fault all
      (subst (λ (f : ShelfView). StopsAtChunk output (record { files = f; depot = after_chunks mid stop.done }) after stop.listed fault)
      (more_output before.files output chunks (bytes_of_chunks stop.done)) stop.stops)

  stopped : (kepts : List KeptView) (fault : RestoreFault) → StopsInManifests output (record before { files = after_making before.files output }) after kepts fault → Shows output before after (Err fault)
  stopped kepts fault stop =
      let depot = after_manifests before.depot stop.done in
      stopped_manifest (bytes_of_manifests stop.done) depot stop.kept fault (manifests_unchanged before.depot stop.done)
      (subst (λ (f : ShelfView). StopsAtManifest output (record { files = f; depot = depot }) after stop.kept fault) (output-joined before.files output (bytes_of_manifests stop.done)) stop.stops)

  -- ---- and where it did not

  whole : (kepts : List KeptView) (count : ℕ) → AreManifestsCopied output (record before { files = after_making before.files output }) after kepts count → Shows output before after (Ok count)
  whole kepts count copy =
      let chunks = bytes_of_manifests copy.manifests in
      let is : after.files ≡ with_output before.files output chunks = copy.files ∙ output-joined before.files output chunks in
      let read : Unchanged before.depot after.depot = subst (λ (s : ShelfView). Unchanged before.depot s) (sym copy.depot) (manifests_unchanged before.depot copy.manifests) in
      let w = sym (ap (λ (s : ShelfView). s.wrote) is) in
      record {
        cause = absent;
        counts = (held_quiet chunks is, read.faults);
        files_left = record {
          bytes = concat chunks;
          held = is ∙ λ i. record before.files { held = with_object before.files.held output (concat chunks); wrote = w i };
          count_is = copy.count_is;
        };
        depot_read = read.only;
      }

  copied_shows : (kepts : List KeptView) (result : Result ℕ RestoreFault) → StreamCopy output before after kepts result → Shows output before after result
  copied_shows kepts result (not_made why is failed same) =
      let faults = ap (λ (s : ShelfView). s.faults) same in
      let read : Unchanged before.depot after.depot = subst (λ (s : ShelfView). Unchanged before.depot s) (sym same) (unchanged before.depot) in
      subst (λ (r : Result ℕ RestoreFault). Shows output before after r) (sym is)
      (shows_output output before after why failed.count faults (record { files_left = unmade failed.objects failed.others; depot_read = read.only }))
  copied_shows kepts (Ok count) (made copy) = whole kepts count copy
  copied_shows kepts (Err fault) (made stop) = stopped kepts fault stop

-- ---- a restore

-- all is as before
same_ends : (output : List ℕ) (before after : Shelves) → after ≡ before → Ends output before after
same_ends output before after same = subst (λ (s : Shelves). Ends output before s) (sym same) (record { files_left = as_before refl; depot_read = (unchanged before.depot).only })

pub shows : (calls : Calls → Type 0) (output : List ℕ) (before after : Shelves) (result : Result ℕ RestoreFault) → RestoreAnswer calls output before after result → Shows output before after result
shows calls output before after result (not_asked why is did failed same) =
    let faults = ap (λ (s : ShelfView). s.faults) same in
    let read : Unchanged before.depot after.depot = subst (λ (s : ShelfView). Unchanged before.depot s) (sym same) (unchanged before.depot) in
    let left : after.files ≡ record before.files { faults = after.files.faults } = failed.others ∙ λ i. record before.files { held = failed.objects i; faults = after.files.faults } in
    subst (λ (r : Result ℕ RestoreFault). Shows output before after r) (sym is)
    (shows_output output before after why failed.count faults (record { files_left = as_before left; depot_read = read.only }))
shows calls output before after result (exists is did there same) =
    let ends = same_ends output before after same in
    subst (λ (r : Result ℕ RestoreFault). Shows output before after r) (sym is)
    (record {
      cause = (there, same);
      counts = (ap (λ (s : Shelves). s.files.faults) same, ap (λ (s : Shelves). s.depot.faults) same);
      files_left = ends.files_left;
      depot_read = ends.depot_read;
    })
shows calls output before after result (not_looked why is did absent same) =
    subst (λ (r : Result ℕ RestoreFault). Shows output before after r) (sym is)
    (shows_look output before after why absent same (same_ends output before after same))
shows calls output before after result (copied found did absent copy) = copied_shows output before after absent found.manifests.items result copy
