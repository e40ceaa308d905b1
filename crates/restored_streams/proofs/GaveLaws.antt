-- The reads that a whole restore tells.
use Rattle.std.proofs.Common.{List, flat_map, ap, ◌∙◌}
use Rattle.std.specs.Prelude.{ℕ, Result, Ok, Err}
use Rattle.store_core.specs.View.{KeptView}
use Rattle.depot.specs.declared.fault.RestoreFault.{RestoreFault}
use Rattle.outside.specs.Views.{ShelfView}
use Rattle.restore.specs.Reads.{ManifestRead, after_manifest, after_manifests}
use Rattle.restore.specs.Copies.{Shelves, StreamCopy}
use Rattle.restore.specs.Restores.{Calls, RestoreAnswer}
use Rattle.restore.specs.Restores.RestoreAnswer.{not_asked, exists, not_looked, copied}
use Rattle.stored_streams.proofs.ToldLaws.{GaveMore, gave_same, gave_then}
use Rattle.restored_streams.proofs.AnswerLaws.{copy_of}
use Rattle.restored_streams.proofs.GivenLaws.{reads_for, gave_manifest, gave_manifests}
use Rattle.restored_streams.proofs.StopLaws.{Stop, stop_of}
use Rattle.restored_streams.proofs.StopLaws.Stop.{unmade, behind, within}

manifests_gave : (shelf : ShelfView) (ms : List ManifestRead) → GaveMore shelf (after_manifests shelf ms)
manifests_gave shelf ms = record { reads = flat_map reads_for ms; gave = gave_manifests shelf ms }

stop_gave : (output : List ℕ) (before after : Shelves) (kepts : List KeptView) → Stop output before after kepts → GaveMore before.depot after.depot
stop_gave output before after kepts (unmade leaves gave) = gave
stop_gave output before after kepts (behind done rest split are gave front) =
    gave_then before.depot (after_manifests before.depot done) after.depot (manifests_gave before.depot done) gave
stop_gave output before after kepts (within done m left rest split are part gave front) =
    let whole = after_manifests before.depot done in
    gave_then before.depot whole after.depot (manifests_gave before.depot done)
    (gave_then whole (after_manifest whole m) after.depot (record { reads = reads_for m; gave = gave_manifest whole m }) gave)

copy_gave : (output : List ℕ) (before after : Shelves) (kepts : List KeptView) (result : Result ℕ RestoreFault) → StreamCopy output before after kepts result → GaveMore before.depot after.depot
copy_gave output before after kepts (Ok count) copy =
    let is = copy_of output before after kepts count copy in
    record { reads = flat_map reads_for is.manifests; gave = ap (λ (s : ShelfView). s.gave) is.depot ∙ gave_manifests before.depot is.manifests }
copy_gave output before after kepts (Err fault) copy = stop_gave output before after kepts (stop_of output before after kepts fault copy)

pub answer_gave : (calls : Calls → Type 0) (output : List ℕ) (before after : Shelves) (result : Result ℕ RestoreFault) → RestoreAnswer calls output before after result → GaveMore before.depot after.depot
answer_gave calls output before after result (not_asked why is called failed same) = gave_same before.depot after.depot (ap (λ (s : ShelfView). s.gave) same)
answer_gave calls output before after result (exists is called there same) = gave_same before.depot after.depot (ap (λ (s : Shelves). s.depot.gave) same)
answer_gave calls output before after result (not_looked why is called absent same) = gave_same before.depot after.depot (ap (λ (s : Shelves). s.depot.gave) same)
answer_gave calls output before after result (copied found called absent copy) = copy_gave output before after found.manifests.items result copy
