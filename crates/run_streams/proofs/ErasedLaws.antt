-- What a run erased of its depot.
use Rattle.std.proofs.Common.{◌≡◌, ◌⊎◌, ℕ, ◌+◌, ◌-◌, ◌^◌, ◌<◌, ◌≤◌, List, [], ◌∷◌, ◌++◌, map, Option, Some, None, refl, sym, ap, ◌∙◌, subst, inl, inr, arith, append_assoc}
use Rattle.std.specs.Prelude.{Ok, Err}
use Rattle.std.proofs.lemmas.List.{append-nil, map-append, append_cancel_left}
use Rattle.std.proofs.lemmas.Grind.{flat_map-append}
use Rattle.ss_base.specs.declared.object.Object.{Object}
use Rattle.ss_base.specs.ObjectName.{object_text}
use Rattle.outside.specs.Faults.{Rose}
use Rattle.outside.specs.Views.{ShelfView, SinkView}
use Rattle.outside.specs.declared.trouble.Trouble.{Trouble}
use Rattle.outside.specs.declared.trouble.Trouble.TheVariants as trouble
use Rattle.journal_entry.specs.declared.entry.Entry.{Entry}
use Rattle.journal_file.specs.Cause.{AppendCount}
use Rattle.journal_file.specs.declared.fault.AppendFault.TheVariants as added
use Rattle.store_core.specs.declared.fault.PointFault.TheVariants as point
use Rattle.store_core.specs.View.{StateView, made}
use Rattle.store_core.specs.Answers.{reclaim_entry}
use Rattle.restore.specs.Copies.{Shelves}
use Rattle.stored_streams.proofs.ToldLaws.{with_more, more_none, more_then}
use Rattle.report.specs.declared.answer.JobAnswer.{JobAnswer}
use Rattle.report.specs.declared.answer.JobAnswer.TheVariants as job
use Rattle.report.specs.declared.answer.ReclaimFault.TheVariants as reclaim
use Rattle.job_script.specs.declared.job.JobKind.{JobKind}
use Rattle.job_script.specs.declared.job.JobKind.TheVariants.{Backup, Restore, Delete, Reclaim, Stat}
use Rattle.job_run.specs.Erasing.{worse, IsErased, AreErased, HasReclaimed, LastReclaim, ReclaimsDone}
use Rattle.job_run.specs.Erasing.HasReclaimed.{none, more}
use Rattle.job_run.specs.Erasing.LastReclaim.{few, troubled, unmade}
use Rattle.store_run.specs.JobRun.{Kept, HasDoneJob}
use Rattle.run_streams.proofs.KeepLaws.{keep_erased}
use Rattle.run_streams.specs.Erased.{objects_in, reclaimed, AreAllBut, RoseBy, HasErased, OnlyReadsDepot}

-- ---- all names but some

all_but_both : (m k : ℕ) (names others all rest : List (List ℕ)) → AreAllBut m names all → AreAllBut k others rest → AreAllBut (m + k) (names ++ others) (all ++ rest)
all_but_both m k names others [] rest (is, none_missing) two =
    subst (λ (l : List (List ℕ)). AreAllBut (m + k) l rest) (ap (λ (l : List (List ℕ)). l ++ others) (sym is))
    (subst (λ (q : ℕ). AreAllBut q others rest) (omega (arith, none_missing)) two)
all_but_both m k names others (one ∷ all) rest first two = elim first [
  | inl there ↦
      let (left, is, others_are) = there in
      inl (left ++ others, ap (λ (l : List (List ℕ)). l ++ others) is, all_but_both m k left others all rest others_are two)
  | inr gone ↦
      let (fewer, is, others_are) = gone in
      inr (fewer + k, omega (arith, is), all_but_both fewer k names others all rest others_are two)
]

-- ---- counts that rose

rose_once : (last m f g h : ℕ) → (f < g) ⊎ (last ≤ g) → (g + m ≤ h) ⊎ (last ≤ h) → (f + (m + 1) ≤ h) ⊎ (last ≤ h)
rose_once last m f g h (inl once) (inl more_too) = inl (omega (arith, once, more_too))
rose_once last m f g h (inl once) (inr full) = inr full
rose_once last m f g h (inr full) (inl more_too) = inr (omega (arith, full, more_too))
rose_once last m f g h (inr full) (inr full_too) = inr full_too

rose_both : (last m k f g h : ℕ) → (f + m ≤ g) ⊎ (last ≤ g) → (g + k ≤ h) ⊎ (last ≤ h) → (f + (m + k) ≤ h) ⊎ (last ≤ h)
rose_both last m k f g h (inl first) (inl second) = inl (omega (arith, first, second))
rose_both last m k f g h (inl first) (inr full) = inr full
rose_both last m k f g h (inr full) (inl second) = inr (omega (arith, full, second))
rose_both last m k f g h (inr full) (inr full_too) = inr full_too

abbrev most : ℕ
most = 2 ^ 64 - 1

-- ---- one list of objects

record Erases (objects : List Object) (met : Option Trouble) (before after : ShelfView) : Type 0 where
  names : List (List ℕ)
  erased : after.erased ≡ with_more before.erased names
  missing : ℕ
  names_are : AreAllBut missing names (map object_text objects)
  counted : (met ≡ Some trouble.Memory) ⊎ RoseBy missing before.faults after.faults

erases_nothing : (before after : ShelfView) (met : Option Trouble) → after ≡ before → Erases [] met before after
erases_nothing before after met same =
    let faults = ap (λ (d : ShelfView). d.faults) same in
    record {
      names = [];
      erased = ap (λ (d : ShelfView). d.erased) same ∙ more_none before.erased;
      missing = 0;
      names_are = (refl, refl);
      counted = inr (inl (omega (arith, faults)));
    }

module _ (before between after : ShelfView) (object : Object) (objects : List Object) (rest met : Option Trouble) (then : Erases objects rest between after) where
  erased_one : between.erased ≡ with_more before.erased (object_text object ∷ []) → between.faults ≡ before.faults → met ≡ rest → Erases (object ∷ objects) met before after
  erased_one is same met_is = record {
    names = object_text object ∷ then.names;
    erased = then.erased ∙ ap (λ (told : Option (List (List ℕ))). with_more told then.names) is ∙ more_then before.erased (object_text object ∷ []) then.names;
    missing = then.missing;
    names_are = inl (then.names, refl, then.names_are);
    counted = elim then.counted [
      | inl wanted ↦ inl (met_is ∙ wanted)
      | inr rose ↦ inr (subst (λ (f : ℕ). RoseBy then.missing f after.faults) same rose)
    ];
  }

  missed_one : between.erased ≡ before.erased → (met ≡ Some trouble.Memory) ⊎ (Rose before.faults between.faults × (met ≡ worse (Some trouble.Fault) rest)) → Erases (object ∷ objects) met before after
  missed_one is why = record {
    names = then.names;
    erased = then.erased ∙ ap (λ (told : Option (List (List ℕ))). with_more told then.names) is;
    missing = then.missing + 1;
    names_are = inr (then.missing, refl, then.names_are);
    counted = elim why [
      | inl wanted ↦ inl wanted
      | inr failed ↦ elim then.counted [
        | inl wanted ↦ inl (failed.1 ∙ ap (worse (Some trouble.Fault)) wanted)
        | inr rose ↦ inr (rose_once most then.missing before.faults between.faults after.faults failed.0 rose)
      ]
    ];
  }

  one_more_erased : (first : Option Trouble) → IsErased before between object first → met ≡ worse first rest → Erases (object ∷ objects) met before after
  one_more_erased None is met_is = erased_one (ap (λ (d : ShelfView). d.erased) is) (ap (λ (d : ShelfView). d.faults) is) met_is
  one_more_erased (Some trouble.Fault) is met_is = missed_one (ap (λ (d : ShelfView). d.erased) is.others) (inr (is.count.1, met_is))
  one_more_erased (Some trouble.Memory) is met_is = missed_one (ap (λ (d : ShelfView). d.erased) is.others) (inl met_is)

erases : (before after : ShelfView) (objects : List Object) (met : Option Trouble) → AreErased before after objects met → Erases objects met before after
erases before after [] met (same, no_trouble) = erases_nothing before after met same
erases before after (object ∷ objects) met (between, first, rest, first_is, rest_are, met_is) =
    one_more_erased before between after object objects rest met (erases between after objects rest rest_are) first first_is met_is

-- one list behind another, all of which was erased but for faults
erases_both : (objects others : List Object) (met : Option Trouble) (before between after : ShelfView) → Erases objects None before between → Erases others met between after → Erases (objects ++ others) met before after
erases_both objects others met before between after first second = record {
  names = first.names ++ second.names;
  erased = second.erased ∙ ap (λ (told : Option (List (List ℕ))). with_more told second.names) first.erased ∙ more_then before.erased first.names second.names;
  missing = first.missing + second.missing;
  names_are =
      subst (λ (all : List (List ℕ)). AreAllBut (first.missing + second.missing) (first.names ++ second.names) all) (sym (map-append object_text objects others))
      (all_but_both first.missing second.missing first.names second.names (map object_text objects) (map object_text others) first.names_are second.names_are);
  counted = elim first.counted [
    | inl wanted ↦ absurd (cc)
    | inr rose ↦ elim second.counted [
      | inl wanted ↦ inl wanted
      | inr rose_too ↦ inr (rose_both most first.missing second.missing before.faults between.faults after.faults rose rose_too)
    ]
  ];
}

-- ---- reclaims, one behind another

record ErasesSo (old new : StateView) (met : Option Trouble) (depot depot' : ShelfView) : Type 0 where
  entries : List Entry
  entries_are : new.entries ≡ old.entries ++ entries
  erases : Erases (reclaimed entries) met depot depot'

none_reclaimed : (old new : StateView) (met : Option Trouble) (depot depot' : ShelfView) → new ≡ old → depot' ≡ depot → ErasesSo old new met depot depot'
none_reclaimed old new met depot depot' same same_shelf = record {
  entries = [];
  entries_are = ap (λ (v : StateView). v.entries) same ∙ sym (append-nil old.entries);
  erases = erases_nothing depot depot' met same_shelf;
}

one_reclaimed : (author : ℕ) (old new : StateView) (met : Option Trouble) (depot depot' : ShelfView) (objects : List Object) → objects ≡ objects_in (reclaim_entry old author).point → new.entries ≡ old.entries ++ reclaim_entry old author ∷ []
    → AreErased depot depot' objects met → ErasesSo old new met depot depot'
one_reclaimed author old new met depot depot' objects are added erased = record {
  entries = reclaim_entry old author ∷ [];
  entries_are = added;
  erases =
      subst (λ (all : List Object). Erases all met depot depot') (are ∙ sym (append-nil (objects_in (reclaim_entry old author).point))) (erases depot depot' objects met erased);
}

reclaimed_both : (old between new : StateView) (met : Option Trouble) (depot shelf depot' : ShelfView) → ErasesSo old between None depot shelf → ErasesSo between new met shelf depot' → ErasesSo old new met depot depot'
reclaimed_both old between new met depot shelf depot' first second = record {
  entries = first.entries ++ second.entries;
  entries_are = second.entries_are ∙ ap (λ (es : List Entry). es ++ second.entries) first.entries_are ∙ append_assoc old.entries first.entries second.entries;
  erases =
      subst (λ (all : List Object). Erases all met depot depot') (sym (flat_map-append (λ (entry : Entry). objects_in entry.point) first.entries second.entries))
      (erases_both (reclaimed first.entries) (reclaimed second.entries) met depot shelf depot' first.erases second.erases);
}

earlier_erase : (author : ℕ) (old : StateView) (depot : ShelfView) (new : StateView) (depot' : ShelfView) → HasReclaimed author old depot new depot' → ErasesSo old new None depot depot'
earlier_erase author old depot new depot' none = none_reclaimed old old None depot depot refl refl
earlier_erase author old depot new depot' (more between after_it shelf shelf' removals earlier answer full erased) =
    reclaimed_both old between after_it None depot shelf shelf' (earlier_erase author old depot between shelf earlier)
    (one_reclaimed author between after_it None shelf shelf' removals.items answer.0 (ap (λ (v : StateView). v.entries) answer.1.added) erased)

-- the last one, with what its answer says of want of memory
record LastErases (author : ℕ) (old new : StateView) (depot depot' : ShelfView) (answer : JobAnswer) : Type 0 where
  met : Option Trouble
  so : ErasesSo old new met depot depot'
  wanted : met ≡ Some trouble.Memory → answer ≡ job.Reclaim reclaim.Memory

last_erases : (author : ℕ) (old new : StateView) (depot depot' : ShelfView) (answer : JobAnswer) → LastReclaim author old new depot depot' answer → LastErases author old new depot depot' answer
last_erases author old new depot depot' answer (few removals answer_is reclaims fewer erased) = record {
  met = None;
  so = one_reclaimed author old new None depot depot' removals.items reclaims.0 (ap (λ (v : StateView). v.entries) reclaims.1.added) erased;
  wanted = λ is. absurd (cc);
}
last_erases author old new depot depot' answer (troubled removals trouble.Fault answer_is reclaims erased) = record {
  met = Some trouble.Fault;
  so = one_reclaimed author old new (Some trouble.Fault) depot depot' removals.items reclaims.0 (ap (λ (v : StateView). v.entries) reclaims.1.added) erased;
  wanted = λ is. absurd (cc);
}
last_erases author old new depot depot' answer (troubled removals trouble.Memory answer_is reclaims erased) = record {
  met = Some trouble.Memory;
  so = one_reclaimed author old new (Some trouble.Memory) depot depot' removals.items reclaims.0 (ap (λ (v : StateView). v.entries) reclaims.1.added) erased;
  wanted = λ is. answer_is;
}
last_erases author old new depot depot' answer (unmade point.Full answer_is refused same) =
    record { met = None; so = none_reclaimed old new None depot depot' refused.same same; wanted = λ is. absurd (cc) }
last_erases author old new depot depot' answer (unmade point.Memory answer_is refused same) =
    record { met = None; so = none_reclaimed old new None depot depot' refused same; wanted = λ is. absurd (cc) }

-- ---- a run

full_too : (last done after : ℕ) → last ≤ done → done < after → last ≤ after
full_too last done after full once = omega (arith, full, once)

rose_kept : (kept : Kept) (least before done after : ℕ) → RoseBy least before done → AppendCount kept done after → RoseBy least before after
rose_kept (Ok tt) least before done after rose same = subst (λ (f : ℕ). RoseBy least before f) (sym same) rose
rose_kept (Err added.Memory) least before done after rose same = subst (λ (f : ℕ). RoseBy least before f) (sym same) rose
rose_kept (Err added.Shelf) least before done after rose (inr full) = inr full
rose_kept (Err added.Shelf) least before done after (inl rose) (inl once) = inl (omega (arith, rose, once))
rose_kept (Err added.Shelf) least before done after (inr full) (inl once) = inr (full_too most done after full once)

pub reclaim_erased : (before after : Shelves) (sink sink' : SinkView) (status : ℕ) (done : HasDoneJob Reclaim before after sink sink' status) → HasErased (map (made done.author) done.points) done.answer before.depot after.depot
reclaim_erased before after sink sink' status done =
    let is : ReclaimsDone done.author done.store done.new done.opened.depot done.done.depot done.answer = done.job.0 in
    let last = last_erases done.author is.between done.new is.shelf done.done.depot done.answer is.last in
    let all = reclaimed_both done.store is.between done.new last.met done.opened.depot is.shelf done.done.depot (earlier_erase done.author done.store done.opened.depot is.between is.shelf is.earlier) last.so in
    let entries = map (made done.author) done.points in
    let same : entries ≡ all.entries = append_cancel_left done.store.entries entries all.entries (sym (ap (λ (v : StateView). v.entries) done.added) ∙ all.entries_are) in
    let it = all.erases in
    record {
      names = it.names;
      erased =
          keep_erased done.done.depot after.depot entries done.ending.kept done.ending.keeps
          ∙ it.erased
          ∙ ap (λ (told : Option (List (List ℕ))). with_more told it.names) done.opens.only_reads.erased;
      missing = it.missing;
      names_are = subst (λ (es : List Entry). AreAllBut it.missing it.names (map object_text (reclaimed es))) (sym same) it.names_are;
      counted = elim it.counted [
        | inl wanted ↦ inl (last.wanted wanted)
        | inr rose ↦ inr (
            subst (λ (f : ℕ). RoseBy it.missing f after.depot.faults) done.opens.count
            (rose_kept done.ending.kept it.missing done.opened.depot.faults done.done.depot.faults after.depot.faults rose done.ending.keep_count))
      ];
    }

job_erased : (kind : JobKind) (before after : Shelves) (sink sink' : SinkView) (status : ℕ) (done : HasDoneJob kind before after sink sink' status) → OnlyReadsDepot kind → done.done.depot.erased ≡ done.opened.depot.erased
job_erased (Backup input name) before after sink sink' status done reads = absurd reads
job_erased Reclaim before after sink sink' status done reads = absurd reads
job_erased (Restore name output) before after sink sink' status done reads = done.job.depot.erased
job_erased (Delete name) before after sink sink' status done reads = ap (λ (s : Shelves). s.depot.erased) done.job.1
job_erased Stat before after sink sink' status done reads = ap (λ (s : Shelves). s.depot.erased) done.job.1

pub others_erased : (kind : JobKind) (before after : Shelves) (sink sink' : SinkView) (status : ℕ) (done : HasDoneJob kind before after sink sink' status) → OnlyReadsDepot kind → after.depot.erased ≡ before.depot.erased
others_erased kind before after sink sink' status done reads =
    keep_erased done.done.depot after.depot (map (made done.author) done.points) done.ending.kept done.ending.keeps
    ∙ job_erased kind before after sink sink' status done reads
    ∙ done.opens.only_reads.erased
