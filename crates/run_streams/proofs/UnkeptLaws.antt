-- What a run leaves whose entries were not kept.
use Rattle.std.proofs.Common.{◌≡◌, ℕ, true, List, [], ◌∷◌, ◌++◌, reverse, map, Option, Some, refl, sym, ap, ◌∙◌, subst, inl, inr, append-nil}
use Rattle.std.specs.Prelude.{Err}
use Rattle.std.specs.FinMap as map_of
use Rattle.std.proofs.lemmas.Bool.{cases_Bool, and_parts}
use Rattle.std.proofs.lemmas.List.{reverse-append}
use Rattle.ss_base.specs.declared.ids.ManifestId.{ManifestId}
use Rattle.ss_base.specs.declared.ids.Place.{Place}
use Rattle.ss_base.specs.declared.profile.Numbers.{Numbers}
use Rattle.ss_base.specs.Profile.{numbers_of}
use Rattle.manifest_codec.specs.Text.{manifest_text}
use Rattle.outside.specs.Shelf.{Objects, bytes_of, with_added, AppendLeaves}
use Rattle.outside.specs.Views.{ShelfView, SinkView}
use Rattle.outside.proofs.ObjectLaws.{bytes_of-insert_same}
use Rattle.journal_entry.specs.declared.entry.Entry.{Entry}
use Rattle.journal_entry.specs.EntryText.{entries_text}
use Rattle.history.specs.declared.rules.Rules.{Rules}
use Rattle.history.specs.Legal.{is_legal}
use Rattle.history.specs.Need.{commits_manifest, is_live}
use Rattle.history.specs.Sessions.{has}
use Rattle.history_laws.proofs.Allowed.{IsStep, step}
use Rattle.history_laws.proofs.OnceLaws.{never_twice}
use Rattle.history_laws.proofs.SessionLaws.{has_older}
use Rattle.journal_file.specs.Header.{journal_name}
use Rattle.journal_file.specs.declared.fault.AppendFault.{AppendFault}
use Rattle.store_core.specs.View.{StateView, past_of, rules_of, made}
use Rattle.restore.specs.Copies.{Shelves}
use Rattle.stored_streams.specs.Streams.{Streams, manifest_pieces}
use Rattle.stored_streams.specs.Plans.{planned_places, plans_of, text_of}
use Rattle.stored_streams.specs.OfStreams.{IsOfStreams}
use Rattle.stored_streams.specs.Whole.{IsWhole}
use Rattle.stored_streams.proofs.PlanLaws.{places_stay}
use Rattle.backed_up_streams.specs.WholeThen.{IsWholeThen}
use Rattle.job_script.specs.declared.job.JobKind.{JobKind}
use Rattle.store_run.specs.JobRun.{KeepAnswer, HasDoneJob}
use Rattle.run_streams.specs.RunStreams.{HasInput}
use Rattle.run_streams.specs.Unkept.{IsStillWhole, KeepsLive}
use Rattle.run_streams.specs.WholeStores.{IsWholeStore}
use Rattle.run_streams.proofs.OpenedLaws.{told_store}
use Rattle.run_streams.proofs.WholeRunLaws.{job_whole, no_journal, whole_journal, one_store}

-- ---- the places and the text of a committed manifest stay

module _ (n : Numbers) (streams : Streams) (rules : Rules) (id : ManifestId) where
  places_with : (entry : Entry) (past : List Entry) → IsStep rules entry past → has (commits_manifest id) past ≡ true → planned_places id (plans_of n streams (entry ∷ past)) ≡ planned_places id (plans_of n streams past)
  unfolding plans_of
  places_with entry past now committed = elim (cases_Bool (commits_manifest id entry.point)) [
    | inl again ↦ absurd (never_twice rules id entry past now again committed)
    | inr other ↦ places_stay n streams past id entry.point (plans_of n streams past) other
  ]

  module _ (older : List Entry) (committed : has (commits_manifest id) older ≡ true) where
    committed_behind : (newer : List Entry) → has (commits_manifest id) (newer ++ older) ≡ true
    committed_behind [] = committed
    committed_behind (entry ∷ newer) = has_older (commits_manifest id) entry (newer ++ older) (committed_behind newer)

    places_behind : (newer : List Entry) → is_legal rules (newer ++ older) ≡ true → planned_places id (plans_of n streams (newer ++ older)) ≡ planned_places id (plans_of n streams older)
    places_behind [] legal = refl
    places_behind (entry ∷ newer) legal =
        let now = step rules entry (newer ++ older) legal in
        places_with entry (newer ++ older) now (committed_behind newer) ∙ places_behind newer now.legal

text_at : (n : Numbers) (streams : Streams) (id : ManifestId) (past older : List Entry) → planned_places id (plans_of n streams past) ≡ planned_places id (plans_of n streams older) → text_of n streams id past ≡ text_of n streams id older
unfolding text_of
text_at n streams id past older same = ap (λ (places : List Place). manifest_text (manifest_pieces n streams id) places) same

live_committed : (id : ManifestId) (past : List Entry) → is_live id past ≡ true → has (commits_manifest id) past ≡ true
unfolding is_live
live_committed id past live = (and_parts _ _ live).0

still_whole : (n : Numbers) (streams : Streams) (rules : Rules) (newer older past : List Entry) (before now : Objects) → past ≡ newer ++ older → is_legal rules past ≡ true → IsWhole n streams older before → IsWhole n streams past now
    → (id : ManifestId) → is_live id older ≡ true → is_live id past ≡ true → IsStillWhole n streams older past before now id
still_whole n streams rules newer older past before now past_is legal was is id live live_now =
    let behind = places_behind n streams rules id older (live_committed id older live) newer (subst (λ (p : List Entry). is_legal rules p ≡ true) past_is legal) in
    let places : planned_places id (plans_of n streams past) ≡ planned_places id (plans_of n streams older) = ap (λ (p : List Entry). planned_places id (plans_of n streams p)) past_is ∙ behind in
    let whole = is.manifests id live_now in
    record {
      whole = whole;
      text = whole.text ∙ text_at n streams id past older places ∙ sym (was.manifests id live).text;
      places = places;
    }

-- ---- a front of the new entries' texts stands behind the journal

record IsLeft (n : Numbers) (streams : Streams) (past new : List Entry) (first : Objects) (after : ShelfView) : Type 0 where
  now : Objects
  held_is : after.held ≡ Some now
  whole : IsWhole n streams past now
  front : List ℕ
  back : List ℕ
  texts : entries_text new ≡ front ++ back
  journal : bytes_of now journal_name ≡ bytes_of first journal_name ++ front

left_so : (n : Numbers) (streams : Streams) (past new : List Entry) (first : Objects) (depot after : ShelfView)
    → AppendLeaves depot.held after.held journal_name (entries_text new) → IsWholeThen n streams past first depot → IsLeft n streams past new first after
left_so n streams past new first depot after (inl same) is = record {
  now = is.now;
  held_is = same ∙ is.held_is;
  whole = is.whole;
  front = [];
  back = entries_text new;
  texts = refl;
  journal = is.others journal_name no_journal ∙ sym (append-nil (bytes_of first journal_name));
}
left_so n streams past new first depot after (inr (front, back, texts, added)) is =
    let text = bytes_of is.now journal_name ++ front in
    record {
      now = map_of.insert is.now journal_name text;
      held_is = added ∙ ap (λ (h : Option Objects). with_added h journal_name front) is.held_is;
      whole = whole_journal n streams past is.now text is.whole;
      front = front;
      back = back;
      texts = texts;
      journal = bytes_of-insert_same is.now journal_name text ∙ ap (λ (b : List ℕ). b ++ front) (is.others journal_name no_journal);
    }

-- ---- a run

pub live_kept : (kind : JobKind) (streams : Streams) (store : StateView) (before after : Shelves) (sink sink' : SinkView) (status : ℕ) (fault : AppendFault) (done : HasDoneJob kind before after sink sink' status) → done.ending.kept ≡ Err fault → (is : IsWholeStore streams before.depot store)
    → HasInput kind streams before.files (past_of done.store) (past_of done.new)
    → KeepsLive (numbers_of store.profile) streams (past_of store) (past_of done.new) (map (made done.author) done.points) is.objects after.depot
live_kept kind streams store before after sink sink' status fault done failed is input_is =
    let opened = told_store before.depot done.opened.depot done.store is.objects done.opens is.told in
    let same : done.store ≡ store = one_store (bytes_of is.objects journal_name) done.store store opened.journal is.journal in
    let n = numbers_of done.store.profile in
    let new = map (made done.author) done.points in
    let keeps : KeepAnswer done.done.depot after.depot new (Err fault) = subst (KeepAnswer done.done.depot after.depot new) failed done.ending.keeps in
    let was = subst (λ (s : StateView). IsOfStreams (numbers_of s.profile) streams (past_of s)) (sym same) is.of_streams in
    let whole = subst (λ (s : StateView). IsWhole (numbers_of s.profile) streams (past_of s) is.objects) (sym same) is.whole in
    let then_whole = job_whole kind streams before after sink sink' status done is.objects is.told input_is was whole in
    let left = left_so n streams (past_of done.new) new is.objects done.done.depot after.depot keeps.0 then_whole in
    subst (λ (s : StateView). KeepsLive (numbers_of s.profile) streams (past_of s) (past_of done.new) new is.objects after.depot) same
    (record {
      now = left.now;
      held_is = left.held_is;
      live = still_whole n streams (rules_of 8 8 done.new) (reverse new) (past_of done.store) (past_of done.new) is.objects left.now (ap past_of done.added ∙ reverse-append done.store.entries new) done.legal whole left.whole;
      whole = left.whole;
      front = left.front;
      back = left.back;
      texts = left.texts;
      journal = left.journal;
    })
