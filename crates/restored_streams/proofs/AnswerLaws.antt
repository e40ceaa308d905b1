-- From what was read to what a restore answered.
use Rattle.std.proofs.Common.{◌≡◌, ℕ, true, List, length, map, Option, None, Some, sym, ap, ◌∙◌, subst}
use Rattle.std.specs.Prelude.{Ok}
use Rattle.std.specs.List.{concat}
use Rattle.std.specs.Option.{option_map}
use Rattle.journal_entry.specs.declared.entry.Entry.{Entry}
use Rattle.journal_entry.specs.declared.entry.Seen.{Seen}
use Rattle.history.specs.Sessions.{retained, reading_count, is_retained}
use Rattle.history.specs.Legal.{reply_to_look}
use Rattle.history_laws.proofs.Allowed.{retained_is}
use Rattle.store_core.specs.declared.values.Looked.{Looked}
use Rattle.store_core.specs.View.{StateView, KeptView, past_of, stream_kept}
use Rattle.store_core.specs.Answers.{LookAnswer}
use Rattle.outside.specs.Shelf.{with_object}
use Rattle.outside.specs.Views.{ShelfView}
use Rattle.restore.specs.Reads.{ManifestRead, AreManifestsRead, after_manifests, bytes_of_manifests}
use Rattle.restore.specs.Output.{with_output}
use Rattle.restore.specs.Copies.{Shelves, counted, StreamCopy}
use Rattle.restore.specs.Copies.StreamCopy.{not_made, made}
use Rattle.restore.specs.Restores.{StateCalls, RestoreAnswer}
use Rattle.restore.specs.Restores.RestoreAnswer.{not_asked, exists, not_looked, copied}
use Rattle.restore.proofs.OutputLaws.{output-joined}
use Rattle.restored_streams.specs.Restored.{HoldsBytes}

-- ---- what was copied

-- manifests that were read, and what the output holds of them
pub record IsCopyOf (output : List ℕ) (before after : Shelves) (kepts : List KeptView) (count : ℕ) : Type 0 where
  pub manifests : List ManifestRead
  pub kepts_are : map (λ (m : ManifestRead). m.kept) manifests ≡ kepts
  pub read : AreManifestsRead before.depot manifests
  pub depot : after.depot ≡ after_manifests before.depot manifests
  pub holds : HoldsBytes output (concat (bytes_of_manifests manifests)) before.files after.files count

holds_joined : (output : List ℕ) (chunks : List (List ℕ)) (before after : ShelfView) (count : ℕ) → after ≡ with_output before output chunks → count ≡ counted (length (concat chunks)) → HoldsBytes output (concat chunks) before after count
holds_joined output chunks before after count is many =
    let wrote = ap (λ (f : ShelfView). f.wrote) is in
    record { files = is ∙ (λ i. record before { held = with_object before.held output (concat chunks); wrote = sym wrote i }); count_is = many }

pub copy_of : (output : List ℕ) (before after : Shelves) (kepts : List KeptView) (count : ℕ) → StreamCopy output before after kepts (Ok count) → IsCopyOf output before after kepts count
copy_of output before after kepts count (not_made why is failed same) = absurd (cc)
copy_of output before after kepts count (made copy) = record {
  manifests = copy.manifests;
  kepts_are = copy.kepts_are;
  read = copy.read;
  depot = copy.depot;
  holds = holds_joined output (bytes_of_manifests copy.manifests) before.files after.files count (copy.files ∙ output-joined before.files output (bytes_of_manifests copy.manifests)) copy.count_is;
}

pub holds_other : (output one other : List ℕ) (before after : ShelfView) (count : ℕ) → one ≡ other → HoldsBytes output one before after count → HoldsBytes output other before after count
holds_other output one other before after count same holds = subst (λ (b : List ℕ). HoldsBytes output b before after count) same holds

-- ---- what was looked up

found_is : (reader : ℕ) (o : Option ℕ) (seen : Seen) → option_map (λ (s : ℕ). record { reader = reader; session = s }) o ≡ Some seen → o ≡ Some seen.session
found_is reader None seen is = absurd (cc)
found_is reader (Some s) seen is =
    let at : Seen = record { reader = reader; session = s } in
    let same : at ≡ seen = cc in
    ap (λ (x : Seen). Some x.session) same

reply_is : (name : List ℕ) (past : List Entry) (seen : Seen) → reply_to_look name past ≡ Some seen → retained name past ≡ Some seen.session
unfolding reply_to_look
reply_is name past seen is = found_is (reading_count past) (retained name past) seen is

-- the session under the name, and what was kept of its manifests
pub record IsFound (past : List Entry) (name : List ℕ) (found : Looked) : Type 0 where
  pub retained_is : retained name past ≡ Some found.session
  pub retained : is_retained found.session past ≡ true
  pub manifests : found.manifests.items ≡ stream_kept found.session past

pub look_found : (before after : StateView) (author : ℕ) (name : List ℕ) (found : Looked) → LookAnswer before after author name (Ok found) → IsFound (past_of before) name found
look_found before after author name found answer =
    let under = reply_is name (past_of before) (record { reader = found.reader; session = found.session }) answer.0 in
    record { retained_is = under; retained = (retained_is name found.session (past_of before) under).1; manifests = answer.1 }

-- ---- the answer

-- what an answer with a count did
pub record HasCopied (before : StateView) (name output : List ℕ) (files files' : Shelves) (count : ℕ) : Type 0 where
  pub found : Looked
  pub is_found : IsFound (past_of before) name found
  pub copy : StreamCopy output files files' found.manifests.items (Ok count)

pub answer_copied : (before after : StateView) (author : ℕ) (name output : List ℕ) (files files' : Shelves) (count : ℕ) → RestoreAnswer (StateCalls before author name after) output files files' (Ok count) → HasCopied before name output files files' count
answer_copied before after author name output files files' count (not_asked why is calls failed same) = absurd (cc)
answer_copied before after author name output files files' count (exists is calls there same) = absurd (cc)
answer_copied before after author name output files files' count (not_looked why is calls absent same) = absurd (cc)
answer_copied before after author name output files files' count (copied found calls absent copy) =
    record { found = found; is_found = look_found before calls.between author name found calls.looked; copy = copy }
