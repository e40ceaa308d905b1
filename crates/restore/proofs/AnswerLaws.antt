-- Answers of a restore, and what shows of them.
use Rattle.std.proofs.Common.{◌≡◌, ℕ, Bool, false, List, [], sym, ap, ◌∙◌, subst, Option, None, Some, IfSome}
use Rattle.std.specs.Prelude.{Result, Ok, Err}
use Rattle.std.specs.FinMap.{contains_key}
use Rattle.store_core.specs.declared.values.Looked.{Looked}
use Rattle.store_core.specs.View.{StateView, KeptView, made, Adds}
use Rattle.store_core.specs.Answers.{LookAnswer}
use Rattle.journal_entry.specs.declared.entry.Point.TheVariants.{Done}
use Rattle.history_calls.specs.Tokens.{IdleView}
use Rattle.outside.specs.Shelf.{Objects}
use Rattle.outside.specs.Views.{ShelfView}
use Rattle.depot.specs.declared.fault.RestoreFault.{RestoreFault}
use Rattle.restore.specs.Copies.{Shelves, StreamCopy}
use Rattle.restore.specs.Restores.{Calls, CallsOf, StateCalls, IsAbsent, RestoreAnswer}
use Rattle.restore.specs.Restores.Calls.{no_call, refused, looked_and_done}
use Rattle.restore.specs.Restores.RestoreAnswer.{not_asked, exists, not_looked, copied}
use Rattle.restore.proofs.AloneLaws.{own_turn}

-- ---- what a restore meets

pub is_absent : (files : ShelfView) (output : List ℕ) (there : Bool) → there ≡ false → IfSome files.held (λ objects. there ≡ contains_key objects output) → IsAbsent files output
is_absent files output there isnt told = by_held files.held told
  where
    by_held : (held : Option Objects) → IfSome held (λ objects. there ≡ contains_key objects output) → IfSome held (λ objects. contains_key objects output ≡ false)
    by_held None told = tt
    by_held (Some objects) told = sym told ∙ isnt

pub same_files : (before : Shelves) (files : ShelfView) → files ≡ before.files → record before { files = files } ≡ before
same_files before files same = λ i. record before { files = same i }

pub copied_from : (output : List ℕ) (before : Shelves) (files : ShelfView) (after : Shelves) (lent : Looked) (kepts : List KeptView) (found : Looked) (result : Result ℕ RestoreFault)
    → files ≡ before.files → kepts ≡ lent.manifests.items → lent ≡ found
    → StreamCopy output (record before { files = files }) after kepts result → StreamCopy output before after found.manifests.items result
copied_from output before files after lent kepts found result same items is copy =
    subst (λ (ks : List KeptView). StreamCopy output before after ks result) (items ∙ ap (λ (l : Looked). l.manifests.items) is)
    (subst (λ (s : Shelves). StreamCopy output s after kepts result) (same_files before files same) copy)

-- ---- the calls of a state

solo_calls : (standings champions author author' : ℕ) (name : List ℕ) (old new : StateView) (calls : Calls)
    → CallsOf (λ came. came ≡ []) standings champions (record { author = author; seen = old }) name (record { author = author'; seen = new }) calls
    → StateCalls old author name new calls
solo_calls standings champions author author' name old new no_call same = ap (λ (v : IdleView). v.seen) same
solo_calls standings champions author author' name old new (refused why) turned =
    subst (λ (t : StateView). LookAnswer t new author name (Err why)) (own_turn standings champions author old turned.at_turn.turn turned.at_turn.is_turn) turned.at_turn.done
solo_calls standings champions author author' name old new (looked_and_done found) did =
    let reading = did.reading in
    let look = did.looked.at_turn in
    let ending = did.ended.at_turn in
    record {
      between = reading.seen;
      looked = subst (λ (l : Looked). LookAnswer old reading.seen author name (Ok l)) did.found_is
          (subst (λ (t : StateView). LookAnswer t reading.seen author name (Ok reading.looked)) (own_turn standings champions author old look.turn look.is_turn) look.done);
      ended = subst (λ (l : Looked). Adds reading.seen new (made author (Done l.reader))) did.found_is
          (subst (λ (a : ℕ). Adds reading.seen new (made a (Done reading.looked.reader))) did.looked.author
          (subst (λ (t : StateView). Adds t new (made reading.author (Done reading.looked.reader))) (own_turn standings champions reading.author reading.seen ending.turn ending.is_turn) ending.done));
    }

with_calls : (calls others : Calls → Type 0) (output : List ℕ) (before after : Shelves) (result : Result ℕ RestoreFault)
    → ((c : Calls) → calls c → others c) → RestoreAnswer calls output before after result → RestoreAnswer others output before after result
with_calls calls others output before after result each (not_asked why is made_calls failed same) = not_asked why is (each no_call made_calls) failed same
with_calls calls others output before after result each (exists is made_calls there same) = exists is (each no_call made_calls) there same
with_calls calls others output before after result each (not_looked why is made_calls absent same) = not_looked why is (each (refused why) made_calls) absent same
with_calls calls others output before after result each (copied found made_calls absent copy) = copied found (each (looked_and_done found) made_calls) absent copy

-- what the one caller of a state did
abbrev pub OwnCalls : ℕ → ℕ → ℕ → ℕ → List ℕ → StateView → StateView → Calls → Type 0
OwnCalls standings champions author author' name old new calls =
    CallsOf (λ came. came ≡ []) standings champions (record { author = author; seen = old }) name (record { author = author'; seen = new }) calls

pub solo_answer : (standings champions author author' : ℕ) (name : List ℕ) (old new : StateView) (output : List ℕ) (before after : Shelves) (result : Result ℕ RestoreFault)
    → RestoreAnswer (OwnCalls standings champions author author' name old new) output before after result → RestoreAnswer (StateCalls old author name new) output before after result
solo_answer standings champions author author' name old new output before after result answer =
    with_calls (OwnCalls standings champions author author' name old new) (StateCalls old author name new) output before after result
    (solo_calls standings champions author author' name old new) answer
