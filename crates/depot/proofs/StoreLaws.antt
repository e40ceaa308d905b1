-- Puts, one behind another.
use Rattle.std.proofs.Common.{◌≡◌, ℕ, ◌+◌, ◌<◌, List, [], ◌∷◌, ◌++◌, length, get_or, take, drop, map, refl, sym, ap, ◌∙◌, subst, append_assoc, take-append-drop}
use Rattle.std.proofs.lemmas.List.{take_more, map-append}
use Rattle.container_file.specs.declared.layout.Put.{Put}
use Rattle.container_file.specs.Layout.{written, Written}
use Rattle.outside.specs.Views.{ShelfView}
use Rattle.outside.specs.declared.trouble.Trouble.{Trouble}
use Rattle.depot.specs.Calls.{HasFailed}
use Rattle.depot.specs.Storing.{after_put, after_puts, PutLeaves, IsStopped}

after_puts-push : (shelf : ShelfView) (puts : List Written) (put : Written) → after_puts shelf (puts ++ put ∷ []) ≡ after_put (after_puts shelf puts) put
after_puts-push shelf [] put = refl
after_puts-push shelf (first ∷ puts) put = after_puts-push (after_put shelf first) puts put

-- the first puts, and one more
fronts : (puts : List Put) (i : ℕ) (put : Put) → i < length puts → put ≡ get_or puts i put → map written (take (i + 1) puts) ≡ map written (take i puts) ++ written put ∷ []
fronts puts i put within is =
    let more : take (i + 1) puts ≡ take i puts ++ put ∷ [] = take_more puts i put within ∙ ap (λ (p : Put). take i puts ++ p ∷ []) (sym is) in
    ap (map written) more ∙ map-append written (take i puts) (put ∷ [])

pub one_more_put : (before now after : ShelfView) (puts : List Put) (i : ℕ) (put : Put) → i < length puts → put ≡ get_or puts i put
    → now ≡ after_puts before (map written (take i puts)) → after ≡ after_put now (written put) → after ≡ after_puts before (map written (take (i + 1) puts))
one_more_put before now after puts i put within is so_far step =
    step
    ∙ ap (λ (s : ShelfView). after_put s (written put)) so_far
    ∙ sym (after_puts-push before (map written (take i puts)) (written put))
    ∙ ap (after_puts before) (sym (fronts puts i put within is))

-- the puts up to the one that failed, and those behind it
pub stopped_at : (before now after : ShelfView) (puts : List Put) (i : ℕ) (put : Put) (trouble : Trouble) → i < length puts → put ≡ get_or puts i put
    → now ≡ after_puts before (map written (take i puts)) → HasFailed (PutLeaves (written put)) now after trouble → IsStopped before after (map written puts) trouble
stopped_at before now after puts i put trouble within is so_far failed = record {
  done = map written (take i puts);
  put = written put;
  rest = map written (drop (i + 1) puts);
  puts_are =
      ap (map written) (sym (take-append-drop (i + 1) puts))
      ∙ map-append written (take (i + 1) puts) (drop (i + 1) puts)
      ∙ ap (λ (front : List Written). front ++ map written (drop (i + 1) puts)) (fronts puts i put within is)
      ∙ append_assoc (map written (take i puts)) (written put ∷ []) (map written (drop (i + 1) puts));
  failed = subst (λ (s : ShelfView). HasFailed (PutLeaves (written put)) s after trouble) so_far failed;
}
