-- What a restore does to its output (this project's own).
use Rattle.std.specs.Prelude.{◌≡◌, ℕ, Bool, List, [], ◌∷◌, ◌++◌, map, IfSome, Result, Ok, Err}
use Rattle.std.specs.List.{concat}
use Rattle.std.specs.Option.{option_map}
use Rattle.std.specs.FinMap.{contains_key}
use Rattle.outside.specs.declared.trouble.Trouble.{Trouble}
use Rattle.outside.specs.Shelf.{with_object, write_of, Written, CreateLeaves}
use Rattle.outside.specs.Views.{ShelfView}
use Rattle.depot.specs.Calls.{after_create, after_append, HasFailed}

-- whether the output is there: nothing changes
abbrev pub HasAnswer : List ℕ → ShelfView → ShelfView → Result Bool Trouble → Type 0
HasAnswer output before after (Ok there) = IfSome before.held (λ objects. there ≡ contains_key objects output) × (after ≡ before)
HasAnswer output before after (Err why) = HasFailed (λ old new. new ≡ old) before after why

-- the output was made without bytes
abbrev pub after_making : ShelfView → List ℕ → ShelfView
after_making shelf output = after_create shelf output []

-- these chunks were added to the output, one behind another
abbrev pub after_adding : ShelfView → List ℕ → List (List ℕ) → ShelfView
after_adding shelf output [] = shelf
after_adding shelf output (chunk ∷ chunks) = after_adding (after_append shelf output chunk) output chunks

-- The output holds these chunks joined, and nothing else. It was made without bytes, and each chunk was written by a
-- call of its own.
abbrev pub with_output : ShelfView → List ℕ → List (List ℕ) → ShelfView
with_output shelf output chunks = record shelf {
  held = with_object shelf.held output (concat chunks);
  wrote = option_map (λ (ws : List Written). ws ++ write_of output [] ∷ map (write_of output) chunks) shelf.wrote;
}

-- After copying that stopped: the output could not be made, and is as it was, empty or absent; or it holds a front of
-- these bytes, and nothing else.
pub data HoldsFront (output : List ℕ) (before after : ShelfView) (bytes : List ℕ) : Type 0 where
  not_made : CreateLeaves before.held after.held output [] → HoldsFront output before after bytes
  holds : (front back : List ℕ) → bytes ≡ front ++ back → after.held ≡ with_object before.held output front → HoldsFront output before after bytes
