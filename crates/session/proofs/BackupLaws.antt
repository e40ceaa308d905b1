-- A backup, by what its input's shelf told before.
use Rattle.std.proofs.Common.{◌≡◌, ℕ, Bool, false, List, subst}
use Rattle.outside.specs.Shelf.{left_of}
use Rattle.outside.specs.Views.{ShelfView}
use Rattle.session.specs.Backup.{input_view, IsThere}

-- the input is as before where the files are
pub input_same : (before after : ShelfView) (input : List ℕ) → after.held ≡ before.held → after.faults ≡ before.faults → input_view after input ≡ input_view before input
input_same before after input held faults = λ i. record { left = left_of (held i) input 0; ended = false; faults = faults i }

pub there_is : (files : ShelfView) (input : List ℕ) (said there : Bool) → said ≡ there → IsThere files input said → IsThere files input there
there_is files input said there same is = subst (λ (b : Bool). IsThere files input b) same is
