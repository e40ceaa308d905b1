-- How a plan stands to the layout.
use Rattle.std.specs.Prelude.{◌≡◌, ◌⊎◌, ℕ, Bool, true, false, List, [], ◌∷◌, ◌++◌, map, if◌then◌else◌}
use Rattle.ss_base.specs.declared.ids.ContainerId.{ContainerId}
use Rattle.container_file.specs.declared.container_end.ContainerEnd.{ContainerEnd}
use Rattle.container_file.specs.declared.layout.Plan.{Plan}
use Rattle.container_file.specs.Chunk.{Chunk}
use Rattle.container_file.specs.Text.{header}
use Rattle.container_file.specs.Layout.{Written, written, puts, places, end_after}

-- the plan lays out these fresh chunks behind what was there
pub record IsLaidOut (end : ContainerEnd) (room : ℕ) (chunks : List Chunk) (plan : Plan) : Type 0 where
  pub puts_are : map written plan.puts.items ≡ puts end room chunks
  pub places_are : plan.places.items ≡ places end room chunks
  pub end_is : plan.end ≡ end_after end room chunks

-- a put that holds no record yet
abbrev pub new_put : ContainerId → Bool → Written
new_put id starts = record { container = id; starts = starts; bytes = if starts then header id else [] }

-- The put to which a record goes is taken from the end of the puts; one that starts a container, and the first, is
-- new.
pub data TakesPut (id : ContainerId) (starts : Bool) (old new : List Written) (put : Written) : Type 0 where
  last : starts ≡ false → old ≡ new ++ put ∷ [] → TakesPut id starts old new put
  fresh : (starts ≡ true) ⊎ (old ≡ []) → new ≡ old → put ≡ new_put id starts → TakesPut id starts old new put
