-- Where fresh chunks go (this project's own).
use Rattle.std.specs.Prelude.{ℕ, ◌+◌, ◌-◌, Bool, ◌&&◌, nat_lt, nat_le, nat_eq, List, [], ◌∷◌, ◌++◌, map, if◌then◌else◌}
use Rattle.std.specs.List.{filter, flat_map, range_with_len}
use Rattle.ss_base.specs.declared.ids.ContainerId.{ContainerId}
use Rattle.ss_base.specs.declared.ids.Place.{Place}
use Rattle.ss_base.specs.declared.name.Piece.{Piece}
use Rattle.container_file.specs.declared.container_end.ContainerEnd.{ContainerEnd}
use Rattle.container_file.specs.declared.layout.Put.{Put}
use Rattle.container_file.specs.Chunk.{Chunk}
use Rattle.container_file.specs.Text.{header, record_text}

-- whether a record goes to the session's last container: there is one, and its size with the record is within room
abbrev pub fits : ContainerEnd → ℕ → Piece → Bool
fits end room p = nat_lt 0 end.containers && nat_le (end.used + 36 + p.len) room

-- the containers to whose last one a record goes: those that are there where it fits, else one more with its header
unfoldable pub opened : ContainerEnd → ℕ → Piece → ContainerEnd
opened end room p = if fits end room p then end else record { session = end.session; containers = end.containers + 1; used = 16 }

-- the containers once the record is laid out
unfoldable pub after : ContainerEnd → ℕ → Piece → ContainerEnd
after end room p =
    let to = opened end room p in record { session = to.session; containers = to.containers; used = to.used + 36 + p.len }

-- the place of the record's chunk: behind the record's length and name, at the end of the last container
unfoldable pub place_for : ContainerEnd → ℕ → Piece → Place
place_for end room p =
    let to = opened end room p in
    record { container = record { session = to.session; ordinal = to.containers - 1 }; offset = to.used + 36 }

-- a chunk and where it lies
pub record Laid : Type 0 where
  pub chunk : Chunk
  pub place : Place

-- fresh chunks, laid out in their order behind what is there
unfoldable pub laid : ContainerEnd → ℕ → List Chunk → List Laid
laid end room [] = []
laid end room (c ∷ cs) = record { chunk = c; place = place_for end room c.piece } ∷ laid (after end room c.piece) room cs

-- the places of fresh chunks
abbrev pub places : ContainerEnd → ℕ → List Chunk → List Place
places end room cs = map (λ l. l.place) (laid end room cs)

-- the containers once fresh chunks are laid out
unfoldable pub end_after : ContainerEnd → ℕ → List Chunk → ContainerEnd
end_after end room [] = end
end_after end room (c ∷ cs) = end_after (after end room c.piece) room cs

-- what is added to one container
pub record Written : Type 0 where
  pub container : ContainerId
  pub starts : Bool
  pub bytes : List ℕ

-- a put without where it lies in memory
abbrev pub written : Put → Written
written put = record { container = put.container; starts = put.starts; bytes = put.bytes.items }

-- the fresh chunks that lie in the container with this ordinal
abbrev pub laid_in : ℕ → List Laid → List Laid
laid_in o ls = filter (λ l. nat_eq l.place.container.ordinal o) ls

-- What fresh chunks add to the container with this ordinal: their records that lie in it, and before them its header
-- where it was not there.
unfoldable pub put_to : ContainerEnd → ℕ → List Chunk → ℕ → Written
put_to end room cs o =
    let id : ContainerId = record { session = end.session; ordinal = o } in
    let starts = nat_le end.containers o in
    record {
      container = id;
      starts = starts;
      bytes = (if starts then header id else []) ++ flat_map (λ l. record_text l.chunk) (laid_in o (laid end room cs));
    }

-- one put for each container that fresh chunks touch, from that of the first chunk to the last container
unfoldable pub puts : ContainerEnd → ℕ → List Chunk → List Written
puts end room [] = []
puts end room (c ∷ cs) =
    let first = (place_for end room c.piece).container.ordinal in
    map (put_to end room (c ∷ cs)) (range_with_len first ((end_after end room (c ∷ cs)).containers - first))
