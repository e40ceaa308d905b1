-- The pieces part of a manifest's text (this project's own).
use Rattle.std.specs.Prelude.{ℕ, List, ◌++◌}
use Rattle.std.specs.List.{flat_map}
use Rattle.std.specs.Int.{w32, to_be_bytes}
use Rattle.ss_base.specs.declared.name.Piece.{Piece}

-- the 36 bytes of a piece: its name's 32, and its length in 4, the highest first
abbrev pub piece_text : Piece → List ℕ
piece_text p = p.name.0 ++ to_be_bytes w32 p.len

-- the texts of the pieces, one behind another
abbrev pub pieces_part : List Piece → List ℕ
pieces_part ps = flat_map piece_text ps
