-- When two names, ids or objects are the same, and when one is among others.
use Rattle.std.specs.Prelude.{Bool, true, false, nat_eq, ◌==◌, ◌&&◌, not, List, [], ◌∷◌}
use Rattle.std.specs.List.{list_any}
use Rattle.std.specs.Str.{bytes_eq}
use Rattle.std.specs.Cmp.Lexicographic.{pointwise}
use Rattle.ss_base.specs.declared.ids.ContainerId.{ContainerId}
use Rattle.ss_base.specs.declared.ids.ManifestId.{ManifestId}
use Rattle.ss_base.specs.declared.name.Name.{Name}
use Rattle.ss_base.specs.declared.name.Piece.{Piece}
use Rattle.ss_base.specs.declared.object.Object.{Object}
use Rattle.ss_base.specs.declared.object.Object.TheVariants.{Container, Manifest}

-- whether two names are the same
abbrev pub same_name : Name → Name → Bool
same_name a b = bytes_eq a.0 b.0

-- whether two pieces have the same name and length
abbrev pub same_piece : Piece → Piece → Bool
same_piece a b = pointwise nat_eq a.name.0 b.name.0 && nat_eq a.len b.len

-- whether two ids are the same
abbrev pub same_manifest : ManifestId → ManifestId → Bool
same_manifest a b = (a.session == b.session) && (a.seq == b.seq)

abbrev pub same_container : ContainerId → ContainerId → Bool
same_container a b = (a.session == b.session) && (a.ordinal == b.ordinal)

-- whether two objects are the same
abbrev pub same_object : Object → Object → Bool
same_object (Container a) (Container b) = same_container a b
same_object (Manifest a) (Manifest b) = same_manifest a b
same_object _ _ = false

-- whether the name is one of the names
unfoldable pub has_name : Name → List Name → Bool
has_name name names = list_any (same_name name) names

-- whether the manifest is one of the manifests
unfoldable pub has_manifest : ManifestId → List ManifestId → Bool
has_manifest id ids = list_any (same_manifest id) ids

-- whether the container is one of the containers
unfoldable pub has_container : ContainerId → List ContainerId → Bool
has_container id ids = list_any (same_container id) ids

-- whether the object is one of the objects
abbrev pub has_object : Object → List Object → Bool
has_object object objects = list_any (same_object object) objects

-- whether no name stands twice
unfoldable pub are_distinct : List Name → Bool
are_distinct [] = true
are_distinct (name ∷ names) = not (has_name name names) && are_distinct names
