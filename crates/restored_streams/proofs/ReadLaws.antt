-- The reads of manifests and chunks, each by itself.
use Rattle.std.proofs.Common.{◌≡◌, ◌≢◌, ◌⊎◌, ℕ, zero, suc, ◌*◌, List, [], ◌∷◌, ◌++◌, length, slice_get, map, Some, refl, sym, ap, ◌∙◌, subst, inl, inr, arith}
use Rattle.std.specs.List.{zip}
use Rattle.std.proofs.lemmas.List.{append-nil, map-append}
use Rattle.ss_base.specs.declared.ids.Place.{Place}
use Rattle.ss_base.specs.declared.name.Name.{Name}
use Rattle.ss_base.specs.declared.name.Piece.{Piece}
use Rattle.ss_base.specs.declared.object.Object.TheVariants.{Manifest as ManifestObject}
use Rattle.ss_base.specs.ObjectName.{object_text}
use Rattle.ss_base.proofs.MemberLaws.{In, in_append_left}
use Rattle.chunk_name.specs.Pieces.{name_of_bytes}
use Rattle.outside.specs.Shelf.{Objects}
use Rattle.outside.specs.Views.{ShelfView}
use Rattle.depot.specs.Loading.{IsLoaded}
use Rattle.restore.specs.Reads.{Listed, listed_by, ChunkRead, after_chunk, AreChunksRead, ManifestRead, after_load, after_manifest, AreManifestsRead, bytes_of_chunks, chunk_at, text_at, text_of}
use Rattle.restore.proofs.HeldLaws.{told, chunk_bytes, manifest_unchanged}
use Rattle.stored_streams.proofs.ListLaws.{same_bytes}

-- ---- lists of pieces and places

pub zip_names : (ps : List Piece) (qs : List Place) → length qs ≡ length ps → map (λ (l : Listed). l.0.name) (zip ps qs) ≡ map (λ (p : Piece). p.name) ps
zip_names [] qs same = refl
zip_names (p ∷ ps) [] same = absurd (omega arith)
zip_names (p ∷ ps) (q ∷ qs) same = ap (λ (l : List Name). p.name ∷ l) (zip_names ps qs (omega arith))

-- where an item of a list that was made of pieces with their places comes from
pub record IsMadeAt (f : Listed → List ℕ) (ps : List Piece) (qs : List Place) (item : List ℕ) : Type 0 where
  pub number : ℕ
  pub piece : Piece
  pub place : Place
  pub piece_there : slice_get ps number ≡ Some piece
  pub place_there : slice_get qs number ≡ Some place
  pub is : item ≡ f (piece, place)

pub made_at : (f : Listed → List ℕ) (ps : List Piece) (qs : List Place) (item : List ℕ) → In item (map f (zip ps qs)) → IsMadeAt f ps qs item
made_at f [] qs item h = absurd h
made_at f (p ∷ ps) [] item h = absurd h
made_at f (p ∷ ps) (q ∷ qs) item (inl is) = record { number = zero; piece = p; place = q; piece_there = refl; place_there = refl; is = sym is }
made_at f (p ∷ ps) (q ∷ qs) item (inr later) =
    let at = made_at f ps qs item later in
    record { number = suc at.number; piece = at.piece; place = at.place; piece_there = at.piece_there; place_there = at.place_there; is = at.is }

-- ---- one of the manifests that were read

-- a manifest that was loaded, and of its chunks all but these were read
pub record IsPart (shelf : ShelfView) (m : ManifestRead) (rest : List Listed) : Type 0 where
  pub loaded : IsLoaded shelf (after_load shelf m.kept m.manifest) m.kept m.manifest
  pub split : listed_by m.manifest ≡ map (λ (c : ChunkRead). c.listed) m.chunks ++ rest
  pub read : AreChunksRead (after_load shelf m.kept m.manifest) m.chunks

-- so from a shelf that holds what the first held
pub record IsReadFrom (depot : ShelfView) (m : ManifestRead) (rest : List Listed) : Type 0 where
  pub shelf : ShelfView
  pub part : IsPart shelf m rest
  pub held : shelf.held ≡ depot.held

pub read_from : (depot : ShelfView) (ms : List ManifestRead) (k : ℕ) (m : ManifestRead) → AreManifestsRead depot ms → slice_get ms k ≡ Some m → IsReadFrom depot m []
read_from depot [] k m are at = absurd (cc)
read_from depot (x ∷ ms) zero m are at =
    let same : x ≡ m = cc in
    let of_chunk = λ (c : ChunkRead). c.listed in
    let is : IsPart depot x [] = record { loaded = are.0.loaded; split = sym are.0.all ∙ sym (append-nil (map of_chunk x.chunks)); read = are.0.read } in
    record { shelf = depot; part = subst (λ (y : ManifestRead). IsPart depot y []) same is; held = refl }
read_from depot (x ∷ ms) (suc k) m are at =
    let rest = read_from (after_manifest depot x) ms k m are.1 at in
    record { shelf = rest.shelf; part = rest.part; held = rest.held ∙ (manifest_unchanged depot x).only.held }

abbrev pub names_listed : List Listed → List Name
names_listed listed = map (λ (l : Listed). l.0.name) listed

chunk_names : (shelf : ShelfView) (cs : List ChunkRead) → AreChunksRead shelf cs → map name_of_bytes (bytes_of_chunks cs) ≡ names_listed (map (λ (c : ChunkRead). c.listed) cs)
chunk_names shelf [] are = refl
chunk_names shelf (c ∷ cs) are = λ i. are.0.name i ∷ chunk_names (after_chunk shelf c) cs are.1 i

-- what was read, and what was not, has the names of the manifest's pieces
pub names_of_pieces : (shelf : ShelfView) (m : ManifestRead) (rest : List Listed) → IsPart shelf m rest → map name_of_bytes (bytes_of_chunks m.chunks) ++ names_listed rest ≡ map (λ (p : Piece). p.name) m.manifest.pieces.items
names_of_pieces shelf m rest is =
    let of_chunk = λ (c : ChunkRead). c.listed in
    ap (λ (l : List Name). l ++ names_listed rest) (chunk_names (after_load shelf m.kept m.manifest) m.chunks is.read)
    ∙ sym (map-append (λ (l : Listed). l.0.name) (map of_chunk m.chunks) rest)
    ∙ ap names_listed (sym is.split)
    ∙ zip_names m.manifest.pieces.items m.manifest.places.items is.loaded.like.manifest.listed.located

-- where the objects are told, its text and its chunks are what they hold
pub text_is_held : (depot : ShelfView) (objects : Objects) (m : ManifestRead) (rest : List Listed) → IsReadFrom depot m rest → depot.held ≡ Some objects → text_of m ≡ text_at objects m.kept
text_is_held depot objects m rest from is = told from.shelf.held objects (object_text (ManifestObject m.kept.id)) (text_of m) 0 (48 * m.kept.chunks) (from.held ∙ is) from.part.loaded.given.told

pub chunk_is_held : (depot : ShelfView) (objects : Objects) (m : ManifestRead) (rest : List Listed) (bytes : List ℕ) → IsReadFrom depot m rest → depot.held ≡ Some objects → In bytes (bytes_of_chunks m.chunks) → IsMadeAt (chunk_at objects) m.manifest.pieces.items m.manifest.places.items bytes
chunk_is_held depot objects m rest bytes from is h =
    let f = chunk_at objects in
    let read = map (λ (c : ChunkRead). c.listed) m.chunks in
    let there = subst (λ (l : List (List ℕ)). In bytes l) (chunk_bytes (after_load from.shelf m.kept m.manifest) objects m.chunks from.part.read (from.held ∙ is)) h in
    made_at f m.manifest.pieces.items m.manifest.places.items bytes
    (subst (λ (l : List (List ℕ)). In bytes l) (sym (map-append f read rest) ∙ ap (map f) (sym from.part.split)) (in_append_left bytes (map f read) (map f rest) there))

-- ---- byte lists with the same names

-- two that differ, of which the one is of one kind and the other of another
pub record Differ (P Q : List ℕ → Type 0) : Type 0 where
  pub one : List ℕ
  pub other : List ℕ
  pub differ : one ≢ other
  pub same : name_of_bytes one ≡ name_of_bytes other
  pub first : P one
  pub second : Q other

-- one list begins another, whose other items have these names
pub record IsFront (bs cs : List (List ℕ)) (names : List Name) : Type 0 where
  pub later : List (List ℕ)
  pub is : cs ≡ bs ++ later
  pub names_are : map name_of_bytes later ≡ names

-- a list with the names of another's first items begins it, or two of their items differ
pub front_or_differ : (P Q : List ℕ → Type 0) (bs cs : List (List ℕ)) (names : List Name) → ((b : List ℕ) → In b bs → P b) → ((c : List ℕ) → In c cs → Q c) → map name_of_bytes bs ++ names ≡ map name_of_bytes cs → IsFront bs cs names ⊎ Differ P Q
front_or_differ P Q [] cs names all_p all_q same = inl (record { later = cs; is = refl; names_are = sym same })
front_or_differ P Q (b ∷ bs) [] names all_p all_q same = absurd (cc)
front_or_differ P Q (b ∷ bs) (c ∷ cs) names all_p all_q same =
    let first : name_of_bytes b ≡ name_of_bytes c = cc in
    let others : map name_of_bytes bs ++ names ≡ map name_of_bytes cs = cc in
    elim (same_bytes b c) [
      | inr differ ↦ inr (record { one = b; other = c; differ = differ; same = first; first = all_p b (inl refl); second = all_q c (inl refl) })
      | inl equal ↦ elim (front_or_differ P Q bs cs names (λ x h. all_p x (inr h)) (λ x h. all_q x (inr h)) others) [
        | inl rest ↦ inl (record { later = rest.later; is = λ i. sym equal i ∷ rest.is i; names_are = rest.names_are })
        | inr differ ↦ inr differ
      ]
    ]

-- where nothing else is named, it is the other
pub front_is_whole : (bs cs : List (List ℕ)) → IsFront bs cs [] → bs ≡ cs
front_is_whole bs cs front = by_later front.later front.is front.names_are
  where
    by_later : (later : List (List ℕ)) → cs ≡ bs ++ later → map name_of_bytes later ≡ [] → bs ≡ cs
    by_later [] is none = sym (append-nil bs) ∙ sym is
    by_later (c ∷ later) is none = absurd (cc)
