-- What a restore read is among what its handle's reads can have given.
use Rattle.std.proofs.Common.{◌≡◌, ◌⊎◌, ℕ, true, List, [], ◌∷◌, ◌++◌, map, flat_map, Option, Some, refl, sym, ap, ◌∙◌, subst, inl, inr, append_assoc, Contains}
use Rattle.std.specs.List.{concat}
use Rattle.std.proofs.lemmas.List.{append_cancel_left}
use Rattle.std.proofs.lemmas.List.Elements.{Contains-append_left}
use Rattle.ss_base.specs.declared.ids.ManifestId.{ManifestId}
use Rattle.ss_base.specs.declared.profile.Numbers.{Numbers}
use Rattle.ss_base.proofs.MemberLaws.{In, in_Contains, in_append_left, in_append_right}
use Rattle.journal_entry.specs.declared.entry.Entry.{Entry}
use Rattle.history.specs.declared.rules.Rules.{Rules}
use Rattle.history.specs.Sessions.{is_retained}
use Rattle.store_core.specs.View.{kept, stream_kept}
use Rattle.outside.specs.Shelf.{Objects, Given}
use Rattle.outside.specs.Views.{ShelfView}
use Rattle.stored_streams.specs.Streams.{Streams}
use Rattle.stored_streams.specs.Collision.{IsHashed, Collide}
use Rattle.stored_streams.specs.Reads.{Reads, IsReadOf, IsGiven}
use Rattle.stored_streams.specs.Reads.Reads.{recorded, held}
use Rattle.stored_streams.proofs.ListLaws.{contains_from_in, in_map}
use Rattle.stored_streams.proofs.ToldLaws.{with_more, more_none, more_then, GaveMore}
use Rattle.restore.specs.Reads.{Listed, ChunkRead, after_chunk, after_chunks, ManifestRead, after_load, after_manifest, after_manifests, AreManifestsRead, bytes_of_chunks, bytes_of_manifests, text_of}
use Rattle.restore.specs.Damage.{load_read, chunk_read}
use Rattle.restored_streams.specs.Restored.{AreRecorded, Tells, bytes_read}
use Rattle.restored_streams.proofs.KeptLaws.{manifest_at, IsKeptAt}
use Rattle.restored_streams.proofs.ReadLaws.{IsReadFrom, text_is_held, chunk_is_held}
use Rattle.restored_streams.proofs.StreamLaws.{IsKnown, AreGivenFor, IsOneOf, EachBegins, one_manifest, stream_or}

-- ---- the reads that were recorded

abbrev reads_of : List ChunkRead → List Given
reads_of cs = map (λ (c : ChunkRead). chunk_read c.listed c.bytes) cs

abbrev pub reads_for : ManifestRead → List Given
reads_for m = load_read m.kept (text_of m) ∷ reads_of m.chunks

gave_chunks : (shelf : ShelfView) (cs : List ChunkRead) → (after_chunks shelf cs).gave ≡ with_more shelf.gave (reads_of cs)
gave_chunks shelf [] = more_none shelf.gave
gave_chunks shelf (c ∷ cs) = gave_chunks (after_chunk shelf c) cs ∙ more_then shelf.gave (chunk_read c.listed c.bytes ∷ []) (reads_of cs)

pub gave_manifest : (shelf : ShelfView) (m : ManifestRead) → (after_manifest shelf m).gave ≡ with_more shelf.gave (reads_for m)
gave_manifest shelf m = gave_chunks (after_load shelf m.kept m.manifest) m.chunks ∙ more_then shelf.gave (load_read m.kept (text_of m) ∷ []) (reads_of m.chunks)

pub gave_manifests : (shelf : ShelfView) (ms : List ManifestRead) → (after_manifests shelf ms).gave ≡ with_more shelf.gave (flat_map reads_for ms)
gave_manifests shelf [] = more_none shelf.gave
gave_manifests shelf (m ∷ ms) =
    gave_manifests (after_manifest shelf m) ms
    ∙ ap (λ (told : Option (List Given)). with_more told (flat_map reads_for ms)) (gave_manifest shelf m)
    ∙ more_then shelf.gave (reads_for m) (flat_map reads_for ms)

-- of told reads
told_more : (told : Option (List Given)) (earlier reads : List Given) → told ≡ Some earlier → with_more told reads ≡ Some (earlier ++ reads)
told_more told earlier reads is = ap (λ (t : Option (List Given)). with_more t reads) is

in_flat : {X Y : Type 0} (f : X → List Y) (x : X) (y : Y) (xs : List X) → In x xs → In y (f x) → In y (flat_map f xs)
in_flat f x y [] h there = absurd h
in_flat f x y (z ∷ xs) (inl is) there = in_append_left y (f z) (flat_map f xs) (subst (λ (w : _). In y (f w)) (sym is) there)
in_flat f x y (z ∷ xs) (inr later) there = in_append_right y (f z) (flat_map f xs) (in_flat f x y xs later there)

given_bytes : (g : Given) (gave : List Given) → Contains gave g → Contains (map (λ (h : Given). h.bytes) gave) g.bytes
given_bytes g gave among = contains_from_in g.bytes (map (λ (h : Given). h.bytes) gave) (in_map (λ (h : Given). h.bytes) g gave (in_Contains g gave among))

-- a read of one of the manifests is recorded
read_recorded : (depot : ShelfView) (ms : List ManifestRead) (m : ManifestRead) (gave : List Given) (g : Given) → AreRecorded depot (after_manifests depot ms) gave → In m ms → In g (reads_for m) → Contains (map (λ (h : Given). h.bytes) gave) g.bytes
read_recorded depot ms m gave g are among there =
    let all = flat_map reads_for ms in
    let both : Some (are.earlier ++ are.between) ≡ Some (are.earlier ++ all) = sym are.is ∙ gave_manifests depot ms ∙ told_more depot.gave are.earlier all are.was in
    let lists : are.earlier ++ are.between ≡ are.earlier ++ all = cc in
    let same : are.between ≡ all = append_cancel_left are.earlier are.between all lists in
    given_bytes g gave (are.among g (subst (λ (l : List Given). Contains l g) (sym same) (contains_from_in g all (in_flat reads_for m g ms among there))))

chunk_listed : (bytes : List ℕ) (cs : List ChunkRead) → In bytes (bytes_of_chunks cs) → (g : Given) × In g (reads_of cs) × (g.bytes ≡ bytes)
chunk_listed bytes [] h = absurd h
chunk_listed bytes (c ∷ cs) (inl is) = (chunk_read c.listed c.bytes, inl refl, is)
chunk_listed bytes (c ∷ cs) (inr later) = let found = chunk_listed bytes cs later in (found.0, inr found.1, found.2)

recorded_given : (past : List Entry) (depot : ShelfView) (ms : List ManifestRead) (m : ManifestRead) (gave : List Given) → AreRecorded depot (after_manifests depot ms) gave → In m ms → AreGivenFor (IsReadOf (recorded gave) past) m
recorded_given past depot ms m gave are among = record {
  text = read_recorded depot ms m gave (load_read m.kept (text_of m)) are among (inl refl);
  chunks = λ bytes h.
      let found = chunk_listed bytes m.chunks h in
      subst (λ (b : List ℕ). Contains (map (λ (g : Given). g.bytes) gave) b) found.2 (read_recorded depot ms m gave found.0 are among (inr found.1));
}

-- ---- the objects that were held

held_given : (past : List Entry) (depot : ShelfView) (objects : Objects) (id : ManifestId) (m : ManifestRead) (rest : List Listed) → depot.held ≡ Some objects → IsKeptAt past id m.kept → IsReadFrom depot m rest → AreGivenFor (IsReadOf (held objects) past) m
held_given past depot objects id m rest told at from =
    let is : kept m.kept.id past ≡ Some m.kept = ap (λ (i : ManifestId). kept i past) at.id_is ∙ at.is in
    let text = text_is_held depot objects m rest from told in
    record {
      text = inl (record { view = m.kept; is_kept = is; text = text });
      chunks = λ bytes h.
          let made = chunk_is_held depot objects m rest bytes from told h in
          inr (record {
            view = m.kept;
            is_kept = is;
            pieces = m.manifest.pieces.items;
            places = m.manifest.places.items;
            manifest = from.part.loaded.like.manifest;
            text = sym text;
            number = made.number;
            piece = made.piece;
            place = made.place;
            piece_there = made.piece_there;
            place_there = made.place_there;
            chunk = made.is;
          });
    }

-- ---- by one of several handles

read_for : (past : List Entry) (depot : ShelfView) (ms : List ManifestRead) (s k : ℕ) (m : ManifestRead) (rest : List Listed) (reads : Reads) → Tells depot (after_manifests depot ms) reads → IsOneOf past depot ms s k m rest → AreGivenFor (IsReadOf reads past) m
read_for past depot ms s k m rest (recorded gave) tells one = recorded_given past depot ms m gave tells one.among
read_for past depot ms s k m rest (held objects) tells one = held_given past depot objects (manifest_at s k) m rest tells one.kept_is one.from

given_in : (all : List Reads) (reads : Reads) (past : List Entry) (bytes : List ℕ) → In reads all → IsReadOf reads past bytes → IsGiven all past bytes
given_in [] reads past bytes h read = absurd h
given_in (r ∷ all) reads past bytes (inl is) read = inl (subst (λ (x : Reads). IsReadOf x past bytes) (sym is) read)
given_in (r ∷ all) reads past bytes (inr later) read = inr (given_in all reads past bytes later read)

given_for : (all : List Reads) (reads : Reads) (past : List Entry) (m : ManifestRead) → Contains all reads → AreGivenFor (IsReadOf reads past) m → AreGivenFor (IsGiven all past) m
given_for all reads past m among is = record {
  text = given_in all reads past (text_of m) (in_Contains reads all among) is.text;
  chunks = λ bytes h. given_in all reads past bytes (in_Contains reads all among) (is.chunks bytes h);
}

-- what was read of each manifest begins its segment, or there is a collision
pub each_begins : (n : Numbers) (streams : Streams) (rules : Rules) (past : List Entry) (s : ℕ) (all : List Reads) (reads : Reads) (depot : ShelfView) (ms : List ManifestRead) → IsKnown n streams rules past → Contains all reads → Tells depot (after_manifests depot ms) reads → EachBegins (Collide n streams past (IsGiven all past)) n streams past depot ms s
each_begins n streams rules past s all reads depot ms known among tells = λ k m rest one.
    one_manifest n streams rules past (IsGiven all past) s k m rest one.from.shelf known one.kept_is one.chosen one.from.part
    (given_for all reads past m among (read_for past depot ms s k m rest reads tells one))

-- what was read is the stream, or there is one
pub read_is_stream : (n : Numbers) (streams : Streams) (rules : Rules) (past : List Entry) (s : ℕ) (all : List Reads) (reads : Reads) (depot : ShelfView) (ms : List ManifestRead) → IsKnown n streams rules past → is_retained s past ≡ true → AreManifestsRead depot ms → map (λ (x : ManifestRead). x.kept) ms ≡ stream_kept s past → Contains all reads → Tells depot (after_manifests depot ms) reads → (concat (bytes_of_manifests ms) ≡ streams s) ⊎ Collide n streams past (IsGiven all past)
read_is_stream n streams rules past s all reads depot ms known retained are kepts among tells =
    stream_or (Collide n streams past (IsGiven all past)) n streams rules past s depot ms known retained are kepts
    (each_begins n streams rules past s all reads depot ms known among tells)

-- ---- told at an end, told on the way

-- where more was read later, what a handle tells at the end it tells of the reads before
pub tells_before : (depot after : ShelfView) (ms : List ManifestRead) (reads : Reads) → GaveMore (after_manifests depot ms) after → Tells depot after reads → Tells depot (after_manifests depot ms) reads
tells_before depot after ms (recorded gave) more tells =
    let first = flat_map reads_for ms in
    let at = gave_manifests depot ms ∙ told_more depot.gave tells.earlier first tells.was in
    let end = more.gave ∙ told_more (after_manifests depot ms).gave (tells.earlier ++ first) more.reads at in
    let both : Some (tells.earlier ++ tells.between) ≡ Some (tells.earlier ++ first ++ more.reads) = sym tells.is ∙ end in
    let lists : tells.earlier ++ tells.between ≡ tells.earlier ++ first ++ more.reads = cc in
    let same : tells.between ≡ first ++ more.reads = append_cancel_left tells.earlier tells.between (first ++ more.reads) (lists ∙ append_assoc tells.earlier first more.reads) in
    record {
      earlier = tells.earlier;
      between = first;
      was = tells.was;
      is = at;
      among = λ read h. tells.among read (subst (λ (l : List Given). Contains l read) (sym same) (Contains-append_left first more.reads read h));
    }
tells_before depot after ms (held objects) more tells = tells

-- ---- where all that was read is among what was hashed

-- a collision among what was hashed and what was hashed
collide_once : (n : Numbers) (streams : Streams) (past : List Entry) (given : List ℕ → Type 0) → Collide n streams past (IsHashed n streams past given) → Collide n streams past given
collide_once n streams past given c = record {
  one = c.one;
  other = c.other;
  differ = c.differ;
  same = c.same;
  hashed = once c.one c.hashed;
  hashed_too = once c.other c.hashed_too;
}
  where
    once : (bytes : List ℕ) → IsHashed n streams past (IsHashed n streams past given) bytes → IsHashed n streams past given bytes
    once bytes (inl chunk) = inl chunk
    once bytes (inr (inl text)) = inr (inl text)
    once bytes (inr (inr hashed)) = hashed

hashed_for : (P : List ℕ → Type 0) (ms : List ManifestRead) (m : ManifestRead) → ((bytes : List ℕ) → Contains (bytes_read ms) bytes → P bytes) → In m ms → AreGivenFor P m
hashed_for P ms m all among =
    let f = λ (x : ManifestRead). text_of x ∷ bytes_of_chunks x.chunks in
    record {
      text = all (text_of m) (contains_from_in (text_of m) (bytes_read ms) (in_flat f m (text_of m) ms among (inl refl)));
      chunks = λ bytes h. all bytes (contains_from_in bytes (bytes_read ms) (in_flat f m bytes ms among (inr h)));
    }

pub hashed_is_stream : (n : Numbers) (streams : Streams) (rules : Rules) (past : List Entry) (s : ℕ) (all : List Reads) (depot : ShelfView) (ms : List ManifestRead) → IsKnown n streams rules past → is_retained s past ≡ true → AreManifestsRead depot ms → map (λ (x : ManifestRead). x.kept) ms ≡ stream_kept s past → ((bytes : List ℕ) → Contains (bytes_read ms) bytes → IsHashed n streams past (IsGiven all past) bytes) → (concat (bytes_of_manifests ms) ≡ streams s) ⊎ Collide n streams past (IsGiven all past)
hashed_is_stream n streams rules past s all depot ms known retained are kepts hashed =
    let P = IsHashed n streams past (IsGiven all past) in
    elim (stream_or (Collide n streams past P) n streams rules past s depot ms known retained are kepts
    (λ k m rest one. one_manifest n streams rules past P s k m rest one.from.shelf known one.kept_is one.chosen one.from.part (hashed_for P ms m hashed one.among))) [
      | inl is ↦ inl is
      | inr collides ↦ inr (collide_once n streams past (IsGiven all past) collides)
    ]
