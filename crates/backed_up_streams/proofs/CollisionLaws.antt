-- A collision stays one.
use Rattle.std.proofs.Common.{◌≡◌, ℕ, true, List, [], ◌∷◌, ◌++◌, Some, ◌∙◌, inl, inr}
use Rattle.std.proofs.lemmas.Bool.{cases_Bool}
use Rattle.ss_base.specs.declared.ids.ManifestId.{ManifestId}
use Rattle.ss_base.specs.declared.profile.Numbers.{Numbers}
use Rattle.outside.specs.Shelf.{Objects}
use Rattle.journal_entry.specs.declared.entry.Entry.{Entry}
use Rattle.history.specs.declared.rules.Rules.{Rules}
use Rattle.history.specs.Legal.{is_legal}
use Rattle.history.specs.Need.{commits_manifest}
use Rattle.history_laws.proofs.Allowed.{IsStep, step}
use Rattle.history_laws.proofs.OnceLaws.{never_twice}
use Rattle.store_core.specs.View.{KeptView, kept}
use Rattle.stored_streams.specs.Streams.{Streams}
use Rattle.stored_streams.specs.Reads.{Reads, IsTextHeld, IsChunkHeld, IsReadOf, IsGiven}
use Rattle.stored_streams.specs.Reads.Reads.{recorded, held}
use Rattle.stored_streams.specs.Collision.{IsHashed, Collide}
use Rattle.stored_streams.proofs.CommittedLaws.{kept_older}
use Rattle.stored_streams.proofs.CollisionLaws.{collide_more}
use Rattle.backed_up_streams.proofs.HeldLaws.{kept_committed}

-- ---- other bytes that could be given

module _ (n : Numbers) (streams : Streams) (past : List Entry) (given other : List ℕ → Type 0) (weaker : (b : List ℕ) → given b → other b) where
  hashed_weaker : (b : List ℕ) → IsHashed n streams past given b → IsHashed n streams past other b
  hashed_weaker b (inl chunk) = inl chunk
  hashed_weaker b (inr (inl text)) = inr (inl text)
  hashed_weaker b (inr (inr read)) = inr (inr (weaker b read))

  collide_weaker : Collide n streams past given → Collide n streams past other
  collide_weaker c = record {
    one = c.one;
    other = c.other;
    differ = c.differ;
    same = c.same;
    hashed = hashed_weaker c.one c.hashed;
    hashed_too = hashed_weaker c.other c.hashed_too;
  }

-- ---- an entry more

module _ (rules : Rules) (entry : Entry) (past : List Entry) (now : IsStep rules entry past) where
  kept_more : (id : ManifestId) (view : KeptView) → kept id past ≡ Some view → kept id (entry ∷ past) ≡ Some view
  kept_more id view is = elim (cases_Bool (commits_manifest id entry.point)) [
    | inl again ↦ absurd (never_twice rules id entry past now again (kept_committed id past view is))
    | inr other ↦ kept_older id entry past other ∙ is
  ]

  text_more : (objects : Objects) (b : List ℕ) → IsTextHeld objects past b → IsTextHeld objects (entry ∷ past) b
  text_more objects b is = record { view = is.view; is_kept = kept_more is.view.id is.view is.is_kept; text = is.text }

  chunk_more : (objects : Objects) (b : List ℕ) → IsChunkHeld objects past b → IsChunkHeld objects (entry ∷ past) b
  chunk_more objects b is = record {
    view = is.view;
    is_kept = kept_more is.view.id is.view is.is_kept;
    pieces = is.pieces;
    places = is.places;
    manifest = is.manifest;
    text = is.text;
    number = is.number;
    piece = is.piece;
    place = is.place;
    piece_there = is.piece_there;
    place_there = is.place_there;
    chunk = is.chunk;
  }

  read_more : (reads : Reads) (b : List ℕ) → IsReadOf reads past b → IsReadOf reads (entry ∷ past) b
  read_more (recorded gave) b is = is
  read_more (held objects) b (inl text) = inl (text_more objects b text)
  read_more (held objects) b (inr chunk) = inr (chunk_more objects b chunk)

  given_more : (reads : List Reads) (b : List ℕ) → IsGiven reads past b → IsGiven reads (entry ∷ past) b
  given_more [] b is = absurd is
  given_more (first ∷ reads) b (inl is) = inl (read_more first b is)
  given_more (first ∷ reads) b (inr later) = inr (given_more reads b later)

pub collision-longer : (n : Numbers) (streams : Streams) (rules : Rules) (reads : List Reads) (newer older : List Entry) → is_legal rules (newer ++ older) ≡ true → Collide n streams older (IsGiven reads older) → Collide n streams (newer ++ older) (IsGiven reads (newer ++ older))
collision-longer n streams rules reads [] older legal c = c
collision-longer n streams rules reads (entry ∷ newer) older legal c =
    let past = newer ++ older in
    let now = step rules entry past legal in
    collide_weaker n streams (entry ∷ past) (IsGiven reads past) (IsGiven reads (entry ∷ past)) (λ b is. given_more rules entry past now reads b is)
    (collide_more n streams rules entry past (IsGiven reads past) now (collision-longer n streams rules reads newer older now.legal c))

-- ---- more handles

given_among : (before reads behind : List Reads) (past : List Entry) (b : List ℕ) → IsGiven reads past b → IsGiven (before ++ (reads ++ behind)) past b
given_among [] [] behind past b is = absurd is
given_among [] (first ∷ reads) behind past b (inl is) = inl is
given_among [] (first ∷ reads) behind past b (inr later) = inr (given_among [] reads behind past b later)
given_among (first ∷ before) reads behind past b is = inr (given_among before reads behind past b is)

pub collision-among : (n : Numbers) (streams : Streams) (past : List Entry) (before reads behind : List Reads) → Collide n streams past (IsGiven reads past) → Collide n streams past (IsGiven (before ++ (reads ++ behind)) past)
collision-among n streams past before reads behind c =
    collide_weaker n streams past (IsGiven reads past) (IsGiven (before ++ (reads ++ behind)) past) (λ b is. given_among before reads behind past b is) c
