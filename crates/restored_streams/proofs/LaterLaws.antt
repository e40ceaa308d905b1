-- A collision stays one as the history goes on.
use Rattle.std.proofs.Common.{◌≡◌, ℕ, true, false, List, [], ◌∷◌, ◌++◌, Some, sym, ◌∙◌, inl, inr}
use Rattle.std.proofs.lemmas.Bool.{false_from_ne_true, cases_Bool}
use Rattle.ss_base.specs.declared.ids.ManifestId.{ManifestId}
use Rattle.ss_base.specs.declared.profile.Numbers.{Numbers}
use Rattle.journal_entry.specs.declared.entry.Entry.{Entry}
use Rattle.history.specs.declared.rules.Rules.{Rules}
use Rattle.history.specs.Sessions.{begins, has, newest}
use Rattle.history.specs.Need.{commits_manifest}
use Rattle.history.specs.Legal.{is_legal}
use Rattle.history_laws.proofs.Allowed.{step}
use Rattle.history_laws.proofs.SessionLaws.{has_now, has_older}
use Rattle.history_laws.proofs.OnceLaws.{never_twice}
use Rattle.store_core.specs.View.{KeptView, kept}
use Rattle.stored_streams.specs.Streams.{Streams}
use Rattle.stored_streams.specs.Collision.{IsHashed, Collide}
use Rattle.stored_streams.specs.Reads.{Reads, IsReadOf, IsGiven}
use Rattle.stored_streams.specs.Reads.Reads.{recorded, held}
use Rattle.stored_streams.proofs.CommittedLaws.{kept_older}
use Rattle.stored_streams.proofs.CollisionLaws.{collide_more}
use Rattle.restored_streams.specs.Restored.{IsBegunChunk, ChunksCollide}

begun_more : (n : Numbers) (streams : Streams) (newer older : List Entry) (bytes : List ℕ) → IsBegunChunk n streams older bytes → IsBegunChunk n streams (newer ++ older) bytes
begun_more n streams [] older bytes is = is
begun_more n streams (entry ∷ newer) older bytes is =
    let more = begun_more n streams newer older bytes is in
    record { id = more.id; begun = has_older (begins more.id.session) entry (newer ++ older) more.begun; chunk = more.chunk }

pub chunks_collide_later : (n : Numbers) (streams : Streams) (newer older : List Entry) → ChunksCollide n streams older → ChunksCollide n streams (newer ++ older)
chunks_collide_later n streams newer older c = record {
  one = c.one;
  other = c.other;
  differ = c.differ;
  same = c.same;
  begun = begun_more n streams newer older c.one c.begun;
  begun_too = begun_more n streams newer older c.other c.begun_too;
}

pub collide_later : (n : Numbers) (streams : Streams) (rules : Rules) (newer older : List Entry) (given : List ℕ → Type 0) → is_legal rules (newer ++ older) ≡ true → Collide n streams older given → Collide n streams (newer ++ older) given
collide_later n streams rules [] older given legal c = c
collide_later n streams rules (entry ∷ newer) older given legal c =
    let now = step rules entry (newer ++ older) legal in
    collide_more n streams rules entry (newer ++ older) given now (collide_later n streams rules newer older given now.legal c)

-- ---- what reads can have given

none_kept : (id : ManifestId) (view : KeptView) → kept id [] ≡ Some view → ⊥
unfolding kept newest
none_kept id view is = cc

kept_committed : (id : ManifestId) (past : List Entry) (view : KeptView) → kept id past ≡ Some view → has (commits_manifest id) past ≡ true
kept_committed id [] view is = absurd (none_kept id view is)
kept_committed id (entry ∷ past) view is = elim (cases_Bool (commits_manifest id entry.point)) [
  | inl here ↦ has_now (commits_manifest id) entry past here
  | inr other ↦ has_older (commits_manifest id) entry past (kept_committed id past view (sym (kept_older id entry past other) ∙ is))
]

kept_later : (rules : Rules) (newer older : List Entry) (id : ManifestId) (view : KeptView) → is_legal rules (newer ++ older) ≡ true → kept id older ≡ Some view → kept id (newer ++ older) ≡ Some view
kept_later rules [] older id view legal is = is
kept_later rules (entry ∷ newer) older id view legal is =
    let now = step rules entry (newer ++ older) legal in
    let before = kept_later rules newer older id view now.legal is in
    let other : commits_manifest id entry.point ≡ false = false_from_ne_true _ (λ does. never_twice rules id entry (newer ++ older) now does (kept_committed id (newer ++ older) view before)) in
    kept_older id entry (newer ++ older) other ∙ before

read_later : (rules : Rules) (newer older : List Entry) (reads : Reads) (bytes : List ℕ) → is_legal rules (newer ++ older) ≡ true → IsReadOf reads older bytes → IsReadOf reads (newer ++ older) bytes
read_later rules newer older (recorded gave) bytes legal read = read
read_later rules newer older (held objects) bytes legal (inl text) = inl (record { view = text.view; is_kept = kept_later rules newer older text.view.id text.view legal text.is_kept; text = text.text })
read_later rules newer older (held objects) bytes legal (inr c) = inr (record {
  view = c.view;
  is_kept = kept_later rules newer older c.view.id c.view legal c.is_kept;
  pieces = c.pieces;
  places = c.places;
  manifest = c.manifest;
  text = c.text;
  number = c.number;
  piece = c.piece;
  place = c.place;
  piece_there = c.piece_there;
  place_there = c.place_there;
  chunk = c.chunk;
})

given_later : (rules : Rules) (newer older : List Entry) (all : List Reads) (bytes : List ℕ) → is_legal rules (newer ++ older) ≡ true → IsGiven all older bytes → IsGiven all (newer ++ older) bytes
given_later rules newer older [] bytes legal given = absurd given
given_later rules newer older (reads ∷ all) bytes legal (inl read) = inl (read_later rules newer older reads bytes legal read)
given_later rules newer older (reads ∷ all) bytes legal (inr given) = inr (given_later rules newer older all bytes legal given)

hashed_with : (n : Numbers) (streams : Streams) (past : List Entry) (given other : List ℕ → Type 0) (bytes : List ℕ) → (given bytes → other bytes) → IsHashed n streams past given bytes → IsHashed n streams past other bytes
hashed_with n streams past given other bytes more (inl chunk) = inl chunk
hashed_with n streams past given other bytes more (inr (inl text)) = inr (inl text)
hashed_with n streams past given other bytes more (inr (inr read)) = inr (inr (more read))

collide_with : (n : Numbers) (streams : Streams) (past : List Entry) (given other : List ℕ → Type 0) → ((bytes : List ℕ) → given bytes → other bytes) → Collide n streams past given → Collide n streams past other
collide_with n streams past given other more c = record {
  one = c.one;
  other = c.other;
  differ = c.differ;
  same = c.same;
  hashed = hashed_with n streams past given other c.one (more c.one) c.hashed;
  hashed_too = hashed_with n streams past given other c.other (more c.other) c.hashed_too;
}

pub collide_given_later : (n : Numbers) (streams : Streams) (rules : Rules) (newer older : List Entry) (all : List Reads) → is_legal rules (newer ++ older) ≡ true → Collide n streams older (IsGiven all older) → Collide n streams (newer ++ older) (IsGiven all (newer ++ older))
collide_given_later n streams rules newer older all legal c =
    collide_later n streams rules newer older (IsGiven all (newer ++ older)) legal
    (collide_with n streams older (IsGiven all older) (IsGiven all (newer ++ older)) (λ bytes given. given_later rules newer older all bytes legal given) c)
