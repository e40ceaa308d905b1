-- A collision among what a history hashed stays one as it goes on.
use Rattle.std.proofs.Common.{◌≡◌, ℕ, ◌<◌, Bool, true, List, ◌∷◌, sym, ap, ◌∙◌, inl, inr, arith}
use Rattle.std.specs.List.{count_by}
use Rattle.std.proofs.lemmas.Bool.{cases_Bool}
use Rattle.ss_base.specs.declared.ids.ManifestId.{ManifestId}
use Rattle.ss_base.specs.declared.ids.Place.{Place}
use Rattle.ss_base.specs.declared.profile.Numbers.{Numbers}
use Rattle.ss_base.proofs.MemberLaws.{count_one, count_other}
use Rattle.manifest_codec.specs.Text.{manifest_text}
use Rattle.journal_entry.specs.declared.entry.Entry.{Entry}
use Rattle.history.specs.declared.rules.Rules.{Rules}
use Rattle.history.specs.Sessions.{has, chooses}
use Rattle.history.specs.Need.{commits_manifest}
use Rattle.history_laws.proofs.Allowed.{IsStep}
use Rattle.history_laws.proofs.SessionLaws.{has_older}
use Rattle.history_laws.proofs.OnceLaws.{never_twice}
use Rattle.stored_streams.specs.Streams.{Streams, manifest_pieces}
use Rattle.stored_streams.specs.Plans.{plans_of, text_of}
use Rattle.stored_streams.specs.Collision.{IsHashed, Collide}
use Rattle.stored_streams.proofs.PlanLaws.{places_stay}

count_more : (does : Entry → Bool) (entry : Entry) (past : List Entry) (k : ℕ) → k < count_by does past → k < count_by does (entry ∷ past)
count_more does entry past k below = elim (cases_Bool (does entry)) [
  | inl passes ↦ let more = count_one does entry past passes in omega (arith, more, below)
  | inr fails ↦ let same = count_other does entry past fails in omega (arith, same, below)
]

-- the text of a committed manifest stays
pub text_stays : (n : Numbers) (streams : Streams) (rules : Rules) (entry : Entry) (past : List Entry) (id : ManifestId) → IsStep rules entry past → has (commits_manifest id) past ≡ true → text_of n streams id (entry ∷ past) ≡ text_of n streams id past
unfolding text_of plans_of
text_stays n streams rules entry past id now committed = elim (cases_Bool (commits_manifest id entry.point)) [
  | inl again ↦ absurd (never_twice rules id entry past now again committed)
  | inr other ↦ ap (λ (ps : List Place). manifest_text (manifest_pieces n streams id) ps) (places_stay n streams past id entry.point (plans_of n streams past) other)
]

hashed_more : (n : Numbers) (streams : Streams) (rules : Rules) (entry : Entry) (past : List Entry) (given : List ℕ → Type 0) (bytes : List ℕ) → IsStep rules entry past → IsHashed n streams past given bytes → IsHashed n streams (entry ∷ past) given bytes
hashed_more n streams rules entry past given bytes now (inl chunk) =
    inl (record { id = chunk.id; chosen = count_more (λ (e : Entry). chooses chunk.id.session e.point) entry past chunk.id.seq chunk.chosen; chunk = chunk.chunk })
hashed_more n streams rules entry past given bytes now (inr (inl text)) =
    inr (inl (record {
      id = text.id;
      committed = has_older (commits_manifest text.id) entry past text.committed;
      text = text.text ∙ sym (text_stays n streams rules entry past text.id now text.committed);
    }))
hashed_more n streams rules entry past given bytes now (inr (inr read)) = inr (inr read)

pub collide_more : (n : Numbers) (streams : Streams) (rules : Rules) (entry : Entry) (past : List Entry) (given : List ℕ → Type 0) → IsStep rules entry past → Collide n streams past given → Collide n streams (entry ∷ past) given
collide_more n streams rules entry past given now c = record {
  one = c.one;
  other = c.other;
  differ = c.differ;
  same = c.same;
  hashed = hashed_more n streams rules entry past given c.one now c.hashed;
  hashed_too = hashed_more n streams rules entry past given c.other now c.hashed_too;
}
