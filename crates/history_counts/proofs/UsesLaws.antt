-- Uses of containers, by the holds of the manifests that list them.
use Rattle.std.proofs.Common.{◌≡◌, ℕ, Bool, true, false, ◌&&◌, ◌||◌, not, eqb, ltb, cond, List, [], ◌∷◌, None, refl, sym, ap, ◌∙◌, inl, inr, arith, eqb-true}
use Rattle.std.specs.List.{count_by, filter}
use Rattle.std.proofs.lemmas.Bool.{both_ways, false_from_ne_true, cases_Bool, eq-eqb, ltb-true}
use Rattle.std.proofs.lemmas.Bool.Decides.{nat_tests}
use Rattle.ss_base.specs.declared.ids.ContainerId.{ContainerId}
use Rattle.ss_base.specs.declared.ids.ManifestId.{ManifestId}
use Rattle.ss_base.specs.declared.object.Object.{Object}
use Rattle.ss_base.specs.declared.object.Object.TheVariants.{Container, Manifest}
use Rattle.ss_base.specs.Ids.{has_container}
use Rattle.ss_base.specs.KnownObjects.{known_objects}
use Rattle.journal_entry.specs.declared.entry.Entry.{Entry}
use Rattle.journal_entry.specs.declared.entry.Point.{Point}
use Rattle.journal_entry.specs.declared.entry.Point.TheVariants.{Commit}
use Rattle.history.specs.Sessions.{has, is_unfinished, is_retained, is_closed}
use Rattle.history.specs.Need.{commits_manifest, is_live, uses_live, is_needed, known, is_wanted, is_erasable, erasable, is_pinned}
use Rattle.history_laws.specs.Recount.{holds, uses_of}
use Rattle.history_laws.specs.EntryNumbers.{manifest_of, uses_listed}
use Rattle.pins_counts.specs.Counts.{Counted, use_number, hold_number, is_ready, is_idle, dead_objects, one_if}
use Rattle.history_counts.specs.CountsOf.{held, lists_object, AreCountsOf}
use Rattle.history_counts.specs.InStep.{uses_held, Agrees}
use Rattle.ss_base.proofs.MemberLaws.{In}
use Rattle.ss_base.proofs.IdLaws.{same_manifest-self}
use Rattle.history_laws.proofs.SessionLaws.{has_from, has_cases, closed_not_unfinished}
use Rattle.history_laws.proofs.ObjectLaws.{IsOfClosed, known_closed}
use Rattle.history_laws.proofs.RecountLaws.{live_held, needed_used}
use Rattle.history_counts.proofs.CountLaws.{count_alike, count_cons}

-- ---- the recount

pub held_committed : (id : ManifestId) (past : List Entry) → has (commits_manifest id) past ≡ true → held id past ≡ holds id past
unfolding held
held_committed id past committed = ap (λ b. cond b (holds id past) 0) committed

pub held_uncommitted : (id : ManifestId) (past : List Entry) → has (commits_manifest id) past ≡ false → held id past ≡ 0
unfolding held
held_uncommitted id past none = ap (λ b. cond b (holds id past) 0) none

use_at : (counted : Counted) (c : ContainerId) (past : List Entry) (point : Point) → ((id : ManifestId) → hold_number counted id ≡ held id past) → ((id : ManifestId) → commits_manifest id point ≡ true → has (commits_manifest id) past ≡ true)
    → uses_held counted c point ≡ uses_live c past point
unfolding uses_held uses_live commits_manifest
use_at counted c past (Commit m content text chunks bytes fresh fresh_bytes uses) holds_are committed =
    let there = committed m (same_manifest-self m) in
    ap (λ b. has_container c uses && b) (ap (ltb 0) (holds_are m ∙ held_committed m past there) ∙ sym (live_held m past there))
use_at counted c past _ holds_are committed = refl

-- where the holds are those of the recount, so are the uses
pub uses_recount : (counted : Counted) (c : ContainerId) (past : List Entry) → ((id : ManifestId) → hold_number counted id ≡ held id past)
    → count_by (λ (entry : Entry). uses_held counted c entry.point) past ≡ uses_of c past
unfolding uses_of
uses_recount counted c past holds_are = count_alike (λ (e : Entry). uses_held counted c e.point) (λ (e : Entry). uses_live c past e.point) past
    (λ e h. use_at counted c past e.point holds_are (λ id does. has_from (commits_manifest id) e past h does))

pub counts_agree : (counted : Counted) (past : List Entry) → AreCountsOf counted past → Agrees counted past
counts_agree counted past are = record {
  uses_agree = λ c. are.uses_are c ∙ sym (uses_recount counted c past are.holds_are);
  ready_are = are.ready_are;
}

-- ---- what can be erased

filter_alike : {X : Type 0} (p q : X → Bool) (xs : List X) → ((x : X) → In x xs → p x ≡ q x) → filter p xs ≡ filter q xs
filter_alike p q [] same = refl
filter_alike p q (x ∷ xs) same = λ i. cond (same x (inl refl) i) (x ∷ filter_alike p q xs (λ y h. same y (inr h)) i) (filter_alike p q xs (λ y h. same y (inr h)) i)

zero_test : (n : ℕ) → eqb n 0 ≡ not (ltb 0 n)
zero_test n = elim (cases_Bool (ltb 0 n)) [
  | inl some ↦ let above = ltb-true 0 n some in false_from_ne_true _ (λ same. let is = eqb-true n 0 same in absurd (omega (arith, above, is))) ∙ ap not (sym some)
  | inr none ↦ eq-eqb n 0 (least n none) ∙ ap not (sym none)
]
  where
    least : (n : ℕ) → ltb 0 n ≡ false → n ≡ 0
    least n none = grind (arith, nat_tests)

dead : (id : ManifestId) (past : List Entry) → has (commits_manifest id) past ≡ false → is_live id past ≡ ltb 0 0
unfolding is_live
dead id past none = ap (λ b. b && (is_unfinished id.session past || (is_retained id.session past || is_pinned id past))) none

live_test : (id : ManifestId) (past : List Entry) → is_live id past ≡ ltb 0 (held id past)
live_test id past = elim (cases_Bool (has (commits_manifest id) past)) [
  | inl committed ↦ live_held id past committed ∙ ap (ltb 0) (sym (held_committed id past committed))
  | inr none ↦ dead id past none ∙ ap (ltb 0) (sym (held_uncommitted id past none))
]

idle_erasable : (counted : Counted) (past : List Entry) (object : Object) → AreCountsOf counted past → IsOfClosed past object → is_idle counted object ≡ is_erasable object past
unfolding is_erasable is_wanted is_closed
idle_erasable counted past (Container c) are closed =
    let open_no = closed_not_unfinished c.session past closed in
    let needed : is_needed c past ≡ ltb 0 (uses_of c past) = needed_used c past ∙ ap (λ b. b || ltb 0 (uses_of c past)) open_no in
    λ i. not (are.gone_are (Container c) i) && (ap (λ n. eqb n 0) (are.uses_are c) ∙ zero_test (uses_of c past) ∙ ap not (sym needed)) i
idle_erasable counted past (Manifest m) are closed =
    λ i. not (are.gone_are (Manifest m) i) && (ap (λ n. eqb n 0) (are.holds_are m) ∙ zero_test (held m past) ∙ ap not (sym (live_test m past))) i

-- the dead objects are those that can be erased
pub dead_erasable : (counted : Counted) (past : List Entry) → AreCountsOf counted past → dead_objects counted ≡ erasable past
unfolding erasable known
dead_erasable counted past are =
    ap (λ l. filter (is_idle counted) (known_objects l)) are.sessions_are
    ∙ filter_alike (is_idle counted) (λ object. is_erasable object past) (known past) (λ object h. idle_erasable counted past object are (known_closed object past h))

-- ---- numbers that change

same_use : (counted new : Counted) (c : ContainerId) (point : Point) → ((id : ManifestId) → commits_manifest id point ≡ true → ltb 0 (hold_number new id) ≡ ltb 0 (hold_number counted id)) → uses_held new c point ≡ uses_held counted c point
unfolding uses_held commits_manifest
same_use counted new c (Commit m content text chunks bytes fresh fresh_bytes uses) same = ap (λ b. has_container c uses && b) (same m (same_manifest-self m))
same_use counted new c _ same = refl

-- the same manifests of these entries have holds, and the numbers of uses have not changed
pub agrees_still : (counted new : Counted) (past : List Entry) → Agrees counted past → ((id : ManifestId) → has (commits_manifest id) past ≡ true → ltb 0 (hold_number new id) ≡ ltb 0 (hold_number counted id))
    → ((c : ContainerId) → use_number new c ≡ use_number counted c) → ((q : Object) → is_ready new q ≡ is_ready counted q) → Agrees new past
agrees_still counted new past agrees same uses ready = record {
  uses_agree = λ c. uses c ∙ agrees.uses_agree c ∙ count_alike (λ (e : Entry). uses_held counted c e.point) (λ (e : Entry). uses_held new c e.point) past
      (λ e h. sym (same_use counted new c e.point (λ id does. same id (has_from (commits_manifest id) e past h does))));
  ready_are = λ q listed. ready q ∙ agrees.ready_are q listed;
}

no_use : (counted : Counted) (c : ContainerId) (point : Point) → manifest_of point ≡ None → uses_held counted c point ≡ false
unfolding manifest_of uses_held
no_use counted c (Commit m content text chunks bytes fresh fresh_bytes uses) none = absurd (cc)
no_use counted c _ none = refl

no_object : (q : Object) (point : Point) → manifest_of point ≡ None → lists_object q point ≡ false
unfolding manifest_of lists_object commits_manifest uses_listed has_container
no_object q (Commit m content text chunks bytes fresh fresh_bytes uses) none = absurd (cc)
no_object (Container c) _ none = refl
no_object (Manifest m) _ none = refl

-- an entry that commits nothing
pub agrees_more : (counted : Counted) (entry : Entry) (past : List Entry) → manifest_of entry.point ≡ None → Agrees counted past → Agrees counted (entry ∷ past)
agrees_more counted entry past none agrees = record {
  uses_agree = λ c.
      agrees.uses_agree c
      ∙ (let rest = count_cons (λ (e : Entry). uses_held counted c e.point) entry past in
      let here = ap one_if (no_use counted c entry.point none) in omega (arith, rest, here));
  ready_are = λ q listed. elim (has_cases (lists_object q) entry past listed) [
    | inl here ↦ absurd (both_ways _ (no_object q entry.point none) here)
    | inr older ↦ agrees.ready_are q older
  ];
}

-- the uses of entries whose manifests have holds as before
pub uses_older : (counted new : Counted) (past : List Entry) → ((id : ManifestId) → has (commits_manifest id) past ≡ true → ltb 0 (hold_number new id) ≡ ltb 0 (hold_number counted id)) → (c : ContainerId)
    → count_by (λ (entry : Entry). uses_held new c entry.point) past ≡ count_by (λ (entry : Entry). uses_held counted c entry.point) past
uses_older counted new past same c = count_alike (λ (e : Entry). uses_held new c e.point) (λ (e : Entry). uses_held counted c e.point) past
    (λ e h. same_use counted new c e.point (λ id does. same id (has_from (commits_manifest id) e past h does)))
