-- What can be erased, or was given over to be removed, is never wanted again.
use Rattle.std.proofs.Common.{◌≡◌, ◌⊎◌, ℕ, zero, suc, ◌+◌, true, false, eqb, List, [], ◌∷◌, ◌++◌, take, Option, Some, None, refl, sym, ap, ◌∙◌, subst, inl, inr}
use mathlib.Core.List.{map}
use Rattle.std.specs.List.{flat_map, range_with_len}
use Rattle.std.specs.Option.{option_map_or, option_and_then}
use Rattle.std.proofs.lemmas.Bool.{false≢true, and_parts, and_left, and_right, not-true}
use Rattle.ss_base.specs.declared.object.Object.{Object}
use Rattle.ss_base.specs.declared.object.Object.TheVariants.{Container, Manifest}
use Rattle.ss_base.specs.Ids.{same_object}
use Rattle.ss_base.specs.declared.ended.Ended.{Ended}
use Rattle.ss_base.specs.KnownObjects.{container_at, manifest_at, numbered, objects_of}
use Rattle.journal_entry.specs.declared.entry.Entry.{Entry}
use Rattle.history.specs.declared.rules.Rules.{Rules}
use Rattle.journal_entry.specs.declared.entry.Point.{Point}
use Rattle.journal_entry.specs.declared.entry.Point.TheVariants.{Reclaim}
use Rattle.history.specs.Sessions.{closes, has, newest, session_count, is_closed}
use Rattle.history.specs.Need.{ended_by, ended, all_ended, known, reclaims, is_wanted, is_erasable, erasable}
use Rattle.history.specs.Legal.{is_legal, is_allowed}
use Rattle.ss_base.proofs.MemberLaws.{In, any_in, find_in, filter_in, append_in, map_in, flat_map_in, take_in}
use Rattle.ss_base.proofs.ApartLaws.{Apart, apart_filter, apart_append, apart_map, apart_flat_map, apart_range}
use Rattle.history_laws.proofs.Allowed.{step}
use Rattle.history_laws.proofs.SessionLaws.{has_cases, has_none, has_from}
use Rattle.history_laws.proofs.NeedLaws.{closed_still, never_live, never_needed}
use Rattle.ss_base.proofs.IdLaws.{same_object-true, pointwise-true}

-- the session that an object belongs to
abbrev pub session_of : Object → ℕ
session_of (Container id) = id.session
session_of (Manifest id) = id.session

-- an object of a session that is closed
abbrev pub IsOfClosed : List Entry → Object → Type 0
IsOfClosed past object = is_closed (session_of object) past ≡ true

-- how many objects of a kind a session has; none before it is closed
abbrev count_in : (Ended → ℕ) → Option Ended → ℕ
count_in count o = option_map_or count o 0

-- objects of one kind, session by session, with so many in each
abbrev objects_by : (ℕ → ℕ → Object) → (ℕ → ℕ) → ℕ → ℕ → List Object
objects_by object count a n = flat_map (λ s. numbered (object s) 0 (count s)) (range_with_len a n)

objects_first : (object : ℕ → ℕ → Object) (count : Ended → ℕ) (s : ℕ) (o : Option Ended) (rest : List (Option Ended)) → objects_of object count s (o ∷ rest) ≡ numbered (object s) 0 (count_in count o) ++ objects_of object count (s + 1) rest
objects_first object count s None rest = refl
objects_first object count s (Some e) rest = refl

objects_flat : (object : ℕ → ℕ → Object) (count : Ended → ℕ) (f : ℕ → Option Ended) (a n : ℕ) → objects_of object count a (map f (range_with_len a n)) ≡ objects_by object (λ s. count_in count (f s)) a n
objects_flat object count f a zero = refl
objects_flat object count f a (suc n) =
    objects_first object count a (f a) (map f (range_with_len (a + 1) n))
    ∙ ap (λ xs. numbered (object a) 0 (count_in count (f a)) ++ xs) (objects_flat object count f (a + 1) n)

-- the known containers, and the known manifests
abbrev counted : (Ended → ℕ) → List Entry → ℕ → ℕ
counted count past s = count_in count (ended s past)

abbrev containers_known : List Entry → List Object
containers_known past = objects_by container_at (counted (λ (e : Ended). e.containers) past) 0 (session_count past)

abbrev manifests_known : List Entry → List Object
manifests_known past = objects_by manifest_at (counted (λ (e : Ended). e.texts) past) 0 (session_count past)

known_parts : (past : List Entry) → known past ≡ containers_known past ++ manifests_known past
unfolding known all_ended
known_parts past =
    ap (λ xs. xs ++ objects_of manifest_at (λ (e : Ended). e.texts) 0 (all_ended past)) (objects_flat container_at (λ (e : Ended). e.containers) (λ s. ended s past) 0 (session_count past))
    ∙ ap (λ ys. containers_known past ++ ys) (objects_flat manifest_at (λ (e : Ended). e.texts) (λ s. ended s past) 0 (session_count past))

-- a session of which something is known is closed
closed_if_known : (count : Ended → ℕ) (s : ℕ) (past : List Entry) (o : Option Entry) (n : ℕ) → newest (closes s) past ≡ o → In n (range_with_len 0 (count_in count (option_and_then (λ (entry : Entry). ended_by past entry.point) o))) → is_closed s past ≡ true
unfolding newest is_closed
closed_if_known count s past None n e h = absurd h
closed_if_known count s past (Some entry) n e h =
    let found = find_in (λ (x : Entry). closes s x.point) past entry e in
    has_from (closes s) entry past found.0 found.1

of_closed : (object_at : ℕ → ℕ → Object) → ((s n : ℕ) → session_of (object_at s n) ≡ s) → (count : Ended → ℕ) (object : Object) (past : List Entry) (n : ℕ) → In object (objects_by object_at (counted count past) 0 n) → IsOfClosed past object
unfolding ended
of_closed object_at is_of count object past n h =
    let at = flat_map_in (λ s. numbered (object_at s) 0 (counted count past s)) object (range_with_len 0 n) h in
    let one = map_in (object_at at.0) object (range_with_len 0 (counted count past at.0)) at.2 in
    let closed = closed_if_known count at.0 past (newest (closes at.0) past) one.0 refl one.1 in
    subst (IsOfClosed past) one.2 (subst (λ s. is_closed s past ≡ true) (sym (is_of at.0 one.0)) closed)

pub known_closed : (object : Object) (past : List Entry) → In object (known past) → IsOfClosed past object
known_closed object past h = elim (append_in object (containers_known past) (manifests_known past) (subst (λ xs. In object xs) (known_parts past) h)) [
  | inl container ↦ of_closed container_at (λ s n. refl) (λ (e : Ended). e.containers) object past (session_count past) container
  | inr manifest ↦ of_closed manifest_at (λ s n. refl) (λ (e : Ended). e.texts) object past (session_count past) manifest
]

-- what can be erased is of a closed session, and not wanted
pub erasable_parts : (object : Object) (past : List Entry) → In object (erasable past) → IsOfClosed past object × (is_wanted object past ≡ false)
unfolding erasable is_erasable
erasable_parts object past h =
    let parts = filter_in (λ o. is_erasable o past) object (known past) h in
    let both = and_parts _ _ parts.1 in
    (known_closed object past parts.0, not-true _ both.1)

pub never_wanted : (rules : Rules) (newer older : List Entry) (object : Object) → is_legal rules (newer ++ older) ≡ true → IsOfClosed older object → is_wanted object older ≡ false → is_wanted object (newer ++ older) ≡ false
unfolding is_wanted
never_wanted rules newer older (Container id) legal closed unwanted = never_needed rules newer older id legal closed unwanted
never_wanted rules newer older (Manifest id) legal closed unwanted = never_live rules newer older id legal closed unwanted

-- ---- objects that a Reclaim names

-- a Reclaim names what can be erased
pub reclaims_erasable : (rules : Rules) (past : List Entry) (author : ℕ) (object : Object) (point : Point) → is_allowed rules past author point ≡ true → reclaims object point ≡ true → In object (erasable past)
unfolding is_allowed reclaims
reclaims_erasable rules past author object (Reclaim objects) allowed named =
    let found = any_in (same_object object) objects named in
    let same : object ≡ found.0 = same_object-true object found.0 found.2 in
    let listed = subst (λ (xs : List Object). In found.0 xs) (pointwise-true same_object same_object-true objects (take 16 (erasable past)) allowed) found.1 in
    subst (λ (o : Object). In o (erasable past)) (sym same) (take_in found.0 16 (erasable past) listed)
reclaims_erasable rules past author object _ allowed named = absurd (false≢true named)

-- what some Reclaim named is of a closed session, and not wanted
pub reclaimed_parts : (rules : Rules) (object : Object) (past : List Entry) → is_legal rules past ≡ true → has (reclaims object) past ≡ true → IsOfClosed past object × (is_wanted object past ≡ false)
unfolding is_closed
reclaimed_parts rules object [] legal named = absurd (false≢true (sym (has_none (reclaims object)) ∙ named))
reclaimed_parts rules object (entry ∷ past) legal named =
    let now = step rules entry past legal in
    let before : IsOfClosed past object × (is_wanted object past ≡ false) = elim (has_cases (reclaims object) entry past named) [
      | inl here ↦ erasable_parts object past (reclaims_erasable rules past entry.author object entry.point now.allowed here)
      | inr older ↦ reclaimed_parts rules object past now.legal older
    ] in
    (closed_still (session_of object) (entry ∷ []) past before.0, never_wanted rules (entry ∷ []) past object legal before.0 before.1)

-- ---- once

-- what an entry reclaims was reclaimed by none before it
pub reclaimed_before : (rules : Rules) (object : Object) (entry : Entry) (past : List Entry) → is_legal rules (entry ∷ past) ≡ true → reclaims object entry.point ≡ true → has (reclaims object) past ≡ false
unfolding erasable is_erasable
reclaimed_before rules object entry past legal named =
    let now = step rules entry past legal in
    let listed = reclaims_erasable rules past entry.author object entry.point now.allowed named in
    let parts = filter_in (λ o. is_erasable o past) object (known past) listed in
    not-true _ (and_parts _ _ parts.1).0

-- the objects of one kind of each session: each is of the session, and has a number there
abbrev AreOf : (ℕ → ℕ → Object) → Type 0
AreOf object_of = (s t a b : ℕ) → (eqb s t ≡ false) ⊎ (eqb a b ≡ false) → same_object (object_of s a) (object_of t b) ≡ false

are_containers : AreOf container_at
are_containers s t a b (inl session) = and_left (eqb s t) (eqb a b) session
are_containers s t a b (inr number) = and_right _ _ number

are_manifests : AreOf manifest_at
are_manifests s t a b (inl session) = and_left (eqb s t) (eqb a b) session
are_manifests s t a b (inr number) = and_right _ _ number

objects_apart : (object_at : ℕ → ℕ → Object) → AreOf object_at → (count : ℕ → ℕ) (n : ℕ) → Apart same_object (objects_by object_at count 0 n)
objects_apart object_at are count n =
    apart_flat_map eqb same_object (λ s. numbered (object_at s) 0 (count s))
    (λ s. apart_map eqb same_object (object_at s) (λ a b apart. are s s a b (inr apart)) (range_with_len 0 (count s)) (apart_range 0 (count s)))
    (λ s t x y apart first second.
    let at = map_in (object_at s) x (range_with_len 0 (count s)) first in
    let there = map_in (object_at t) y (range_with_len 0 (count t)) second in
    let P : Object → Object → Type 0 = λ p q. same_object p q ≡ false in
    subst (λ (q : Object). P x q) there.2 (subst (λ (p : Object). P p (object_at t there.0)) at.2 (are s t at.0 there.0 (inl apart))))
    (range_with_len 0 n) (apart_range 0 n)

-- no object is known twice
known_apart : (past : List Entry) → Apart same_object (known past)
known_apart past =
    let containers = counted (λ (e : Ended). e.containers) past in
    let texts = counted (λ (e : Ended). e.texts) past in
    let n = session_count past in
    subst (λ (xs : List Object). Apart same_object xs) (sym (known_parts past)) (apart_append same_object (containers_known past) (manifests_known past)
    (objects_apart container_at are_containers containers n)
    (objects_apart manifest_at are_manifests texts n)
    (λ x y first second.
    let c = flat_map_in (λ s. numbered (container_at s) 0 (containers s)) x (range_with_len 0 n) first in
    let container = map_in (container_at c.0) x (range_with_len 0 (containers c.0)) c.2 in
    let m = flat_map_in (λ s. numbered (manifest_at s) 0 (texts s)) y (range_with_len 0 n) second in
    let manifest = map_in (manifest_at m.0) y (range_with_len 0 (texts m.0)) m.2 in
    ap (λ (o : Object). same_object o y) (sym container.2) ∙ ap (λ (o : Object). same_object (container_at c.0 container.0) o) (sym manifest.2)))

pub erasable_apart : (past : List Entry) → Apart same_object (erasable past)
unfolding erasable
erasable_apart past = apart_filter same_object (λ o. is_erasable o past) (known past) (known_apart past)
