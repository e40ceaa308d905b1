-- Objects that are whole stay so without one that a Reclaim has named.
use Rattle.std.proofs.Common.{◌≡◌, ◌≢◌, ℕ, suc, ◌<◌, ◌^◌, Bool, true, false, eqb, cond, List, [], ◌∷◌, ◌++◌, length, drop, get_or, None, Some, refl, sym, ap, ◌∙◌, subst, inl, inr, append_assoc, append-nil, codes, arith, eqb-true}
use Rattle.std.specs.Fmt.{decimal}
use Rattle.std.specs.FinMap as map
use Rattle.std.specs.List.{All, AllByRecursion}
use Rattle.std.proofs.lemmas.Bool.{false≢true, both_ways, and_parts, or_cases, ne_eqb}
use Rattle.std.proofs.lemmas.Fmt.{decimal_is_IsNumeral, decimal_injective}
use Rattle.std.proofs.lemmas.List.Elements.{All-head, All-tail, All-contains, All-from_recursion}
use Rattle.std.proofs.lemmas.Str.Parse.{digit_at}
use Rattle.ss_base.specs.declared.ids.ContainerId.{ContainerId}
use Rattle.ss_base.specs.declared.ids.ManifestId.{ManifestId}
use Rattle.ss_base.specs.declared.object.Object.{Object}
use Rattle.ss_base.specs.declared.object.Object.TheVariants.{Container, Manifest}
use Rattle.ss_base.specs.declared.profile.Numbers.{Numbers}
use Rattle.ss_base.specs.Ids.{same_container, same_object, has_container}
use Rattle.ss_base.specs.ObjectName.{object_text}
use Rattle.ss_base.specs.Profile.{AreSound}
use Rattle.ss_base.proofs.MemberLaws.{In, any_in}
use Rattle.ss_base.proofs.IdLaws.{same_manifest-true, same_container-true, same_object-true}
use Rattle.outside.specs.Shelf.{Objects, bytes_of}
use Rattle.outside.proofs.ObjectLaws.{bytes_of-remove_other}
use Rattle.segment_plan.proofs.LieLaws.{Contains-from_in}
use Rattle.journal_entry.specs.declared.entry.Entry.{Entry}
use Rattle.journal_entry.specs.declared.entry.Point.{Point}
use Rattle.journal_entry.specs.declared.entry.Point.TheVariants.{Begin, Commit, Reclaim}
use Rattle.journal_entry.specs.Bounds.{FitsManifest, FitsContainer, FitsObject, PointFits, IsEntry}
use Rattle.history.specs.declared.rules.Rules.{Rules}
use Rattle.history.specs.Sessions.{session_begun, begins, closes, has, is_unfinished, is_closed}
use Rattle.history.specs.Need.{commits_manifest, is_live, uses_live, is_needed, reclaims, is_wanted}
use Rattle.history.specs.Legal.{is_legal}
use Rattle.history_laws.proofs.SessionLaws.{has_cases, has_none, unfinished_is}
use Rattle.history_laws.proofs.ObjectLaws.{session_of, IsOfClosed, reclaimed_parts}
use Rattle.stored_streams.specs.Streams.{Streams}
use Rattle.stored_streams.specs.OfStreams.{IsOfStreams}
use Rattle.stored_streams.specs.Whole.{IsWhole}
use Rattle.stored_streams.proofs.NameLaws.{same_object_text}
use Rattle.whole_objects.specs.Keeps.{KeepsWanted}
use Rattle.whole_objects.proofs.KeepLaws.{whole_kept}

-- ---- the session in an object's name

-- what stands before the first hyphen
before_hyphen : List ℕ → List ℕ
before_hyphen [] = []
before_hyphen (c ∷ cs) = cond (eqb c 45) [] (c ∷ before_hyphen cs)

front_before : (front rest : List ℕ) → ((i : ℕ) → i < length front → get_or front i 0 ≢ 45) → before_hyphen (front ++ (45 ∷ rest)) ≡ front
unfolding before_hyphen
front_before [] rest none = refl
front_before (c ∷ front) rest none =
    let first : c ≢ 45 = none 0 (omega arith) in
    rw (ne_eqb c 45 first) (ap (λ (cs : List ℕ). c ∷ cs) (front_before front rest (λ i below. none (suc i) (omega (arith, below)))))

number_before : (n : ℕ) (rest : List ℕ) → n < 2 ^ 64 → before_hyphen ((decimal n ++ codes "-") ++ rest) ≡ decimal n
number_before n rest small =
    ap before_hyphen (append_assoc (decimal n) (codes "-") rest)
    ∙ front_before (decimal n) rest (λ i below is. let digit = digit_at (decimal n) i (decimal_is_IsNumeral n small).0.1 below in let low = digit.0 in omega (arith, is, low))

session_before : (o : Object) → session_of o < 2 ^ 64 → before_hyphen (drop 2 (object_text o)) ≡ decimal (session_of o)
session_before (Container id) small = number_before id.session (decimal id.ordinal) small
session_before (Manifest id) small = number_before id.session (decimal id.seq) small

session_named : (a b : Object) → session_of a < 2 ^ 64 → session_of b < 2 ^ 64 → object_text a ≡ object_text b → session_of a ≡ session_of b
session_named a b small small_too same =
    decimal_injective (session_of a) (session_of b) small small_too
    (sym (session_before a small) ∙ ap (λ (name : List ℕ). before_hyphen (drop 2 name)) same ∙ session_before b small_too)

-- ---- numbers of what entries name

-- the entry that does it has a text
entry_with : (does : Point → Bool) (past : List Entry) → All IsEntry past → has does past ≡ true → (entry : Entry) × IsEntry entry × (does entry.point ≡ true)
entry_with does [] entries some = absurd (false≢true (sym (has_none does) ∙ some))
entry_with does (entry ∷ past) entries some = elim (has_cases does entry past some) [
  | inl here ↦ (entry, All-head IsEntry entry past entries, here)
  | inr older ↦ entry_with does past (All-tail IsEntry entry past entries) older
]

listed_fits : {X : Type 0} (P : X → Type 0) (x : X) (xs : List X) → AllByRecursion P xs → In x xs → P x
listed_fits P x xs all h = All-contains P xs x (All-from_recursion P xs all) (Contains-from_in x xs h)

begun_fits : (session : ℕ) (point : Point) → PointFits point → begins session point ≡ true → session < 2 ^ 32
unfolding begins session_begun
begun_fits session (Begin name None) fits does = absurd (false≢true does)
begun_fits session (Begin name (Some s)) fits does = subst (λ k. k < 2 ^ 32) (sym (eqb-true session s does)) fits.1
begun_fits session _ fits does = absurd (false≢true does)

committed_fits : (id : ManifestId) (point : Point) → PointFits point → commits_manifest id point ≡ true → FitsManifest id
unfolding commits_manifest
committed_fits id (Commit other content text chunks bytes fresh fresh_bytes uses) fits does = subst FitsManifest (sym (same_manifest-true id other does)) fits.0
committed_fits id _ fits does = absurd (false≢true does)

used_fits : (id : ContainerId) (past : List Entry) (point : Point) → PointFits point → uses_live id past point ≡ true → FitsContainer id
unfolding uses_live has_container
used_fits id past (Commit manifest content text chunks bytes fresh fresh_bytes uses) fits used =
    let found = any_in (same_container id) uses (and_parts _ _ used).0 in
    subst FitsContainer (sym (same_container-true id found.0 found.2)) (listed_fits FitsContainer found.0 uses fits.7 found.1)
used_fits id past _ fits used = absurd (false≢true used)

reclaimed_fits : (object : Object) (point : Point) → PointFits point → reclaims object point ≡ true → FitsObject object
unfolding reclaims
reclaimed_fits object (Reclaim objects) fits named =
    let found = any_in (same_object object) objects named in
    subst FitsObject (sym (same_object-true object found.0 found.2)) (listed_fits FitsObject found.0 objects fits found.1)
reclaimed_fits object _ fits named = absurd (false≢true named)

session_fits : (o : Object) → FitsObject o → session_of o < 2 ^ 64
session_fits (Container id) fits = let small = fits.0 in omega (arith, small)
session_fits (Manifest id) fits = let small = fits.0 in omega (arith, small)

-- ---- what was reclaimed has another name than what is wanted

record IsReclaimed (past : List Entry) (object : Object) : Type 0 where
  pub closed : IsOfClosed past object
  pub unwanted : is_wanted object past ≡ false
  pub fits : FitsObject object

reclaimed : (rules : Rules) (past : List Entry) (object : Object) → is_legal rules past ≡ true → All IsEntry past → has (reclaims object) past ≡ true → IsReclaimed past object
reclaimed rules past object legal entries named =
    let parts = reclaimed_parts rules object past legal named in
    let at = entry_with (reclaims object) past entries named in
    record { closed = parts.0; unwanted = parts.1; fits = reclaimed_fits object at.0.point at.1.point at.2 }

-- a wanted object whose numbers fit
other_object : (past : List Entry) (object wanted : Object) → IsReclaimed past object → FitsObject wanted → is_wanted wanted past ≡ true → object_text wanted ≢ object_text object
other_object past object wanted is fits want same =
    let one = same_object_text wanted object fits is.fits same in
    both_ways _ is.unwanted (subst (λ (o : Object). is_wanted o past ≡ true) one want)

-- a container of an unfinished session
other_session : (past : List Entry) (object : Object) (id : ContainerId) → All IsEntry past → IsReclaimed past object → is_unfinished id.session past ≡ true → object_text (Container id) ≢ object_text object
unfolding is_closed
other_session past object id entries is unfinished same =
    let parts = unfinished_is id.session past unfinished in
    let at = entry_with (begins id.session) past entries parts.0 in
    let small = begun_fits id.session at.0.point at.1.point at.2 in
    let one = session_named (Container id) object (omega (arith, small)) (session_fits object is.fits) same in
    both_ways _ parts.1 (subst (λ s. has (closes s) past ≡ true) (sym one) is.closed)

other_container : (past : List Entry) (object : Object) (id : ContainerId) → All IsEntry past → IsReclaimed past object → is_needed id past ≡ true → object_text (Container id) ≢ object_text object
unfolding is_needed is_wanted
other_container past object id entries is needed = elim (or_cases _ _ needed) [
  | inl unfinished ↦ other_session past object id entries is unfinished
  | inr used ↦
      let at = entry_with (uses_live id past) past entries used in
      other_object past object (Container id) is (used_fits id past at.0.point at.1.point at.2) needed
]

other_manifest : (past : List Entry) (object : Object) (id : ManifestId) → All IsEntry past → IsReclaimed past object → is_live id past ≡ true → object_text (Manifest id) ≢ object_text object
unfolding is_live is_wanted
other_manifest past object id entries is live =
    let at = entry_with (commits_manifest id) past entries (and_parts _ _ live).0 in
    other_object past object (Manifest id) is (committed_fits id at.0.point at.1.point at.2) live

-- ---- without it

keeps_wanted : (n : Numbers) (streams : Streams) (past : List Entry) (objects : Objects) (object : Object) → All IsEntry past → IsReclaimed past object → KeepsWanted n streams past objects (map.remove objects (object_text object))
keeps_wanted n streams past objects object entries is = record {
  containers = λ id needed below. ([], bytes_of-remove_other objects (object_text object) (object_text (Container id)) (other_container past object id entries is needed) ∙ sym (append-nil (bytes_of objects (object_text (Container id)))));
  manifests = λ id live. bytes_of-remove_other objects (object_text object) (object_text (Manifest id)) (other_manifest past object id entries is live);
}

pub whole_without : (n : Numbers) (streams : Streams) (rules : Rules) (past : List Entry) (objects : Objects) (object : Object) → AreSound n → is_legal rules past ≡ true → All IsEntry past → IsOfStreams n streams past → has (reclaims object) past ≡ true → IsWhole n streams past objects → IsWhole n streams past (map.remove objects (object_text object))
whole_without n streams rules past objects object sound legal entries of_streams named whole =
    whole_kept n streams rules past objects (map.remove objects (object_text object)) sound legal entries of_streams whole
    (keeps_wanted n streams past objects object entries (reclaimed rules past object legal entries named))
