-- What a step of the counts does to their agreement with a history.
use Rattle.std.proofs.Common.{◌≡◌, ◌⊎◌, ℕ, ◌+◌, ◌<◌, ◌≤◌, Bool, true, false, ◌&&◌, ◌||◌, eqb, ltb, List, [], ◌∷◌, length, take, reverse, get_or, slice_get, Some, refl, sym, ap, ◌∙◌, subst, inl, inr, arith, eqb-true}
use Rattle.std.specs.List.{count_by, IsDistinct}
use Rattle.std.specs.Option.{option_map_or, option_and_then}
use Rattle.std.specs.Ordering.{eq_by_cmp}
use Rattle.std.proofs.lemmas.Bool.{false≢true, both_ways, and_parts, and_from, or_cases, false_from_ne_true, cases_Bool, eq-eqb, ltb-true, lt-ltb}
use Rattle.std.proofs.lemmas.Bool.Decides.{nat_tests}
use Rattle.std.proofs.lemmas.List.{reverse-reverse}
use Rattle.std.proofs.lemmas.List.Sums.{sum_by_more, sum_by_more_le}
use Rattle.std.proofs.lemmas.Option.{slice_get-get_or}
use Rattle.ss_base.specs.declared.ids.ContainerId.{ContainerId}
use Rattle.ss_base.specs.declared.ids.ManifestId.{ManifestId}
use Rattle.ss_base.specs.declared.object.Object.{Object}
use Rattle.ss_base.specs.declared.object.Object.TheVariants.{Container, Manifest}
use Rattle.ss_base.specs.Ids.{same_manifest, same_container, same_object, has_container, has_object}
use Rattle.ss_base.specs.Order.{object_cmp, is_container_before, is_before_first, are_ascending}
use Rattle.journal_entry.specs.declared.entry.Entry.{Entry}
use Rattle.journal_entry.specs.declared.entry.Point.{Point}
use Rattle.journal_entry.specs.declared.entry.Point.TheVariants.{Commit}
use Rattle.history.specs.declared.rules.Rules.{Rules}
use Rattle.history.specs.Sessions.{has}
use Rattle.history.specs.Need.{commits_manifest}
use Rattle.history.specs.Legal.{is_allowed, lists_use, are_uses, is_legal}
use Rattle.history_laws.specs.EntryNumbers.{entry_at, manifest_of, uses_listed, committed_at}
use Rattle.pins_counts.specs.Counts.{Counted, use_number, hold_number, is_ready, one_if, containers}
use Rattle.history_counts.specs.CountsOf.{lists_object}
use Rattle.history_counts.specs.InStep.{IsHistory, uses_held, Agrees, commits_at, times, HasHolds, gives_up}
use Rattle.ss_base.proofs.MemberLaws.{In, in_any, reverse_in}
use Rattle.ss_base.proofs.ApartLaws.{Apart, apart_map, IsDistinct-from_apart}
use Rattle.ss_base.proofs.GetLaws.{get_in}
use Rattle.ss_base.proofs.IdLaws.{same_manifest-self, same_manifest-true, same_container-self}
use Rattle.ss_base.proofs.OrderLaws.{tied-same_object}
use Rattle.history_laws.proofs.Allowed.{step, commit_says}
use Rattle.history_laws.proofs.SessionLaws.{has_from}
use Rattle.history_laws.proofs.OnceLaws.{never_twice}
use Rattle.history_counts.proofs.CountLaws.{balanced, count_alike, count_cons, at_least_one, count_never}
use Rattle.history_counts.proofs.UsesLaws.{agrees_still}
use Rattle.history_counts.proofs.TimesLaws.{of_point}

-- ---- distinct containers

before_parts : (a b : ContainerId) → is_container_before a b ≡ true → (a.session < b.session) ⊎ ((a.session ≡ b.session) × (a.ordinal < b.ordinal))
before_parts a b e = elim (or_cases (ltb a.session b.session) (eqb a.session b.session && ltb a.ordinal b.ordinal) e) [
  | inl less ↦ inl (ltb-true a.session b.session less)
  | inr same ↦ let parts = and_parts (eqb a.session b.session) (ltb a.ordinal b.ordinal) same in inr (eqb-true a.session b.session parts.0, ltb-true a.ordinal b.ordinal parts.1)
]

-- a container comes before another
abbrev IsBefore : ContainerId → ContainerId → Type 0
IsBefore a b = (a.session < b.session) ⊎ ((a.session ≡ b.session) × (a.ordinal < b.ordinal))

before_both : (a b c : ContainerId) → IsBefore a b → IsBefore b c → IsBefore a c
before_both a b c (inl x) (inl y) = inl (omega (arith, x, y))
before_both a b c (inl x) (inr y) = inl (let e = y.0 in omega (arith, x, e))
before_both a b c (inr x) (inl y) = inl (let e = x.0 in omega (arith, y, e))
before_both a b c (inr x) (inr y) = inr (x.0 ∙ y.0, (let p = x.1 in let q = y.1 in omega (arith, p, q)))

before_apart : (a b : ContainerId) → IsBefore a b → same_container a b ≡ false
before_apart a b before = false_from_ne_true _ (λ same.
    let parts = and_parts (eqb a.session b.session) (eqb a.ordinal b.ordinal) same in
    let session = eqb-true a.session b.session parts.0 in
    let ordinal = eqb-true a.ordinal b.ordinal parts.1 in
    elim before [ inl x ↦ absurd (omega (arith, x, session)) | inr x ↦ absurd (let p = x.1 in omega (arith, p, ordinal)) ])

ascending_parts : (id : ContainerId) (ids : List ContainerId) → are_ascending (id ∷ ids) ≡ true → (is_before_first id ids ≡ true) × (are_ascending ids ≡ true)
unfolding are_ascending
ascending_parts id ids e = and_parts (is_before_first id ids) (are_ascending ids) e

first_before : (id other : ContainerId) (ids : List ContainerId) → is_before_first id (other ∷ ids) ≡ true → IsBefore id other
unfolding is_before_first
first_before id other ids e = before_parts id other e

before_all : (id : ContainerId) (ids : List ContainerId) → is_before_first id ids ≡ true → are_ascending ids ≡ true → (other : ContainerId) → In other ids → IsBefore id other
before_all id [] first ascending other h = absurd h
before_all id (x ∷ ids) first ascending other (inl same) = subst (IsBefore id) same (first_before id x ids first)
before_all id (x ∷ ids) first ascending other (inr later) =
    let parts = ascending_parts x ids ascending in
    before_both id x other (first_before id x ids first) (before_all x ids parts.0 parts.1 other later)

apart_ascending : (ids : List ContainerId) → are_ascending ids ≡ true → Apart same_container ids
apart_ascending [] ascending = tt
apart_ascending (id ∷ ids) ascending =
    let parts = ascending_parts id ids ascending in
    ((λ y h. before_apart id y (before_all id ids parts.0 parts.1 y h)), apart_ascending ids parts.1)

-- containers that ascend are distinct
pub distinct_uses : (uses : List ContainerId) → are_ascending uses ≡ true → IsDistinct (eq_by_cmp object_cmp) (containers uses)
distinct_uses uses ascending = subst (λ (same : Object → Object → Bool). IsDistinct same (containers uses)) (sym tied-same_object)
    (IsDistinct-from_apart same_object (containers uses) (apart_map same_container same_object (λ (id : ContainerId). Container id) (λ x y e. e) uses (apart_ascending uses ascending)))

-- ---- what a legal history commits

ascend : (m : ManifestId) (past : List Entry) (uses : List ContainerId) → are_uses m.session past uses ≡ true → are_ascending uses ≡ true
unfolding are_uses
ascend m past uses e = (and_parts _ _ e).0

uses_ascending : (rules : Rules) (past : List Entry) (author : ℕ) (point : Point) → is_allowed rules past author point ≡ true → are_ascending (uses_listed point) ≡ true
unfolding uses_listed are_ascending
uses_ascending rules past author (Commit m content text chunks bytes fresh fresh_bytes uses) allowed =
    ascend m past uses (commit_says rules past author m content text chunks bytes fresh fresh_bytes uses allowed).may_use
uses_ascending rules past author _ allowed = refl

pub all_ascending : (rules : Rules) (entry : Entry) (past : List Entry) → is_legal rules past ≡ true → In entry past → are_ascending (uses_listed entry.point) ≡ true
all_ascending rules entry [] legal h = absurd h
all_ascending rules entry (x ∷ past) legal (inl same) = let now = step rules x past legal in subst (λ (e : Entry). are_ascending (uses_listed e.point) ≡ true) same (uses_ascending rules past x.author x.point now.allowed)
all_ascending rules entry (x ∷ past) legal (inr later) = let now = step rules x past legal in all_ascending rules entry past now.legal later

lists_commits : (id : ManifestId) (c : ContainerId) (point : Point) → lists_use id c point ≡ true → commits_manifest id point ≡ true
unfolding lists_use commits_manifest
lists_commits id c (Commit m content text chunks bytes fresh fresh_bytes uses) e = (and_parts _ _ e).0
lists_commits id c _ e = absurd (false≢true e)

lists_here : (id : ManifestId) (c : ContainerId) (point : Point) → commits_manifest id point ≡ true → lists_use id c point ≡ has_container c (uses_listed point)
unfolding lists_use commits_manifest uses_listed
lists_here id c (Commit m content text chunks bytes fresh fresh_bytes uses) e = ap (λ b. b && has_container c uses) e
lists_here id c _ e = absurd (false≢true e)

none_lists : (id : ManifestId) (c : ContainerId) (past : List Entry) → has (commits_manifest id) past ≡ false → count_by (λ (e : Entry). lists_use id c e.point) past ≡ 0
none_lists id c past none =
    count_alike (λ (e : Entry). lists_use id c e.point) (λ (e : Entry). false) past
    (λ e h. false_from_ne_true _ (λ does. both_ways _ none (has_from (commits_manifest id) e past h (lists_commits id c e.point does))))
    ∙ count_never past

-- a manifest is committed by one entry: it lists the containers once
pub lists_once : (rules : Rules) (id : ManifestId) (c : ContainerId) (entry : Entry) (past : List Entry) → is_legal rules past ≡ true → In entry past → commits_manifest id entry.point ≡ true
    → count_by (λ (e : Entry). lists_use id c e.point) past ≡ one_if (has_container c (uses_listed entry.point))
lists_once rules id c entry [] legal h does = absurd h
lists_once rules id c entry (x ∷ past) legal (inl same) does =
    let now = step rules x past legal in
    let here : commits_manifest id x.point ≡ true = ap (λ (e : Entry). commits_manifest id e.point) same ∙ does in
    let fresh : has (commits_manifest id) past ≡ false = false_from_ne_true _ (λ committed. never_twice rules id x past now here committed) in
    let all = count_cons (λ (e : Entry). lists_use id c e.point) x past in
    let rest = none_lists id c past fresh in
    let first = ap one_if (lists_here id c x.point here ∙ ap (λ (e : Entry). has_container c (uses_listed e.point)) same) in
    omega (arith, all, rest, first)
lists_once rules id c entry (x ∷ past) legal (inr later) does =
    let now = step rules x past legal in
    let other : lists_use id c x.point ≡ false = false_from_ne_true _ (λ here. never_twice rules id x past now (lists_commits id c x.point here) (has_from (commits_manifest id) entry past later does)) in
    let all = count_cons (λ (e : Entry). lists_use id c e.point) x past in
    let first = ap one_if other in
    let rest = lists_once rules id c entry past now.legal later does in
    omega (arith, all, rest, first)

-- ---- a hold more, a hold less

more_tests : (a b n : ℕ) → 0 < b → a ≡ b + n → ltb 0 a ≡ ltb 0 b
more_tests a b n above is = lt-ltb 0 a (omega (arith, above, is)) ∙ sym (lt-ltb 0 b above)

same_test : (a b n : ℕ) → a ≡ b + n → n ≡ 0 → ltb 0 a ≡ ltb 0 b
same_test a b n is none = let e : a ≡ b = omega (arith, is, none) in ap (ltb 0) e

-- holds of manifests that have one
pub agrees_pinned : (more : ManifestId → ℕ) (counted new : Counted) (past : List Entry) → Agrees counted past → HasHolds more counted new → ((c : ContainerId) → use_number new c ≡ use_number counted c)
    → ((id : ManifestId) → 0 < more id → 0 < hold_number counted id) → Agrees new past
agrees_pinned more counted new past agrees holds uses held = agrees_still counted new past agrees
    (λ id committed. elim (cases_Bool (ltb 0 (more id))) [
      | inl some ↦ more_tests (hold_number new id) (hold_number counted id) (more id) (held id (ltb-true 0 (more id) some)) (holds.holds id)
      | inr none ↦ same_test (hold_number new id) (hold_number counted id) (more id) (holds.holds id) (least (more id) none)
    ])
    uses holds.ready
  where
    least : (n : ℕ) → ltb 0 n ≡ false → n ≡ 0
    least n none = grind (arith, nat_tests)

release_use : (counted new : Counted) (c : ContainerId) (m : ManifestId) (point : Point) → hold_number new m ≡ 0 → 0 < hold_number counted m → ((id : ManifestId) → hold_number counted id ≡ hold_number new id + one_if (same_manifest id m))
    → one_if (uses_held counted c point) + one_if false ≡ one_if (uses_held new c point) + one_if (lists_use m c point)
unfolding uses_held lists_use
release_use counted new c m (Commit id content text chunks bytes fresh fresh_bytes uses) none some holds = elim (cases_Bool (same_manifest m id)) [
  | inl same ↦
      let is : m ≡ id = same_manifest-true m id same in
      let was : ltb 0 (hold_number counted id) ≡ true = subst (λ (i : ManifestId). ltb 0 (hold_number counted i) ≡ true) is (lt-ltb 0 (hold_number counted m) some) in
      let now : ltb 0 (hold_number new id) ≡ false = subst (λ (i : ManifestId). ltb 0 (hold_number new i) ≡ false) is (ap (ltb 0) none) in
      sums (has_container c uses) (ltb 0 (hold_number counted id)) (ltb 0 (hold_number new id)) (same_manifest m id) was now same
  | inr other ↦
      let apart : same_manifest id m ≡ false = false_from_ne_true _ (λ same. both_ways _ other (subst (λ (i : ManifestId). same_manifest m i ≡ true) (sym (same_manifest-true id m same)) (same_manifest-self m))) in
      let equal = same_test (hold_number counted id) (hold_number new id) (one_if (same_manifest id m)) (holds id) (ap one_if apart) in
      ap (λ b. one_if (has_container c uses && b) + one_if false) equal ∙ ap (λ b. one_if (has_container c uses && ltb 0 (hold_number new id)) + one_if (b && has_container c uses)) (sym other)
]
  where
    sums : (u was now same : Bool) → was ≡ true → now ≡ false → same ≡ true → one_if (u && was) + one_if false ≡ one_if (u && now) + one_if (same && u)
    sums true true false true a b d = refl
    sums false true false true a b d = refl
    sums u false now same a b d = absurd (false≢true a)
    sums u true true same a b d = absurd (false≢true (sym b))
    sums u true false false a b d = absurd (false≢true d)
release_use counted new c m _ none some holds = refl

-- the uses of a manifest that has no hold left are given up
pub agrees_dropped : (rules : Rules) (counted new : Counted) (m : ManifestId) (entry : Entry) (past : List Entry) → is_legal rules past ≡ true → In entry past → commits_manifest m entry.point ≡ true → Agrees counted past
    → HasHolds (λ id. one_if (same_manifest id m)) new counted → hold_number new m ≡ 0 → ((c : ContainerId) → use_number counted c ≡ use_number new c + one_if (has_container c (uses_listed entry.point))) → Agrees new past
agrees_dropped rules counted new m entry past legal listed does agrees holds none uses = record {
  uses_agree = λ c.
      let some : 0 < hold_number counted m = (let is = holds.holds m in let one = ap one_if (same_manifest-self m) in omega (arith, is, one)) in
      let sum = balanced (λ (e : Entry). uses_held counted c e.point) (λ (e : Entry). false) (λ (e : Entry). uses_held new c e.point) (λ (e : Entry). lists_use m c e.point) past
      (λ e h. release_use counted new c m e.point none some holds.holds) in
      let nothing = count_never past in
      let once = lists_once rules m c entry past legal listed does in
      let before = agrees.uses_agree c in
      let change = uses c in
      omega (arith, sum, nothing, once, before, change);
  ready_are = λ q is. sym (holds.ready q) ∙ agrees.ready_are q is;
}

-- ---- the entry with a number

found_at : (before : List Entry) (n : ℕ) (e : Entry) → n < length before → e ≡ get_or before n e → slice_get before n ≡ Some e
found_at before n e below is = slice_get-get_or before n e below ∙ ap Some (sym is)

pub in_past : (before : List Entry) (n : ℕ) (e : Entry) → n < length before → e ≡ get_or before n e → In e (reverse before)
in_past before n e below is = reverse_in e (reverse before) (subst (λ (l : List Entry). In e l) (sym (reverse-reverse before)) (get_in e before n (found_at before n e below is)))

pub at_entry : (id : ManifestId) (before : List Entry) (n : ℕ) (e : Entry) → n < length before → e ≡ get_or before n e → commits_at id (reverse before) n ≡ commits_manifest id e.point
unfolding commits_at committed_at entry_at
at_entry id before n e below is =
    ap (λ l. option_map_or (same_manifest id) (option_and_then (λ (x : Entry). manifest_of x.point) (slice_get l n)) false) (reverse-reverse before)
    ∙ ap (λ o. option_map_or (same_manifest id) (option_and_then (λ (x : Entry). manifest_of x.point) o) false) (found_at before n e below is)
    ∙ of_point id e.point

-- one number more
pub times_more : (id : ManifestId) (before : List Entry) (numbers : List ℕ) (i : ℕ) (e : Entry) → i < length numbers → get_or numbers i 0 < length before → e ≡ get_or before (get_or numbers i 0) e
    → times (take (i + 1) numbers) (reverse before) id ≡ times (take i numbers) (reverse before) id + one_if (commits_manifest id e.point)
unfolding times
times_more id before numbers i e below within is =
    sum_by_more (λ n. one_if (commits_at id (reverse before) n)) numbers i 0 below
    ∙ ap (λ b. times (take i numbers) (reverse before) id + one_if b) (at_entry id before (get_or numbers i 0) e within is)

pub times_most : (id : ManifestId) (before : List Entry) (numbers : List ℕ) (i : ℕ) (e : Entry) → i < length numbers → get_or numbers i 0 < length before → e ≡ get_or before (get_or numbers i 0) e
    → times (take i numbers) (reverse before) id + one_if (commits_manifest id e.point) ≤ times numbers (reverse before) id
unfolding times
times_most id before numbers i e below within is =
    let most = sum_by_more_le (λ n. one_if (commits_at id (reverse before) n)) numbers i 0 below in
    let here = ap one_if (at_entry id before (get_or numbers i 0) e within is) in
    omega (arith, most, here)

pub times_first : (past : List Entry) (id : ManifestId) → times [] past id ≡ 0
unfolding times
times_first past id = refl

-- nothing is held more
pub holds_same : (past : List Entry) (counted : Counted) → HasHolds (times [] past) counted counted
holds_same past counted = record { holds = λ id. (let none = times_first past id in omega (arith, none)); ready = λ q. refl; sessions = refl; gone = refl }

pub holds_joined : (f g h : ManifestId → ℕ) (less counted more : Counted) → HasHolds f less counted → HasHolds g counted more → ((id : ManifestId) → h id ≡ f id + g id) → HasHolds h less more
holds_joined f g h less counted more first second sum = record {
  holds = λ id. (let a = first.holds id in let b = second.holds id in let c = sum id in omega (arith, a, b, c));
  ready = λ q. second.ready q ∙ first.ready q;
  sessions = second.sessions ∙ first.sessions;
  gone = second.gone ∙ first.gone;
}

sum_turned : (a b c : ℕ) → a ≡ b + c → a ≡ c + b
sum_turned a b c e = omega (arith, e)

pub ready_at : (counted : Counted) (entry : Entry) (past : List Entry) → Agrees counted past → In entry past → (q : Object) → lists_object q entry.point ≡ true → is_ready counted q ≡ true
ready_at counted entry past agrees h q listed = agrees.ready_are q (has_from (lists_object q) entry past h listed)

pub manifest_ready : (counted : Counted) (entry : Entry) (past : List Entry) → Agrees counted past → In entry past → (id : ManifestId) → commits_manifest id entry.point ≡ true → is_ready counted (Manifest id) ≡ true
unfolding lists_object
manifest_ready counted entry past agrees h id does = ready_at counted entry past agrees h (Manifest id) does

use_held : (counted : Counted) (c : ContainerId) (point : Point) → ((id : ManifestId) → commits_manifest id point ≡ true → 0 < hold_number counted id) → has_container c (uses_listed point) ≡ true → uses_held counted c point ≡ true
unfolding commits_manifest uses_listed uses_held has_container
use_held counted c (Commit m content text chunks bytes fresh fresh_bytes uses) above listed = and_from (has_container c uses) (ltb 0 (hold_number counted m)) listed (lt-ltb 0 (hold_number counted m) (above m (same_manifest-self m)))
use_held counted c _ above listed = absurd (false≢true listed)

-- a container that a manifest with a hold lists has a use
pub use_above : (counted : Counted) (entry : Entry) (past : List Entry) → Agrees counted past → In entry past → ((id : ManifestId) → commits_manifest id entry.point ≡ true → 0 < hold_number counted id)
    → (c : ContainerId) → has_container c (uses_listed entry.point) ≡ true → 0 < use_number counted c
use_above counted entry past agrees h above c listed =
    let some = at_least_one (λ (e : Entry). uses_held counted c e.point) entry past h (use_held counted c entry.point above listed) in
    let is = agrees.uses_agree c in
    omega (arith, some, is)

released_by : (rules : Rules) (counted new : Counted) (entry : Entry) (past : List Entry) (point : Point) → entry.point ≡ point → is_legal rules past ≡ true → In entry past → Agrees counted past
    → HasHolds (λ id. one_if (commits_manifest id point)) new counted → ((c : ContainerId) → use_number counted c ≡ use_number new c + one_if (gives_up new c point)) → Agrees new past
unfolding commits_manifest gives_up uses_listed
released_by rules counted new entry past (Commit m content text chunks bytes fresh fresh_bytes uses) is legal h agrees holds given = elim (cases_Bool (eqb (hold_number new m) 0)) [
  | inl none ↦
      agrees_dropped rules counted new m entry past legal h (ap (commits_manifest m) is ∙ same_manifest-self m) agrees holds (eqb-true (hold_number new m) 0 none)
      (λ c. given c ∙ ap (λ b. use_number new c + one_if (has_container c uses && b)) none ∙ ap (λ b. use_number new c + one_if b) (all_of (has_container c uses)) ∙ ap (λ p. use_number new c + one_if (has_container c (uses_listed p))) (sym is))
  | inr some ↦
      let above : 0 < hold_number new m = elim (cases_Bool (ltb 0 (hold_number new m))) [
        | inl yes_above ↦ ltb-true 0 (hold_number new m) yes_above
        | inr at_zero ↦ absurd (both_ways _ some (eq-eqb (hold_number new m) 0 (least (hold_number new m) at_zero)))
      ] in
      agrees_still counted new past agrees
      (λ id committed. elim (cases_Bool (same_manifest id m)) [
        | inl same ↦
            let mine : 0 < hold_number new id = subst (λ (i : ManifestId). 0 < hold_number new i) (sym (same_manifest-true id m same)) above in
            sym (more_tests (hold_number counted id) (hold_number new id) (one_if (same_manifest id m)) mine (holds.holds id))
        | inr other ↦ sym (same_test (hold_number counted id) (hold_number new id) (one_if (same_manifest id m)) (holds.holds id) (ap one_if other))
      ])
      (λ c. (let all = given c in let nothing = ap (λ b. one_if (has_container c uses && b)) some ∙ ap one_if (none_of (has_container c uses)) in omega (arith, all, nothing)))
      (λ q. sym (holds.ready q))
]
  where
    all_of : (b : Bool) → (b && true) ≡ b
    all_of true = refl
    all_of false = refl

    none_of : (b : Bool) → (b && false) ≡ false
    none_of true = refl
    none_of false = refl

    least : (n : ℕ) → ltb 0 n ≡ false → n ≡ 0
    least n none = grind (arith, nat_tests)
released_by rules counted new entry past _ is legal h agrees holds given = agrees_still counted new past agrees
    (λ id committed. sym (same_test (hold_number counted id) (hold_number new id) 0 (holds.holds id) refl))
    (λ c. (let all = given c in omega (arith, all)))
    (λ q. sym (holds.ready q))

-- a manifest has one hold less, and its uses are given up where it has none left
pub agrees_released : (counted new : Counted) (entry : Entry) (past : List Entry) → IsHistory past → In entry past → Agrees counted past
    → HasHolds (λ id. one_if (commits_manifest id entry.point)) new counted → ((c : ContainerId) → use_number counted c ≡ use_number new c + one_if (gives_up new c entry.point)) → Agrees new past
agrees_released counted new entry past history h agrees holds given = released_by history.0 counted new entry past entry.point refl history.1 h agrees holds given

pub history_ascending : (entry : Entry) (past : List Entry) → IsHistory past → In entry past → are_ascending (uses_listed entry.point) ≡ true
history_ascending entry past history h = all_ascending history.0 entry past history.1 h

-- ---- containers as objects

pub use_listed : (uses : List ContainerId) (k : ℕ) (d : ContainerId) → k < length uses → has_container (get_or uses k d) uses ≡ true
unfolding has_container
use_listed uses k d below = in_any (same_container (get_or uses k d)) (get_or uses k d) uses (get_in (get_or uses k d) uses k (slice_get-get_or uses k d below)) (same_container-self (get_or uses k d))

pub as_objects : (c : ContainerId) (uses : List ContainerId) → has_object (Container c) (containers uses) ≡ has_container c uses
unfolding has_container
as_objects c [] = refl
as_objects c (u ∷ uses) = ap (λ b. same_container c u || b) (as_objects c uses)

pub no_manifest : (id : ManifestId) (uses : List ContainerId) → has_object (Manifest id) (containers uses) ≡ false
no_manifest id [] = refl
no_manifest id (u ∷ uses) = no_manifest id uses
