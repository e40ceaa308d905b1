-- How often entries with some numbers commit a manifest.
use Rattle.std.proofs.Common.{◌≡◌, ℕ, ◌+◌, Bool, true, false, ◌&&◌, ◌||◌, eqb, List, [], ◌∷◌, length, map, Some, refl, sym, ap, ◌∙◌, subst, inl, inr, arith}
use Rattle.std.specs.List.{count_by, list_any}
use Rattle.std.specs.Option.{option_map_or, unwrap_or}
use Rattle.std.proofs.lemmas.Bool.{false≢true, both_ways, false_from_ne_true, cases_Bool}
use Rattle.std.proofs.lemmas.List.Sums.{sum_by-append}
use Rattle.ss_base.specs.declared.ids.ManifestId.{ManifestId}
use Rattle.ss_base.specs.Ids.{same_manifest, has_manifest}
use Rattle.journal_entry.specs.declared.entry.Entry.{Entry}
use Rattle.journal_entry.specs.declared.entry.Point.{Point}
use Rattle.journal_entry.specs.declared.entry.Point.TheVariants.{Commit, Choose}
use Rattle.history.specs.declared.rules.Rules.{Rules}
use Rattle.history.specs.Sessions.{has, commits, settles, champions_chosen, pending_champions}
use Rattle.history.specs.Need.{commits_manifest}
use Rattle.history.specs.Legal.{is_allowed, is_legal}
use Rattle.history_laws.specs.EntryNumbers.{numbers_of, entry_at, manifest_of, committed_at, CommitThese}
use Rattle.pins_counts.specs.Counts.{one_if}
use Rattle.history_counts.specs.InStep.{commits_at, times}
use Rattle.ss_base.proofs.MemberLaws.{any_in}
use Rattle.ss_base.proofs.ApartLaws.{Apart}
use Rattle.ss_base.proofs.IdLaws.{same_manifest-true}
use Rattle.history_laws.proofs.Allowed.{step}
use Rattle.history_laws.proofs.SessionLaws.{has_none, has_same, has_now}
use Rattle.history_laws.proofs.NeedLaws.{pending_one, pending_same, pending_none}
use Rattle.history_laws.proofs.OnceLaws.{chosen_apart, never_twice}
use Rattle.history_laws.proofs.NumberLaws.{entry_kept, numbers_more, numbers_same, numbers_first, numbers_do, committed_last}
use Rattle.history_counts.proofs.CountLaws.{count_cons, count_alike}

-- the entry with a number commits what it commits, also when there is one entry more
at_kept : (id : ManifestId) (n : ℕ) (entry older : Entry) (past : List Entry) → entry_at n past ≡ Some older → commits_at id (entry ∷ past) n ≡ commits_at id past n
unfolding commits_at committed_at
at_kept id n entry older past there = rw (entry_kept n entry older past there, there) refl

pub of_point : (id : ManifestId) (point : Point) → option_map_or (same_manifest id) (manifest_of point) false ≡ commits_manifest id point
unfolding manifest_of commits_manifest
of_point id (Commit m content text chunks bytes fresh fresh_bytes uses) = refl
of_point id _ = refl

at_last : (id : ManifestId) (entry : Entry) (past : List Entry) → commits_at id (entry ∷ past) (length past) ≡ commits_manifest id entry.point
unfolding commits_at
at_last id entry past = ap (λ o. option_map_or (same_manifest id) o false) (committed_last entry past) ∙ of_point id entry.point

-- the entries with these numbers commit these manifests
pub times_these : (id : ManifestId) (numbers : List ℕ) (ids : List ManifestId) (past : List Entry) → CommitThese numbers ids past → times numbers past id ≡ count_by (same_manifest id) ids
unfolding CommitThese times commits_at
times_these id [] [] past these = refl
times_these id [] (m ∷ ids) past these = absurd (cc)
times_these id (n ∷ numbers) [] past these = absurd (cc)
times_these id (n ∷ numbers) (m ∷ ids) past these =
    let first : committed_at past n ≡ Some m = cc in
    let others : map (committed_at past) numbers ≡ map (λ i. Some i) ids = cc in
    count_cons (λ k. option_map_or (same_manifest id) (committed_at past k) false) n numbers
    ∙ ap (λ o. one_if (option_map_or (same_manifest id) o false) + count_by (λ k. option_map_or (same_manifest id) (committed_at past k) false) numbers) first
    ∙ ap (λ c. one_if (same_manifest id m) + c) (times_these id numbers ids past others)
    ∙ sym (count_cons (same_manifest id) m ids)

-- of manifests of which none is there twice, one is there at most once
pub count_apart : (id : ManifestId) (ids : List ManifestId) → Apart same_manifest ids → count_by (same_manifest id) ids ≡ one_if (has_manifest id ids)
unfolding has_manifest
count_apart id [] apart = refl
count_apart id (m ∷ ids) apart = elim (cases_Bool (same_manifest id m)) [
  | inl same ↦
      let is : id ≡ m = same_manifest-true id m same in
      let none : list_any (same_manifest id) ids ≡ false = false_from_ne_true _ (λ some.
      let at = any_in (same_manifest id) ids some in
      both_ways _ (subst (λ (i : ManifestId). same_manifest i at.0 ≡ false) (sym is) (apart.0 at.0 at.1)) at.2) in
      count_cons (same_manifest id) m ids
      ∙ ap (λ b. one_if b + count_by (same_manifest id) ids) same
      ∙ ap (λ n. 1 + n) (count_apart id ids apart.1 ∙ ap one_if none)
      ∙ ap (λ b. one_if (b || list_any (same_manifest id) ids)) (sym same)
  | inr other ↦
      count_cons (same_manifest id) m ids
      ∙ ap (λ b. one_if b + count_by (same_manifest id) ids) other
      ∙ (let e : 0 + count_by (same_manifest id) ids ≡ count_by (same_manifest id) ids = omega arith in e)
      ∙ count_apart id ids apart.1
      ∙ ap (λ b. one_if (b || list_any (same_manifest id) ids)) (sym other)
]

nothing_chosen : (rules : Rules) (past : List Entry) (author : ℕ) (point : Point) → is_allowed rules past author point ≡ true → Apart same_manifest (unwrap_or (champions_chosen point) [])
unfolding champions_chosen
nothing_chosen rules past author (Choose s hooks champions) allowed = chosen_apart rules past author s hooks champions allowed
nothing_chosen rules past author _ allowed = tt

pub pending_apart : (rules : Rules) (s : ℕ) (past : List Entry) → is_legal rules past ≡ true → Apart same_manifest (pending_champions s past)
pending_apart rules s [] legal = subst (λ (ids : List ManifestId). Apart same_manifest ids) (sym (pending_none s)) tt
pending_apart rules s (entry ∷ past) legal =
    let now = step rules entry past legal in
    elim (cases_Bool (settles s entry.point)) [
      | inl here ↦ subst (λ (ids : List ManifestId). Apart same_manifest ids) (sym (pending_one s entry past here)) (nothing_chosen rules past entry.author entry.point now.allowed)
      | inr other ↦ subst (λ (ids : List ManifestId). Apart same_manifest ids) (sym (pending_same s entry past other)) (pending_apart rules s past now.legal)
    ]

commits_of_point : (id : ManifestId) (s : ℕ) (point : Point) → commits_manifest id point ≡ true → commits s point ≡ eqb s id.session
unfolding commits_manifest commits
commits_of_point id s (Commit m content text chunks bytes fresh fresh_bytes uses) does = let is : id ≡ m = same_manifest-true id m does in ap (λ (i : ManifestId). eqb s i.session) (sym is)
commits_of_point id s _ does = absurd (false≢true does)

times_older : (id : ManifestId) (s : ℕ) (entry : Entry) (past : List Entry) → count_by (commits_at id (entry ∷ past)) (numbers_of (commits s) past) ≡ count_by (commits_at id past) (numbers_of (commits s) past)
times_older id s entry past = count_alike (commits_at id (entry ∷ past)) (commits_at id past) (numbers_of (commits s) past)
    (λ n h. let at = numbers_do (commits s) past n h in at_kept id n entry at.entry past at.there)

-- a stream has each manifest of its session once
pub times_stream : (rules : Rules) (id : ManifestId) (s : ℕ) (past : List Entry) → is_legal rules past ≡ true → times (numbers_of (commits s) past) past id ≡ one_if (has (commits_manifest id) past && eqb s id.session)
unfolding times
times_stream rules id s [] legal = ap (count_by (commits_at id [])) (numbers_first (commits s)) ∙ ap (λ b. one_if (b && eqb s id.session)) (sym (has_none (commits_manifest id)))
times_stream rules id s (entry ∷ past) legal =
    let now = step rules entry past legal in
    let rest = times_stream rules id s past now.legal in
    let older = times_older id s entry past in
    let last : commits_at id (entry ∷ past) (length past) ≡ commits_manifest id entry.point = at_last id entry past in
    let whole : count_by (commits_at id (entry ∷ past)) (numbers_of (commits s) (entry ∷ past)) ≡ one_if (has (commits_manifest id) past && eqb s id.session) + one_if (commits s entry.point && commits_manifest id entry.point) =
    elim (cases_Bool (commits s entry.point)) [
      | inl here ↦
          let more = ap (count_by (commits_at id (entry ∷ past))) (numbers_more (commits s) entry past here) ∙ sum_by-append (λ n. one_if (commits_at id (entry ∷ past) n)) (numbers_of (commits s) past) (length past ∷ []) in
          let one = count_cons (commits_at id (entry ∷ past)) (length past) [] in
          let is = ap one_if last in
          let both = ap (λ b. one_if (b && commits_manifest id entry.point)) here in
          omega (arith, rest, older, more, one, is, both)
      | inr other ↦
          let same = ap (count_by (commits_at id (entry ∷ past))) (numbers_same (commits s) entry past other) in
          let none = ap (λ b. one_if (b && commits_manifest id entry.point)) other in
          omega (arith, rest, older, same, none)
    ] in
    elim (cases_Bool (commits_manifest id entry.point)) [
      | inl here ↦
          let fresh : has (commits_manifest id) past ≡ false = false_from_ne_true _ (λ committed. never_twice rules id entry past now here committed) in
          let first = ap (λ b. one_if (b && eqb s id.session)) fresh in
          let second : one_if (commits s entry.point && commits_manifest id entry.point) ≡ one_if (eqb s id.session && true) = (λ i. one_if (commits_of_point id s entry.point here i && here i)) in
          let third = ap (λ b. one_if (b && eqb s id.session)) (has_now (commits_manifest id) entry past here) in
          let fourth = ap one_if (and_true (eqb s id.session)) in
          omega (arith, whole, first, second, third, fourth)
      | inr other ↦
          let none = ap (λ b. one_if (commits s entry.point && b)) other ∙ ap one_if (and_false (commits s entry.point)) in
          let same = ap (λ b. one_if (b && eqb s id.session)) (has_same (commits_manifest id) entry past other) in
          omega (arith, whole, none, same)
    ]
  where
    and_true : (b : Bool) → (b && true) ≡ b
    and_true true = refl
    and_true false = refl

    and_false : (b : Bool) → (b && false) ≡ false
    and_false true = refl
    and_false false = refl
