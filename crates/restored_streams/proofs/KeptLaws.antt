-- The manifests that a look finds are those of the session, from 0 on.
use Rattle.std.proofs.Common.{◌≡◌, ℕ, true, false, List, [], ◌∷◌, ◌++◌, length, slice_get, Option, Some, None, refl, sym, ap, ◌∙◌, subst, inl, inr, eqb-true, arith, length-append}
use Rattle.std.specs.List.{filter_map}
use Rattle.std.proofs.lemmas.Bool.{false≢true, cases_Bool, false_from_ne_true}
use Rattle.ss_base.specs.declared.ids.ManifestId.{ManifestId}
use Rattle.ss_base.specs.Ids.{same_manifest}
use Rattle.ss_base.proofs.MemberLaws.{In}
use Rattle.ss_base.proofs.IdLaws.{same_manifest-self}
use Rattle.ss_base.proofs.GetLaws.{at_end}
use Rattle.journal_entry.specs.declared.entry.Entry.{Entry}
use Rattle.journal_entry.specs.declared.entry.Point.{Point}
use Rattle.journal_entry.specs.declared.entry.Point.TheVariants.{Commit}
use Rattle.history.specs.declared.rules.Rules.{Rules}
use Rattle.history.specs.Sessions.{has, commits, commits_of}
use Rattle.history.specs.Need.{commits_manifest}
use Rattle.history.specs.Legal.{is_allowed, is_legal}
use Rattle.history_laws.specs.EntryNumbers.{numbers_of}
use Rattle.history_laws.proofs.Allowed.{IsStep, step, commit_says}
use Rattle.history_laws.proofs.SessionLaws.{has_now, has_older}
use Rattle.history_laws.proofs.OnceLaws.{never_twice}
use Rattle.history_laws.proofs.NumberLaws.{entry_kept, entry_last, numbers_more, numbers_same, numbers_first, numbers_do}
use Rattle.store_core.specs.View.{KeptView, kept, kept_by, kept_at, stream_kept}
use Rattle.stored_streams.proofs.CommittedLaws.{kept_here, kept_older}
use Rattle.restored_streams.proofs.CompleteLaws.{commits_same, commits_more}

-- ---- what is kept of a session, entry by entry

row_append : (f : ℕ → Option KeptView) (xs ys : List ℕ) → filter_map f (xs ++ ys) ≡ filter_map f xs ++ filter_map f ys
row_append f [] ys = refl
row_append f (x ∷ xs) ys = elim (f x) as (λ (o : Option KeptView). f x ≡ o → filter_map f (x ∷ xs ++ ys) ≡ filter_map f (x ∷ xs) ++ filter_map f ys) [
  | None ↦ λ none. rw none (row_append f xs ys)
  | Some v ↦ λ some. rw some (ap (λ (l : List KeptView). v ∷ l) (row_append f xs ys))
] refl

row_same : (f g : ℕ → Option KeptView) (xs : List ℕ) → ((x : ℕ) → In x xs → f x ≡ g x) → filter_map f xs ≡ filter_map g xs
row_same f g [] each = refl
row_same f g (x ∷ xs) each =
    let rest = row_same f g xs (λ y h. each y (inr h)) in
    elim (g x) as (λ (o : Option KeptView). g x ≡ o → filter_map f (x ∷ xs) ≡ filter_map g (x ∷ xs)) [
      | None ↦ λ none. rw (each x (inl refl), none) rest
      | Some v ↦ λ some. rw (each x (inl refl), some) (ap (λ (l : List KeptView). v ∷ l) rest)
    ] refl

kept_still : (s : ℕ) (entry : Entry) (past : List Entry) (x : ℕ) → In x (numbers_of (commits s) past) → kept_at (entry ∷ past) x ≡ kept_at past x
unfolding kept_at
kept_still s entry past x h =
    let at = numbers_do (commits s) past x h in
    rw (entry_kept x entry at.entry past at.there, at.there) refl

pub row_other : (s : ℕ) (entry : Entry) (past : List Entry) → commits s entry.point ≡ false → stream_kept s (entry ∷ past) ≡ stream_kept s past
row_other s entry past other =
    ap (filter_map (kept_at (entry ∷ past))) (numbers_same (commits s) entry past other)
    ∙ row_same (kept_at (entry ∷ past)) (kept_at past) (numbers_of (commits s) past) (kept_still s entry past)

kept_of_last : (entry : Entry) (past : List Entry) (v : KeptView) → kept_by entry.point ≡ Some v → filter_map (kept_at (entry ∷ past)) (length past ∷ []) ≡ v ∷ []
unfolding kept_at
kept_of_last entry past v is = rw (entry_last entry past) (rw is refl)

pub row_more : (s : ℕ) (entry : Entry) (past : List Entry) (v : KeptView) → commits s entry.point ≡ true → kept_by entry.point ≡ Some v → stream_kept s (entry ∷ past) ≡ stream_kept s past ++ v ∷ []
row_more s entry past v here is =
    ap (filter_map (kept_at (entry ∷ past))) (numbers_more (commits s) entry past here)
    ∙ row_append (kept_at (entry ∷ past)) (numbers_of (commits s) past) (length past ∷ [])
    ∙ (λ i. row_same (kept_at (entry ∷ past)) (kept_at past) (numbers_of (commits s) past) (kept_still s entry past) i ++ kept_of_last entry past v is i)

-- ---- each is what the Commit with its number kept

abbrev pub manifest_at : ℕ → ℕ → ManifestId
manifest_at s q = record { session = s; seq = q }

-- the Commit of a session's next manifest
record CommitsNext (s : ℕ) (past : List Entry) (point : Point) : Type 0 where
  view : KeptView
  is : kept_by point ≡ Some view
  id_is : view.id ≡ manifest_at s (commits_of s past)
  does : commits_manifest (manifest_at s (commits_of s past)) point ≡ true

next_commit : (rules : Rules) (past : List Entry) (author s : ℕ) (point : Point) → is_allowed rules past author point ≡ true → commits s point ≡ true → CommitsNext s past point
unfolding commits kept_by commits_manifest
next_commit rules past author s (Commit id content text chunks bytes fresh fresh_bytes uses) allowed does =
    let said = commit_says rules past author id content text chunks bytes fresh fresh_bytes uses allowed in
    let same : s ≡ id.session = eqb-true _ _ does in
    let is : id ≡ manifest_at s (commits_of s past) = λ i. record { session = sym same i; seq = (said.next ∙ ap (λ (t : ℕ). commits_of t past) (sym same)) i } in
    record {
      view = record { id = id; text = text; content = content; chunks = chunks; uses = uses };
      is = refl;
      id_is = is;
      does = ap (λ (m : ManifestId). same_manifest m id) (sym is) ∙ same_manifest-self id;
    }
next_commit rules past author s _ allowed does = absurd (false≢true does)

-- what is kept of a manifest, and that it is committed
pub record IsKeptAt (past : List Entry) (id : ManifestId) (view : KeptView) : Type 0 where
  pub is : kept id past ≡ Some view
  pub id_is : view.id ≡ id
  pub committed : has (commits_manifest id) past ≡ true

kept_more : (rules : Rules) (entry : Entry) (past : List Entry) (id : ManifestId) (view : KeptView) → IsStep rules entry past → IsKeptAt past id view → IsKeptAt (entry ∷ past) id view
kept_more rules entry past id view now at =
    let other : commits_manifest id entry.point ≡ false = false_from_ne_true _ (λ does. never_twice rules id entry past now does at.committed) in
    record { is = kept_older id entry past other ∙ at.is; id_is = at.id_is; committed = has_older (commits_manifest id) entry past at.committed }

no_row : (s : ℕ) → stream_kept s [] ≡ []
no_row s = ap (filter_map (kept_at [])) (numbers_first (commits s))

none_first : (s : ℕ) → commits_of s [] ≡ 0
unfolding commits_of
none_first s = refl

pub row_length : (rules : Rules) (s : ℕ) (past : List Entry) → is_legal rules past ≡ true → length (stream_kept s past) ≡ commits_of s past
row_length rules s [] legal = ap length (no_row s) ∙ sym (none_first s)
row_length rules s (entry ∷ past) legal =
    let now = step rules entry past legal in
    let old = row_length rules s past now.legal in
    elim (cases_Bool (commits s entry.point)) [
      | inl here ↦
          let next = next_commit rules past entry.author s entry.point now.allowed here in
          let more = ap length (row_more s entry past next.view here next.is) in
          let longer = length-append (stream_kept s past) (next.view ∷ []) in
          let counted = commits_more s entry past here in
          omega (arith, more, longer, counted, old)
      | inr other ↦ ap length (row_other s entry past other) ∙ old ∙ sym (commits_same s entry past other)
    ]

pub row_at : (rules : Rules) (s : ℕ) (past : List Entry) (q : ℕ) (view : KeptView) → is_legal rules past ≡ true → slice_get (stream_kept s past) q ≡ Some view → IsKeptAt past (manifest_at s q) view
row_at rules s [] q view legal at = absurd (let none = rw (no_row s) at at in cc)
row_at rules s (entry ∷ past) q view legal at =
    let now = step rules entry past legal in
    elim (cases_Bool (commits s entry.point)) [
      | inl here ↦
          let next = next_commit rules past entry.author s entry.point now.allowed here in
          elim (at_end (stream_kept s past) next.view view q (ap (λ (l : List KeptView). slice_get l q) (sym (row_more s entry past next.view here next.is)) ∙ at)) [
            | inl older ↦ kept_more rules entry past (manifest_at s q) view now (row_at rules s past q view now.legal older)
            | inr last ↦
                let seq : commits_of s past ≡ q = sym (last.0 ∙ row_length rules s past now.legal) in
                let id : manifest_at s (commits_of s past) ≡ manifest_at s q = ap (manifest_at s) seq in
                let does : commits_manifest (manifest_at s q) entry.point ≡ true = subst (λ (m : ManifestId). commits_manifest m entry.point ≡ true) id next.does in
                record {
                  is = kept_here (manifest_at s q) entry past does ∙ next.is ∙ ap Some last.1;
                  id_is = ap (λ (v : KeptView). v.id) (sym last.1) ∙ next.id_is ∙ id;
                  committed = has_now (commits_manifest (manifest_at s q)) entry past does;
                }
          ]
      | inr other ↦ kept_more rules entry past (manifest_at s q) view now (row_at rules s past q view now.legal (ap (λ (l : List KeptView). slice_get l q) (sym (row_other s entry past other)) ∙ at))
    ]
