-- What is kept of a manifest, by the number of its Commit.
use Rattle.std.proofs.Common.{◌≡◌, ℕ, zero, suc, ◌+◌, ◌<◌, ◌≤◌, Bool, true, false, List, [], ◌∷◌, ◌++◌, length, take, get_or, reverse, slice_get, filter_map, Option, Some, None, refl, sym, ap, ◌∙◌, subst, inl, inr, arith}
use Rattle.std.specs.Option.{option_and_then}
use Rattle.std.specs.List.{cons_option}
use Rattle.std.proofs.lemmas.Bool.{false_from_ne_true}
use Rattle.std.proofs.lemmas.List.{take_more, reverse-reverse}
use Rattle.std.proofs.lemmas.List.Elements.{filter_map-append}
use Rattle.ss_base.specs.declared.ids.ManifestId.{ManifestId}
use Rattle.journal_entry.specs.declared.entry.Entry.{Entry}
use Rattle.journal_entry.specs.declared.entry.Point.{Point}
use Rattle.journal_entry.specs.declared.entry.Point.TheVariants.{Commit}
use Rattle.history.specs.declared.rules.Rules.{Rules}
use Rattle.history.specs.Sessions.{has, newest, commits, commits_of}
use Rattle.history.specs.Need.{commits_manifest}
use Rattle.history.specs.Legal.{is_legal}
use Rattle.history_laws.specs.EntryNumbers.{numbers_of, entry_at, manifest_of, committed_at}
use Rattle.ss_base.specs.Ids.{same_manifest}
use Rattle.ss_base.proofs.MemberLaws.{find_in, in_any}
use Rattle.ss_base.proofs.GetLaws.{reverse_cases}
use Rattle.ss_base.proofs.IdLaws.{same_manifest-self}
use Rattle.history_laws.proofs.Allowed.{step, commits_next}
use Rattle.history_laws.proofs.SessionLaws.{committed_below}
use Rattle.history_laws.proofs.NumberLaws.{commits_at, numbers_length}
use Rattle.store_core.specs.View.{kept_by, kept_at, kept}

-- ---- entries by their numbers

pub kept_at_some : (entries : List Entry) (n : ℕ) (entry : Entry) → slice_get entries n ≡ Some entry → kept_at (reverse entries) n ≡ kept_by entry.point
unfolding kept_at entry_at
kept_at_some entries n entry is = rw (reverse-reverse entries, is) refl

pub kept_at_none : (entries : List Entry) (n : ℕ) → slice_get entries n ≡ None → kept_at (reverse entries) n ≡ None
unfolding kept_at entry_at
kept_at_none entries n is = rw (reverse-reverse entries, is) refl

-- ---- the entry that commits a manifest is the only one

pub says_commit : (id : ManifestId) (point : Point) → manifest_of point ≡ Some id → commits_manifest id point ≡ true
unfolding manifest_of commits_manifest
says_commit id (Commit other content text chunks bytes fresh fresh_bytes uses) is =
    let same : other ≡ id = cc in
    subst (λ (m : ManifestId). same_manifest id m ≡ true) (sym same) (same_manifest-self id)
says_commit id _ is = absurd (cc)

newest_now : (does : Point → Bool) (entry : Entry) (past : List Entry) → does entry.point ≡ true → newest does (entry ∷ past) ≡ Some entry
unfolding newest
newest_now does entry past here = rw here refl

newest_older : (does : Point → Bool) (entry : Entry) (past : List Entry) → does entry.point ≡ false → newest does (entry ∷ past) ≡ newest does past
unfolding newest
newest_older does entry past other = rw other refl

some_has : (does : Point → Bool) (past : List Entry) (found : Entry) → newest does past ≡ Some found → has does past ≡ true
unfolding newest has
some_has does past found is =
    let at = find_in (λ (e : Entry). does e.point) past found is in
    in_any (λ (e : Entry). does e.point) found past at.0 at.1

-- the newest entry that commits the manifest is the one with the number
only_commit : (rules : Rules) (id : ManifestId) (past : List Entry) (n : ℕ) (found : Entry) → is_legal rules past ≡ true → entry_at n past ≡ Some found → manifest_of found.point ≡ Some id → newest (commits_manifest id) past ≡ Some found
unfolding entry_at
only_commit rules id [] n found legal at is = absurd (cc)
only_commit rules id (entry ∷ past) n found legal at is =
    let now = step rules entry past legal in
    elim (reverse_cases found entry past n at) [
      | inl older ↦
          let there = only_commit rules id past n found now.legal older is in
          let other : commits_manifest id entry.point ≡ false = false_from_ne_true _ (λ again.
          let next = commits_next rules past entry.author id entry.point now.allowed again in
          let below = committed_below rules id past now.legal (some_has (commits_manifest id) past found there) in
          let seq = next.1 in
          omega (arith, below, seq)) in
          newest_older (commits_manifest id) entry past other ∙ there
      | inr last ↦ newest_now (commits_manifest id) entry past (ap (λ (e : Entry). commits_manifest id e.point) last.1 ∙ says_commit id found.point is) ∙ ap Some last.1
    ]

pub none_is_some : {X : Type 0} {x : X} → None ≡ Some x → ⊥
none_is_some e = cc

pub committed_of : (past : List Entry) (n : ℕ) (o : Option Entry) → entry_at n past ≡ o → committed_at past n ≡ option_and_then (λ (entry : Entry). manifest_of entry.point) o
unfolding committed_at
committed_of past n o there = ap (option_and_then (λ (entry : Entry). manifest_of entry.point)) there

with_entry : (rules : Rules) (id : ManifestId) (past : List Entry) (n : ℕ) (o : Option Entry) → is_legal rules past ≡ true → entry_at n past ≡ o → option_and_then (λ (entry : Entry). manifest_of entry.point) o ≡ Some id
    → option_and_then (λ (entry : Entry). kept_by entry.point) o ≡ option_and_then (λ (entry : Entry). kept_by entry.point) (newest (commits_manifest id) past)
with_entry rules id past n None legal there at = absurd (none_is_some at)
with_entry rules id past n (Some found) legal there at =
    ap (option_and_then (λ (entry : Entry). kept_by entry.point)) (sym (only_commit rules id past n found legal there at))

-- what is kept of the manifest whose Commit has the number
pub kept_is : (rules : Rules) (id : ManifestId) (past : List Entry) (n : ℕ) → is_legal rules past ≡ true → slice_get (numbers_of (commits id.session) past) id.seq ≡ Some n → kept_at past n ≡ kept id past
unfolding kept_at kept
kept_is rules id past n legal is =
    let at : committed_at past n ≡ Some id = commits_at rules id.session past id.seq n legal is in
    with_entry rules id past n (entry_at n past) legal refl (sym (committed_of past n (entry_at n past) refl) ∙ at)

commits_many : (session : ℕ) (past : List Entry) → length (numbers_of (commits session) past) ≡ commits_of session past
unfolding commits_of
commits_many session past = numbers_length (commits session) past

past_end : {X : Type 0} (xs : List X) (k : ℕ) → k < length xs → slice_get xs k ≡ None → ⊥
past_end [] k below none = omega (arith, below)
past_end (x ∷ xs) zero below none = cc
past_end (x ∷ xs) (suc k) below none = past_end xs k (omega (arith, below)) none

-- nothing is kept of a manifest that its session has not committed
pub kept_none : (rules : Rules) (id : ManifestId) (past : List Entry) → is_legal rules past ≡ true → slice_get (numbers_of (commits id.session) past) id.seq ≡ None → kept id past ≡ None
unfolding kept
kept_none rules id past legal is =
    elim (newest (commits_manifest id) past) as (λ (o : Option Entry). newest (commits_manifest id) past ≡ o → option_and_then (λ (entry : Entry). kept_by entry.point) o ≡ None) [
      | None ↦ λ e. refl
      | Some found ↦ λ e. absurd (
          let below = committed_below rules id past legal (some_has (commits_manifest id) past found e) in
          let many = commits_many id.session past in
          past_end (numbers_of (commits id.session) past) id.seq (omega (arith, below, many)) is)
    ] refl

-- ---- lists

pub get_some : {X : Type 0} (xs : List X) (k : ℕ) (x : X) → k < length xs → x ≡ get_or xs k x → slice_get xs k ≡ Some x
get_some [] k x below is = absurd (omega (arith, below))
get_some (y ∷ xs) zero x below is = ap Some (sym is)
get_some (y ∷ xs) (suc k) x below is = get_some xs k x (omega (arith, below)) is

pub get_past : {X : Type 0} (xs : List X) (k : ℕ) → length xs ≤ k → slice_get xs k ≡ None
get_past [] k past = refl
get_past (y ∷ xs) zero past = absurd (omega (arith, past))
get_past (y ∷ xs) (suc k) past = get_past xs k (omega (arith, past))

pub filter_map_more : {X Y : Type 0} (f : X → Option Y) (xs : List X) (i : ℕ) (d : X) → i < length xs → filter_map f (take (i + 1) xs) ≡ filter_map f (take i xs) ++ cons_option (f (get_or xs i d)) []
filter_map_more f xs i d below = ap (filter_map f) (take_more xs i d below) ∙ filter_map-append f (take i xs) (get_or xs i d ∷ [])

-- one item more of a list that a loop goes through
pub filter_map_step : {X Y : Type 0} (f : X → Option Y) (xs : List X) (i : ℕ) (d : X) (found more : List Y) (o : Option Y) → i < length xs → found ≡ filter_map f (take i xs) → o ≡ f (get_or xs i d) → more ≡ found ++ cons_option o [] → more ≡ filter_map f (take (i + 1) xs)
filter_map_step f xs i d found more o below so_far is added =
    added ∙ ap (λ l. l ++ cons_option o []) so_far ∙ ap (λ p. filter_map f (take i xs) ++ cons_option p []) is ∙ sym (filter_map_more f xs i d below)
