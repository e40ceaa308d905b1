-- Entries by their numbers.
use Rattle.std.proofs.Common.{◌≡◌, ℕ, ◌<◌, Bool, true, false, List, [], ◌∷◌, ◌++◌, length, map, slice_get, Option, Some, None, refl, sym, ap, ◌∙◌, subst, inl, inr, eqb-true, arith, length-append}
use Rattle.std.specs.Option.{option_and_then}
use Rattle.std.specs.List.{count_by}
use Rattle.std.proofs.lemmas.Bool.{false≢true, cases_Bool}
use Rattle.ss_base.specs.declared.ids.ManifestId.{ManifestId}
use Rattle.journal_entry.specs.declared.entry.Entry.{Entry}
use Rattle.journal_entry.specs.declared.entry.Point.{Point}
use Rattle.journal_entry.specs.declared.entry.Point.TheVariants.{Commit}
use Rattle.history.specs.declared.rules.Rules.{Rules}
use Rattle.history.specs.Sessions.{has, newest, commits, commits_of}
use Rattle.history.specs.Legal.{is_allowed, is_legal}
use Rattle.history_laws.specs.EntryNumbers.{numbers_of, entry_at, manifest_of, committed_at, CommitThese}
use Rattle.ss_base.proofs.MemberLaws.{In, append_in, count_one, count_other}
use Rattle.ss_base.proofs.GetLaws.{at_end, reverse_kept, reverse_last}
use Rattle.history_laws.proofs.Allowed.{step, commit_says}
use Rattle.history_laws.proofs.SessionLaws.{has_parts}

-- ---- one entry more

pub entry_kept : (n : ℕ) (entry older : Entry) (past : List Entry) → entry_at n past ≡ Some older → entry_at n (entry ∷ past) ≡ Some older
unfolding entry_at
entry_kept n entry older past is = reverse_kept older entry past n is

pub entry_last : (entry : Entry) (past : List Entry) → entry_at (length past) (entry ∷ past) ≡ Some entry
unfolding entry_at
entry_last entry past = reverse_last entry past

pub numbers_more : (does : Point → Bool) (entry : Entry) (past : List Entry) → does entry.point ≡ true → numbers_of does (entry ∷ past) ≡ numbers_of does past ++ length past ∷ []
unfolding numbers_of
numbers_more does entry past here = rw here refl

pub numbers_same : (does : Point → Bool) (entry : Entry) (past : List Entry) → does entry.point ≡ false → numbers_of does (entry ∷ past) ≡ numbers_of does past
unfolding numbers_of
numbers_same does entry past other = rw other refl

pub numbers_first : (does : Point → Bool) → numbers_of does [] ≡ []
unfolding numbers_of
numbers_first does = refl

-- ---- the entries with these numbers

-- the entry with a number does it
pub record DoesAt (does : Point → Bool) (n : ℕ) (past : List Entry) : Type 0 where
  pub entry : Entry
  pub there : entry_at n past ≡ Some entry
  pub done : does entry.point ≡ true

does_still : (does : Point → Bool) (n : ℕ) (entry : Entry) (past : List Entry) → DoesAt does n past → DoesAt does n (entry ∷ past)
does_still does n entry past at = record { entry = at.entry; there = entry_kept n entry at.entry past at.there; done = at.done }

pub numbers_do : (does : Point → Bool) (past : List Entry) (n : ℕ) → In n (numbers_of does past) → DoesAt does n past
numbers_do does [] n h = absurd (subst (λ l. In n l) (numbers_first does) h)
numbers_do does (entry ∷ past) n h = elim (cases_Bool (does entry.point)) [
  | inl here ↦ elim (append_in n (numbers_of does past) (length past ∷ []) (subst (λ l. In n l) (numbers_more does entry past here) h)) [
    | inl older ↦ does_still does n entry past (numbers_do does past n older)
    | inr last ↦ elim last [
      | inl same ↦ subst (λ k. DoesAt does k (entry ∷ past)) same (record { entry = entry; there = entry_last entry past; done = here })
      | inr no_more ↦ absurd no_more
    ]
  ]
  | inr other ↦ does_still does n entry past (numbers_do does past n (subst (λ l. In n l) (numbers_same does entry past other) h))
]

pub numbers_below : (does : Point → Bool) (past : List Entry) (n : ℕ) → In n (numbers_of does past) → n < length past
numbers_below does [] n h = absurd (subst (λ l. In n l) (numbers_first does) h)
numbers_below does (entry ∷ past) n h = elim (cases_Bool (does entry.point)) [
  | inl here ↦ elim (append_in n (numbers_of does past) (length past ∷ []) (subst (λ l. In n l) (numbers_more does entry past here) h)) [
    | inl older ↦ let below = numbers_below does past n older in omega (arith, below)
    | inr last ↦ elim last [ inl same ↦ omega (arith, same) | inr no_more ↦ absurd no_more ]
  ]
  | inr other ↦ let below = numbers_below does past n (subst (λ l. In n l) (numbers_same does entry past other) h) in omega (arith, below)
]

pub numbers_length : (does : Point → Bool) (past : List Entry) → length (numbers_of does past) ≡ count_by (λ (entry : Entry). does entry.point) past
numbers_length does [] = ap length (numbers_first does)
numbers_length does (entry ∷ past) = elim (cases_Bool (does entry.point)) [
  | inl here ↦
      let more = ap length (numbers_more does entry past here) in
      let longer = length-append (numbers_of does past) (length past ∷ []) in
      let counted = count_one (λ (e : Entry). does e.point) entry past here in
      omega (arith, more, longer, counted, numbers_length does past)
  | inr other ↦ ap length (numbers_same does entry past other) ∙ numbers_length does past ∙ sym (count_other (λ (e : Entry). does e.point) entry past other)
]

pub numbers_none : (does : Point → Bool) (past : List Entry) → has does past ≡ false → numbers_of does past ≡ []
numbers_none does [] none = numbers_first does
numbers_none does (entry ∷ past) none =
    let parts = has_parts does entry past none in
    numbers_same does entry past parts.0 ∙ numbers_none does past parts.1

-- the last of the numbers is that of the newest such entry
pub record IsLastOf (does : Point → Bool) (newest_one : Entry) (past : List Entry) : Type 0 where
  pub earlier : List ℕ
  pub number : ℕ
  pub numbers : numbers_of does past ≡ earlier ++ number ∷ []
  pub there : entry_at number past ≡ Some newest_one

newest_now : (does : Point → Bool) (entry : Entry) (past : List Entry) → does entry.point ≡ true → newest does (entry ∷ past) ≡ Some entry
unfolding newest
newest_now does entry past here = rw here refl

newest_older : (does : Point → Bool) (entry : Entry) (past : List Entry) → does entry.point ≡ false → newest does (entry ∷ past) ≡ newest does past
unfolding newest
newest_older does entry past other = rw other refl

newest_none : (does : Point → Bool) → newest does [] ≡ None
unfolding newest
newest_none does = refl

some_same : (a b : Entry) → Some a ≡ Some b → a ≡ b
some_same a b e = cc

none_some : (a : Entry) → None ≡ Some a → ⊥
none_some a e = cc

pub numbers_last : (does : Point → Bool) (past : List Entry) (found : Entry) → newest does past ≡ Some found → IsLastOf does found past
numbers_last does [] found is = absurd (none_some found (sym (newest_none does) ∙ is))
numbers_last does (entry ∷ past) found is = elim (cases_Bool (does entry.point)) [
  | inl here ↦
      let same : entry ≡ found = some_same entry found (sym (newest_now does entry past here) ∙ is) in
      record { earlier = numbers_of does past; number = length past; numbers = numbers_more does entry past here; there = entry_last entry past ∙ ap Some same }
  | inr other ↦
      let last = numbers_last does past found (sym (newest_older does entry past other) ∙ is) in
      record { earlier = last.earlier; number = last.number; numbers = numbers_same does entry past other ∙ last.numbers; there = entry_kept last.number entry found past last.there }
]

-- ---- what entries with these numbers commit

pub committed_kept : (n : ℕ) (entry : Entry) (past : List Entry) (id : ManifestId) → committed_at past n ≡ Some id → committed_at (entry ∷ past) n ≡ Some id
unfolding committed_at
committed_kept n entry past id is =
    elim (entry_at n past) as (λ (o : Option Entry). entry_at n past ≡ o → option_and_then (λ (e : Entry). manifest_of e.point) (entry_at n (entry ∷ past)) ≡ Some id) [
      | None ↦ λ none. absurd (let at = rw none at is in cc)
      | Some older ↦ λ some. rw (entry_kept n entry older past some) (rw some at is)
    ] refl

pub committed_last : (entry : Entry) (past : List Entry) → committed_at (entry ∷ past) (length past) ≡ manifest_of entry.point
unfolding committed_at
committed_last entry past = rw (entry_last entry past) refl

-- the numbers of commits stay those of the same manifests
pub commit_these_kept : (numbers : List ℕ) (ids : List ManifestId) (entry : Entry) (past : List Entry) → CommitThese numbers ids past → CommitThese numbers ids (entry ∷ past)
unfolding CommitThese
commit_these_kept [] [] entry past these = refl
commit_these_kept [] (id ∷ ids) entry past these = absurd (cc)
commit_these_kept (n ∷ numbers) [] entry past these = absurd (cc)
commit_these_kept (n ∷ numbers) (id ∷ ids) entry past these =
    let first : committed_at past n ≡ Some id = cc in
    let others : map (committed_at past) numbers ≡ map (λ i. Some i) ids = cc in
    let kept = committed_kept n entry past id first in
    let rest = commit_these_kept numbers ids entry past others in
    ap (λ o. o ∷ map (committed_at (entry ∷ past)) numbers) kept ∙ ap (λ l. Some id ∷ l) rest

commit_of_session : (rules : Rules) (past : List Entry) (author s : ℕ) (point : Point) → is_allowed rules past author point ≡ true → commits s point ≡ true → manifest_of point ≡ Some (record { session = s; seq = commits_of s past })
unfolding commits manifest_of
commit_of_session rules past author s (Commit id content text chunks bytes fresh fresh_bytes uses) allowed does =
    let said = commit_says rules past author id content text chunks bytes fresh fresh_bytes uses allowed in
    let same : s ≡ id.session = eqb-true _ _ does in
    let next : id.seq ≡ commits_of s past = said.next ∙ ap (λ n. commits_of n past) (sym same) in
    ap Some (λ i. record { session = sym same i; seq = next i })
commit_of_session rules past author s _ allowed does = absurd (false≢true does)

-- in a legal history the commits of a session, in their order, commit its manifests from 0 on
pub commits_at : (rules : Rules) (s : ℕ) (past : List Entry) (q n : ℕ) → is_legal rules past ≡ true → slice_get (numbers_of (commits s) past) q ≡ Some n → committed_at past n ≡ Some (record { session = s; seq = q })
unfolding commits_of
commits_at rules s [] q n legal is = absurd (let at = rw (numbers_first (commits s)) at is in cc)
commits_at rules s (entry ∷ past) q n legal is =
    let now = step rules entry past legal in
    elim (cases_Bool (commits s entry.point)) [
      | inl here ↦ elim (at_end (numbers_of (commits s) past) (length past) n q (ap (λ l. slice_get l q) (sym (numbers_more (commits s) entry past here)) ∙ is)) [
        | inl older ↦ committed_kept n entry past (record { session = s; seq = q }) (commits_at rules s past q n now.legal older)
        | inr last ↦
            let seq : commits_of s past ≡ q = sym (last.0 ∙ numbers_length (commits s) past) in
            ap (committed_at (entry ∷ past)) (sym last.1)
            ∙ committed_last entry past
            ∙ commit_of_session rules past entry.author s entry.point now.allowed here
            ∙ ap (λ k. Some (record { session = s; seq = k })) seq
      ]
      | inr other ↦ committed_kept n entry past (record { session = s; seq = q }) (commits_at rules s past q n now.legal (ap (λ l. slice_get l q) (sym (numbers_same (commits s) entry past other)) ∙ is))
    ]
