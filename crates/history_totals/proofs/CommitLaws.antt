-- The bytes of a session's commits, by their numbers and entry by entry.
use Rattle.std.proofs.Common.{◌≡◌, ℕ, zero, suc, ◌<◌, eqb, cond, List, [], ◌∷◌, ◌++◌, length, reverse, slice_get, Option, Some, None, refl, ap, ◌∙◌, inl, inr, arith}
use Rattle.std.specs.List.{sum_by}
use Rattle.std.specs.Option.{option_map_or}
use Rattle.std.proofs.lemmas.Bool.{cases_Bool}
use Rattle.std.proofs.lemmas.List.{reverse-append, length-reverse}
use Rattle.std.proofs.lemmas.List.Sums.{sum_by-cons, sum_by-append}
use Rattle.journal_entry.specs.declared.entry.Entry.{Entry}
use Rattle.journal_entry.specs.declared.entry.Point.{Point}
use Rattle.journal_entry.specs.declared.entry.Point.TheVariants.{Commit}
use Rattle.history.specs.Sessions.{commits, is_retained}
use Rattle.history.specs.TotalsOf.{bytes_retained}
use Rattle.history_laws.specs.EntryNumbers.{numbers_of}
use Rattle.ss_base.proofs.MemberLaws.{In}
use Rattle.ss_base.proofs.GetLaws.{reverse_last}
use Rattle.history_laws.proofs.NumberLaws.{numbers_more, numbers_same, numbers_first, numbers_below}
use Rattle.history_laws.proofs.MovedLaws.{counted, sum_same}
use Rattle.history_totals.specs.Parts.{bytes_committed, bytes_at}

-- ---- by numbers

get_front : {X : Type 0} (xs ys : List X) (n : ℕ) → n < length xs → slice_get (xs ++ ys) n ≡ slice_get xs n
get_front [] ys n below = absurd (omega (arith, below))
get_front (x ∷ xs) ys zero below = refl
get_front (x ∷ xs) ys (suc n) below = get_front xs ys n (omega (arith, below))

at_front : (entry : Entry) (past : List Entry) (n : ℕ) → n < length past → bytes_at (reverse (entry ∷ past)) n ≡ bytes_at (reverse past) n
unfolding bytes_at
at_front entry past n below =
    let front = get_front (reverse past) (entry ∷ []) n (omega (arith, below, length-reverse past)) in
    ap (λ o. option_map_or (λ (e : Entry). bytes_committed e.point) o 0) (ap (λ l. slice_get l n) (reverse-append (entry ∷ []) past) ∙ front)

at_last : (entry : Entry) (past : List Entry) → bytes_at (reverse (entry ∷ past)) (length past) ≡ bytes_committed entry.point
unfolding bytes_at
at_last entry past = ap (λ o. option_map_or (λ (e : Entry). bytes_committed e.point) o 0) (reverse_last entry past)

sum_in : {X : Type 0} (f g : X → ℕ) (xs : List X) → ((x : X) → In x xs → f x ≡ g x) → sum_by f xs ≡ sum_by g xs
sum_in f g [] each = refl
sum_in f g (x ∷ xs) each =
    let rest : sum_by f xs ≡ sum_by g xs = sum_in f g xs (λ y h. each y (inr h)) in
    let left = sum_by-cons f x xs in
    let right = sum_by-cons g x xs in
    let here = each x (inl refl) in
    omega (arith, rest, left, right, here)

-- what an entry counts for where it commits for the session
abbrev pub bytes_for : ℕ → Entry → ℕ
bytes_for s entry = cond (commits s entry.point) (bytes_committed entry.point) 0

pub bytes_by_numbers : (s : ℕ) (past : List Entry) → sum_by (bytes_at (reverse past)) (numbers_of (commits s) past) ≡ sum_by (bytes_for s) past
bytes_by_numbers s [] = ap (sum_by (bytes_at [])) (numbers_first (commits s))
bytes_by_numbers s (entry ∷ past) =
    let numbers = numbers_of (commits s) past in
    let rest : sum_by (bytes_at (reverse past)) numbers ≡ sum_by (bytes_for s) past = bytes_by_numbers s past in
    let kept = sum_in (bytes_at (reverse (entry ∷ past))) (bytes_at (reverse past)) numbers (λ n h. at_front entry past n (numbers_below (commits s) past n h)) in
    let more = sum_by-cons (bytes_for s) entry past in
    elim (cases_Bool (commits s entry.point)) [
      | inl does ↦
          let last = at_last entry past in
          let one = sum_by-cons (bytes_at (reverse (entry ∷ past))) (length past) [] in
          let parts = ap (sum_by (bytes_at (reverse (entry ∷ past)))) (numbers_more (commits s) entry past does) ∙ sum_by-append (bytes_at (reverse (entry ∷ past))) numbers (length past ∷ []) in
          let here : bytes_for s entry ≡ bytes_committed entry.point = ap (λ b. cond b (bytes_committed entry.point) 0) does in
          omega (arith, rest, kept, more, last, one, parts, here)
      | inr other ↦
          let parts = ap (sum_by (bytes_at (reverse (entry ∷ past)))) (numbers_same (commits s) entry past other) in
          let here : bytes_for s entry ≡ 0 = ap (λ b. cond b (bytes_committed entry.point) 0) other in
          omega (arith, rest, kept, more, parts, here)
    ]

-- ---- by sessions

-- the session for which an entry commits
abbrev pub session_committed : Point → Option ℕ
session_committed (Commit manifest content text chunks bytes fresh fresh_bytes uses) = Some manifest.session
session_committed _ = None

retained_counted : (past : List Entry) (point : Point) → bytes_retained past point ≡ counted (λ t. is_retained t past) (session_committed point) (bytes_committed point)
unfolding bytes_retained bytes_committed
retained_counted past (Commit manifest content text chunks bytes fresh fresh_bytes uses) = refl
retained_counted past _ = refl

commits_counted : (s : ℕ) (point : Point) → cond (commits s point) (bytes_committed point) 0 ≡ counted (λ t. eqb s t) (session_committed point) (bytes_committed point)
unfolding commits bytes_committed
commits_counted s (Commit manifest content text chunks bytes fresh fresh_bytes uses) = refl
commits_counted s _ = refl

pub sum_retained : (past before : List Entry) → sum_by (λ (e : Entry). bytes_retained past e.point) before ≡ sum_by (λ (e : Entry). counted (λ t. is_retained t past) (session_committed e.point) (bytes_committed e.point)) before
sum_retained past before = sum_same (λ (e : Entry). bytes_retained past e.point) (λ (e : Entry). counted (λ t. is_retained t past) (session_committed e.point) (bytes_committed e.point)) before (λ e. retained_counted past e.point)

pub sum_commits : (s : ℕ) (before : List Entry) → sum_by (bytes_for s) before ≡ sum_by (λ (e : Entry). counted (λ t. eqb s t) (session_committed e.point) (bytes_committed e.point)) before
sum_commits s before = sum_same (bytes_for s) (λ (e : Entry). counted (λ t. eqb s t) (session_committed e.point) (bytes_committed e.point)) before (λ e. commits_counted s e.point)
