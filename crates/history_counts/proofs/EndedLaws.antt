-- What each session was closed with, one entry later.
use Rattle.std.proofs.Common.{◌≡◌, ℕ, zero, suc, ◌+◌, ◌<◌, ◌≤◌, Bool, true, false, eqb, List, [], ◌∷◌, ◌++◌, map, slice_get, slice_set, Option, Some, None, is_some, refl, sym, ap, ◌∙◌, subst, inl, inr, arith, eqb-true}
use Rattle.std.specs.List.{list_any, find, range_with_len}
use Rattle.std.specs.Option.{option_and_then}
use Rattle.std.proofs.lemmas.Bool.{false≢true, both_ways, or_cases, or_parts, false_from_ne_true}
use Rattle.ss_base.specs.declared.ended.Ended.{Ended}
use Rattle.journal_entry.specs.declared.entry.Entry.{Entry}
use Rattle.journal_entry.specs.declared.entry.Point.{Point}
use Rattle.journal_entry.specs.declared.entry.Point.TheVariants.{Finish}
use Rattle.history.specs.declared.rules.Rules.{Rules}
use Rattle.history.specs.Sessions.{session_begun, session_count, begins_some, begins, commits, finishes, aborts, closes, has, newest, commits_of}
use Rattle.history.specs.Need.{ended_by, ended, all_ended}
use Rattle.history.specs.Legal.{is_legal}
use Rattle.ss_base.proofs.MemberLaws.{find_in, count_other, count_one}
use Rattle.history_laws.proofs.Allowed.{step, closes_open}
use Rattle.history_laws.proofs.SessionLaws.{has_none, has_older, has_cases, has_from, unfinished_is, begun_below}

-- ---- one session

ended_by_same : (s : ℕ) (entry : Entry) (past : List Entry) (point : Point) → closes s point ≡ true → commits s entry.point ≡ false → ended_by (entry ∷ past) point ≡ ended_by past point
unfolding closes finishes aborts ended_by commits_of
ended_by_same s entry past (Finish t containers) does other = elim (or_cases _ _ does) [
  | inl same ↦
      let is : s ≡ t = eqb-true s t same in
      let uncommitted : commits t entry.point ≡ false = subst (λ n. commits n entry.point ≡ false) is other in
      let texts = count_other (λ (e : Entry). commits t e.point) entry past uncommitted in
      λ i. Some (record { containers = containers; texts = texts i })
  | inr no_abort ↦ absurd (false≢true no_abort)
]
ended_by_same s entry past _ does other = refl

pub ended_other : (s : ℕ) (entry : Entry) (past : List Entry) → closes s entry.point ≡ false → (commits s entry.point ≡ true → has (closes s) past ≡ false) → ended s (entry ∷ past) ≡ ended s past
unfolding ended newest has
ended_other s entry past other open_still =
    let same : newest (closes s) (entry ∷ past) ≡ newest (closes s) past = rw other refl in
    ap (λ o. option_and_then (λ (e : Entry). ended_by (entry ∷ past) e.point) o) same
    ∙ (elim (newest (closes s) past) as (λ (o : Option Entry). newest (closes s) past ≡ o → option_and_then (λ (e : Entry). ended_by (entry ∷ past) e.point) o ≡ option_and_then (λ (e : Entry). ended_by past e.point) o) [
      | None ↦ λ e. refl
      | Some found ↦ λ e.
          let at = find_in (λ (x : Entry). closes s x.point) past found e in
          let closed = has_from (closes s) found past at.0 at.1 in
          ended_by_same s entry past found.point at.1 (false_from_ne_true _ (λ committed. both_ways _ (open_still committed) closed))
    ] refl)

pub ended_now : (s : ℕ) (entry : Entry) (past : List Entry) → closes s entry.point ≡ true → ended s (entry ∷ past) ≡ ended_by (entry ∷ past) entry.point
unfolding ended newest
ended_now s entry past here = rw here refl

find_none : {X : Type 0} (p : X → Bool) (xs : List X) → list_any p xs ≡ false → find p xs ≡ None
find_none p [] e = refl
find_none p (x ∷ xs) e = let parts = or_parts (p x) (list_any p xs) e in rw parts.0 (find_none p xs parts.1)

pub ended_none : (s : ℕ) (past : List Entry) → has (closes s) past ≡ false → ended s past ≡ None
unfolding ended newest has
ended_none s past open_still = ap (λ o. option_and_then (λ (e : Entry). ended_by past e.point) o) (find_none (λ (x : Entry). closes s x.point) past open_still)

pub closed_begun : (rules : Rules) (s : ℕ) (past : List Entry) → is_legal rules past ≡ true → has (closes s) past ≡ true → has (begins s) past ≡ true
closed_begun rules s [] legal closed = absurd (both_ways _ (has_none (closes s)) closed)
closed_begun rules s (entry ∷ past) legal closed =
    let now = step rules entry past legal in
    has_older (begins s) entry past (elim (has_cases (closes s) entry past closed) [
      | inl here ↦ (unfinished_is s past (closes_open rules past entry.author s entry.point now.allowed here)).0
      | inr older ↦ closed_begun rules s past now.legal older
    ])

-- ---- all sessions

map_alike : {X : Type 0} (f g : ℕ → X) (xs : List ℕ) → ((n : ℕ) → f n ≡ g n) → map f xs ≡ map g xs
map_alike f g [] same = refl
map_alike f g (x ∷ xs) same = λ i. same x i ∷ map_alike f g xs same i

count_kept : (entry : Entry) (past : List Entry) → session_begun entry.point ≡ None → session_count (entry ∷ past) ≡ session_count past
unfolding session_count begins_some
count_kept entry past none = count_other (λ (e : Entry). is_some (session_begun e.point)) entry past (ap is_some none)

count_more : (s : ℕ) (entry : Entry) (past : List Entry) → session_begun entry.point ≡ Some s → session_count (entry ∷ past) ≡ suc (session_count past)
unfolding session_count begins_some
count_more s entry past is = let one = count_one (λ (e : Entry). is_some (session_begun e.point)) entry past (ap is_some is) in omega (arith, one)

pub all_same : (entry : Entry) (past : List Entry) → session_begun entry.point ≡ None → ((s : ℕ) → ended s (entry ∷ past) ≡ ended s past) → all_ended (entry ∷ past) ≡ all_ended past
unfolding all_ended
all_same entry past none same =
    ap (λ n. map (λ s. ended s (entry ∷ past)) (range_with_len 0 n)) (count_kept entry past none)
    ∙ map_alike (λ s. ended s (entry ∷ past)) (λ s. ended s past) (range_with_len 0 (session_count past)) same

map_more : {X : Type 0} (f : ℕ → X) (a n : ℕ) → map f (range_with_len a (suc n)) ≡ map f (range_with_len a n) ++ f (a + n) ∷ []
map_more f a zero = ap (λ k. f k ∷ []) (let e : a ≡ a + 0 = omega arith in e)
map_more f a (suc n) = ap (λ l. f a ∷ l) (map_more f (a + 1) n ∙ ap (λ k. map f (range_with_len (a + 1) n) ++ f k ∷ []) (let e : (a + 1) + n ≡ a + suc n = omega arith in e))

-- a session more, which is not closed
pub all_begun : (rules : Rules) (s : ℕ) (entry : Entry) (past : List Entry) → is_legal rules past ≡ true → session_begun entry.point ≡ Some s → ((t : ℕ) → ended t (entry ∷ past) ≡ ended t past) → all_ended (entry ∷ past) ≡ all_ended past ++ None ∷ []
unfolding all_ended
all_begun rules s entry past legal is same =
    let n = session_count past in
    let open_still : has (closes n) past ≡ false = false_from_ne_true _ (λ closed. let below = begun_below rules n past legal (closed_begun rules n past legal closed) in absurd (omega (arith, below))) in
    ap (λ m. map (λ t. ended t (entry ∷ past)) (range_with_len 0 m)) (count_more s entry past is)
    ∙ map_alike (λ t. ended t (entry ∷ past)) (λ t. ended t past) (range_with_len 0 (suc n)) same
    ∙ map_more (λ t. ended t past) 0 n
    ∙ ap (λ k. map (λ t. ended t past) (range_with_len 0 n) ++ ended k past ∷ []) (let e : 0 + n ≡ n = omega arith in e)
    ∙ ap (λ o. map (λ t. ended t past) (range_with_len 0 n) ++ o ∷ []) (ended_none n past open_still)

map_set : {X : Type 0} (f g : ℕ → X) (v : X) (k a n : ℕ) → g (a + k) ≡ v → ((t : ℕ) → eqb t (a + k) ≡ false → g t ≡ f t) → map g (range_with_len a n) ≡ slice_set (map f (range_with_len a n)) k v
map_set f g v k a zero here others = refl
map_set f g v zero a (suc n) here others =
    let e : a + 0 ≡ a = omega arith in
    let rest : map g (range_with_len (a + 1) n) ≡ map f (range_with_len (a + 1) n) = map_above f g (a + 1) n (λ t above. others t (apart t (a + 0) (omega (arith, above)))) in
    λ i. (ap g (sym e) ∙ here) i ∷ rest i
  where
    apart : (t m : ℕ) → m < t → eqb t m ≡ false
    apart t m above = false_from_ne_true _ (λ same. let is = eqb-true t m same in absurd (omega (arith, above, is)))

    map_above : {X : Type 0} (f g : ℕ → X) (a n : ℕ) → ((t : ℕ) → a ≤ t → g t ≡ f t) → map g (range_with_len a n) ≡ map f (range_with_len a n)
    map_above f g a zero same = refl
    map_above f g a (suc n) same = λ i. same a (omega arith) i ∷ map_above f g (a + 1) n (λ t above. same t (omega (arith, above))) i
map_set f g v (suc k) a (suc n) here others =
    let e : (a + 1) + k ≡ a + suc k = omega arith in
    let first : g a ≡ f a = others a (false_from_ne_true _ (λ same. let is = eqb-true a (a + suc k) same in absurd (omega (arith, is)))) in
    let rest = map_set f g v k (a + 1) n (ap g e ∙ here) (λ t apart. others t (ap (eqb t) (sym e) ∙ apart)) in
    λ i. first i ∷ rest i

-- a session is closed
pub all_closed : (s : ℕ) (v : Option Ended) (entry : Entry) (past : List Entry) → session_begun entry.point ≡ None → ended s (entry ∷ past) ≡ v → ((t : ℕ) → eqb t s ≡ false → ended t (entry ∷ past) ≡ ended t past) → all_ended (entry ∷ past) ≡ slice_set (all_ended past) s v
unfolding all_ended
all_closed s v entry past none here others =
    let e : 0 + s ≡ s = omega arith in
    ap (λ n. map (λ t. ended t (entry ∷ past)) (range_with_len 0 n)) (count_kept entry past none)
    ∙ map_set (λ t. ended t past) (λ t. ended t (entry ∷ past)) v s 0 (session_count past) (ap (λ n. ended n (entry ∷ past)) e ∙ here) (λ t apart. others t (ap (eqb t) (sym e) ∙ apart))

get_range : {X : Type 0} (f : ℕ → X) (k a n : ℕ) → k < n → slice_get (map f (range_with_len a n)) k ≡ Some (f (a + k))
get_range f k a zero below = absurd (omega (arith, below))
get_range f zero a (suc n) below = ap (λ m. Some (f m)) (let e : a ≡ a + 0 = omega arith in e)
get_range f (suc k) a (suc n) below = get_range f k (a + 1) n (omega (arith, below)) ∙ ap (λ m. Some (f m)) (let e : (a + 1) + k ≡ a + suc k = omega arith in e)

-- what an unfinished session was closed with: nothing yet
pub open_at : (rules : Rules) (s : ℕ) (past : List Entry) → is_legal rules past ≡ true → has (begins s) past ≡ true → has (closes s) past ≡ false → slice_get (all_ended past) s ≡ Some None
unfolding all_ended
open_at rules s past legal begun open_still =
    get_range (λ t. ended t past) s 0 (session_count past) (begun_below rules s past legal begun)
    ∙ ap (λ m. Some (ended m past)) (let e : 0 + s ≡ s = omega arith in e)
    ∙ ap Some (ended_none s past open_still)
