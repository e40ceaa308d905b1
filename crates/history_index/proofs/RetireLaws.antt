-- A list without the manifests of a session's first choices.
use Rattle.std.proofs.Common.{◌≡◌, ℕ, ◌+◌, ◌<◌, Bool, true, false, not, ◌&&◌, ◌||◌, eqb, ltb, cond, List, [], ◌∷◌, length, get_or, slice_get, Option, Some, None, refl, sym, ap, ◌∙◌, inl, inr, arith, eqb-true}
use Rattle.std.specs.List.{filter, list_all}
use Rattle.std.proofs.lemmas.Bool.{false≢true, cases_Bool, lt-ltb}
use Rattle.std.proofs.lemmas.Bool.Decides.{nat_tests}
use Rattle.std.proofs.lemmas.Option.{slice_get_within, slice_get-get_or}
use Rattle.ss_base.specs.declared.ids.Standing.{Standing}
use Rattle.ss_base.specs.declared.name.Name.{Name}
use Rattle.ss_base.specs.Ids.{has_name}
use Rattle.ss_base.specs.Standings.{without_manifest, without_session}
use Rattle.journal_entry.specs.declared.entry.Entry.{Entry}
use Rattle.history_index.specs.Choices.{hooks_at, hooks_of, was_chosen}
use Rattle.ss_base.proofs.MemberLaws.{all_in}
use Rattle.ss_base.proofs.StandingLaws.{filter_same, filter_twice}

-- ---- tests

and_true : (a : Bool) → a ≡ a && true
and_true true = refl
and_true false = refl

neither : (b : Bool) → false ≡ not (b && true) && false
neither true = refl
neither false = refl

nor : (a b : Bool) → not (a && false) ≡ not (b && false)
nor true true = refl
nor true false = refl
nor false true = refl
nor false false = refl

next_below : (n k : ℕ) → eqb n k ≡ false → ltb n (k + 1) ≡ ltb n k
next_below n k other = grind (arith, nat_tests)

now_below : (n k : ℕ) → eqb n k ≡ true → ltb n (k + 1) ≡ true
now_below n k same = grind (arith, nat_tests)

none_below : (n : ℕ) → ltb n 0 ≡ false
none_below n = grind (arith, nat_tests)

-- one choice more, which has the hook
taken : (own same wider below has : Bool) → (same ≡ true → wider ≡ true) → (same ≡ true → has ≡ true) → (same ≡ false → wider ≡ below) → not (own && (wider && has)) ≡ not (own && (below && has)) && not (own && same)
taken false same wider below has now with other = refl
taken true true wider below has now with other = rw (now refl, with refl) (neither below)
taken true false wider below has now with other = rw (other refl) (and_true (not (below && has)))

-- one choice more, which has not
left : (own same wider below has : Bool) → (same ≡ true → has ≡ false) → (same ≡ false → wider ≡ below) → not (own && (wider && has)) ≡ not (own && (below && has))
left false same wider below has without other = refl
left true true wider below has without other = rw (without refl) (nor wider below)
left true false wider below has without other = rw (other refl) refl

whole : (own below has : Bool) → (not own || has) ≡ true → (has ≡ true → below ≡ true) → not (own && (below && has)) ≡ not own
whole false below has chosen within = refl
whole true below true chosen within = rw (within refl) refl
whole true below false chosen within = absurd (false≢true chosen)

-- ---- lists

-- a manifest of the session is one of those of the first choices, and its choice has the hook
abbrev is_taken : List Entry → List ℕ → ℕ → Name → ℕ → Standing → Bool
is_taken entries choices session hook n stands =
    eqb stands.id.session session && (ltb stands.id.seq n && has_name hook (hooks_of entries choices stands.id.seq))

-- what stood at the hook, without those
unfoldable pub without_first : List Entry → List ℕ → ℕ → Name → ℕ → List Standing → List Standing
without_first entries choices session hook n stood = filter (λ (stands : Standing). not (is_taken entries choices session hook n stands)) stood

all_kept : (stood : List Standing) (p : Standing → Bool) → ((stands : Standing) → p stands ≡ true) → filter p stood ≡ stood
all_kept [] p each = refl
all_kept (x ∷ xs) p each = rw (each x) (ap (λ l. x ∷ l) (all_kept xs p each))

and_false : (a : Bool) → not (a && false) ≡ true
and_false true = refl
and_false false = refl

pub first_none : (entries : List Entry) (choices : List ℕ) (session : ℕ) (hook : Name) (stood : List Standing) → without_first entries choices session hook 0 stood ≡ stood
unfolding without_first
first_none entries choices session hook stood =
    all_kept stood (λ (stands : Standing). not (is_taken entries choices session hook 0 stands)) (λ stands.
    ap (λ b. not (eqb stands.id.session session && (b && has_name hook (hooks_of entries choices stands.id.seq)))) (none_below stands.id.seq)
    ∙ and_false (eqb stands.id.session session))

hooks_there : (entries : List Entry) (choices : List ℕ) (n number : ℕ) → slice_get choices n ≡ Some number → hooks_of entries choices n ≡ hooks_at entries number
unfolding hooks_of
hooks_there entries choices n number there = rw there refl

-- one choice more
first_more : (entries : List Entry) (choices : List ℕ) (session : ℕ) (hook : Name) (n number : ℕ) (stood : List Standing) → slice_get choices n ≡ Some number
    → without_first entries choices session hook (n + 1) stood ≡ cond (has_name hook (hooks_at entries number)) (without_manifest (record { session = session; seq = n }) (without_first entries choices session hook n stood)) (without_first entries choices session hook n stood)
unfolding without_first without_manifest
first_more entries choices session hook n number stood there =
    let at = hooks_there entries choices n number there in
    let here = λ (stands : Standing) (same : eqb stands.id.seq n ≡ true). ap (λ k. has_name hook (hooks_of entries choices k)) (eqb-true stands.id.seq n same) ∙ ap (has_name hook) at in
    elim (cases_Bool (has_name hook (hooks_at entries number))) [
      | inl has ↦ rw has (
          filter_same (λ (stands : Standing). not (is_taken entries choices session hook (n + 1) stands)) (λ (stands : Standing). not (is_taken entries choices session hook n stands) && not (eqb stands.id.session session && eqb stands.id.seq n)) stood
          (λ stands h. taken (eqb stands.id.session session) (eqb stands.id.seq n) (ltb stands.id.seq (n + 1)) (ltb stands.id.seq n) (has_name hook (hooks_of entries choices stands.id.seq)) (now_below stands.id.seq n) (λ same. here stands same ∙ has) (next_below stands.id.seq n))
          ∙ sym (filter_twice (λ (stands : Standing). not (eqb stands.id.session session && eqb stands.id.seq n)) (λ (stands : Standing). not (is_taken entries choices session hook n stands)) stood))
      | inr has_not ↦ rw has_not (
          filter_same (λ (stands : Standing). not (is_taken entries choices session hook (n + 1) stands)) (λ (stands : Standing). not (is_taken entries choices session hook n stands)) stood
          (λ stands h. left (eqb stands.id.session session) (eqb stands.id.seq n) (ltb stands.id.seq (n + 1)) (ltb stands.id.seq n) (has_name hook (hooks_of entries choices stands.id.seq)) (λ same. here stands same ∙ has_not) (next_below stands.id.seq n)))
    ]

has_nothing : (hook : Name) → has_name hook [] ≡ false
unfolding has_name
has_nothing hook = refl

-- only a choice that there is has the hook
chosen_within : (entries : List Entry) (choices : List ℕ) (hook : Name) (n : ℕ) → has_name hook (hooks_of entries choices n) ≡ true → n < length choices
unfolding hooks_of
chosen_within entries choices hook n has =
    elim (slice_get choices n) as (λ (o : Option ℕ). slice_get choices n ≡ o → n < length choices) [
      | None ↦ λ none. absurd (false≢true (sym (has_nothing hook) ∙ (rw none at has)))
      | Some number ↦ λ some. slice_get_within choices n number some
    ] refl

-- without those of all choices
pub first_all : (entries : List Entry) (choices : List ℕ) (session : ℕ) (hook : Name) (n : ℕ) (stood : List Standing) → n ≡ length choices → list_all (was_chosen entries choices session hook) stood ≡ true → without_first entries choices session hook n stood ≡ without_session session stood
unfolding without_first without_session was_chosen
first_all entries choices session hook n stood all chosen =
    filter_same (λ (stands : Standing). not (is_taken entries choices session hook n stands)) (λ (stands : Standing). not (eqb stands.id.session session)) stood
    (λ stands h. whole (eqb stands.id.session session) (ltb stands.id.seq n) (has_name hook (hooks_of entries choices stands.id.seq)) (all_in (was_chosen entries choices session hook) stands stood h chosen)
    (λ has. let below = chosen_within entries choices hook stands.id.seq has in lt-ltb stands.id.seq n (omega (arith, below, all))))

-- a step of the loop over choices: the lists before it, then, and at the start
pub first_step : (entries : List Entry) (choices : List ℕ) (session : ℕ) (hook : Name) (n : ℕ) (names : List Name) (new mid old : List Standing) → n < length choices → names ≡ hooks_at entries (get_or choices n 0)
    → new ≡ cond (has_name hook names) (without_manifest (record { session = session; seq = n }) mid) mid → mid ≡ without_first entries choices session hook n old → new ≡ without_first entries choices session hook (n + 1) old
first_step entries choices session hook n names new mid old below is changed so =
    let there : slice_get choices n ≡ Some (get_or choices n 0) = slice_get-get_or choices n 0 below in
    changed
    ∙ ap (λ (hooks : List Name). cond (has_name hook hooks) (without_manifest (record { session = session; seq = n }) mid) mid) is
    ∙ ap (λ (l : List Standing). cond (has_name hook (hooks_at entries (get_or choices n 0))) (without_manifest (record { session = session; seq = n }) l) l) so
    ∙ sym (first_more entries choices session hook n (get_or choices n 0) old there)
