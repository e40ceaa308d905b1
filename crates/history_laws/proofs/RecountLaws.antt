-- A manifest is live exactly where it is held, and a container needed where it has a use.
use Rattle.std.proofs.Common.{◌≡◌, ℕ, zero, suc, ◌+◌, Bool, true, false, ◌&&◌, ◌||◌, ltb, eqb, cond, List, [], ◌∷◌, refl, sym, ap, ◌∙◌, inl, inr, arith}
use Rattle.std.specs.List.{list_any, count_by}
use Rattle.std.proofs.lemmas.Bool.{cases_Bool}
use Rattle.std.proofs.lemmas.Bool.Decides.{nat_tests}
use Rattle.ss_base.specs.declared.ids.ContainerId.{ContainerId}
use Rattle.ss_base.specs.declared.ids.ManifestId.{ManifestId}
use Rattle.ss_base.specs.Ids.{has_manifest}
use Rattle.ss_base.proofs.MemberLaws.{count_one, count_other}
use Rattle.journal_entry.specs.declared.entry.Entry.{Entry}
use Rattle.journal_entry.specs.declared.entry.Seen.{Seen}
use Rattle.history.specs.Sessions.{has, sessions, readings, is_unfinished, is_retained, is_reading, pending_champions}
use Rattle.history.specs.Need.{is_champion, is_being_read, is_pinned, commits_manifest, is_live, uses_live, is_needed}
use Rattle.history_laws.specs.Recount.{pins, holds, uses_of}

above : (n m : ℕ) → n ≡ 1 + m → ltb 0 n ≡ true
above n m e = grind (arith, nat_tests)

-- an item passes exactly where the count is not 0
any_count : {X : Type 0} (p : X → Bool) (xs : List X) → list_any p xs ≡ ltb 0 (count_by p xs)
any_count p [] = refl
any_count p (x ∷ xs) = elim (cases_Bool (p x)) [
  | inl passes ↦ ap (λ b. b || list_any p xs) passes ∙ sym (above (count_by p (x ∷ xs)) (count_by p xs) (count_one p x xs passes))
  | inr fails ↦ ap (λ b. b || list_any p xs) fails ∙ any_count p xs ∙ ap (ltb 0) (sym (count_other p x xs fails))
]

either_count : (a b : ℕ) → ltb 0 (a + b) ≡ (ltb 0 a || ltb 0 b)
either_count zero b = ap (ltb 0) (let e : 0 + b ≡ b = omega arith in e)
either_count (suc a) b = above (suc a + b) (a + b) (omega arith) ∙ sym (ap (λ c. c || ltb 0 b) (above (suc a) a (omega arith)))

held_count : (unfinished kept : Bool) (n : ℕ) → ltb 0 (cond (unfinished || kept) 1 0 + n) ≡ (unfinished || (kept || ltb 0 n))
held_count true kept n = above (1 + n) n refl
held_count false true n = above (1 + n) n refl
held_count false false n = ap (ltb 0) (let e : 0 + n ≡ n = omega arith in e)

pinned_count : (id : ManifestId) (past : List Entry) → is_pinned id past ≡ ltb 0 (pins id past)
unfolding is_pinned is_champion is_being_read pins
pinned_count id past =
    let champion = λ (session : ℕ). has_manifest id (pending_champions session past) in
    let read = λ (seen : Seen). eqb seen.session id.session && is_reading seen.reader past in
    ap (λ b. b || list_any read (readings past)) (any_count champion (sessions past))
    ∙ ap (λ b. ltb 0 (count_by champion (sessions past)) || b) (any_count read (readings past))
    ∙ sym (either_count (count_by champion (sessions past)) (count_by read (readings past)))

pub live_held : (id : ManifestId) (past : List Entry) → has (commits_manifest id) past ≡ true → is_live id past ≡ ltb 0 (holds id past)
unfolding is_live holds
live_held id past committed =
    ap (λ b. b && (is_unfinished id.session past || (is_retained id.session past || is_pinned id past))) committed
    ∙ ap (λ b. is_unfinished id.session past || (is_retained id.session past || b)) (pinned_count id past)
    ∙ sym (held_count (is_unfinished id.session past) (is_retained id.session past) (pins id past))

pub needed_used : (id : ContainerId) (past : List Entry) → is_needed id past ≡ (is_unfinished id.session past || ltb 0 (uses_of id past))
unfolding is_needed has uses_of
needed_used id past = ap (λ b. is_unfinished id.session past || b) (any_count (λ (entry : Entry). uses_live id past entry.point) past)
