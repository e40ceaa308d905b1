-- What a caller may ask for by what it has seen, it may ask for at its turn.
use Rattle.std.proofs.Common.{◌≡◌, ◌≢◌, ℕ, suc, ◌≤◌, Bool, true, false, ◌&&◌, ◌||◌, eqb, ltb, leb, List, [], ◌∷◌, ◌++◌, length, reverse, Option, Some, None, is_some, All, refl, sym, ap, ◌∙◌, subst, inl, inr, arith, eqb-true}
use Rattle.std.specs.List.{list_all, list_any}
use Rattle.std.specs.Option.{unwrap_or}
use Rattle.std.proofs.lemmas.Bool.{false≢true, and_parts, and_from, or_cases, or_left, or_right, or_from, false_from_ne_true}
use Rattle.std.proofs.lemmas.List.{append_assoc, reverse-append}
use Rattle.ss_base.specs.declared.ids.ContainerId.{ContainerId}
use Rattle.ss_base.specs.declared.ids.ManifestId.{ManifestId}
use Rattle.ss_base.specs.declared.name.Name.{Name}
use Rattle.ss_base.specs.Order.{are_ascending}
use Rattle.ss_base.specs.Profile.{numbers_of}
use Rattle.ss_base.proofs.MemberLaws.{any_in, in_any}
use Rattle.journal_entry.specs.declared.entry.Entry.{Entry}
use Rattle.journal_entry.specs.declared.entry.Point.{Point}
use Rattle.journal_entry.specs.declared.entry.Point.TheVariants.{Done}
use Rattle.journal_entry.specs.Bounds.{most_uses}
use Rattle.history.specs.declared.rules.Rules.{Rules}
use Rattle.history.specs.OwnEnd.{own_end}
use Rattle.history.specs.Sessions.{is_number, pending, pending_champions, is_pending, commits_of, has, looks, ends, is_reading, is_looked_by, author_of}
use Rattle.history.specs.Legal.{is_open_to, are_hooks, lists_use, is_use_of_any, is_use, are_uses, are_texts, is_allowed, is_legal}
use Rattle.history.proofs.LegalLaws.{is_legal-older}
use Rattle.history_laws.specs.Concerns.{concerns_reading}
use Rattle.history_laws.proofs.Allowed.{step}
use Rattle.history_laws.proofs.SessionLaws.{has_older}
use Rattle.history_laws.proofs.BegunLaws.{looks_next, looked_below}
use Rattle.history_laws.proofs.EndLaws.{reading_parts}
use Rattle.history_laws.proofs.OtherLaws.{reading_same, reader_same}
use Rattle.store_core.specs.View.{StateView, past_of, rules_of}
use Rattle.history_calls.specs.OpenAt.{IsOpenAt}
use Rattle.history_calls.specs.Turn.{IsTurn}
use Rattle.history_calls.proofs.TurnLaws.{past_at_turn, open_at_turn}

-- ---- uses

has_behind : (does : Point → Bool) (newer past : List Entry) → has does past ≡ true → has does (newer ++ past) ≡ true
has_behind does [] past there = there
has_behind does (entry ∷ newer) past there = has_older does entry (newer ++ past) (has_behind does newer past there)

any_weaker : {X : Type 0} (p q : X → Bool) (xs : List X) → ((x : X) → p x ≡ true → q x ≡ true) → list_any p xs ≡ true → list_any q xs ≡ true
any_weaker p q xs implies some = let found = any_in p xs some in in_any q found.0 xs found.1 (implies found.0 found.2)

all_weaker : {X : Type 0} (p q : X → Bool) (xs : List X) → ((x : X) → p x ≡ true → q x ≡ true) → list_all p xs ≡ true → list_all q xs ≡ true
all_weaker p q [] implies all = refl
all_weaker p q (x ∷ xs) implies all =
    let parts = and_parts (p x) (list_all p xs) all in
    and_from (q x) (list_all q xs) (implies x parts.0) (all_weaker p q xs implies parts.1)

use_behind : (s : ℕ) (ids : List ManifestId) (newer past : List Entry) (id : ContainerId) → is_use s ids past id ≡ true → is_use s ids (newer ++ past) id ≡ true
unfolding is_use is_use_of_any
use_behind s ids newer past id use_ = elim (or_cases (eqb id.session s && ltb id.ordinal 4294967295) _ use_) [
  | inl own ↦ or_left (eqb id.session s && ltb id.ordinal 4294967295) _ own
  | inr other ↦ or_right (eqb id.session s && ltb id.ordinal 4294967295) _
      (any_weaker (λ (m : ManifestId). has (lists_use m id) past) (λ (m : ManifestId). has (lists_use m id) (newer ++ past)) ids (λ m there. has_behind (lists_use m id) newer past there) other)
]

pub uses_behind : (s : ℕ) (newer past : List Entry) (uses : List ContainerId) → pending s (newer ++ past) ≡ pending s past → are_uses s past uses ≡ true → are_uses s (newer ++ past) uses ≡ true
unfolding are_uses pending_champions
uses_behind s newer past uses same valid =
    let first = and_parts (are_ascending uses) _ valid in
    let second = and_parts (leb (length uses) most_uses) _ first.1 in
    let ids = unwrap_or (pending s past) [] in
    let each = all_weaker (is_use s ids past) (is_use s ids (newer ++ past)) uses (λ id use_. use_behind s ids newer past id use_) second.1 in
    let now = subst (λ (o : Option (List ManifestId)). list_all (is_use s (unwrap_or o []) (newer ++ past)) uses ≡ true) (sym same) each in
    and_from _ _ first.0 (and_from _ _ second.0 now)

-- ---- a session at its caller's turn

module _ (others : List Entry → Type 0) (standings champions author s : ℕ) (seen turn : StateView) (is : IsTurn others standings champions author seen turn) where
  module _ (open_to : is_open_to author s (past_of seen) ≡ true) where
    stays : IsOpenAt author s (pending s (past_of seen)) (commits_of s (past_of seen)) (own_end s (past_of seen)) (past_of turn)
    stays = open_at_turn others standings champions author s (pending s (past_of seen)) (commits_of s (past_of seen)) (own_end s (past_of seen)) seen turn is
        (record { open_to = open_to; choice_is = refl; commit_count = refl; used = omega arith })

    pub open_stays : is_open_to author s (past_of turn) ≡ true
    open_stays = stays.open_to

    pub pending_stays : (waits : Bool) → is_pending s (past_of seen) ≡ waits → is_pending s (past_of turn) ≡ waits
    unfolding is_pending
    pending_stays waits now = ap (λ o. is_some o) stays.choice_is ∙ now

    pub end_stays : (containers : ℕ) → own_end s (past_of seen) ≤ containers → own_end s (past_of turn) ≤ containers
    end_stays containers above = let used = stays.used in omega (arith, used, above)

    pub texts_stay : (texts : ℕ) → are_texts s texts (past_of seen) ≡ true → are_texts s texts (past_of turn) ≡ true
    unfolding are_texts is_pending
    texts_stay texts written =
        (λ i. eqb texts (stays.commit_count i) || (is_some (stays.choice_is i) && eqb texts (suc (stays.commit_count i)))) ∙ written

    pub uses_stay : (uses : List ContainerId) → are_uses s (past_of seen) uses ≡ true → are_uses s (past_of turn) uses ≡ true
    uses_stay uses valid =
        let whole = past_at_turn others standings champions author seen turn is in
        let same : pending s (reverse is.came ++ past_of seen) ≡ pending s (past_of seen) = ap (pending s) (sym whole) ∙ stays.choice_is in
        subst (λ past. are_uses s past uses ≡ true) (sym whole) (uses_behind s (reverse is.came) (past_of seen) uses same valid)

  pub hooks_stay : (hooks : List Name) → are_hooks (numbers_of seen.profile).bits hooks ≡ true → are_hooks (numbers_of turn.profile).bits hooks ≡ true
  hooks_stay hooks valid = subst (λ (t : StateView). are_hooks (numbers_of t.profile).bits hooks ≡ true) (sym is.turn_is) valid

-- ---- a reading at its caller's turn

same_number : (a b : ℕ) (o : Option ℕ) → is_number a o ≡ true → is_number b o ≡ true → a ≡ b
same_number a b (Some n) is is' = eqb-true _ _ is ∙ sym (eqb-true _ _ is')
same_number a b None is is' = absurd (false≢true is)

-- a reading is ended by its author alone
ends_own : (rules : Rules) (past : List Entry) (author r : ℕ) (point : Point) → is_allowed rules past author point ≡ true → ends r point ≡ true → is_looked_by author r past ≡ true
unfolding is_allowed ends
ends_own rules past author r (Done t) allowed does = subst (λ n. is_looked_by author n past ≡ true) (sym (eqb-true _ _ does)) (and_parts _ _ allowed).1
ends_own rules past author r _ allowed does = absurd (false≢true does)

module _ (rules : Rules) (author r : ℕ) where
  -- a reading that is the author's, and unfinished
  pub record IsReader (past : List Entry) : Type 0 where
    pub unfinished : is_reading r past ≡ true
    pub own : is_looked_by author r past ≡ true

  unconcerned : (entry : Entry) (past : List Entry) → is_legal rules (entry ∷ past) ≡ true → entry.author ≢ author → IsReader past → concerns_reading r entry.point ≡ false
  unfolding concerns_reading is_looked_by
  unconcerned entry past legal other reader =
      let now = step rules entry past legal in
      let below = looked_below rules r past now.legal (reading_parts r past reader.unfinished).0 in
      or_from _ _
      (false_from_ne_true (looks r entry.point) (λ does. let next = looks_next rules past entry.author r entry.point now.allowed does in absurd (omega (arith, next, below))))
      (false_from_ne_true (ends r entry.point) (λ does. other (same_number entry.author author (author_of (looks r) past) (ends_own rules past entry.author r entry.point now.allowed does) reader.own)))

  one_more : (entry : Entry) (came past : List Entry) → reverse (entry ∷ came) ++ past ≡ reverse came ++ (entry ∷ past)
  one_more entry came past = ap (λ xs. xs ++ past) (reverse-append (entry ∷ []) came) ∙ append_assoc (reverse came) (entry ∷ []) past

  still_read : (came past : List Entry) → is_legal rules (reverse came ++ past) ≡ true → All (λ (entry : Entry). entry.author ≢ author) came → IsReader past → IsReader (reverse came ++ past)
  still_read [] past legal others reader = reader
  still_read (entry ∷ came) past legal others reader =
      let whole = one_more entry came past in
      let legal' : is_legal rules (reverse came ++ (entry ∷ past)) ≡ true = subst (λ xs. is_legal rules xs ≡ true) whole legal in
      let none = unconcerned entry past (is_legal-older rules (reverse came) (entry ∷ past) legal') (others 0 entry (omega arith)) reader in
      let reader' : IsReader (entry ∷ past) = record { unfinished = reading_same r entry past none ∙ reader.unfinished; own = reader_same author r entry past none ∙ reader.own } in
      subst (λ xs. IsReader xs) (sym whole) (still_read came (entry ∷ past) legal' (λ k d below. others (suc k) d (omega (arith, below))) reader')

-- others leave the caller's reading as it was
pub reading_stays : (others : List Entry → Type 0) (standings champions author r : ℕ) (seen turn : StateView) → IsTurn others standings champions author seen turn
    → is_reading r (past_of seen) ≡ true → is_looked_by author r (past_of seen) ≡ true
    → (is_reading r (past_of turn) ≡ true) × (is_looked_by author r (past_of turn) ≡ true)
reading_stays others standings champions author r seen turn is unfinished own =
    let rules = rules_of standings champions turn in
    let whole = past_at_turn others standings champions author seen turn is in
    let legal : is_legal rules (reverse is.came ++ past_of seen) ≡ true = subst (λ past. is_legal rules past ≡ true) whole is.legal in
    let reader : IsReader rules author r (reverse is.came ++ past_of seen) = still_read rules author r is.came (past_of seen) legal is.not_own (record { unfinished = unfinished; own = own }) in
    (subst (λ past. is_reading r past ≡ true) (sym whole) reader.unfinished, subst (λ past. is_looked_by author r past ≡ true) (sym whole) reader.own)
