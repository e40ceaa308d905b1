-- What one entry more does to what is kept of the names.
use Rattle.std.proofs.Common.{◌≡◌, ℕ, Bool, true, false, ◌||◌, cond, List, [], ◌∷◌, slice_get, Option, Some, None, refl, sym, ap, ◌∙◌, inl, inr}
use Rattle.std.specs.Option.{option_map_or}
use Rattle.std.specs.List.{list_any, find}
use Rattle.std.specs.Str.{bytes_eq}
use Rattle.std.specs.Ordering.{eq_by_cmp}
use Rattle.std.specs.Cmp.Lexicographic.{bytes_decides}
use Rattle.std.specs.BTreeMap as tree
use Rattle.std.proofs.lemmas.Bool.{both_ways, or_right, or_parts, false_from_ne_true, cases_Bool}
use Rattle.std.proofs.lemmas.Map.Views.{tells_apart}
use Rattle.journal_entry.specs.declared.entry.Entry.{Entry}
use Rattle.journal_entry.specs.declared.entry.Point.{Point}
use Rattle.journal_entry.specs.declared.entry.Point.TheVariants.{Begin}
use Rattle.history.specs.declared.rules.Rules.{Rules}
use Rattle.history.specs.Sessions.{session_under, sessions_under, is_unfinished, is_retained, is_held, retained}
use Rattle.history.specs.Legal.{is_legal}
use Rattle.ss_base.proofs.MemberLaws.{In, none_in, none_from}
use Rattle.history_laws.proofs.Allowed.{step}
use Rattle.history_laws.proofs.NameLaws.{holds, holds_before, in_under, under_free, sessions_none, sessions_one, sessions_same, cases_Option, free_none, begun_once}
use Rattle.history_laws.proofs.StandingLaws.{made}
use Rattle.legal_history.specs.Names.{name_cmp, session_at, OneNamed, SameNames, AreNames}
use Rattle.legal_history.specs.Parts.{NamesNoted}
use Rattle.legal_history.proofs.NameOrder.{exact_names}

-- ---- the tree

pub one_named : (m n : tree.BTreeMap (List ℕ) ℕ) (name : List ℕ) (s : ℕ) → tree.UpdatesBy name_cmp (name_cmp name) m n (Some s) → OneNamed m n name s
one_named m n name s updates = record {
  here = updates.1;
  other = λ q apart. updates.2 q (false_from_ne_true (eq_by_cmp name_cmp name q) (λ tied.
      both_ways (bytes_eq q name) apart ((bytes_decides q name).1 (sym (tells_apart exact_names name q tied)))));
}

-- ---- one entry more

under_same : (q : List ℕ) (entry : Entry) (past : List Entry) → session_under q entry.point ≡ None → slice_get (sessions_under q (entry ∷ past)) 0 ≡ slice_get (sessions_under q past) 0
under_same q entry past none = ap (λ l. slice_get l 0) (sessions_same q entry past none)

pub begun_named : (m n : tree.BTreeMap (List ℕ) ℕ) (author : ℕ) (name : List ℕ) (s : ℕ) (past : List Entry) → OneNamed m n name s → AreNames m past → AreNames n (made author (Begin name (Some s)) ∷ past)
unfolding session_under
begun_named m n author name s past one are = record {
  each = λ q.
      let e : Entry = made author (Begin name (Some s)) in
      elim (cases_Bool (bytes_eq q name)) [
        | inl same ↦
            let is : q ≡ name = (bytes_decides q name).0 same in
            ap (session_at n) is ∙ one.here ∙ ap (λ l. slice_get l 0) (sym (sessions_one q s e past (ap (λ b. cond b (Some s) None) same)))
        | inr apart ↦ one.other q apart ∙ are.each q ∙ sym (under_same q e past (ap (λ b. cond b (Some s) None) apart))
      ];
}

pub other_named : (m n : tree.BTreeMap (List ℕ) ℕ) (entry : Entry) (past : List Entry) → ((q : List ℕ) → session_under q entry.point ≡ None) → SameNames m n → AreNames m past → AreNames n (entry ∷ past)
other_named m n entry past none same are = record {
  each = λ q. same.each q ∙ are.each q ∙ sym (under_same q entry past (none q));
}

pub names_first : (m : tree.BTreeMap (List ℕ) ℕ) → ((q : List ℕ) → session_at m q ≡ None) → AreNames m []
names_first m empty = record { each = λ q. empty q ∙ ap (λ l. slice_get l 0) (sym (sessions_none q)) }

-- ---- only the newest session under a name may hold it

-- all but the first
abbrev rest_of : List ℕ → List ℕ
rest_of [] = []
rest_of (s ∷ l) = l

in_rest : (s : ℕ) (l : List ℕ) → In s (rest_of l) → In s l
in_rest s [] h = absurd h
in_rest s (t ∷ l) h = inr h

older_free : (rules : Rules) (name : List ℕ) (past : List Entry) → is_legal rules past ≡ true → list_any (holds past) (rest_of (sessions_under name past)) ≡ false
older_free rules name [] legal = ap (λ l. list_any (holds []) (rest_of l)) (sessions_none name)
older_free rules name (entry ∷ past) legal =
    let now = step rules entry past legal in
    let earlier : (s : ℕ) → In s (sessions_under name past) → holds (entry ∷ past) s ≡ true → holds past s ≡ true =
    λ s h held. holds_before rules s entry past now (begun_once rules s entry past now (in_under name s past h)) held in
    elim (cases_Option (session_under name entry.point)) [
      | inl other ↦
          let before = older_free rules name past now.legal in
          ap (λ l. list_any (holds (entry ∷ past)) (rest_of l)) (sessions_same name entry past other)
          ∙ none_from (holds (entry ∷ past)) (rest_of (sessions_under name past)) (λ t h. false_from_ne_true _ (λ held.
          both_ways _ (none_in (holds past) t (rest_of (sessions_under name past)) h before) (earlier t (in_rest t (sessions_under name past) h) held)))
      | inr (s, here) ↦
          let free = free_none name past (under_free rules past entry.author name s entry.point now.allowed here) in
          ap (λ l. list_any (holds (entry ∷ past)) (rest_of l)) (sessions_one name s entry past here)
          ∙ none_from (holds (entry ∷ past)) (sessions_under name past) (λ t h. false_from_ne_true _ (λ held.
          both_ways _ (none_in (holds past) t (sessions_under name past) h free) (earlier t h held)))
    ]

any_first : (p : ℕ → Bool) (l : List ℕ) → list_any p (rest_of l) ≡ false → list_any p l ≡ option_map_or p (slice_get l 0) false
any_first p [] none = refl
any_first p (s ∷ l) none = ap (λ b. p s || b) none ∙ or_false (p s)
  where
    or_false : (b : Bool) → (b || false) ≡ b
    or_false true = refl
    or_false false = refl

-- what is found in a list of which only the first may pass
abbrev pub kept_if : (ℕ → Bool) → Option ℕ → Option ℕ
kept_if p None = None
kept_if p (Some s) = cond (p s) (Some s) None

find_none : (p : ℕ → Bool) (l : List ℕ) → list_any p l ≡ false → find p l ≡ None
find_none p [] none = refl
find_none p (s ∷ l) none =
    let parts = or_parts (p s) (list_any p l) none in
    ap (λ b. cond b (Some s) (find p l)) parts.0 ∙ find_none p l parts.1

find_first : (p : ℕ → Bool) (l : List ℕ) → list_any p (rest_of l) ≡ false → find p l ≡ kept_if p (slice_get l 0)
find_first p [] none = refl
find_first p (s ∷ l) none = ap (λ o. cond (p s) (Some s) o) (find_none p l none)

weaker_none : (p q : ℕ → Bool) (l : List ℕ) → ((s : ℕ) → p s ≡ true → q s ≡ true) → list_any q l ≡ false → list_any p l ≡ false
weaker_none p q l implies none = none_from p l (λ s h. false_from_ne_true _ (λ is. both_ways _ (none_in q s l h none) (implies s is)))

-- whether a name is held, and the session retained under it, by the newest session under it
pub held_first : (rules : Rules) (name : List ℕ) (past : List Entry) → is_legal rules past ≡ true → is_held name past ≡ option_map_or (holds past) (slice_get (sessions_under name past) 0) false
unfolding is_held
held_first rules name past legal = any_first (holds past) (sessions_under name past) (older_free rules name past legal)

pub retained_first : (rules : Rules) (name : List ℕ) (past : List Entry) → is_legal rules past ≡ true → retained name past ≡ kept_if (λ s. is_retained s past) (slice_get (sessions_under name past) 0)
unfolding retained
retained_first rules name past legal =
    find_first (λ s. is_retained s past) (sessions_under name past)
    (weaker_none (λ s. is_retained s past) (holds past) (rest_of (sessions_under name past)) (λ s kept. or_right (is_unfinished s past) (is_retained s past) kept) (older_free rules name past legal))

-- ---- every entry

nothing : Option ℕ
nothing = None

none_either : (b : Bool) → cond b nothing nothing ≡ nothing
none_either true = refl
none_either false = refl

noted_at : (author : ℕ) (point : Point) (past : List Entry) (m n : tree.BTreeMap (List ℕ) ℕ) → NamesNoted point m n → AreNames m past → AreNames n (made author point ∷ past)
unfolding session_under nothing
noted_at author (Begin name (Some s)) past m n one are = begun_named m n author name s past one are
noted_at author (Begin name None) past m n same are = other_named m n (made author (Begin name None)) past (λ q. none_either (bytes_eq q name)) same are
noted_at author point past m n same are = other_named m n (made author point) past (λ q. refl) same are

-- what is kept of the names is so again after one entry more
pub names_noted : (entry : Entry) (past : List Entry) (m n : tree.BTreeMap (List ℕ) ℕ) → NamesNoted entry.point m n → AreNames m past → AreNames n (entry ∷ past)
names_noted entry past m n noted are = noted_at entry.author entry.point past m n noted are
