-- An index that follows a legal history.
use Rattle.std.proofs.Common.{◌≡◌, ℕ, suc, ◌+◌, ◌-◌, ◌<◌, ◌≤◌, ◌^◌, Bool, true, false, not, eqb, List, [], ◌∷◌, length, reverse, Option, Some, None, unwrap_or, IsTrue, All, refl, sym, ap, ◌∙◌, subst, inl, inr, arith, eqb-true}
use Rattle.std.specs.FinMap as finite
use Rattle.std.specs.List.{IsDistinct, list_all}
use Rattle.std.proofs.lemmas.Bool.{cases_Bool, and_parts, and_from, not-true, not_from_false, false_from_ne_true, both_ways, or_left, or_right, leb-true}
use Rattle.std.proofs.lemmas.List.{reverse-reverse, length-reverse, length-map}
use Rattle.std.proofs.lemmas.List.Sums.{count_by-le-length}
use Rattle.ss_base.specs.declared.ids.ContainerId.{ContainerId}
use Rattle.ss_base.specs.declared.ids.ManifestId.{ManifestId}
use Rattle.ss_base.specs.declared.ids.Standing.{Standing}
use Rattle.ss_base.specs.declared.name.Name.{Name}
use Rattle.ss_base.specs.Ids.{same_name, same_manifest, has_name, are_distinct}
use Rattle.ss_base.specs.Champions.{stands_in}
use Rattle.sparse_index.specs.Lists.{name_cmp, Lists, list_at, is_ready}
use Rattle.journal_entry.specs.declared.entry.Entry.{Entry}
use Rattle.journal_entry.specs.declared.entry.Point.{Point}
use Rattle.journal_entry.specs.declared.entry.Point.TheVariants.{Choose, Commit, Abort, Delete}
use Rattle.history.specs.declared.rules.Rules.{Rules}
use Rattle.history.specs.Sessions.{has, chooses, commits_of, hooks_chosen, last_hooks}
use Rattle.history.specs.StandingList.{standing_after, standing}
use Rattle.history.specs.Need.{commits_manifest}
use Rattle.history.specs.Legal.{are_hooks, is_allowed, unfinished_sessions, unfinished_readings, is_within, may_follow, is_legal}
use Rattle.history_laws.specs.EntryNumbers.{numbers_of}
use Rattle.history_index.specs.Choices.{choices_for, hooks_at, hooks_of, was_chosen}
use Rattle.history_index.specs.IndexOf.{names_hook, IsIndexOf}
use Rattle.history_index.specs.MayChange.{MayPut, MayRetire, MayChange}
use Rattle.ss_base.proofs.MemberLaws.{In, in_any, none_in, none_from, any_in, All-from_in}
use Rattle.ss_base.proofs.IdLaws.{same_name-self, same_name-true, same_manifest-true}
use Rattle.ss_base.proofs.ApartLaws.{Apart, IsDistinct-from_apart}
use Rattle.history_laws.proofs.Allowed.{IsStep, step, choose_says, commit_says}
use Rattle.history_laws.proofs.SessionLaws.{has_cases, has_none, has_now, has_older, committed_below}
use Rattle.history_laws.proofs.StandingLaws.{made, stands_committed, what_stands}
use Rattle.history_laws.proofs.OnceLaws.{chosen_apart}
use Rattle.history_laws.proofs.NumberLaws.{numbers_length}
use Rattle.history_index.proofs.ChoiceLaws.{lists_of, list_in, hooks_listed, last_now, last_older, last_first, turn_listed, standing_listed}

-- ---- hooks

apart_names : (names : List Name) → are_distinct names ≡ true → Apart same_name names
unfolding are_distinct has_name
apart_names [] distinct = tt
apart_names (name ∷ names) distinct =
    let parts = and_parts _ _ distinct in
    ((λ other h. none_in (same_name name) other names h (not-true _ parts.0)), apart_names names parts.1)

distinct_names : (names : List Name) → are_distinct names ≡ true → IsDistinct same_name names
distinct_names names distinct = IsDistinct-from_apart same_name names (apart_names names distinct)

valid_hooks : (bits : ℕ) (hooks : List Name) → are_hooks bits hooks ≡ true → are_distinct hooks ≡ true
unfolding are_hooks
valid_hooks bits hooks valid = (and_parts _ _ valid).0

hooks_distinct : (rules : Rules) (past : List Entry) (author : ℕ) (point : Point) → is_allowed rules past author point ≡ true → are_distinct (hooks_chosen point) ≡ true
unfolding hooks_chosen are_distinct
hooks_distinct rules past author (Choose s hooks chosen) allowed = valid_hooks rules.bits hooks (choose_says rules past author s hooks chosen allowed).valid
hooks_distinct rules past author _ allowed = refl

no_names : are_distinct [] ≡ true
unfolding are_distinct
no_names = refl

last_distinct : (rules : Rules) (s : ℕ) (past : List Entry) → is_legal rules past ≡ true → are_distinct (last_hooks s past) ≡ true
last_distinct rules s [] legal = ap are_distinct (last_first s) ∙ no_names
last_distinct rules s (entry ∷ past) legal =
    let now = step rules entry past legal in
    elim (cases_Bool (chooses s entry.point)) [
      | inl here ↦ ap are_distinct (last_now s entry past here) ∙ hooks_distinct rules past entry.author entry.point now.allowed
      | inr other ↦ ap are_distinct (last_older s entry past other) ∙ last_distinct rules s past now.legal
    ]

named : (hook : Name) (point : Point) → In hook (hooks_chosen point) → names_hook hook point ≡ true
unfolding names_hook has_name
named hook point h = in_any (same_name hook) hook (hooks_chosen point) h (same_name-self hook)

last_named : (s : ℕ) (hook : Name) (past : List Entry) → In hook (last_hooks s past) → has (names_hook hook) past ≡ true
last_named s hook [] h = absurd (subst (λ l. In hook l) (last_first s) h)
last_named s hook (entry ∷ past) h = elim (cases_Bool (chooses s entry.point)) [
  | inl here ↦ has_now (names_hook hook) entry past (named hook entry.point (subst (λ l. In hook l) (last_now s entry past here) h))
  | inr other ↦ has_older (names_hook hook) entry past (last_named s hook past (subst (λ l. In hook l) (last_older s entry past other) h))
]

-- ---- a Commit

not_yet : (rules : Rules) (bound : ℕ) (id : ManifestId) (hook : Name) (past : List Entry) → is_legal rules past ≡ true → id.seq ≡ commits_of id.session past → stands_in id (standing bound hook past) ≡ false
unfolding stands_in
not_yet rules bound id hook past legal next =
    none_from (λ (x : Standing). same_manifest id x.id) (standing bound hook past) (λ x h. false_from_ne_true _ (λ same.
    let is : id ≡ x.id = same_manifest-true _ _ same in
    let committed = subst (λ (m : ManifestId). has (commits_manifest m) past ≡ true) (sym is) (stands_committed x past (what_stands rules bound hook past legal x h)) in
    let below = committed_below rules id past legal committed in
    absurd (omega (arith, below, next))))

abbrev numbers : ℕ → List Entry → List ℕ
numbers s past = numbers_of (chooses s) past

may_put : (rules : Rules) (bound : ℕ) (lists : Lists) (author : ℕ) (id : ManifestId) (content text : Name) (chunks bytes fresh fresh_bytes : ℕ) (uses : List ContainerId) (before : List Entry) → is_legal rules (reverse before) ≡ true → is_allowed rules (reverse before) author (Commit id content text chunks bytes fresh fresh_bytes uses) ≡ true
    → IsIndexOf bound lists (reverse before) → MayPut lists id before (numbers id.session (reverse before))
may_put rules bound lists author id content text chunks bytes fresh fresh_bytes uses before legal allowed agrees =
    let past = reverse before in
    let said = commit_says rules past author id content text chunks bytes fresh fresh_bytes uses allowed in
    let listed = turn_listed rules past author id content text chunks bytes fresh fresh_bytes uses legal allowed in
    let size : length (lists_of id.session past) ≡ length (numbers id.session past) = length-map (numbers id.session past) (hooks_at (reverse past)) in
    let place : length (numbers id.session past) - 1 ≡ id.seq = (let all = listed.0 in omega (arith, size, all)) in
    record {
      last =
          ap (λ (entries : List Entry). hooks_of entries (numbers id.session past) (length (numbers id.session past) - 1)) (sym (reverse-reverse before))
          ∙ hooks_listed (reverse past) (numbers id.session past) (length (numbers id.session past) - 1)
          ∙ ap (list_in (lists_of id.session past)) place
          ∙ ap (λ o. unwrap_or o []) listed.1;
      distinct = distinct_names (last_hooks id.session past) (last_distinct rules id.session past legal);
      ready = All-from_in (λ hook. IsTrue (is_ready lists hook)) (last_hooks id.session past) (λ hook h. agrees.ready hook (last_named id.session hook past h));
      absent = All-from_in (λ hook. stands_in id (list_at lists hook) ≡ false) (last_hooks id.session past) (λ hook h. ap (stands_in id) (agrees.stood hook) ∙ not_yet rules bound id hook past legal said.next);
    }

-- ---- the end of a session

all_from : {X : Type 0} (p : X → Bool) (xs : List X) → ((x : X) → In x xs → p x ≡ true) → list_all p xs ≡ true
all_from p [] each = refl
all_from p (x ∷ xs) each = and_from (p x) (list_all p xs) (each x (inl refl)) (all_from p xs (λ y h. each y (inr h)))

chosen_of : (rules : Rules) (bound s : ℕ) (hook : Name) (past : List Entry) → is_legal rules past ≡ true → list_all (was_chosen (reverse past) (numbers s past) s hook) (standing bound hook past) ≡ true
unfolding was_chosen
chosen_of rules bound s hook past legal =
    all_from (was_chosen (reverse past) (numbers s past) s hook) (standing bound hook past) (λ x h. elim (cases_Bool (eqb x.id.session s)) [
      | inl own ↦
          let same : x.id.session ≡ s = eqb-true x.id.session s own in
          let chosen = subst (λ n. has_name hook (list_in (lists_of n past) x.id.seq) ≡ true) same (standing_listed rules bound hook past legal x h) in
          or_right (not (eqb x.id.session s)) _ (ap (has_name hook) (hooks_listed (reverse past) (numbers s past) x.id.seq) ∙ chosen)
      | inr other ↦ or_left (not (eqb x.id.session s)) _ (not_from_false _ other)
    ])

few_numbers : (s : ℕ) (before : List Entry) → length before < 2 ^ 32 → length (numbers s (reverse before)) < 2 ^ 32
few_numbers s before few =
    let count = numbers_length (chooses s) (reverse before) in
    let most = count_by-le-length (λ (entry : Entry). chooses s entry.point) (reverse before) in
    let size = length-reverse before in
    omega (arith, count, most, size, few)

may_retire : (rules : Rules) (bound : ℕ) (lists : Lists) (s : ℕ) (before : List Entry) → is_legal rules (reverse before) ≡ true → length before < 2 ^ 32 → IsIndexOf bound lists (reverse before) → MayRetire lists s before (numbers s (reverse before))
may_retire rules bound lists s before legal few agrees = record {
  few = few_numbers s before few;
  chosen = λ hook.
      ap (λ (entries : List Entry). list_all (was_chosen entries (numbers s (reverse before)) s hook) (list_at lists hook)) (sym (reverse-reverse before))
      ∙ ap (list_all (was_chosen (reverse (reverse before)) (numbers s (reverse before)) s hook)) (agrees.stood hook)
      ∙ chosen_of rules bound s hook (reverse before) legal;
}

-- ---- one entry more

change_for : (rules : Rules) (bound : ℕ) (lists : Lists) (author : ℕ) (point : Point) (before : List Entry) → IsStep rules (made author point) (reverse before) → length before < 2 ^ 32 → IsIndexOf bound lists (reverse before) → MayChange lists point before (choices_for point (reverse before))
unfolding choices_for
change_for rules bound lists author (Choose s hooks chosen) before now few agrees =
    let said = choose_says rules (reverse before) author s hooks chosen now.allowed in
    (distinct_names hooks (valid_hooks rules.bits hooks said.valid), IsDistinct-from_apart same_manifest chosen (chosen_apart rules (reverse before) author s hooks chosen now.allowed))
change_for rules bound lists author (Commit id content text chunks bytes fresh fresh_bytes uses) before now few agrees =
    may_put rules bound lists author id content text chunks bytes fresh fresh_bytes uses before now.legal now.allowed agrees
change_for rules bound lists author (Abort s containers texts) before now few agrees = may_retire rules bound lists s before now.legal few agrees
change_for rules bound lists author (Delete name (Some s)) before now few agrees = may_retire rules bound lists s before now.legal few agrees
change_for rules bound lists author (Delete name None) before now few agrees = tt
change_for rules bound lists author point before now few agrees = tt

pub may_change : (rules : Rules) (bound : ℕ) (lists : Lists) (entry : Entry) (before : List Entry) (choices : List ℕ) → is_legal rules (entry ∷ reverse before) ≡ true → length before < 2 ^ 32 → IsIndexOf bound lists (reverse before) → choices ≡ choices_for entry.point (reverse before) → MayChange lists entry.point before choices
may_change rules bound lists entry before choices legal few agrees are =
    subst (λ (l : List ℕ). MayChange lists entry.point before l) (sym are) (change_for rules bound lists entry.author entry.point before (step rules entry (reverse before) legal) few agrees)

within_limit : (rules : Rules) (past : List Entry) → is_within rules.limits past ≡ true → length past ≤ rules.limits.entries
unfolding is_within
within_limit rules past within =
    let fits : length past + unfinished_sessions past + unfinished_readings past ≤ rules.limits.entries = leb-true _ _ (and_parts _ _ within).0 in
    omega (arith, fits)

legal_within : (rules : Rules) (entry : Entry) (past : List Entry) → is_legal rules (entry ∷ past) ≡ true → is_within rules.limits (entry ∷ past) ≡ true
unfolding is_legal may_follow
legal_within rules entry past legal = (and_parts _ _ (and_parts _ _ legal).1).1

pub fewer_entries : (rules : Rules) (entry : Entry) (before : List Entry) → is_legal rules (entry ∷ reverse before) ≡ true → length before < rules.limits.entries
fewer_entries rules entry before legal =
    let fits = within_limit rules (entry ∷ reverse before) (legal_within rules entry (reverse before) legal) in
    let size = length-reverse before in
    omega (arith, fits, size)

in_hooks : (hook : Name) (point : Point) → names_hook hook point ≡ true → In hook (hooks_chosen point)
unfolding names_hook has_name
in_hooks hook point has =
    let found = any_in (same_name hook) (hooks_chosen point) has in
    subst (λ (name : Name). In name (hooks_chosen point)) (sym (same_name-true hook found.0 found.2)) found.1

-- no entries
pub first_index : (bound : ℕ) → IsIndexOf bound finite.empty []
unfolding standing
first_index bound = record {
  stood = λ hook. ap (λ (o : Option (List Standing)). unwrap_or o []) (finite.get-empty name_cmp hook);
  ready = λ hook names. absurd (both_ways _ (has_none (names_hook hook)) names);
}

all_in : {X : Type 0} (P : X → Type 0) (x : X) (xs : List X) → All P xs → In x xs → P x
all_in P x [] all h = absurd h
all_in P x (y ∷ ys) all (inl same) = subst P same (all 0 x (omega arith))
all_in P x (y ∷ ys) all (inr later) = all_in P x ys (λ k d below. all (suc k) d (omega (arith, below))) later

pub follows : (bound : ℕ) (old new : Lists) (entry : Entry) (past : List Entry) → IsIndexOf bound old past → All (λ hook. IsTrue (is_ready old hook)) (hooks_chosen entry.point)
    → ((hook : Name) → list_at new hook ≡ standing_after bound hook entry.point past (list_at old hook)) → ((hook : Name) → is_ready new hook ≡ is_ready old hook) → IsIndexOf bound new (entry ∷ past)
unfolding standing
follows bound old new entry past agrees room lists ready = record {
  stood = λ hook. lists hook ∙ ap (standing_after bound hook entry.point past) (agrees.stood hook);
  ready = λ hook names. ready hook ∙ elim (has_cases (names_hook hook) entry past names) [
    | inl here ↦ all_in (λ (q : Name). IsTrue (is_ready old q)) hook (hooks_chosen entry.point) room (in_hooks hook entry.point here)
    | inr older ↦ agrees.ready hook older
  ];
}
