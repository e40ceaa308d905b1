-- What stands at a hook was chosen with it: by the choice of its session that has the place of its seq.
use Rattle.std.proofs.Common.{◌≡◌, ◌⊎◌, ℕ, suc, ◌+◌, Bool, true, false, ◌||◌, cond, List, [], ◌∷◌, ◌++◌, length, reverse, slice_get, Option, Some, None, is_some, refl, sym, ap, ◌∙◌, subst, inl, inr, arith, eqb-true, length-append}
use mathlib.Core.List.{map}
use Rattle.std.specs.Option.{option_map, unwrap_or}
use Rattle.std.proofs.lemmas.Bool.{false≢true, cases_Bool, and_parts, not-true, or_left, or_right, eq-eqb}
use Rattle.std.proofs.lemmas.List.{map-append}
use Rattle.std.proofs.lemmas.Option.{slice_get-map}
use Rattle.ss_base.specs.declared.ids.ContainerId.{ContainerId}
use Rattle.ss_base.specs.declared.ids.ManifestId.{ManifestId}
use Rattle.ss_base.specs.declared.ids.Standing.{Standing}
use Rattle.ss_base.specs.declared.name.Name.{Name}
use Rattle.ss_base.specs.Ids.{has_name}
use Rattle.ss_base.specs.Standings.{in_front, promoted}
use Rattle.journal_entry.specs.declared.entry.Entry.{Entry}
use Rattle.journal_entry.specs.declared.entry.Point.{Point}
use Rattle.journal_entry.specs.declared.entry.Point.TheVariants.{Choose, Commit, Abort, Delete}
use Rattle.history.specs.declared.rules.Rules.{Rules}
use Rattle.history.specs.Sessions.{has, newest, chooses, commits, aborts, settles, commits_of, pending, is_pending, hooks_chosen, champions_chosen, last_hooks}
use Rattle.history.specs.StandingList.{standing_after, standing}
use Rattle.history.specs.Legal.{is_allowed, is_legal}
use Rattle.history_laws.specs.EntryNumbers.{numbers_of, entry_at}
use Rattle.history_index.specs.Choices.{hooks_at, hooks_of}
use Rattle.ss_base.proofs.MemberLaws.{In, count_one, count_other}
use Rattle.ss_base.proofs.GetLaws.{get_kept, get_last}
use Rattle.history_laws.proofs.Allowed.{IsStep, step, commit_says}
use Rattle.history_laws.proofs.SessionLaws.{has_parts, unfinished_unaborted}
use Rattle.history_laws.proofs.StandingLaws.{made, newest as newest_standing, front_in, promoted_in, without_in, chosen_by}
use Rattle.history_laws.proofs.NumberLaws.{DoesAt, entry_kept, entry_last, numbers_more, numbers_same, numbers_first, numbers_do}

-- ---- the hooks of a session's choices, in their order

abbrev pub lists_of : ℕ → List Entry → List (List Name)
lists_of s past = map (hooks_at (reverse past)) (numbers_of (chooses s) past)

abbrev pub list_in : List (List Name) → ℕ → List Name
list_in lists k = unwrap_or (slice_get lists k) []

pub hooks_listed : (entries : List Entry) (choices : List ℕ) (k : ℕ) → hooks_of entries choices k ≡ list_in (map (hooks_at entries) choices) k
unfolding hooks_of
hooks_listed entries choices k = ap (λ o. unwrap_or o []) (sym (slice_get-map (hooks_at entries) choices k))

map_same : {X Y : Type 0} (f g : X → Y) (xs : List X) → ((x : X) → In x xs → f x ≡ g x) → map f xs ≡ map g xs
map_same f g [] same = refl
map_same f g (x ∷ xs) same = ap (λ y. y ∷ map f xs) (same x (inl refl)) ∙ ap (λ ys. g x ∷ ys) (map_same f g xs (λ y h. same y (inr h)))

abbrev hooks_there : Option Entry → List Name
hooks_there o = unwrap_or (option_map (λ (entry : Entry). hooks_chosen entry.point) o) []

hooks_kept : (does : Point → Bool) (n : ℕ) (entry : Entry) (past : List Entry) → DoesAt does n past → hooks_at (reverse (entry ∷ past)) n ≡ hooks_at (reverse past) n
unfolding hooks_at entry_at
hooks_kept does n entry past at = ap hooks_there (entry_kept n entry at.entry past at.there ∙ sym at.there)

hooks_new : (entry : Entry) (past : List Entry) → hooks_at (reverse (entry ∷ past)) (length past) ≡ hooks_chosen entry.point
unfolding hooks_at entry_at
hooks_new entry past = ap hooks_there (entry_last entry past)

all_kept : (s : ℕ) (entry : Entry) (past : List Entry) → map (hooks_at (reverse (entry ∷ past))) (numbers_of (chooses s) past) ≡ lists_of s past
all_kept s entry past = map_same (hooks_at (reverse (entry ∷ past))) (hooks_at (reverse past)) (numbers_of (chooses s) past) (λ n h. hooks_kept (chooses s) n entry past (numbers_do (chooses s) past n h))

lists_more : (s : ℕ) (entry : Entry) (past : List Entry) → chooses s entry.point ≡ true → lists_of s (entry ∷ past) ≡ lists_of s past ++ hooks_chosen entry.point ∷ []
lists_more s entry past here =
    let f = hooks_at (reverse (entry ∷ past)) in
    ap (map f) (numbers_more (chooses s) entry past here)
    ∙ map-append f (numbers_of (chooses s) past) (length past ∷ [])
    ∙ ap (λ l. l ++ f (length past) ∷ []) (all_kept s entry past)
    ∙ ap (λ h. lists_of s past ++ h ∷ []) (hooks_new entry past)

lists_same : (s : ℕ) (entry : Entry) (past : List Entry) → chooses s entry.point ≡ false → lists_of s (entry ∷ past) ≡ lists_of s past
lists_same s entry past other = ap (map (hooks_at (reverse (entry ∷ past)))) (numbers_same (chooses s) entry past other) ∙ all_kept s entry past

lists_first : (s : ℕ) → lists_of s [] ≡ []
lists_first s = ap (map (hooks_at [])) (numbers_first (chooses s))

-- ---- the last choice

pub last_now : (s : ℕ) (entry : Entry) (past : List Entry) → chooses s entry.point ≡ true → last_hooks s (entry ∷ past) ≡ hooks_chosen entry.point
unfolding last_hooks newest
last_now s entry past here = rw here refl

pub last_older : (s : ℕ) (entry : Entry) (past : List Entry) → chooses s entry.point ≡ false → last_hooks s (entry ∷ past) ≡ last_hooks s past
unfolding last_hooks newest
last_older s entry past other = rw other refl

pub last_first : (s : ℕ) → last_hooks s [] ≡ []
unfolding last_hooks newest
last_first s = refl

-- the last of the choices has the hooks of the last choice
pub last_listed : (s : ℕ) (past : List Entry) (q : ℕ) → length (lists_of s past) ≡ suc q → slice_get (lists_of s past) q ≡ Some (last_hooks s past)
last_listed s [] q size = absurd (let none = ap length (lists_first s) in omega (arith, none, size))
last_listed s (entry ∷ past) q size = elim (cases_Bool (chooses s entry.point)) [
  | inl here ↦
      let more = lists_more s entry past here in
      let longer = ap length more in
      let sum = length-append (lists_of s past) (hooks_chosen entry.point ∷ []) in
      let place : q ≡ length (lists_of s past) = omega (arith, longer, sum, size) in
      ap (λ l. slice_get l q) more
      ∙ ap (λ k. slice_get (lists_of s past ++ hooks_chosen entry.point ∷ []) k) place
      ∙ get_last (lists_of s past) (hooks_chosen entry.point)
      ∙ ap Some (sym (last_now s entry past here))
  | inr other ↦
      let same = lists_same s entry past other in
      ap (λ l. slice_get l q) same
      ∙ last_listed s past q (sym (ap length same) ∙ size)
      ∙ ap Some (sym (last_older s entry past other))
]

-- ---- choices and commits take turns

pending_now : (s : ℕ) (entry : Entry) (past : List Entry) → settles s entry.point ≡ true → is_pending s (entry ∷ past) ≡ is_some (champions_chosen entry.point)
unfolding is_pending pending newest
pending_now s entry past here = rw here refl

pending_older : (s : ℕ) (entry : Entry) (past : List Entry) → settles s entry.point ≡ false → is_pending s (entry ∷ past) ≡ is_pending s past
unfolding is_pending pending newest
pending_older s entry past other = rw other refl

pending_first : (s : ℕ) → is_pending s [] ≡ false
unfolding is_pending pending newest
pending_first s = refl

commits_now : (s : ℕ) (entry : Entry) (past : List Entry) → commits s entry.point ≡ true → commits_of s (entry ∷ past) ≡ 1 + commits_of s past
unfolding commits_of
commits_now s entry past here = count_one (λ (e : Entry). commits s e.point) entry past here

commits_older : (s : ℕ) (entry : Entry) (past : List Entry) → commits s entry.point ≡ false → commits_of s (entry ∷ past) ≡ commits_of s past
unfolding commits_of
commits_older s entry past other = count_other (λ (e : Entry). commits s e.point) entry past other

commits_first : (s : ℕ) → commits_of s [] ≡ 0
unfolding commits_of
commits_first s = refl

settles_is : (s : ℕ) (point : Point) → settles s point ≡ (chooses s point || (commits s point || aborts s point))
unfolding settles
settles_is s point = refl

-- a Choose comes where none is pending
record IsChoice (s : ℕ) (point : Point) (past : List Entry) : Type 0 where
  fresh : is_pending s past ≡ false
  no_commit : commits s point ≡ false
  some : is_some (champions_chosen point) ≡ true

choice_says : (rules : Rules) (past : List Entry) (author s : ℕ) (point : Point) → is_allowed rules past author point ≡ true → chooses s point ≡ true → IsChoice s point past
unfolding is_allowed chooses commits champions_chosen
choice_says rules past author s (Choose t hooks champions) allowed does =
    let same : s ≡ t = eqb-true s t does in
    let fresh = not-true _ (and_parts _ _ (and_parts _ _ allowed).1).0 in
    record { fresh = subst (λ n. is_pending n past ≡ false) (sym same) fresh; no_commit = refl; some = refl }
choice_says rules past author s _ allowed does = absurd (false≢true does)

-- a Commit comes where one is pending
record IsTurn (s : ℕ) (point : Point) (past : List Entry) : Type 0 where
  chosen : is_pending s past ≡ true
  none : is_some (champions_chosen point) ≡ false

turn_says : (rules : Rules) (past : List Entry) (author s : ℕ) (point : Point) → is_allowed rules past author point ≡ true → commits s point ≡ true → IsTurn s point past
unfolding is_allowed commits champions_chosen
turn_says rules past author s (Commit id content text chunks bytes fresh fresh_bytes uses) allowed does =
    let same : s ≡ id.session = eqb-true s id.session does in
    let turn = (and_parts _ _ (and_parts _ _ allowed).1).0 in
    record { chosen = subst (λ n. is_pending n past ≡ true) (sym same) turn; none = refl }
turn_says rules past author s _ allowed does = absurd (false≢true does)

-- one if a choice is pending
abbrev pub turns : Bool → ℕ
turns chosen = cond chosen 1 0

pub counted : (rules : Rules) (s : ℕ) (past : List Entry) → is_legal rules past ≡ true → has (aborts s) past ≡ false → length (lists_of s past) ≡ commits_of s past + turns (is_pending s past)
counted rules s [] legal unaborted =
    let none = ap length (lists_first s) in
    let first = commits_first s in
    let idle = ap turns (pending_first s) in
    omega (arith, none, first, idle)
counted rules s (entry ∷ past) legal unaborted =
    let now = step rules entry past legal in
    let parts = has_parts (aborts s) entry past unaborted in
    let before : length (lists_of s past) ≡ commits_of s past + turns (is_pending s past) = counted rules s past now.legal parts.1 in
    elim (cases_Bool (chooses s entry.point)) [
      | inl choice ↦
          let said = choice_says rules past entry.author s entry.point now.allowed choice in
          let longer = ap length (lists_more s entry past choice) in
          let sum = length-append (lists_of s past) (hooks_chosen entry.point ∷ []) in
          let same = commits_older s entry past said.no_commit in
          let was = ap turns said.fresh in
          let is = ap turns (pending_now s entry past (settles_is s entry.point ∙ or_left (chooses s entry.point) (commits s entry.point || aborts s entry.point) choice) ∙ said.some) in
          omega (arith, before, longer, sum, same, was, is)
      | inr none ↦
          let kept = ap length (lists_same s entry past none) in
          elim (cases_Bool (commits s entry.point)) [
            | inl commit ↦
                let said = turn_says rules past entry.author s entry.point now.allowed commit in
                let more = commits_now s entry past commit in
                let was = ap turns said.chosen in
                let is = ap turns (pending_now s entry past (settles_is s entry.point ∙ or_right (chooses s entry.point) (commits s entry.point || aborts s entry.point) (or_left (commits s entry.point) (aborts s entry.point) commit)) ∙ said.none) in
                omega (arith, before, kept, more, was, is)
            | inr other ↦
                let same = commits_older s entry past other in
                let is = ap turns (pending_older s entry past (settles_is s entry.point ∙ neither (chooses s entry.point) (commits s entry.point) (aborts s entry.point) none other parts.0)) in
                omega (arith, before, kept, same, is)
          ]
    ]
  where
    neither : (a b c : Bool) → a ≡ false → b ≡ false → c ≡ false → (a || (b || c)) ≡ false
    neither a b c first second third = rw (first, second, third) refl

-- at a Commit the last choice has the place of its seq
pub turn_listed : (rules : Rules) (past : List Entry) (author : ℕ) (id : ManifestId) (content text : Name) (chunks bytes fresh fresh_bytes : ℕ) (uses : List ContainerId) → is_legal rules past ≡ true → is_allowed rules past author (Commit id content text chunks bytes fresh fresh_bytes uses) ≡ true
    → (length (lists_of id.session past) ≡ suc id.seq) × (slice_get (lists_of id.session past) id.seq ≡ Some (last_hooks id.session past))
unfolding commits
turn_listed rules past author id content text chunks bytes fresh fresh_bytes uses legal allowed =
    let said = commit_says rules past author id content text chunks bytes fresh fresh_bytes uses allowed in
    let turn = turn_says rules past author id.session (Commit id content text chunks bytes fresh fresh_bytes uses) allowed (eq-eqb id.session id.session refl) in
    let count = counted rules id.session past legal (unfinished_unaborted id.session past said.unfinished) in
    let one = ap turns turn.chosen in
    let next = said.next in
    let size : length (lists_of id.session past) ≡ suc id.seq = omega (arith, count, one, next) in
    (size, last_listed id.session past id.seq size)

-- ---- what stands

-- the choice in the place of the manifest's seq has the hook
abbrev pub WasChosen : Name → Standing → List Entry → Type 0
WasChosen hook x past = has_name hook (list_in (lists_of x.id.session past) x.id.seq) ≡ true

has_nothing : (hook : Name) → has_name hook [] ≡ false
unfolding has_name
has_nothing hook = refl

more_lists : (hook : Name) (xs ys : List (List Name)) (k : ℕ) → has_name hook (list_in xs k) ≡ true → has_name hook (list_in (xs ++ ys) k) ≡ true
more_lists hook xs ys k has =
    elim (slice_get xs k) as (λ (o : Option (List Name)). slice_get xs k ≡ o → has_name hook (list_in (xs ++ ys) k) ≡ true) [
      | None ↦ λ none. absurd (false≢true (sym (has_nothing hook) ∙ (rw none at has)))
      | Some names ↦ λ some. ap (λ o. has_name hook (unwrap_or o [])) (get_kept xs ys names k some ∙ sym some) ∙ has
    ] refl

still_chosen : (hook : Name) (x : Standing) (entry : Entry) (past : List Entry) → WasChosen hook x past → WasChosen hook x (entry ∷ past)
still_chosen hook x entry past chosen = elim (cases_Bool (chooses x.id.session entry.point)) [
  | inl choice ↦ ap (λ l. has_name hook (list_in l x.id.seq)) (lists_more x.id.session entry past choice) ∙ more_lists hook (lists_of x.id.session past) (hooks_chosen entry.point ∷ []) x.id.seq chosen
  | inr other ↦ ap (λ l. has_name hook (list_in l x.id.seq)) (lists_same x.id.session entry past other) ∙ chosen
]

-- an item of the first list where the test holds, or of the second
by_test : (b : Bool) (x : Standing) (xs ys : List Standing) → In x (cond b xs ys) → ((b ≡ true) × In x xs) ⊎ In x ys
by_test true x xs ys h = inl (refl, h)
by_test false x xs ys h = inr h

chosen_after : (rules : Rules) (bound : ℕ) (hook : Name) (author : ℕ) (point : Point) (past : List Entry) (stood : List Standing) → IsStep rules (made author point) past → ((x : Standing) → In x stood → WasChosen hook x past)
    → (x : Standing) → In x (standing_after bound hook point past stood) → WasChosen hook x past
unfolding standing_after
chosen_after rules bound hook author (Commit id content text chunks bytes fresh fresh_bytes uses) past stood now each x h =
    elim (by_test (has_name hook (last_hooks id.session past)) x (in_front bound (newest_standing id past) stood) stood h) [
      | inl fronted ↦ elim (front_in x (newest_standing id past) bound stood fronted.1) [
        | inl same ↦
            let listed = turn_listed rules past author id content text chunks bytes fresh fresh_bytes uses now.legal now.allowed in
            subst (λ (s : Standing). WasChosen hook s past) same (ap (λ o. has_name hook (unwrap_or o [])) listed.1 ∙ fronted.0)
        | inr there ↦ each x there
      ]
      | inr there ↦ each x there
    ]
chosen_after rules bound hook author (Choose s hooks chosen) past stood now each x h = elim (chosen_by (has_name hook hooks) x (promoted chosen stood) stood h) [
  | inl moved ↦ each x (promoted_in x chosen stood moved)
  | inr same ↦ each x same
]
chosen_after rules bound hook author (Abort s containers texts) past stood now each x h = each x (without_in x s stood h).0
chosen_after rules bound hook author (Delete name (Some s)) past stood now each x h = each x (without_in x s stood h).0
chosen_after rules bound hook author (Delete name None) past stood now each x h = each x h
chosen_after rules bound hook author point past stood now each x h = each x h

pub standing_listed : (rules : Rules) (bound : ℕ) (hook : Name) (past : List Entry) → is_legal rules past ≡ true → (x : Standing) → In x (standing bound hook past) → WasChosen hook x past
unfolding standing
standing_listed rules bound hook [] legal x h = absurd h
standing_listed rules bound hook (entry ∷ past) legal x h =
    let now = step rules entry past legal in
    still_chosen hook x entry past (chosen_after rules bound hook entry.author entry.point past (standing bound hook past) now (standing_listed rules bound hook past now.legal) x h)
