-- Which entries are allowed, by what calls on a state ask for.
use Rattle.std.proofs.Common.{◌≡◌, ℕ, suc, ◌+◌, ◌≤◌, Bool, true, false, ◌&&◌, eqb, leb, List, [], ◌∷◌, length, reverse, take, Result, Ok, Err, OnOk, IsOk, Option, Some, None, refl, sym, subst, arith}
use Rattle.std.specs.Option.{option_eq}
use Rattle.std.proofs.lemmas.Bool.{false≢true, and_from, and_parts, or_left, or_right, not_from_false, eq-eqb, le-leb, leb-true}
use Rattle.ss_base.specs.declared.ids.ContainerId.{ContainerId}
use Rattle.ss_base.specs.declared.ids.ManifestId.{ManifestId}
use Rattle.ss_base.specs.declared.name.Name.{Name}
use Rattle.journal_entry.specs.declared.entry.Entry.{Entry}
use Rattle.journal_entry.specs.declared.entry.Seen.{Seen}
use Rattle.journal_entry.specs.declared.entry.Totals.{Totals}
use Rattle.journal_entry.specs.Weight.{weight}
use Rattle.journal_entry.specs.declared.entry.Point.{Point}
use Rattle.journal_entry.specs.declared.entry.Point.TheVariants.{Begin, Choose, Commit, Finish, Abort, Delete, Look, Done, Reclaim, Stat}
use Rattle.history.specs.Bounds.{are_counts}
use Rattle.history.specs.declared.rules.Rules.{Rules}
use Rattle.history.specs.Sessions.{commits, finishes, aborts, closes, ends, is_pending, is_reading, is_looked_by, commits_of, retained}
use Rattle.history.specs.OwnEnd.{own_end}
use Rattle.history.specs.TotalsOf.{totals}
use Rattle.history.specs.Legal.{reply_to_begin, reply_to_look, same_seen, same_totals, is_open_to, are_hooks, are_uses, are_texts, is_allowed, is_within, may_follow, is_legal, unfinished_sessions, unfinished_readings}
use Rattle.std.specs.Cmp.Lexicographic.{pointwise}
use Rattle.ss_base.specs.declared.object.Object.{Object}
use Rattle.ss_base.specs.declared.object.Object.TheVariants.{Container, Manifest}
use Rattle.ss_base.specs.Ids.{same_manifest, same_object}
use Rattle.ss_base.proofs.IdLaws.{same_container-self, same_manifest-self}
use Rattle.history.specs.Need.{erasable}
use Rattle.history.specs.StandingList.{champions_for}
use Rattle.ss_base.specs.declared.profile.Profile.{Profile}
use Rattle.legal_history.specs.Recorded.{Recorded, is_end}
use Rattle.store_core.specs.View.{StateView, rules_of, made, IsStateOf}
use Rattle.history_laws.proofs.Allowed.{finishes_open, aborts_open}
use Rattle.history_laws.specs.EntryNumbers.{numbers_of}
use Rattle.history_laws.proofs.CountLaws.{count_rest}
use Rattle.history_laws.proofs.NumberLaws.{numbers_length}
use Rattle.history_laws.proofs.EndLaws.{end_of_session_fits, end_of_reading_fits}

same_number : (o : Option ℕ) → option_eq (λ a b. eqb a b) o o ≡ true
same_number None = refl
same_number (Some n) = eq-eqb n n refl

same_sight : (o : Option Seen) → option_eq same_seen o o ≡ true
same_sight None = refl
same_sight (Some seen) = and_from _ _ (eq-eqb seen.reader seen.reader refl) (eq-eqb seen.session seen.session refl)

same_sums : (t : Totals) → same_totals t t ≡ true
same_sums t =
    and_from _ _ (eq-eqb t.streams t.streams refl)
    (and_from _ _ (eq-eqb t.bytes t.bytes refl)
    (and_from _ _ (eq-eqb t.fresh t.fresh refl)
    (and_from _ _ (eq-eqb t.containers t.containers refl)
    (and_from _ _ (eq-eqb t.reclaimed t.reclaimed refl) (eq-eqb t.entries t.entries refl)))))

same_one : (q : Object) → same_object q q ≡ true
same_one (Container id) = same_container-self id
same_one (Manifest id) = same_manifest-self id

same_objects : (objects : List Object) → pointwise same_object objects objects ≡ true
same_objects [] = refl
same_objects (q ∷ objects) = and_from _ _ (same_one q) (same_objects objects)

same_manifests : (ids : List ManifestId) → pointwise same_manifest ids ids ≡ true
same_manifests [] = refl
same_manifests (id ∷ ids) = and_from _ _ (same_manifest-self id) (same_manifests ids)

pub begin_allowed : (rules : Rules) (past : List Entry) (author : ℕ) (name : List ℕ) (session : Option ℕ) → session ≡ reply_to_begin name past → is_allowed rules past author (Begin name session) ≡ true
unfolding is_allowed
begin_allowed rules past author name session is = subst (λ o. option_eq (λ a b. eqb a b) session o ≡ true) is (same_number session)

pub commit_allowed : (rules : Rules) (past : List Entry) (author session : ℕ) (content text : Name) (chunks bytes fresh fresh_bytes : ℕ) (uses : List ContainerId)
    → is_open_to author session past ≡ true → is_pending session past ≡ true → are_counts chunks bytes fresh fresh_bytes ≡ true → are_uses session past uses ≡ true
    → is_allowed rules past author (Commit (record { session = session; seq = commits_of session past }) content text chunks bytes fresh fresh_bytes uses) ≡ true
unfolding is_allowed
commit_allowed rules past author session content text chunks bytes fresh fresh_bytes uses opened waiting counts listed =
    and_from _ _ opened (and_from _ _ waiting (and_from _ _ (eq-eqb (commits_of session past) (commits_of session past) refl) (and_from _ _ counts listed)))

pub finish_allowed : (rules : Rules) (past : List Entry) (author session containers : ℕ)
    → is_open_to author session past ≡ true → is_pending session past ≡ false → own_end session past ≤ containers
    → is_allowed rules past author (Finish session containers) ≡ true
unfolding is_allowed
finish_allowed rules past author session containers opened idle above =
    and_from _ _ opened (and_from _ _ (not_from_false _ idle) (le-leb _ _ above))

pub abort_allowed : (rules : Rules) (past : List Entry) (author session containers texts : ℕ)
    → is_open_to author session past ≡ true → own_end session past ≤ containers → are_texts session texts past ≡ true
    → is_allowed rules past author (Abort session containers texts) ≡ true
unfolding is_allowed
abort_allowed rules past author session containers texts opened above wrote =
    and_from _ _ opened (and_from _ _ (le-leb _ _ above) wrote)

pub delete_allowed : (rules : Rules) (past : List Entry) (author : ℕ) (name : List ℕ) (session : Option ℕ) → session ≡ retained name past → is_allowed rules past author (Delete name session) ≡ true
unfolding is_allowed
delete_allowed rules past author name session is = subst (λ o. option_eq (λ a b. eqb a b) session o ≡ true) is (same_number session)

pub look_allowed : (rules : Rules) (past : List Entry) (author : ℕ) (name : List ℕ) (seen : Option Seen) → seen ≡ reply_to_look name past → is_allowed rules past author (Look name seen) ≡ true
unfolding is_allowed
look_allowed rules past author name seen is = subst (λ o. option_eq same_seen seen o ≡ true) is (same_sight seen)

pub done_allowed : (rules : Rules) (past : List Entry) (author reader : ℕ) → is_reading reader past ≡ true → is_looked_by author reader past ≡ true → is_allowed rules past author (Done reader) ≡ true
unfolding is_allowed
done_allowed rules past author reader reads by = and_from _ _ reads by

pub stat_allowed : (rules : Rules) (past : List Entry) (author : ℕ) (given : Totals) → given ≡ totals past → is_allowed rules past author (Stat given) ≡ true
unfolding is_allowed
stat_allowed rules past author given is = subst (λ t. same_totals given t ≡ true) is (same_sums given)

pub follows : (rules : Rules) (entry : Entry) (past : List Entry) → is_allowed rules past entry.author entry.point ≡ true → is_within rules.limits (entry ∷ past) ≡ true → may_follow rules entry past ≡ true
unfolding may_follow
follows rules entry past allowed within = and_from _ _ allowed within

-- an entry that ends a session or a reading is within the limits
pub end_within : (rules : Rules) (author : ℕ) (point : Point) (past : List Entry) → is_legal rules past ≡ true → is_allowed rules past author point ≡ true → is_end point ≡ true → is_within rules.limits (made author point ∷ past) ≡ true
unfolding is_allowed finishes aborts closes ends
end_within rules author (Finish s n) past legal allowed e =
    let own = eq-eqb s s refl in
    end_of_session_fits rules s (made author (Finish s n)) past legal (finishes_open rules past author s (Finish s n) allowed own) (or_left (finishes s (Finish s n)) (aborts s (Finish s n)) own)
end_within rules author (Abort s n texts) past legal allowed e =
    let own = eq-eqb s s refl in
    end_of_session_fits rules s (made author (Abort s n texts)) past legal (aborts_open rules past author s (Abort s n texts) allowed own) (or_right (finishes s (Abort s n texts)) (aborts s (Abort s n texts)) own)
end_within rules author (Done r) past legal allowed e = end_of_reading_fits rules r (made author (Done r)) past legal (and_parts _ _ allowed).0 (eq-eqb r r refl)
end_within rules author point past legal allowed e = absurd (false≢true e)

few_of : (n s r limit : ℕ) → suc n + s + r ≤ limit → suc n ≤ limit
few_of n s r limit below = omega (arith, below)

-- a legal history has no more entries than its limit
pub legal_short : (rules : Rules) (past : List Entry) → is_legal rules past ≡ true → length past ≤ rules.limits.entries
unfolding is_legal may_follow is_within
legal_short rules [] legal = omega arith
legal_short rules (entry ∷ past) legal =
    let most : Bool = leb (suc (length past) + unfinished_sessions (entry ∷ past) + unfinished_readings (entry ∷ past)) rules.limits.entries in
    let light : Bool = leb (weight (entry ∷ past)) rules.limits.weight in
    let follows : is_allowed rules past entry.author entry.point && (most && light) ≡ true = (and_parts (is_legal rules past) (is_allowed rules past entry.author entry.point && (most && light)) legal).1 in
    let within : most && light ≡ true = (and_parts (is_allowed rules past entry.author entry.point) (most && light) follows).1 in
    few_of _ _ _ _ (leb-true _ _ (and_parts most light within).0)

-- a state's rules are those of what is kept beside its entries
pub rules_are : (standings champions : ℕ) (profile : Profile) (journal : Recorded) → IsStateOf standings champions profile journal
    → rules_of standings champions (record { profile = profile; limits = journal.rules.limits; entries = journal.entries }) ≡ journal.rules
rules_are standings champions profile journal is = sym is.rules

-- an entry that is allowed of a state is allowed of what it keeps
pub allowed_inside : (standings champions : ℕ) (profile : Profile) (journal : Recorded) (view : StateView) (author : ℕ) (point : Point) → IsStateOf standings champions profile journal
    → record { profile = profile; limits = journal.rules.limits; entries = journal.entries } ≡ view
    → is_allowed (rules_of standings champions view) (reverse view.entries) author point ≡ true
    → is_allowed journal.rules (reverse journal.entries) author point ≡ true
allowed_inside standings champions profile journal view author point is view_is allowed =
    let inside = subst (λ (v : StateView). is_allowed (rules_of standings champions v) (reverse v.entries) author point ≡ true) (sym view_is) allowed in
    subst (λ (r : Rules). is_allowed r (reverse journal.entries) author point ≡ true) (rules_are standings champions profile journal is) inside

-- an answer that is Ok, with what is so where it is
pub on_ok : {X E P : Type 0} (r : Result X E) → OnOk r P → IsOk r → P
on_ok (Ok x) p is = p
on_ok (Err e) p is = absurd (false≢true is)

-- the commits of a session are no more than the entries of a legal history
pub commits_short : (rules : Rules) (session : ℕ) (past : List Entry) → is_legal rules past ≡ true → length (numbers_of (commits session) past) ≤ rules.limits.entries
commits_short rules session past legal =
    let short = legal_short rules past legal in
    let same = numbers_length (commits session) past in
    let fewer = count_rest (λ (entry : Entry). commits session entry.point) past in
    omega (arith, short, same, fewer)

pub commits_are : (session : ℕ) (past : List Entry) → length (numbers_of (commits session) past) ≡ commits_of session past
unfolding commits_of
commits_are session past = numbers_length (commits session) past

pub reclaim_allowed : (rules : Rules) (past : List Entry) (author : ℕ) (objects : List Object) → objects ≡ take 16 (erasable past) → is_allowed rules past author (Reclaim objects) ≡ true
unfolding is_allowed
reclaim_allowed rules past author objects is = subst (λ l. pointwise same_object objects l ≡ true) is (same_objects objects)

pub choose_allowed : (rules : Rules) (past : List Entry) (author session : ℕ) (hooks : List Name) (champions : List ManifestId)
    → is_open_to author session past ≡ true → is_pending session past ≡ false → are_hooks rules.bits hooks ≡ true → champions ≡ champions_for rules hooks past
    → is_allowed rules past author (Choose session hooks champions) ≡ true
unfolding is_allowed
choose_allowed rules past author session hooks champions opened idle fine is =
    and_from _ _ opened (and_from _ _ (not_from_false _ idle) (and_from _ _ fine
    (subst (λ l. pointwise same_manifest champions l ≡ true) is (same_manifests champions))))
