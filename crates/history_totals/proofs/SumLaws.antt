-- How great the numbers of a legal history are, and those that each entry only adds to.
use Rattle.std.proofs.Common.{◌≡◌, ℕ, ◌+◌, ◌-◌, ◌*◌, ◌<◌, ◌≤◌, Bool, true, false, ◌&&◌, leb, cond, max, List, [], ◌∷◌, length, Option, Some, None, refl, sym, ap, ◌∙◌, inl, inr, arith}
use Rattle.std.specs.List.{sum_by}
use Rattle.std.specs.Option.{option_map_or}
use Rattle.std.proofs.lemmas.Bool.{and_parts, leb-true, leb-false, le-leb, lt-leb, cases_Bool}
use Rattle.std.proofs.lemmas.List.Sums.{sum_by-cons, count_by-le-length}
use Rattle.journal_entry.specs.declared.entry.Entry.{Entry}
use Rattle.journal_entry.specs.declared.entry.Point.{Point}
use Rattle.journal_entry.specs.declared.entry.Point.TheVariants.{Commit}
use Rattle.journal_entry.specs.Bounds.{are_counts, most_chunks}
use Rattle.journal_entry.specs.Weight.{point_weight, weight}
use Rattle.history.specs.declared.rules.Limits.{Limits}
use Rattle.history.specs.declared.rules.Rules.{Rules}
use Rattle.history.specs.OwnEnd.{greatest_by}
use Rattle.history.specs.Sessions.{commits, is_retained}
use Rattle.history.specs.TotalsOf.{bytes_retained, bytes_stored, containers_closed, objects_named, stream_began, totals}
use Rattle.history.specs.Legal.{is_allowed, is_within, may_follow, is_legal, unfinished_sessions, unfinished_readings}
use Rattle.history.proofs.LegalLaws.{few_objects}
use Rattle.history_laws.specs.EntryNumbers.{numbers_of}
use Rattle.history_laws.proofs.Allowed.{step, commit_says}
use Rattle.history_laws.proofs.NumberLaws.{numbers_length}
use Rattle.ss_base.proofs.MemberLaws.{In}
use Rattle.history_totals.specs.TallyOf.{next_author, stream_settled, commits_settled}
use Rattle.history_totals.proofs.OpenLaws.{unfinished}

-- ---- the limits

-- an entry that follows: the history is legal, the entry allowed, and both fit the limits
pub record Follows (rules : Rules) (entry : Entry) (past : List Entry) : Type 0 where
  pub legal : is_legal rules past ≡ true
  pub allowed : is_allowed rules past entry.author entry.point ≡ true
  pub entries : length past + 1 + unfinished (entry ∷ past) ≤ rules.limits.entries
  pub heavy : weight past + point_weight entry.point ≤ rules.limits.weight

pub weight_more : (entry : Entry) (past : List Entry) → weight (entry ∷ past) ≡ weight past + point_weight entry.point
unfolding weight
weight_more entry past = let more = sum_by-cons (λ (e : Entry). point_weight e.point) entry past in omega (arith, more)

pub follows : (rules : Rules) (entry : Entry) (past : List Entry) → is_legal rules (entry ∷ past) ≡ true → Follows rules entry past
unfolding is_legal may_follow is_within
follows rules entry past legal =
    let parts = and_parts (is_legal rules past) (is_allowed rules past entry.author entry.point && is_within rules.limits (entry ∷ past)) legal in
    let next = and_parts (is_allowed rules past entry.author entry.point) (is_within rules.limits (entry ∷ past)) parts.1 in
    let fit = and_parts (leb (length (entry ∷ past) + unfinished_sessions (entry ∷ past) + unfinished_readings (entry ∷ past)) rules.limits.entries) (leb (weight (entry ∷ past)) rules.limits.weight) next.1 in
    let room = leb-true (length (entry ∷ past) + unfinished_sessions (entry ∷ past) + unfinished_readings (entry ∷ past)) rules.limits.entries fit.0 in
    let heavy = leb-true (weight (entry ∷ past)) rules.limits.weight fit.1 in
    let more = weight_more entry past in
    record { legal = parts.0; allowed = next.0; entries = omega (arith, room); heavy = omega (arith, heavy, more) }

-- ---- what an entry adds

pub author_more : (entry : Entry) (past : List Entry) → next_author (entry ∷ past) ≡ max (entry.author + 1) (next_author past)
unfolding next_author greatest_by
author_more entry past = refl

pub fresh_more : (entry : Entry) (past : List Entry) → (totals (entry ∷ past)).fresh ≡ (totals past).fresh + bytes_stored entry.point
unfolding totals
fresh_more entry past = let more = sum_by-cons (λ (e : Entry). bytes_stored e.point) entry past in omega (arith, more)

pub containers_more : (entry : Entry) (past : List Entry) → (totals (entry ∷ past)).containers ≡ (totals past).containers + containers_closed entry.point
unfolding totals
containers_more entry past = let more = sum_by-cons (λ (e : Entry). containers_closed e.point) entry past in omega (arith, more)

pub reclaimed_more : (entry : Entry) (past : List Entry) → (totals (entry ∷ past)).reclaimed ≡ (totals past).reclaimed + objects_named entry.point
unfolding totals
reclaimed_more entry past = let more = sum_by-cons (λ (e : Entry). objects_named e.point) entry past in omega (arith, more)

pub entries_are : (past : List Entry) → (totals past).entries ≡ length past
unfolding totals
entries_are past = refl

-- ---- bounds

sum_bound : {X : Type 0} (f : X → ℕ) (most : ℕ) (xs : List X) → ((x : X) → In x xs → f x ≤ most) → sum_by f xs ≤ length xs * most
sum_bound f most [] each = omega arith
sum_bound f most (x ∷ xs) each =
    let rest : sum_by f xs ≤ length xs * most = sum_bound f most xs (λ y h. each y (inr h)) in
    let more = sum_by-cons f x xs in
    let here = each x (inl refl) in
    omega (arith, rest, more, here)

-- an entry of a legal history was allowed after some entries
legal_in : (rules : Rules) (past : List Entry) (entry : Entry) → is_legal rules past ≡ true → In entry past → (older : List Entry) × (is_allowed rules older entry.author entry.point ≡ true)
legal_in rules [] entry legal h = absurd h
legal_in rules (newest ∷ past) entry legal (inl same) = (past, ap (λ (e : Entry). is_allowed rules past e.author e.point) (sym same) ∙ (step rules newest past legal).allowed)
legal_in rules (newest ∷ past) entry legal (inr older) = legal_in rules past entry (step rules newest past legal).legal older

counts_bound : (chunks bytes fresh fresh_bytes : ℕ) → are_counts chunks bytes fresh fresh_bytes ≡ true → (bytes ≤ 45875200) × (fresh_bytes ≤ 45875200)
counts_bound chunks bytes fresh fresh_bytes counted =
    let first = and_parts (leb 1 chunks) _ counted in
    let second = and_parts (leb chunks most_chunks) _ first.1 in
    let third = and_parts (leb chunks bytes) _ second.1 in
    let fourth = and_parts (leb bytes 45875200) _ third.1 in
    let fifth = and_parts (leb fresh chunks) (leb fresh_bytes bytes) fourth.1 in
    let most : bytes ≤ 45875200 = leb-true bytes 45875200 fourth.0 in
    let fresh_most : fresh_bytes ≤ bytes = leb-true fresh_bytes bytes fifth.1 in
    (most, omega (arith, most, fresh_most))

retained_bound : (b : Bool) (n most : ℕ) → n ≤ most → cond b n 0 ≤ most
retained_bound true n most h = h
retained_bound false n most h = omega arith

commit_bound : (rules : Rules) (older past : List Entry) (author : ℕ) (point : Point) → is_allowed rules older author point ≡ true → (bytes_retained past point ≤ 45875200) × (bytes_stored point ≤ 45875200)
unfolding bytes_retained bytes_stored
commit_bound rules older past author (Commit manifest content text chunks bytes fresh fresh_bytes uses) allowed =
    let said = commit_says rules older author manifest content text chunks bytes fresh fresh_bytes uses allowed in
    let most = counts_bound chunks bytes fresh fresh_bytes said.counted in
    (retained_bound (is_retained manifest.session past) bytes 45875200 most.0, most.1)
commit_bound rules older past author _ allowed = (omega arith, omega arith)

pub record AreSmall (past : List Entry) : Type 0 where
  pub streams : (totals past).streams ≤ length past
  pub bytes : (totals past).bytes ≤ length past * 45875200
  pub fresh : (totals past).fresh ≤ length past * 45875200
  pub reclaimed : (totals past).reclaimed ≤ length past * 16

pub are_small : (rules : Rules) (past : List Entry) → is_legal rules past ≡ true → AreSmall past
unfolding totals
are_small rules past legal = record {
  streams = count_by-le-length (λ (e : Entry). stream_began past e.point) past;
  bytes = sum_bound (λ (e : Entry). bytes_retained past e.point) 45875200 past (λ e h. let found = legal_in rules past e legal h in (commit_bound rules found.0 past e.author e.point found.1).0);
  fresh = sum_bound (λ (e : Entry). bytes_stored e.point) 45875200 past (λ e h. let found = legal_in rules past e legal h in (commit_bound rules found.0 past e.author e.point found.1).1);
  reclaimed = sum_bound (λ (e : Entry). objects_named e.point) 16 past (λ e h. let found = legal_in rules past e legal h in few_objects rules found.0 e.author e.point found.1);
}

settled_few : (past : List Entry) (o : Option ℕ) → length (option_map_or (λ session. numbers_of (commits session) past) o []) ≤ length past
settled_few past None = omega arith
settled_few past (Some s) =
    let same = numbers_length (commits s) past in
    let few = count_by-le-length (λ (e : Entry). commits s e.point) past in
    omega (arith, same, few)

pub few_settled : (point : Point) (past : List Entry) → length (commits_settled point past) ≤ length past
unfolding commits_settled
few_settled point past = settled_few past (stream_settled point)

-- a legal history is within the limits
pub record AreWithin (rules : Rules) (past : List Entry) : Type 0 where
  pub entries : length past + unfinished past ≤ rules.limits.entries
  pub heavy : weight past ≤ rules.limits.weight

pub are_within : (rules : Rules) (past : List Entry) → is_legal rules past ≡ true → AreWithin rules past
unfolding weight unfinished_sessions unfinished_readings
are_within rules [] legal = record { entries = omega arith; heavy = omega arith }
are_within rules (entry ∷ past) legal =
    let next : Follows rules entry past = follows rules entry past legal in
    let more = weight_more entry past in
    let room = next.entries in
    let heavy = next.heavy in
    record { entries = omega (arith, room); heavy = omega (arith, heavy, more) }

-- ---- tests of the limits

-- what is left of a limit
pub left_test : (part so_far sum limit : ℕ) → sum ≡ so_far + part → so_far ≤ limit → leb part (limit - so_far) ≡ leb sum limit
left_test part so_far sum limit is within = elim (cases_Bool (leb sum limit)) [
  | inl fits ↦ let below = leb-true sum limit fits in le-leb part (limit - so_far) (omega (arith, below, is, within)) ∙ sym fits
  | inr over ↦ let above = leb-false sum limit over in lt-leb part (limit - so_far) (omega (arith, above, is, within)) ∙ sym over
]

pub within_by_weight : (limits : Limits) (entry : Entry) (past : List Entry) → length past + 1 + unfinished (entry ∷ past) ≤ limits.entries → leb (weight (entry ∷ past)) limits.weight ≡ is_within limits (entry ∷ past)
unfolding is_within
within_by_weight limits entry past room =
    ap (λ b. b && leb (weight (entry ∷ past)) limits.weight)
    (sym (le-leb (length (entry ∷ past) + unfinished_sessions (entry ∷ past) + unfinished_readings (entry ∷ past)) limits.entries (omega (arith, room))))

pub not_within : (limits : Limits) (entry : Entry) (past : List Entry) → limits.entries < length past + 1 + unfinished (entry ∷ past) → is_within limits (entry ∷ past) ≡ false
unfolding is_within
not_within limits entry past over =
    ap (λ b. b && leb (weight (entry ∷ past)) limits.weight)
    (lt-leb (length (entry ∷ past) + unfinished_sessions (entry ∷ past) + unfinished_readings (entry ∷ past)) limits.entries (omega (arith, over)))
