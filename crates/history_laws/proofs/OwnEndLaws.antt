-- The least number above the ordinals that a session used.
use Rattle.std.proofs.Common.{◌≡◌, ℕ, zero, suc, ◌+◌, ◌<◌, ◌≤◌, Bool, true, false, cond, eqb, List, [], ◌∷◌, refl, ap, inl, inr, arith, eqb-true}
use Rattle.std.specs.List.{Contains}
use Rattle.std.proofs.lemmas.Bool.{eq-eqb}
use Rattle.ss_base.specs.declared.ids.ContainerId.{ContainerId}
use Rattle.journal_entry.specs.declared.entry.Entry.{Entry}
use Rattle.journal_entry.specs.declared.entry.Point.{Point}
use Rattle.journal_entry.specs.declared.entry.Point.TheVariants.{Commit}
use Rattle.history.specs.OwnEnd.{greatest_by, end_of, end_among, end_used, own_end}
use Rattle.history_laws.specs.OwnUse.{UsesOwn}
use Rattle.ss_base.proofs.MemberLaws.{In, in_Contains}

Contains-from_in : {X : Type 0} (x : X) (xs : List X) → In x xs → Contains xs x
Contains-from_in x [] h = absurd h
Contains-from_in x (y ∷ ys) (inl is) = (zero, omega arith, is)
Contains-from_in x (y ∷ ys) (inr h) = let there = Contains-from_in x ys h in (suc there.0, let below = there.1 in omega (arith, below), there.2)

-- ---- the greatest number of some items

greatest_at : {X : Type 0} (f : X → ℕ) (x : X) (xs : List X) → In x xs → f x ≤ greatest_by f xs
unfolding greatest_by
greatest_at f x [] h = absurd h
greatest_at f x (y ∷ ys) (inl is) = omega (arith, ap f is)
greatest_at f x (y ∷ ys) (inr h) = omega (arith, greatest_at f x ys h)

greatest_least : {X : Type 0} (f : X → ℕ) (n : ℕ) (xs : List X) → ((x : X) → In x xs → f x ≤ n) → greatest_by f xs ≤ n
unfolding greatest_by
greatest_least f n [] each = omega arith
greatest_least f n (x ∷ xs) each = omega (arith, each x (inl refl), greatest_least f n xs (λ y h. each y (inr h)))

cond_at_most : (b : Bool) (x n : ℕ) → (b ≡ true → x ≤ n) → cond b x 0 ≤ n
cond_at_most true x n most = most refl
cond_at_most false x n most = omega arith

cond_whole : (b : Bool) (x : ℕ) → b ≡ true → cond b x 0 ≡ x
cond_whole true x e = refl
cond_whole false x e = absurd (cc)

-- ---- containers and entries

end_above : (session : ℕ) (id : ContainerId) (uses : List ContainerId) → id.session ≡ session → In id uses → id.ordinal < end_among session uses
unfolding end_among end_of
end_above session id uses own listed =
    let end = cond_whole (eqb id.session session) (id.ordinal + 1) (eq-eqb id.session session own) in
    omega (arith, greatest_at (end_of session) id uses listed, end)

used_above : (session : ℕ) (id : ContainerId) (point : Point) → UsesOwn session id point → id.ordinal < end_used session point
unfolding end_used
used_above session id (Commit manifest content text chunks bytes fresh fresh_bytes uses) use_ =
    let whole = cond_whole (eqb manifest.session session) (end_among session uses) (eq-eqb manifest.session session use_.0) in
    omega (arith, end_above session id uses use_.1 (in_Contains id uses use_.2), whole)
used_above session id _ use_ = absurd use_

used_least : (session n : ℕ) (point : Point) → ((id : ContainerId) → UsesOwn session id point → id.ordinal < n) → end_used session point ≤ n
unfolding end_used end_among end_of
used_least session n (Commit manifest content text chunks bytes fresh fresh_bytes uses) each =
    cond_at_most (eqb manifest.session session) (end_among session uses) n (λ same. greatest_least (end_of session) n uses
    (λ id h. cond_at_most (eqb id.session session) (id.ordinal + 1) n (λ own.
    let below = each id (eqb-true manifest.session session same, eqb-true id.session session own, Contains-from_in id uses h) in omega (arith, below))))
used_least session n _ each = omega arith

pub own_end_above : (past : List Entry) (session : ℕ) (entry : Entry) (id : ContainerId) → Contains past entry → UsesOwn session id entry.point → id.ordinal < own_end session past
unfolding own_end
own_end_above past session entry id listed use_ =
    omega (arith, greatest_at (λ (e : Entry). end_used session e.point) entry past (in_Contains entry past listed), used_above session id entry.point use_)

pub own_end_least : (past : List Entry) (session n : ℕ) → ((entry : Entry) (id : ContainerId) → Contains past entry → UsesOwn session id entry.point → id.ordinal < n) → own_end session past ≤ n
unfolding own_end
own_end_least past session n each =
    greatest_least (λ (e : Entry). end_used session e.point) n past (λ entry h. used_least session n entry.point (λ id use_. each entry id (Contains-from_in entry past h) use_))
