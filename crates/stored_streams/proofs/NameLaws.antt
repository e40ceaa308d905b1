-- Objects are told apart by their names, and those of a new session have new names.
use Rattle.std.proofs.Common.{◌≡◌, ◌≢◌, ℕ, suc, ◌<◌, ◌≤◌, ◌^◌, true, List, [], ◌∷◌, ◌++◌, length, drop, get_or, Option, Some, None, refl, sym, ap, ◌∙◌, inl, inr, append_assoc, codes, arith}
use Rattle.std.specs.Fmt.{decimal}
use Rattle.std.specs.FinMap as map
use Rattle.std.specs.List.{Contains}
use Rattle.std.proofs.lemmas.Fmt.{decimal_is_IsNumeral, decimal_injective}
use Rattle.std.proofs.lemmas.Str.Parse.{digit_at}
use Rattle.ss_base.specs.declared.ids.ContainerId.{ContainerId}
use Rattle.ss_base.specs.declared.ids.ManifestId.{ManifestId}
use Rattle.ss_base.specs.declared.object.Object.{Object}
use Rattle.ss_base.specs.declared.object.Object.TheVariants.{Container, Manifest}
use Rattle.ss_base.specs.ObjectName.{object_text}
use Rattle.ss_base.proofs.MemberLaws.{in_Contains}
use Rattle.outside.specs.Shelf.{Objects}
use Rattle.journal_entry.specs.declared.entry.Entry.{Entry}
use Rattle.journal_entry.specs.Bounds.{FitsObject}
use Rattle.history.specs.declared.rules.Rules.{Rules}
use Rattle.history.specs.Sessions.{session_count, is_closed}
use Rattle.history.specs.Need.{known}
use Rattle.history.specs.Legal.{is_legal}
use Rattle.history_laws.proofs.SessionLaws.{begun_below}
use Rattle.history_laws.proofs.UnfinishedLaws.{closed_begun}
use Rattle.history_laws.proofs.ObjectLaws as object
use Rattle.stored_streams.specs.Known.{session_of, HasOnlyKnown}

-- ---- two numbers with a hyphen between them

NoHyphen : List ℕ → Type 0
NoHyphen ds = (i : ℕ) → i < length ds → get_or ds i 0 ≢ 45

later_none : (c : ℕ) (cs : List ℕ) → NoHyphen (c ∷ cs) → NoHyphen cs
unfolding NoHyphen
later_none c cs none i below = none (suc i) (omega (arith, below))

first_not : (c : ℕ) (cs : List ℕ) → NoHyphen (c ∷ cs) → c ≢ 45
unfolding NoHyphen
first_not c cs none = none 0 (omega arith)

-- what stands before the first hyphen, and behind it
hyphen : (a b x y : List ℕ) → NoHyphen a → NoHyphen b → a ++ (45 ∷ x) ≡ b ++ (45 ∷ y) → (a ≡ b) × (x ≡ y)
hyphen [] [] x y one other e = (cc, ap (drop 1) e)
hyphen [] (c ∷ b) x y one other e = absurd (first_not c b other (sym (ap (λ (l : List ℕ). get_or l 0 0) e)))
hyphen (c ∷ a) [] x y one other e = absurd (first_not c a one (ap (λ (l : List ℕ). get_or l 0 0) e))
hyphen (c ∷ a) (d ∷ b) x y one other e =
    let rest = hyphen a b x y (later_none c a one) (later_none d b other) (ap (drop 1) e) in
    let first = ap (λ (l : List ℕ). get_or l 0 0) e in
    let front = rest.0 in
    (λ i. first i ∷ front i, rest.1)

decimal_none : (n : ℕ) → n < 2 ^ 64 → NoHyphen (decimal n)
unfolding NoHyphen
decimal_none n small i below is =
    let digit = digit_at (decimal n) i (decimal_is_IsNumeral n small).0.1 below in
    let low = digit.0 in
    omega (arith, is, low)

-- the session of an object's name, and what stands behind it
numbers_same : (s t : ℕ) (x y : List ℕ) → s < 2 ^ 64 → t < 2 ^ 64 → (decimal s ++ codes "-") ++ x ≡ (decimal t ++ codes "-") ++ y → (s ≡ t) × (x ≡ y)
numbers_same s t x y small small_too e =
    let texts = hyphen (decimal s) (decimal t) x y (decimal_none s small) (decimal_none t small_too) (sym (append_assoc (decimal s) (codes "-") x) ∙ e ∙ append_assoc (decimal t) (codes "-") y) in
    (decimal_injective s t small small_too texts.0, texts.1)

container_or_manifest : (x y : List ℕ) → 99 ∷ x ≢ 109 ∷ y
container_or_manifest x y e = let first : 99 ≡ 109 = ap (λ (l : List ℕ). get_or l 0 0) e in omega (arith, first)

-- objects with one name are of one session
pub session_named : (a b : Object) → session_of a < 2 ^ 64 → session_of b < 2 ^ 64 → object_text a ≡ object_text b → session_of a ≡ session_of b
session_named (Container a) (Container b) small small_too e = (numbers_same a.session b.session (decimal a.ordinal) (decimal b.ordinal) small small_too (ap (drop 2) e)).0
session_named (Container a) (Manifest b) small small_too e = absurd (container_or_manifest _ _ e)
session_named (Manifest a) (Container b) small small_too e = absurd (container_or_manifest _ _ (sym e))
session_named (Manifest a) (Manifest b) small small_too e = (numbers_same a.session b.session (decimal a.seq) (decimal b.seq) small small_too (ap (drop 2) e)).0

-- numbers whose decimal text tells them
abbrev pub AreSmall : Object → Type 0
AreSmall (Container id) = (id.session < 2 ^ 64) × (id.ordinal < 2 ^ 64)
AreSmall (Manifest id) = (id.session < 2 ^ 64) × (id.seq < 2 ^ 64)

-- and are one, where their numbers are small
pub same_small : (a b : Object) → AreSmall a → AreSmall b → object_text a ≡ object_text b → a ≡ b
same_small (Container a) (Container b) (s, k) (t, l) e =
    let both = numbers_same a.session b.session (decimal a.ordinal) (decimal b.ordinal) s t (ap (drop 2) e) in
    let same = decimal_injective a.ordinal b.ordinal k l both.1 in
    let sessions = both.0 in
    λ i. let id : ContainerId = record { session = sessions i; ordinal = same i } in Container id
same_small (Container a) (Manifest b) small small_too e = absurd (container_or_manifest _ _ e)
same_small (Manifest a) (Container b) small small_too e = absurd (container_or_manifest _ _ (sym e))
same_small (Manifest a) (Manifest b) (s, k) (t, l) e =
    let both = numbers_same a.session b.session (decimal a.seq) (decimal b.seq) s t (ap (drop 2) e) in
    let same = decimal_injective a.seq b.seq k l both.1 in
    let sessions = both.0 in
    λ i. let id : ManifestId = record { session = sessions i; seq = same i } in Manifest id

pub small : (a : Object) → FitsObject a → AreSmall a
small (Container id) (s, k) = (omega (arith, s), omega (arith, k))
small (Manifest id) (s, k) = (omega (arith, s), omega (arith, k))

pub same_object_text : (a b : Object) → FitsObject a → FitsObject b → object_text a ≡ object_text b → a ≡ b
same_object_text a b fits fits_too e = same_small a b (small a fits) (small b fits_too) e

pub not_journal : (a : Object) → codes "journal" ≢ object_text a
not_journal (Container a) e = let first : 106 ≡ 99 = ap (λ (l : List ℕ). get_or l 0 0) e in omega (arith, first)
not_journal (Manifest a) e = let first : 106 ≡ 109 = ap (λ (l : List ℕ). get_or l 0 0) e in omega (arith, first)

-- ---- the objects of a new session

session_is : (o : Object) → object.session_of o ≡ session_of o
session_is (Container id) = refl
session_is (Manifest id) = refl

known_below : (rules : Rules) (past : List Entry) (o : Object) → is_legal rules past ≡ true → Contains (known past) o → session_of o < session_count past
unfolding is_closed
known_below rules past o legal listed =
    let closed = object.known_closed o past (in_Contains o (known past) listed) in
    let begun = closed_begun rules (object.session_of o) past legal closed in
    let below = begun_below rules (object.session_of o) past legal begun in
    let same = session_is o in
    omega (arith, below, same)

not_there : (rules : Rules) (past : List Entry) (objects : Objects) (new : Object) (found : Option (List ℕ)) → is_legal rules past ≡ true → HasOnlyKnown past objects → session_count past ≤ session_of new → session_of new < 2 ^ 32 → map.get objects (object_text new) ≡ found → found ≡ None
not_there rules past objects new None legal only later small is = refl
not_there rules past objects new (Some bytes) legal only later small is = elim (only (object_text new) bytes is) [
  | inl journal ↦ absurd (not_journal new (sym journal))
  | inr old ↦
      let below = known_below rules past old.object legal old.known in
      let same = session_named new old.object (omega (arith, small)) (omega (arith, below, later, small)) old.named in
      absurd (omega (arith, below, later, same))
]

pub new_absent : (rules : Rules) (past : List Entry) (objects : Objects) (new : Object) → is_legal rules past ≡ true → HasOnlyKnown past objects → session_count past ≤ session_of new → session_of new < 2 ^ 32 → map.get objects (object_text new) ≡ None
new_absent rules past objects new legal only later small = not_there rules past objects new (map.get objects (object_text new)) legal only later small refl
