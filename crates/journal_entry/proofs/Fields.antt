-- A reader takes the texts of the values that fit, and no other bytes. Each way to put readers together keeps that.
use Rattle.std.proofs.Common.{◌≡◌, ℕ, zero, suc, ◌+◌, ◌^◌, ◌<◌, ◌≤◌, Bool, true, false, cond, ltb, leb, List, [], ◌∷◌, ◌++◌, length, get_or, take, drop, Option, Some, None, refl, sym, ap, subst, ◌∙◌, append_assoc, arith, inl, inr}
use Rattle.std.specs.Prelude.{IfSome}
use Rattle.std.specs.List.{flat_map, AllByRecursion}
use Rattle.std.specs.Int.{Width, w16, w32, w64, byte_len, from_be_bytes, to_be_bytes}
use Rattle.std.proofs.lemmas.Bool.{cases_lt, ltb-false, le-ltb}
use Rattle.std.proofs.lemmas.Option.{cond_some, same_Some}
use Rattle.std.proofs.lemmas.List.{take_at, drop_at, take-append-drop, length-append, length-take, get_or-drop, get_or-take, get_or_past}
use Rattle.std.proofs.lemmas.Nat.{be_bytes_2, be_bytes_4, be_bytes_8, from_be_bytes-to_be_bytes_2, from_be_bytes-to_be_bytes_4, from_be_bytes-to_be_bytes_8}
use Rattle.journal_entry.specs.EntryText.{number_text, byte_text, reply_text, list_text}
use Rattle.journal_entry.specs.Reading.{◌>>=◌, Reader, ◌▹◌, made, passing, sized, byte_at, number_at, bytes_at, items_at, reply_at, list_at}

abbrev pub IsBytes : List ℕ → Type 0
IsBytes bytes = (i : ℕ) → get_or bytes i 0 < 256

IsBytes-drop : (n : ℕ) (bytes : List ℕ) → IsBytes bytes → IsBytes (drop n bytes)
IsBytes-drop n bytes h i = rw get_or-drop (h (n + i))

IsBytes-take : (n : ℕ) (bytes : List ℕ) → IsBytes bytes → IsBytes (take n bytes)
IsBytes-take n bytes h i =
    elim (cases_lt i n) [
      | inl lt ↦ rw (get_or-take n bytes i 0 lt) (h i)
      | inr le ↦ rw (get_or_past (take n bytes) i 0 (omega (arith, length-take n bytes))) (omega arith)
    ]

pub IsBytes-rest : (b : ℕ) (bytes : List ℕ) → IsBytes (b ∷ bytes) → IsBytes bytes
IsBytes-rest b bytes h i = h (suc i)

-- what a reader took from the front
pub record Takes (bytes text rest : List ℕ) : Type 0 where
  pub parts : bytes ≡ text ++ rest
  pub rest_fits : IsBytes rest

pub Takes-then : (a x b y c : List ℕ) → Takes a x b → Takes b y c → Takes a (x ++ y) c
Takes-then a x b y c p q =
    record { parts = p.parts ∙ ap (λ (t : List ℕ). x ++ t) q.parts ∙ sym (append_assoc x y c); rest_fits = q.rest_fits }

pub Takes-byte : (b : ℕ) (bytes x rest : List ℕ) → Takes bytes x rest → Takes (b ∷ bytes) (b ∷ x) rest
Takes-byte b bytes x rest p = record { parts = ap (λ (t : List ℕ). b ∷ t) p.parts; rest_fits = p.rest_fits }

-- What is read is the text of a value that fits, and each such text is read.
pub record Reads {A : Type 0} (read : Reader A) (text : A → List ℕ) (Fits : A → Type 0) : Type 0 where
  pub takes : (bytes : List ℕ) (x : A × List ℕ) → IsBytes bytes → read bytes ≡ Some x → Takes bytes (text x.0) x.1 × Fits x.0
  pub again : (x : A) (rest : List ℕ) → Fits x → read (text x ++ rest) ≡ Some (x, rest)

-- the value of a step that gave one
pub bind_some : {A B : Type 0} (o : Option A) (f : A → Option B) (y : B) → (o >>= f) ≡ Some y → (x : A) × (o ≡ Some x) × (f x ≡ Some y)
bind_some (Some x) f y e = (x, refl, e)
bind_some None f y e = absurd cc

-- a test that let the value through
chosen : {A : Type 0} (b : Bool) (x y : A) → cond b None (Some x) ≡ Some y → (b ≡ false) × (x ≡ y)
chosen true x y e = absurd cc
chosen false x y e = (refl, cc)

-- ---- ways to put readers together

pub reads_as : {A : Type 0} {r : Reader A} {t : A → List ℕ} {F : A → Type 0} (G : A → Type 0) → Reads r t F → ((x : A) → F x → G x) → ((x : A) → G x → F x) → Reads r t G
reads_as G a to from = record {
  takes = λ bytes x fits e. let p = a.takes bytes x fits e in (p.0, to x.0 p.1);
  again = λ x rest fits. a.again x rest (from x fits);
}

infixl 20 ◌⊗◌
pub ◌⊗◌ : {A B : Type 0} {r : Reader A} {s : Reader B} {t : A → List ℕ} {u : B → List ℕ} {F : A → Type 0} {G : B → Type 0} → Reads r t F → Reads s u G → Reads (r ▹ s) (λ (p : A × B). t p.0 ++ u p.1) (λ (p : A × B). F p.0 × G p.1)
◌⊗◌ {A} {B} {r} {s} {t} {u} {F} {G} a b = record {
  takes = λ bytes x fits e.
      let p = bind_some (r bytes) (λ v. s v.1 >>= λ w. Some ((v.0, w.0), w.1)) x e in
      let q = bind_some (s p.0.1) (λ w. Some ((p.0.0, w.0), w.1)) x p.2 in
      let first = a.takes bytes p.0 fits p.1 in
      let second = b.takes p.0.1 q.0 first.0.rest_fits q.1 in
      subst (λ (y : (A × B) × List ℕ). Takes bytes (t y.0.0 ++ u y.0.1) y.1 × (F y.0.0 × G y.0.1)) (same_Some ((p.0.0, q.0.0), q.0.1) x q.2)
      (Takes-then bytes (t p.0.0) p.0.1 (u q.0.0) q.0.1 first.0 second.0, (first.1, second.1));
  again = λ p rest fits.
      ap (r ▹ s) (append_assoc (t p.0) (u p.1) rest) ∙ rw (a.again p.0 (u p.1 ++ rest) fits.0, b.again p.1 rest fits.1) refl;
}

pub reads_made : {A B : Type 0} {r : Reader A} {t : A → List ℕ} {F : A → Type 0} (f : A → B) (g : B → A) → ((a : A) → g (f a) ≡ a) → ((b : B) → f (g b) ≡ b) → Reads r t F → Reads (made f r) (λ (b : B). t (g b)) (λ (b : B). F (g b))
reads_made {A} {B} {r} {t} {F} f g gf fg a = record {
  takes = λ bytes x fits e.
      let p = bind_some (r bytes) (λ v. Some (f v.0, v.1)) x e in
      subst (λ (y : B × List ℕ). Takes bytes (t (g y.0)) y.1 × F (g y.0)) (same_Some (f p.0.0, p.0.1) x p.2)
      (subst (λ (v : A). Takes bytes (t v) p.0.1 × F v) (sym (gf p.0.0)) (a.takes bytes p.0 fits p.1));
  again = λ b rest fits. rw (a.again (g b) rest fits) (ap (λ (v : B). Some (v, rest)) (fg b));
}

pub reads_passing : {A : Type 0} {r : Reader A} {t : A → List ℕ} {F : A → Type 0} (test : A → Bool) → Reads r t F → Reads (passing test r) t (λ (x : A). F x × (test x ≡ true))
reads_passing {A} {r} {t} {F} test a = record {
  takes = λ bytes x fits e.
      let p = bind_some (r bytes) (λ v. cond (test v.0) (Some v) None) x e in
      let q = cond_some (test p.0.0) p.0 x p.2 in
      let taken = a.takes bytes p.0 fits p.1 in
      subst (λ (y : A × List ℕ). Takes bytes (t y.0) y.1 × (F y.0 × (test y.0 ≡ true))) q.1 (taken.0, (taken.1, q.0));
  again = λ x rest fits. rw (a.again x rest fits.0, fits.1) refl;
}

pub reads_sized : {A : Type 0} {size : Reader ℕ} {count : ℕ → List ℕ} {L : ℕ → Type 0} {items : ℕ → Reader A} {t : A → List ℕ} {F : A → Type 0} (measure : A → ℕ) → Reads size count L → ((n : ℕ) → Reads (items n) t (λ (x : A). (measure x ≡ n) × F x)) → Reads (sized size items) (λ (x : A). count (measure x) ++ t x) (λ (x : A). L (measure x) × F x)
reads_sized {A} {size} {count} {L} {items} {t} {F} measure a b = record {
  takes = λ bytes x fits e.
      let p = bind_some (size bytes) (λ n. items n.0 n.1) x e in
      let first = a.takes bytes p.0 fits p.1 in
      let second = (b p.0.0).takes p.0.1 x first.0.rest_fits p.2 in
      let both = Takes-then bytes (count p.0.0) p.0.1 (t x.0) x.1 first.0 second.0 in
      (subst (λ (n : ℕ). Takes bytes (count n ++ t x.0) x.1) (sym second.1.0) both, (subst L (sym second.1.0) first.1, second.1.1));
  again = λ x rest fits.
      ap (sized size items) (append_assoc (count (measure x)) (t x) rest)
      ∙ rw (a.again (measure x) (t x ++ rest) fits.0) ((b (measure x)).again x rest (refl, fits.1));
}

-- ---- bytes and numbers

byte_takes : (bytes : List ℕ) (x : ℕ × List ℕ) → IsBytes bytes → byte_at bytes ≡ Some x → Takes bytes (byte_text x.0) x.1 × (x.0 < 256)
unfolding byte_at
byte_takes [] x fits e = absurd cc
byte_takes (b ∷ rest) x fits e =
    subst (λ (y : ℕ × List ℕ). Takes (b ∷ rest) (byte_text y.0) y.1 × (y.0 < 256)) (same_Some (b, rest) x e)
    (record { parts = refl; rest_fits = IsBytes-rest b rest fits }, fits 0)

pub a_byte : Reads byte_at byte_text (λ b. b < 256)
unfolding byte_at
a_byte = record { takes = byte_takes; again = λ b rest fits. refl }

record IsWide (w : Width) (limit : ℕ) : Type 0 where
  len : (n : ℕ) → length (to_be_bytes w n) ≡ byte_len w
  back : (bytes : List ℕ) → length bytes ≡ byte_len w → IsBytes bytes → to_be_bytes w (from_be_bytes w bytes) ≡ bytes
  again : (n : ℕ) → n < limit → from_be_bytes w (to_be_bytes w n) ≡ n
  below : (bytes : List ℕ) → IsBytes bytes → from_be_bytes w bytes < limit

wide16 : IsWide w16 (2 ^ 16)
wide16 = record {
  len = λ n. refl;
  back = λ bytes len fits. be_bytes_2 bytes _ len fits refl;
  again = λ n lt. from_be_bytes-to_be_bytes_2 n lt;
  below = λ bytes fits. omega (arith, fits 0, fits 1);
}

wide32 : IsWide w32 (2 ^ 32)
wide32 = record {
  len = λ n. refl;
  back = λ bytes len fits. be_bytes_4 bytes _ len fits refl;
  again = λ n lt. from_be_bytes-to_be_bytes_4 n lt;
  below = λ bytes fits. omega (arith, fits 0, fits 1, fits 2, fits 3);
}

wide64 : IsWide w64 (2 ^ 64)
wide64 = record {
  len = λ n. refl;
  back = λ bytes len fits. be_bytes_8 bytes _ len fits refl;
  again = λ n lt. from_be_bytes-to_be_bytes_8 n lt;
  below = λ bytes fits. omega (arith, fits 0, fits 1, fits 2, fits 3, fits 4, fits 5, fits 6, fits 7);
}

reads_number : (w : Width) (limit : ℕ) → IsWide w limit → Reads (number_at w) (number_text w) (λ n. n < limit)
unfolding number_at number_text
reads_number w limit wide = record {
  takes = λ bytes x fits e.
      let front = take (byte_len w) bytes in
      let g = chosen (ltb (length bytes) (byte_len w)) (from_be_bytes w front, drop (byte_len w) bytes) x e in
      let long : byte_len w ≤ length bytes = ltb-false _ _ g.0 in
      let back = wide.back front (omega (arith, length-take (byte_len w) bytes)) (IsBytes-take (byte_len w) bytes fits) in
      let parts : bytes ≡ to_be_bytes w (from_be_bytes w front) ++ drop (byte_len w) bytes = rw back (sym (take-append-drop (byte_len w) bytes)) in
      subst (λ (y : ℕ × List ℕ). Takes bytes (to_be_bytes w y.0) y.1 × (y.0 < limit)) g.1
      (record { parts = parts; rest_fits = IsBytes-drop (byte_len w) bytes fits }, wide.below front (IsBytes-take (byte_len w) bytes fits));
  again = λ n rest lt.
      let len = wide.len n in
      let long : ltb (length (to_be_bytes w n ++ rest)) (byte_len w) ≡ false = le-ltb _ _ (omega (arith, length-append (to_be_bytes w n) rest)) in
      rw (long, take_at (to_be_bytes w n) rest (byte_len w) len, drop_at (to_be_bytes w n) rest (byte_len w) len, wide.again n lt) refl;
}

pub number16 : Reads (number_at w16) (number_text w16) (λ n. n < 2 ^ 16)
number16 = reads_number w16 (2 ^ 16) wide16

pub number32 : Reads (number_at w32) (number_text w32) (λ n. n < 2 ^ 32)
number32 = reads_number w32 (2 ^ 32) wide32

pub number64 : Reads (number_at w64) (number_text w64) (λ n. n < 2 ^ 64)
number64 = reads_number w64 (2 ^ 64) wide64

pub some_bytes : (n : ℕ) → Reads (bytes_at n) (λ (xs : List ℕ). xs) (λ (xs : List ℕ). (length xs ≡ n) × Unit {0})
unfolding bytes_at
some_bytes n = record {
  takes = λ bytes x fits e.
      let g = chosen (ltb (length bytes) n) (take n bytes, drop n bytes) x e in
      let long : n ≤ length bytes = ltb-false _ _ g.0 in
      let len : length (take n bytes) ≡ n = omega (arith, length-take n bytes) in
      subst (λ (y : List ℕ × List ℕ). Takes bytes y.0 y.1 × ((length y.0 ≡ n) × Unit {0})) g.1
      (record { parts = sym (take-append-drop n bytes); rest_fits = IsBytes-drop n bytes fits }, (len, tt));
  again = λ xs rest fits.
      let len = fits.0 in
      let long : ltb (length (xs ++ rest)) n ≡ false = le-ltb _ _ (omega (arith, length-append xs rest)) in
      rw (long, take_at xs rest n len, drop_at xs rest n len) refl;
}

-- ---- lists and replies

items_take : {A : Type 0} {r : Reader A} {t : A → List ℕ} {F : A → Type 0} → Reads r t F → (n : ℕ) (bytes : List ℕ) (x : List A × List ℕ) → IsBytes bytes → items_at r n bytes ≡ Some x → Takes bytes (flat_map t x.0) x.1 × ((length x.0 ≡ n) × AllByRecursion F x.0)
unfolding items_at
items_take {A} {r} {t} {F} a zero bytes x fits e =
    subst (λ (y : List A × List ℕ). Takes bytes (flat_map t y.0) y.1 × ((length y.0 ≡ 0) × AllByRecursion F y.0)) (same_Some ([], bytes) x e)
    (record { parts = refl; rest_fits = fits }, (refl, tt))
items_take {A} {r} {t} {F} a (suc n) bytes x fits e =
    let p = bind_some (r bytes) (λ first. items_at r n first.1 >>= λ others. Some (first.0 ∷ others.0, others.1)) x e in
    let q = bind_some (items_at r n p.0.1) (λ others. Some (p.0.0 ∷ others.0, others.1)) x p.2 in
    let first = a.takes bytes p.0 fits p.1 in
    let second = items_take a n p.0.1 q.0 first.0.rest_fits q.1 in
    let both = Takes-then bytes (t p.0.0) p.0.1 (flat_map t q.0.0) q.0.1 first.0 second.0 in
    subst (λ (y : List A × List ℕ). Takes bytes (flat_map t y.0) y.1 × ((length y.0 ≡ suc n) × AllByRecursion F y.0)) (same_Some (p.0.0 ∷ q.0.0, q.0.1) x q.2)
    (both, (ap suc second.1.0, (first.1, second.1.1)))

items_again : {A : Type 0} {r : Reader A} {t : A → List ℕ} {F : A → Type 0} → Reads r t F → (xs : List A) (rest : List ℕ) → AllByRecursion F xs → items_at r (length xs) (flat_map t xs ++ rest) ≡ Some (xs, rest)
unfolding items_at
items_again a [] rest fits = refl
items_again {A} {r} {t} {F} a (x ∷ xs) rest fits =
    ap (items_at r (suc (length xs))) (append_assoc (t x) (flat_map t xs) rest)
    ∙ rw (a.again x (flat_map t xs ++ rest) fits.0, items_again a xs rest fits.1) refl

some_items : {A : Type 0} {r : Reader A} {t : A → List ℕ} {F : A → Type 0} → Reads r t F → (n : ℕ) → Reads (items_at r n) (λ (xs : List A). flat_map t xs) (λ (xs : List A). (length xs ≡ n) × AllByRecursion F xs)
some_items {A} {r} {t} {F} a n = record {
  takes = items_take a n;
  again = λ xs rest fits. subst (λ (k : ℕ). items_at r k (flat_map t xs ++ rest) ≡ Some (xs, rest)) fits.0 (items_again a xs rest fits.1);
}

pub a_list : {A : Type 0} {count : Reader ℕ} {c : ℕ → List ℕ} {L : ℕ → Type 0} {r : Reader A} {t : A → List ℕ} {F : A → Type 0} → Reads count c L → (most : ℕ) → Reads r t F → Reads (list_at count most r) (list_text c t) (λ (xs : List A). (L (length xs) × (leb (length xs) most ≡ true)) × AllByRecursion F xs)
unfolding list_at
a_list a most b = reads_sized length (reads_passing (λ n. leb n most) a) (some_items b)

reply_takes : {A : Type 0} {r : Reader A} {t : A → List ℕ} {F : A → Type 0} → Reads r t F → (bytes : List ℕ) (x : Option A × List ℕ) → IsBytes bytes → reply_at r bytes ≡ Some x → Takes bytes (reply_text t x.0) x.1 × IfSome x.0 F
unfolding reply_at
reply_takes a [] x fits e = absurd cc
reply_takes {A} {r} {t} {F} a (zero ∷ rest) x fits e =
    subst (λ (y : Option A × List ℕ). Takes (0 ∷ rest) (reply_text t y.0) y.1 × IfSome y.0 F) (same_Some (None, rest) x e)
    (record { parts = refl; rest_fits = IsBytes-rest 0 rest fits }, tt)
reply_takes {A} {r} {t} {F} a (suc zero ∷ rest) x fits e =
    let p = bind_some (r rest) (λ v. Some (Some v.0, v.1)) x e in
    let taken = a.takes rest p.0 (IsBytes-rest 1 rest fits) p.1 in
    subst (λ (y : Option A × List ℕ). Takes (1 ∷ rest) (reply_text t y.0) y.1 × IfSome y.0 F) (same_Some (Some p.0.0, p.0.1) x p.2)
    (Takes-byte 1 rest (t p.0.0) p.0.1 taken.0, taken.1)
reply_takes a (suc (suc b) ∷ rest) x fits e = absurd cc

reply_again : {A : Type 0} {r : Reader A} {t : A → List ℕ} {F : A → Type 0} → Reads r t F → (o : Option A) (rest : List ℕ) → IfSome o F → reply_at r (reply_text t o ++ rest) ≡ Some (o, rest)
unfolding reply_at
reply_again a None rest fits = refl
reply_again a (Some x) rest fits = rw (a.again x rest fits) refl

pub a_reply : {A : Type 0} {r : Reader A} {t : A → List ℕ} {F : A → Type 0} → Reads r t F → Reads (reply_at r) (reply_text t) (λ (o : Option A). IfSome o F)
a_reply a = record { takes = reply_takes a; again = reply_again a }
