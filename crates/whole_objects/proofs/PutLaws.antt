-- What puts leave among objects.
use Rattle.std.proofs.Common.{◌≡◌, ◌≢◌, ℕ, zero, suc, ◌+◌, ◌<◌, ◌≤◌, ◌^◌, true, false, List, [], ◌∷◌, ◌++◌, get_or, Option, Some, refl, sym, ap, ◌∙◌, subst, inl, inr, arith, append_assoc, append-nil, if◌then◌else◌}
use mathlib.Core.List.{map}
use Rattle.std.specs.List.{range_with_len}
use Rattle.std.specs.FinMap as map
use Rattle.std.proofs.lemmas.Bool.{cases_Bool, false≢true}
use Rattle.std.proofs.lemmas.Bool.Decides.{eqb_tells}
use Rattle.ss_base.specs.declared.ids.ContainerId.{ContainerId}
use Rattle.ss_base.specs.declared.ids.ManifestId.{ManifestId}
use Rattle.ss_base.specs.declared.object.Object.{Object}
use Rattle.ss_base.specs.declared.object.Object.TheVariants.{Container, Manifest}
use Rattle.ss_base.specs.ObjectName.{object_text}
use Rattle.ss_base.proofs.MemberLaws.{In, in_append_left, in_append_right}
use Rattle.container_file.specs.Layout.{Written as PutBytes}
use Rattle.outside.specs.Shelf.{Objects, bytes_of, with_object, with_added, without_object, CreateLeaves, AppendLeaves}
use Rattle.outside.specs.Views.{ShelfView}
use Rattle.outside.specs.declared.trouble.Trouble.{Trouble}
use Rattle.outside.proofs.ObjectLaws.{bytes_of-insert_same, bytes_of-insert_other, bytes_of-remove_other}
use Rattle.journal_entry.specs.Bounds.{FitsContainer}
use Rattle.depot.specs.Storing.{put_name, after_put, after_puts, PutLeaves, IsStopped}
use Rattle.stored_streams.proofs.NameLaws.{session_named, same_object_text}
use Rattle.whole_objects.specs.Keeps.{GoesOn, KeepsOthers}

-- ---- names

abbrev pub container_name : ℕ → ℕ → List ℕ
container_name session ordinal = object_text (Container (record { session = session; ordinal = ordinal }))

id_of : Object → ContainerId
id_of (Container id) = id
id_of (Manifest id) = record { session = 0; ordinal = 0 }

-- containers are told apart by their names
pub names_apart : (one other : ContainerId) → FitsContainer one → FitsContainer other → one ≢ other → object_text (Container one) ≢ object_text (Container other)
unfolding id_of
names_apart one other fits fits_too differ same = differ (ap id_of (same_object_text (Container one) (Container other) fits fits_too same))

pub manifest_apart : (id : ManifestId) (other : ContainerId) → object_text (Manifest id) ≢ object_text (Container other)
manifest_apart id other same = let first : 109 ≡ 99 = ap (λ (l : List ℕ). get_or l 0 0) same in omega (arith, first)

-- ---- one object is changed, a container of the session

goes_on : (bytes : List ℕ) → GoesOn bytes bytes
goes_on bytes = ([], sym (append-nil bytes))

pub goes_on-then : (one two three : List ℕ) → GoesOn one two → GoesOn two three → GoesOn one three
goes_on-then one two three (more, is) (rest, next) = (more ++ rest, next ∙ ap (λ (b : List ℕ). b ++ rest) is ∙ append_assoc one more rest)

-- All but the containers of one session are as they were, and those below a number go on.
pub record Grow (session count : ℕ) (objects now : Objects) : Type 0 where
  pub others : KeepsOthers session objects now
  pub grown : (ordinal : ℕ) → ordinal < count → GoesOn (bytes_of objects (container_name session ordinal)) (bytes_of now (container_name session ordinal))

pub grow-none : (session count : ℕ) (objects : Objects) → Grow session count objects objects
grow-none session count objects = record {
  others = record { containers = λ id low differ. refl; manifests = λ id. refl; rest = λ name none. refl };
  grown = λ ordinal below. goes_on (bytes_of objects (container_name session ordinal));
}

pub grow-then : (session count : ℕ) (one two three : Objects) → Grow session count one two → Grow session count two three → Grow session count one three
grow-then session count one two three first second = record {
  others = record {
    containers = λ id low differ. second.others.containers id low differ ∙ first.others.containers id low differ;
    manifests = λ id. second.others.manifests id ∙ first.others.manifests id;
    rest = λ name none. second.others.rest name none ∙ first.others.rest name none;
  };
  grown = λ ordinal below. goes_on-then _ _ _ (first.grown ordinal below) (second.grown ordinal below);
}

module _ (session count ordinal : ℕ) (fits : FitsContainer (record { session = session; ordinal = ordinal })) (objects now : Objects) (others_same : (q : List ℕ) → q ≢ container_name session ordinal → bytes_of now q ≡ bytes_of objects q) where
  abbrev own : ContainerId
  own = record { session = session; ordinal = ordinal }

  one_others : KeepsOthers session objects now
  one_others = record {
    containers = λ id low differ. others_same (object_text (Container id)) (λ same.
        let session_low = fits.0 in
        differ (session_named (Container id) (Container own) (omega (arith, low)) (omega (arith, session_low)) same));
    manifests = λ id. others_same (object_text (Manifest id)) (manifest_apart id own);
    rest = λ name none. others_same name (none (Container own));
  }

  -- the changed one is below the number, and goes on; or it is not
  one_grown : (count ≤ 2 ^ 32) → (ordinal < count → GoesOn (bytes_of objects (container_name session ordinal)) (bytes_of now (container_name session ordinal)))
      → (other : ℕ) → other < count → GoesOn (bytes_of objects (container_name session other)) (bytes_of now (container_name session other))
  one_grown most goes other below = elim (eqb_tells other ordinal) [
    | inl (tested, same) ↦ subst (λ (o : ℕ). GoesOn (bytes_of objects (container_name session o)) (bytes_of now (container_name session o))) (sym same) (goes (omega (arith, same, below)))
    | inr (tested, differ) ↦
        let is = others_same (container_name session other)
        (names_apart (record { session = session; ordinal = other }) own (fits.0, omega (arith, below, most)) fits (λ same. differ (ap (λ (i : ContainerId). i.ordinal) same))) in
        ([], is ∙ sym (append-nil (bytes_of objects (container_name session other))))
  ]

  pub grow-one : (count ≤ 2 ^ 32) → (ordinal < count → GoesOn (bytes_of objects (container_name session ordinal)) (bytes_of now (container_name session ordinal))) → Grow session count objects now
  grow-one most goes = record { others = one_others; grown = one_grown most goes }

-- ---- one put

-- a put to a container of the session, which it starts only past the number
pub record IsPutFor (session count : ℕ) (put : PutBytes) : Type 0 where
  pub same : put.container.session ≡ session
  pub fits : FitsContainer put.container
  pub most : count ≤ 2 ^ 32
  pub starts_new : put.starts ≡ true → count ≤ put.container.ordinal

-- what its container holds then
abbrev pub bytes_then : PutBytes → Objects → List ℕ
bytes_then put objects = if put.starts then put.bytes else bytes_of objects (put_name put) ++ put.bytes

pub record HasPut (put : PutBytes) (objects : Objects) (held : Option Objects) : Type 0 where
  pub now : Objects
  pub held_is : held ≡ Some now
  pub own : bytes_of now (put_name put) ≡ bytes_then put objects
  pub others : (q : List ℕ) → q ≢ put_name put → bytes_of now q ≡ bytes_of objects q

pub has_put : (shelf : ShelfView) (objects : Objects) (put : PutBytes) → shelf.held ≡ Some objects → HasPut put objects (after_put shelf put).held
has_put shelf objects put is = elim (cases_Bool put.starts) [
  | inl starts ↦ record {
    now = map.insert objects (put_name put) put.bytes;
    held_is = rw starts (ap (λ (h : Option Objects). with_object h (put_name put) put.bytes) is);
    own = rw starts (bytes_of-insert_same objects (put_name put) put.bytes);
    others = λ q differ. bytes_of-insert_other objects (put_name put) put.bytes q differ;
  }
  | inr adds ↦ record {
    now = map.insert objects (put_name put) (bytes_of objects (put_name put) ++ put.bytes);
    held_is = rw adds (ap (λ (h : Option Objects). with_added h (put_name put) put.bytes) is);
    own = rw adds (bytes_of-insert_same objects (put_name put) (bytes_of objects (put_name put) ++ put.bytes));
    others = λ q differ. bytes_of-insert_other objects (put_name put) (bytes_of objects (put_name put) ++ put.bytes) q differ;
  }
]

-- puts over told objects leave told objects
pub puts_told : (shelf : ShelfView) (objects : Objects) (puts : List PutBytes) → shelf.held ≡ Some objects → (now : Objects) × ((after_puts shelf puts).held ≡ Some now)
puts_told shelf objects [] is = (objects, is)
puts_told shelf objects (put ∷ puts) is = let one = has_put shelf objects put is in puts_told (after_put shelf put) one.now puts one.held_is

-- the put's container is the session's
name_is : (session : ℕ) (put : PutBytes) → put.container.session ≡ session → put_name put ≡ container_name session put.container.ordinal
name_is session put same = ap (λ (s : ℕ). container_name s put.container.ordinal) same

pub then-started : (put : PutBytes) (objects : Objects) → put.starts ≡ true → bytes_then put objects ≡ put.bytes
then-started put objects starts = rw starts refl

pub then-added : (put : PutBytes) (objects : Objects) → put.starts ≡ false → bytes_then put objects ≡ bytes_of objects (put_name put) ++ put.bytes
then-added put objects adds = rw adds refl

put-goes_on : (put : PutBytes) (objects : Objects) → put.starts ≡ false → GoesOn (bytes_of objects (put_name put)) (bytes_then put objects)
put-goes_on put objects adds = (put.bytes, then-added put objects adds)

module _ (session count : ℕ) (put : PutBytes) (for : IsPutFor session count put) (objects now : Objects) (others : (q : List ℕ) → q ≢ put_name put → bytes_of now q ≡ bytes_of objects q) where
  own_fits : FitsContainer (record { session = session; ordinal = put.container.ordinal })
  own_fits = subst (λ (s : ℕ). FitsContainer (record { session = s; ordinal = put.container.ordinal })) for.same for.fits

  -- a change of the put's container alone, which goes on where the put starts none
  pub put-grow : (put.starts ≡ false → GoesOn (bytes_of objects (put_name put)) (bytes_of now (put_name put))) → Grow session count objects now
  put-grow goes =
      let name = name_is session put for.same in
      grow-one session count put.container.ordinal own_fits objects now (λ q differ. others q (λ same. differ (same ∙ name))) for.most
      (λ below. subst (λ (q : List ℕ). GoesOn (bytes_of objects q) (bytes_of now q)) name (goes (not_started below)))
    where
      not_started : put.container.ordinal < count → put.starts ≡ false
      not_started below = elim (cases_Bool put.starts) [
        | inl starts ↦ let high = for.starts_new starts in absurd (omega (arith, high, below))
        | inr adds ↦ adds
      ]

pub record HasGrown (session count : ℕ) (objects : Objects) (held : Option Objects) : Type 0 where
  pub now : Objects
  pub held_is : held ≡ Some now
  pub grow : Grow session count objects now

put_grown : (session count : ℕ) (shelf : ShelfView) (objects : Objects) (put : PutBytes) → IsPutFor session count put → shelf.held ≡ Some objects → HasGrown session count objects (after_put shelf put).held
put_grown session count shelf objects put for is =
    let has = has_put shelf objects put is in
    record {
      now = has.now;
      held_is = has.held_is;
      grow = put-grow session count put for objects has.now has.others (λ adds. subst (GoesOn (bytes_of objects (put_name put))) (sym has.own) (put-goes_on put objects adds));
    }

pub puts_grown : (session count : ℕ) (shelf : ShelfView) (objects : Objects) (puts : List PutBytes) → ((put : PutBytes) → In put puts → IsPutFor session count put) → shelf.held ≡ Some objects → HasGrown session count objects (after_puts shelf puts).held
puts_grown session count shelf objects [] for is = record { now = objects; held_is = is; grow = grow-none session count objects }
puts_grown session count shelf objects (put ∷ puts) for is =
    let one = put_grown session count shelf objects put (for put (inl refl)) is in
    let rest = puts_grown session count (after_put shelf put) one.now puts (λ p there. for p (inr there)) one.held_is in
    record { now = rest.now; held_is = rest.held_is; grow = grow-then session count objects one.now rest.now one.grow rest.grow }

-- ---- a put that failed

same_grown : (session count : ℕ) (objects : Objects) (old new : Option Objects) → old ≡ Some objects → new ≡ old → HasGrown session count objects new
same_grown session count objects old new is same = record { now = objects; held_is = same ∙ is; grow = grow-none session count objects }

create_leaves : (session count : ℕ) (put : PutBytes) (objects : Objects) (old new : Option Objects) → IsPutFor session count put → put.starts ≡ true → old ≡ Some objects → CreateLeaves old new (put_name put) put.bytes → HasGrown session count objects new
create_leaves session count put objects old new for starts is (inl same) = same_grown session count objects old new is same
create_leaves session count put objects old new for starts is (inr (inl (front, back, bytes_are, made))) = record {
  now = map.insert objects (put_name put) front;
  held_is = made ∙ ap (λ (h : Option Objects). with_object h (put_name put) front) is;
  grow = put-grow session count put for objects (map.insert objects (put_name put) front) (λ q differ. bytes_of-insert_other objects (put_name put) front q differ) (λ adds. absurd (false≢true (sym adds ∙ starts)));
}
create_leaves session count put objects old new for starts is (inr (inr gone)) = record {
  now = map.remove objects (put_name put);
  held_is = gone ∙ ap (λ (h : Option Objects). without_object h (put_name put)) is;
  grow = put-grow session count put for objects (map.remove objects (put_name put)) (λ q differ. bytes_of-remove_other objects (put_name put) q differ) (λ adds. absurd (false≢true (sym adds ∙ starts)));
}

append_leaves : (session count : ℕ) (put : PutBytes) (objects : Objects) (old new : Option Objects) → IsPutFor session count put → old ≡ Some objects → AppendLeaves old new (put_name put) put.bytes → HasGrown session count objects new
append_leaves session count put objects old new for is (inl same) = same_grown session count objects old new is same
append_leaves session count put objects old new for is (inr (front, back, bytes_are, added)) =
    let bytes = bytes_of objects (put_name put) ++ front in
    record {
      now = map.insert objects (put_name put) bytes;
      held_is = added ∙ ap (λ (h : Option Objects). with_added h (put_name put) front) is;
      grow = put-grow session count put for objects (map.insert objects (put_name put) bytes) (λ q differ. bytes_of-insert_other objects (put_name put) bytes q differ) (λ adds. (front, bytes_of-insert_same objects (put_name put) bytes));
    }

put_leaves : (session count : ℕ) (put : PutBytes) (objects : Objects) (old new : Option Objects) → IsPutFor session count put → old ≡ Some objects → PutLeaves put old new → HasGrown session count objects new
put_leaves session count put objects old new for is leaves = elim (cases_Bool put.starts) [
  | inl starts ↦ create_leaves session count put objects old new for starts is (rw starts at leaves)
  | inr adds ↦ append_leaves session count put objects old new for is (rw adds at leaves)
]

pub stopped_grown : (session count : ℕ) (shelf after : ShelfView) (objects : Objects) (puts : List PutBytes) (trouble : Trouble) → ((put : PutBytes) → In put puts → IsPutFor session count put) → shelf.held ≡ Some objects → IsStopped shelf after puts trouble → HasGrown session count objects after.held
stopped_grown session count shelf after objects puts trouble for is stopped =
    let for_some : (put : PutBytes) → In put (stopped.done ++ stopped.put ∷ stopped.rest) → IsPutFor session count put =
    λ p there. for p (subst (In p) (sym stopped.puts_are) there) in
    let before = puts_grown session count shelf objects stopped.done (λ p there. for_some p (in_append_left p stopped.done (stopped.put ∷ stopped.rest) there)) is in
    let last =
    put_leaves session count stopped.put before.now (after_puts shelf stopped.done).held after.held
    (for_some stopped.put (in_append_right stopped.put stopped.done (stopped.put ∷ stopped.rest) (inl refl))) before.held_is stopped.failed.objects in
    record { now = last.now; held_is = last.held_is; grow = grow-then session count objects before.now last.now before.grow last.grow }

-- ---- puts to consecutive containers, one each

-- after puts to as many containers from one on, each has what its put makes of it, and all else is as before
pub record ArePutTo (puts : ℕ → PutBytes) (first many : ℕ) (objects : Objects) (held : Option Objects) : Type 0 where
  pub now : Objects
  pub held_is : held ≡ Some now
  pub each : (o : ℕ) → first ≤ o → o < first + many → bytes_of now (put_name (puts o)) ≡ bytes_then (puts o) objects
  pub others : (q : List ℕ) → ((o : ℕ) → first ≤ o → o < first + many → q ≢ put_name (puts o)) → bytes_of now q ≡ bytes_of objects q

then_same : (put : PutBytes) (objects now : Objects) → bytes_of now (put_name put) ≡ bytes_of objects (put_name put) → bytes_then put now ≡ bytes_then put objects
then_same put objects now same = ap (λ (b : List ℕ). if put.starts then put.bytes else b ++ put.bytes) same

pub are_put_to : (puts : ℕ → PutBytes) (first many : ℕ) (shelf : ShelfView) (objects : Objects)
    → ((o other : ℕ) → first ≤ o → o < first + many → first ≤ other → other < first + many → o ≢ other → put_name (puts o) ≢ put_name (puts other))
    → shelf.held ≡ Some objects → ArePutTo puts first many objects (after_puts shelf (map puts (range_with_len first many))).held
are_put_to puts first zero shelf objects apart is = record { now = objects; held_is = is; each = λ o low high. absurd (omega (arith, low, high)); others = λ q differ. refl }
are_put_to puts first (suc many) shelf objects apart is =
    let one = has_put shelf objects (puts first) is in
    let rest =
    are_put_to puts (first + 1) many (after_put shelf (puts first)) one.now
    (λ o other low high low_too high_too differ. apart o other (omega (arith, low)) (omega (arith, high)) (omega (arith, low_too)) (omega (arith, high_too)) differ) one.held_is in
    record {
      now = rest.now;
      held_is = rest.held_is;
      each = λ o low high. elim (eqb_tells o first) [
        | inl (tested, same) ↦
            subst (λ (x : ℕ). bytes_of rest.now (put_name (puts x)) ≡ bytes_then (puts x) objects) (sym same)
            (rest.others (put_name (puts first)) (λ other low_too high_too. apart first other (omega arith) (omega arith) (omega (arith, low_too)) (omega (arith, high_too)) (λ is_first. absurd (omega (arith, is_first, low_too))))
            ∙ one.own)
        | inr (tested, differ) ↦
            let later : first + 1 ≤ o = above first o low differ in
            rest.each o later (omega (arith, high))
            ∙ then_same (puts o) objects one.now (one.others (put_name (puts o)) (apart o first low high (omega arith) (omega arith) differ))
      ];
      others = λ q differ.
          rest.others q (λ o low high. differ o (omega (arith, low)) (omega (arith, high)))
          ∙ one.others q (differ first (omega arith) (omega arith));
    }
  where
    above : (a b : ℕ) → a ≤ b → b ≢ a → a + 1 ≤ b
    above a b low differ = grind arith
