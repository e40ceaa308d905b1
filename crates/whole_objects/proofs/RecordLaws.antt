-- What containers hold behind puts.
use Rattle.std.proofs.Common.{◌≡◌, ◌≢◌, ℕ, zero, suc, ◌==◌, ◌+◌, ◌-◌, ◌<◌, ◌≤◌, ◌^◌, false, nat_eq, nat_le, List, [], ◌∷◌, ◌++◌, Option, Some, refl, sym, ap, ◌∙◌, subst, inl, inr, arith, append-nil}
use mathlib.Core.List.{map}
use Rattle.std.specs.Option.{unwrap_or}
use Rattle.std.specs.List.{range_with_len}
use Rattle.std.proofs.lemmas.Bool.{cases_Bool, eqb-true, le-leb, leb-true}
use Rattle.std.proofs.lemmas.Bool.Decides.{nat_tests, leb_tells}
use Rattle.std.proofs.lemmas.List.{map-append}
use Rattle.std.proofs.lemmas.List.Elements.{filter-append}
use Rattle.ss_base.specs.declared.ids.ContainerId.{ContainerId}
use Rattle.ss_base.specs.declared.ids.ManifestId.{ManifestId}
use Rattle.ss_base.specs.declared.profile.Numbers.{Numbers}
use Rattle.ss_base.proofs.MemberLaws.{In, map_in}
use Rattle.container_file.specs.declared.container_end.ContainerEnd.{ContainerEnd}
use Rattle.container_file.specs.Chunk.{Chunk}
use Rattle.container_file.specs.Containers.{id_of, chunks_in}
use Rattle.container_file.specs.Layout.{Laid, Written as PutBytes, after, laid, laid_in, end_after, put_to, puts}
use Rattle.container_file.specs.Text.{container_text}
use Rattle.container_file.proofs.ContainerLaws.{none_in, text-new, text-last}
use Rattle.container_file.proofs.LayoutLaws.{if-false, ordinal_for, ordinal_last, after_bounds, end_session, end_bounds, first_there, none_laid}
use Rattle.segment_plan.specs.Plan.{Located, pieces_of, fresh_of, laid_against, end_against, puts_against}
use Rattle.outside.specs.Shelf.{Objects, bytes_of}
use Rattle.outside.specs.Views.{ShelfView}
use Rattle.outside.specs.declared.trouble.Trouble.{Trouble}
use Rattle.journal_entry.specs.declared.entry.Entry.{Entry}
use Rattle.journal_entry.specs.declared.entry.Point.{Point}
use Rattle.journal_entry.specs.declared.entry.Point.TheVariants.{Commit}
use Rattle.depot.specs.Storing.{put_name, after_puts, IsStopped}
use Rattle.stored_streams.specs.Streams.{Streams}
use Rattle.stored_streams.specs.Plans.{Planned, last_plan, end_of, laid_of, plan_for, next_plan, plans_after, plans_of}
use Rattle.stored_streams.proofs.PlanLaws.{laid_own, laid_other, end_own, end_other}
use Rattle.whole_objects.specs.Records.{laid_text, HoldRecords, HoldCommits, ArePut}
use Rattle.whole_objects.proofs.PutLaws.{container_name, names_apart, Grow, IsPutFor, HasGrown, ArePutTo, bytes_then, then-started, then-added, are_put_to, puts_grown, stopped_grown, grow-none}

-- ---- what is laid out for a session

both_laid : (o : ℕ) (one other : List Laid) → laid_in o (one ++ other) ≡ laid_in o one ++ laid_in o other
both_laid o one other = filter-append (λ (l : Laid). nat_eq l.place.container.ordinal o) one other

-- the containers are the session's, and nothing is laid out past them
pub record IsEndOf (session : ℕ) (end : ContainerEnd) (old : List Laid) : Type 0 where
  pub session_is : end.session ≡ session
  pub none : (o : ℕ) → end.containers ≤ o → laid_in o old ≡ []

more_laid : (session : ℕ) (end : ContainerEnd) (old : List Laid) (room : ℕ) (cs : List Chunk) → IsEndOf session end old → IsEndOf session (end_after end room cs) (old ++ laid end room cs)
more_laid session end old room cs is = record {
  session_is = end_session end room cs ∙ is.session_is;
  none = λ o high.
      let bounds = (end_bounds end room cs).0 in
      let new = none_laid end room cs o high in
      both_laid o old (laid end room cs) ∙ ap (λ (ls : List Laid). ls ++ laid_in o (laid end room cs)) (is.none o (omega (arith, bounds, high))) ∙ new;
}

IsEndIn : Numbers → Streams → ℕ → List Planned → Type 0
IsEndIn n streams session plans = IsEndOf session (end_of session plans) (laid_of session plans)

committed_end : (n : Numbers) (streams : Streams) (past : List Entry) (id : ManifestId) (session : ℕ) (plans : List Planned) → ((s : ℕ) → IsEndIn n streams s plans) → IsEndIn n streams session (next_plan n streams past id plans ∷ plans)
unfolding IsEndIn next_plan plan_for laid_against end_against
committed_end n streams past id session plans are =
    let p = next_plan n streams past id plans in
    elim (cases_Bool (id.session == session)) [
      | inl own ↦
          let same = eqb-true id.session session own in
          subst (λ (e : ContainerEnd). IsEndOf session e (laid_of session (p ∷ plans))) (sym (end_own p session plans own))
          (subst (λ (ls : List Laid). IsEndOf session p.end ls) (sym (laid_own p session plans own))
          (subst (λ (s : ℕ). IsEndOf s p.end (laid_of s plans ++ p.laid)) same
          (more_laid id.session (end_of id.session plans) (laid_of id.session plans) n.room _ (are id.session))))
      | inr other ↦
          subst (λ (e : ContainerEnd). IsEndOf session e (laid_of session (p ∷ plans))) (sym (end_other p session plans other))
          (subst (λ (ls : List Laid). IsEndOf session (end_of session plans) ls) (sym (laid_other p session plans other)) (are session))
    ]

entry_end : (n : Numbers) (streams : Streams) (past : List Entry) (point : Point) (plans : List Planned) → ((s : ℕ) → IsEndIn n streams s plans) → (session : ℕ) → IsEndIn n streams session (plans_after n streams past point plans)
unfolding plans_after
entry_end n streams past (Commit id content text chunks bytes fresh fresh_bytes uses) plans are session = committed_end n streams past id session plans are
entry_end n streams past _ plans are session = are session

pub is_end_of : (n : Numbers) (streams : Streams) (past : List Entry) (session : ℕ) → IsEndOf session (end_of session (plans_of n streams past)) (laid_of session (plans_of n streams past))
unfolding plans_of IsEndIn end_of last_plan laid_of
is_end_of n streams [] session = record { session_is = refl; none = λ o high. refl }
is_end_of n streams (entry ∷ past) session = entry_end n streams past entry.point (plans_of n streams past) (λ s. is_end_of n streams past s) session

-- ---- the puts of fresh chunks

range_bounds : (o first many : ℕ) → In o (range_with_len first many) → (first ≤ o) × (o < first + many)
range_bounds o first zero there = absurd there
range_bounds o first (suc many) (inl is) = (omega (arith, is), omega (arith, is))
range_bounds o first (suc many) (inr later) = let (low, high) = range_bounds o (first + 1) many later in (omega (arith, low), omega (arith, high))

module _ (end : ContainerEnd) (room : ℕ) where
  -- the first chunk goes to the last container, or to one more
  first_high : (c : Chunk) → (ordinal_for end room c.piece ≤ end.containers) × (end.containers ≤ ordinal_for end room c.piece + 1)
  first_high c =
      let last = ordinal_last end room c.piece in
      let bounds = after_bounds end room c.piece in
      (omega (arith, last, bounds.1), omega (arith, last, bounds.0))

  -- nothing goes to a container before its own
  before_first : (c : Chunk) (cs : List Chunk) (o : ℕ) → o < ordinal_for end room c.piece → laid_in o (laid end room (c ∷ cs)) ≡ []
  unfolding laid
  before_first c cs o low =
      let not : nat_eq (ordinal_for end room c.piece) o ≡ false = grind (arith, nat_tests) in
      let last = ordinal_last end room c.piece in
      if-false (nat_eq (ordinal_for end room c.piece) o) _ (laid_in o (laid (after end room c.piece) room cs)) not
      ∙ none_in (after end room c.piece) room cs o (omega (arith, last, low))

  put-for : (cs : List Chunk) (o : ℕ) → end.session < 2 ^ 32 → end.containers ≤ 2 ^ 32 → o < 2 ^ 32 → IsPutFor end.session end.containers (put_to end room cs o)
  unfolding put_to
  put-for cs o small most low = record { same = refl; fits = (small, low); most = most; starts_new = λ starts. leb-true end.containers o starts }

  -- each put is one of the session's, which it starts only past its containers
  pub puts-for : (cs : List Chunk) → end.session < 2 ^ 32 → (end_after end room cs).containers ≤ 2 ^ 32 → (put : PutBytes) → In put (puts end room cs) → IsPutFor end.session end.containers put
  unfolding puts
  puts-for [] small most put there = absurd there
  puts-for (c ∷ cs) small most put there =
      let first = ordinal_for end room c.piece in
      let last = (end_after end room (c ∷ cs)).containers in
      let from = map_in (put_to end room (c ∷ cs)) put (range_with_len first (last - first)) there in
      let bounds = range_bounds from.0 first (last - first) from.1 in
      let high = bounds.1 in
      let grows = (end_bounds end room (c ∷ cs)).0 in
      let there = first_there end room c cs in
      subst (IsPutFor end.session end.containers) from.2 (put-for (c ∷ cs) from.0 small (omega (arith, grows, most)) (omega (arith, high, most, there)))

  module _ (old : List Laid) (objects : Objects) (is : IsEndOf end.session end old) (small : end.session < 2 ^ 32) (hold : HoldRecords end.session end.containers old objects) where
    abbrev own : ℕ → ContainerId
    own o = id_of end o

    abbrev chunks_of : ℕ → List Chunk
    chunks_of o = map (λ (l : Laid). l.chunk) (laid_in o old)

    -- the text of what is laid out then
    text_both : (cs : List Chunk) (o : ℕ) → laid_text (own o) (old ++ laid end room cs) ≡ container_text (own o) (chunks_of o ++ chunks_in end room cs o)
    text_both cs o =
        ap (λ (ls : List Laid). container_text (own o) (map (λ (l : Laid). l.chunk) ls)) (both_laid o old (laid end room cs))
        ∙ ap (container_text (own o)) (map-append (λ (l : Laid). l.chunk) (laid_in o old) (laid_in o (laid end room cs)))

    -- a container that no put touches
    untouched : (cs : List Chunk) (o : ℕ) → laid_in o (laid end room cs) ≡ [] → laid_text (own o) (old ++ laid end room cs) ≡ laid_text (own o) old
    untouched cs o none =
        ap (λ (ls : List Laid). container_text (own o) (map (λ (l : Laid). l.chunk) ls))
        (both_laid o old (laid end room cs) ∙ ap (λ (ls : List Laid). laid_in o old ++ ls) none ∙ append-nil (laid_in o old))

    -- what a put makes of its container
    starts_at : (cs : List Chunk) (o : ℕ) → (put_to end room cs o).starts ≡ nat_le end.containers o
    unfolding put_to
    starts_at cs o = refl

    held_at : (cs : List Chunk) (o : ℕ) → o < end.containers → bytes_of objects (put_name (put_to end room cs o)) ≡ laid_text (own o) old
    unfolding put_to
    held_at cs o low = hold o low

    then_started : (cs : List Chunk) (o : ℕ) → end.containers ≤ o → bytes_then (put_to end room cs o) objects ≡ laid_text (own o) (old ++ laid end room cs)
    then_started cs o new =
        then-started (put_to end room cs o) objects (starts_at cs o ∙ le-leb end.containers o new)
        ∙ sym (text-new end room cs o new)
        ∙ ap (λ (ls : List Laid). container_text (own o) (map (λ (l : Laid). l.chunk) ls ++ chunks_in end room cs o)) (sym (is.none o new))
        ∙ sym (text_both cs o)

    then_added : (cs : List Chunk) (o : ℕ) → end.containers ≡ o + 1 → bytes_then (put_to end room cs o) objects ≡ laid_text (own o) (old ++ laid end room cs)
    then_added cs o last =
        let adds : nat_le end.containers o ≡ false = grind (arith, nat_tests) in
        then-added (put_to end room cs o) objects (starts_at cs o ∙ adds)
        ∙ ap (λ (b : List ℕ). b ++ (put_to end room cs o).bytes) (held_at cs o (omega (arith, last)))
        ∙ sym (text-last end room cs (chunks_of o) o last)
        ∙ sym (text_both cs o)

    records_then : (c : Chunk) (cs : List Chunk) (held : Option Objects)
        → (end_after end room (c ∷ cs)).containers ≤ 2 ^ 32
        → (to : ArePutTo (put_to end room (c ∷ cs)) (ordinal_for end room c.piece) ((end_after end room (c ∷ cs)).containers - ordinal_for end room c.piece) objects held)
        → HoldRecords end.session (end_after end room (c ∷ cs)).containers (old ++ laid end room (c ∷ cs)) to.now
    unfolding put_to
    records_then c cs held most to o below =
        let first = ordinal_for end room c.piece in
        let last = (end_after end room (c ∷ cs)).containers in
        let near = first_high c in
        elim (leb_tells first o) [
          | inl (tested, low) ↦
              to.each o low (omega (arith, below, low))
              ∙ elim (leb_tells end.containers o) [
                | inl (now_new, new) ↦ then_started (c ∷ cs) o new
                | inr (now_old, there) ↦ let high = near.1 in then_added (c ∷ cs) o (omega (arith, there, low, high))
              ]
          | inr (tested, low) ↦
              let few = near.0 in
              to.others (container_name end.session o) (λ other above high.
              names_apart (own o) (own other) (small, omega (arith, below, most)) (small, omega (arith, high, below, most, low, above)) (λ same. let e = ap (λ (i : ContainerId). i.ordinal) same in absurd (omega (arith, e, low, above))))
              ∙ hold o (omega (arith, low, few))
              ∙ sym (untouched (c ∷ cs) o (before_first c cs o low))
        ]

    apart : (cs : List Chunk) (o other : ℕ) → o < 2 ^ 32 → other < 2 ^ 32 → o ≢ other → put_name (put_to end room cs o) ≢ put_name (put_to end room cs other)
    unfolding put_to
    apart cs o other low low_too differ = names_apart (own o) (own other) (small, low) (small, low_too) (λ same. differ (ap (λ (i : ContainerId). i.ordinal) same))

    -- the puts, and what the containers hold then
    pub records_put : (cs : List Chunk) (shelf : ShelfView) → (end_after end room cs).containers ≤ 2 ^ 32 → shelf.held ≡ Some objects
        → (now : Objects) × ((after_puts shelf (puts end room cs)).held ≡ Some now) × HoldRecords end.session (end_after end room cs).containers (old ++ laid end room cs) now × Grow end.session end.containers objects now
    unfolding puts laid end_after
    records_put [] shelf most told =
        (objects, told, (λ o below. hold o below ∙ sym (untouched [] o refl)), grow-none end.session end.containers objects)
    records_put (c ∷ cs) shelf most told =
        let first = ordinal_for end room c.piece in
        let last = (end_after end room (c ∷ cs)).containers in
        let there = first_there end room c cs in
        let to =
        are_put_to (put_to end room (c ∷ cs)) first (last - first) shelf objects (λ o other low high low_too high_too differ. apart (c ∷ cs) o other (omega (arith, high, there, most)) (omega (arith, high_too, there, most)) differ) told in
        let grown = puts_grown end.session end.containers shelf objects (puts end room (c ∷ cs)) (puts-for (c ∷ cs) small most) told in
        (to.now, to.held_is, records_then c cs _ most to, same_grow grown.now to.now (sym grown.held_is ∙ to.held_is) grown.grow)
      where
        same_grow : (one two : Objects) → Some one ≡ Some two → Grow end.session end.containers objects one → Grow end.session end.containers objects two
        same_grow one two same grow = subst (λ (o : Option Objects). Grow end.session end.containers objects (unwrap_or o one)) same grow

-- ---- behind a session's commits

module _ (n : Numbers) (streams : Streams) (session : ℕ) (past : List Entry) (chunks : List (List ℕ)) (located : List Located) (shelf : ShelfView) (objects : Objects) (small : session < 2 ^ 32) where
  abbrev end : ContainerEnd
  end = end_of session (plans_of n streams past)

  abbrev old : List Laid
  old = laid_of session (plans_of n streams past)

  abbrev cs : List Chunk
  cs = fresh_of chunks (pieces_of located)

  is_end : IsEndOf session end old
  is_end = is_end_of n streams past session

  own_end : IsEndOf end.session end old
  own_end = subst (λ (s : ℕ). IsEndOf s end old) (sym is_end.session_is) is_end

  own_small : end.session < 2 ^ 32
  own_small = subst (λ (s : ℕ). s < 2 ^ 32) (sym is_end.session_is) small

  pub put-laid : (end_against chunks located end n.room).containers ≤ 2 ^ 32 → shelf.held ≡ Some objects → HoldCommits n streams session past objects
      → (now : Objects) × ((after_puts shelf (puts_against chunks located end n.room)).held ≡ Some now) × ArePut n streams session past chunks located objects now
  unfolding puts_against end_against laid_against
  put-laid most told hold =
      let own_hold = subst (λ (s : ℕ). HoldRecords s end.containers old objects) (sym is_end.session_is) hold in
      let (now, held_is, records, grow) = records_put end n.room old objects own_end own_small own_hold cs shelf most told in
      let grown = subst (λ (s : ℕ). Grow s end.containers objects now) is_end.session_is grow in (
        now,
        held_is,
        record {
          records = subst (λ (s : ℕ). HoldRecords s (end_after end n.room cs).containers (old ++ laid end n.room cs) now) is_end.session_is records;
          others = grown.others;
          grown = grown.grown;
        },
      )

  pub put-stopped : (after : ShelfView) (trouble : Trouble) → (end_against chunks located end n.room).containers ≤ 2 ^ 32 → shelf.held ≡ Some objects → IsStopped shelf after (puts_against chunks located end n.room) trouble
      → HasGrown session end.containers objects after.held
  unfolding puts_against end_against
  put-stopped after trouble most told stopped =
      subst (λ (s : ℕ). HasGrown s end.containers objects after.held) is_end.session_is
      (stopped_grown end.session end.containers shelf after objects (puts end n.room cs) trouble (puts-for end n.room cs own_small most) told stopped)
