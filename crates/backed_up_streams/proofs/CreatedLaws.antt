-- Objects that a backup makes are known by the history that it leaves.
use Rattle.std.proofs.Common.{◌≡◌, ◌≢◌, ◌⊎◌, ℕ, zero, suc, ◌+◌, ◌-◌, ◌<◌, ◌≤◌, ◌==◌, ◌++◌, true, false, List, [], ◌∷◌, Option, Some, None, refl, sym, ap, ◌∙◌, subst, inl, inr, arith}
use mathlib.Core.List.{map}
use Rattle.std.specs.FinMap as map_of
use Rattle.std.specs.List.{range_with_len}
use Rattle.std.proofs.lemmas.Bool.{cases_Bool, or_left, or_right}
use Rattle.std.proofs.lemmas.Bool.Decides.{eqb_tells}
use Rattle.ss_base.specs.declared.ended.Ended.{Ended}
use Rattle.ss_base.specs.declared.ids.ManifestId.{ManifestId}
use Rattle.ss_base.specs.declared.name.Name.{Name}
use Rattle.ss_base.specs.declared.object.Object.{Object}
use Rattle.ss_base.specs.declared.object.Object.TheVariants.{Manifest as ManifestObject}
use Rattle.ss_base.specs.declared.profile.Numbers.{Numbers}
use Rattle.ss_base.specs.KnownObjects.{container_at, manifest_at, numbered, objects_of}
use Rattle.ss_base.specs.ObjectName.{object_text}
use Rattle.ss_base.proofs.MemberLaws.{In, map_in, in_append_left, in_append_right, count_one, count_other}
use Rattle.manifest_codec.specs.declared.manifest.Manifest.{Manifest}
use Rattle.container_file.specs.declared.container_end.ContainerEnd.{ContainerEnd}
use Rattle.container_file.specs.Chunk.{Chunk}
use Rattle.container_file.specs.Layout.{Written as PutBytes, end_after, put_to, puts}
use Rattle.container_file.proofs.LayoutLaws.{ordinal_for, end_session, end_bounds, first_there}
use Rattle.segment_plan.specs.Plan.{Located, pieces_of, fresh_of, end_against, puts_against}
use Rattle.segment_plan.proofs.LieLaws.{Contains-from_in}
use Rattle.outside.specs.Shelf.{Objects, bytes_of, with_object, with_added, without_object, CreateLeaves, AppendLeaves}
use Rattle.outside.specs.Views.{ShelfView}
use Rattle.outside.specs.declared.trouble.Trouble.{Trouble}
use Rattle.outside.proofs.ObjectLaws.{get-insert_other, get-remove_same, get-remove_other}
use Rattle.journal_entry.specs.declared.entry.Entry.{Entry}
use Rattle.journal_entry.specs.declared.entry.Point.TheVariants.{Choose, Finish, Abort}
use Rattle.history.specs.declared.rules.Rules.{Rules}
use Rattle.history.specs.Legal.{is_legal}
use Rattle.history.specs.Need.{ended_by, ended, all_ended, known}
use Rattle.history.specs.Sessions.{closes, finishes, aborts, commits, commits_of, has, newest, session_count}
use Rattle.history_laws.proofs.SessionLaws.{has_now, begun_below}
use Rattle.history_laws.proofs.UnfinishedLaws.{closed_begun}
use Rattle.store_core.specs.declared.values.Stored.{Stored}
use Rattle.store_core.specs.View.{KeptView, made}
use Rattle.depot.specs.Storing.{put_name, after_put, after_puts, PutLeaves, IsStopped}
use Rattle.segment_store.specs.Stored.{text_against, after_segment}
use Rattle.stored_streams.specs.Streams.{Streams, manifest_chunks}
use Rattle.stored_streams.specs.Plans.{Planned, end_of, plan_for}
use Rattle.stored_streams.specs.Known.{IsKnownName}
use Rattle.stored_streams.proofs.ListLaws.{same_bytes}
use Rattle.stored_streams.proofs.PlanLaws.{end_own}
use Rattle.backed_up_streams.specs.Created.{HasName, CreatesKnown}
use Rattle.backed_up_streams.proofs.ContentLaws.{self}
use Rattle.backed_up_streams.proofs.LeftLaws.{HasPutSome, Closes, IsLeft}
use Rattle.backed_up_streams.proofs.LeftLaws.HasPutSome.{stopped, unwritten, all_done}
use Rattle.backed_up_streams.proofs.LeftLaws.Closes.{by_finish, by_abort}
use Rattle.backed_up_streams.proofs.LeftLaws.IsLeft.{untouched, put_some}
use Rattle.backed_up_streams.proofs.LoadLaws.{text_loaded, commit_point, IsTelling, LoadTold, HasEnded}

-- ---- told objects of which each has a name of a kind

abbrev pub Each : (List ℕ → Type 0) → Objects → Type 0
Each P objects = (name bytes : List ℕ) → map_of.get objects name ≡ Some bytes → P name

pub record AllHeld (P : List ℕ → Type 0) (held : Option Objects) : Type 0 where
  pub now : Objects
  pub held_is : held ≡ Some now
  pub each : Each P now

each_insert : (P : List ℕ → Type 0) (objects : Objects) (name bytes : List ℕ) → P name → Each P objects → Each P (map_of.insert objects name bytes)
each_insert P objects name bytes is each q b found = elim (same_bytes q name) [
  | inl same ↦ subst P (sym same) is
  | inr differs ↦ each q b (sym (get-insert_other objects name bytes q differs) ∙ found)
]

each_remove : (P : List ℕ → Type 0) (objects : Objects) (name : List ℕ) → Each P objects → Each P (map_of.remove objects name)
each_remove P objects name each q b found = elim (same_bytes q name) [
  | inl same ↦ let gone = sym (get-remove_same objects name) ∙ ap (map_of.get (map_of.remove objects name)) (sym same) ∙ found in absurd (cc)
  | inr differs ↦ each q b (sym (get-remove_other objects name q differs) ∙ found)
]

pub all_weaker : (P Q : List ℕ → Type 0) (held : Option Objects) → ((name : List ℕ) → P name → Q name) → AllHeld P held → AllHeld Q held
all_weaker P Q held weaker all = record { now = all.now; held_is = all.held_is; each = λ name bytes found. weaker name (all.each name bytes found) }

-- behind changes of objects with such names
module _ (P : List ℕ → Type 0) where
  pub all_with : (held : Option Objects) (name bytes : List ℕ) → P name → AllHeld P held → AllHeld P (with_object held name bytes)
  all_with held name bytes is all = record {
    now = map_of.insert all.now name bytes;
    held_is = ap (λ (h : Option Objects). with_object h name bytes) all.held_is;
    each = each_insert P all.now name bytes is all.each;
  }

  pub all_added : (held : Option Objects) (name bytes : List ℕ) → P name → AllHeld P held → AllHeld P (with_added held name bytes)
  all_added held name bytes is all = record {
    now = map_of.insert all.now name (bytes_of all.now name ++ bytes);
    held_is = ap (λ (h : Option Objects). with_added h name bytes) all.held_is;
    each = each_insert P all.now name (bytes_of all.now name ++ bytes) is all.each;
  }

  pub all_without : (held : Option Objects) (name : List ℕ) → AllHeld P held → AllHeld P (without_object held name)
  all_without held name all = record {
    now = map_of.remove all.now name;
    held_is = ap (λ (h : Option Objects). without_object h name) all.held_is;
    each = each_remove P all.now name all.each;
  }

  all_put : (shelf : ShelfView) (put : PutBytes) → P (put_name put) → AllHeld P shelf.held → AllHeld P (after_put shelf put).held
  all_put shelf put is all = elim (cases_Bool put.starts) [
    | inl starts ↦ rw starts (all_with shelf.held (put_name put) put.bytes is all)
    | inr adds ↦ rw adds (all_added shelf.held (put_name put) put.bytes is all)
  ]

  all_puts : (shelf : ShelfView) (puts : List PutBytes) → ((put : PutBytes) → In put puts → P (put_name put)) → AllHeld P shelf.held → AllHeld P (after_puts shelf puts).held
  all_puts shelf [] each all = all
  all_puts shelf (put ∷ puts) each all = all_puts (after_put shelf put) puts (λ p there. each p (inr there)) (all_put shelf put (each put (inl refl)) all)

  all_create : (old new : Option Objects) (name bytes : List ℕ) → P name → AllHeld P old → CreateLeaves old new name bytes → AllHeld P new
  all_create old new name bytes is all (inl same) = subst (AllHeld P) (sym same) all
  all_create old new name bytes is all (inr (inl (front, back, bytes_are, made_it))) = subst (AllHeld P) (sym made_it) (all_with old name front is all)
  all_create old new name bytes is all (inr (inr gone)) = subst (AllHeld P) (sym gone) (all_without old name all)

  all_append : (old new : Option Objects) (name bytes : List ℕ) → P name → AllHeld P old → AppendLeaves old new name bytes → AllHeld P new
  all_append old new name bytes is all (inl same) = subst (AllHeld P) (sym same) all
  all_append old new name bytes is all (inr (front, back, bytes_are, added)) = subst (AllHeld P) (sym added) (all_added old name front is all)

  all_put_left : (put : PutBytes) (old new : Option Objects) → P (put_name put) → AllHeld P old → PutLeaves put old new → AllHeld P new
  all_put_left put old new is all leaves = elim (cases_Bool put.starts) [
    | inl starts ↦ all_create old new (put_name put) put.bytes is all (rw starts at leaves)
    | inr adds ↦ all_append old new (put_name put) put.bytes is all (rw adds at leaves)
  ]

  all_stopped : (shelf after : ShelfView) (puts : List PutBytes) (trouble : Trouble) → ((put : PutBytes) → In put puts → P (put_name put)) → AllHeld P shelf.held → IsStopped shelf after puts trouble → AllHeld P after.held
  all_stopped shelf after puts trouble each all is =
      let each_one : (put : PutBytes) → In put (is.done ++ is.put ∷ is.rest) → P (put_name put) = λ p there. each p (subst (In p) (sym is.puts_are) there) in
      all_put_left is.put (after_puts shelf is.done).held after.held
      (each_one is.put (in_append_right is.put is.done (is.put ∷ is.rest) (inl refl)))
      (all_puts shelf is.done (λ p there. each_one p (in_append_left p is.done (is.put ∷ is.rest) there)) all)
      is.failed.objects

-- ---- the puts of fresh chunks

range_bounds : (o first many : ℕ) → In o (range_with_len first many) → (first ≤ o) × (o < first + many)
range_bounds o first zero there = absurd there
range_bounds o first (suc many) (inl is) = (omega (arith, is), omega (arith, is))
range_bounds o first (suc many) (inr later) = let (low, high) = range_bounds o (first + 1) many later in (omega (arith, low), omega (arith, high))

put_to_name : (end : ContainerEnd) (room : ℕ) (cs : List Chunk) (o : ℕ) → put_name (put_to end room cs o) ≡ object_text (container_at end.session o)
unfolding put_to
put_to_name end room cs o = refl

-- a container of the session with an ordinal below so many, and a manifest with a number below so many
abbrev pub IsContainerOf : ℕ → ℕ → List ℕ → Type 0
IsContainerOf session count name = (o : ℕ) × (o < count) × (name ≡ object_text (container_at session o))

abbrev pub IsManifestOf : ℕ → ℕ → List ℕ → Type 0
IsManifestOf session count name = (q : ℕ) × (q < count) × (name ≡ object_text (manifest_at session q))

put_is : (end : ContainerEnd) (room : ℕ) (cs : List Chunk) (put : PutBytes) → In put (puts end room cs) → IsContainerOf end.session (end_after end room cs).containers (put_name put)
unfolding puts
put_is end room [] put there = absurd there
put_is end room (c ∷ cs) put there =
    let first = ordinal_for end room c.piece in
    let last = (end_after end room (c ∷ cs)).containers in
    let from = map_in (put_to end room (c ∷ cs)) put (range_with_len first (last - first)) there in
    let bounds = range_bounds from.0 first (last - first) from.1 in
    let high = bounds.1 in
    let below = first_there end room c cs in
    (from.0, omega (arith, high, below), ap put_name (sym from.2) ∙ put_to_name end room (c ∷ cs) from.0)

-- ---- the names of the objects while a session goes on

module _ (session : ℕ) (first : Objects) where
  -- the object was there at first, or is one that the session made
  abbrev pub IsTold : ℕ → ℕ → List ℕ → Type 0
  IsTold containers texts name = HasName first name ⊎ (IsContainerOf session containers name ⊎ IsManifestOf session texts name)

  told_more : (c t c' t' : ℕ) → c ≤ c' → t ≤ t' → (name : List ℕ) → IsTold c t name → IsTold c' t' name
  told_more c t c' t' more more_too name (inl was) = inl was
  told_more c t c' t' more more_too name (inr (inl (o, below, is))) = inr (inl (o, omega (arith, below, more), is))
  told_more c t c' t' more more_too name (inr (inr (q, below, is))) = inr (inr (q, omega (arith, below, more_too), is))

  module _ (chunks : List (List ℕ)) (against : List Located) (end : ContainerEnd) (own : end.session ≡ session) (room count written : ℕ) where
    abbrev now_told : List ℕ → Type 0
    now_told = IsTold (end_against chunks against end room).containers written

    abbrev next : ManifestId
    next = record { session = session; seq = count }

    put_told : (put : PutBytes) → In put (puts_against chunks against end room) → now_told (put_name put)
    unfolding puts_against end_against
    put_told put there =
        let from = put_is end room (fresh_of chunks (pieces_of against)) put there in
        inr (inl (from.0, from.1, from.2 ∙ ap (λ (s : ℕ). object_text (container_at s from.0)) own))

    manifest_told : count + 1 ≤ written → now_told (object_text (ManifestObject next))
    manifest_told least = inr (inr (count, omega (arith, least), refl))

    more_told : count ≤ written → (held : Option Objects) → AllHeld (IsTold end.containers count) held → AllHeld now_told held
    unfolding end_against
    more_told least held all =
        let bounds = (end_bounds end room (fresh_of chunks (pieces_of against))).0 in
        all_weaker (IsTold end.containers count) now_told held (told_more end.containers count (end_after end room (fresh_of chunks (pieces_of against))).containers written bounds least) all

    module _ (shelf : ShelfView) (all : AllHeld (IsTold end.containers count) shelf.held) where
      laid_told : count ≤ written → AllHeld now_told (after_puts shelf (puts_against chunks against end room)).held
      laid_told least = all_puts now_told shelf (puts_against chunks against end room) put_told (more_told least shelf.held all)

      stored_told : count + 1 ≤ written → AllHeld now_told (after_segment shelf next chunks against end room).held
      stored_told least =
          all_with now_told (after_puts shelf (puts_against chunks against end room)).held (object_text (ManifestObject next)) (text_against chunks against end room) (manifest_told least)
          (laid_told (omega (arith, least)))

      some_told : (after : ShelfView) → HasPutSome next chunks against end room written shelf after → AllHeld now_told after.held
      some_told after (stopped trouble least failed) = all_stopped now_told shelf after (puts_against chunks against end room) trouble put_told (more_told least shelf.held all) failed
      some_told after (unwritten trouble least failed) =
          all_create now_told (after_puts shelf (puts_against chunks against end room)).held after.held (object_text (ManifestObject next)) (text_against chunks against end room) (manifest_told least)
          (laid_told (omega (arith, least))) failed.objects
      some_told after (all_done least done) = subst (λ (s : ShelfView). AllHeld now_told s.held) (sym done) (stored_told least)

-- ---- the depot's objects while a session goes on

end_against_session : (chunks : List (List ℕ)) (against : List Located) (end : ContainerEnd) (room : ℕ) → (end_against chunks against end room).session ≡ end.session
unfolding end_against
end_against_session chunks against end room = end_session end room (fresh_of chunks (pieces_of against))

module _ (n : Numbers) (streams : Streams) (older : List Entry) (author session : ℕ) (first : Objects) where
  -- each object was there at first, or is one of those that the session has made
  pub record CreatedSo (texts : List (List ℕ)) (newer : List Entry) (plans : List Planned) (shelf : ShelfView) : Type 0 where
    pub own : (end_of session plans).session ≡ session
    pub all : AllHeld (IsTold session first (end_of session plans).containers (commits_of session (newer ++ older))) shelf.held

  abbrev pub Any : List Entry → Type 0
  Any past = Unit {0}

  load_created : (texts : List (List ℕ)) (newer : List Entry) (plans : List Planned) (shelf : ShelfView) (view : KeptView) (manifest : Manifest) → CreatedSo texts newer plans shelf → LoadTold n streams older author session CreatedSo Any texts newer plans shelf view manifest
  load_created texts newer plans shelf view manifest so = record {
    gave = texts ++ text_loaded manifest ∷ [];
    older_too = λ b there. in_append_left b texts (text_loaded manifest ∷ []) there;
    told = record { own = so.own; all = so.all };
    source = λ allowed. inl (in_append_right (text_loaded manifest) texts (text_loaded manifest ∷ []) (inl refl));
  }

  choose_created : (texts : List (List ℕ)) (newer : List Entry) (plans : List Planned) (shelf : ShelfView) (chosen : List Name) (ids : List ManifestId) → CreatedSo texts newer plans shelf → CreatedSo texts (made author (Choose session chosen ids) ∷ newer) plans shelf
  unfolding commits_of commits
  choose_created texts newer plans shelf chosen ids so = record { own = so.own; all = so.all }

  counted_more : (seq : ℕ) (stored : Stored) (past : List Entry) → commits_of session (made author (commit_point session seq stored) ∷ past) ≡ 1 + commits_of session past
  unfolding commits_of commits
  counted_more seq stored past = count_one (λ (x : Entry). commits session x.point) (made author (commit_point session seq stored)) past (self session)

  end_more : (seq : ℕ) (chunks : List (List ℕ)) (against : List Located) (plans : List Planned) → manifest_chunks n streams (record { session = session; seq = seq }) ≡ chunks
      → end_of session (plan_for n streams (record { session = session; seq = seq }) against plans ∷ plans) ≡ end_against chunks against (end_of session plans) n.room
  unfolding plan_for
  end_more seq chunks against plans are =
      end_own (plan_for n streams (record { session = session; seq = seq }) against plans) session plans (self session)
      ∙ ap (λ (cs : List (List ℕ)). end_against cs against (end_of session plans) n.room) are

  commit_created : (texts : List (List ℕ)) (newer : List Entry) (plans : List Planned) (shelf : ShelfView) (seq : ℕ) (chunks : List (List ℕ)) (against : List Located) (stored : Stored)
      → commits_of session (newer ++ older) ≡ seq → manifest_chunks n streams (record { session = session; seq = seq }) ≡ chunks → CreatedSo texts newer plans shelf
      → CreatedSo texts (made author (commit_point session seq stored) ∷ newer) (plan_for n streams (record { session = session; seq = seq }) against plans ∷ plans)
      (after_segment shelf (record { session = session; seq = seq }) chunks against (end_of session plans) n.room)
  commit_created texts newer plans shelf seq chunks against stored counted chunks_are so =
      let end = end_of session plans in
      let laid = end_against chunks against end n.room in
      let end_is = end_more seq chunks against plans chunks_are in
      let containers = ap (λ (e : ContainerEnd). e.containers) end_is in
      let more = counted_more seq stored (newer ++ older) in
      let at = subst (λ (k : ℕ). AllHeld (IsTold session first end.containers k) shelf.held) counted so.all in
      let then_end = end_of session (plan_for n streams (record { session = session; seq = seq }) against plans ∷ plans) in
      let then_count = commits_of session (made author (commit_point session seq stored) ∷ (newer ++ older)) in
      let now = stored_told session first chunks against end so.own n.room seq (seq + 1) shelf at (omega arith) in
      record {
        own = ap (λ (e : ContainerEnd). e.session) end_is ∙ end_against_session chunks against end n.room ∙ so.own;
        all =
            all_weaker (IsTold session first laid.containers (seq + 1)) (IsTold session first then_end.containers then_count)
            (after_segment shelf (record { session = session; seq = seq }) chunks against end n.room).held
            (told_more session first laid.containers (seq + 1) then_end.containers then_count (omega (arith, containers)) (omega (arith, more, counted))) now;
      }

  pub is_creating : IsTelling n streams older author session CreatedSo Any
  is_creating = record {
    before = λ entry past allowed. tt;
    load = λ texts newer plans shelf view manifest live kept_is loaded so. load_created texts newer plans shelf view manifest so;
    choose = λ texts newer plans shelf chosen ids so. choose_created texts newer plans shelf chosen ids so;
    commit = λ rules texts newer plans shelf seq chunks against stored legal counted chunks_are of loaded so. commit_created texts newer plans shelf seq chunks against stored counted chunks_are so;
  }

-- ---- what a history knows of

above : (a b : ℕ) → a ≤ b → a ≢ b → a + 1 ≤ b
above a b low differ = grind arith

in_numbered : (object : ℕ → Object) (from n o : ℕ) → from ≤ o → o < from + n → In (object o) (numbered object from n)
in_numbered object from zero o low high = absurd (omega (arith, low, high))
in_numbered object from (suc n) o low high = elim (eqb_tells from o) [
  | inl (tested, same) ↦ inl (ap object same)
  | inr (tested, differ) ↦ inr (in_numbered object (from + 1) n o (above from o low differ) (omega (arith, high)))
]

here : (object : ℕ → ℕ → Object) (count : Ended → ℕ) (s o : ℕ) (is : Option Ended) (rest : List (Option Ended)) (what : Ended) → is ≡ Some what → o < count what → In (object s o) (objects_of object count s (is ∷ rest))
here object count s o is rest what same below =
    subst (λ (x : Option Ended). In (object s o) (objects_of object count s (x ∷ rest))) (sym same)
    (in_append_left (object s o) (numbered (object s) 0 (count what)) (objects_of object count (s + 1) rest) (in_numbered (object s) 0 (count what) o (omega arith) (omega (arith, below))))

behind : (object : ℕ → ℕ → Object) (count : Ended → ℕ) (s : ℕ) (is : Option Ended) (rest : List (Option Ended)) (x : Object) → In x (objects_of object count (s + 1) rest) → In x (objects_of object count s (is ∷ rest))
behind object count s None rest x there = there
behind object count s (Some what) rest x there = in_append_right x (numbered (object s) 0 (count what)) (objects_of object count (s + 1) rest) there

in_objects : (object : ℕ → ℕ → Object) (count : Ended → ℕ) (f : ℕ → Option Ended) (a n s o : ℕ) (what : Ended) → a ≤ s → s < a + n → f s ≡ Some what → o < count what → In (object s o) (objects_of object count a (map f (range_with_len a n)))
in_objects object count f a zero s o what low high is below = absurd (omega (arith, low, high))
in_objects object count f a (suc n) s o what low high is below = elim (eqb_tells a s) [
  | inl (tested, same) ↦
      let P : ℕ → Type 0 = λ t. In (object t o) (objects_of object count a (map f (range_with_len a (suc n)))) in
      subst P same (here object count a o (f a) (map f (range_with_len (a + 1) n)) what (ap f same ∙ is) below)
  | inr (tested, differ) ↦
      behind object count a (f a) (map f (range_with_len (a + 1) n)) (object s o)
      (in_objects object count f (a + 1) n s o what (above a s low differ) (omega (arith, high)) is below)
]

-- the session ended with so many containers and manifests or more
record EndsWith (session : ℕ) (past : List Entry) (containers texts : ℕ) : Type 0 where
  closed : has (closes session) past ≡ true
  what : Ended
  ended_is : ended session past ≡ Some what
  containers_are : containers ≤ what.containers
  texts_are : texts ≤ what.texts

known_container : (past : List Entry) (session o : ℕ) (what : Ended) → session < session_count past → ended session past ≡ Some what → o < what.containers → In (container_at session o) (known past)
unfolding known all_ended
known_container past session o what begun is below =
    in_append_left (container_at session o) (objects_of container_at (λ (e : Ended). e.containers) 0 (all_ended past)) (objects_of manifest_at (λ (e : Ended). e.texts) 0 (all_ended past))
    (in_objects container_at (λ (e : Ended). e.containers) (λ (s : ℕ). ended s past) 0 (session_count past) session o what (omega arith) (omega (arith, begun)) is below)

known_manifest : (past : List Entry) (session q : ℕ) (what : Ended) → session < session_count past → ended session past ≡ Some what → q < what.texts → In (manifest_at session q) (known past)
unfolding known all_ended
known_manifest past session q what begun is below =
    in_append_right (manifest_at session q) (objects_of container_at (λ (e : Ended). e.containers) 0 (all_ended past)) (objects_of manifest_at (λ (e : Ended). e.texts) 0 (all_ended past))
    (in_objects manifest_at (λ (e : Ended). e.texts) (λ (s : ℕ). ended s past) 0 (session_count past) session q what (omega arith) (omega (arith, begun)) is below)

module _ (rules : Rules) (session : ℕ) (first : Objects) (past : List Entry) (containers texts : ℕ) (legal : is_legal rules past ≡ true) (ends : EndsWith session past containers texts) where
  begun : session < session_count past
  begun = begun_below rules session past legal (closed_begun rules session past legal ends.closed)

  known_name : (name : List ℕ) → IsTold session first containers texts name → HasName first name ⊎ IsKnownName past name
  known_name name (inl was) = inl was
  known_name name (inr (inl (o, below, is))) =
      let most = ends.containers_are in
      inr (record { object = container_at session o; known = Contains-from_in (container_at session o) (known past) (known_container past session o ends.what begun ends.ended_is (omega (arith, below, most))); named = is })
  known_name name (inr (inr (q, below, is))) =
      let most = ends.texts_are in
      inr (record { object = manifest_at session q; known = Contains-from_in (manifest_at session q) (known past) (known_manifest past session q ends.what begun ends.ended_is (omega (arith, below, most))); named = is })

  creates_known : (shelf : ShelfView) → AllHeld (IsTold session first containers texts) shelf.held → CreatesKnown past first shelf
  creates_known shelf all = record { now = all.now; held_is = all.held_is; each = λ name bytes found. known_name name (all.each name bytes found) }

-- ---- how a session ends

ended_now : (session : ℕ) (last : Entry) (past : List Entry) → closes session last.point ≡ true → ended session (last ∷ past) ≡ ended_by (last ∷ past) last.point
unfolding ended newest
ended_now session last past does = rw does refl

module _ (session containers count : ℕ) (last : Entry) (past : List Entry) where
  finish_closes : closes session (Finish session containers) ≡ true
  unfolding closes finishes aborts
  finish_closes = or_left (session == session) false (self session)

  abort_closes : (written : ℕ) → closes session (Abort session containers written) ≡ true
  unfolding closes finishes aborts
  abort_closes written = or_right false (session == session) (self session)

  finish_commits : commits session (Finish session containers) ≡ false
  unfolding commits
  finish_commits = refl

  finish_count : last.point ≡ Finish session containers → commits_of session (last ∷ past) ≡ commits_of session past
  unfolding commits_of
  finish_count is = count_other (λ (x : Entry). commits session x.point) last past (ap (commits session) is ∙ finish_commits)

  ends_finish : commits_of session past ≡ count → last.point ≡ Finish session containers → EndsWith session (last ∷ past) containers count
  unfolding ended_by
  ends_finish counted is =
      let does : closes session last.point ≡ true = ap (closes session) is ∙ finish_closes in
      let same = finish_count is in
      record {
        closed = has_now (closes session) last past does;
        what = record { containers = containers; texts = commits_of session (last ∷ past) };
        ended_is = ended_now session last past does ∙ ap (ended_by (last ∷ past)) is;
        containers_are = omega arith;
        texts_are = omega (arith, same, counted);
      }

  ends_abort : (written : ℕ) → count ≤ written → last.point ≡ Abort session containers written → EndsWith session (last ∷ past) containers count
  unfolding ended_by
  ends_abort written least is =
      let does : closes session last.point ≡ true = ap (closes session) is ∙ abort_closes written in
      record {
        closed = has_now (closes session) last past does;
        what = record { containers = containers; texts = written };
        ended_is = ended_now session last past does ∙ ap (ended_by (last ∷ past)) is;
        containers_are = omega arith;
        texts_are = omega (arith, least);
      }

module _ (n : Numbers) (author session : ℕ) (first : Objects) (last : Entry) (past : List Entry) (plans : List Planned) (count : ℕ) (counted : commits_of session past ≡ count) (own : (end_of session plans).session ≡ session) (before after : ShelfView)
    (all : AllHeld (IsTold session first (end_of session plans).containers count) before.held) where
  record IsLeftSo : Type 0 where
    containers : ℕ
    texts : ℕ
    ends : EndsWith session (last ∷ past) containers texts
    told : AllHeld (IsTold session first containers texts) after.held

  closes_so : Closes session (end_of session plans).containers count last → EndsWith session (last ∷ past) (end_of session plans).containers count
  closes_so (by_finish is) = ends_finish session (end_of session plans).containers count last past counted is
  closes_so (by_abort written least is) = ends_abort session (end_of session plans).containers count last past written least is

  left_so : IsLeft n author session count last plans before after → IsLeftSo
  left_so (untouched same closing) = record {
    containers = (end_of session plans).containers;
    texts = count;
    ends = closes_so closing;
    told = subst (AllHeld (IsTold session first (end_of session plans).containers count)) (sym same) all;
  }
  left_so (put_some chunks against written last_is some) =
      let laid = end_against chunks against (end_of session plans) n.room in
      record {
        containers = laid.containers;
        texts = written;
        ends = ends_abort session laid.containers written last past written (omega arith) (ap (λ (e : Entry). e.point) last_is);
        told = some_told session first chunks against (end_of session plans) own n.room count written before all after some;
      }

module _ (n : Numbers) (streams : Streams) (older : List Entry) (author session : ℕ) (first : Objects) where
  pub ended-creates : (rules : Rules) (past : List Entry) (after : ShelfView) → HasEnded n streams older author session (CreatedSo n streams older author session first) (Any n streams older author session first) (is_creating n streams older author session first) past after
      → is_legal rules past ≡ true → CreatesKnown past first after
  ended-creates rules past after is legal =
      let before_last = is.then_newer ++ older in
      let at = subst (λ (k : ℕ). AllHeld (IsTold session first (end_of session is.then_plans).containers k) is.then_shelf.held) is.counted is.told.all in
      let left = left_so n author session first is.last before_last is.then_plans is.count is.counted is.told.own is.then_shelf after at is.left in
      subst (λ (p : List Entry). CreatesKnown p first after) (sym is.past_is)
      (creates_known rules session first (is.last ∷ before_last) left.containers left.texts (subst (λ (p : List Entry). is_legal rules p ≡ true) is.past_is legal) left.ends after left.told)
