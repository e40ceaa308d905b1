-- What is laid out for a session stands at its places in the texts of its containers.
use Rattle.std.proofs.Common.{◌≡◌, ◌≢◌, ◌⊎◌, ℕ, ◌+◌, ◌<◌, ◌≤◌, Bool, ◌==◌, true, false, nat_eq, List, [], ◌∷◌, ◌++◌, map, length, take, All, refl, sym, ap, ◌∙◌, subst, inl, inr, append_assoc, append-nil, arith, length-append}
use Rattle.std.specs.Int.{w32, to_be_bytes}
use Rattle.std.proofs.lemmas.Bool.{cases_Bool, cases_lt, cases_eq, ne_eqb, eqb-true}
use Rattle.std.proofs.lemmas.Bool.Decides.{nat_tests}
use Rattle.std.proofs.lemmas.List.{take_at, drop_at, map-append}
use Rattle.std.proofs.lemmas.List.Concat.{flat_map-cons}
use Rattle.std.proofs.lemmas.List.Elements.{filter-append}
use Rattle.ss_base.specs.declared.ids.ContainerId.{ContainerId}
use Rattle.ss_base.specs.declared.ids.ManifestId.{ManifestId}
use Rattle.ss_base.specs.declared.name.Piece.{Piece}
use Rattle.ss_base.specs.declared.profile.Numbers.{Numbers}
use Rattle.ss_base.specs.Origins.{fresh_marks}
use Rattle.ss_base.specs.Profile.{AreSound}
use Rattle.ss_base.proofs.MemberLaws.{In, filter_in, map_in, append_in, All-from_in}
use Rattle.chunk_name.specs.Pieces.{piece}
use Rattle.chunk_name.proofs.NameLaws.{length-name_of_bytes}
use Rattle.container_file.specs.declared.container_end.ContainerEnd.{ContainerEnd}
use Rattle.container_file.specs.declared.scanning.ScanRecord.{ScanRecord}
use Rattle.container_file.specs.Chunk.{Chunk, the_chunk, IsChunk, marked}
use Rattle.container_file.specs.Layout.{opened, after, place_for, Laid, laid, end_after, laid_in}
use Rattle.container_file.specs.Scanned.{records_from, records_of}
use Rattle.container_file.specs.Text.{header, record_text, records_text, container_text}
use Rattle.container_file.proofs.LayoutLaws.{opened_cases, place_ordinal, ordinal_for, ordinal_last, after_session, after_bounds, if-true, if-false}
use Rattle.container_file.proofs.TextLaws.{All-first, All-rest, length-record_text, length-records_text-push, records_from-push}
use Rattle.segment_plan.specs.Plan.{Located, pieces_of, fresh_of, laid_against, end_against}
use Rattle.outside.specs.Shelf.{part_of}
use Rattle.journal_entry.specs.declared.entry.Entry.{Entry}
use Rattle.journal_entry.specs.declared.entry.Point.{Point}
use Rattle.journal_entry.specs.declared.entry.Point.TheVariants.{Commit}
use Rattle.history.specs.Sessions.{pending_champions}
use Rattle.stored_streams.specs.Streams.{Streams, manifest_chunks}
use Rattle.stored_streams.specs.Plans.{Planned, last_plan, end_of, laid_of, located_of, plan_for, next_plan, plans_after, plans_of}
use Rattle.stored_streams.proofs.PlanLaws.{laid_own, laid_other, end_own, end_other}
use Rattle.stored_streams.proofs.SegmentLaws.{chunk_sized}

abbrev chunks : List Laid → List Chunk
chunks ls = map (λ (l : Laid). l.chunk) ls

abbrev shown : List Laid → List ScanRecord
shown ls = map (λ (l : Laid). record { piece = l.chunk.piece; offset = l.place.offset }) ls

-- ---- where records are listed, their bytes are

first_offset : List ScanRecord → ℕ
first_offset [] = 0
first_offset (r ∷ rs) = r.offset

others : List ScanRecord → List ScanRecord
others [] = []
others (r ∷ rs) = rs

-- the bytes of a record, behind its length and its name
apart : (before : List ℕ) (c : Chunk) (x : List ℕ) → before ++ (record_text c ++ x) ≡ ((before ++ to_be_bytes w32 c.piece.len) ++ c.piece.name.0) ++ (c.bytes ++ x)
apart before c x =
    let size = to_be_bytes w32 c.piece.len in
    let name = c.piece.name.0 in
    ap (λ t. before ++ t) (append_assoc size (name ++ c.bytes) x ∙ ap (λ t. size ++ t) (append_assoc name c.bytes x))
    ∙ sym (append_assoc before size (name ++ (c.bytes ++ x)))
    ∙ sym (append_assoc (before ++ size) name (c.bytes ++ x))

part_first : (before : List ℕ) (c : Chunk) (x : List ℕ) (at : ℕ) → IsChunk c → at ≡ length before + 36 → part_of (before ++ (record_text c ++ x)) at c.piece.len ≡ c.bytes
part_first before c x at is place =
    let front = (before ++ to_be_bytes w32 c.piece.len) ++ c.piece.name.0 in
    let whole = length-append (before ++ to_be_bytes w32 c.piece.len) c.piece.name.0 in
    let start = length-append before (to_be_bytes w32 c.piece.len) in
    let size : length front ≡ at = omega (arith, whole, start, is.name, place) in
    ap (λ t. part_of t at c.piece.len) (apart before c x)
    ∙ ap (take c.piece.len) (drop_at front (c.bytes ++ x) at size)
    ∙ take_at c.bytes x c.piece.len is.bytes

part_listed : (before rest : List ℕ) (at : ℕ) (ls : List Laid) → length before ≡ at → All IsChunk (chunks ls) → records_from at (chunks ls) ≡ shown ls → (l : Laid) → In l ls → part_of (before ++ (records_text (chunks ls) ++ rest)) l.place.offset l.chunk.piece.len ≡ l.chunk.bytes
unfolding records_from first_offset others
part_listed before rest at [] start all listed l h = absurd h
part_listed before rest at (m ∷ ls) start all listed l h =
    let c = m.chunk in
    let is = All-first IsChunk c (chunks ls) all in
    let split : records_text (chunks (m ∷ ls)) ++ rest ≡ record_text c ++ (records_text (chunks ls) ++ rest) =
    ap (λ t. t ++ rest) (flat_map-cons record_text c (chunks ls)) ∙ append_assoc (record_text c) (records_text (chunks ls)) rest in
    elim h [
      | inl same ↦
          let place : at + 36 ≡ m.place.offset = ap first_offset listed in
          subst (λ (l : Laid). part_of (before ++ (records_text (chunks (m ∷ ls)) ++ rest)) l.place.offset l.chunk.piece.len ≡ l.chunk.bytes) same
          (ap (λ t. part_of (before ++ t) m.place.offset c.piece.len) split
          ∙ part_first before c (records_text (chunks ls) ++ rest) m.place.offset is (omega (arith, start, place)))
      | inr later ↦
          let one = length-record_text c is in
          let both = length-append before (record_text c) in
          ap (λ t. part_of (before ++ t) l.place.offset l.chunk.piece.len) split
          ∙ ap (λ t. part_of t l.place.offset l.chunk.piece.len) (sym (append_assoc before (record_text c) (records_text (chunks ls) ++ rest)))
          ∙ part_listed (before ++ record_text c) rest (at + 36 + c.piece.len) ls (omega (arith, start, one, both)) (All-rest IsChunk c (chunks ls) all) (ap others listed) l later
    ]

-- in a container that begins with the records
part_there : (id : ContainerId) (rest : List ℕ) (ls : List Laid) → All IsChunk (chunks ls) → records_of (chunks ls) ≡ shown ls → (l : Laid) → In l ls → part_of (container_text id (chunks ls) ++ rest) l.place.offset l.chunk.piece.len ≡ l.chunk.bytes
part_there id rest ls all listed l h =
    ap (λ t. part_of t l.place.offset l.chunk.piece.len) (append_assoc (header id) (records_text (chunks ls)) rest)
    ∙ part_listed (header id) rest 16 ls refl all listed l h

-- ---- what is laid out for a session

-- each chunk has its place among the records of its container, up to the end of what is laid out
pub record AreLaid (session : ℕ) (end : ContainerEnd) (ls : List Laid) : Type 0 where
  pub own : end.session ≡ session
  pub sessions : (l : Laid) → In l ls → l.place.container.session ≡ session
  pub each : (l : Laid) → In l ls → IsChunk l.chunk
  pub listed : (o : ℕ) → records_of (chunks (laid_in o ls)) ≡ shown (laid_in o ls)
  pub used : (o : ℕ) → end.containers ≡ o + 1 → end.used ≡ 16 + length (records_text (chunks (laid_in o ls)))
  pub none : (o : ℕ) → end.containers ≤ o → laid_in o ls ≡ []

in_laid : (o : ℕ) (l : Laid) (ls : List Laid) → In l ls → l.place.container.ordinal ≡ o → In l (laid_in o ls)
in_laid o l [] h is = absurd h
in_laid o l (m ∷ ls) (inl same) is =
    let here : nat_eq m.place.container.ordinal o ≡ true = let at : m.place.container.ordinal ≡ o = ap (λ (l : Laid). l.place.container.ordinal) same ∙ is in grind (arith, nat_tests) in
    rw here (inl same)
in_laid o l (m ∷ ls) (inr later) is = elim (cases_Bool (nat_eq m.place.container.ordinal o)) [
  | inl here ↦ rw here (inr (in_laid o l ls later is))
  | inr other ↦ rw other (in_laid o l ls later is)
]

all_chunks : (session : ℕ) (end : ContainerEnd) (ls : List Laid) (o : ℕ) → AreLaid session end ls → All IsChunk (chunks (laid_in o ls))
all_chunks session end ls o are = All-from_in IsChunk (chunks (laid_in o ls)) (λ c h.
    let from = map_in (λ (l : Laid). l.chunk) c (laid_in o ls) h in
    subst IsChunk from.2 (are.each from.0 (filter_in (λ (l : Laid). nat_eq l.place.container.ordinal o) from.0 ls from.1).0))

-- a laid chunk stands at its place in a container that begins with what is laid out there
pub laid_there : (session : ℕ) (end : ContainerEnd) (ls : List Laid) (rest : List ℕ) (l : Laid) → AreLaid session end ls → In l ls → part_of (container_text l.place.container (chunks (laid_in l.place.container.ordinal ls)) ++ rest) l.place.offset l.chunk.piece.len ≡ l.chunk.bytes
laid_there session end ls rest l are h =
    let o = l.place.container.ordinal in
    part_there l.place.container rest (laid_in o ls) (all_chunks session end ls o are) (are.listed o) l (in_laid o l ls h refl)

no_item : {X : Type 0} (x : X) (xs : List X) → xs ≡ [] → In x xs → ⊥
no_item x [] none h = h
no_item x (y ∷ ys) none h = absurd (cc)

-- its container is one of the session's
pub laid_below : (session : ℕ) (end : ContainerEnd) (ls : List Laid) (l : Laid) → AreLaid session end ls → In l ls → l.place.container.ordinal < end.containers
laid_below session end ls l are h =
    let o = l.place.container.ordinal in
    elim (cases_lt o end.containers) [
      | inl below ↦ below
      | inr past ↦ absurd (no_item l (laid_in o ls) (are.none o past) (in_laid o l ls h refl))
    ]

pub none_laid_yet : (session : ℕ) → AreLaid session (record { session = session; containers = 0; used = 0 }) []
unfolding records_from
none_laid_yet session = record {
  own = refl;
  sessions = λ l h. absurd h;
  each = λ l h. absurd h;
  listed = λ o. refl;
  used = λ o is. absurd (omega (arith, is));
  none = λ o past. refl;
}

-- ---- one chunk more

abbrev one : ContainerEnd → ℕ → Chunk → Laid
one end room c = record { chunk = c; place = place_for end room c.piece }

place_offset : (end : ContainerEnd) (room : ℕ) (c : Chunk) → (one end room c).place.offset ≡ (opened end room c.piece).used + 36
unfolding place_for
place_offset end room c = refl

place_session : (end : ContainerEnd) (room : ℕ) (c : Chunk) → (one end room c).place.container.session ≡ (after end room c.piece).session
unfolding place_for after
place_session end room c = refl

after_used : (end : ContainerEnd) (room : ℕ) (c : Chunk) → (after end room c.piece).used ≡ (opened end room c.piece).used + 36 + c.piece.len
unfolding after
after_used end room c = refl

module _ (session : ℕ) (end : ContainerEnd) (room : ℕ) (ls : List Laid) (c : Chunk) (is : IsChunk c) (are : AreLaid session end ls) where
  abbrev more : List Laid
  more = ls ++ one end room c ∷ []

  abbrev last : ℕ
  last = ordinal_for end room c.piece

  -- the container to which it goes ends behind what is laid out there
  opened_used : (opened end room c.piece).used ≡ 16 + length (records_text (chunks (laid_in last ls)))
  opened_used =
      let at = place_ordinal end room c.piece in
      elim (opened_cases end room c.piece) [
        | inl stays ↦
            let count : (opened end room c.piece).containers ≡ end.containers = ap (λ (e : ContainerEnd). e.containers) stays.same in
            let some = stays.some in
            ap (λ (e : ContainerEnd). e.used) stays.same ∙ are.used last (omega (arith, at, count, some))
        | inr rises ↦
            let count = rises.containers in
            rises.used ∙ ap (λ (ls : List Laid). 16 + length (records_text (chunks ls))) (sym (are.none last (omega (arith, at, count))))
      ]

  laid_last : laid_in last more ≡ laid_in last ls ++ one end room c ∷ []
  laid_last =
      let here : nat_eq last last ≡ true = grind (arith, nat_tests) in
      filter-append (λ (l : Laid). nat_eq l.place.container.ordinal last) ls (one end room c ∷ [])
      ∙ ap (λ xs. laid_in last ls ++ xs) (if-true (nat_eq last last) (one end room c ∷ []) [] here)

  laid_elsewhere : (o : ℕ) → last ≢ o → laid_in o more ≡ laid_in o ls
  laid_elsewhere o other =
      filter-append (λ (l : Laid). nat_eq l.place.container.ordinal o) ls (one end room c ∷ [])
      ∙ ap (λ xs. laid_in o ls ++ xs) (if-false (nat_eq last o) (one end room c ∷ []) [] (ne_eqb last o other))
      ∙ append-nil (laid_in o ls)

  chunks_last : chunks (laid_in last more) ≡ chunks (laid_in last ls) ++ c ∷ []
  chunks_last = ap chunks laid_last ∙ map-append (λ (l : Laid). l.chunk) (laid_in last ls) (one end room c ∷ [])

  listed_last : records_of (chunks (laid_in last more)) ≡ shown (laid_in last more)
  listed_last =
      let cs = chunks (laid_in last ls) in
      let at = (opened end room c.piece).used in
      ap records_of chunks_last
      ∙ records_from-push 16 at cs c (all_chunks session end ls last are) opened_used
      ∙ ap (λ (rs : List ScanRecord). rs ++ record { piece = c.piece; offset = at + 36 } ∷ []) (are.listed last)
      ∙ ap (λ (n : ℕ). shown (laid_in last ls) ++ record { piece = c.piece; offset = n } ∷ []) (sym (place_offset end room c))
      ∙ sym (map-append (λ (l : Laid). record { piece = l.chunk.piece; offset = l.place.offset }) (laid_in last ls) (one end room c ∷ []))
      ∙ ap shown (sym laid_last)

  used_last : (after end room c.piece).used ≡ 16 + length (records_text (chunks (laid_in last more)))
  used_last =
      let cs = chunks (laid_in last ls) in
      let used = after_used end room c in
      let before = opened_used in
      let pushed = length-records_text-push cs c is in
      let same : length (records_text (chunks (laid_in last more))) ≡ length (records_text (cs ++ c ∷ [])) = ap (λ (ds : List Chunk). length (records_text ds)) chunks_last in
      omega (arith, used, before, pushed, same)

  more_in : (l : Laid) → In l more → In l ls ⊎ (one end room c ≡ l)
  more_in l h = elim (append_in l ls (one end room c ∷ []) h) [
    | inl old ↦ inl old
    | inr new ↦ elim new [ inl same ↦ inr same | inr none ↦ absurd none ]
  ]

  one_more : AreLaid session (after end room c.piece) more
  one_more =
      let top = ordinal_last end room c.piece in
      let bounds = after_bounds end room c.piece in
      record {
        own = after_session end room c.piece ∙ are.own;
        sessions = λ l h. elim (more_in l h) [
          | inl old ↦ are.sessions l old
          | inr same ↦ ap (λ (l : Laid). l.place.container.session) (sym same) ∙ place_session end room c ∙ after_session end room c.piece ∙ are.own
        ];
        each = λ l h. elim (more_in l h) [
          | inl old ↦ are.each l old
          | inr same ↦ subst (λ (l : Laid). IsChunk l.chunk) same is
        ];
        listed = λ o. elim (cases_eq last o) [
          | inl same ↦ subst (λ (o : ℕ). records_of (chunks (laid_in o more)) ≡ shown (laid_in o more)) same listed_last
          | inr other ↦ ap (λ (xs : List Laid). records_of (chunks xs)) (laid_elsewhere o other) ∙ are.listed o ∙ ap shown (sym (laid_elsewhere o other))
        ];
        used = λ o at. let same : last ≡ o = omega (arith, top, at) in subst (λ (o : ℕ). (after end room c.piece).used ≡ 16 + length (records_text (chunks (laid_in o more)))) same used_last;
        none = λ o past. laid_elsewhere o (λ same. absurd (omega (arith, top, past, same))) ∙ are.none o (omega (arith, bounds.0, past));
      }

-- ---- more chunks

pub more_laid : (session : ℕ) (end : ContainerEnd) (room : ℕ) (ls : List Laid) (cs : List Chunk) → ((c : Chunk) → In c cs → IsChunk c) → AreLaid session end ls → AreLaid session (end_after end room cs) (ls ++ laid end room cs)
unfolding end_after laid
more_laid session end room ls [] each are = subst (AreLaid session end) (sym (append-nil ls)) are
more_laid session end room ls (c ∷ cs) each are =
    subst (AreLaid session (end_after (after end room c.piece) room cs)) (append_assoc ls (one end room c ∷ []) (laid (after end room c.piece) room cs))
    (more_laid session (after end room c.piece) room (ls ++ one end room c ∷ []) cs (λ d h. each d (inr h)) (one_more session end room ls c (each c (inl refl)) are))

-- ---- fresh chunks of a segment

marked_in : {X : Type 0} (x : X) (marks : List Bool) (xs : List X) → In x (marked marks xs) → In x xs
unfolding marked
marked_in x [] xs h = absurd h
marked_in x (mark ∷ marks) [] h = absurd h
marked_in x (true ∷ marks) (y ∷ ys) (inl same) = inl same
marked_in x (true ∷ marks) (y ∷ ys) (inr later) = inr (marked_in x marks ys later)
marked_in x (false ∷ marks) (y ∷ ys) h = inr (marked_in x marks ys h)

fresh_in : (c : Chunk) (segment : List (List ℕ)) (lists : List (List Piece)) → In c (fresh_of segment lists) → (bytes : List ℕ) × In bytes segment × (the_chunk (piece bytes) bytes ≡ c)
unfolding fresh_of
fresh_in c segment lists h =
    let found = marked_in c (fresh_marks (map piece segment) lists) (map (λ bytes. the_chunk (piece bytes) bytes) segment) h in
    map_in (λ bytes. the_chunk (piece bytes) bytes) c segment found

laid_chunk : (end : ContainerEnd) (room : ℕ) (cs : List Chunk) (l : Laid) → In l (laid end room cs) → In l.chunk cs
unfolding laid
laid_chunk end room [] l h = absurd h
laid_chunk end room (c ∷ cs) l (inl same) = inl (ap (λ (l : Laid). l.chunk) same)
laid_chunk end room (c ∷ cs) l (inr later) = inr (laid_chunk (after end room c.piece) room cs l later)

-- what is laid out for a segment is one of its chunks, with its piece
pub laid_from : (segment : List (List ℕ)) (located : List Located) (end : ContainerEnd) (room : ℕ) (l : Laid) → In l (laid_against segment located end room) → (bytes : List ℕ) × In bytes segment × (the_chunk (piece bytes) bytes ≡ l.chunk)
unfolding laid_against
laid_from segment located end room l h =
    fresh_in l.chunk segment (pieces_of located) (laid_chunk end room (fresh_of segment (pieces_of located)) l h)

is_chunk : (n : Numbers) (streams : Streams) (id : ManifestId) (bytes : List ℕ) → AreSound n → In bytes (manifest_chunks n streams id) → IsChunk (the_chunk (piece bytes) bytes)
is_chunk n streams id bytes sound h =
    let sized = chunk_sized n streams id bytes sound h in
    let limit = sound.chunk in
    record { name = length-name_of_bytes bytes; len = (omega (arith, sized.0), omega (arith, sized.1, limit)); bytes = refl }

-- ---- what is laid out for a session's commits

are_same : (session : ℕ) (first second : ContainerEnd) (ls ms : List Laid) → first ≡ second → ls ≡ ms → AreLaid session first ls → AreLaid session second ms
are_same session first second ls ms ends lays are = subst (λ (e : ContainerEnd). AreLaid session e ms) ends (subst (λ (xs : List Laid). AreLaid session first xs) lays are)

own_laid : (n : Numbers) (streams : Streams) (past : List Entry) (id : ManifestId) (plans : List Planned) → AreSound n → AreLaid id.session (end_of id.session plans) (laid_of id.session plans) → AreLaid id.session (next_plan n streams past id plans).end (laid_of id.session plans ++ (next_plan n streams past id plans).laid)
unfolding next_plan plan_for end_against laid_against
own_laid n streams past id plans sound are =
    let located = located_of n streams (pending_champions id.session past) plans in
    let fresh = fresh_of (manifest_chunks n streams id) (pieces_of located) in
    more_laid id.session (end_of id.session plans) n.room (laid_of id.session plans) fresh (λ c h.
    let from = fresh_in c (manifest_chunks n streams id) (pieces_of located) h in
    subst IsChunk from.2 (is_chunk n streams id from.0 sound from.1)) are

after_laid : (n : Numbers) (streams : Streams) (past : List Entry) (point : Point) (session : ℕ) (plans : List Planned) → AreSound n → AreLaid session (end_of session plans) (laid_of session plans) → AreLaid session (end_of session (plans_after n streams past point plans)) (laid_of session (plans_after n streams past point plans))
unfolding plans_after next_plan plan_for
after_laid n streams past (Commit id content text count bytes fresh fresh_bytes uses) session plans sound are =
    let plan = next_plan n streams past id plans in
    elim (cases_Bool (id.session == session)) [
      | inl own ↦
          let more = subst (λ (s : ℕ). AreLaid s (end_of s plans) (laid_of s plans) → AreLaid s plan.end (laid_of s plans ++ plan.laid)) (eqb-true id.session session own) (own_laid n streams past id plans sound) in
          are_same session plan.end (end_of session (plan ∷ plans)) (laid_of session plans ++ plan.laid) (laid_of session (plan ∷ plans)) (sym (end_own plan session plans own)) (sym (laid_own plan session plans own)) (more are)
      | inr not ↦ are_same session (end_of session plans) (end_of session (plan ∷ plans)) (laid_of session plans) (laid_of session (plan ∷ plans)) (sym (end_other plan session plans not)) (sym (laid_other plan session plans not)) are
    ]
after_laid n streams past _ session plans sound are = are

pub session_laid : (n : Numbers) (streams : Streams) (past : List Entry) (session : ℕ) → AreSound n → AreLaid session (end_of session (plans_of n streams past)) (laid_of session (plans_of n streams past))
unfolding plans_of end_of last_plan laid_of
session_laid n streams [] session sound = none_laid_yet session
session_laid n streams (entry ∷ past) session sound = after_laid n streams past entry.point session (plans_of n streams past) sound (session_laid n streams past session sound)
