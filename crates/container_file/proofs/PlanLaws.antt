-- A plan with one more chunk is laid out with one more chunk.
use Rattle.std.proofs.Common.{◌≡◌, ℕ, ◌+◌, ◌-◌, ◌<◌, ◌≤◌, suc, Bool, true, false, nat_lt, List, [], ◌∷◌, ◌++◌, map, length, get_or, take, drop, refl, sym, subst, ap, ◌∙◌, inl, inr, arith}
use Rattle.std.specs.List.{sum_by}
use Rattle.std.proofs.Math.Seq.{drop-cons}
use Rattle.std.proofs.lemmas.List.{map-append, length-drop, drop_all}
use Rattle.std.proofs.lemmas.List.Sums.{sum_by-cons}
use Rattle.ss_base.specs.declared.ids.ContainerId.{ContainerId}
use Rattle.ss_base.specs.declared.ids.Place.{Place}
use Rattle.ss_base.specs.declared.name.Piece.{Piece}
use Rattle.container_file.specs.declared.container_end.ContainerEnd.{ContainerEnd}
use Rattle.container_file.specs.Chunk.{Chunk, the_chunk, chunks_of, marked, fresh_chunks}
use Rattle.container_file.specs.Layout.{opened, after, place_for, Laid, laid, places, end_after, Written, written, puts}
use Rattle.container_file.specs.declared.layout.Plan.{Plan}
use Rattle.container_file.specs.Plan.{TakesPut, IsLaidOut}
use Rattle.container_file.proofs.LayoutLaws.{opened_cases, end_after-push, end_session, laid-push, with_record, placed}
use Rattle.container_file.proofs.PutsLaws.{puts-push, target, rises}

-- the last container of these
abbrev pub last_of : ContainerEnd → ContainerId
last_of to = record { session = to.session; ordinal = to.containers - 1 }

-- these containers with one more record
abbrev pub grown : ContainerEnd → Piece → ContainerEnd
grown to p = record { session = to.session; containers = to.containers; used = to.used + 36 + p.len }

after_is : (end : ContainerEnd) (room : ℕ) (p : Piece) → grown (opened end room p) p ≡ after end room p
unfolding after
after_is end room p = refl

place_is : (end : ContainerEnd) (room : ℕ) (p : Piece) → record { container = last_of (opened end room p); offset = (opened end room p).used + 36 } ≡ place_for end room p
unfolding place_for
place_is end room p = refl

pub opened_session : (end : ContainerEnd) (room : ℕ) (p : Piece) → (opened end room p).session ≡ end.session
opened_session end room p = elim (opened_cases end room p) [
  | inl s ↦ ap (λ (e : ContainerEnd). e.session) s.same
  | inr r ↦ r.session
]

pub end_grows : (end : ContainerEnd) (room : ℕ) (cs : List Chunk) (c : Chunk) (now to : ContainerEnd) → now ≡ end_after end room cs → to ≡ opened now room c.piece → grown to c.piece ≡ end_after end room (cs ++ c ∷ [])
end_grows end room cs c now to is goes =
    ap (λ t. grown t c.piece) (goes ∙ ap (λ e. opened e room c.piece) is) ∙ after_is (end_after end room cs) room c.piece ∙ sym (end_after-push end room cs c)

pub places-push : (end : ContainerEnd) (room : ℕ) (cs : List Chunk) (c : Chunk) (now to : ContainerEnd) → now ≡ end_after end room cs → to ≡ opened now room c.piece → places end room cs ++ record { container = last_of to; offset = to.used + 36 } ∷ [] ≡ places end room (cs ++ c ∷ [])
places-push end room cs c now to is goes =
    let place = λ (l : Laid). l.place in
    ap (λ t. places end room cs ++ record { container = last_of t; offset = t.used + 36 } ∷ []) (goes ∙ ap (λ e. opened e room c.piece) is)
    ∙ ap (λ p. places end room cs ++ p ∷ []) (place_is (end_after end room cs) room c.piece)
    ∙ sym (ap (map place) (laid-push end room cs c) ∙ map-append place (laid end room cs) (placed end room cs c ∷ []))

pub puts_grow : (end : ContainerEnd) (room : ℕ) (cs : List Chunk) (c : Chunk) (now to : ContainerEnd) (old new : List Written) (put : Written) → now ≡ end_after end room cs → to ≡ opened now room c.piece →
    old ≡ puts end room cs → TakesPut (last_of to) (nat_lt now.containers to.containers) old new put →
    new ++ with_record put c ∷ [] ≡ puts end room (cs ++ c ∷ [])
puts_grow end room cs c now to old new put is goes were takes =
    let there = goes ∙ ap (λ e. opened e room c.piece) is in
    let before = end_after end room cs in
    let ordinal = ap (λ (p : Place). p.container.ordinal) (place_is before room c.piece) in
    let session = opened_session before room c.piece ∙ end_session end room cs in
    let id : last_of to ≡ target end room cs c = ap last_of there ∙ (λ i. record { session = session i; ordinal = ordinal i }) in
    let rose : nat_lt now.containers to.containers ≡ rises end room cs c = ap (λ (e : ContainerEnd). nat_lt e.containers to.containers) is ∙ ap (λ (e : ContainerEnd). nat_lt before.containers e.containers) there in
    puts-push end room cs c old new put were (subst (λ b. TakesPut (target end room cs c) b old new put) rose (subst (λ t. TakesPut t (nat_lt now.containers to.containers) old new put) id takes))

suc-one : (i : ℕ) → suc i ≡ i + 1
suc-one i = omega arith

-- what is left of the fresh chunks, one chunk further on
further : {X : Type 0} (xs : List X) (i : ℕ) (d : X) → i < length xs → drop i xs ≡ get_or xs i d ∷ drop (i + 1) xs
further xs i d lt = drop-cons xs i d lt ∙ ap (λ k. get_or xs i d ∷ drop k xs) (suc-one i)

unfolded : (p : Piece) (ps : List Piece) (rest : List ℕ) (mark : Bool) (marks : List Bool) → mark ≡ true → fresh_chunks (p ∷ ps) rest (mark ∷ marks) ≡ the_chunk p (take p.len rest) ∷ fresh_chunks ps (drop p.len rest) marks
unfolding marked chunks_of
unfolded p ps rest mark marks is = ap (λ m. fresh_chunks (p ∷ ps) rest (m ∷ marks)) is

skipped : (p : Piece) (ps : List Piece) (rest : List ℕ) (mark : Bool) (marks : List Bool) → mark ≡ false → fresh_chunks (p ∷ ps) rest (mark ∷ marks) ≡ fresh_chunks ps (drop p.len rest) marks
unfolding marked chunks_of
skipped p ps rest mark marks is = ap (λ m. fresh_chunks (p ∷ ps) rest (m ∷ marks)) is

pub takes-fresh : (pieces : List Piece) (rest : List ℕ) (fresh : List Bool) (i : ℕ) (p : Piece) (m : Bool) → i < length pieces → i < length fresh → get_or fresh i m ≡ true →
    fresh_chunks (drop i pieces) rest (drop i fresh) ≡ the_chunk (get_or pieces i p) (take (get_or pieces i p).len rest) ∷ fresh_chunks (drop (i + 1) pieces) (drop (get_or pieces i p).len rest) (drop (i + 1) fresh)
takes-fresh pieces rest fresh i p m lp lf is =
    ap (λ ps. fresh_chunks ps rest (drop i fresh)) (further pieces i p lp)
    ∙ ap (λ fs. fresh_chunks (get_or pieces i p ∷ drop (i + 1) pieces) rest fs) (further fresh i m lf)
    ∙ unfolded (get_or pieces i p) (drop (i + 1) pieces) rest (get_or fresh i m) (drop (i + 1) fresh) is

pub skips-stored : (pieces : List Piece) (rest : List ℕ) (fresh : List Bool) (i : ℕ) (p : Piece) (m : Bool) → i < length pieces → i < length fresh → get_or fresh i m ≡ false →
    fresh_chunks (drop i pieces) rest (drop i fresh) ≡ fresh_chunks (drop (i + 1) pieces) (drop (get_or pieces i p).len rest) (drop (i + 1) fresh)
skips-stored pieces rest fresh i p m lp lf is =
    ap (λ ps. fresh_chunks ps rest (drop i fresh)) (further pieces i p lp)
    ∙ ap (λ fs. fresh_chunks (get_or pieces i p ∷ drop (i + 1) pieces) rest fs) (further fresh i m lf)
    ∙ skipped (get_or pieces i p) (drop (i + 1) pieces) rest (get_or fresh i m) (drop (i + 1) fresh) is

pub left-after : (pieces : List Piece) (rest : List ℕ) (i : ℕ) (p : Piece) → i < length pieces → sum_by (λ (q : Piece). q.len) (drop i pieces) ≡ length rest → sum_by (λ (q : Piece). q.len) (drop (i + 1) pieces) ≡ length (drop (get_or pieces i p).len rest)
left-after pieces rest i p lt left =
    let whole = ap (sum_by (λ (q : Piece). q.len)) (further pieces i p lt) ∙ sum_by-cons (λ (q : Piece). q.len) (get_or pieces i p) (drop (i + 1) pieces) in
    let size = length-drop (get_or pieces i p).len rest in
    omega (arith, whole, size, left)

none-marked : (marks : List Bool) (rest : List ℕ) → fresh_chunks [] rest marks ≡ []
unfolding marked chunks_of
none-marked [] rest = refl
none-marked (m ∷ marks) rest = refl

pub none-left : (pieces : List Piece) (rest : List ℕ) (fresh : List Bool) (i : ℕ) → length pieces ≤ i → fresh_chunks (drop i pieces) rest (drop i fresh) ≡ []
none-left pieces rest fresh i high = ap (λ ps. fresh_chunks ps rest (drop i fresh)) (drop_all i pieces high) ∙ none-marked (drop i fresh) rest

-- a plan of nothing
pub nothing-laid : (end : ContainerEnd) (room : ℕ) (plan : Plan) → plan.puts.items ≡ [] → plan.places.items ≡ [] → plan.end ≡ end → IsLaidOut end room [] plan
unfolding puts laid end_after
nothing-laid end room plan no_puts no_places same = record { puts_are = ap (map written) no_puts; places_are = no_places; end_is = same }
