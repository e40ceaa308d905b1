-- The example of two backups of one stream meets all that the law of what is stored asks for.
use Rattle.std.proofs.Common.{◌≡◌, ℕ, ◌<◌, ◌≤◌, ◌+◌, ◌^◌, leb as nat_le, true, false, List, [], ◌∷◌, ◌++◌, length, Option, Some, None, refl, sym, ap, ◌∙◌, subst, inl, inr, arith}
use mathlib.Core.List.{map}
use Rattle.std.specs.List.{All, AllByRecursion, slice_index_or}
use Rattle.std.specs.Option.{unwrap_or}
use Rattle.std.proofs.lemmas.Bool.{and_from, or_left, cases_Bool}
use Rattle.std.proofs.lemmas.Bool.Decides.{nat_tests}
use Rattle.std.proofs.lemmas.List.Elements.{All-from_recursion}
use Rattle.ss_base.specs.declared.name.Name.{Name}
use Rattle.ss_base.specs.declared.name.Piece.{Piece}
use Rattle.ss_base.specs.declared.profile.Numbers.{Numbers}
use Rattle.ss_base.specs.declared.profile.Profile.{Profile}
use Rattle.ss_base.specs.declared.profile.Profile.TheVariants.{Tiny, Small, Large}
use Rattle.ss_base.specs.Profile.{numbers_of}
use Rattle.ss_base.specs.Parts.{parts, parts_within}
use Rattle.ss_base.specs.Search.{least}
use Rattle.ss_base.proofs.SoundLaws.{AreSound-numbers_of}
use Rattle.tttd_chunker.specs.Cut.{cut, first_cut}
use Rattle.segmenter.specs.Segments.{ends_at, first_count, segments}
use Rattle.segment_reader.specs.SegmentsOf.{segments_of}
use Rattle.ss_base.specs.Hook.{is_hook}
use Rattle.ss_base.specs.Ids.{same_name, has_name, has_manifest, has_container, are_distinct}
use Rattle.ss_base.specs.Order.{is_before_first, are_ascending}
use Rattle.ss_base.specs.Standings.{in_front, standing_of, chosen_standings, others_standing, promoted}
use Rattle.ss_base.specs.Champions.{stands_in, hooks_covered, is_at_least, candidates, is_unbeaten, best, uncovered, champions}
use Rattle.ss_base.specs.StreamName.{is_stream_byte, IsStreamName}
use Rattle.ss_base.specs.Origins.{first_place, first_of, first_in, is_fresh, fresh_behind, fresh_marks}
use Rattle.ss_base.specs.declared.ids.ManifestId.{ManifestId}
use Rattle.ss_base.proofs.MemberLaws.{In, All-from_in}
use Rattle.ss_base.proofs.IdLaws.{same_name-self, same_piece-self}
use Rattle.chunk_name.specs.Pieces.{piece, name_of_bytes, HasChunkLen}
use Rattle.ss_base.specs.declared.ids.Place.{Place}
use Rattle.std.specs.List.Sorted.{IsStrictlySortedBy}
use Rattle.hook_sampler.specs.Hooks.{distinct, hooks}
use Rattle.manifest_codec.specs.PiecesPart.{pieces_part}
use Rattle.manifest_codec.specs.Text.{manifest_text, IsPlace, AreManifest}
use Rattle.manifest_codec.specs.Containers.{AreContainers}
use Rattle.segment_plan.specs.Planned.{total_len}
use Rattle.container_file.specs.Chunk.{Chunk, the_chunk, marked}
use Rattle.container_file.specs.Layout.{opened, after, place_for, laid, places, end_after}
use Rattle.lack_plan.specs.declared.origin.Origin.{Origin}
use Rattle.lack_plan.specs.declared.origin.Origin.TheVariants.{Fresh, Champion}
use Rattle.lack_plan.specs.Plan.{origins, origins_behind, origin, origin_from}
use Rattle.segment_plan.specs.Plan.{Located, pieces_of, places_of, fresh_of, placed_behind, places_against, laid_against, end_against}
use Rattle.journal_entry.specs.Bounds.{FitsManifest, IsEntry, are_counts}
use Rattle.journal_entry.specs.declared.entry.Entry.{Entry}
use Rattle.journal_entry.specs.declared.entry.Point.TheVariants.{Begin, Choose, Commit, Finish}
use Rattle.journal_entry.specs.Weight.{point_weight, weight}
use Rattle.history.specs.declared.rules.Rules.{Rules}
use Rattle.history.specs.Sessions.{session_begun, begins_some, session_count, session_under, sessions_under, begins, chooses, commits, finishes, aborts, deletes, closes, has, newest, is_unfinished, is_retained, is_held, author_of, is_begun_by, commits_of, hooks_chosen, champions_chosen, last_hooks, settles, pending, is_pending, pending_champions, reading_begun}
use Rattle.history.specs.StandingList.{standing_after, standing, champions_for}
use Rattle.history.specs.OwnEnd.{greatest_by, end_of as own_end_of, end_among, end_used, own_end}
use Rattle.history.specs.Need.{commits_manifest}
use Rattle.store_core.specs.View.{KeptView, kept, kept_by}
use Rattle.chunk_name.proofs.NameLaws.{length-name_of_bytes}
use Rattle.history.specs.Legal.{is_open_to, reply_to_begin, are_hooks, lists_use, is_use_of_any, is_use, are_uses, is_allowed, begins_unfinished, looks_unfinished, unfinished_sessions, unfinished_readings, is_within, may_follow, is_legal}
use Rattle.stored_streams.specs.Streams.{segment_count, manifest_chunks, manifest_pieces}
use Rattle.stored_streams.specs.Plans.{Planned, last_plan, no_containers, end_of, located_of, plan_for, next_plan, plans_after, plans_of}
use Rattle.stored_streams.specs.OfStreams.{ChoosesSegment, HoldsSegment, StoresSegment, HasContents, IsOfStreams}
use Rattle.stored_streams.specs.Loads.{loaded_after, loaded_plans, IsLoadOf, StoresLoaded}
use Rattle.stored_streams.specs.Reads.{IsGiven}
use Rattle.stored_streams.proofs.StayLaws.{contents_before}
use Rattle.stored_streams.proofs.SegmentLaws.{pieces_sized}
use Rattle.stored_streams.specs.SecondBackup.{IsOneHook, each_time, rules_for, manifest_of, first_container, the_place, stored_at, text_stored, by, first_backup, second_backup, loads_for, reads_for, AsksFor}

-- ---- it is legal

abbrev begin : ℕ → ℕ → Entry
begin letter session = by session (Begin (letter ∷ []) (Some session))

abbrev commit : Name → Name → ℕ → ℕ → ℕ → ℕ → Entry
commit content text len session fresh fresh_bytes = by session (Commit (manifest_of session) content text 1 len fresh fresh_bytes (first_container ∷ []))

abbrev one : Name → Name → Name → ℕ → List Entry
one h content text len = by 0 (Finish 0 1) ∷ commit content text len 0 1 len ∷ by 0 (Choose 0 (h ∷ []) []) ∷ begin 97 0 ∷ []

may_begin : (n : Numbers) → may_follow (rules_for n) (begin 97 0) [] ≡ true
unfolding may_follow is_allowed is_within reply_to_begin is_held sessions_under session_under session_count begins_some unfinished_sessions begins_unfinished session_begun is_unfinished has begins closes finishes aborts unfinished_readings looks_unfinished reading_begun weight point_weight
may_begin n = refl

may_choose : (n : Numbers) (h : Name) → is_hook n.bits h ≡ true → has_name h [] ≡ false → may_follow (rules_for n) (by 0 (Choose 0 (h ∷ []) [])) (begin 97 0 ∷ []) ≡ true
unfolding may_follow is_allowed is_within is_open_to is_begun_by author_of newest is_pending pending settles chooses commits are_hooks are_distinct champions_for standing standing_after champions best candidates unfinished_sessions begins_unfinished session_begun is_unfinished has begins closes finishes aborts unfinished_readings looks_unfinished reading_begun weight point_weight
may_choose n h hook none = rw (none, hook) refl

may_commit : (n : Numbers) (h content text : Name) (len : ℕ) → nat_le 1 len ≡ true → nat_le len 45875200 ≡ true → nat_le len len ≡ true → may_follow (rules_for n) (commit content text len 0 1 len) (by 0 (Choose 0 (h ∷ []) []) ∷ begin 97 0 ∷ []) ≡ true
unfolding may_follow is_allowed is_within is_open_to is_begun_by author_of newest is_pending pending settles chooses commits champions_chosen pending_champions commits_of are_uses is_use is_use_of_any are_ascending is_before_first unfinished_sessions begins_unfinished session_begun is_unfinished has begins closes finishes aborts unfinished_readings looks_unfinished reading_begun weight point_weight
may_commit n h content text len some few same = rw (some, few, same) refl

may_finish : (n : Numbers) (h content text : Name) (len : ℕ) → may_follow (rules_for n) (by 0 (Finish 0 1)) (commit content text len 0 1 len ∷ by 0 (Choose 0 (h ∷ []) []) ∷ begin 97 0 ∷ []) ≡ true
unfolding may_follow is_allowed is_within is_open_to is_begun_by author_of newest is_pending pending settles chooses commits aborts champions_chosen own_end greatest_by end_used end_among own_end_of unfinished_sessions begins_unfinished session_begun is_unfinished has begins closes finishes unfinished_readings looks_unfinished reading_begun weight point_weight
may_finish n h content text len = refl

may_begin_again : (n : Numbers) (h content text : Name) (len : ℕ) → may_follow (rules_for n) (begin 98 1) (one h content text len) ≡ true
unfolding may_follow is_allowed is_within reply_to_begin is_held is_retained deletes sessions_under session_under session_count begins_some unfinished_sessions begins_unfinished session_begun is_unfinished has begins closes finishes aborts unfinished_readings looks_unfinished reading_begun weight point_weight
may_begin_again n h content text len = refl

may_choose_again : (n : Numbers) (h content text : Name) (len : ℕ) → is_hook n.bits h ≡ true → has_name h [] ≡ false → has_name h (h ∷ []) ≡ true → may_follow (rules_for n) (by 1 (Choose 1 (h ∷ []) (manifest_of 0 ∷ []))) (begin 98 1 ∷ one h content text len) ≡ true
unfolding may_follow is_allowed is_within is_open_to is_begun_by author_of newest is_pending pending settles chooses commits are_hooks are_distinct champions_for standing standing_after last_hooks hooks_chosen in_front promoted chosen_standings others_standing standing_of has_manifest champions best candidates is_unbeaten is_at_least hooks_covered stands_in uncovered unfinished_sessions begins_unfinished session_begun is_unfinished has begins closes finishes aborts unfinished_readings looks_unfinished reading_begun weight point_weight
may_choose_again n h content text len hook none same = rw (none, hook, same) refl

may_commit_again : (n : Numbers) (h content text : Name) (len : ℕ) → nat_le 0 len ≡ true → nat_le 1 len ≡ true → nat_le len 45875200 ≡ true → may_follow (rules_for n) (commit content text len 1 0 0) (by 1 (Choose 1 (h ∷ []) (manifest_of 0 ∷ [])) ∷ begin 98 1 ∷ one h content text len) ≡ true
unfolding may_follow is_allowed is_within is_open_to is_begun_by author_of newest is_pending pending settles chooses commits champions_chosen pending_champions commits_of are_uses is_use is_use_of_any lists_use has_container are_ascending is_before_first unfinished_sessions begins_unfinished session_begun is_unfinished has begins closes finishes aborts unfinished_readings looks_unfinished reading_begun weight point_weight
may_commit_again n h content text len least some few = rw (some, few, least) refl

may_finish_again : (n : Numbers) (h content text : Name) (len : ℕ) → may_follow (rules_for n) (by 1 (Finish 1 0)) (commit content text len 1 0 0 ∷ by 1 (Choose 1 (h ∷ []) (manifest_of 0 ∷ [])) ∷ begin 98 1 ∷ one h content text len) ≡ true
unfolding may_follow is_allowed is_within is_open_to is_begun_by author_of newest is_pending pending settles chooses commits aborts champions_chosen own_end greatest_by end_used end_among own_end_of unfinished_sessions begins_unfinished session_begun is_unfinished has begins closes finishes unfinished_readings looks_unfinished reading_begun weight point_weight
may_finish_again n h content text len = refl

no_names : (h : Name) → has_name h [] ≡ false
unfolding has_name
no_names h = refl

own_name : (h : Name) → has_name h (h ∷ []) ≡ true
unfolding has_name
own_name h = or_left (same_name h h) false (same_name-self h)

legal_step : (rules : Rules) (entry : Entry) (past : List Entry) → is_legal rules past ≡ true → may_follow rules entry past ≡ true → is_legal rules (entry ∷ past) ≡ true
unfolding is_legal
legal_step rules entry past before now = and_from _ _ before now

legal_none : (rules : Rules) → is_legal rules [] ≡ true
unfolding is_legal
legal_none rules = refl

two_legal : (n : Numbers) (h content text : Name) (len : ℕ) → is_hook n.bits h ≡ true → 1 ≤ len → len ≤ 45875200 → is_legal (rules_for n) (by 1 (Finish 1 0) ∷ commit content text len 1 0 0 ∷ by 1 (Choose 1 (h ∷ []) (manifest_of 0 ∷ [])) ∷ begin 98 1 ∷ one h content text len) ≡ true
two_legal n h content text len hook some few =
    let z : nat_le 0 len ≡ true = grind (arith, nat_tests) in
    let a : nat_le 1 len ≡ true = grind (arith, nat_tests) in
    let b : nat_le len 45875200 ≡ true = grind (arith, nat_tests) in
    let c : nat_le len len ≡ true = grind (arith, nat_tests) in
    let rules = rules_for n in
    let first = legal_step rules _ _ (legal_step rules _ _ (legal_step rules _ _ (legal_step rules _ _ (legal_none rules) (may_begin n)) (may_choose n h hook (no_names h))) (may_commit n h content text len a b c)) (may_finish n h content text len) in
    legal_step rules _ _ (legal_step rules _ _ (legal_step rules _ _ (legal_step rules _ _ first (may_begin_again n h content text len)) (may_choose_again n h content text len hook (no_names h) (own_name h))) (may_commit_again n h content text len z a b)) (may_finish_again n h content text len)

-- ---- its entries have texts

stream_name : (letter : ℕ) → is_stream_byte letter ≡ true → IsStreamName (letter ∷ [])
stream_name letter is = record {
  some = omega arith;
  fits = omega arith;
  bytes = All-from_in (λ (b : ℕ). is_stream_byte b ≡ true) (letter ∷ []) (λ b h. elim h [
    | inl same ↦ subst (λ (c : ℕ). is_stream_byte c ≡ true) same is
    | inr none ↦ absurd none
  ]);
}

begin_entry : (letter session : ℕ) → is_stream_byte letter ≡ true → session < 2 ^ 32 → IsEntry (begin letter session)
begin_entry letter session is small = record { author = small; point = (stream_name letter is, small); bounds = tt }

choose_entry : (session : ℕ) (h : Name) (champions : List ManifestId) → session < 2 ^ 32 → length h.0 ≡ 32 → AllByRecursion FitsManifest champions → length champions ≤ 8 → IsEntry (by session (Choose session (h ∷ []) champions))
choose_entry session h champions small digest fit few = record { author = small; point = (small, (digest, tt), fit); bounds = (omega arith, omega (arith, few)) }

commit_entry : (content text : Name) (len session fresh fresh_bytes : ℕ) → session < 2 ^ 32 → length content.0 ≡ 32 → length text.0 ≡ 32 → len ≤ 45875200 → fresh ≤ 1 → fresh_bytes ≤ len → are_counts 1 len fresh fresh_bytes ≡ true → IsEntry (commit content text len session fresh fresh_bytes)
commit_entry content text len session fresh fresh_bytes small digest digest_too few one_fresh bytes counts = record {
  author = small;
  point = ((small, omega arith), digest, digest_too, omega arith, omega (arith, few), omega (arith, one_fresh), omega (arith, few, bytes), ((omega arith, omega arith), tt));
  bounds = (counts, omega arith);
}

finish_entry : (session containers : ℕ) → session < 2 ^ 32 → containers < 2 ^ 32 → IsEntry (by session (Finish session containers))
finish_entry session containers small few = record { author = small; point = (small, few); bounds = tt }

counts_true : (len fresh fresh_bytes : ℕ) → 1 ≤ len → len ≤ 45875200 → fresh ≤ 1 → fresh_bytes ≤ len → are_counts 1 len fresh fresh_bytes ≡ true
counts_true len fresh fresh_bytes some few one_fresh bytes =
    let a : nat_le 1 len ≡ true = grind (arith, nat_tests) in
    let b : nat_le len 45875200 ≡ true = grind (arith, nat_tests) in
    let c : nat_le fresh 1 ≡ true = grind (arith, nat_tests) in
    let d : nat_le fresh_bytes len ≡ true = grind (arith, nat_tests) in
    rw (a, b, c, d) refl

two_entries : (h content text : Name) (len : ℕ) → length h.0 ≡ 32 → length content.0 ≡ 32 → length text.0 ≡ 32 → 1 ≤ len → len ≤ 45875200 → AllByRecursion IsEntry (by 1 (Finish 1 0) ∷ commit content text len 1 0 0 ∷ by 1 (Choose 1 (h ∷ []) (manifest_of 0 ∷ [])) ∷ begin 98 1 ∷ one h content text len)
two_entries h content text len dh dc dt some few =
    let zero : 0 < 2 ^ 32 = omega arith in
    let one : 1 < 2 ^ 32 = omega arith in (
      finish_entry 1 0 one zero,
      (
        commit_entry content text len 1 0 0 one dc dt few (omega arith) (omega arith) (counts_true len 0 0 some few (omega arith) (omega arith)),
        (
          choose_entry 1 h (manifest_of 0 ∷ []) one dh ((zero, zero), tt) (omega arith),
          (
            begin_entry 98 1 refl one,
            (
              finish_entry 0 1 zero one,
              (
                commit_entry content text len 0 1 len zero dc dt few (omega arith) (omega arith) (counts_true len 1 len some few (omega arith) (omega arith)),
                (
                  choose_entry 0 h [] zero dh tt (omega arith),
                  (begin_entry 97 0 refl zero, tt),
                ),
              ),
            ),
          ),
        ),
      ),
    )

-- ---- its segments and plans

chunks_are : (n : Numbers) (bytes : List ℕ) (session : ℕ) → IsOneHook n bytes → manifest_chunks n (each_time bytes) (manifest_of session) ≡ bytes ∷ []
unfolding manifest_chunks
chunks_are n bytes session is = ap (λ (segments : List (List (List ℕ))). slice_index_or segments 0 []) is.alone

pub pieces_are : (n : Numbers) (bytes : List ℕ) (session : ℕ) → IsOneHook n bytes → manifest_pieces n (each_time bytes) (manifest_of session) ≡ piece bytes ∷ []
unfolding manifest_pieces
pieces_are n bytes session is = ap (map piece) (chunks_are n bytes session is)

count_is : (n : Numbers) (bytes : List ℕ) (session : ℕ) → IsOneHook n bytes → segment_count n (each_time bytes) session ≡ 1
unfolding segment_count
count_is n bytes session is = ap (λ (segments : List (List (List ℕ))). length segments) is.alone

-- the one chunk is fresh where nothing is loaded, and else stands there
place_none : (p : Piece) → first_place p [] ≡ None
unfolding first_place
place_none p = refl

place_same : (p : Piece) → first_place p (p ∷ []) ≡ Some 0
unfolding first_place
place_same p = let same = same_piece-self p in rw same refl

fresh_first : (chunk : List ℕ) (p : Piece) → marked (fresh_marks (p ∷ []) []) (the_chunk p chunk ∷ []) ≡ the_chunk p chunk ∷ []
unfolding fresh_marks fresh_behind is_fresh first_in marked
fresh_first chunk p = let none = place_none p in rw none refl

fresh_second : (chunk : List ℕ) (p : Piece) → marked (fresh_marks (p ∷ []) ((p ∷ []) ∷ [])) (the_chunk p chunk ∷ []) ≡ []
unfolding fresh_marks fresh_behind is_fresh first_in first_of marked
fresh_second chunk p = let none = place_none p in let same = place_same p in rw (none, same) refl

origin_first : (p : Piece) → origins (p ∷ []) [] ≡ Fresh ∷ []
unfolding origins origins_behind origin origin_from first_in
origin_first p = let none = place_none p in rw none refl

origin_second : (p : Piece) → origins (p ∷ []) ((p ∷ []) ∷ []) ≡ Champion 0 0 ∷ []
unfolding origins origins_behind origin origin_from first_in first_of
origin_second p = let none = place_none p in let same = place_same p in rw (none, same) refl

abbrev first_planned : List ℕ → Planned
first_planned bytes = record {
  id = manifest_of 0;
  places = the_place ∷ [];
  laid = record { chunk = the_chunk (piece bytes) bytes; place = the_place } ∷ [];
  end = record { session = 0; containers = 1; used = 52 + length bytes };
}

abbrev second_planned : Planned
second_planned = record { id = manifest_of 1; places = the_place ∷ []; laid = []; end = no_containers 1 }

-- a plan from its fresh chunks and origins
abbrev planned_from : Numbers → ManifestId → List Located → List Planned → List Chunk → List Origin → Planned
planned_from n id located plans fresh os = record {
  id = id;
  places = placed_behind [] os (places (end_of id.session plans) n.room fresh) (places_of located);
  laid = laid (end_of id.session plans) n.room fresh;
  end = end_after (end_of id.session plans) n.room fresh;
}

plan_from : (n : Numbers) (bytes : List ℕ) (session : ℕ) (located : List Located) (plans : List Planned) (fresh : List Chunk) (os : List Origin) → IsOneHook n bytes → marked (fresh_marks (piece bytes ∷ []) (pieces_of located)) (the_chunk (piece bytes) bytes ∷ []) ≡ fresh → origins (piece bytes ∷ []) (pieces_of located) ≡ os → plan_for n (each_time bytes) (manifest_of session) located plans ≡ planned_from n (manifest_of session) located plans fresh os
unfolding plan_for places_against laid_against end_against fresh_of
plan_from n bytes session located plans fresh os is new from =
    let chunks = chunks_are n bytes session is in
    rw (chunks, new, from) refl

first_computed : (n : Numbers) (p : Piece) (chunk : List ℕ) → planned_from n (manifest_of 0) [] [] (the_chunk p chunk ∷ []) (Fresh ∷ []) ≡ record { id = manifest_of 0; places = the_place ∷ []; laid = record { chunk = the_chunk p chunk; place = the_place } ∷ []; end = record { session = 0; containers = 1; used = 52 + p.len } }
unfolding end_of last_plan placed_behind laid place_for opened after end_after
first_computed n p chunk = refl

plan_first : (n : Numbers) (bytes : List ℕ) → IsOneHook n bytes → plan_for n (each_time bytes) (manifest_of 0) [] [] ≡ first_planned bytes
plan_first n bytes is = plan_from n bytes 0 [] [] _ _ is (fresh_first bytes (piece bytes)) (origin_first (piece bytes)) ∙ first_computed n (piece bytes) bytes

plan_second : (n : Numbers) (bytes : List ℕ) → IsOneHook n bytes → plan_for n (each_time bytes) (manifest_of 1) (stored_at bytes ∷ []) (first_planned bytes ∷ []) ≡ second_planned
unfolding end_of last_plan placed_behind laid end_after
plan_second n bytes is = plan_from n bytes 1 (stored_at bytes ∷ []) (first_planned bytes ∷ []) _ _ is (fresh_second bytes (piece bytes)) (origin_second (piece bytes))

-- ---- what its commits store

containers_are : AreContainers (the_place ∷ []) (first_container ∷ [])
unfolding IsStrictlySortedBy
containers_are = record { ascending = (tt, tt); each = λ id h. h; only = λ id h. h }

stores : (n : Numbers) (bytes : List ℕ) (session fresh fresh_bytes : ℕ) (located : List Located) (plans : List Planned) (chunks : List Chunk) (plan : Planned) → IsOneHook n bytes → marked (fresh_marks (piece bytes ∷ []) (pieces_of located)) (the_chunk (piece bytes) bytes ∷ []) ≡ chunks → fresh ≡ length chunks → fresh_bytes ≡ total_len (map (λ (c : Chunk). c.piece) chunks) → plan_for n (each_time bytes) (manifest_of session) located plans ≡ plan → plan.places ≡ the_place ∷ [] → StoresSegment n (each_time bytes) (manifest_of session) located plans (name_of_bytes (text_stored bytes)) fresh fresh_bytes (first_container ∷ [])
unfolding fresh_of
stores n bytes session fresh fresh_bytes located plans chunks plan is new count sum planned there =
    let pieces = pieces_are n bytes session is in
    let all = chunks_are n bytes session is in
    let fresh_is : fresh_of (manifest_chunks n (each_time bytes) (manifest_of session)) (pieces_of located) ≡ chunks = ap (λ (cs : List (List ℕ)). fresh_of cs (pieces_of located)) all ∙ new in
    let at : (plan_for n (each_time bytes) (manifest_of session) located plans).places ≡ the_place ∷ [] = ap (λ (p : Planned). p.places) planned ∙ there in
    record {
      fresh_count = count ∙ sym (ap (λ (cs : List Chunk). length cs) fresh_is);
      fresh_sum = sum ∙ sym (ap (λ (cs : List Chunk). total_len (map (λ (c : Chunk). c.piece) cs)) fresh_is);
      containers = subst (λ (ps : List Place). AreContainers ps (first_container ∷ [])) (sym at) containers_are;
      digest = sym (λ i. name_of_bytes (manifest_text (pieces i) (at i)));
    }

stores_first : (n : Numbers) (bytes : List ℕ) → IsOneHook n bytes → StoresSegment n (each_time bytes) (manifest_of 0) [] [] (name_of_bytes (text_stored bytes)) 1 (length bytes) (first_container ∷ [])
stores_first n bytes is = stores n bytes 0 1 (length bytes) [] [] (the_chunk (piece bytes) bytes ∷ []) (first_planned bytes) is (fresh_first bytes (piece bytes)) refl (omega arith) (plan_first n bytes is) refl

stores_second : (n : Numbers) (bytes : List ℕ) → IsOneHook n bytes → StoresSegment n (each_time bytes) (manifest_of 1) (stored_at bytes ∷ []) (first_planned bytes ∷ []) (name_of_bytes (text_stored bytes)) 0 0 (first_container ∷ [])
stores_second n bytes is = stores n bytes 1 0 0 (stored_at bytes ∷ []) (first_planned bytes ∷ []) [] second_planned is (fresh_second bytes (piece bytes)) refl refl (plan_second n bytes is) refl

-- ---- it is of its stream

plans_first : (n : Numbers) (bytes : List ℕ) → IsOneHook n bytes → plans_of n (each_time bytes) (first_backup bytes) ≡ first_planned bytes ∷ []
unfolding plans_of plans_after next_plan located_of pending_champions pending newest settles chooses commits aborts champions_chosen
plans_first n bytes is = ap (λ (p : Planned). p ∷ []) (plan_first n bytes is)

hook_alone : (bits : ℕ) (p : Piece) → is_hook bits p.name ≡ true → hooks bits (p ∷ []) ≡ p.name ∷ []
unfolding distinct
hook_alone bits p hook = rw hook refl

chooses_segment : (n : Numbers) (bytes : List ℕ) (session : ℕ) (past : List Entry) → IsOneHook n bytes → commits_of session past ≡ 0 → ChoosesSegment n (each_time bytes) past session (name_of_bytes bytes ∷ [])
chooses_segment n bytes session past is none =
    let count = count_is n bytes session is in
    record {
      there = omega (arith, none, count);
      hooks_are = sym (ap (λ (seq : ℕ). hooks n.bits (manifest_pieces n (each_time bytes) (record { session = session; seq = seq }))) none ∙ ap (hooks n.bits) (pieces_are n bytes session is) ∙ hook_alone n.bits (piece bytes) is.hook);
    }

holds_segment : (n : Numbers) (bytes : List ℕ) (session : ℕ) → IsOneHook n bytes → HoldsSegment n (each_time bytes) (manifest_of session) (name_of_bytes (pieces_part (piece bytes ∷ []))) 1 (length bytes)
holds_segment n bytes session is =
    let count = count_is n bytes session is in
    let pieces = pieces_are n bytes session is in
    let sum : length bytes ≡ total_len (piece bytes ∷ []) = omega arith in
    record {
      there = omega (arith, count);
      chunk_count = sym (ap (λ (ps : List Piece). length ps) pieces);
      byte_count = sum ∙ sym (ap (λ (ps : List Piece). total_len ps) pieces);
      digest = sym (ap (λ (ps : List Piece). name_of_bytes (pieces_part ps)) pieces);
    }

all_contents : (n : Numbers) (bytes : List ℕ) → IsOneHook n bytes → HasContents n (each_time bytes) (second_backup bytes ++ first_backup bytes)
unfolding commits_of commits
all_contents n bytes is = record {
  contents = ((((((((tt, tt), chooses_segment n bytes 0 _ is refl), holds_segment n bytes 0 is), tt), tt), chooses_segment n bytes 1 _ is refl), holds_segment n bytes 1 is), tt);
  complete = ((((((((tt, tt), tt), tt), sym (count_is n bytes 0 is)), tt), tt), tt), sym (count_is n bytes 1 is));
}

first_of_streams : (n : Numbers) (bytes : List ℕ) → IsOneHook n bytes → IsOfStreams n (each_time bytes) (first_backup bytes)
unfolding plans_of plans_after next_plan located_of pending_champions pending newest settles chooses commits aborts champions_chosen end_of last_plan plan_for
first_of_streams n bytes is = record {
  contents = contents_before n (each_time bytes) (second_backup bytes) (first_backup bytes) (all_contents n bytes is);
  stored = record {
    stored = ((((tt, tt), tt), stores_first n bytes is), tt);
    ends = ((((tt, tt), tt), tt), sym (ap (λ (p : Planned). p.end.containers) (plan_first n bytes is)));
  };
}

-- ---- what was loaded for the second backup

only_one : {X : Type 0} (P : X → Type 0) (x : X) → P x → (y : X) → In y (x ∷ []) → P y
only_one P x here y h = elim h [
  | inl is ↦ subst P is here
  | inr none ↦ absurd none
]

loaded_manifest : (bytes : List ℕ) → HasChunkLen (piece bytes) → length (name_of_bytes bytes).0 ≡ 32 → AreManifest (piece bytes ∷ []) (the_place ∷ [])
loaded_manifest bytes sized digest = record {
  listed = record { some = omega arith; bounded = omega arith; lengths = All-from_in HasChunkLen (piece bytes ∷ []) (only_one HasChunkLen (piece bytes) sized); located = refl };
  names = All-from_in (λ (p : Piece). length p.name.0 ≡ 32) (piece bytes ∷ []) (only_one (λ (p : Piece). length p.name.0 ≡ 32) (piece bytes) digest);
  numbers = All-from_in IsPlace (the_place ∷ []) (only_one IsPlace the_place (record { session = omega arith; ordinal = omega arith; offset = omega arith }));
}

abbrev view_kept : List ℕ → KeptView
view_kept bytes = record { id = manifest_of 0; text = name_of_bytes (text_stored bytes); content = name_of_bytes (pieces_part (piece bytes ∷ [])); chunks = 1; uses = first_container ∷ [] }

abbrev before_second : List ℕ → List Entry
before_second bytes = by 1 (Choose 1 (name_of_bytes bytes ∷ []) (manifest_of 0 ∷ [])) ∷ by 1 (Begin (98 ∷ []) (Some 1)) ∷ first_backup bytes

kept_is : (bytes : List ℕ) → kept (manifest_of 0) (before_second bytes) ≡ Some (view_kept bytes)
unfolding kept kept_by newest commits_manifest
kept_is bytes = refl

load_is : (n : Numbers) (bytes : List ℕ) (plans : List Planned) (past : List Entry) → HasChunkLen (piece bytes) → length (name_of_bytes bytes).0 ≡ 32 → IsLoadOf n (each_time bytes) (IsGiven (reads_for bytes) past) (before_second bytes) plans (manifest_of 0) (stored_at bytes)
load_is n bytes plans past sized digest = record {
  manifest = loaded_manifest bytes sized digest;
  digest = λ view is. ap (λ (o : Option KeptView). (unwrap_or o (view_kept bytes)).text) (sym (kept_is bytes) ∙ is);
  source = inl (inl (0, omega arith, refl));
}

end_again : (n : Numbers) (bytes : List ℕ) → IsOneHook n bytes → 0 ≡ (end_of 1 (plan_for n (each_time bytes) (manifest_of 1) (stored_at bytes ∷ []) (plans_of n (each_time bytes) (first_backup bytes)) ∷ plans_of n (each_time bytes) (first_backup bytes))).containers
unfolding end_of last_plan
end_again n bytes is =
    let plans = plans_first n bytes is in
    let again = plan_second n bytes is in
    sym (ap (λ (ps : List Planned). (end_of 1 (plan_for n (each_time bytes) (manifest_of 1) (stored_at bytes ∷ []) ps ∷ ps)).containers) plans ∙ ap (λ (p : Planned). (end_of 1 (p ∷ first_planned bytes ∷ [])).containers) again)

second_stores : (n : Numbers) (bytes : List ℕ) → IsOneHook n bytes → HasChunkLen (piece bytes) → length (name_of_bytes bytes).0 ≡ 32 → StoresLoaded n (each_time bytes) (loads_for bytes) (IsGiven (reads_for bytes) (second_backup bytes ++ first_backup bytes)) (second_backup bytes) (first_backup bytes)
unfolding loaded_plans loaded_after pending_champions pending newest settles chooses commits aborts champions_chosen
second_stores n bytes is sized digest =
    let plans = plans_first n bytes is in
    let past = second_backup bytes ++ first_backup bytes in
    let stores = subst (λ (ps : List Planned). StoresSegment n (each_time bytes) (manifest_of 1) (stored_at bytes ∷ []) ps (name_of_bytes (text_stored bytes)) 0 0 (first_container ∷ [])) (sym plans) (stores_second n bytes is) in
    ((((tt, tt), tt), ((load_is n bytes (plans_of n (each_time bytes) (first_backup bytes)) past sized digest, tt), stores)), end_again n bytes is)

asked : (n : Numbers) (bytes : List ℕ) → IsOneHook n bytes → HasChunkLen (piece bytes) → length (name_of_bytes bytes).0 ≡ 32 → AsksFor n (rules_for n) (each_time bytes) (loads_for bytes) (reads_for bytes) (second_backup bytes) (first_backup bytes)
asked n bytes is sized digest =
    let content = name_of_bytes (pieces_part (piece bytes ∷ [])) in
    let text = name_of_bytes (text_stored bytes) in
    let some : 1 ≤ length bytes = sized.0 in
    let few : length bytes ≤ 45875200 = let most = sized.1 in omega (arith, most) in
    record {
      legal = two_legal n (name_of_bytes bytes) content text (length bytes) is.hook some few;
      entries = All-from_recursion IsEntry (second_backup bytes ++ first_backup bytes) (two_entries (name_of_bytes bytes) content text (length bytes) digest (length-name_of_bytes (pieces_part (piece bytes ∷ []))) (length-name_of_bytes (text_stored bytes)) some few);
      of_streams = first_of_streams n bytes is;
      contents = all_contents n bytes is;
      stores = second_stores n bytes is sized digest;
    }

pub all_asked : (profile : Profile) (bytes : List ℕ) → IsOneHook (numbers_of profile) bytes → AsksFor (numbers_of profile) (rules_for (numbers_of profile)) (each_time bytes) (loads_for bytes) (reads_for bytes) (second_backup bytes) (first_backup bytes)
all_asked profile bytes is =
    let n = numbers_of profile in
    let sized = subst (λ (ps : List Piece). All HasChunkLen ps) (pieces_are n bytes 0 is) (pieces_sized n (each_time bytes) (manifest_of 0) (AreSound-numbers_of profile)) in
    asked n bytes is (sized 0 (piece bytes) (omega arith)) (length-name_of_bytes bytes)

-- ---- a stream of one byte is one chunk

byte_cut : (profile : Profile) (byte : ℕ) → cut (numbers_of profile) (byte ∷ []) ≡ (byte ∷ []) ∷ []
unfolding cut parts parts_within first_cut least
byte_cut Tiny byte = refl
byte_cut Small byte = refl
byte_cut Large byte = refl

chunk_segment : (n : Numbers) (chunk : List ℕ) → segments n (chunk ∷ []) ≡ (chunk ∷ []) ∷ []
unfolding segments parts parts_within first_count least
chunk_segment n chunk = elim (cases_Bool (ends_at n (chunk ∷ []) 1)) [
  | inl ends ↦ rw ends refl
  | inr not ↦ rw not refl
]

pub byte_alone : (profile : Profile) (byte : ℕ) → segments_of (numbers_of profile) (byte ∷ []) ≡ ((byte ∷ []) ∷ []) ∷ []
unfolding segments_of
byte_alone profile byte = ap (segments (numbers_of profile)) (byte_cut profile byte) ∙ chunk_segment (numbers_of profile) (byte ∷ [])
