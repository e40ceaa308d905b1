-- What a session chooses and commits is of its stream.
use Rattle.std.proofs.Common.{◌≡◌, ℕ, ◌<◌, ◌==◌, true, List, [], ◌∷◌, ◌++◌, length, refl, sym, ap, ◌∙◌, subst, arith, append_assoc, length-append}
use Rattle.std.proofs.lemmas.Bool.{eq-eqb}
use Rattle.std.proofs.lemmas.List.{append-nil}
use Rattle.ss_base.specs.declared.ids.ManifestId.{ManifestId}
use Rattle.ss_base.specs.declared.name.Piece.{Piece}
use Rattle.ss_base.specs.declared.profile.Numbers.{Numbers}
use Rattle.ss_base.specs.Profile.{numbers_of}
use Rattle.ss_base.proofs.MemberLaws.{count_one}
use Rattle.chunk_name.specs.Pieces.{pieces, name_of_bytes}
use Rattle.hook_sampler.specs.Hooks.{hooks}
use Rattle.manifest_codec.specs.PiecesPart.{pieces_part}
use Rattle.segment_plan.specs.Planned.{total_len}
use Rattle.segment_reader.specs.SegmentsOf.{segments_of}
use Rattle.journal_entry.specs.declared.entry.Entry.{Entry}
use Rattle.journal_entry.specs.declared.entry.Point.{Point}
use Rattle.journal_entry.specs.declared.entry.Point.TheVariants.{Choose, Commit}
use Rattle.history.specs.Sessions.{commits, commits_of, begins, has}
use Rattle.history_laws.proofs.SessionLaws.{has_older}
use Rattle.store_core.specs.declared.values.Stored.{Stored}
use Rattle.store_core.specs.View.{StateView, past_of, made}
use Rattle.history_calls.specs.Tokens.{OpenView, ChosenView}
use Rattle.history_calls.specs.SessionSteps.{HasChosen, HasCommitted}
use Rattle.session.specs.Stores.{Reached, HasStored, HasStoredAll, Progress}
use Rattle.stored_streams.specs.Streams.{Streams, manifest_pieces, segment_count}
use Rattle.stored_streams.specs.OfStreams.{ContentOf, IsComplete, ChoosesSegment, HoldsSegment, HasContents}
use Rattle.backed_up_streams.proofs.AloneLaws.{alone, open_at, is_open_at, is_chosen_at, chose, committed}
use Rattle.backed_up_streams.proofs.SegmentLaws.{next_pieces, next_there}

pub contents_more : (n : Numbers) (streams : Streams) (author : ℕ) (point : Point) (past : List Entry) → HasContents n streams past → ContentOf n streams past point → IsComplete n streams past point → HasContents n streams (made author point ∷ past)
contents_more n streams author point past has content complete = record { contents = (has.contents, content); complete = (has.complete, complete) }

pub self : (s : ℕ) → (s == s) ≡ true
self s = eq-eqb s s refl

module _ (n : Numbers) (streams : Streams) (older : List Entry) (author session : ℕ) (whole : List (List (List ℕ))) where
  abbrev pub IsWholeStream : Type 0
  IsWholeStream = segments_of n (streams session) ≡ whole

  -- behind so many commits of the session
  pub record HasCome (count : ℕ) (past : List Entry) : Type 0 where
    pub begun : has (begins session) past ≡ true
    pub counted : commits_of session past ≡ count
    pub contents : IsWholeStream → HasContents n streams older → HasContents n streams past

  module _ (front rest : List (List (List ℕ))) (chunks : List (List ℕ)) (whole_is : whole ≡ front ++ chunks ∷ rest) where
    -- a choice
    chooses_it : (past : List Entry) → commits_of session past ≡ length front → IsWholeStream → ChoosesSegment n streams past session (hooks n.bits (pieces chunks))
    chooses_it past counted is =
        let are = is ∙ whole_is in
        record {
          there = subst (λ (k : ℕ). k < segment_count n streams session) (sym counted) (next_there n streams session front rest chunks are);
          hooks_are =
              ap (λ (ps : List Piece). hooks n.bits ps) (sym (next_pieces n streams session front rest chunks are))
              ∙ ap (λ (k : ℕ). let id : ManifestId = record { session = session; seq = k } in hooks n.bits (manifest_pieces n streams id)) (sym counted);
        }

    pub chosen_come : (ids : List ManifestId) (past : List Entry) → HasCome (length front) past → HasCome (length front) (made author (Choose session (hooks n.bits (pieces chunks)) ids) ∷ past)
    unfolding commits_of commits
    chosen_come ids past come = record {
      begun = has_older (begins session) (made author (Choose session (hooks n.bits (pieces chunks)) ids)) past come.begun;
      counted = come.counted;
      contents = λ is older_has. contents_more n streams author (Choose session (hooks n.bits (pieces chunks)) ids) past (come.contents is older_has) (chooses_it past come.counted is) tt;
    }

    -- a commit
    abbrev commit : Stored → Point
    commit stored = Commit (record { session = session; seq = length front }) stored.content stored.text stored.chunks stored.bytes stored.fresh stored.fresh_bytes stored.uses.items

    pub record IsOfChunks (stored : Stored) : Type 0 where
      pub content : stored.content ≡ name_of_bytes (pieces_part (pieces chunks))
      pub chunk_count : stored.chunks ≡ length (pieces chunks)
      pub byte_count : stored.bytes ≡ total_len (pieces chunks)

    holds_it : (stored : Stored) → IsOfChunks stored → IsWholeStream → HoldsSegment n streams (record { session = session; seq = length front }) stored.content stored.chunks stored.bytes
    holds_it stored of is =
        let are = is ∙ whole_is in
        let same = sym (next_pieces n streams session front rest chunks are) in
        record {
          there = next_there n streams session front rest chunks are;
          chunk_count = of.chunk_count ∙ ap (λ (ps : List Piece). length ps) same;
          byte_count = of.byte_count ∙ ap total_len same;
          digest = of.content ∙ ap (λ (ps : List Piece). name_of_bytes (pieces_part ps)) same;
        }

    committed_come : (stored : Stored) (past : List Entry) → IsOfChunks stored → HasCome (length front) past → HasCome (length (front ++ chunks ∷ [])) (made author (commit stored) ∷ past)
    unfolding commits_of commits
    committed_come stored past of come =
        let e : Entry = made author (commit stored) in
        let one = count_one (λ (x : Entry). commits session x.point) e past (self session) in
        let counted = come.counted in
        let longer = length-append front (chunks ∷ []) in
        record {
          begun = has_older (begins session) e past come.begun;
          counted = omega (arith, one, counted, longer);
          contents = λ is older_has. contents_more n streams author (commit stored) past (come.contents is older_has) (holds_it stored of is) tt;
        }

  module _ (standings champions : ℕ) where
    -- where the session's caller stands then
    pub record StandsAt (count : ℕ) (caller : OpenView) : Type 0 where
      pub same_author : caller.author ≡ author
      pub same_session : caller.session ≡ session
      pub same_numbers : numbers_of caller.seen.profile ≡ n
      pub come : HasCome count (past_of caller.seen)

    -- the same behind a choice
    pub record WaitsAt (count : ℕ) (chosen : ChosenView) : Type 0 where
      pub same_author : chosen.author ≡ author
      pub same_session : chosen.session ≡ session
      pub same_numbers : numbers_of chosen.seen.profile ≡ n
      pub come : HasCome count (past_of chosen.seen)

    module _ (front rest : List (List (List ℕ))) (chunks : List (List ℕ)) (whole_is : whole ≡ front ++ chunks ∷ rest) where
      pub choice-waits : (seen : StateView) (chosen : ChosenView) → numbers_of seen.profile ≡ n → HasCome (length front) (past_of seen)
          → HasChosen alone standings champions (open_at author session seen) (hooks (numbers_of seen.profile).bits (pieces chunks)) chosen → WaitsAt (length front) chosen
      choice-waits seen chosen is_n come has =
          let chooses = subst (λ (m : Numbers). HasChosen alone standings champions (open_at author session seen) (hooks m.bits (pieces chunks)) chosen) is_n has in
          let is = chose standings champions author seen session (hooks n.bits (pieces chunks)) chosen chooses in
          record {
            same_author = is.same_author;
            same_session = is.same_session;
            same_numbers = ap numbers_of is.steps_are.profile ∙ is_n;
            come = subst (HasCome (length front)) (sym is.steps_are.past) (chosen_come front rest chunks whole_is is.ids (past_of seen) come);
          }

      pub segment-stands : (seen : StateView) (progress : Progress) (after : Reached) → numbers_of seen.profile ≡ n → HasCome (length front) (past_of seen)
          → HasStored alone standings champions chunks (record { caller = open_at author session seen; progress = progress }) after → StandsAt (length (front ++ chunks ∷ [])) after.caller
      segment-stands seen progress after is_n come has =
          let chosen = has.chosen in
          let waits = choice-waits seen chosen is_n come has.chooses in
          let behind = has.behind in
          let commits_it = subst (λ (t : ChosenView). HasCommitted alone standings champions t behind.stored after.caller) (is_chosen_at author session chosen waits.same_author waits.same_session) behind.commits in
          let is = committed standings champions author chosen.seen session chosen.choice behind.stored after.caller commits_it in
          let says = behind.stores.stored_is.stored_is in
          let of : IsOfChunks front rest chunks whole_is behind.stored = record { content = says.content; chunk_count = says.chunk_count; byte_count = says.byte_count } in
          let entry : ℕ → Entry = λ k. made author (Commit (record { session = session; seq = k }) behind.stored.content behind.stored.text behind.stored.chunks behind.stored.bytes behind.stored.fresh behind.stored.fresh_bytes behind.stored.uses.items) in
          record {
            same_author = is.same_author;
            same_session = is.same_session;
            same_numbers = ap numbers_of is.steps_are.profile ∙ waits.same_numbers;
            come =
                subst (HasCome (length (front ++ chunks ∷ []))) (sym (is.steps_are.past ∙ ap (λ (k : ℕ). entry k ∷ past_of chosen.seen) waits.come.counted))
                (committed_come front rest chunks whole_is behind.stored (past_of chosen.seen) of waits.come);
          }

    one_front : (front rest : List (List (List ℕ))) (chunks : List (List ℕ)) → (front ++ chunks ∷ []) ++ rest ≡ front ++ chunks ∷ rest
    one_front front rest chunks = append_assoc front (chunks ∷ []) rest

    -- some segments, one behind another
    pub segments-stand : (segments front rest : List (List (List ℕ))) (seen : StateView) (progress : Progress) (after : Reached) → whole ≡ front ++ (segments ++ rest) → numbers_of seen.profile ≡ n → HasCome (length front) (past_of seen)
        → HasStoredAll alone standings champions segments (record { caller = open_at author session seen; progress = progress }) after → StandsAt (length (front ++ segments)) after.caller
    segments-stand [] front rest seen progress after whole_is is_n come same =
        let caller = ap (λ (r : Reached). r.caller) same in
        record {
          same_author = ap (λ (t : OpenView). t.author) caller;
          same_session = ap (λ (t : OpenView). t.session) caller;
          same_numbers = ap (λ (t : OpenView). numbers_of t.seen.profile) caller ∙ is_n;
          come = subst (λ (view : StateView). HasCome (length (front ++ [])) (past_of view)) (sym (ap (λ (t : OpenView). t.seen) caller))
              (subst (λ (all : List (List (List ℕ))). HasCome (length all) (past_of seen)) (sym (append-nil front)) come);
        }
    segments-stand (chunks ∷ segments) front rest seen progress after whole_is is_n come all =
        let next = all.0 in
        let one = segment-stands front (segments ++ rest) chunks whole_is seen progress next is_n come all.1 in
        let is = is_open_at author session next.caller one.same_author one.same_session in
        let behind = subst (λ (t : OpenView). HasStoredAll alone standings champions segments (record { caller = t; progress = next.progress }) after) is all.2 in
        let last = segments-stand segments (front ++ chunks ∷ []) rest next.caller.seen next.progress after (whole_is ∙ sym (one_front front (segments ++ rest) chunks)) one.same_numbers one.come behind in
        subst (λ (all : List (List (List ℕ))). StandsAt (length all) after.caller) (one_front front segments chunks) last
