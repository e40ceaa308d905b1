-- A legal history of the streams is one of every table that agrees on its sessions.
use Rattle.std.proofs.Common.{◌≡◌, ℕ, ◌<◌, ◌≤◌, true, List, [], ◌∷◌, ◌++◌, length, slice_get, refl, sym, ap, ◌∙◌, subst, inl, inr}
use mathlib.Core.List.{map}
use Rattle.std.specs.List.{Contains, slice_index_or}
use Rattle.std.proofs.lemmas.Bool.{eq-eqb, and_parts}
use Rattle.ss_base.specs.declared.ids.ContainerId.{ContainerId}
use Rattle.ss_base.specs.declared.ids.ManifestId.{ManifestId}
use Rattle.ss_base.specs.declared.name.Name.{Name}
use Rattle.ss_base.specs.declared.name.Piece.{Piece}
use Rattle.ss_base.specs.declared.profile.Numbers.{Numbers}
use Rattle.ss_base.proofs.MemberLaws.{In}
use Rattle.chunk_name.specs.Pieces.{piece, name_of_bytes}
use Rattle.hook_sampler.specs.Hooks.{hooks}
use Rattle.manifest_codec.specs.Text.{manifest_text}
use Rattle.manifest_codec.specs.PiecesPart.{pieces_part}
use Rattle.manifest_codec.specs.Containers.{AreContainers}
use Rattle.container_file.specs.Chunk.{Chunk}
use Rattle.container_file.specs.Layout.{Laid, laid_in}
use Rattle.container_file.specs.Text.{container_text}
use Rattle.outside.specs.Shelf.{Objects}
use Rattle.segment_reader.specs.SegmentsOf.{segments_of}
use Rattle.segment_plan.specs.Plan.{Located, pieces_of, fresh_of, places_against, laid_against, end_against}
use Rattle.segment_plan.specs.Planned.{total_len}
use Rattle.journal_entry.specs.declared.entry.Entry.{Entry}
use Rattle.journal_entry.specs.declared.entry.Point.{Point}
use Rattle.journal_entry.specs.declared.entry.Point.TheVariants.{Choose, Commit, Finish, Abort}
use Rattle.history.specs.declared.rules.Rules.{Rules}
use Rattle.history.specs.Sessions.{begins, has, finishes, aborts, commits_of, pending_champions}
use Rattle.history.specs.Need.{is_live}
use Rattle.history.specs.Legal.{is_legal, is_allowed}
use Rattle.history_laws.proofs.Allowed.{step, finishes_open, aborts_open, choose_says, commit_says}
use Rattle.history_laws.proofs.SessionLaws.{has_older, unfinished_is, committed_begun}
use Rattle.history_laws.proofs.NeedLaws.{manifest_listed}
use Rattle.history_laws.proofs.LiveLaws.{pending_committed}
use Rattle.stored_streams.specs.Streams.{Streams, segment_count, manifest_chunks, manifest_pieces}
use Rattle.stored_streams.specs.Plans.{Planned, planned_places, located_of, plan_for, next_plan, plans_after, plans_of, end_of, laid_of, text_of, containers_of}
use Rattle.stored_streams.specs.OfStreams.{next_of, ContentOf, IsComplete, StoresSegment, StoredOf, EndOf, EachEntry, HasContents, HasStored, IsOfStreams}
use Rattle.stored_streams.specs.Agree.{AgreeOn}
use Rattle.stored_streams.specs.Whole.{IsChunkWith, IsManifestWhole, HasRecords, IsWhole}

-- ---- what a table says of one session

count_same : (n : Numbers) (one other : Streams) (session : ℕ) → one session ≡ other session → segment_count n one session ≡ segment_count n other session
unfolding segment_count
count_same n one other session same = ap (λ (bytes : List ℕ). length (segments_of n bytes)) same

pub chunks_same : (n : Numbers) (one other : Streams) (id : ManifestId) → one id.session ≡ other id.session → manifest_chunks n one id ≡ manifest_chunks n other id
unfolding manifest_chunks
chunks_same n one other id same = ap (λ (bytes : List ℕ). slice_index_or (segments_of n bytes) id.seq []) same

pub pieces_same : (n : Numbers) (one other : Streams) (id : ManifestId) → one id.session ≡ other id.session → manifest_pieces n one id ≡ manifest_pieces n other id
unfolding manifest_pieces
pieces_same n one other id same = ap (map piece) (chunks_same n one other id same)

-- ---- plans

located_same : (n : Numbers) (one other : Streams) (ids : List ManifestId) (before after : List Planned) → ((id : ManifestId) → In id ids → one id.session ≡ other id.session) → before ≡ after → located_of n one ids before ≡ located_of n other ids after
unfolding located_of
located_same n one other [] before after agree plans = refl
located_same n one other (id ∷ ids) before after agree plans =
    let first = pieces_same n one other id (agree id (inl refl)) in
    let rest = located_same n one other ids before after (λ x h. agree x (inr h)) plans in
    λ i. let located : Located = record { pieces = first i; places = planned_places id (plans i) } in located ∷ rest i

plan_same : (n : Numbers) (one other : Streams) (id : ManifestId) (first second : List Located) (before after : List Planned) → one id.session ≡ other id.session → first ≡ second → before ≡ after → plan_for n one id first before ≡ plan_for n other id second after
unfolding plan_for
plan_same n one other id first second before after same located plans =
    let chunks = chunks_same n one other id same in
    λ i. record {
      id = id;
      places = places_against (chunks i) (located i) (end_of id.session (plans i)) n.room;
      laid = laid_against (chunks i) (located i) (end_of id.session (plans i)) n.room;
      end = end_against (chunks i) (located i) (end_of id.session (plans i)) n.room;
    }

-- ---- one entry

-- two tables that agree on the sessions of a legal history, and so on its plans
record IsAgreed (n : Numbers) (rules : Rules) (one other : Streams) (past : List Entry) : Type 0 where
  pub legal : is_legal rules past ≡ true
  pub agree : AgreeOn past one other
  pub plans : plans_of n one past ≡ plans_of n other past

champions_located : (n : Numbers) (rules : Rules) (one other : Streams) (past : List Entry) (session : ℕ) → IsAgreed n rules one other past → located_of n one (pending_champions session past) (plans_of n one past) ≡ located_of n other (pending_champions session past) (plans_of n other past)
champions_located n rules one other past session agreed =
    let ids = pending_champions session past in
    located_same n one other ids (plans_of n one past) (plans_of n other past)
    (λ id h. agreed.agree id.session (committed_begun rules id past agreed.legal (pending_committed rules session id past agreed.legal (manifest_listed id ids h))))
    agreed.plans

next_same : (n : Numbers) (rules : Rules) (one other : Streams) (past : List Entry) (id : ManifestId) → IsAgreed n rules one other past → one id.session ≡ other id.session → next_plan n one past id (plans_of n one past) ≡ next_plan n other past id (plans_of n other past)
unfolding next_plan
next_same n rules one other past id agreed same =
    plan_same n one other id _ _ (plans_of n one past) (plans_of n other past) same (champions_located n rules one other past id.session agreed) agreed.plans

-- the session of an entry that stores or ends something began
same_chosen : (n : Numbers) (rules : Rules) (one other : Streams) (past : List Entry) (author session : ℕ) (chosen : List Name) (champions : List ManifestId) → IsAgreed n rules one other past → is_allowed rules past author (Choose session chosen champions) ≡ true → one session ≡ other session
same_chosen n rules one other past author session chosen champions agreed allowed =
    agreed.agree session (unfinished_is session past (choose_says rules past author session chosen champions allowed).unfinished).0

same_committed : (n : Numbers) (rules : Rules) (one other : Streams) (past : List Entry) (author : ℕ) (id : ManifestId) (content text : Name) (chunks bytes fresh fresh_bytes : ℕ) (uses : List ContainerId) → IsAgreed n rules one other past → is_allowed rules past author (Commit id content text chunks bytes fresh fresh_bytes uses) ≡ true → one id.session ≡ other id.session
same_committed n rules one other past author id content text chunks bytes fresh fresh_bytes uses agreed allowed =
    agreed.agree id.session (unfinished_is id.session past (commit_says rules past author id content text chunks bytes fresh fresh_bytes uses allowed).unfinished).0

same_finished : (n : Numbers) (rules : Rules) (one other : Streams) (past : List Entry) (author session containers : ℕ) → IsAgreed n rules one other past → is_allowed rules past author (Finish session containers) ≡ true → one session ≡ other session
unfolding finishes
same_finished n rules one other past author session containers agreed allowed =
    agreed.agree session (unfinished_is session past (finishes_open rules past author session (Finish session containers) allowed (eq-eqb session session refl))).0

same_aborted : (n : Numbers) (rules : Rules) (one other : Streams) (past : List Entry) (author session containers texts : ℕ) → IsAgreed n rules one other past → is_allowed rules past author (Abort session containers texts) ≡ true → one session ≡ other session
unfolding aborts
same_aborted n rules one other past author session containers texts agreed allowed =
    agreed.agree session (unfinished_is session past (aborts_open rules past author session (Abort session containers texts) allowed (eq-eqb session session refl))).0

plans_step : (n : Numbers) (rules : Rules) (one other : Streams) (past : List Entry) (author : ℕ) (point : Point) → IsAgreed n rules one other past → is_allowed rules past author point ≡ true → plans_after n one past point (plans_of n one past) ≡ plans_after n other past point (plans_of n other past)
unfolding plans_after
plans_step n rules one other past author (Commit id content text chunks bytes fresh fresh_bytes uses) agreed allowed =
    let next = next_same n rules one other past id agreed (same_committed n rules one other past author id content text chunks bytes fresh fresh_bytes uses agreed allowed) in
    let plans = agreed.plans in
    λ i. next i ∷ plans i
plans_step n rules one other past author _ agreed allowed = agreed.plans

content_step : (n : Numbers) (rules : Rules) (one other : Streams) (past : List Entry) (author : ℕ) (point : Point) → IsAgreed n rules one other past → is_allowed rules past author point ≡ true → ContentOf n one past point → ContentOf n other past point
content_step n rules one other past author (Choose session chosen champions) agreed allowed has =
    let same = same_chosen n rules one other past author session chosen champions agreed allowed in
    record {
      there = subst (λ (k : ℕ). commits_of session past < k) (count_same n one other session same) has.there;
      hooks_are = has.hooks_are ∙ ap (hooks n.bits) (pieces_same n one other (next_of session past) same);
    }
content_step n rules one other past author (Commit id content text chunks bytes fresh fresh_bytes uses) agreed allowed has =
    let same = same_committed n rules one other past author id content text chunks bytes fresh fresh_bytes uses agreed allowed in
    let pieces = pieces_same n one other id same in
    record {
      there = subst (λ (k : ℕ). id.seq < k) (count_same n one other id.session same) has.there;
      chunk_count = has.chunk_count ∙ ap (λ (ps : List Piece). length ps) pieces;
      byte_count = has.byte_count ∙ ap (λ (ps : List Piece). total_len ps) pieces;
      digest = has.digest ∙ ap (λ (ps : List Piece). name_of_bytes (pieces_part ps)) pieces;
    }
content_step n rules one other past author _ agreed allowed has = tt

complete_step : (n : Numbers) (rules : Rules) (one other : Streams) (past : List Entry) (author : ℕ) (point : Point) → IsAgreed n rules one other past → is_allowed rules past author point ≡ true → IsComplete n one past point → IsComplete n other past point
complete_step n rules one other past author (Finish session containers) agreed allowed has =
    has ∙ count_same n one other session (same_finished n rules one other past author session containers agreed allowed)
complete_step n rules one other past author _ agreed allowed has = tt

stores_same : (n : Numbers) (one other : Streams) (id : ManifestId) (first second : List Located) (before after : List Planned) (text : Name) (fresh fresh_bytes : ℕ) (uses : List ContainerId) → one id.session ≡ other id.session → first ≡ second → before ≡ after → StoresSegment n one id first before text fresh fresh_bytes uses → StoresSegment n other id second after text fresh fresh_bytes uses
stores_same n one other id first second before after text fresh fresh_bytes uses same located plans has =
    let chunks = chunks_same n one other id same in
    let pieces = pieces_same n one other id same in
    let plan = plan_same n one other id first second before after same located plans in
    let new : fresh_of (manifest_chunks n one id) (pieces_of first) ≡ fresh_of (manifest_chunks n other id) (pieces_of second) = λ i. fresh_of (chunks i) (pieces_of (located i)) in
    record {
      fresh_count = has.fresh_count ∙ ap (λ (cs : List Chunk). length cs) new;
      fresh_sum = has.fresh_sum ∙ ap (λ (cs : List Chunk). total_len (map (λ (c : Chunk). c.piece) cs)) new;
      containers = subst (λ (p : Planned). AreContainers p.places uses) plan has.containers;
      digest = has.digest ∙ (λ i. name_of_bytes (manifest_text (pieces i) ((plan i).places)));
    }

stored_step : (n : Numbers) (rules : Rules) (one other : Streams) (past : List Entry) (author : ℕ) (point : Point) → IsAgreed n rules one other past → is_allowed rules past author point ≡ true → StoredOf n one past point → StoredOf n other past point
stored_step n rules one other past author (Commit id content text chunks bytes fresh fresh_bytes uses) agreed allowed has =
    stores_same n one other id _ _ _ _ text fresh fresh_bytes uses
    (same_committed n rules one other past author id content text chunks bytes fresh fresh_bytes uses agreed allowed)
    (champions_located n rules one other past id.session agreed) agreed.plans has
stored_step n rules one other past author _ agreed allowed has = tt

end_step : (n : Numbers) (rules : Rules) (one other : Streams) (past : List Entry) (author : ℕ) (point : Point) → IsAgreed n rules one other past → is_allowed rules past author point ≡ true → EndOf n one past point → EndOf n other past point
end_step n rules one other past author (Finish session containers) agreed allowed has =
    has ∙ ap (λ (plans : List Planned). (end_of session plans).containers) agreed.plans
end_step n rules one other past author (Abort session containers texts) agreed allowed has =
    let same = same_aborted n rules one other past author session containers texts agreed allowed in
    let plan = plan_same n one other (next_of session past) _ _ _ _ same (champions_located n rules one other past session agreed) agreed.plans in
    record {
      least = subst (λ (plans : List Planned). (end_of session plans).containers ≤ containers) agreed.plans has.least;
      idle = λ not. has.idle not ∙ ap (λ (plans : List Planned). (end_of session plans).containers) agreed.plans;
      pending = λ is. subst (λ (p : Planned). containers ≤ p.end.containers) plan (has.pending is);
    }
end_step n rules one other past author _ agreed allowed has = tt

-- ---- all entries

agree_before : (entry : Entry) (past : List Entry) (one other : Streams) → AgreeOn (entry ∷ past) one other → AgreeOn past one other
agree_before entry past one other agree session begun = agree session (has_older (begins session) entry past begun)

agreed : (n : Numbers) (rules : Rules) (one other : Streams) (past : List Entry) → is_legal rules past ≡ true → AgreeOn past one other → IsAgreed n rules one other past
unfolding plans_of
agreed n rules one other [] legal agree = record { legal = legal; agree = agree; plans = refl }
agreed n rules one other (entry ∷ past) legal agree =
    let now = step rules entry past legal in
    let before = agreed n rules one other past now.legal (agree_before entry past one other agree) in
    record { legal = legal; agree = agree; plans = plans_step n rules one other past entry.author entry.point before now.allowed }

-- what an entry says of one table it says of the other
abbrev Carries : Rules → (List Entry → Point → Type 0) → (List Entry → Point → Type 0) → List Entry → Type 0
Carries rules asks others past = (author : ℕ) (point : Point) → is_allowed rules past author point ≡ true → asks past point → others past point

each_agrees : (n : Numbers) (rules : Rules) (one other : Streams) (asks others : List Entry → Point → Type 0) (past : List Entry) → ((past : List Entry) → IsAgreed n rules one other past → Carries rules asks others past) → is_legal rules past ≡ true → AgreeOn past one other → EachEntry asks past → EachEntry others past
each_agrees n rules one other asks others [] carries legal agree each = tt
each_agrees n rules one other asks others (entry ∷ past) carries legal agree each =
    let now = step rules entry past legal in
    let agree_past = agree_before entry past one other agree in (
      each_agrees n rules one other asks others past carries now.legal agree_past each.0,
      carries past (agreed n rules one other past now.legal agree_past) entry.author entry.point now.allowed each.1,
    )

pub contents_agree : (n : Numbers) (rules : Rules) (one other : Streams) (past : List Entry) → is_legal rules past ≡ true → AgreeOn past one other → HasContents n one past → HasContents n other past
contents_agree n rules one other past legal agree has = record {
  contents = each_agrees n rules one other (ContentOf n one) (ContentOf n other) past (λ past agreed author point allowed has. content_step n rules one other past author point agreed allowed has) legal agree has.contents;
  complete = each_agrees n rules one other (IsComplete n one) (IsComplete n other) past (λ past agreed author point allowed has. complete_step n rules one other past author point agreed allowed has) legal agree has.complete;
}

pub stored_agrees : (n : Numbers) (rules : Rules) (one other : Streams) (past : List Entry) → is_legal rules past ≡ true → AgreeOn past one other → HasStored n one past → HasStored n other past
stored_agrees n rules one other past legal agree has = record {
  stored = each_agrees n rules one other (StoredOf n one) (StoredOf n other) past (λ past agreed author point allowed has. stored_step n rules one other past author point agreed allowed has) legal agree has.stored;
  ends = each_agrees n rules one other (EndOf n one) (EndOf n other) past (λ past agreed author point allowed has. end_step n rules one other past author point agreed allowed has) legal agree has.ends;
}

pub of_streams_agrees : (n : Numbers) (rules : Rules) (one other : Streams) (past : List Entry) → is_legal rules past ≡ true → AgreeOn past one other → IsOfStreams n one past → IsOfStreams n other past
of_streams_agrees n rules one other past legal agree is = record {
  contents = contents_agree n rules one other past legal agree is.contents;
  stored = stored_agrees n rules one other past legal agree is.stored;
}

-- ---- objects that are whole

chunk_agrees : (n : Numbers) (one other : Streams) (past : List Entry) (p : Piece) (bytes : List ℕ) → AgreeOn past one other → IsChunkWith n one past p bytes → IsChunkWith n other past p bytes
chunk_agrees n one other past p bytes agree is = record {
  id = is.id;
  begun = is.begun;
  chunk = subst (λ (chunks : List (List ℕ)). Contains chunks bytes) (chunks_same n one other is.id (agree is.id.session is.begun)) is.chunk;
  piece_is = is.piece_is;
}

manifest_agrees : (n : Numbers) (one other : Streams) (past : List Entry) (objects : Objects) (id : ManifestId) → AgreeOn past one other → plans_of n one past ≡ plans_of n other past → one id.session ≡ other id.session → IsManifestWhole n one past objects id → IsManifestWhole n other past objects id
unfolding text_of
manifest_agrees n one other past objects id agree plans same is =
    let pieces = pieces_same n one other id same in
    record {
      text = is.text ∙ (λ i. manifest_text (pieces i) (planned_places id (plans i)));
      chunks = λ k p place piece_there place_there. chunk_agrees n one other past p _ agree
          (is.chunks k p place (ap (λ (ps : List Piece). slice_get ps k) pieces ∙ piece_there) (ap (λ (ps : List Planned). slice_get (planned_places id ps) k) plans ∙ place_there));
    }

records_agree : (n : Numbers) (one other : Streams) (past : List Entry) (objects : Objects) (id : ContainerId) → plans_of n one past ≡ plans_of n other past → HasRecords n one past objects id → HasRecords n other past objects id
records_agree n one other past objects id plans has = record {
  rest = has.rest;
  begins = has.begins ∙ ap (λ (ps : List Planned). container_text id (map (λ (l : Laid). l.chunk) (laid_in id.ordinal (laid_of id.session ps))) ++ has.rest) plans;
}

pub whole_agrees : (n : Numbers) (rules : Rules) (one other : Streams) (past : List Entry) (objects : Objects) → is_legal rules past ≡ true → AgreeOn past one other → IsWhole n one past objects → IsWhole n other past objects
unfolding containers_of is_live
whole_agrees n rules one other past objects legal agree is =
    let plans = (agreed n rules one other past legal agree).plans in
    record {
      manifests = λ id live.
          let committed = (and_parts _ _ live).0 in
          manifest_agrees n one other past objects id agree plans (agree id.session (committed_begun rules id past legal committed)) (is.manifests id live);
      containers = λ id unfinished below.
          records_agree n one other past objects id plans (is.containers id unfinished (subst (λ (ps : List Planned). id.ordinal < (end_of id.session ps).containers) (sym plans) below));
    }
