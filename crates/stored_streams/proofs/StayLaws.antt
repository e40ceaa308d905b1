-- A history of the streams stays one under entries that store nothing, and its past is one.
use Rattle.std.proofs.Common.{List, [], ◌∷◌, ◌++◌}
use Rattle.std.specs.List.{All}
use Rattle.std.proofs.lemmas.List.Elements.{All-head, All-tail}
use Rattle.ss_base.specs.declared.profile.Numbers.{Numbers}
use Rattle.journal_entry.specs.declared.entry.Entry.{Entry}
use Rattle.journal_entry.specs.declared.entry.Point.{Point}
use Rattle.journal_entry.specs.declared.entry.Point.TheVariants.{Choose, Commit, Finish, Abort}
use Rattle.stored_streams.specs.Streams.{Streams}
use Rattle.stored_streams.specs.OfStreams.{ContentOf, IsComplete, StoredOf, EndOf, StoresNothing, EachEntry, HasContents, HasStored, IsOfStreams}

abbrev pub Nothing : Entry → Type 0
Nothing entry = StoresNothing entry.point

-- what is asked of an entry that stores nothing
record IsFree (n : Numbers) (streams : Streams) (past : List Entry) (point : Point) : Type 0 where
  pub content : ContentOf n streams past point
  pub complete : IsComplete n streams past point
  pub stored : StoredOf n streams past point
  pub end : EndOf n streams past point

free : (n : Numbers) (streams : Streams) (past : List Entry) (point : Point) → StoresNothing point → IsFree n streams past point
free n streams past (Choose session chosen champions) none = absurd none
free n streams past (Commit id content text chunks bytes fresh fresh_bytes uses) none = absurd none
free n streams past (Finish session containers) none = absurd none
free n streams past (Abort session containers texts) none = absurd none
free n streams past _ none = record { content = tt; complete = tt; stored = tt; end = tt }

each_stays : (asks : List Entry → Point → Type 0) (newer older : List Entry) → ((past : List Entry) (point : Point) → StoresNothing point → asks past point) → All Nothing newer → EachEntry asks older → EachEntry asks (newer ++ older)
each_stays asks [] older says none each = each
each_stays asks (entry ∷ newer) older says none each =
    (each_stays asks newer older says (All-tail Nothing entry newer none) each, says (newer ++ older) entry.point (All-head Nothing entry newer none))

pub contents_stay : (n : Numbers) (streams : Streams) (newer older : List Entry) → All Nothing newer → HasContents n streams older → HasContents n streams (newer ++ older)
contents_stay n streams newer older none has = record {
  contents = each_stays (ContentOf n streams) newer older (λ past point nothing. (free n streams past point nothing).content) none has.contents;
  complete = each_stays (IsComplete n streams) newer older (λ past point nothing. (free n streams past point nothing).complete) none has.complete;
}

pub stored_stays : (n : Numbers) (streams : Streams) (newer older : List Entry) → All Nothing newer → HasStored n streams older → HasStored n streams (newer ++ older)
stored_stays n streams newer older none has = record {
  stored = each_stays (StoredOf n streams) newer older (λ past point nothing. (free n streams past point nothing).stored) none has.stored;
  ends = each_stays (EndOf n streams) newer older (λ past point nothing. (free n streams past point nothing).end) none has.ends;
}

pub of_streams_stays : (n : Numbers) (streams : Streams) (newer older : List Entry) → All Nothing newer → IsOfStreams n streams older → IsOfStreams n streams (newer ++ older)
of_streams_stays n streams newer older none is = record {
  contents = contents_stay n streams newer older none is.contents;
  stored = stored_stays n streams newer older none is.stored;
}

-- ---- its past

each_before : (asks : List Entry → Point → Type 0) (newer older : List Entry) → EachEntry asks (newer ++ older) → EachEntry asks older
each_before asks [] older each = each
each_before asks (entry ∷ newer) older each = each_before asks newer older each.0

pub contents_before : (n : Numbers) (streams : Streams) (newer older : List Entry) → HasContents n streams (newer ++ older) → HasContents n streams older
contents_before n streams newer older has = record {
  contents = each_before (ContentOf n streams) newer older has.contents;
  complete = each_before (IsComplete n streams) newer older has.complete;
}

pub stored_before : (n : Numbers) (streams : Streams) (newer older : List Entry) → HasStored n streams (newer ++ older) → HasStored n streams older
stored_before n streams newer older has = record {
  stored = each_before (StoredOf n streams) newer older has.stored;
  ends = each_before (EndOf n streams) newer older has.ends;
}

pub of_streams_before : (n : Numbers) (streams : Streams) (newer older : List Entry) → IsOfStreams n streams (newer ++ older) → IsOfStreams n streams older
of_streams_before n streams newer older is = record {
  contents = contents_before n streams newer older is.contents;
  stored = stored_before n streams newer older is.stored;
}
