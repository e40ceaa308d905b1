-- What the newest entry leaves as it was.
use Rattle.std.proofs.Common.{◌≡◌, ℕ, List, [], ◌∷◌, ◌++◌, reverse, Option, Some, None, refl, ap, ◌∙◌}
use Rattle.std.proofs.lemmas.List.{reverse-append}
use Rattle.journal_entry.specs.declared.entry.Entry.{Entry}
use Rattle.journal_entry.specs.declared.entry.Point.{Point}
use Rattle.journal_entry.specs.declared.entry.Point.TheVariants.{Commit, Finish, Abort, Delete, Look, Done}
use Rattle.history.specs.Sessions.{newest, chooses, commits, looks, reading_begun}
use Rattle.history_laws.specs.EntryNumbers.{reading}
use Rattle.history_laws.proofs.NumberLaws.{numbers_same}
use Rattle.history_index.specs.Choices.{choices_for}
use Rattle.history_counts.specs.Streams.{stream_of, commits_in}
use Rattle.history_totals.specs.TallyOf.{stream_settled, commits_settled}

-- the entries, newest first, where the last of them is told
pub past_is : (entries before : List Entry) (entry : Entry) → entries ≡ before ++ entry ∷ [] → reverse entries ≡ entry ∷ reverse before
past_is entries before entry split = ap reverse split ∙ reverse-append before (entry ∷ [])

abbrev pub made : ℕ → Point → Entry
made author point = record { author = author; point = point }

choices_after : (author : ℕ) (point : Point) (past : List Entry) → choices_for point (made author point ∷ past) ≡ choices_for point past
unfolding choices_for chooses
choices_after author (Commit id content text chunks bytes fresh fresh_bytes uses) past = numbers_same (chooses id.session) (made author (Commit id content text chunks bytes fresh fresh_bytes uses)) past refl
choices_after author (Abort s containers texts) past = numbers_same (chooses s) (made author (Abort s containers texts)) past refl
choices_after author (Delete name (Some s)) past = numbers_same (chooses s) (made author (Delete name (Some s))) past refl
choices_after author (Delete name None) past = refl
choices_after author point past = refl

pub choices_stay : (entries before : List Entry) (entry : Entry) → entries ≡ before ++ entry ∷ [] → choices_for entry.point (reverse entries) ≡ choices_for entry.point (reverse before)
choices_stay entries before entry split = ap (choices_for entry.point) (past_is entries before entry split) ∙ choices_after entry.author entry.point (reverse before)

settled_after : (author : ℕ) (point : Point) (past : List Entry) → commits_settled point (made author point ∷ past) ≡ commits_settled point past
unfolding commits_settled stream_settled commits
settled_after author (Finish s containers) past = numbers_same (commits s) (made author (Finish s containers)) past refl
settled_after author (Delete name (Some s)) past = numbers_same (commits s) (made author (Delete name (Some s))) past refl
settled_after author (Delete name None) past = refl
settled_after author point past = refl

pub settled_stay : (entries before : List Entry) (entry : Entry) → entries ≡ before ++ entry ∷ [] → commits_settled entry.point (reverse entries) ≡ commits_settled entry.point (reverse before)
settled_stay entries before entry split = ap (commits_settled entry.point) (past_is entries before entry split) ∙ settled_after entry.author entry.point (reverse before)

abbrev stream_commits : Point → List Entry → List ℕ
stream_commits point past = commits_in (stream_of point past) past

-- a Done commits nothing and begins no reading
done_reads : (author reader : ℕ) (past : List Entry) → stream_of (Done reader) (made author (Done reader) ∷ past) ≡ stream_of (Done reader) past
unfolding stream_of reading newest looks reading_begun
done_reads author reader past = refl

commits_same : (o : Option ℕ) (author reader : ℕ) (past : List Entry) → commits_in o (made author (Done reader) ∷ past) ≡ commits_in o past
unfolding commits_in commits
commits_same None author reader past = refl
commits_same (Some s) author reader past = numbers_same (commits s) (made author (Done reader)) past refl

done_after : (author reader : ℕ) (past : List Entry) → stream_commits (Done reader) (made author (Done reader) ∷ past) ≡ stream_commits (Done reader) past
done_after author reader past =
    ap (λ (o : Option ℕ). commits_in o (made author (Done reader) ∷ past)) (done_reads author reader past) ∙ commits_same (stream_of (Done reader) past) author reader past

stream_after : (author : ℕ) (point : Point) (past : List Entry) → stream_commits point (made author point ∷ past) ≡ stream_commits point past
unfolding commits_in stream_of commits
stream_after author (Finish s containers) past = numbers_same (commits s) (made author (Finish s containers)) past refl
stream_after author (Abort s containers texts) past = numbers_same (commits s) (made author (Abort s containers texts)) past refl
stream_after author (Delete name (Some s)) past = numbers_same (commits s) (made author (Delete name (Some s))) past refl
stream_after author (Delete name None) past = refl
stream_after author (Look name (Some seen)) past = numbers_same (commits seen.session) (made author (Look name (Some seen))) past refl
stream_after author (Look name None) past = refl
stream_after author (Done reader) past = done_after author reader past
stream_after author point past = refl

pub stream_stays : (entries before : List Entry) (entry : Entry) → entries ≡ before ++ entry ∷ [] → commits_in (stream_of entry.point (reverse entries)) (reverse entries) ≡ commits_in (stream_of entry.point (reverse before)) (reverse before)
stream_stays entries before entry split = ap (stream_commits entry.point) (past_is entries before entry split) ∙ stream_after entry.author entry.point (reverse before)
