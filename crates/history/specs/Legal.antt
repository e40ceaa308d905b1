-- Legal histories (this project's own): which entry is allowed after which.
use Rattle.std.specs.Prelude.{ℕ, suc, Bool, true, false, ◌==◌, ◌&&◌, ◌||◌, not, nat_lt, nat_le, ◌+◌, List, [], ◌∷◌, length, take, count_by, Option, Some, None, option_map, if◌then◌else◌}
use Rattle.std.specs.List.{list_any, list_all}
use Rattle.std.specs.Option.{option_eq, option_map_or}
use Rattle.std.specs.Cmp.Lexicographic.{pointwise}
use Rattle.ss_base.specs.declared.ids.ContainerId.{ContainerId}
use Rattle.ss_base.specs.declared.ids.ManifestId.{ManifestId}
use Rattle.ss_base.specs.declared.name.Name.{Name}
use Rattle.ss_base.specs.Ids.{same_manifest, same_object, has_container, are_distinct}
use Rattle.ss_base.specs.Order.{are_ascending}
use Rattle.ss_base.specs.Hook.{is_hook}
use Rattle.journal_entry.specs.declared.entry.Entry.{Entry}
use Rattle.journal_entry.specs.declared.entry.Seen.{Seen}
use Rattle.journal_entry.specs.declared.entry.Totals.{Totals}
use Rattle.history.specs.declared.rules.Limits.{Limits}
use Rattle.history.specs.declared.rules.Rules.{Rules}
use Rattle.journal_entry.specs.declared.entry.Point.{Point}
use Rattle.journal_entry.specs.declared.entry.Point.TheVariants.{Begin, Choose, Commit, Finish, Abort, Delete, Look, Done, Reclaim, Stat}
use Rattle.journal_entry.specs.Bounds.{most_hooks, most_uses, most_objects, are_counts}
use Rattle.journal_entry.specs.Weight.{weight}
use Rattle.history.specs.Sessions.{session_begun, session_count, reading_begun, reading_count, is_unfinished, is_reading, is_held, retained, is_begun_by, is_looked_by, commits_of, is_pending, pending_champions, has}
use Rattle.history.specs.StandingList.{champions_for}
use Rattle.history.specs.OwnEnd.{own_end}
use Rattle.history.specs.Need.{erasable}
use Rattle.history.specs.TotalsOf.{totals}

-- ---- replies

abbrev pub same_seen : Seen → Seen → Bool
same_seen a b = (a.reader == b.reader) && (a.session == b.session)

abbrev pub same_totals : Totals → Totals → Bool
same_totals a b =
    (a.streams == b.streams)
    && ((a.bytes == b.bytes)
    && ((a.fresh == b.fresh)
    && ((a.containers == b.containers)
    && ((a.reclaimed == b.reclaimed) && (a.entries == b.entries)))))

-- ---- what each kind of entry must record

-- whether the session is unfinished and was begun by the author
unfoldable pub is_open_to : ℕ → ℕ → List Entry → Bool
is_open_to author session past = is_unfinished session past && is_begun_by author session past

-- the reply of a Begin: none where the name is held, else the next session
unfoldable pub reply_to_begin : List ℕ → List Entry → Option ℕ
reply_to_begin name past = if is_held name past then None else Some (session_count past)

-- the reply of a Look: none where no stream is retained under the name, else the next reader and the stream's session
unfoldable pub reply_to_look : List ℕ → List Entry → Option Seen
reply_to_look name past = option_map (λ session. record { reader = reading_count past; session = session }) (retained name past)

-- distinct hooks, at most 4,096, each with so many zero bits
unfoldable pub are_hooks : ℕ → List Name → Bool
are_hooks bits hooks = are_distinct hooks && (nat_le (length hooks) most_hooks && list_all (is_hook bits) hooks)

-- whether an entry commits the manifest with chunks in the container
unfoldable pub lists_use : ManifestId → ContainerId → Point → Bool
lists_use id container (Commit manifest content text chunks bytes fresh fresh_bytes uses) = same_manifest id manifest && has_container container uses
lists_use id container _ = false

-- whether the container is a use of one of the manifests
unfoldable pub is_use_of_any : List ManifestId → List Entry → ContainerId → Bool
is_use_of_any manifests past id = list_any (λ manifest. has (lists_use manifest id) past) manifests

-- a container of the session's own with an ordinal below 2^32 - 1, or a use of one of the champions
unfoldable pub is_use : ℕ → List ManifestId → List Entry → ContainerId → Bool
is_use session champions past id =
    ((id.session == session) && nat_lt id.ordinal 4294967295)
    || is_use_of_any champions past id

-- ascending, at most 4,096, and each is one that the session may use
unfoldable pub are_uses : ℕ → List Entry → List ContainerId → Bool
are_uses session past uses =
    are_ascending uses && (nat_le (length uses) most_uses && list_all (is_use session (pending_champions session past) past) uses)

-- the session's commits, or, where a choice is pending, that number or one more
unfoldable pub are_texts : ℕ → ℕ → List Entry → Bool
are_texts session texts past =
    (texts == commits_of session past) || (is_pending session past && (texts == suc (commits_of session past)))

-- ---- what is allowed at each point, after the entries of past

unfoldable pub is_allowed : Rules → List Entry → ℕ → Point → Bool
is_allowed rules past author (Begin name session) = option_eq (λ a b. a == b) session (reply_to_begin name past)
is_allowed rules past author (Choose session hooks champions) =
    is_open_to author session past
    && (not (is_pending session past)
    && (are_hooks rules.bits hooks
    && pointwise same_manifest champions (champions_for rules hooks past)))
is_allowed rules past author (Commit manifest content text chunks bytes fresh fresh_bytes uses) =
    is_open_to author manifest.session past
    && (is_pending manifest.session past
    && ((manifest.seq == commits_of manifest.session past)
    && (are_counts chunks bytes fresh fresh_bytes
    && are_uses manifest.session past uses)))
is_allowed rules past author (Finish session containers) =
    is_open_to author session past
    && (not (is_pending session past)
    && nat_le (own_end session past) containers)
is_allowed rules past author (Abort session containers texts) =
    is_open_to author session past
    && (nat_le (own_end session past) containers
    && are_texts session texts past)
is_allowed rules past author (Delete name session) = option_eq (λ a b. a == b) session (retained name past)
is_allowed rules past author (Look name seen) = option_eq same_seen seen (reply_to_look name past)
is_allowed rules past author (Done reader) = is_reading reader past && is_looked_by author reader past
is_allowed rules past author (Reclaim objects) = pointwise same_object objects (take most_objects (erasable past))
is_allowed rules past author (Stat given) = same_totals given (totals past)

-- ---- limits

-- whether an entry began a session, or a reading, that is unfinished
unfoldable pub begins_unfinished : List Entry → Point → Bool
begins_unfinished past point = option_map_or (λ session. is_unfinished session past) (session_begun point) false

unfoldable pub looks_unfinished : List Entry → Point → Bool
looks_unfinished past point = option_map_or (λ (seen : Seen). is_reading seen.reader past) (reading_begun point) false

unfoldable pub unfinished_sessions : List Entry → ℕ
unfinished_sessions past = count_by (λ (entry : Entry). begins_unfinished past entry.point) past

unfoldable pub unfinished_readings : List Entry → ℕ
unfinished_readings past = count_by (λ (entry : Entry). looks_unfinished past entry.point) past

-- whether the entries fit the limits, with room for an entry that ends each unfinished session and reading
unfoldable pub is_within : Limits → List Entry → Bool
is_within limits past =
    nat_le (length past + unfinished_sessions past + unfinished_readings past) limits.entries
    && nat_le (weight past) limits.weight

-- ---- legal histories

-- whether an entry may follow
unfoldable pub may_follow : Rules → Entry → List Entry → Bool
may_follow rules entry past = is_allowed rules past entry.author entry.point && is_within rules.limits (entry ∷ past)

-- each entry is allowed after those before it, and with it the entries fit the limits
unfoldable pub is_legal : Rules → List Entry → Bool
is_legal rules [] = true
is_legal rules (entry ∷ past) = is_legal rules past && may_follow rules entry past
