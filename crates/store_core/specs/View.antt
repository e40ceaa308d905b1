-- What contracts see of a state, of what is kept of a manifest and of a choice (this project's own).
use Rattle.history_laws.specs.EntryNumbers.{numbers_of, entry_at}
use Rattle.std.specs.Prelude.{ℕ, ◌^◌, nat_lt, if◌then◌else◌, ◌≡◌, ◌≤◌, true, false, List, [], ◌∷◌, ◌++◌, filter_map, reverse, Option, None, Some, option_and_then}
use Rattle.ss_base.specs.declared.ids.ContainerId.{ContainerId}
use Rattle.ss_base.specs.declared.ids.ManifestId.{ManifestId}
use Rattle.ss_base.specs.declared.name.Name.{Name}
use Rattle.ss_base.specs.declared.profile.Profile.{Profile}
use Rattle.ss_base.specs.Profile.{numbers_of as profile_numbers}
use Rattle.journal_entry.specs.declared.entry.Entry.{Entry}
use Rattle.journal_entry.specs.declared.entry.Point.{Point}
use Rattle.journal_entry.specs.declared.entry.Point.TheVariants.{Commit}
use Rattle.history.specs.declared.rules.Limits.{Limits}
use Rattle.history.specs.declared.rules.Rules.{Rules}
use Rattle.history.specs.Sessions.{newest, commits}
use Rattle.legal_history.specs.Recorded.{Recorded}
use Rattle.history_totals.specs.TallyOf.{next_author}
use Rattle.history.specs.Need.{commits_manifest}
use Rattle.history.specs.Legal.{is_within}

-- a store's profile and limits, and the entries of its journal, the oldest first
pub record StateView : Type 0 where
  pub profile : Profile
  pub limits : Limits
  pub entries : List Entry

-- the entries, the newest first
abbrev pub past_of : StateView → List Entry
past_of view = reverse view.entries

-- what its history is judged by, with so many manifests at a hook and champions of a segment
abbrev pub rules_of : ℕ → ℕ → StateView → Rules
rules_of standings champions view =
    record { bits = (profile_numbers view.profile).bits; standings = standings; champions = champions; limits = view.limits }

-- the entry that an author makes of a point
abbrev pub made : ℕ → Point → Entry
made author point = record { author = author; point = point }

-- one entry more, at the end, within the limits
pub record Adds (old new : StateView) (entry : Entry) : Type 0 where
  pub added : new ≡ record old { entries = old.entries ++ entry ∷ [] }
  pub fits : is_within old.limits (entry ∷ past_of old) ≡ true

-- nothing is added, since with the entry the limits would be broken
pub record IsFull (old new : StateView) (entry : Entry) : Type 0 where
  pub same : new ≡ old
  pub over : is_within old.limits (entry ∷ past_of old) ≡ false

-- one above the greatest author, or 0; none where there is no such number of 32 bits
abbrev pub author_after : List Entry → Option ℕ
author_after past = if nat_lt (next_author past) (2 ^ 32) then Some (next_author past) else None

-- what is kept of a manifest by its Commit
pub record KeptView : Type 0 where
  pub id : ManifestId
  pub text : Name
  pub content : Name
  pub chunks : ℕ
  pub uses : List ContainerId

unfoldable pub kept_by : Point → Option KeptView
kept_by (Commit manifest content text chunks bytes fresh fresh_bytes uses) =
    Some (record { id = manifest; text = text; content = content; chunks = chunks; uses = uses })
kept_by _ = None

-- what the Commit of a manifest kept
unfoldable pub kept : ManifestId → List Entry → Option KeptView
kept id past = option_and_then (λ (entry : Entry). kept_by entry.point) (newest (commits_manifest id) past)

-- what the entry with a number kept
unfoldable pub kept_at : List Entry → ℕ → Option KeptView
kept_at past n = option_and_then (λ (entry : Entry). kept_by entry.point) (entry_at n past)

-- what the Commits of these manifests kept, in order
abbrev pub all_kept : List ManifestId → List Entry → List KeptView
all_kept ids past = filter_map (λ id. kept id past) ids

-- what the Commits of a session kept, in order
abbrev pub stream_kept : ℕ → List Entry → List KeptView
stream_kept session past = filter_map (kept_at past) (numbers_of (commits session) past)

-- the entries with what they are judged by
abbrev pub recorded_of : ℕ → ℕ → StateView → Recorded
recorded_of standings champions view = record { rules = rules_of standings champions view; entries = view.entries }

-- what a state keeps of its numbers
pub record IsStateOf (standings champions : ℕ) (profile : Profile) (journal : Recorded) : Type 0 where
  pub rules : journal.rules ≡ record { bits = (profile_numbers profile).bits; standings = standings; champions = champions; limits = journal.rules.limits }
  pub least : 1 ≤ champions
  pub most : champions ≤ 255
