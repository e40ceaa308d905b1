-- How many containers of its own a session used (this project's own).
use Rattle.std.specs.Prelude.{ℕ, ◌+◌, ◌==◌, max, List, [], ◌∷◌, if◌then◌else◌}
use Rattle.ss_base.specs.declared.ids.ContainerId.{ContainerId}
use Rattle.journal_entry.specs.declared.entry.Entry.{Entry}
use Rattle.journal_entry.specs.declared.entry.Point.{Point}
use Rattle.journal_entry.specs.declared.entry.Point.TheVariants.{Commit}

-- the greatest number of the items, 0 where there are none
unfoldable pub greatest_by : {A : Type 0} → (A → ℕ) → List A → ℕ
greatest_by f [] = 0
greatest_by f (x ∷ xs) = max (f x) (greatest_by f xs)

-- the least number above the container's ordinal, where it is the session's own; else 0
unfoldable pub end_of : ℕ → ContainerId → ℕ
end_of session id = if id.session == session then id.ordinal + 1 else 0

-- the least number above each own ordinal among the containers
unfoldable pub end_among : ℕ → List ContainerId → ℕ
end_among session uses = greatest_by (end_of session) uses

-- the least number above each own ordinal that an entry of the session uses
unfoldable pub end_used : ℕ → Point → ℕ
end_used session (Commit manifest content text chunks bytes fresh fresh_bytes uses) =
    if manifest.session == session then end_among session uses else 0
end_used session _ = 0

-- the least number of containers that is above each own ordinal that the session used
unfoldable pub own_end : ℕ → List Entry → ℕ
own_end session past = greatest_by (λ (entry : Entry). end_used session entry.point) past
