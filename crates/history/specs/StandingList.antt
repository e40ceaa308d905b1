-- Which manifests stand at a hook, the most recently used first (FAST 2009 bounds the list of a hook; the rule on
-- the order is this project's own).
use Rattle.std.specs.Prelude.{ℕ, List, [], ◌∷◌, length, map, Some, if◌then◌else◌}
use Rattle.ss_base.specs.declared.ids.ManifestId.{ManifestId}
use Rattle.ss_base.specs.declared.ids.Standing.{Standing}
use Rattle.ss_base.specs.declared.name.Name.{Name}
use Rattle.ss_base.specs.Ids.{has_name}
use Rattle.ss_base.specs.Standings.{in_front, promoted, without_session}
use Rattle.ss_base.specs.Champions.{champions}
use Rattle.journal_entry.specs.declared.entry.Entry.{Entry}
use Rattle.journal_entry.specs.declared.entry.Point.{Point}
use Rattle.journal_entry.specs.declared.entry.Point.TheVariants.{Choose, Commit, Abort, Delete}
use Rattle.history.specs.declared.rules.Rules.{Rules}
use Rattle.history.specs.Sessions.{last_hooks}

-- what stands at a hook after an entry, by what stood and by the entries before
unfoldable pub standing_after : ℕ → Name → Point → List Entry → List Standing → List Standing
standing_after bound hook (Commit manifest content text chunks bytes fresh fresh_bytes uses) past stood =
    if has_name hook (last_hooks manifest.session past) then in_front bound (record { id = manifest; stamp = length past }) stood else stood
standing_after bound hook (Choose session hooks chosen) past stood = if has_name hook hooks then promoted chosen stood else stood
standing_after bound hook (Abort session containers texts) past stood = without_session session stood
standing_after bound hook (Delete name (Some session)) past stood = without_session session stood
standing_after bound hook _ past stood = stood

-- The standing list of a hook. A Commit puts its manifest in front where its session's last choice has the hook, a
-- Choose that has the hook moves its champions to the front, and an Abort or a Delete takes the session's out.
unfoldable pub standing : ℕ → Name → List Entry → List Standing
standing bound hook [] = []
standing bound hook (entry ∷ past) = standing_after bound hook entry.point past (standing bound hook past)

-- the champions of a segment with these hooks: the greedy choice over what stands at each
unfoldable pub champions_for : Rules → List Name → List Entry → List ManifestId
champions_for rules hooks past = champions rules.champions (map (λ hook. standing rules.standings hook past) hooks)
