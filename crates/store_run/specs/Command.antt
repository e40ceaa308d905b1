-- The words of the commands (this project's own).
use Rattle.std.specs.Prelude.{◌≡◌, ℕ, ◌==◌, Bool, true, false, List, [], ◌∷◌, map, codes, string_bytes, String}
use Rattle.std.specs.List.{list_any}
use Rattle.std.specs.declared.alloc.Global.{Global}
use Rattle.ss_base.specs.declared.profile.Profile.{Profile}
use Rattle.ss_base.specs.declared.profile.Profile.TheVariants.{Tiny, Small, Large}
use Rattle.ss_base.specs.StreamName.{IsStreamName}
use Rattle.job_script.specs.FileName.{IsFileName}
use Rattle.store_run.specs.declared.command.Command.{Command}
use Rattle.store_run.specs.declared.command.Command.TheVariants.{Names, Segments, Init, Journal, Job}
use Rattle.job_script.specs.declared.job.JobKind.{JobKind}
use Rattle.job_script.specs.declared.job.JobKind.TheVariants.{Backup, Restore, Delete, Reclaim, Stat}

-- the bytes of each word
abbrev pub texts : List (String Global) → List (List ℕ)
texts words = map string_bytes words

-- a profile's word
abbrev pub profile_word : Profile → List ℕ
profile_word Tiny = codes "tiny"
profile_word Small = codes "small"
profile_word Large = codes "large"

-- a command's words
abbrev pub words_of : Command → List (List ℕ)
words_of (Names profile) = codes "names" ∷ profile_word profile ∷ []
words_of (Segments profile) = codes "segments" ∷ profile_word profile ∷ []
words_of (Init profile) = codes "init" ∷ profile_word profile ∷ []
words_of Journal = codes "journal" ∷ []
words_of (Job (Backup input name)) = codes "backup" ∷ input ∷ name ∷ []
words_of (Job (Restore name output)) = codes "restore" ∷ name ∷ output ∷ []
words_of (Job (Delete name)) = codes "delete" ∷ name ∷ []
words_of (Job Reclaim) = codes "reclaim" ∷ []
words_of (Job Stat) = codes "stat" ∷ []

-- its names of streams and files are within their limits
abbrev pub IsCommand : Command → Type 0
IsCommand (Job (Backup input name)) = IsFileName input × IsStreamName name
IsCommand (Job (Restore name output)) = IsStreamName name × IsFileName output
IsCommand (Job (Delete name)) = IsStreamName name
IsCommand _ = Unit {0}

-- whether a word begins with a dash
abbrev pub begins_with_dash : List ℕ → Bool
begins_with_dash [] = false
begins_with_dash (b ∷ bytes) = b == 45

abbrev pub has_dash : List (List ℕ) → Bool
has_dash words = list_any begins_with_dash words

-- no command has these words, or one of them begins with a dash
abbrev pub IsUsage : List (String Global) → Type 0
IsUsage words = (command : Command) → IsCommand command → texts words ≡ words_of command → has_dash (texts words) ≡ true

-- no job has these words, or one of them begins with a dash
abbrev pub IsNoJob : List (List ℕ) → Type 0
IsNoJob words = (kind : JobKind) → IsCommand (Job kind) → words ≡ words_of (Job kind) → has_dash words ≡ true
