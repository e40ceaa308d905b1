-- Words tell the profile that they name.
use Rattle.std.proofs.Common.{◌≡◌, ℕ, false, List, [], ◌∷◌, length, refl, sym, ap, ◌∙◌, subst, arith}
use Rattle.std.specs.Prelude.{String}
use Rattle.std.specs.declared.alloc.Global.{Global}
use Rattle.std.proofs.lemmas.Bool.{false≢true}
use Rattle.ss_base.specs.declared.profile.Profile.{Profile}
use Rattle.ss_base.specs.declared.profile.Profile.TheVariants.{Tiny, Small, Large}
use Rattle.job_script.specs.declared.job.JobKind.{JobKind}
use Rattle.job_script.specs.declared.job.JobKind.TheVariants.{Backup, Restore, Delete, Reclaim, Stat}
use Rattle.store_run.specs.declared.command.Command.{Command}
use Rattle.store_run.specs.declared.command.Command.TheVariants.{Names, Segments, Init, Journal, Job}
use Rattle.store_run.specs.Command.{texts, profile_word, words_of, IsCommand, has_dash, IsUsage, IsNoJob}

abbrev first : List ℕ → ℕ
first [] = 0
first (x ∷ rest) = x

abbrev second : List (List ℕ) → List ℕ
second [] = []
second (x ∷ []) = []
second (x ∷ y ∷ rest) = y

differ : (x y : List ℕ) → (first x ≡ first y → ⊥) → x ≡ y → ⊥
differ x y apart is = apart (ap first is)

pub same_profile : (p q : Profile) → profile_word p ≡ profile_word q → p ≡ q
same_profile Tiny Tiny is = refl
same_profile Tiny Small is = absurd (differ (profile_word Tiny) (profile_word Small) (λ e. omega (arith, e)) is)
same_profile Tiny Large is = absurd (differ (profile_word Tiny) (profile_word Large) (λ e. omega (arith, e)) is)
same_profile Small Tiny is = absurd (differ (profile_word Small) (profile_word Tiny) (λ e. omega (arith, e)) is)
same_profile Small Small is = refl
same_profile Small Large is = absurd (differ (profile_word Small) (profile_word Large) (λ e. omega (arith, e)) is)
same_profile Large Tiny is = absurd (differ (profile_word Large) (profile_word Tiny) (λ e. omega (arith, e)) is)
same_profile Large Small is = absurd (differ (profile_word Large) (profile_word Small) (λ e. omega (arith, e)) is)
same_profile Large Large is = refl

-- behind any verb
pub same_words : (verb : List ℕ) (p q : Profile) → verb ∷ profile_word p ∷ [] ≡ verb ∷ profile_word q ∷ [] → p ≡ q
same_words verb p q is = same_profile p q (ap second is)

-- ---- words without a dash

pub plain_names : (profile : Profile) → has_dash (words_of (Names profile)) ≡ false
plain_names Tiny = refl
plain_names Small = refl
plain_names Large = refl

pub plain_segments : (profile : Profile) → has_dash (words_of (Segments profile)) ≡ false
plain_segments Tiny = refl
plain_segments Small = refl
plain_segments Large = refl

pub plain_init : (profile : Profile) → has_dash (words_of (Init profile)) ≡ false
plain_init Tiny = refl
plain_init Small = refl
plain_init Large = refl

pub plain_journal : has_dash (words_of Journal) ≡ false
plain_journal = refl

-- the words of a command are no usage
pub not_usage : (words : List (String Global)) (command : Command) → IsUsage words → IsCommand command → texts words ≡ words_of command → has_dash (texts words) ≡ false → ⊥
not_usage words command usage is asked plain = false≢true (sym plain ∙ usage command is asked)

-- the words of a job are not those of no job
pub not_none : (words : List (String Global)) (kind : JobKind) → IsNoJob (texts words) → IsCommand (Job kind) → texts words ≡ words_of (Job kind) → has_dash (texts words) ≡ false → ⊥
not_none words kind none is asked plain = false≢true (sym plain ∙ none kind is asked)

pub plain_of : (words : List (String Global)) (command : Command) → texts words ≡ words_of command → has_dash (words_of command) ≡ false → has_dash (texts words) ≡ false
plain_of words command asked plain = subst (λ ws. has_dash ws ≡ false) (sym asked) plain

-- ---- words of jobs

-- the first letter of the verb
abbrev letter : List (List ℕ) → ℕ
letter [] = 0
letter (word ∷ words) = first word

abbrev third : List (List ℕ) → List ℕ
third [] = []
third (x ∷ []) = []
third (x ∷ y ∷ []) = []
third (x ∷ y ∷ z ∷ rest) = z

by_letter : (xs ys : List (List ℕ)) → (letter xs ≡ letter ys → ⊥) → xs ≡ ys → ⊥
by_letter xs ys apart is = apart (ap letter is)

by_count : (xs ys : List (List ℕ)) → (length xs ≡ length ys → ⊥) → xs ≡ ys → ⊥
by_count xs ys apart is = apart (ap length is)

-- the words of a job tell it
pub same_job : (a b : JobKind) → words_of (Job a) ≡ words_of (Job b) → a ≡ b
same_job (Backup i n) (Backup j m) is = λ k. Backup (ap second is k) (ap third is k)
same_job (Backup i n) (Restore m o) is = absurd (by_letter (words_of (Job (Backup i n))) (words_of (Job (Restore m o))) (λ e. omega (arith, e)) is)
same_job (Backup i n) (Delete m) is = absurd (by_letter (words_of (Job (Backup i n))) (words_of (Job (Delete m))) (λ e. omega (arith, e)) is)
same_job (Backup i n) Reclaim is = absurd (by_letter (words_of (Job (Backup i n))) (words_of (Job Reclaim)) (λ e. omega (arith, e)) is)
same_job (Backup i n) Stat is = absurd (by_letter (words_of (Job (Backup i n))) (words_of (Job Stat)) (λ e. omega (arith, e)) is)
same_job (Restore n o) (Backup j m) is = absurd (by_letter (words_of (Job (Restore n o))) (words_of (Job (Backup j m))) (λ e. omega (arith, e)) is)
same_job (Restore n o) (Restore m p) is = λ k. Restore (ap second is k) (ap third is k)
same_job (Restore n o) (Delete m) is = absurd (by_letter (words_of (Job (Restore n o))) (words_of (Job (Delete m))) (λ e. omega (arith, e)) is)
same_job (Restore n o) Reclaim is = absurd (by_count (words_of (Job (Restore n o))) (words_of (Job Reclaim)) (λ e. omega (arith, e)) is)
same_job (Restore n o) Stat is = absurd (by_letter (words_of (Job (Restore n o))) (words_of (Job Stat)) (λ e. omega (arith, e)) is)
same_job (Delete n) (Backup j m) is = absurd (by_letter (words_of (Job (Delete n))) (words_of (Job (Backup j m))) (λ e. omega (arith, e)) is)
same_job (Delete n) (Restore m p) is = absurd (by_letter (words_of (Job (Delete n))) (words_of (Job (Restore m p))) (λ e. omega (arith, e)) is)
same_job (Delete n) (Delete m) is = λ k. Delete (ap second is k)
same_job (Delete n) Reclaim is = absurd (by_letter (words_of (Job (Delete n))) (words_of (Job Reclaim)) (λ e. omega (arith, e)) is)
same_job (Delete n) Stat is = absurd (by_letter (words_of (Job (Delete n))) (words_of (Job Stat)) (λ e. omega (arith, e)) is)
same_job Reclaim (Backup j m) is = absurd (by_letter (words_of (Job Reclaim)) (words_of (Job (Backup j m))) (λ e. omega (arith, e)) is)
same_job Reclaim (Restore m p) is = absurd (by_count (words_of (Job Reclaim)) (words_of (Job (Restore m p))) (λ e. omega (arith, e)) is)
same_job Reclaim (Delete m) is = absurd (by_letter (words_of (Job Reclaim)) (words_of (Job (Delete m))) (λ e. omega (arith, e)) is)
same_job Reclaim Reclaim is = refl
same_job Reclaim Stat is = absurd (by_letter (words_of (Job Reclaim)) (words_of (Job Stat)) (λ e. omega (arith, e)) is)
same_job Stat (Backup j m) is = absurd (by_letter (words_of (Job Stat)) (words_of (Job (Backup j m))) (λ e. omega (arith, e)) is)
same_job Stat (Restore m p) is = absurd (by_letter (words_of (Job Stat)) (words_of (Job (Restore m p))) (λ e. omega (arith, e)) is)
same_job Stat (Delete m) is = absurd (by_letter (words_of (Job Stat)) (words_of (Job (Delete m))) (λ e. omega (arith, e)) is)
same_job Stat Reclaim is = absurd (by_letter (words_of (Job Stat)) (words_of (Job Reclaim)) (λ e. omega (arith, e)) is)
same_job Stat Stat is = refl
