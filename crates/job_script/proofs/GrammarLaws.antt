-- Laws of what a line says.
use Rattle.std.proofs.Common.{◌≡◌, ℕ, ◌+◌, true, cond, eqb, List, [], ◌∷◌, Some, codes, length, drop, get_or, refl, sym, ap, ◌∙◌, arith}
use Rattle.std.specs.Prelude.{slice_get}
use Rattle.std.specs.List.{list_all}
use Rattle.std.specs.Str.{IsUtf8}
use Rattle.std.specs.Char.{is_ascii_graphic}
use Rattle.std.proofs.lemmas.List.Sums.{AllPass-from_list_all}
use Rattle.job_script.specs.declared.job.Job.{Job}
use Rattle.job_script.specs.declared.job.JobKind.{JobKind}
use Rattle.job_script.specs.declared.job.JobKind.TheVariants.{Backup, Restore, Delete, Reclaim, Stat}
use Rattle.job_script.specs.Words.{words}
use Rattle.job_script.proofs.PathLaws.{IsUtf8-visible}
use Rattle.job_script.specs.Grammar.{verb, operands, lane_word, AreJobWords, AreSkipped, Says}

-- a number that tells the verbs apart
abbrev code : List ℕ → ℕ
code word = length word + get_or word 2 0

-- the kind with this number and these names
abbrev kind_from : ℕ → List (List ℕ) → JobKind
kind_from n names =
    cond (eqb n 105) (Backup (get_or names 0 []) (get_or names 1 []))
    (cond (eqb n 122) (Restore (get_or names 0 []) (get_or names 1 []))
    (cond (eqb n 114) (Delete (get_or names 0 []))
    (cond (eqb n 106) Reclaim Stat)))

kind_again : (kind : JobKind) → kind_from (code (verb kind)) (operands kind) ≡ kind
kind_again (Backup input name) = refl
kind_again (Restore name output) = refl
kind_again (Delete name) = refl
kind_again Reclaim = refl
kind_again Stat = refl

kind_one : (a b : JobKind) → verb a ≡ verb b → operands a ≡ operands b → a ≡ b
kind_one a b v o =
    sym (kind_again a)
    ∙ ap (λ word. kind_from (code word) (operands a)) v
    ∙ ap (kind_from (code (verb b))) o
    ∙ kind_again b

-- words are those of one job
pub job_one : (lanes : ℕ) (said : List (List ℕ)) (a b : Job) → AreJobWords lanes said a → AreJobWords lanes said b → a ≡ b
job_one lanes said a b x y =
    let same = sym x.words_are ∙ y.words_are in
    let digit : 48 + a.lane ≡ 48 + b.lane = ap (λ ws. get_or (get_or ws 0 []) 0 0) same in
    let lane : a.lane ≡ b.lane = omega arith in
    let kind = kind_one a.kind b.kind (ap (λ ws. get_or ws 1 []) same) (ap (drop 2) same) in
    λ i. record { lane = lane i; kind = kind i }

-- a line that is skipped has no job's words
pub not_both : (lanes : ℕ) (said : List (List ℕ)) (job : Job) → AreSkipped said → AreJobWords lanes said job → ⊥
not_both lanes [] job skipped x = let e = x.words_are in cc
not_both lanes (first ∷ more) job skipped x =
    let at : first ≡ lane_word job.lane = ap (λ ws. get_or ws 0 []) x.words_are in
    let byte : Some 35 ≡ Some (48 + job.lane) = sym skipped ∙ ap (λ word. slice_get word 0) at in
    let n : 35 ≡ 48 + job.lane = cc in
    omega arith

-- a line says one thing
pub Says-one : (lanes : ℕ) (line : List ℕ) (a b : List Job) → Says lanes line a → Says lanes line b → a ≡ b
Says-one lanes line [] [] x y = refl
Says-one lanes line [] (k ∷ []) x y = absurd (not_both lanes (words line) k x y)
Says-one lanes line [] (k ∷ l ∷ more) x y = absurd y
Says-one lanes line (j ∷ []) [] x y = absurd (not_both lanes (words line) j y x)
Says-one lanes line (j ∷ []) (k ∷ []) x y = ap (λ job. job ∷ []) (job_one lanes (words line) j k x y)
Says-one lanes line (j ∷ []) (k ∷ l ∷ more) x y = absurd y
Says-one lanes line (j ∷ l ∷ more) b x y = absurd x

visible : (text : List ℕ) → list_all is_ascii_graphic text ≡ true → IsUtf8 text
visible text pass = IsUtf8-visible text (AllPass-from_list_all is_ascii_graphic text pass)

-- a verb is text
pub IsUtf8-verb : (kind : JobKind) → IsUtf8 (verb kind)
IsUtf8-verb (Backup input name) = visible (codes "backup") refl
IsUtf8-verb (Restore name output) = visible (codes "restore") refl
IsUtf8-verb (Delete name) = visible (codes "delete") refl
IsUtf8-verb Reclaim = visible (codes "reclaim") refl
IsUtf8-verb Stat = visible (codes "stat") refl
