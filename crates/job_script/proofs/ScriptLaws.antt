-- Laws of what a script says.
use Rattle.std.proofs.Common.{◌≡◌, ℕ, ◌+◌, ◌≤◌, ◌<◌, List, [], ◌∷◌, ◌++◌, length, refl, sym, ap, ◌∙◌, subst, arith, append_assoc, length-append}
use Rattle.std.proofs.lemmas.List.{append-nil}
use Rattle.std.proofs.lemmas.List.Elements.{All-nil, All-cons, All-same, All-append}
use Rattle.std.specs.List.{All}
use Rattle.std.specs.Str.Lines.{lines}
use Rattle.job_script.specs.declared.job.Job.{Job}
use Rattle.job_script.specs.declared.fault.ScriptFault.TheVariants.{TooMany}
use Rattle.job_script.specs.Grammar.{IsJob, Says, IsOutside}
use Rattle.job_script.specs.Script.{AreJobs, HasJobs, IsFirstBad, HasTooMany, most_jobs}
use Rattle.job_script.specs.Step.{AddsJobs, IsStoppedBy, IsFront}
use Rattle.job_script.proofs.GrammarLaws.{Says-one}

AreJobs-append : (lanes : ℕ) (xs ys : List (List ℕ)) (a b : List Job) → AreJobs lanes xs a → AreJobs lanes ys b → AreJobs lanes (xs ++ ys) (a ++ b)
AreJobs-append lanes [] ys a b x y = let P : List Job → Type 0 = λ a. AreJobs lanes ys (a ++ b) in subst P (sym x) y
AreJobs-append lanes (line ∷ xs) ys a b x y =
    (x.0, x.1 ++ b, ap (λ jobs. jobs ++ b) x.2 ∙ append_assoc x.0 x.1 b, x.3, AreJobs-append lanes xs ys x.1 b x.4 y)

-- the jobs with those of one more line
AreJobs-more : (lanes : ℕ) (xs : List (List ℕ)) (line : List ℕ) (jobs said : List Job) → AreJobs lanes xs jobs → Says lanes line said → AreJobs lanes (xs ++ line ∷ []) (jobs ++ said)
AreJobs-more lanes xs line jobs said before says =
    AreJobs-append lanes xs (line ∷ []) jobs said before (said, [], sym (append-nil said), says, refl)

-- one line more was read
pub front_more : (lanes : ℕ) (script : List ℕ) (number : ℕ) (jobs new : List Job) (rest line behind : List ℕ) → IsFront lanes script number jobs rest → lines rest ≡ line ∷ lines behind → length behind < length rest → AddsJobs lanes line jobs new → length new ≤ most_jobs → IsFront lanes script (number + 1) new behind
front_more lanes script number jobs new rest line behind front first shorter adds fits =
    let P : List Job → Type 0 = AreJobs lanes (front.before ++ line ∷ []) in
    let count = front.number_is in
    let room = front.room in
    record {
      before = front.before ++ line ∷ [];
      lines_are = front.lines_are ∙ ap (λ ls. front.before ++ ls) first ∙ sym (append_assoc front.before (line ∷ []) (lines behind));
      number_is = omega (arith, length-append front.before (line ∷ []));
      jobs_are = subst P (sym adds.new_is) (AreJobs-more lanes front.before line jobs adds.said front.jobs_are adds.says);
      fits = fits;
      room = omega arith;
    }

-- the next line says a job for which there is no room
pub front_full : (lanes : ℕ) (script : List ℕ) (number place : ℕ) (jobs : List Job) (rest line behind : List ℕ) → IsFront lanes script number jobs rest → lines rest ≡ line ∷ lines behind → IsStoppedBy TooMany lanes line place jobs → HasTooMany lanes script
front_full lanes script number place jobs rest line behind front first stopped =
    let full = stopped.2 in
    record {
      before = front.before ++ line ∷ [];
      after = lines behind;
      jobs = jobs ++ stopped.0 ∷ [];
      lines_are = front.lines_are ∙ ap (λ ls. front.before ++ ls) first ∙ sym (append_assoc front.before (line ∷ []) (lines behind));
      jobs_are = AreJobs-more lanes front.before line jobs (stopped.0 ∷ []) front.jobs_are stopped.1;
      many = omega (arith, length-append jobs (stopped.0 ∷ []));
    }

said_valid : (lanes : ℕ) (line : List ℕ) (said : List Job) → Says lanes line said → All (IsJob lanes) said
said_valid lanes line [] says = All-nil (IsJob lanes)
said_valid lanes line (job ∷ []) says = All-cons (IsJob lanes) job [] says.valid (All-nil (IsJob lanes))
said_valid lanes line (job ∷ other ∷ more) says = absurd says

-- what lines say are jobs of the run
pub jobs_valid : (lanes : ℕ) (xs : List (List ℕ)) (a : List Job) → AreJobs lanes xs a → All (IsJob lanes) a
jobs_valid lanes [] a x = All-same (IsJob lanes) a [] x (All-nil (IsJob lanes))
jobs_valid lanes (line ∷ xs) a x =
    All-same (IsJob lanes) a (x.0 ++ x.1) x.2
    (All-append (IsJob lanes) x.0 x.1 (said_valid lanes line x.0 x.3) (jobs_valid lanes xs x.1 x.4))

-- lines have one list of jobs
jobs_one : (lanes : ℕ) (xs : List (List ℕ)) (a b : List Job) → AreJobs lanes xs a → AreJobs lanes xs b → a ≡ b
jobs_one lanes [] a b x y = x ∙ sym y
jobs_one lanes (line ∷ xs) a b x y =
    let said = Says-one lanes line x.0 y.0 x.3 y.3 in
    let rest = jobs_one lanes xs x.1 y.1 x.4 y.4 in
    x.2 ∙ ap (λ s. s ++ x.1) said ∙ ap (λ r. y.0 ++ r) rest ∙ sym y.2

-- nothing follows, or a line outside the grammar
abbrev Stops : ℕ → List (List ℕ) → Type 0
Stops lanes [] = Unit {0}
Stops lanes (line ∷ more) = IsOutside lanes line

-- no lines that have jobs go on where others stop, so they are no more lines, and have no more jobs
within : (lanes : ℕ) (xs ys us vs : List (List ℕ)) (a b : List Job) → xs ++ us ≡ ys ++ vs → AreJobs lanes xs a → AreJobs lanes ys b → Stops lanes vs → (length xs ≤ length ys) × (length a ≤ length b)
within lanes [] ys us vs a b same x y stop = let none = ap length x in (omega arith, omega arith)
within lanes (line ∷ xs) [] us vs a b same x y stop =
    let bad : IsOutside lanes line = subst (Stops lanes) (sym same) stop in absurd (bad x.0 x.3)
within lanes (line ∷ xs) (other ∷ ys) us vs a b same x y stop =
    let e : line ≡ other = cc in
    let tails : xs ++ us ≡ ys ++ vs = cc in
    let P : List ℕ → Type 0 = λ l. Says lanes l x.0 in
    let said = ap length (Says-one lanes other x.0 y.0 (subst P e x.3) y.3) in
    let rest = within lanes xs ys us vs x.1 y.1 tails x.4 y.4 stop in
    let left = ap length x.2 ∙ length-append x.0 x.1 in
    let right = ap length y.2 ∙ length-append y.0 y.1 in
    (omega arith, omega arith)

-- a script has one list of jobs
pub one_list : (lanes : ℕ) (script : List ℕ) (left right : List Job) → HasJobs lanes script left → HasJobs lanes script right → left ≡ right
one_list lanes script left right x y = jobs_one lanes (lines script) left right x.jobs_are y.jobs_are

-- one line is its first bad one
pub one_bad : (lanes : ℕ) (script : List ℕ) (first second : ℕ) → IsFirstBad lanes script first → IsFirstBad lanes script second → first ≡ second
one_bad lanes script first second x y =
    let same = sym x.lines_are ∙ y.lines_are in
    let most = within lanes x.before y.before (x.line ∷ x.after) (y.line ∷ y.after) x.jobs y.jobs same x.jobs_are y.jobs_are y.bad in
    let least = within lanes y.before x.before (y.line ∷ y.after) (x.line ∷ x.after) y.jobs x.jobs (sym same) y.jobs_are x.jobs_are x.bad in
    let a = x.number_is in
    let b = y.number_is in
    omega arith

-- where it has jobs it has no bad line
pub no_bad : (lanes : ℕ) (script : List ℕ) (jobs : List Job) (number : ℕ) → HasJobs lanes script jobs → IsFirstBad lanes script number → ⊥
no_bad lanes script jobs number x y =
    let most = within lanes (lines script) y.before [] (y.line ∷ y.after) jobs y.jobs (append-nil (lines script) ∙ y.lines_are) x.jobs_are y.jobs_are y.bad in
    let all = ap length y.lines_are ∙ length-append y.before (y.line ∷ y.after) in
    omega arith

-- and not too many jobs
pub not_many : (lanes : ℕ) (script : List ℕ) (jobs : List Job) → HasJobs lanes script jobs → HasTooMany lanes script → ⊥
not_many lanes script jobs x y =
    let most = within lanes y.before (lines script) y.after [] y.jobs jobs (sym y.lines_are ∙ sym (append-nil (lines script))) y.jobs_are x.jobs_are tt in
    let few = x.fits in
    let many = y.many in
    omega arith

-- where it has a first bad line it has not too many jobs before
pub bad_or_many : (lanes : ℕ) (script : List ℕ) (number : ℕ) → IsFirstBad lanes script number → HasTooMany lanes script → ⊥
bad_or_many lanes script number x y =
    let most = within lanes y.before x.before y.after (x.line ∷ x.after) y.jobs x.jobs (sym y.lines_are ∙ x.lines_are) y.jobs_are x.jobs_are x.bad in
    let few = x.fits in
    let many = y.many in
    omega arith
