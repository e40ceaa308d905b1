-- The lines of entries on their way to a sink.
use Rattle.std.proofs.Common.{◌≡◌, ℕ, ◌+◌, List, [], ◌∷◌, ◌++◌, Option, refl, sym, ap, ◌∙◌, subst, append_assoc, length, arith}
use Rattle.std.proofs.lemmas.List.{append-nil}
use Rattle.journal_entry.specs.declared.entry.Entry.{Entry}
use Rattle.report.specs.EntryLine.{entry_line}
use Rattle.outside.specs.Bytes.{AppendsFront}
use Rattle.store_run.specs.Advances.{Advances, Moves}
use Rattle.store_run.specs.EntryLines.{entry_lines}
use Rattle.store_run.proofs.AdvancesLaws.{advances-then, advances-cut, moves-advances, front-more}

-- the line of the first
pub lines-first : (number : ℕ) (rest : List Entry) (e : Entry) (behind : List Entry) (text : List ℕ) → rest ≡ e ∷ behind → text ≡ entry_line number e → entry_lines number rest ≡ text ++ entry_lines (number + 1) behind
lines-first number rest e behind text is line = ap (entry_lines number) is ∙ ap (λ (l : List ℕ). l ++ entry_lines (number + 1) behind) (sym line)

pub lines-none : (number : ℕ) (rest : List Entry) → length rest ≡ 0 → entry_lines number rest ≡ []
lines-none number [] none = refl
lines-none number (e ∷ rest) none = absurd (omega (arith, none))

-- a front of what waits and of the first line was printed
pub lines-cut : (old mid new : Option (List ℕ)) (before : Unit {0} → List ℕ) (waiting text later lines : List ℕ) → Advances old mid before (λ more. waiting ++ lines) → lines ≡ text ++ later
    → AppendsFront mid new (waiting ++ text) → AppendsFront old new (before tt)
lines-cut old mid new before waiting text later lines way is front =
    advances-cut old mid new before (λ more. waiting ++ lines) tt way
    (subst (AppendsFront mid new) (append_assoc waiting text later ∙ ap (λ (l : List ℕ). waiting ++ l) (sym is)) (front-more mid new (waiting ++ text) later front))

-- one more line was printed, or waits
pub lines-step : (old mid new : Option (List ℕ)) (before : Unit {0} → List ℕ) (waiting waiting' text later lines : List ℕ) → Advances old mid before (λ more. waiting ++ lines) → lines ≡ text ++ later
    → Moves mid new waiting waiting' text → Advances old new before (λ more. waiting' ++ later)
lines-step old mid new before waiting waiting' text later lines way is move =
    advances-then old mid new before (λ more. waiting ++ lines) (λ more. waiting' ++ later) way
    (moves-advances mid new waiting waiting' text (λ more. lines) (λ more. later) (λ more. is) move)

-- at the end of a text what is left waits
pub advances-moves : (old new : Option (List ℕ)) (waiting waiting' text lines : List ℕ) → Advances old new (λ (more : Unit {0}). waiting ++ text) (λ more. waiting' ++ lines) → lines ≡ [] → Moves old new waiting waiting' text
advances-moves old new waiting waiting' text lines way none =
    record { done = way.done; written = way.written; rest = way.rest tt ∙ ap (λ (l : List ℕ). way.done ++ (waiting' ++ l)) none ∙ ap (λ (l : List ℕ). way.done ++ l) (append-nil waiting') }
