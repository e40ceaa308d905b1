use Rattle.std.proofs.Common.{sym, ◌∙◌, rules}
use Rattle.job_script.proofs.WordLaws.{first_word}
use Rattle.job_script.proofs.words.next_word.Goals as goal

pub returns-in-Some-clause-found : goal.returns-in-Some-clause-found
returns-in-Some-clause-found c =
    sym c.trim_start-line.ensures.words
    ∙ first_word c.trim_start-line.result.now c.in-Some.word.now _ (search rules) c.trim_start-line.ensures.front c.in-Some.ensures.found
