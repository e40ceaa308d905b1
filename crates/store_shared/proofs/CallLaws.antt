-- What a turn says of a token, in the words of the calls of a job.
use Rattle.std.proofs.Common.{ℕ, List, Ok, ap}
use Rattle.store_core.specs.Answers.{BeginAnswer}
use Rattle.turn_lock.specs.Passes.{PassView}
use Rattle.history_calls.specs.SessionSteps.{HasBegun}
use Rattle.store_shared.specs.Sight.{AreByOthers}
use Rattle.store_shared.specs.Tokens.{SessionToken, idle_of, open_of}
use Rattle.store_shared.specs.Took.{TookTurn}

pub has_begun : (standings champions : ℕ) (p : PassView) (asked : List ℕ) (t : SessionToken)
    → TookTurn standings champions p t.pass (λ turn after. BeginAnswer turn after p.number asked (Ok t.session))
    → HasBegun (AreByOthers p) standings champions (idle_of p) asked (open_of t)
has_begun standings champions p asked t took = record { author = ap (λ (q : PassView). q.number) took.same; at_turn = took.at_turn }
