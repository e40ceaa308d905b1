use Rattle.std.proofs.Common.{◌≡◌, ℕ, ◌+◌, [], ◌∷◌, ◌++◌, List, Option, length, map, reverse, sym, ap, ◌∙◌, arith}
use Rattle.std.specs.List.{range_with_len}
use Rattle.std.proofs.lemmas.List.FromFn.{map-range_with_len_more, length-map-range_with_len}
use Rattle.ss_base.specs.declared.ended.Ended.{Ended}
use Rattle.history.specs.Sessions.{session_count}
use Rattle.history.specs.Need.{ended, all_ended}
use Rattle.history.proofs.known_scan.all_ended.Goals as goal

pub loop-session-preserved : goal.loop-session-preserved
loop-session-preserved c =
    let n = c.loop-session.session in
    let f = λ (session : ℕ). ended session (reverse c.args.entries.now) in
    let before : List (Option Ended) = map f (range_with_len 0 n) in
    let step : map f (range_with_len 0 (n + 1)) ≡ before ++ f n ∷ [] = map-range_with_len_more f 0 n n (omega arith) in
    let item : before ++ c.ended.result ∷ [] ≡ before ++ f n ∷ [] = ap (λ e. before ++ e ∷ []) c.ended.ensures in
    let added : c.loop-session.all.items ++ c.ended.result ∷ [] ≡ before ++ c.ended.result ∷ [] = ap (λ xs. xs ++ c.ended.result ∷ []) c.loop-session.invariant in
    c.in_ok-push.ensures.items ∙ added ∙ item ∙ sym step

pub returns-clause-all : goal.returns-clause-all
unfolding all_ended
returns-clause-all c =
    let f = λ (session : ℕ). ended session (reverse c.args.entries.now) in
    let last : c.loop-session.session ≡ session_count (reverse c.args.entries.now) = omega arith in
    c.loop-session.invariant ∙ ap (λ n. map f (range_with_len 0 n)) last

pub returns-clause-few : goal.returns-clause-few
returns-clause-few c =
    let f = λ (session : ℕ). ended session (reverse c.args.entries.now) in
    let long : length c.loop-session.all.items ≡ c.loop-session.session = ap length c.loop-session.invariant ∙ length-map-range_with_len f 0 c.loop-session.session in
    omega (arith, long)
