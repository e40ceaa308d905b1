use Rattle.std.proofs.Common.{◌≡◌, ◌+◌, cond, List, [], ◌∷◌, ◌++◌, take, get_or, sym, ap, ◌∙◌, length, vec_len, arith, rules}
use Rattle.std.specs.List.{list_any}
use Rattle.std.proofs.lemmas.List.{take_more, length-take}
use Rattle.ss_base.specs.declared.name.Name.{Name}
use Rattle.ss_base.specs.declared.name.Piece.{Piece}
use Rattle.ss_base.specs.Ids.{same_name}
use Rattle.ss_base.specs.Hook.{is_hook}
use Rattle.hook_sampler.specs.Hooks.{distinct, hooks}
use Rattle.hook_sampler.proofs.HooksLaws.{hooks-push, AllPass-hooks, AllPairs-distinct, length-hooks}
use Rattle.hook_sampler.proofs.sampling.hooks.Goals as goal
use Rattle.hook_sampler.proofs.sampling.hooks.Goals.{then-is_hook+in_ok-add, else-is_hook}

pub loop-piece-init : goal.loop-piece-init
unfolding distinct
loop-piece-init c = c.new-found.ensures

pub loop-piece-preserved : goal.loop-piece-preserved
loop-piece-preserved c =
    let bits = c.args.bits in
    let pieces = c.args.pieces.now in
    let i = c.loop-piece.piece-index in
    let none : Piece = record { name = record { 0 = [] }; len = 0 } in
    let name = (get_or pieces i none).name in
    let before = hooks bits (take i pieces) in
    let with_name = λ (names : List Name). cond (list_any (same_name name) names) names (names ++ name ∷ []) in
    let step : hooks bits (take (i + 1) pieces) ≡ cond (is_hook bits name) (with_name before) before =
    ap (hooks bits) (take_more pieces i none c.loop-piece-test.true) ∙ hooks-push bits (take i pieces) (get_or pieces i none) in
    elim c.if-is_hook.branch [
      | then-is_hook+in_ok-add w ↦
          w.found-is ∙ w.in_ok-add.ensures.ok ∙ ap with_name c.loop-piece.invariant
          ∙ sym (step ∙ ap (λ b. cond b (with_name before) before) (sym c.is_hook.ensures ∙ w.if-is_hook.true))
      | else-is_hook w ↦
          w.found-is ∙ c.loop-piece.invariant
          ∙ sym (step ∙ ap (λ b. cond b (with_name before) before) (sym c.is_hook.ensures ∙ w.if-is_hook.false))
    ]

pub returns-clause-sampled : goal.returns-clause-sampled
returns-clause-sampled c =
    rw (c.into_names.ensures, c.loop-piece.invariant) (AllPass-hooks c.args.bits (take c.loop-piece.piece-index c.args.pieces.now))

pub returns-clause-distinct : goal.returns-clause-distinct
returns-clause-distinct c =
    rw (c.into_names.ensures, c.loop-piece.invariant) (AllPairs-distinct _)

pub returns-clause-few : goal.returns-clause-few
returns-clause-few c =
    let seen = take c.loop-piece.piece-index c.args.pieces.now in
    let held : vec_len c.into_names.result ≡ length c.into_names.result.items = search rules in
    let same : length c.into_names.result.items ≡ length (hooks c.args.bits seen) = ap length (c.into_names.ensures ∙ c.loop-piece.invariant) in
    omega (arith, held, same, length-hooks c.args.bits seen, length-take c.loop-piece.piece-index c.args.pieces.now)
