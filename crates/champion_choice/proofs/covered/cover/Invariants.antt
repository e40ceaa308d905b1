use Rattle.std.proofs.Common.{◌≡◌, ℕ, ◌-◌, take, drop}
use Rattle.ss_base.specs.declared.ids.ManifestId.{ManifestId}
use Rattle.ss_base.specs.Champions.{candidates}
use Rattle.champion_choice.specs.Scores.{hooks_at, stamp_at, id_at, AreCells}
use Rattle.champion_choice.specs.Lists.{shown, marked}
use Rattle.champion_choice.proofs.ListLaws.{lost}
use Rattle.champion_choice.proofs.covered.cover.Given as goal

abbrev pub invariant-loop-i : goal.invariant-loop-i
invariant-loop-i l = record {
  covered : l.covered ≡ marked l.champion.1.id (take l.i (shown l.lists)) l.initial.covered;
  cells : AreCells (id_at l.initial.scores) l.rest (candidates (drop l.i (shown l.lists)));
  ids : (p : ℕ) → id_at l.scores p ≡ id_at l.initial.scores p;
  hooks : (q : ManifestId) → hooks_at l.scores q ≡ hooks_at l.initial.scores q - lost l.champion.1.id l.initial.covered (shown l.lists) l.i q;
  stamps : (q : ManifestId) → stamp_at l.scores q ≡ stamp_at l.initial.scores q;
}
