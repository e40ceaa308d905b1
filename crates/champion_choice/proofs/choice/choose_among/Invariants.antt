use Rattle.std.proofs.Common.{◌≡◌, ℕ, ◌-◌, ◌++◌, length, Some}
use Rattle.ss_base.specs.declared.ids.ManifestId.{ManifestId}
use Rattle.ss_base.specs.Champions.{hooks_covered, candidates, champions}
use Rattle.ss_base.proofs.MemberLaws.{In}
use Rattle.champion_choice.specs.Scores.{hooks_at, stamp_at}
use Rattle.champion_choice.specs.Lists.{shown, remaining, ArePlaced}
use Rattle.champion_choice.proofs.choice.choose_among.Given as goal

abbrev pub invariant-loop-round : goal.invariant-loop-round
invariant-loop-round g l = record {
  count : length l.chosen.items ≡ l._round;
  fits : length l.covered.items ≡ length l.lists;
  chosen : l.chosen.items ++ champions (g.row.M - l._round) (remaining l.covered.items (shown l.lists)) ≡ champions g.row.M (shown l.lists);
  hooks : (q : ManifestId) → hooks_at l.scores.items q ≡ hooks_covered (remaining l.covered.items (shown l.lists)) q;
  stamps : (q : ManifestId) (t : ℕ) → stamp_at l.scores.items q ≡ Some t → In (record { id = q; stamp = t }) (candidates (shown l.lists));
  placed : ArePlaced l.scores.items l.cells.items (shown l.lists);
}
