use Rattle.std.proofs.Common.{◌≡◌, ◌++◌, string_bytes, take, codes}
use Rattle.std.specs.List.{flat_map}
use Rattle.report.proofs.words.push_list.Given as goal

abbrev pub invariant-loop-item : goal.invariant-loop-item
invariant-loop-item g l =
    string_bytes l.line ≡ string_bytes l.initial.line ++ flat_map (λ item. codes "," ++ g.T.Word.word item) (take l.item-index l.rest)
