use Rattle.std.proofs.Common.{rules, tests, ◌∙◌, nat_eq, codes}
use Rattle.std.specs.Cmp.Lexicographic.{pointwise}
use Rattle.std.proofs.lemmas.Iterator.Splits.{YieldsList-from_slice_split}
use Rattle.std.proofs.lemmas.Iterator.Search.{any_from_yields_List}
use Rattle.outside.proofs.paths.leads_out.Goals as goal

pub returns : goal.returns
returns c =
    any_from_yields_List (λ part. pointwise nat_eq part (codes "..")) c.any.new.self _ c.any.result c.any.ensures.ran
    (YieldsList-from_slice_split _ (λ b. nat_eq b 47) c.args.name.now (c.split.ensures.rest ∙ c.as_bytes.ensures.value) c.split.ensures.done c.split.ensures.closure (λ x r q k. search (rules, tests)))
    (λ x r q k. search (rules, tests))
