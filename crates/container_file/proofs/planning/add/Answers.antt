use Rattle.std.proofs.Common.{ℕ, ◌+◌, List, [], ◌∷◌, ◌++◌, map, ap, ◌∙◌}
use Rattle.std.proofs.lemmas.List.{map-append}
use Rattle.ss_base.specs.declared.ids.Place.{Place}
use Rattle.container_file.specs.Chunk.{the_chunk}
use Rattle.container_file.specs.Layout.{written}
use Rattle.container_file.proofs.PlanLaws.{last_of, end_grows, places-push, puts_grow}
use Rattle.container_file.proofs.planning.add.Goals as goal

pub returns-clause-laid : goal.returns-clause-laid
returns-clause-laid c =
    let room = c.args.room in
    let chunk = the_chunk c.args.piece c.args.chunk.now in
    let now = c.args.plan.now.end in
    let to = c.opened-to.result in
    let goes = c.opened-to.ensures.opened in
    let old = map written c.args.plan.now.puts.items in
    let new = map written c.put_for.new.puts.items in
    let place : Place = record { container = last_of to; offset = to.used + 36 } in
    λ end chunks before. record {
      puts_are = ap (map written) c.in_ok-push.ensures.items ∙ map-append written c.put_for.new.puts.items (_ ∷ [])
          ∙ ap (λ (t : List ℕ). new ++ record { container = c.in_ok-put.put.container; starts = c.in_ok-put.put.starts; bytes = t } ∷ []) c.in_ok-write_record.ensures
          ∙ puts_grow end room chunks chunk now to old new (written c.in_ok-put.put) before.end_is goes before.puts_are c.in_ok-put.ensures;
      places_are = c.in_ok-push-2.ensures.items ∙ ap (λ ps. ps ++ place ∷ []) before.places_are ∙ places-push end room chunks chunk now to before.end_is goes;
      end_is = end_grows end room chunks chunk now to before.end_is goes;
    }
