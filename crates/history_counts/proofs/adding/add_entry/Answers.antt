-- What each kind of entry asks of the counts, and that they are those of the longer history after it.
use Rattle.std.proofs.Common.{rules, ◌^◌, ◌<◌, ◌||◌, List, get_or, reverse, length, sym, ap, subst, ◌∙◌, arith}
use Rattle.std.specs.List.{IsDistinct}
use Rattle.std.specs.Ordering.{eq_by_cmp}
use Rattle.ss_base.specs.Order.{object_cmp}
use Rattle.ss_base.specs.Ids.{has_container, has_object}
use Rattle.ss_base.specs.declared.ids.ContainerId.{ContainerId}
use Rattle.ss_base.specs.declared.object.Object.TheVariants.{Container, Manifest}
use Rattle.journal_entry.specs.declared.entry.Point.TheVariants.{Stat}
use Rattle.pins_counts.specs.Counts.{Counted, is_gone, one_if, containers}
use Rattle.history_counts.proofs.HeldLaws.{IsQuiet, held_quiet}
use Rattle.history_counts.proofs.UsesLaws.{counts_agree}
use Rattle.history_counts.proofs.StepLaws.{use_listed, as_objects, no_manifest}
use Rattle.history_counts.proofs.AfterLaws.{IsMild, after_mild}
use Rattle.history_counts.proofs.KindLaws.{at_point, mild_stat, quiet_stat, pins_choose, pins_look, releases_delete, releases_done, aborts_these, may_close, abort_closes, finish_closes, finish_length, after_finish, after_begun, after_refused, after_reclaim}
use Rattle.history_counts.proofs.CommitLaws.{room_of, commit_history, commit_within, commit_above, commit_distinct, commit_unheld, commit_below, after_commit}
use Rattle.history_counts.proofs.adding.add_entry.Goals as goal

pub pin_all-requires-clause-within : goal.pin_all-requires-clause-within
pin_all-requires-clause-within c = (pins_choose c.args.rules.now c.args.counts.now c.args.champions.now c.args.entry.now c.args.before.now c.in-Choose.session c.in-Choose.hooks c.in-Choose.champions c.requires.legal (omega arith) c.requires.agrees c.requires.champions c.in-Choose.is).within

pub pin_all-requires-clause-held : goal.pin_all-requires-clause-held
pin_all-requires-clause-held c = (pins_choose c.args.rules.now c.args.counts.now c.args.champions.now c.args.entry.now c.args.before.now c.in-Choose.session c.in-Choose.hooks c.in-Choose.champions c.requires.legal (omega arith) c.requires.agrees c.requires.champions c.in-Choose.is).held_all

pub pin_all-requires-clause-below : goal.pin_all-requires-clause-below
pin_all-requires-clause-below c = (pins_choose c.args.rules.now c.args.counts.now c.args.champions.now c.args.entry.now c.args.before.now c.in-Choose.session c.in-Choose.hooks c.in-Choose.champions c.requires.legal (omega arith) c.requires.agrees c.requires.champions c.in-Choose.is).below

pub pin_all-requires-clause-agrees : goal.pin_all-requires-clause-agrees
pin_all-requires-clause-agrees c = counts_agree c.args.counts.now (reverse c.args.before.now) c.requires.agrees

pub returns-in-Choose : goal.returns-in-Choose
returns-in-Choose c = (pins_choose c.args.rules.now c.args.counts.now c.args.champions.now c.args.entry.now c.args.before.now c.in-Choose.session c.in-Choose.hooks c.in-Choose.champions c.requires.legal (omega arith) c.requires.agrees c.requires.champions c.in-Choose.is).after c.pin_all.new.counts c.pin_all.ensures.agrees c.pin_all.ensures.holds

pub pin_all-requires-in-Look-clause-within : goal.pin_all-requires-in-Look-clause-within
pin_all-requires-in-Look-clause-within c = (pins_look c.args.rules.now c.args.counts.now c.args.stream.now c.args.entry.now c.args.before.now c.in-Look.name c.in-Look.seen c.requires.legal (omega arith) c.requires.agrees c.requires.stream c.in-Look.is).within

pub pin_all-requires-in-Look-clause-held : goal.pin_all-requires-in-Look-clause-held
pin_all-requires-in-Look-clause-held c = (pins_look c.args.rules.now c.args.counts.now c.args.stream.now c.args.entry.now c.args.before.now c.in-Look.name c.in-Look.seen c.requires.legal (omega arith) c.requires.agrees c.requires.stream c.in-Look.is).held_all

pub pin_all-requires-in-Look-clause-below : goal.pin_all-requires-in-Look-clause-below
pin_all-requires-in-Look-clause-below c = (pins_look c.args.rules.now c.args.counts.now c.args.stream.now c.args.entry.now c.args.before.now c.in-Look.name c.in-Look.seen c.requires.legal (omega arith) c.requires.agrees c.requires.stream c.in-Look.is).below

pub pin_all-requires-in-Look-clause-agrees : goal.pin_all-requires-in-Look-clause-agrees
pin_all-requires-in-Look-clause-agrees c = counts_agree c.args.counts.now (reverse c.args.before.now) c.requires.agrees

pub returns-in-Look : goal.returns-in-Look
returns-in-Look c = (pins_look c.args.rules.now c.args.counts.now c.args.stream.now c.args.entry.now c.args.before.now c.in-Look.name c.in-Look.seen c.requires.legal (omega arith) c.requires.agrees c.requires.stream c.in-Look.is).after c.pin_all-in-Look.new.counts c.pin_all-in-Look.ensures.agrees c.pin_all-in-Look.ensures.holds

pub release_all-requires-in-Delete-clause-history : goal.release_all-requires-in-Delete-clause-history
release_all-requires-in-Delete-clause-history c = (releases_delete c.args.rules.now c.args.counts.now c.args.stream.now c.args.entry.now c.args.before.now c.in-Delete.name c.in-Delete.session c.requires.legal c.requires.agrees c.requires.stream c.in-Delete.is).history

pub release_all-requires-in-Delete-clause-within : goal.release_all-requires-in-Delete-clause-within
release_all-requires-in-Delete-clause-within c = (releases_delete c.args.rules.now c.args.counts.now c.args.stream.now c.args.entry.now c.args.before.now c.in-Delete.name c.in-Delete.session c.requires.legal c.requires.agrees c.requires.stream c.in-Delete.is).within

pub release_all-requires-in-Delete-clause-above : goal.release_all-requires-in-Delete-clause-above
release_all-requires-in-Delete-clause-above c = (releases_delete c.args.rules.now c.args.counts.now c.args.stream.now c.args.entry.now c.args.before.now c.in-Delete.name c.in-Delete.session c.requires.legal c.requires.agrees c.requires.stream c.in-Delete.is).above

pub release_all-requires-in-Delete-clause-agrees : goal.release_all-requires-in-Delete-clause-agrees
release_all-requires-in-Delete-clause-agrees c = counts_agree c.args.counts.now (reverse c.args.before.now) c.requires.agrees

pub returns-in-Delete : goal.returns-in-Delete
returns-in-Delete c = (releases_delete c.args.rules.now c.args.counts.now c.args.stream.now c.args.entry.now c.args.before.now c.in-Delete.name c.in-Delete.session c.requires.legal c.requires.agrees c.requires.stream c.in-Delete.is).after c.release_all-in-Delete.new.counts c.release_all-in-Delete.ensures.agrees c.release_all-in-Delete.ensures.holds

pub release_all-requires-in-Done-clause-history : goal.release_all-requires-in-Done-clause-history
release_all-requires-in-Done-clause-history c = (releases_done c.args.rules.now c.args.counts.now c.args.stream.now c.args.entry.now c.args.before.now c.in-Done.reader c.requires.legal c.requires.agrees c.requires.stream c.in-Done.is).history

pub release_all-requires-in-Done-clause-within : goal.release_all-requires-in-Done-clause-within
release_all-requires-in-Done-clause-within c = (releases_done c.args.rules.now c.args.counts.now c.args.stream.now c.args.entry.now c.args.before.now c.in-Done.reader c.requires.legal c.requires.agrees c.requires.stream c.in-Done.is).within

pub release_all-requires-in-Done-clause-above : goal.release_all-requires-in-Done-clause-above
release_all-requires-in-Done-clause-above c = (releases_done c.args.rules.now c.args.counts.now c.args.stream.now c.args.entry.now c.args.before.now c.in-Done.reader c.requires.legal c.requires.agrees c.requires.stream c.in-Done.is).above

pub release_all-requires-in-Done-clause-agrees : goal.release_all-requires-in-Done-clause-agrees
release_all-requires-in-Done-clause-agrees c = counts_agree c.args.counts.now (reverse c.args.before.now) c.requires.agrees

pub returns-in-Done : goal.returns-in-Done
returns-in-Done c = (releases_done c.args.rules.now c.args.counts.now c.args.stream.now c.args.entry.now c.args.before.now c.in-Done.reader c.requires.legal c.requires.agrees c.requires.stream c.in-Done.is).after c.release_all-in-Done.new.counts c.release_all-in-Done.ensures.agrees c.release_all-in-Done.ensures.holds

pub close-requires-in-Abort : goal.close-requires-in-Abort
close-requires-in-Abort c = may_close c.args.rules.now c.args.counts.now c.args.entry.now (reverse c.args.before.now) c.in-Abort.session c.requires.legal c.requires.agrees (abort_closes c.in-Abort.session c.in-Abort.containers c.in-Abort.texts c.args.entry.now c.in-Abort.is)

pub release_all-requires-in-Abort-clause-history : goal.release_all-requires-in-Abort-clause-history
release_all-requires-in-Abort-clause-history c = (aborts_these c.args.rules.now c.args.counts.now c.close-in-Abort.new.self c.args.champions.now c.args.stream.now c.args.entry.now c.args.before.now c.in-Abort.session c.in-Abort.containers c.in-Abort.texts c.requires.legal c.requires.agrees c.requires.champions c.requires.stream c.in-Abort.is (ap (λ (v : Counted). v.numbers) c.close-in-Abort.ensures) (ap (λ (v : Counted). v.gone) c.close-in-Abort.ensures) (ap (λ (v : Counted). v.sessions) c.close-in-Abort.ensures)).history

pub release_all-requires-in-Abort-clause-within : goal.release_all-requires-in-Abort-clause-within
release_all-requires-in-Abort-clause-within c = (aborts_these c.args.rules.now c.args.counts.now c.close-in-Abort.new.self c.args.champions.now c.args.stream.now c.args.entry.now c.args.before.now c.in-Abort.session c.in-Abort.containers c.in-Abort.texts c.requires.legal c.requires.agrees c.requires.champions c.requires.stream c.in-Abort.is (ap (λ (v : Counted). v.numbers) c.close-in-Abort.ensures) (ap (λ (v : Counted). v.gone) c.close-in-Abort.ensures) (ap (λ (v : Counted). v.sessions) c.close-in-Abort.ensures)).within_champions

pub release_all-requires-in-Abort-clause-agrees : goal.release_all-requires-in-Abort-clause-agrees
release_all-requires-in-Abort-clause-agrees c = (aborts_these c.args.rules.now c.args.counts.now c.close-in-Abort.new.self c.args.champions.now c.args.stream.now c.args.entry.now c.args.before.now c.in-Abort.session c.in-Abort.containers c.in-Abort.texts c.requires.legal c.requires.agrees c.requires.champions c.requires.stream c.in-Abort.is (ap (λ (v : Counted). v.numbers) c.close-in-Abort.ensures) (ap (λ (v : Counted). v.gone) c.close-in-Abort.ensures) (ap (λ (v : Counted). v.sessions) c.close-in-Abort.ensures)).agrees

pub release_all-requires-in-Abort-clause-above : goal.release_all-requires-in-Abort-clause-above
release_all-requires-in-Abort-clause-above c = (aborts_these c.args.rules.now c.args.counts.now c.close-in-Abort.new.self c.args.champions.now c.args.stream.now c.args.entry.now c.args.before.now c.in-Abort.session c.in-Abort.containers c.in-Abort.texts c.requires.legal c.requires.agrees c.requires.champions c.requires.stream c.in-Abort.is (ap (λ (v : Counted). v.numbers) c.close-in-Abort.ensures) (ap (λ (v : Counted). v.gone) c.close-in-Abort.ensures) (ap (λ (v : Counted). v.sessions) c.close-in-Abort.ensures)).above

pub release_all-requires-in-Abort-2-clause-history : goal.release_all-requires-in-Abort-2-clause-history
release_all-requires-in-Abort-2-clause-history c = (aborts_these c.args.rules.now c.args.counts.now c.close-in-Abort.new.self c.args.champions.now c.args.stream.now c.args.entry.now c.args.before.now c.in-Abort.session c.in-Abort.containers c.in-Abort.texts c.requires.legal c.requires.agrees c.requires.champions c.requires.stream c.in-Abort.is (ap (λ (v : Counted). v.numbers) c.close-in-Abort.ensures) (ap (λ (v : Counted). v.gone) c.close-in-Abort.ensures) (ap (λ (v : Counted). v.sessions) c.close-in-Abort.ensures)).history

pub release_all-requires-in-Abort-2-clause-within : goal.release_all-requires-in-Abort-2-clause-within
release_all-requires-in-Abort-2-clause-within c = (aborts_these c.args.rules.now c.args.counts.now c.close-in-Abort.new.self c.args.champions.now c.args.stream.now c.args.entry.now c.args.before.now c.in-Abort.session c.in-Abort.containers c.in-Abort.texts c.requires.legal c.requires.agrees c.requires.champions c.requires.stream c.in-Abort.is (ap (λ (v : Counted). v.numbers) c.close-in-Abort.ensures) (ap (λ (v : Counted). v.gone) c.close-in-Abort.ensures) (ap (λ (v : Counted). v.sessions) c.close-in-Abort.ensures)).within_manifests

pub release_all-requires-in-Abort-2-clause-above : goal.release_all-requires-in-Abort-2-clause-above
release_all-requires-in-Abort-2-clause-above c = (aborts_these c.args.rules.now c.args.counts.now c.close-in-Abort.new.self c.args.champions.now c.args.stream.now c.args.entry.now c.args.before.now c.in-Abort.session c.in-Abort.containers c.in-Abort.texts c.requires.legal c.requires.agrees c.requires.champions c.requires.stream c.in-Abort.is (ap (λ (v : Counted). v.numbers) c.close-in-Abort.ensures) (ap (λ (v : Counted). v.gone) c.close-in-Abort.ensures) (ap (λ (v : Counted). v.sessions) c.close-in-Abort.ensures)).above_then c.release_all-in-Abort.new.counts c.release_all-in-Abort.ensures.holds

pub returns-in-Abort : goal.returns-in-Abort
returns-in-Abort c = (aborts_these c.args.rules.now c.args.counts.now c.close-in-Abort.new.self c.args.champions.now c.args.stream.now c.args.entry.now c.args.before.now c.in-Abort.session c.in-Abort.containers c.in-Abort.texts c.requires.legal c.requires.agrees c.requires.champions c.requires.stream c.in-Abort.is (ap (λ (v : Counted). v.numbers) c.close-in-Abort.ensures) (ap (λ (v : Counted). v.gone) c.close-in-Abort.ensures) (ap (λ (v : Counted). v.sessions) c.close-in-Abort.ensures)).after c.release_all-in-Abort.new.counts c.release_all-in-Abort-2.new.counts c.release_all-in-Abort.ensures.holds c.release_all-in-Abort-2.ensures.agrees c.release_all-in-Abort-2.ensures.holds

pub overflow_cast-stream : goal.overflow_cast-stream
overflow_cast-stream c =
    let below : length c.args.stream.now < 2 ^ 32 = finish_length c.args.rules.now c.args.stream.now c.args.entry.now (reverse c.args.before.now) c.in-Finish.session c.in-Finish.containers c.requires.legal (omega arith) c.requires.stream c.in-Finish.is in
    search rules

pub close-requires : goal.close-requires
close-requires c = may_close c.args.rules.now c.args.counts.now c.args.entry.now (reverse c.args.before.now) c.in-Finish.session c.requires.legal c.requires.agrees (finish_closes c.in-Finish.session c.in-Finish.containers c.args.entry.now c.in-Finish.is)

pub returns-in-Finish : goal.returns-in-Finish
returns-in-Finish c = after_finish c.args.rules.now c.args.counts.now c.close.new.self c.args.stream.now c.args.entry.now (reverse c.args.before.now) c.in-Finish.session c.in-Finish.containers c.requires.legal c.requires.agrees c.requires.stream c.in-Finish.is (ap (λ (v : Counted). v.numbers) c.close.ensures) (ap (λ (v : Counted). v.gone) c.close.ensures) (ap (λ (v : Counted). v.sessions) c.close.ensures)

pub returns-then-is_some : goal.returns-then-is_some
returns-then-is_some c = after_begun c.args.rules.now c.args.counts.now c.add_session.new.self c.args.entry.now (reverse c.args.before.now) c.in-Begin.name c.in-Begin.session c.requires.legal c.requires.agrees c.in-Begin.is (sym c.is_some.ensures ∙ c.if-is_some.true)
    (ap (λ (v : Counted). v.numbers) c.add_session.ensures) (ap (λ (v : Counted). v.gone) c.add_session.ensures) (ap (λ (v : Counted). v.sessions) c.add_session.ensures)

pub returns-else-is_some : goal.returns-else-is_some
returns-else-is_some c = after_refused c.args.counts.now c.args.entry.now (reverse c.args.before.now) c.in-Begin.name c.in-Begin.session c.requires.agrees c.in-Begin.is (sym c.is_some.ensures ∙ c.if-is_some.false)

pub returns-in-Stat : goal.returns-in-Stat
returns-in-Stat c = after_mild c.args.counts.now c.args.entry.now (reverse c.args.before.now) c.requires.agrees (at_point IsMild c.args.entry.now.point (Stat c.in-Stat.totals) c.in-Stat.is (mild_stat c.in-Stat.totals)) (counts_agree c.args.counts.now (reverse c.args.before.now) c.requires.agrees)
    (λ id. held_quiet id c.args.entry.now (reverse c.args.before.now) (at_point IsQuiet c.args.entry.now.point (Stat c.in-Stat.totals) c.in-Stat.is (quiet_stat c.in-Stat.totals)))

pub returns-in-Reclaim : goal.returns-in-Reclaim
returns-in-Reclaim c = after_reclaim c.args.counts.now c.mark_all.new.self c.args.entry.now (reverse c.args.before.now) c.in-Reclaim.objects c.requires.agrees c.in-Reclaim.is (ap (λ (v : Counted). v.numbers) c.mark_all.ensures.rest) (ap (λ (v : Counted). v.sessions) c.mark_all.ensures.rest)
    (λ q. c.mark_all.ensures.gone q ∙ ap (λ l. is_gone c.args.counts.now q || has_object q l) c.as_slice-in-Reclaim.ensures)

pub release_all-requires-clause-history : goal.release_all-requires-clause-history
release_all-requires-clause-history c = commit_history c.args.rules.now c.args.counts.now c.args.champions.now c.args.entry.now c.args.before.now c.in-Commit.manifest c.in-Commit.uses c.requires.legal (omega arith) c.requires.agrees c.requires.champions (record { content = c.in-Commit.content; text = c.in-Commit.text; chunks = c.in-Commit.chunks; bytes = c.in-Commit.bytes; fresh = c.in-Commit.fresh; fresh_bytes = c.in-Commit.fresh_bytes; is = c.in-Commit.is })

pub release_all-requires-clause-within : goal.release_all-requires-clause-within
release_all-requires-clause-within c = commit_within c.args.rules.now c.args.counts.now c.args.champions.now c.args.entry.now c.args.before.now c.in-Commit.manifest c.in-Commit.uses c.requires.legal (omega arith) c.requires.agrees c.requires.champions (record { content = c.in-Commit.content; text = c.in-Commit.text; chunks = c.in-Commit.chunks; bytes = c.in-Commit.bytes; fresh = c.in-Commit.fresh; fresh_bytes = c.in-Commit.fresh_bytes; is = c.in-Commit.is })

pub release_all-requires-clause-agrees : goal.release_all-requires-clause-agrees
release_all-requires-clause-agrees c = counts_agree c.args.counts.now (reverse c.args.before.now) c.requires.agrees

pub release_all-requires-clause-above : goal.release_all-requires-clause-above
release_all-requires-clause-above c = commit_above c.args.rules.now c.args.counts.now c.args.champions.now c.args.entry.now c.args.before.now c.in-Commit.manifest c.in-Commit.uses c.requires.legal (omega arith) c.requires.agrees c.requires.champions (record { content = c.in-Commit.content; text = c.in-Commit.text; chunks = c.in-Commit.chunks; bytes = c.in-Commit.bytes; fresh = c.in-Commit.fresh; fresh_bytes = c.in-Commit.fresh_bytes; is = c.in-Commit.is })

pub pin-requires-clause-below : goal.pin-requires-clause-below
pin-requires-clause-below c = let none = commit_unheld c.args.rules.now c.args.counts.now c.args.champions.now c.args.entry.now c.args.before.now c.in-Commit.manifest c.in-Commit.uses c.requires.legal (omega arith) c.requires.agrees c.requires.champions (record { content = c.in-Commit.content; text = c.in-Commit.text; chunks = c.in-Commit.chunks; bytes = c.in-Commit.bytes; fresh = c.in-Commit.fresh; fresh_bytes = c.in-Commit.fresh_bytes; is = c.in-Commit.is }) c.release_all.new.counts c.release_all.ensures.agrees c.release_all.ensures.holds in omega (arith, none)

pub add_uses-requires-clause-distinct : goal.add_uses-requires-clause-distinct
add_uses-requires-clause-distinct c = subst (λ (l : List ContainerId). IsDistinct (eq_by_cmp object_cmp) (containers l)) (sym c.as_slice.ensures) (commit_distinct c.args.rules.now c.args.counts.now c.args.champions.now c.args.entry.now c.args.before.now c.in-Commit.manifest c.in-Commit.uses c.requires.legal (omega arith) c.requires.agrees c.requires.champions (record { content = c.in-Commit.content; text = c.in-Commit.text; chunks = c.in-Commit.chunks; bytes = c.in-Commit.bytes; fresh = c.in-Commit.fresh; fresh_bytes = c.in-Commit.fresh_bytes; is = c.in-Commit.is }))

pub add_uses-requires-clause-ready : goal.add_uses-requires-clause-ready
add_uses-requires-clause-ready c = λ k d below.
    let x = get_or c.as_slice.result.now k d in
    c.pin.ensures.ready (Container x) ∙ (sym (c.release_all.ensures.holds.ready (Container x)) ∙ room_of c.args.counts.now c.args.entry.now c.in-Commit.manifest c.in-Commit.content c.in-Commit.text c.in-Commit.chunks c.in-Commit.bytes c.in-Commit.fresh c.in-Commit.fresh_bytes c.in-Commit.uses c.in-Commit.is c.requires.room (Container x) (as_objects x c.in-Commit.uses ∙ ap (has_container x) (sym c.as_slice.ensures) ∙ use_listed c.as_slice.result.now k d below))

pub add_uses-requires-clause-below : goal.add_uses-requires-clause-below
add_uses-requires-clause-below c = λ k d below.
    let x = get_or c.as_slice.result.now k d in
    let few = commit_below c.args.rules.now c.args.counts.now c.args.champions.now c.args.entry.now c.args.before.now c.in-Commit.manifest c.in-Commit.uses c.requires.legal (omega arith) c.requires.agrees c.requires.champions (record { content = c.in-Commit.content; text = c.in-Commit.text; chunks = c.in-Commit.chunks; bytes = c.in-Commit.bytes; fresh = c.in-Commit.fresh; fresh_bytes = c.in-Commit.fresh_bytes; is = c.in-Commit.is }) c.release_all.new.counts c.release_all.ensures.agrees c.release_all.ensures.holds x in
    let same = c.pin.ensures.numbers (Container x) in
    omega (arith, few, same)

pub returns-in-Commit : goal.returns-in-Commit
returns-in-Commit c = after_commit c.args.rules.now c.args.counts.now c.args.champions.now c.args.entry.now c.args.before.now c.in-Commit.manifest c.in-Commit.uses c.requires.legal (omega arith) c.requires.agrees c.requires.champions (record { content = c.in-Commit.content; text = c.in-Commit.text; chunks = c.in-Commit.chunks; bytes = c.in-Commit.bytes; fresh = c.in-Commit.fresh; fresh_bytes = c.in-Commit.fresh_bytes; is = c.in-Commit.is }) c.release_all.new.counts c.release_all.ensures.agrees c.release_all.ensures.holds c.add_uses.new.self
    (λ id. (let a = c.pin.ensures.numbers (Manifest id) in let b = c.add_uses.ensures.numbers (Manifest id) in let none = ap one_if (no_manifest id c.as_slice.result.now) in omega (arith, a, b, none)))
    (λ x. (let a = c.pin.ensures.numbers (Container x) in let b = c.add_uses.ensures.numbers (Container x) in let some = ap one_if (as_objects x c.as_slice.result.now ∙ ap (has_container x) c.as_slice.ensures) in omega (arith, a, b, some)))
    (λ q. c.add_uses.ensures.ready q ∙ c.pin.ensures.ready q)
    (λ q listed. sym (c.release_all.ensures.holds.ready q) ∙ room_of c.args.counts.now c.args.entry.now c.in-Commit.manifest c.in-Commit.content c.in-Commit.text c.in-Commit.chunks c.in-Commit.bytes c.in-Commit.fresh c.in-Commit.fresh_bytes c.in-Commit.uses c.in-Commit.is c.requires.room q listed)
    (ap (λ (v : Counted). v.sessions) c.add_uses.ensures.rest ∙ ap (λ (v : Counted). v.sessions) c.pin.ensures.rest)
    (ap (λ (v : Counted). v.gone) c.add_uses.ensures.rest ∙ ap (λ (v : Counted). v.gone) c.pin.ensures.rest)
