use Rattle.std.proofs.Common.{◌≡◌, true, List, [], ◌∷◌, reverse, sym, ap, ◌∙◌, subst}
use Rattle.journal_entry.specs.declared.entry.Entry.{Entry}
use Rattle.journal_entry.specs.declared.entry.Point.{Point}
use Rattle.history.specs.Legal.{is_legal}
use Rattle.history_laws.specs.EntryNumbers.{CommitThese, last_champions}
use Rattle.history_counts.specs.Streams.{pins_of}
use Rattle.store_core.specs.Journal.{ends_choice}
use Rattle.store_core.proofs.NewestLaws.{made, past_is}
use Rattle.store_core.proofs.PinLaws.{pins_chosen, pins_committed, pins_aborted, pins_none}
use Rattle.store_core.proofs.following.pinned_of.Goals as goal

pub returns-in-Choose : goal.returns-in-Choose
returns-in-Choose c =
    let past = reverse c.args.before.now in
    let numbers = c.champion_numbers.result.now in
    let of_all = past_is _ _ c.args.entry.now c.requires.split ∙ ap (λ p. made c.args.entry.now.author p ∷ past) c.in-Choose.is in
    let these = subst (λ (l : List Entry). CommitThese numbers (last_champions c.in-Choose.session l) l) of_all c.champion_numbers.ensures in
    subst (λ (p : Point). CommitThese numbers (pins_of p past) past) (sym c.in-Choose.is)
    (pins_chosen c.args.entry.now.author _ _ _ past numbers these)

pub returns-in-Commit : goal.returns-in-Commit
returns-in-Commit c =
    let past = reverse c.args.before.now in
    let numbers = c.champion_numbers-in-Commit.result.now in
    let point_is = c.in-Commit.is in
    let of_all = past_is _ _ c.args.entry.now c.requires.split ∙ ap (λ p. made c.args.entry.now.author p ∷ past) point_is in
    let these = subst (λ (l : List Entry). CommitThese numbers (last_champions c.in-Commit.manifest.session l) l) of_all c.champion_numbers-in-Commit.ensures in
    let legal = subst (λ (p : Point). is_legal c.args.history.now.rules (made c.args.entry.now.author p ∷ past) ≡ true) point_is c.requires.legal in
    subst (λ (p : Point). CommitThese numbers (pins_of p past) past) (sym point_is)
    (pins_committed c.args.history.now.rules c.args.entry.now.author _ _ _ _ _ _ _ _ past numbers legal these)

pub returns-then-was_pending : goal.returns-then-was_pending
returns-then-was_pending c =
    let past = reverse c.args.before.now in
    let numbers = c.champion_numbers-then-was_pending.result.now in
    let point_is = c.in-Abort.is in
    let of_all = past_is _ _ c.args.entry.now c.requires.split ∙ ap (λ p. made c.args.entry.now.author p ∷ past) point_is in
    let these = subst (λ (l : List Entry). CommitThese numbers (last_champions c.in-Abort.session l) l) of_all c.champion_numbers-then-was_pending.ensures in
    let waiting = sym (c.requires.ends ∙ ap (λ p. ends_choice p past) point_is) ∙ c.if-was_pending.true in
    subst (λ (p : Point). CommitThese numbers (pins_of p past) past) (sym point_is)
    (pins_aborted c.args.entry.now.author _ _ _ past numbers waiting these)

pub returns-else-was_pending : goal.returns-else-was_pending
returns-else-was_pending c =
    let past = reverse c.args.before.now in
    let idle = sym (c.requires.ends ∙ ap (λ p. ends_choice p past) c.in-Abort.is) ∙ c.if-was_pending.false in
    subst (λ (p : Point). CommitThese [] (pins_of p past) past) (sym c.in-Abort.is) (pins_none _ _ _ past idle)
