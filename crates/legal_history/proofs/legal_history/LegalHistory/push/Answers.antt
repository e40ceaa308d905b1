use Rattle.std.proofs.Common.{◌≡◌, ◌≤◌, ◌+◌, ◌++◌, ◌∷◌, [], true, vec_len, vec_capacity, length, List, refl, sym, ap, ◌∙◌, subst, arith}
use Rattle.journal_entry.specs.declared.entry.Entry.{Entry}
use Rattle.history.specs.Legal.{may_follow}
use Rattle.legal_history.specs.Recorded.{Recorded, past_of}
use Rattle.legal_history.proofs.KeptLaws.{unfinished_fits, end_fits, kept_after}
use Rattle.legal_history.proofs.legal_history.LegalHistory.push.Goals as goal

pub unfinished_after-unfinished-requires : goal.unfinished_after-unfinished-requires
unfinished_after-unfinished-requires c =
    let follows = subst (λ (r : Recorded). may_follow r.rules c.args.entry (past_of r) ≡ true) (sym c.self.view_is) c.requires in
    unfinished_fits c.self.inside c.args.entry c.self.invariant follows

pub returns-in_err-try_reserve-clause-ends : goal.returns-in_err-try_reserve-clause-ends
returns-in_err-try_reserve-clause-ends c end =
    let follows = subst (λ (r : Recorded). may_follow r.rules c.args.entry (past_of r) ≡ true) (sym c.self.view_is) c.requires in
    let less = end_fits c.self.inside c.args.entry c.self.invariant follows end in
    let room = c.self.invariant.room in
    let is = c.unfinished_after-unfinished.ensures in
    let full = c.in_err-try_reserve.ensures.full in
    absurd (omega (arith, less, room, is, full))

pub invariant_of-self-2 : goal.invariant_of-self-2
invariant_of-self-2 c =
    let follows = subst (λ (r : Recorded). may_follow r.rules c.args.entry (past_of r) ≡ true) (sym c.self.view_is) c.requires in
    let items = c.push_reserved.ensures.items ∙ ap (λ (l : List Entry). l ++ c.args.entry ∷ []) c.in_ok-try_reserve.ensures.items in
    let same = ap length c.in_ok-try_reserve.ensures.items in
    let number = c.len-number.ensures in
    let place : c.len-number.result ≡ length c.self.inside.entries.items = omega (arith, same, number) in
    let room : vec_len c.push_reserved.new.entries + c.unfinished_after-unfinished.result ≤ vec_capacity c.push_reserved.new.entries =
    (let len = c.push_reserved.ensures.len in let capacity = c.push_reserved.ensures.capacity in let reserved = c.in_ok-try_reserve.ensures.ok in omega (arith, len, capacity, reserved)) in
    kept_after c.self.inside c.args.entry c.self.invariant follows _ c.len-number.result refl items place c.in_ok-note.ensures.ok c.unfinished_after-unfinished.ensures room
