use Rattle.std.proofs.Common.{◌+◌, ◌*◌, ◌<◌, refl, sym, ap, ◌∙◌, rules, arith}
use Rattle.golog_tree.specs.declared.prog.Prog.{Prog}
use Rattle.golog_tree.specs.declared.prog.Prog.TheVariants as prog
use Rattle.golog_tree.specs.Ground.{sort_size}
use Rattle.golog_semantics.specs.declared.Mode.TheVariants.{May}
use Rattle.golog_semantics.specs.Guarded.{front}
use Rattle.golog_semantics.specs.Truth.{either}
use Rattle.golog_semantics.proofs.Unfolded.{final-skips}
use Rattle.golog_fronts.proofs.Closing.{choice_parts, conc_parts, prio_parts, seq_parts, search_part, follow_part, if_parts, while_parts, pick_part, call_part, call_few, seq_both, parts_both, both_one_lower, both_other_lower, down, part_as, whole}
use Rattle.golog_ways.proofs.EndSteps.{ends_as, nil_ends, act_ends, test_ends, star_ends, cstar_ends, seq_ends, conc_ends, prio_ends, choice_ends, if_ends, while_ends, search_ends, follow_ends, call_ends, both_more, both_none, or_settled, or_more}
use Rattle.golog_fronts.proofs.Moved.{gives, one_same, two_same}
use Rattle.golog_ways.proofs.Some.{none_ends, more_ends, pick_ends, pick_settled}
use Rattle.golog_ways.proofs.here.Here.+ends.Goals as goal

pub ends_in-returns-in-Nil : goal.ends_in-returns-in-Nil
ends_in-returns-in-Nil t c = nil_ends c.args.self.now.fit.guarded c.in-Nil.is

pub ends_in-returns-in-Act : goal.ends_in-returns-in-Act
ends_in-returns-in-Act t c = act_ends c.args.self.now.fit.guarded _ _ c.in-Act.is

pub ends_in-returns-in-Test : goal.ends_in-returns-in-Test
ends_in-returns-in-Test t c = test_ends c.args.self.now.fit.guarded _ c.in-Test.is

pub ends_in-returns-in-Star : goal.ends_in-returns-in-Star
ends_in-returns-in-Star t c = star_ends c.args.self.now.fit.guarded _ c.in-Star.is

pub ends_in-returns-in-Cstar : goal.ends_in-returns-in-Cstar
ends_in-returns-in-Cstar t c = cstar_ends c.args.self.now.fit.guarded _ c.in-Cstar.is

pub ends_in-both_end-requires : goal.ends_in-both_end-requires
ends_in-both_end-requires t c =
    let under = seq_both (seq_parts c.requires (two_same prog.Seq c.in-Seq.is c.get.ensures c.get-in-Seq.ensures)) in
    search rules

pub ends_in-returns-in-Seq : goal.ends_in-returns-in-Seq
ends_in-returns-in-Seq t c = gives c.both_end.result _ _ c.both_end.ensures (λ _ h. seq_ends c.args.self.now.fit.guarded (two_same prog.Seq c.in-Seq.is c.get.ensures c.get-in-Seq.ensures) h)

pub ends_in-both_end-requires-in-Conc : goal.ends_in-both_end-requires-in-Conc
ends_in-both_end-requires-in-Conc t c =
    let under = parts_both (conc_parts c.requires (two_same prog.Conc c.in-Conc.is c.get-in-Conc.ensures c.get-in-Conc-2.ensures)) in
    search rules

pub ends_in-returns-in-Conc : goal.ends_in-returns-in-Conc
ends_in-returns-in-Conc t c =
    gives c.both_end-in-Conc.result _ _ c.both_end-in-Conc.ensures (λ _ h. conc_ends c.args.self.now.fit.guarded (two_same prog.Conc c.in-Conc.is c.get-in-Conc.ensures c.get-in-Conc-2.ensures) h)

pub ends_in-both_end-requires-in-Prio : goal.ends_in-both_end-requires-in-Prio
ends_in-both_end-requires-in-Prio t c =
    let under = parts_both (prio_parts c.requires (two_same prog.Prio c.in-Prio.is c.get-in-Prio.ensures c.get-in-Prio-2.ensures)) in
    search rules

pub ends_in-returns-in-Prio : goal.ends_in-returns-in-Prio
ends_in-returns-in-Prio t c =
    gives c.both_end-in-Prio.result _ _ c.both_end-in-Prio.ensures (λ _ h. prio_ends c.args.self.now.fit.guarded (two_same prog.Prio c.in-Prio.is c.get-in-Prio.ensures c.get-in-Prio-2.ensures) h)

pub ends_in-ends_in-requires : goal.ends_in-ends_in-requires
ends_in-ends_in-requires t c =
    let part = down ((choice_parts c.requires (one_same (λ (z : Prog). prog.Choice z c.in-Choice.other) c.in-Choice.is c.get-in-Choice.ensures)).one) in
    search rules

pub ends_in-ends_or-requires : goal.ends_in-ends_or-requires
ends_in-ends_or-requires t c =
    let part = down ((choice_parts c.requires (two_same prog.Choice c.in-Choice.is c.get-in-Choice.ensures c.get-in-Choice-2.ensures)).other) in
    search rules

pub ends_in-returns-in_ok-one-in-Choice : goal.ends_in-returns-in_ok-one-in-Choice
ends_in-returns-in_ok-one-in-Choice t c =
    gives c.ends_or.result _ _ c.ends_or.ensures (λ _ h. choice_ends c.args.self.now.fit.guarded (two_same prog.Choice c.in-Choice.is c.get-in-Choice.ensures c.get-in-Choice-2.ensures) c.in_ok-one-in-Choice.ensures h)

pub ends_in-truth-is_so-requires : goal.ends_in-truth-is_so-requires
ends_in-truth-is_so-requires t c = (if_parts c.requires c.in-If.is).cond

pub ends_in-ends_or-requires-in-If : goal.ends_in-ends_or-requires-in-If
ends_in-ends_or-requires-in-If t c =
    let part = down ((if_parts c.requires (one_same (λ (z : Prog). prog.If c.in-If.cond z c.in-If.no) c.in-If.is c.get-in-If.ensures)).yes) in
    search rules

pub ends_in-ends_or-requires-in-If-2 : goal.ends_in-ends_or-requires-in-If-2
ends_in-ends_or-requires-in-If-2 t c =
    let part = down ((if_parts c.requires (two_same (prog.If c.in-If.cond) c.in-If.is c.get-in-If.ensures c.get-in-If-2.ensures)).no) in
    search rules

pub ends_in-returns-in_ok-yes-in-If : goal.ends_in-returns-in_ok-yes-in-If
ends_in-returns-in_ok-yes-in-If t c =
    gives c.ends_or-in-If-2.result _ _ c.ends_or-in-If-2.ensures (λ _ h. if_ends c.args.self.now.fit.guarded _ (two_same (prog.If c.in-If.cond) c.in-If.is c.get-in-If.ensures c.get-in-If-2.ensures) c.truth-is_so.ensures c.negation.ensures c.in_ok-yes-in-If.ensures h)

pub ends_in-truth-requires : goal.ends_in-truth-requires
ends_in-truth-requires t c = (while_parts c.requires c.in-While.is).cond

pub ends_in-ends_or-requires-in-While : goal.ends_in-ends_or-requires-in-While
ends_in-ends_or-requires-in-While t c =
    let part = down ((while_parts c.requires (one_same (prog.While c.in-While.cond) c.in-While.is c.get-in-While.ensures)).body) in
    search rules

pub ends_in-returns-in-While : goal.ends_in-returns-in-While
ends_in-returns-in-While t c =
    gives c.ends_or-in-While.result _ _ c.ends_or-in-While.ensures (λ _ h. while_ends c.args.self.now.fit.guarded _ (one_same (prog.While c.in-While.cond) c.in-While.is c.get-in-While.ensures) c.truth.ensures c.negation-is_over.ensures h)

pub ends_in-ends_of_pick-requires : goal.ends_in-ends_of_pick-requires
ends_in-ends_of_pick-requires t c =
    let handed = whole (one_same (prog.Pick c.in-Pick.var c.in-Pick.sort) c.in-Pick.is c.get-in-Pick.ensures) c.requires in
    search rules

pub ends_in-returns-in-Pick : goal.ends_in-returns-in-Pick
ends_in-returns-in-Pick t c = gives c.ends_of_pick.result _ _ c.ends_of_pick.ensures (λ _ h. ends_as (one_same (prog.Pick c.in-Pick.var c.in-Pick.sort) c.in-Pick.is c.get-in-Pick.ensures) h)

pub ends_in-ends_of_call-requires : goal.ends_in-ends_of_call-requires
ends_in-ends_of_call-requires t c =
    let handed = whole (one_same (prog.Call c.in-Call.item) c.in-Call.is c.as_slice.ensures) c.requires in
    search rules

pub ends_in-returns-in-Call : goal.ends_in-returns-in-Call
ends_in-returns-in-Call t c = gives c.ends_of_call.result _ _ c.ends_of_call.ensures (λ _ h. ends_as (one_same (prog.Call c.in-Call.item) c.in-Call.is c.as_slice.ensures) h)

pub ends_in-ends_in-requires-in-Search : goal.ends_in-ends_in-requires-in-Search
ends_in-ends_in-requires-in-Search t c =
    let part = down (search_part _ _ _ _ _ c.requires (one_same (prog.Search c.in-Search.depth c.in-Search.fuel) c.in-Search.is c.get-in-Search.ensures)) in
    search rules

pub ends_in-returns-in-Search : goal.ends_in-returns-in-Search
ends_in-returns-in-Search t c =
    gives c.ends_in-in-Search.result _ _ c.ends_in-in-Search.ensures (λ _ h. search_ends c.args.self.now.fit.guarded _ _ (one_same (prog.Search c.in-Search.depth c.in-Search.fuel) c.in-Search.is c.get-in-Search.ensures) h)

pub ends_in-ends_in-requires-in-Follow : goal.ends_in-ends_in-requires-in-Follow
ends_in-ends_in-requires-in-Follow t c =
    let part = down (follow_part _ _ _ _ _ _ c.requires (one_same (λ (z : Prog). prog.Follow c.in-Follow.depth c.in-Follow.fuel z c.in-Follow.rest) c.in-Follow.is c.get-in-Follow.ensures)) in
    search rules

pub ends_in-returns-in-Follow : goal.ends_in-returns-in-Follow
ends_in-returns-in-Follow t c =
    gives c.ends_in-in-Follow.result _ _ c.ends_in-in-Follow.ensures (λ _ h. follow_ends c.args.self.now.fit.guarded _ _ _ (one_same (λ (z : Prog). prog.Follow c.in-Follow.depth c.in-Follow.fuel z c.in-Follow.rest) c.in-Follow.is c.get-in-Follow.ensures) h)

pub both_end-ends_in-requires : goal.both_end-ends_in-requires
both_end-ends_in-requires t c =
    let closed = c.requires.one in
    let low = both_one_lower c.args.self.now.agent.now c.args.one.now c.args.other.now in
    search rules

pub both_end-ends_in-requires-then-holds : goal.both_end-ends_in-requires-then-holds
both_end-ends_in-requires-then-holds t c =
    let closed = c.requires.other in
    let low = both_other_lower c.args.self.now.agent.now c.args.one.now c.args.other.now (final-skips c.args.self.now.agent.now c.args.self.now.values.now c.args.self.now.fit.guarded May c.args.one.now (sym (c.in_ok-one.ensures.ends May) ∙ sym c.holds.ensures ∙ c.if-holds.true)) in
    search rules

pub both_end-returns-in_ok-other : goal.both_end-returns-in_ok-other
both_end-returns-in_ok-other t c = both_more c.both.ensures c.in_ok-one.ensures c.in_ok-other.ensures

pub both_end-returns-else-holds : goal.both_end-returns-else-holds
both_end-returns-else-holds t c = both_none _ _ _ _ _ (sym c.holds.ensures ∙ c.if-holds.false) c.in_ok-one.ensures

pub ends_or-ends_in-requires : goal.ends_or-ends_in-requires
ends_or-ends_in-requires t c =
    let low : 1 + 3 * (front c.args.self.now.agent.now c.args.prog.now).height < 2 + 3 * (front c.args.self.now.agent.now c.args.prog.now).height = omega arith in
    search rules

pub ends_or-returns-then-is_settled : goal.ends_or-returns-then-is_settled
ends_or-returns-then-is_settled t c = or_settled (sym c.is_settled.ensures ∙ c.if-is_settled.true)

pub ends_or-returns-in_ok-ends : goal.ends_or-returns-in_ok-ends
ends_or-returns-in_ok-ends t c = or_more (c.either.ensures ∙ ap (either c.args.so_far) c.both.ensures) c.in_ok-ends.ensures

pub ends_of_put-ends_in-ends-requires : goal.ends_of_put-ends_in-ends-requires
ends_of_put-ends_in-ends-requires t c =
    let low : 1 + 3 * (front c.args.self.now.agent.now c.args.prog).height < 2 + 3 * (front c.args.self.now.agent.now c.args.prog).height = omega arith in
    search rules

pub ends_of_pick-loop-constant-init : goal.ends_of_pick-loop-constant-init
ends_of_pick-loop-constant-init t c = none_ends

pub ends_of_pick-ends_of_put-requires : goal.ends_of_pick-ends_of_put-requires
ends_of_pick-ends_of_put-requires t c =
    let below : c.loop-constant.constant < sort_size c.args.self.now.agent.now c.args.sort = omega arith in
    let part = down (part_as c.in_ok-put.ensures (pick_part _ _ _ _ _ c.requires refl c.loop-constant.constant below)) in
    search rules

pub ends_of_pick-loop-constant-preserved : goal.ends_of_pick-loop-constant-preserved
ends_of_pick-loop-constant-preserved t c =
    let below : c.loop-constant.constant < sort_size c.args.self.now.agent.now c.args.sort = omega arith in
    more_ends below c.either-some.ensures c.in_ok-put.ensures c.in_ok-one.ensures c.loop-constant.invariant

pub ends_of_pick-returns-then-holds : goal.ends_of_pick-returns-then-holds
ends_of_pick-returns-then-holds t c =
    let below : c.loop-constant.constant < sort_size c.args.self.now.agent.now c.args.sort = omega arith in
    pick_settled c.args.self.now.fit.guarded (sym c.holds.ensures ∙ c.if-holds.true) (more_ends below c.either-some.ensures c.in_ok-put.ensures c.in_ok-one.ensures c.loop-constant.invariant)

pub ends_of_pick-returns : goal.ends_of_pick-returns
ends_of_pick-returns t c = pick_ends c.args.self.now.fit.guarded (omega arith) c.loop-constant.invariant

pub ends_of_call-body_of-requires : goal.ends_of_call-body_of-requires
ends_of_call-body_of-requires t c = call_few _ c.args.self.now.fit _ _ _ c.requires refl

pub ends_of_call-ends_of_put-requires : goal.ends_of_call-ends_of_put-requires
ends_of_call-ends_of_put-requires t c =
    let part = down (part_as c.in_ok-body.ensures (call_part _ c.args.self.now.fit _ _ _ c.requires refl)) in
    search rules

pub ends_of_call-returns : goal.ends_of_call-returns
ends_of_call-returns t c = gives c.ends_of_put.result _ _ c.ends_of_put.ensures (λ _ h. call_ends c.args.self.now.fit.guarded _ _ refl c.in_ok-body.ensures h)
