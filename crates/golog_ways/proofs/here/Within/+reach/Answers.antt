use Rattle.std.proofs.Common.{◌+◌, ◌*◌, ◌<◌, [], max, true, inl, inr, refl, sym, ap, ◌∙◌, rules, arith}
use Rattle.golog_tree.specs.declared.prog.Prog.{Prog}
use Rattle.golog_tree.specs.declared.prog.Prog.TheOpen.{Choice, Star, If, While, Conc, Cstar, Call}
use Rattle.golog_tree.specs.declared.prog.Prog.TheVariants as prog
use Rattle.golog_tree.specs.declared.prog.Prog.TheViews.{out-Prog}
use Rattle.golog_tree.specs.Ground.{sort_size}
use Rattle.golog_semantics.specs.Guarded.{front}
use Rattle.golog_semantics.specs.Program.{put_arg, body_of}
use Rattle.golog_ways.specs.Lacking.{Lacks}
use Rattle.golog_ways.proofs.BlockParts.{search_begins}
use Rattle.golog_fronts.proofs.Closing.{skipped, choice_parts, conc_parts, prio_parts, seq_parts, star_part, cstar_part, test_fits, if_parts, while_parts, pick_part, call_part, call_few, both_down, down, part_as, whole}
use Rattle.golog_ways.proofs.Lackings.{lacks_as, part_lacks, parts_lack, stops_as, stops_at_either, stops_first, stops_from, stops_or, search_lacks, seq_one, seq_other, pick_lacks, prio_high, prio_low}
use Rattle.golog_fronts.proofs.Moved.{one_same, two_same, closed_as}
use Rattle.golog_ways.proofs.ReachSteps.{reach_as, same_gives, nil_reach, act_reach, test_reach, seq_gives, seq_reach_first, seq_settled, choice_gives, conc_gives, either_gives, prio_reach, prio_kept, star_gives, cstar_gives, search_gives, or_settled, or_more, skips, if_gives, while_gives, call_gives, some_none, some_more, pick_reach, pick_settled}
use Rattle.golog_ways.proofs.here.Within.+reach.Goals as goal

pub reach_of-precondition-requires : goal.reach_of-precondition-requires
reach_of-precondition-requires g t c =
    closed_as (one_same (prog.Act c.in-Act.action) c.in-Act.is c.as_slice.ensures) c.requires.closed

pub reach_of-truth-requires : goal.reach_of-truth-requires
reach_of-truth-requires g t c =
    test_fits _ _ _ c.requires.closed c.in-Test.is

pub reach_of-reach_of_seq-requires : goal.reach_of-reach_of_seq-requires
reach_of-reach_of_seq-requires g t c κs within =
    let handed = whole (two_same prog.Seq c.in-Seq.is c.get.ensures c.get-in-Seq.ensures) c.requires.closed in
    search rules

pub reach_of-reach_of-requires : goal.reach_of-reach_of-requires
reach_of-reach_of-requires g t c κs within =
    let part = down (star_part c.requires.closed (one_same prog.Star c.in-Star.is c.get-in-Star.ensures)) in
    search rules

pub reach_of-reach_of-requires-in-Cstar : goal.reach_of-reach_of-requires-in-Cstar
reach_of-reach_of-requires-in-Cstar g t c κs within =
    let part = down (cstar_part c.requires.closed (one_same prog.Cstar c.in-Cstar.is c.get-in-Cstar.ensures)) in
    search rules

pub reach_of-reach_of_if-requires : goal.reach_of-reach_of_if-requires
reach_of-reach_of_if-requires g t c κs within =
    let handed = whole (two_same (prog.If c.in-If.cond) c.in-If.is c.get-in-If.ensures c.get-in-If-2.ensures) c.requires.closed in
    search rules

pub reach_of-reach_of_while-requires : goal.reach_of-reach_of_while-requires
reach_of-reach_of_while-requires g t c κs within =
    let handed = whole (one_same (prog.While c.in-While.cond) c.in-While.is c.get-in-While.ensures) c.requires.closed in
    search rules

pub reach_of-reach_of_pick-requires : goal.reach_of-reach_of_pick-requires
reach_of-reach_of_pick-requires g t c κs within =
    let handed = whole (one_same (prog.Pick c.in-Pick.var c.in-Pick.sort) c.in-Pick.is c.get-in-Pick.ensures) c.requires.closed in
    search rules

pub reach_of-reach_of_call-requires : goal.reach_of-reach_of_call-requires
reach_of-reach_of_call-requires g t c κs within =
    let handed = whole (one_same (prog.Call c.in-Call.item) c.in-Call.is c.as_slice-in-Call.ensures) c.requires.closed in
    search rules

pub reach_of_if-truth-is_so-requires : goal.reach_of_if-truth-is_so-requires
reach_of_if-truth-is_so-requires g t c =
    let parts = if_parts c.requires.closed refl in
    parts.cond

pub reach_of_seq-reach_of-requires : goal.reach_of_seq-reach_of-requires
reach_of_seq-reach_of-requires g t c κs within =
    let part = down ((seq_parts c.requires.closed refl).one) in
    search rules

pub reach_of_while-truth-is_so-requires : goal.reach_of_while-truth-is_so-requires
reach_of_while-truth-is_so-requires g t c =
    let parts = while_parts c.requires.closed refl in
    parts.cond

pub reach_of_put-reach_of-reach-requires : goal.reach_of_put-reach_of-reach-requires
reach_of_put-reach_of-reach-requires g t c κs within =
    let low : 1 + 3 * (front c.args.self.now.here.agent.now c.args.prog).height < 2 + 3 * (front c.args.self.now.here.agent.now c.args.prog).height = omega arith in
    search rules

pub reach_of_pick-reach_of_put-requires : goal.reach_of_pick-reach_of_put-requires
reach_of_pick-reach_of_put-requires g t c κs within =
    let below : c.loop-constant.constant < sort_size c.args.self.now.here.agent.now c.args.sort = omega arith in
    let part = down (part_as c.in_ok-put.ensures (pick_part _ _ _ _ _ c.requires.closed refl c.loop-constant.constant below)) in
    search rules

pub reach_of_call-body_of-requires : goal.reach_of_call-body_of-requires
reach_of_call-body_of-requires g t c =
    call_few _ c.args.self.now.here.fit _ _ _ c.requires.closed refl

pub reach_of_call-reach_of_put-requires : goal.reach_of_call-reach_of_put-requires
reach_of_call-reach_of_put-requires g t c κs within =
    let part = down (part_as c.in_ok-body.ensures (call_part _ c.args.self.now.here.fit _ _ _ c.requires.closed refl)) in
    search rules

pub reach_of-returns-in-Nil-clause-reach : goal.reach_of-returns-in-Nil-clause-reach
reach_of-returns-in-Nil-clause-reach g t c =
    reach_as _ _ _ c.args.prog.now prog.Nil _ c.in-Nil.is (nil_reach _ _ _ c.args.self.now.here.fit.guarded)

pub reach_of-returns-in-Act-clause-reach : goal.reach_of-returns-in-Act-clause-reach
reach_of-returns-in-Act-clause-reach g t c =
    let args = c.as_slice.result.now in
    reach_as _ _ _ _ _ _ (one_same (prog.Act c.in-Act.action) c.in-Act.is c.as_slice.ensures) (act_reach _ _ _ c.args.self.now.here.fit.guarded c.in-Act.action args c.precondition.result c.of.result c.precondition.ensures c.of.ensures)

pub reach_of-returns-in-Test-clause-reach : goal.reach_of-returns-in-Test-clause-reach
reach_of-returns-in-Test-clause-reach g t c =
    reach_as _ _ _ c.args.prog.now (prog.Test c.in-Test.cond) _ c.in-Test.is (test_reach _ _ _ c.args.self.now.here.fit.guarded c.in-Test.cond c.truth.result c.of-in-Test.result c.truth.ensures c.of-in-Test.ensures)

pub reach_of-returns-in-Seq-clause-reach : goal.reach_of-returns-in-Seq-clause-reach
reach_of-returns-in-Seq-clause-reach g t c =
    same_gives _ _ _ c.reach_of_seq.result _ _ (two_same prog.Seq c.in-Seq.is c.get.ensures c.get-in-Seq.ensures) c.reach_of_seq.ensures.reach

pub reach_of-returns-in-Star-clause-reach : goal.reach_of-returns-in-Star-clause-reach
reach_of-returns-in-Star-clause-reach g t c =
    star_gives _ _ _ c.args.self.now.here.fit.guarded c.reach_of.result _ _ (one_same prog.Star c.in-Star.is c.get-in-Star.ensures) c.reach_of.ensures.reach

pub reach_of-returns-in-Cstar-clause-reach : goal.reach_of-returns-in-Cstar-clause-reach
reach_of-returns-in-Cstar-clause-reach g t c =
    cstar_gives _ _ _ c.args.self.now.here.fit.guarded c.reach_of-in-Cstar.result _ _ (one_same prog.Cstar c.in-Cstar.is c.get-in-Cstar.ensures) c.reach_of-in-Cstar.ensures.reach

pub reach_of-returns-in-If-clause-reach : goal.reach_of-returns-in-If-clause-reach
reach_of-returns-in-If-clause-reach g t c =
    same_gives _ _ _ c.reach_of_if.result _ _ (two_same (prog.If c.in-If.cond) c.in-If.is c.get-in-If.ensures c.get-in-If-2.ensures) c.reach_of_if.ensures.reach

pub reach_of-returns-in-While-clause-reach : goal.reach_of-returns-in-While-clause-reach
reach_of-returns-in-While-clause-reach g t c =
    same_gives _ _ _ c.reach_of_while.result _ _ (one_same (prog.While c.in-While.cond) c.in-While.is c.get-in-While.ensures) c.reach_of_while.ensures.reach

pub reach_of-returns-in-Pick-clause-reach : goal.reach_of-returns-in-Pick-clause-reach
reach_of-returns-in-Pick-clause-reach g t c =
    same_gives _ _ _ c.reach_of_pick.result _ _ (one_same (prog.Pick c.in-Pick.var c.in-Pick.sort) c.in-Pick.is c.get-in-Pick.ensures) c.reach_of_pick.ensures.reach

pub reach_of-returns-in-Call-clause-reach : goal.reach_of-returns-in-Call-clause-reach
reach_of-returns-in-Call-clause-reach g t c =
    same_gives _ _ _ c.reach_of_call.result _ _ (one_same (prog.Call c.in-Call.item) c.in-Call.is c.as_slice-in-Call.ensures) c.reach_of_call.ensures.reach

pub reach_of-reach_of_block-requires-clause-closed : goal.reach_of-reach_of_block-requires-clause-closed
reach_of-reach_of_block-requires-clause-closed g t c =
    let a = c.get-in-Search.result.now in
    search_begins c.args.self.now.here.agent.now c.args.prog.now a c.in-Search.depth c.in-Search.fuel _ refl c.requires.closed (one_same (prog.Search c.in-Search.depth c.in-Search.fuel) c.in-Search.is c.get-in-Search.ensures)

pub reach_of-returns-in-Search-clause-reach : goal.reach_of-returns-in-Search-clause-reach
reach_of-returns-in-Search-clause-reach g t c =
    search_gives _ _ _ c.args.self.now.here.fit.guarded c.reach_of_block.result _ _ _ _ (one_same (prog.Search c.in-Search.depth c.in-Search.fuel) c.in-Search.is c.get-in-Search.ensures) c.reach_of_block.ensures.reach

pub reach_of-returns-in-Follow-clause-reach : goal.reach_of-returns-in-Follow-clause-reach
reach_of-returns-in-Follow-clause-reach g t c =
    let a = c.get-in-Follow.result.now in
    same_gives _ _ _ c.reach_of_block-in-Follow.result _ _ (one_same (prog.Follow c.in-Follow.depth c.in-Follow.fuel a) (one_same (λ (z : Prog). prog.Follow c.in-Follow.depth c.in-Follow.fuel z c.in-Follow.rest) c.in-Follow.is c.get-in-Follow.ensures) c.as_slice-in-Follow.ensures) c.reach_of_block-in-Follow.ensures.reach

pub reach_of_pick-loop-constant-init : goal.reach_of_pick-loop-constant-init
reach_of_pick-loop-constant-init g t c =
    some_none _ _ _ c.args.var c.args.sort c.args.body.now

pub reach_of_pick-loop-constant-preserved : goal.reach_of_pick-loop-constant-preserved
reach_of_pick-loop-constant-preserved g t c =
    let below : c.loop-constant.constant < sort_size c.args.self.now.here.agent.now c.args.sort = omega arith in
    some_more _ _ _ c.args.var c.args.sort c.args.body.now c.loop-constant.constant c.loop-constant.some c.in_ok-put.put c.in_ok-one.one c.or-some.result below c.in_ok-put.ensures c.in_ok-one.ensures.reach c.or-some.ensures c.loop-constant.invariant

pub reach_of_pick-returns-clause-reach : goal.reach_of_pick-returns-clause-reach
reach_of_pick-returns-clause-reach g t c =
    pick_reach _ _ _ c.args.var c.args.sort c.args.body.now c.args.self.now.here.fit.guarded c.loop-constant.constant c.loop-constant.some (omega arith) c.loop-constant.invariant

pub reach_of_call-returns-clause-reach : goal.reach_of_call-returns-clause-reach
reach_of_call-returns-clause-reach g t c =
    call_gives _ _ _ c.args.self.now.here.fit.guarded c.reach_of_put.result c.args.item c.args.args.now c.in_ok-body.body c.in_ok-body.ensures c.reach_of_put.ensures.reach

pub reach_of-returns-in-Star-clause-fuel : goal.reach_of-returns-in-Star-clause-fuel
reach_of-returns-in-Star-clause-fuel g t c =
    let a = c.get-in-Star.result.now in
    stops_as _ _ true c.reach_of.result a c.args.prog.now (part_lacks _ _ true c.args.prog.now a (Star a) (ap out-Prog (one_same prog.Star c.in-Star.is c.get-in-Star.ensures) ∙ prog.outs-Star a) (λ f. refl)) c.reach_of.ensures.fuel

pub reach_of-returns-in-Cstar-clause-fuel : goal.reach_of-returns-in-Cstar-clause-fuel
reach_of-returns-in-Cstar-clause-fuel g t c =
    let a = c.get-in-Cstar.result.now in
    stops_as _ _ true c.reach_of-in-Cstar.result a c.args.prog.now (part_lacks _ _ true c.args.prog.now a (Cstar a) (ap out-Prog (one_same prog.Cstar c.in-Cstar.is c.get-in-Cstar.ensures) ∙ prog.outs-Cstar a) (λ f. refl)) c.reach_of-in-Cstar.ensures.fuel

pub reach_of-returns-in-Search-clause-fuel : goal.reach_of-returns-in-Search-clause-fuel
reach_of-returns-in-Search-clause-fuel g t c =
    let a = c.get-in-Search.result.now in
    stops_as _ _ true c.reach_of_block.result (prog.Follow c.in-Search.depth c.in-Search.fuel a []) c.args.prog.now (search_lacks _ _ true c.args.prog.now a c.in-Search.depth c.in-Search.fuel (one_same (prog.Search c.in-Search.depth c.in-Search.fuel) c.in-Search.is c.get-in-Search.ensures)) c.reach_of_block.ensures.fuel

pub reach_of-returns-in-Follow-clause-fuel : goal.reach_of-returns-in-Follow-clause-fuel
reach_of-returns-in-Follow-clause-fuel g t c =
    let a = c.get-in-Follow.result.now in
    let rest = c.as_slice-in-Follow.result.now in
    let block = prog.Follow c.in-Follow.depth c.in-Follow.fuel a rest in
    stops_as _ _ true c.reach_of_block-in-Follow.result block c.args.prog.now (lacks_as _ _ true block c.args.prog.now (sym (one_same (prog.Follow c.in-Follow.depth c.in-Follow.fuel a) (one_same (λ (z : Prog). prog.Follow c.in-Follow.depth c.in-Follow.fuel z c.in-Follow.rest) c.in-Follow.is c.get-in-Follow.ensures) c.as_slice-in-Follow.ensures))) c.reach_of_block-in-Follow.ensures.fuel

pub reach_of_call-returns-clause-fuel : goal.reach_of_call-returns-clause-fuel
reach_of_call-returns-clause-fuel g t c =
    let r = prog.Call c.args.item c.args.args.now in
    let lack = λ (h : Lacks c.args.self.now.here.agent.now (g.B.Blocks.wants c.args.self.now.blocks.now c.args.self.now.here.agent.now c.args.self.now.here.values.now) true c.in_ok-body.body). part_lacks _ _ true r (body_of c.args.self.now.here.agent.now c.args.item c.args.args.now) (Call c.args.item c.args.args.now) (prog.outs-Call c.args.item c.args.args.now) (λ f. refl) (lacks_as _ _ true c.in_ok-body.body (body_of c.args.self.now.here.agent.now c.args.item c.args.args.now) c.in_ok-body.ensures h) in
    stops_as _ _ true c.reach_of_put.result c.in_ok-body.body r lack c.reach_of_put.ensures.fuel

pub reach_of_pick-returns-in_err-one-clause-fuel : goal.reach_of_pick-returns-in_err-one-clause-fuel
reach_of_pick-returns-in_err-one-clause-fuel g t c =
    let below : c.loop-constant.constant < sort_size c.args.self.now.here.agent.now c.args.sort = omega arith in
    let lack = λ (h : Lacks c.args.self.now.here.agent.now (g.B.Blocks.wants c.args.self.now.blocks.now c.args.self.now.here.agent.now c.args.self.now.here.values.now) true c.in_ok-put.put). pick_lacks _ _ true c.args.var c.args.sort c.args.body.now c.loop-constant.constant below (lacks_as _ _ true c.in_ok-put.put (put_arg c.args.body.now c.args.var c.loop-constant.constant) c.in_ok-put.ensures h) in
    stops_from _ _ true c.from_residual-in_err-one.result c.in_err-one.field-0.0 c.in_ok-put.put (prog.Pick c.args.var c.args.sort c.args.body.now) c.from_residual-in_err-one.ensures.1 lack c.in_err-one.ensures.fuel

pub reach_of-reach_of_either-requires : goal.reach_of-reach_of_either-requires
reach_of-reach_of_either-requires g t c κs within =
    let parts = both_down (choice_parts c.requires.closed (two_same prog.Choice c.in-Choice.is c.get-in-Choice.ensures c.get-in-Choice-2.ensures)) in
    search rules

pub reach_of-reach_of_either-requires-in-Conc : goal.reach_of-reach_of_either-requires-in-Conc
reach_of-reach_of_either-requires-in-Conc g t c κs within =
    let parts = both_down (conc_parts c.requires.closed (two_same prog.Conc c.in-Conc.is c.get-in-Conc.ensures c.get-in-Conc-2.ensures)) in
    search rules

pub reach_of-reach_of_prio-requires : goal.reach_of-reach_of_prio-requires
reach_of-reach_of_prio-requires g t c κs within =
    let handed = whole (two_same prog.Prio c.in-Prio.is c.get-in-Prio.ensures c.get-in-Prio-2.ensures) c.requires.closed in
    search rules

pub reach_of-returns-in-Prio-clause-reach : goal.reach_of-returns-in-Prio-clause-reach
reach_of-returns-in-Prio-clause-reach g t c =
    same_gives _ _ _ c.reach_of_prio.result _ _ (two_same prog.Prio c.in-Prio.is c.get-in-Prio.ensures c.get-in-Prio-2.ensures) c.reach_of_prio.ensures.reach

pub reach_of-returns-in-Choice-clause-reach : goal.reach_of-returns-in-Choice-clause-reach
reach_of-returns-in-Choice-clause-reach g t c =
    choice_gives _ _ _ c.args.self.now.here.fit.guarded c.reach_of_either.result _ _ _ (two_same prog.Choice c.in-Choice.is c.get-in-Choice.ensures c.get-in-Choice-2.ensures) c.reach_of_either.ensures.reach

pub reach_of-returns-in-Conc-clause-reach : goal.reach_of-returns-in-Conc-clause-reach
reach_of-returns-in-Conc-clause-reach g t c =
    conc_gives _ _ _ c.args.self.now.here.fit.guarded c.reach_of_either-in-Conc.result _ _ _ (two_same prog.Conc c.in-Conc.is c.get-in-Conc.ensures c.get-in-Conc-2.ensures) c.reach_of_either-in-Conc.ensures.reach

pub reach_of-returns-in-Choice-clause-fuel : goal.reach_of-returns-in-Choice-clause-fuel
reach_of-returns-in-Choice-clause-fuel g t c =
    let a = c.get-in-Choice.result.now in
    let b = c.get-in-Choice-2.result.now in
    stops_at_either _ _ true c.reach_of_either.result a b c.args.prog.now (parts_lack _ _ true c.args.prog.now a b (Choice a b) (ap out-Prog (two_same prog.Choice c.in-Choice.is c.get-in-Choice.ensures c.get-in-Choice-2.ensures) ∙ prog.outs-Choice a b) (λ f. refl)) c.reach_of_either.ensures.fuel

pub reach_of-returns-in-Conc-clause-fuel : goal.reach_of-returns-in-Conc-clause-fuel
reach_of-returns-in-Conc-clause-fuel g t c =
    let a = c.get-in-Conc.result.now in
    let b = c.get-in-Conc-2.result.now in
    stops_at_either _ _ true c.reach_of_either-in-Conc.result a b c.args.prog.now (parts_lack _ _ true c.args.prog.now a b (Conc a b) (ap out-Prog (two_same prog.Conc c.in-Conc.is c.get-in-Conc.ensures c.get-in-Conc-2.ensures) ∙ prog.outs-Conc a b) (λ f. refl)) c.reach_of_either-in-Conc.ensures.fuel

pub reach_of_either-reach_of-requires : goal.reach_of_either-reach_of-requires
reach_of_either-reach_of-requires g t c κs within =
    let closed = c.requires.one in
    let low : 1 + 3 * (front c.args.self.now.here.agent.now c.args.one.now).height < 3 + 3 * max (front c.args.self.now.here.agent.now c.args.one.now).height (front c.args.self.now.here.agent.now c.args.other.now).height = omega arith in
    search rules

pub reach_of_either-reach_or-requires : goal.reach_of_either-reach_or-requires
reach_of_either-reach_or-requires g t c κs within =
    let closed = c.requires.other in
    let low : 2 + 3 * (front c.args.self.now.here.agent.now c.args.other.now).height < 3 + 3 * max (front c.args.self.now.here.agent.now c.args.one.now).height (front c.args.self.now.here.agent.now c.args.other.now).height = omega arith in
    search rules

pub reach_of_either-returns-clause-reach : goal.reach_of_either-returns-clause-reach
reach_of_either-returns-clause-reach g t c =
    either_gives _ _ _ c.args.self.now.here.fit.guarded c.reach_or.result c.args.one.now c.args.other.now c.in_ok-reach.reach c.in_ok-reach.ensures.reach c.reach_or.ensures.reach

pub reach_of_either-returns-clause-fuel : goal.reach_of_either-returns-clause-fuel
reach_of_either-returns-clause-fuel g t c =
    stops_or _ _ true c.reach_or.result c.args.one.now c.args.other.now c.reach_or.ensures.fuel

pub reach_of_either-returns-in_err-reach-clause-fuel : goal.reach_of_either-returns-in_err-reach-clause-fuel
reach_of_either-returns-in_err-reach-clause-fuel g t c =
    stops_first _ _ true c.from_residual.result c.in_err-reach.field-0.0 c.args.one.now c.args.other.now c.from_residual.ensures.1 c.in_err-reach.ensures.fuel

pub reach_of_prio-reach_of-requires : goal.reach_of_prio-reach_of-requires
reach_of_prio-reach_of-requires g t c κs within =
    let part = down ((prio_parts c.requires.closed refl).one) in
    search rules

pub reach_of_prio-reach_of-requires-else-is_settled : goal.reach_of_prio-reach_of-requires-else-is_settled
reach_of_prio-reach_of-requires-else-is_settled g t c κs within =
    let part = down ((prio_parts c.requires.closed refl).other) in
    search rules

pub reach_of_prio-returns-then-is_settled-clause-reach : goal.reach_of_prio-returns-then-is_settled-clause-reach
reach_of_prio-returns-then-is_settled-clause-reach g t c =
    prio_kept _ _ _ c.args.self.now.here.fit.guarded c.args.high.now c.args.low.now c.in_ok-high.high c.is_settled.result c.is_settled.ensures c.if-is_settled.true c.in_ok-high.ensures.reach

pub reach_of_prio-returns-in_ok-low-clause-reach : goal.reach_of_prio-returns-in_ok-low-clause-reach
reach_of_prio-returns-in_ok-low-clause-reach g t c =
    prio_reach _ _ _ c.args.self.now.here.fit.guarded c.args.high.now c.args.low.now c.in_ok-high.high c.in_ok-low.low c.over.result c.in_ok-high.ensures.reach c.in_ok-low.ensures.reach c.over.ensures

pub reach_of_prio-returns-in_err-high-clause-fuel : goal.reach_of_prio-returns-in_err-high-clause-fuel
reach_of_prio-returns-in_err-high-clause-fuel g t c =
    stops_from _ _ true c.from_residual.result c.in_err-high.field-0.0 c.args.high.now (prog.Prio c.args.high.now c.args.low.now) c.from_residual.ensures.1 (prio_high _ _ true c.args.high.now c.args.low.now) c.in_err-high.ensures.fuel

pub reach_of_prio-returns-in_err-low-clause-fuel : goal.reach_of_prio-returns-in_err-low-clause-fuel
reach_of_prio-returns-in_err-low-clause-fuel g t c =
    stops_from _ _ true c.from_residual-in_err-low.result c.in_err-low.field-0.0 c.args.low.now (prog.Prio c.args.high.now c.args.low.now) c.from_residual-in_err-low.ensures.1 (prio_low _ _ true c.args.high.now c.args.low.now) c.in_err-low.ensures.fuel

pub reach_or-reach_of-requires : goal.reach_or-reach_of-requires
reach_or-reach_of-requires g t c κs within =
    let low : 1 + 3 * (front c.args.self.now.here.agent.now c.args.prog.now).height < 2 + 3 * (front c.args.self.now.here.agent.now c.args.prog.now).height = omega arith in
    search rules

pub reach_or-returns-then-is_settled-clause-reach : goal.reach_or-returns-then-is_settled-clause-reach
reach_or-returns-then-is_settled-clause-reach g t c =
    or_settled _ _ _ c.args.so_far c.args.truth c.args.prog.now c.is_settled.result c.is_settled.ensures c.if-is_settled.true

pub reach_or-returns-in_ok-reach-clause-reach : goal.reach_or-returns-in_ok-reach-clause-reach
reach_or-returns-in_ok-reach-clause-reach g t c =
    or_more _ _ _ c.args.so_far c.args.truth c.args.prog.now c.in_ok-reach.reach c.where_holds.result c.or.result c.where_holds.ensures c.or.ensures c.in_ok-reach.ensures.reach

pub reach_of_if-reach_or-requires : goal.reach_of_if-reach_or-requires
reach_of_if-reach_or-requires g t c κs within =
    let part = down ((if_parts c.requires.closed refl).yes) in
    search rules

pub reach_of_if-reach_or-requires-2 : goal.reach_of_if-reach_or-requires-2
reach_of_if-reach_or-requires-2 g t c κs within =
    let part = down ((if_parts c.requires.closed refl).no) in
    search rules

pub reach_of_if-returns-clause-reach : goal.reach_of_if-returns-clause-reach
reach_of_if-returns-clause-reach g t c =
    if_gives _ _ _ c.args.self.now.here.fit.guarded c.reach_or-2.result c.args.cond.now c.args.yes.now c.args.no.now c.truth-is_so.result c.negation.result c.in_ok-yes.yes c.truth-is_so.ensures c.negation.ensures c.in_ok-yes.ensures.reach c.reach_or-2.ensures.reach

pub reach_of_if-returns-in_err-yes-clause-fuel : goal.reach_of_if-returns-in_err-yes-clause-fuel
reach_of_if-returns-in_err-yes-clause-fuel g t c =
    let lack = λ (h : Lacks c.args.self.now.here.agent.now (g.B.Blocks.wants c.args.self.now.blocks.now c.args.self.now.here.agent.now c.args.self.now.here.values.now) true c.args.yes.now). parts_lack _ _ true (prog.If c.args.cond.now c.args.yes.now c.args.no.now) c.args.yes.now c.args.no.now (If c.args.cond.now c.args.yes.now c.args.no.now) (prog.outs-If c.args.cond.now c.args.yes.now c.args.no.now) (λ f. refl) (inl h) in
    stops_from _ _ true c.from_residual.result c.in_err-yes.field-0.0 c.args.yes.now (prog.If c.args.cond.now c.args.yes.now c.args.no.now) c.from_residual.ensures.1 lack c.in_err-yes.ensures.fuel

pub reach_of_if-returns-clause-fuel : goal.reach_of_if-returns-clause-fuel
reach_of_if-returns-clause-fuel g t c =
    let lack = λ (h : Lacks c.args.self.now.here.agent.now (g.B.Blocks.wants c.args.self.now.blocks.now c.args.self.now.here.agent.now c.args.self.now.here.values.now) true c.args.no.now). parts_lack _ _ true (prog.If c.args.cond.now c.args.yes.now c.args.no.now) c.args.yes.now c.args.no.now (If c.args.cond.now c.args.yes.now c.args.no.now) (prog.outs-If c.args.cond.now c.args.yes.now c.args.no.now) (λ f. refl) (inr h) in
    stops_as _ _ true c.reach_or-2.result c.args.no.now (prog.If c.args.cond.now c.args.yes.now c.args.no.now) lack c.reach_or-2.ensures.fuel

pub reach_of_while-reach_or-requires : goal.reach_of_while-reach_or-requires
reach_of_while-reach_or-requires g t c κs within =
    let part = down ((while_parts c.requires.closed refl).body) in
    search rules

pub reach_of_while-returns-clause-reach : goal.reach_of_while-returns-clause-reach
reach_of_while-returns-clause-reach g t c =
    while_gives _ _ _ c.args.self.now.here.fit.guarded c.reach_or.result c.args.cond.now c.args.body.now c.truth-is_so.result c.truth-is_so.ensures c.reach_or.ensures.reach

pub reach_of_while-returns-clause-fuel : goal.reach_of_while-returns-clause-fuel
reach_of_while-returns-clause-fuel g t c =
    let r = prog.While c.args.cond.now c.args.body.now in
    stops_as _ _ true c.reach_or.result c.args.body.now r (part_lacks _ _ true r c.args.body.now (While c.args.cond.now c.args.body.now) (prog.outs-While c.args.cond.now c.args.body.now) (λ f. refl)) c.reach_or.ensures.fuel

pub reach_of_seq-ends_of-requires : goal.reach_of_seq-ends_of-requires
reach_of_seq-ends_of-requires g t c =
    (seq_parts c.requires.closed refl).one.closed_too

pub reach_of_seq-reach_or-requires : goal.reach_of_seq-reach_or-requires
reach_of_seq-reach_or-requires g t c κs within =
    let skip = skips c.args.self.now.here.agent.now c.args.self.now.here.values.now c.args.self.now.here.fit.guarded c.args.one.now c.in_ok-ends.ends c.holds.result c.in_ok-ends.ensures.ends c.holds.ensures c.if-holds.true in
    let part = down ((skipped skip (seq_parts c.requires.closed refl)).other) in
    search rules

pub reach_of_seq-returns-then-is_settled-clause-reach : goal.reach_of_seq-returns-then-is_settled-clause-reach
reach_of_seq-returns-then-is_settled-clause-reach g t c =
    seq_settled _ _ _ c.args.self.now.here.fit.guarded c.args.one.now c.args.other.now c.in_ok-reach.reach c.is_settled.result c.is_settled.ensures c.if-is_settled.true c.in_ok-reach.ensures.reach

pub reach_of_seq-returns-then-holds-clause-reach : goal.reach_of_seq-returns-then-holds-clause-reach
reach_of_seq-returns-then-holds-clause-reach g t c =
    seq_gives _ _ _ c.args.self.now.here.fit.guarded c.reach_or.result c.args.one.now c.args.other.now c.in_ok-ends.ends c.in_ok-reach.reach c.in_ok-ends.ensures.ends c.in_ok-reach.ensures.reach c.reach_or.ensures.reach

pub reach_of_seq-returns-else-holds-clause-reach : goal.reach_of_seq-returns-else-holds-clause-reach
reach_of_seq-returns-else-holds-clause-reach g t c =
    seq_reach_first _ _ _ c.args.self.now.here.fit.guarded c.args.one.now c.args.other.now c.in_ok-ends.ends c.in_ok-reach.reach c.holds.result c.in_ok-ends.ensures.ends c.holds.ensures c.if-holds.false c.in_ok-reach.ensures.reach

pub reach_of_seq-returns-in_err-reach-clause-fuel : goal.reach_of_seq-returns-in_err-reach-clause-fuel
reach_of_seq-returns-in_err-reach-clause-fuel g t c =
    stops_from _ _ true c.from_residual.result c.in_err-reach.field-0.0 c.args.one.now (prog.Seq c.args.one.now c.args.other.now) c.from_residual.ensures.1 (seq_one _ _ true c.args.one.now c.args.other.now) c.in_err-reach.ensures.fuel

pub reach_of_seq-returns-then-holds-clause-fuel : goal.reach_of_seq-returns-then-holds-clause-fuel
reach_of_seq-returns-then-holds-clause-fuel g t c =
    let skip = skips c.args.self.now.here.agent.now c.args.self.now.here.values.now c.args.self.now.here.fit.guarded c.args.one.now c.in_ok-ends.ends c.holds.result c.in_ok-ends.ensures.ends c.holds.ensures c.if-holds.true in
    stops_as _ _ true c.reach_or.result c.args.other.now (prog.Seq c.args.one.now c.args.other.now) (seq_other _ _ true c.args.one.now c.args.other.now skip) c.reach_or.ensures.fuel

pub reach_of_pick-returns-then-is_settled-clause-reach : goal.reach_of_pick-returns-then-is_settled-clause-reach
reach_of_pick-returns-then-is_settled-clause-reach g t c =
    let below : c.loop-constant.constant < sort_size c.args.self.now.here.agent.now c.args.sort = omega arith in
    let more = some_more _ _ _ c.args.var c.args.sort c.args.body.now c.loop-constant.constant c.loop-constant.some c.in_ok-put.put c.in_ok-one.one c.or-some.result below c.in_ok-put.ensures c.in_ok-one.ensures.reach c.or-some.ensures c.loop-constant.invariant in
    pick_settled _ _ _ c.args.var c.args.sort c.args.body.now c.args.self.now.here.fit.guarded (c.loop-constant.constant + 1) c.or-some.result c.is_settled.result c.is_settled.ensures c.if-is_settled.true more
