use Rattle.std.proofs.Common.{◌≡◌, ◌+◌, ◌*◌, ◌<◌, max, true, false, refl, sym, ap, ◌∙◌, rules, arith}
use Rattle.golog_tree.specs.declared.prog.Prog.{Prog}
use Rattle.golog_tree.specs.declared.prog.Prog.TheVariants as prog
use Rattle.golog_tree.specs.Ground.{sort_size}
use Rattle.golog_semantics.specs.Guarded.{front}
use Rattle.golog_semantics.specs.Program.{put_arg}
use Rattle.golog_fronts.proofs.Closing.{choice_parts, conc_parts, prio_parts, seq_parts, star_part, cstar_part, if_parts, while_parts, pick_part, call_part, call_few, both_down, branches, skipped, down, part_as, whole}
use Rattle.golog_fronts.proofs.Moved.{one_same, two_same}
use Rattle.golog_fronts.proofs.WellFormedFits.{well_formed_fits}
use Rattle.golog_search.specs.Weighing.{some_weighs}
use Rattle.golog_search.proofs.InBlocks.{search_body, follow_body}
use Rattle.golog_search.proofs.Weighs.{ok_as, nil_weighs, act_weighs, test_weighs, star_weighs, cstar_weighs, while_weighs, call_weighs, choice_weighs, if_weighs, conc_weighs, prio_weighs, seq_weighs, seq_first, search_weighs, follow_weighs, none_yet, none_more, pick_weighs, pick_none}
use Rattle.golog_search.proofs.weighing.Standing.+weighing.Goals as goal

pub some_weighs-returns-in-Nil : goal.some_weighs-returns-in-Nil
some_weighs-returns-in-Nil t c =
    nil_weighs c.args.self.now.agent.now c.args.self.now.state.now c.args.self.now.stepless c.args.higher c.requires.agent.programs.guarded c.args.prog.now c.in-Nil.is

pub some_weighs-returns-in-Act : goal.some_weighs-returns-in-Act
some_weighs-returns-in-Act t c =
    act_weighs c.args.self.now.agent.now c.args.self.now.state.now c.args.self.now.stepless c.args.higher c.requires.agent.programs.guarded c.args.prog.now c.in-Act.action c.in-Act.args c.in-Act.is

pub some_weighs-returns-in-Test : goal.some_weighs-returns-in-Test
some_weighs-returns-in-Test t c =
    test_weighs c.args.self.now.agent.now c.args.self.now.state.now c.args.self.now.stepless c.args.higher c.requires.agent.programs.guarded c.args.prog.now c.in-Test.field-0 c.in-Test.is

pub some_weighs-weighs_in_seq-requires : goal.some_weighs-weighs_in_seq-requires
some_weighs-weighs_in_seq-requires t c =
    let handed = whole (two_same prog.Seq c.in-Seq.is c.get.ensures c.get-in-Seq.ensures) c.requires.closed in
    search rules

pub some_weighs-returns-in-Seq : goal.some_weighs-returns-in-Seq
some_weighs-returns-in-Seq t c =
    ok_as c.weighs_in_seq.result _ _ (ap (some_weighs c.args.self.now.agent.now c.args.self.now.state.now c.args.self.now.stepless c.args.higher) (sym (two_same prog.Seq c.in-Seq.is c.get.ensures c.get-in-Seq.ensures))) c.weighs_in_seq.ensures

pub some_weighs-either_weighs-requires : goal.some_weighs-either_weighs-requires
some_weighs-either_weighs-requires t c =
    let parts = both_down (choice_parts c.requires.closed (two_same prog.Choice c.in-Choice.is c.get-in-Choice.ensures c.get-in-Choice-2.ensures)) in
    search rules

pub some_weighs-returns-in-Choice : goal.some_weighs-returns-in-Choice
some_weighs-returns-in-Choice t c =
    ok_as c.either_weighs.result _ _ (choice_weighs c.args.self.now.agent.now c.args.self.now.state.now c.args.self.now.stepless c.args.higher c.requires.agent.programs.guarded c.args.prog.now _ _ (two_same prog.Choice c.in-Choice.is c.get-in-Choice.ensures c.get-in-Choice-2.ensures)) c.either_weighs.ensures

pub some_weighs-either_weighs-requires-in-If : goal.some_weighs-either_weighs-requires-in-If
some_weighs-either_weighs-requires-in-If t c =
    let parts = both_down (branches (if_parts c.requires.closed (two_same (prog.If c.in-If.cond) c.in-If.is c.get-in-If.ensures c.get-in-If-2.ensures))) in
    search rules

pub some_weighs-returns-in-If : goal.some_weighs-returns-in-If
some_weighs-returns-in-If t c =
    ok_as c.either_weighs-in-If.result _ _ (if_weighs c.args.self.now.agent.now c.args.self.now.state.now c.args.self.now.stepless c.args.higher c.requires.agent.programs.guarded c.args.prog.now c.in-If.cond _ _ (two_same (prog.If c.in-If.cond) c.in-If.is c.get-in-If.ensures c.get-in-If-2.ensures)) c.either_weighs-in-If.ensures

pub some_weighs-either_weighs-requires-in-Conc : goal.some_weighs-either_weighs-requires-in-Conc
some_weighs-either_weighs-requires-in-Conc t c =
    let parts = both_down (conc_parts c.requires.closed (two_same prog.Conc c.in-Conc.is c.get-in-Conc.ensures c.get-in-Conc-2.ensures)) in
    search rules

pub some_weighs-returns-in-Conc : goal.some_weighs-returns-in-Conc
some_weighs-returns-in-Conc t c =
    ok_as c.either_weighs-in-Conc.result _ _ (conc_weighs c.args.self.now.agent.now c.args.self.now.state.now c.args.self.now.stepless c.args.higher c.requires.agent.programs.guarded c.args.prog.now _ _ (two_same prog.Conc c.in-Conc.is c.get-in-Conc.ensures c.get-in-Conc-2.ensures)) c.either_weighs-in-Conc.ensures

pub some_weighs-weighs_in_prio-requires : goal.some_weighs-weighs_in_prio-requires
some_weighs-weighs_in_prio-requires t c =
    let parts = both_down (prio_parts c.requires.closed (two_same prog.Prio c.in-Prio.is c.get-in-Prio.ensures c.get-in-Prio-2.ensures)) in
    search rules

pub some_weighs-returns-in-Prio : goal.some_weighs-returns-in-Prio
some_weighs-returns-in-Prio t c =
    ok_as c.weighs_in_prio.result _ _ (prio_weighs c.args.self.now.agent.now c.args.self.now.state.now c.args.self.now.stepless c.args.higher c.requires.agent.programs.guarded c.args.prog.now _ _ (two_same prog.Prio c.in-Prio.is c.get-in-Prio.ensures c.get-in-Prio-2.ensures)) c.weighs_in_prio.ensures

pub some_weighs-some_weighs-requires : goal.some_weighs-some_weighs-requires
some_weighs-some_weighs-requires t c =
    let part = down (star_part c.requires.closed (one_same prog.Star c.in-Star.is c.get-in-Star.ensures)) in
    search rules

pub some_weighs-returns-in-Star : goal.some_weighs-returns-in-Star
some_weighs-returns-in-Star t c =
    ok_as c.some_weighs.result _ _ (star_weighs c.args.self.now.agent.now c.args.self.now.state.now c.args.self.now.stepless c.args.higher c.requires.agent.programs.guarded c.args.prog.now _ (one_same prog.Star c.in-Star.is c.get-in-Star.ensures)) c.some_weighs.ensures

pub some_weighs-some_weighs-requires-in-Cstar : goal.some_weighs-some_weighs-requires-in-Cstar
some_weighs-some_weighs-requires-in-Cstar t c =
    let part = down (cstar_part c.requires.closed (one_same prog.Cstar c.in-Cstar.is c.get-in-Cstar.ensures)) in
    search rules

pub some_weighs-returns-in-Cstar : goal.some_weighs-returns-in-Cstar
some_weighs-returns-in-Cstar t c =
    ok_as c.some_weighs-in-Cstar.result _ _ (cstar_weighs c.args.self.now.agent.now c.args.self.now.state.now c.args.self.now.stepless c.args.higher c.requires.agent.programs.guarded c.args.prog.now _ (one_same prog.Cstar c.in-Cstar.is c.get-in-Cstar.ensures)) c.some_weighs-in-Cstar.ensures

pub some_weighs-some_weighs-requires-in-While : goal.some_weighs-some_weighs-requires-in-While
some_weighs-some_weighs-requires-in-While t c =
    let part = down ((while_parts c.requires.closed (one_same (prog.While c.in-While.cond) c.in-While.is c.get-in-While.ensures)).body) in
    search rules

pub some_weighs-returns-in-While : goal.some_weighs-returns-in-While
some_weighs-returns-in-While t c =
    ok_as c.some_weighs-in-While.result _ _ (while_weighs c.args.self.now.agent.now c.args.self.now.state.now c.args.self.now.stepless c.args.higher c.requires.agent.programs.guarded c.args.prog.now c.in-While.cond _ (one_same (prog.While c.in-While.cond) c.in-While.is c.get-in-While.ensures)) c.some_weighs-in-While.ensures

pub some_weighs-weighs_in_pick-requires : goal.some_weighs-weighs_in_pick-requires
some_weighs-weighs_in_pick-requires t c =
    let handed = whole (one_same (prog.Pick c.in-Pick.var c.in-Pick.sort) c.in-Pick.is c.get-in-Pick.ensures) c.requires.closed in
    search rules

pub some_weighs-returns-in-Pick : goal.some_weighs-returns-in-Pick
some_weighs-returns-in-Pick t c =
    ok_as c.weighs_in_pick.result _ _ (ap (some_weighs c.args.self.now.agent.now c.args.self.now.state.now c.args.self.now.stepless c.args.higher) (sym (one_same (prog.Pick c.in-Pick.var c.in-Pick.sort) c.in-Pick.is c.get-in-Pick.ensures))) c.weighs_in_pick.ensures

pub some_weighs-weighs_in_call-requires : goal.some_weighs-weighs_in_call-requires
some_weighs-weighs_in_call-requires t c =
    let handed = whole (c.in-Call.is ∙ ap (prog.Call c.in-Call.item) (sym c.as_slice.ensures)) c.requires.closed in
    search rules

pub some_weighs-returns-in-Call : goal.some_weighs-returns-in-Call
some_weighs-returns-in-Call t c =
    ok_as c.weighs_in_call.result _ _ (ap (some_weighs c.args.self.now.agent.now c.args.self.now.state.now c.args.self.now.stepless c.args.higher) (sym (c.in-Call.is ∙ ap (prog.Call c.in-Call.item) (sym c.as_slice.ensures)))) c.weighs_in_call.ensures

pub some_weighs-search_weighs-requires-clause-searched : goal.some_weighs-search_weighs-requires-clause-searched
some_weighs-search_weighs-requires-clause-searched t c =
    let a = c.get-in-Search.result.now in
    let e = one_same (prog.Search c.in-Search.depth c.in-Search.fuel) c.in-Search.is c.get-in-Search.ensures in
    search_body c.args.self.now.agent.now c.args.self.now.state.now c.requires.sorts c.args.prog.now a c.in-Search.depth c.in-Search.fuel c.requires.closed e

pub some_weighs-returns-in-Search : goal.some_weighs-returns-in-Search
some_weighs-returns-in-Search t c =
    let a = c.get-in-Search.result.now in
    let e = one_same (prog.Search c.in-Search.depth c.in-Search.fuel) c.in-Search.is c.get-in-Search.ensures in
    ok_as c.search_weighs.result _ _ (search_weighs c.args.self.now.agent.now c.args.self.now.state.now c.args.self.now.stepless c.args.higher c.requires.agent.programs.guarded c.args.prog.now a c.in-Search.depth c.in-Search.fuel e) c.search_weighs.ensures

pub some_weighs-follow_weighs-requires-clause-searched : goal.some_weighs-follow_weighs-requires-clause-searched
some_weighs-follow_weighs-requires-clause-searched t c =
    let a = c.get-body.result.now in
    let e = one_same (λ (z : Prog). prog.Follow c.in-Follow.depth c.in-Follow.fuel z c.in-Follow.rest) c.in-Follow.is c.get-body.ensures in
    follow_body c.args.self.now.agent.now c.args.self.now.state.now c.requires.sorts c.args.prog.now a c.in-Follow.depth c.in-Follow.fuel c.in-Follow.rest c.requires.closed e

pub some_weighs-returns-in-Follow : goal.some_weighs-returns-in-Follow
some_weighs-returns-in-Follow t c =
    let a = c.get-body.result.now in
    let rest = c.as_slice-rest.result.now in
    let same = one_same (λ (z : Prog). prog.Follow c.in-Follow.depth c.in-Follow.fuel z c.in-Follow.rest) c.in-Follow.is c.get-body.ensures in
    let e = same ∙ ap (prog.Follow c.in-Follow.depth c.in-Follow.fuel a) (sym c.as_slice-rest.ensures) in
    ok_as c.follow_weighs.result _ _ (follow_weighs c.args.self.now.agent.now c.args.self.now.state.now c.args.self.now.stepless c.args.higher c.requires.agent.programs.guarded c.args.prog.now a c.in-Follow.depth c.in-Follow.fuel rest e) c.follow_weighs.ensures

pub either_weighs-some_weighs-requires : goal.either_weighs-some_weighs-requires
either_weighs-some_weighs-requires t c =
    let closed = c.requires.one in
    let low : 1 + 3 * (front c.args.self.now.agent.now c.args.one.now).height < 2 + 3 * max (front c.args.self.now.agent.now c.args.one.now).height (front c.args.self.now.agent.now c.args.other.now).height = omega arith in
    search rules

pub either_weighs-some_weighs-requires-else-branch : goal.either_weighs-some_weighs-requires-else-branch
either_weighs-some_weighs-requires-else-branch t c =
    let closed = c.requires.other in
    let low : 1 + 3 * (front c.args.self.now.agent.now c.args.other.now).height < 2 + 3 * max (front c.args.self.now.agent.now c.args.one.now).height (front c.args.self.now.agent.now c.args.other.now).height = omega arith in
    search rules

pub weighs_in_prio-some_weighs-requires : goal.weighs_in_prio-some_weighs-requires
weighs_in_prio-some_weighs-requires t c =
    let closed = c.requires.high in
    let low : 1 + 3 * (front c.args.self.now.agent.now c.args.high.now).height < 2 + 3 * max (front c.args.self.now.agent.now c.args.high.now).height (front c.args.self.now.agent.now c.args.low.now).height = omega arith in
    search rules

pub weighs_in_prio-some_weighs-requires-else-branch : goal.weighs_in_prio-some_weighs-requires-else-branch
weighs_in_prio-some_weighs-requires-else-branch t c =
    let closed = c.requires.low in
    let low : 1 + 3 * (front c.args.self.now.agent.now c.args.low.now).height < 2 + 3 * max (front c.args.self.now.agent.now c.args.high.now).height (front c.args.self.now.agent.now c.args.low.now).height = omega arith in
    search rules

pub weighs_in_seq-either_weighs-requires : goal.weighs_in_seq-either_weighs-requires
weighs_in_seq-either_weighs-requires t c =
    let skip : (front c.args.self.now.agent.now c.args.one.now).skip ≡ true = sym c.may_skip.ensures ∙ c.if-may_skip.true in
    let parts = both_down (skipped skip (seq_parts c.requires.closed refl)) in
    search rules

pub weighs_in_seq-some_weighs-requires : goal.weighs_in_seq-some_weighs-requires
weighs_in_seq-some_weighs-requires t c =
    let part = down ((seq_parts c.requires.closed refl).one) in
    search rules

pub weighs_in_seq-returns-then-may_skip : goal.weighs_in_seq-returns-then-may_skip
weighs_in_seq-returns-then-may_skip t c =
    ok_as c.either_weighs.result _ _ (seq_weighs c.args.self.now.agent.now c.args.self.now.state.now c.args.self.now.stepless c.args.higher c.requires.agent.programs.guarded c.args.one.now c.args.other.now (sym c.may_skip.ensures ∙ c.if-may_skip.true)) c.either_weighs.ensures

pub weighs_in_seq-returns-else-may_skip : goal.weighs_in_seq-returns-else-may_skip
weighs_in_seq-returns-else-may_skip t c =
    ok_as c.some_weighs.result _ _ (seq_first c.args.self.now.agent.now c.args.self.now.state.now c.args.self.now.stepless c.args.higher c.requires.agent.programs.guarded c.args.one.now c.args.other.now (sym c.may_skip.ensures ∙ c.if-may_skip.false)) c.some_weighs.ensures

pub weighs_in-some_weighs-weighs-requires : goal.weighs_in-some_weighs-weighs-requires
weighs_in-some_weighs-weighs-requires t c =
    let low : 1 + 3 * (front c.args.self.now.agent.now c.args.prog).height < 2 + 3 * (front c.args.self.now.agent.now c.args.prog).height = omega arith in
    search rules

pub weighs_in_pick-loop-constant-init : goal.weighs_in_pick-loop-constant-init
weighs_in_pick-loop-constant-init t c =
    none_yet c.args.self.now.agent.now c.args.self.now.state.now c.args.self.now.stepless c.args.higher c.args.var c.args.sort c.args.body.now

pub weighs_in_pick-weighs_in-requires : goal.weighs_in_pick-weighs_in-requires
weighs_in_pick-weighs_in-requires t c =
    let below : c.loop-constant.constant < sort_size c.args.self.now.agent.now c.args.sort = omega arith in
    let part = down (part_as c.in_ok-put.ensures (pick_part _ _ _ _ _ c.requires.closed refl c.loop-constant.constant below)) in
    search rules

pub weighs_in_pick-loop-constant-preserved : goal.weighs_in_pick-loop-constant-preserved
weighs_in_pick-loop-constant-preserved t c =
    let constant = c.loop-constant.constant in
    let below : constant < sort_size c.args.self.now.agent.now c.args.sort = omega arith in
    let none : some_weighs c.args.self.now.agent.now c.args.self.now.state.now c.args.self.now.stepless c.args.higher (put_arg c.args.body.now c.args.var constant) ≡ false =
    ap (some_weighs c.args.self.now.agent.now c.args.self.now.state.now c.args.self.now.stepless c.args.higher) (sym c.in_ok-put.ensures) ∙ sym c.in_ok-weighs_in.ensures ∙ c.if-branch.false in
    none_more c.args.self.now.agent.now c.args.self.now.state.now c.args.self.now.stepless c.args.higher c.args.var c.args.sort c.args.body.now constant below none c.loop-constant.invariant

pub weighs_in_pick-returns-then-branch : goal.weighs_in_pick-returns-then-branch
weighs_in_pick-returns-then-branch t c =
    let constant = c.loop-constant.constant in
    let below : constant < sort_size c.args.self.now.agent.now c.args.sort = omega arith in
    let some : some_weighs c.args.self.now.agent.now c.args.self.now.state.now c.args.self.now.stepless c.args.higher (put_arg c.args.body.now c.args.var constant) ≡ true =
    ap (some_weighs c.args.self.now.agent.now c.args.self.now.state.now c.args.self.now.stepless c.args.higher) (sym c.in_ok-put.ensures) ∙ sym c.in_ok-weighs_in.ensures ∙ c.if-branch.true in
    pick_weighs c.args.self.now.agent.now c.args.self.now.state.now c.args.self.now.stepless c.args.higher c.requires.agent.programs.guarded c.args.var c.args.sort c.args.body.now constant below some c.loop-constant.invariant

pub weighs_in_pick-returns : goal.weighs_in_pick-returns
weighs_in_pick-returns t c =
    pick_none c.args.self.now.agent.now c.args.self.now.state.now c.args.self.now.stepless c.args.higher c.requires.agent.programs.guarded c.args.var c.args.sort c.args.body.now c.loop-constant.constant (omega arith) c.loop-constant.invariant

pub weighs_in_call-body_of-requires : goal.weighs_in_call-body_of-requires
weighs_in_call-body_of-requires t c =
    call_few c.args.self.now.agent.now (well_formed_fits c.args.self.now.agent.now c.requires.agent) (prog.Call c.args.item c.args.args.now) c.args.item c.args.args.now c.requires.closed refl

pub weighs_in_call-weighs_in-requires : goal.weighs_in_call-weighs_in-requires
weighs_in_call-weighs_in-requires t c =
    let part = down (part_as c.in_ok-body.ensures (call_part _ (well_formed_fits c.args.self.now.agent.now c.requires.agent) _ _ _ c.requires.closed refl)) in
    search rules

pub weighs_in_call-returns : goal.weighs_in_call-returns
weighs_in_call-returns t c =
    ok_as c.weighs_in.result _ _ (ap (some_weighs c.args.self.now.agent.now c.args.self.now.state.now c.args.self.now.stepless c.args.higher) c.in_ok-body.ensures ∙ call_weighs c.args.self.now.agent.now c.args.self.now.state.now c.args.self.now.stepless c.args.higher c.requires.agent.programs.guarded c.args.item c.args.args.now) c.weighs_in.ensures
