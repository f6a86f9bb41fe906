use Rattle.std.proofs.Common.{◌≡◌, ◌+◌, ◌*◌, ◌<◌, max, true, false, refl, sym, ap, ◌∙◌, rules, arith}
use Rattle.golog_tree.specs.declared.prog.Prog.{Prog}
use Rattle.golog_tree.specs.declared.prog.Prog.TheVariants as prog
use Rattle.golog_tree.specs.Ground.{sort_size}
use Rattle.golog_semantics.specs.Guarded.{front}
use Rattle.golog_fronts.proofs.Closing.{choice_parts, conc_parts, prio_parts, seq_parts, star_part, cstar_part, if_parts, while_parts, pick_part, call_part, call_few, both_down, branches, skipped, down, part_as, whole}
use Rattle.golog_fronts.proofs.Moved.{one_same, two_same}
use Rattle.golog_fronts.proofs.WellFormedFits.{well_formed_fits}
use Rattle.golog_search.proofs.InBlocks.{search_body, follow_body}
use Rattle.golog_trace.specs.Wanted.{blocks_text}
use Rattle.golog_trace.proofs.BlocksTold.{added_as, both_as, behind, nil_told, act_told, test_told, star_told, cstar_told, while_told, call_told, choice_told, if_told, conc_told, prio_told, seq_told, seq_first, search_told, follow_told, told_more, pick_told}
use Rattle.golog_trace.proofs.blocks.Scene.+adding.Goals as goal

pub add-returns-in-Nil : goal.add-returns-in-Nil
add-returns-in-Nil t c =
    nil_told c.args.self.now.agent.now c.args.self.now.state.now c.args.higher c.requires.agent.programs.guarded c.args.text.now c.args.prog.now c.in-Nil.is

pub add-returns-in-Act : goal.add-returns-in-Act
add-returns-in-Act t c =
    act_told c.args.self.now.agent.now c.args.self.now.state.now c.args.higher c.requires.agent.programs.guarded c.args.text.now c.args.prog.now c.in-Act.action c.in-Act.args c.in-Act.is

pub add-returns-in-Test : goal.add-returns-in-Test
add-returns-in-Test t c =
    test_told c.args.self.now.agent.now c.args.self.now.state.now c.args.higher c.requires.agent.programs.guarded c.args.text.now c.args.prog.now c.in-Test.field-0 c.in-Test.is

pub add-add_in_seq-requires : goal.add-add_in_seq-requires
add-add_in_seq-requires t c =
    let handed = whole (two_same prog.Seq c.in-Seq.is c.get.ensures c.get-in-Seq.ensures) c.requires.closed in
    search rules

pub add-returns-in-Seq : goal.add-returns-in-Seq
add-returns-in-Seq t c =
    added_as c.add_in_seq.result c.args.text.now c.add_in_seq.new.text _ _ (ap (blocks_text c.args.self.now.agent.now c.args.self.now.state.now c.args.higher) (sym (two_same prog.Seq c.in-Seq.is c.get.ensures c.get-in-Seq.ensures))) c.add_in_seq.ensures

pub add-add_both-requires : goal.add-add_both-requires
add-add_both-requires t c =
    let parts = both_down (choice_parts c.requires.closed (two_same prog.Choice c.in-Choice.is c.get-in-Choice.ensures c.get-in-Choice-2.ensures)) in
    search rules

pub add-returns-in-Choice : goal.add-returns-in-Choice
add-returns-in-Choice t c =
    both_as c.add_both.result c.args.text.now c.add_both.new.text _ _ _ (choice_told c.args.self.now.agent.now c.args.self.now.state.now c.args.higher c.requires.agent.programs.guarded c.args.prog.now _ _ (two_same prog.Choice c.in-Choice.is c.get-in-Choice.ensures c.get-in-Choice-2.ensures)) c.add_both.ensures

pub add-add_both-requires-in-If : goal.add-add_both-requires-in-If
add-add_both-requires-in-If t c =
    let parts = both_down (branches (if_parts c.requires.closed (two_same (prog.If c.in-If.cond) c.in-If.is c.get-in-If.ensures c.get-in-If-2.ensures))) in
    search rules

pub add-returns-in-If : goal.add-returns-in-If
add-returns-in-If t c =
    both_as c.add_both-in-If.result c.args.text.now c.add_both-in-If.new.text _ _ _ (if_told c.args.self.now.agent.now c.args.self.now.state.now c.args.higher c.requires.agent.programs.guarded c.args.prog.now c.in-If.cond _ _ (two_same (prog.If c.in-If.cond) c.in-If.is c.get-in-If.ensures c.get-in-If-2.ensures)) c.add_both-in-If.ensures

pub add-add_both-requires-in-Conc : goal.add-add_both-requires-in-Conc
add-add_both-requires-in-Conc t c =
    let parts = both_down (conc_parts c.requires.closed (two_same prog.Conc c.in-Conc.is c.get-in-Conc.ensures c.get-in-Conc-2.ensures)) in
    search rules

pub add-returns-in-Conc : goal.add-returns-in-Conc
add-returns-in-Conc t c =
    both_as c.add_both-in-Conc.result c.args.text.now c.add_both-in-Conc.new.text _ _ _ (conc_told c.args.self.now.agent.now c.args.self.now.state.now c.args.higher c.requires.agent.programs.guarded c.args.prog.now _ _ (two_same prog.Conc c.in-Conc.is c.get-in-Conc.ensures c.get-in-Conc-2.ensures)) c.add_both-in-Conc.ensures

pub add-add_in_prio-requires : goal.add-add_in_prio-requires
add-add_in_prio-requires t c =
    let parts = both_down (prio_parts c.requires.closed (two_same prog.Prio c.in-Prio.is c.get-in-Prio.ensures c.get-in-Prio-2.ensures)) in
    search rules

pub add-returns-in-Prio : goal.add-returns-in-Prio
add-returns-in-Prio t c =
    both_as c.add_in_prio.result c.args.text.now c.add_in_prio.new.text _ _ _ (prio_told c.args.self.now.agent.now c.args.self.now.state.now c.args.higher c.requires.agent.programs.guarded c.args.prog.now _ _ (two_same prog.Prio c.in-Prio.is c.get-in-Prio.ensures c.get-in-Prio-2.ensures)) c.add_in_prio.ensures

pub add-add-requires : goal.add-add-requires
add-add-requires t c =
    let part = down (star_part c.requires.closed (one_same prog.Star c.in-Star.is c.get-in-Star.ensures)) in
    search rules

pub add-returns-in-Star : goal.add-returns-in-Star
add-returns-in-Star t c =
    added_as c.add.result c.args.text.now c.add.new.text _ _ (star_told c.args.self.now.agent.now c.args.self.now.state.now c.args.higher c.requires.agent.programs.guarded c.args.prog.now _ (one_same prog.Star c.in-Star.is c.get-in-Star.ensures)) c.add.ensures

pub add-add-requires-in-Cstar : goal.add-add-requires-in-Cstar
add-add-requires-in-Cstar t c =
    let part = down (cstar_part c.requires.closed (one_same prog.Cstar c.in-Cstar.is c.get-in-Cstar.ensures)) in
    search rules

pub add-returns-in-Cstar : goal.add-returns-in-Cstar
add-returns-in-Cstar t c =
    added_as c.add-in-Cstar.result c.args.text.now c.add-in-Cstar.new.text _ _ (cstar_told c.args.self.now.agent.now c.args.self.now.state.now c.args.higher c.requires.agent.programs.guarded c.args.prog.now _ (one_same prog.Cstar c.in-Cstar.is c.get-in-Cstar.ensures)) c.add-in-Cstar.ensures

pub add-add-requires-in-While : goal.add-add-requires-in-While
add-add-requires-in-While t c =
    let part = down ((while_parts c.requires.closed (one_same (prog.While c.in-While.cond) c.in-While.is c.get-in-While.ensures)).body) in
    search rules

pub add-returns-in-While : goal.add-returns-in-While
add-returns-in-While t c =
    added_as c.add-in-While.result c.args.text.now c.add-in-While.new.text _ _ (while_told c.args.self.now.agent.now c.args.self.now.state.now c.args.higher c.requires.agent.programs.guarded c.args.prog.now c.in-While.cond _ (one_same (prog.While c.in-While.cond) c.in-While.is c.get-in-While.ensures)) c.add-in-While.ensures

pub add-add_in_pick-requires : goal.add-add_in_pick-requires
add-add_in_pick-requires t c =
    let handed = whole (one_same (prog.Pick c.in-Pick.var c.in-Pick.sort) c.in-Pick.is c.get-in-Pick.ensures) c.requires.closed in
    search rules

pub add-returns-in-Pick : goal.add-returns-in-Pick
add-returns-in-Pick t c =
    added_as c.add_in_pick.result c.args.text.now c.add_in_pick.new.text _ _ (ap (blocks_text c.args.self.now.agent.now c.args.self.now.state.now c.args.higher) (sym (one_same (prog.Pick c.in-Pick.var c.in-Pick.sort) c.in-Pick.is c.get-in-Pick.ensures))) c.add_in_pick.ensures

pub add-add_in_call-requires : goal.add-add_in_call-requires
add-add_in_call-requires t c =
    let handed = whole (c.in-Call.is ∙ ap (prog.Call c.in-Call.item) (sym c.as_slice.ensures)) c.requires.closed in
    search rules

pub add-returns-in-Call : goal.add-returns-in-Call
add-returns-in-Call t c =
    added_as c.add_in_call.result c.args.text.now c.add_in_call.new.text _ _ (ap (blocks_text c.args.self.now.agent.now c.args.self.now.state.now c.args.higher) (sym (c.in-Call.is ∙ ap (prog.Call c.in-Call.item) (sym c.as_slice.ensures)))) c.add_in_call.ensures

pub add-add_search-requires-clause-searched : goal.add-add_search-requires-clause-searched
add-add_search-requires-clause-searched t c =
    let a = c.get-in-Search.result.now in
    let e = one_same (prog.Search c.in-Search.depth c.in-Search.fuel) c.in-Search.is c.get-in-Search.ensures in
    search_body c.args.self.now.agent.now c.args.self.now.state.now c.requires.sorts c.args.prog.now a c.in-Search.depth c.in-Search.fuel c.requires.closed e

pub add-returns-in-Search : goal.add-returns-in-Search
add-returns-in-Search t c =
    let a = c.get-in-Search.result.now in
    let e = one_same (prog.Search c.in-Search.depth c.in-Search.fuel) c.in-Search.is c.get-in-Search.ensures in
    added_as c.add_search.result c.args.text.now c.add_search.new.text _ _ (search_told c.args.self.now.agent.now c.args.self.now.state.now c.args.higher c.requires.agent.programs.guarded c.args.prog.now a c.in-Search.depth c.in-Search.fuel e) c.add_search.ensures

pub add-add_follow-requires-clause-searched : goal.add-add_follow-requires-clause-searched
add-add_follow-requires-clause-searched t c =
    let a = c.get-body.result.now in
    let e = one_same (λ (z : Prog). prog.Follow c.in-Follow.depth c.in-Follow.fuel z c.in-Follow.rest) c.in-Follow.is c.get-body.ensures in
    follow_body c.args.self.now.agent.now c.args.self.now.state.now c.requires.sorts c.args.prog.now a c.in-Follow.depth c.in-Follow.fuel c.in-Follow.rest c.requires.closed e

pub add-returns-in-Follow : goal.add-returns-in-Follow
add-returns-in-Follow t c =
    let a = c.get-body.result.now in
    let rest = c.as_slice-rest.result.now in
    let same = one_same (λ (z : Prog). prog.Follow c.in-Follow.depth c.in-Follow.fuel z c.in-Follow.rest) c.in-Follow.is c.get-body.ensures in
    let e = same ∙ ap (prog.Follow c.in-Follow.depth c.in-Follow.fuel a) (sym c.as_slice-rest.ensures) in
    added_as c.add_follow.result c.args.text.now c.add_follow.new.text _ _ (follow_told c.args.self.now.agent.now c.args.self.now.state.now c.args.higher c.requires.agent.programs.guarded c.args.prog.now a c.in-Follow.depth c.in-Follow.fuel rest e) c.add_follow.ensures

pub add_both-add-requires : goal.add_both-add-requires
add_both-add-requires t c =
    let closed = c.requires.one in
    let low : 1 + 3 * (front c.args.self.now.agent.now c.args.one.now).height < 2 + 3 * max (front c.args.self.now.agent.now c.args.one.now).height (front c.args.self.now.agent.now c.args.other.now).height = omega arith in
    search rules

pub add_both-add-requires-2 : goal.add_both-add-requires-2
add_both-add-requires-2 t c =
    let closed = c.requires.other in
    let low : 1 + 3 * (front c.args.self.now.agent.now c.args.other.now).height < 2 + 3 * max (front c.args.self.now.agent.now c.args.one.now).height (front c.args.self.now.agent.now c.args.other.now).height = omega arith in
    search rules

pub add_both-returns : goal.add_both-returns
add_both-returns t c =
    behind c.add-2.result c.args.text.now c.add.new.text c.add-2.new.text _ _ c.in_ok-add.ensures c.add-2.ensures

pub add_in_prio-add-requires : goal.add_in_prio-add-requires
add_in_prio-add-requires t c =
    let closed = c.requires.high in
    let low : 1 + 3 * (front c.args.self.now.agent.now c.args.high.now).height < 2 + 3 * max (front c.args.self.now.agent.now c.args.high.now).height (front c.args.self.now.agent.now c.args.low.now).height = omega arith in
    search rules

pub add_in_prio-add-requires-2 : goal.add_in_prio-add-requires-2
add_in_prio-add-requires-2 t c =
    let closed = c.requires.low in
    let low : 1 + 3 * (front c.args.self.now.agent.now c.args.low.now).height < 2 + 3 * max (front c.args.self.now.agent.now c.args.high.now).height (front c.args.self.now.agent.now c.args.low.now).height = omega arith in
    search rules

pub add_in_prio-returns : goal.add_in_prio-returns
add_in_prio-returns t c =
    behind c.add-2.result c.args.text.now c.add.new.text c.add-2.new.text _ _ c.in_ok-add.ensures c.add-2.ensures

pub add_in_seq-add_both-requires : goal.add_in_seq-add_both-requires
add_in_seq-add_both-requires t c =
    let skip : (front c.args.self.now.agent.now c.args.one.now).skip ≡ true = sym c.may_skip.ensures ∙ c.if-may_skip.true in
    let parts = both_down (skipped skip (seq_parts c.requires.closed refl)) in
    search rules

pub add_in_seq-add-requires : goal.add_in_seq-add-requires
add_in_seq-add-requires t c =
    let part = down ((seq_parts c.requires.closed refl).one) in
    search rules

pub add_in_seq-returns-then-may_skip : goal.add_in_seq-returns-then-may_skip
add_in_seq-returns-then-may_skip t c =
    both_as c.add_both.result c.args.text.now c.add_both.new.text _ _ _ (seq_told c.args.self.now.agent.now c.args.self.now.state.now c.args.higher c.requires.agent.programs.guarded c.args.one.now c.args.other.now (sym c.may_skip.ensures ∙ c.if-may_skip.true)) c.add_both.ensures

pub add_in_seq-returns-else-may_skip : goal.add_in_seq-returns-else-may_skip
add_in_seq-returns-else-may_skip t c =
    added_as c.add.result c.args.text.now c.add.new.text _ _ (seq_first c.args.self.now.agent.now c.args.self.now.state.now c.args.higher c.requires.agent.programs.guarded c.args.one.now c.args.other.now (sym c.may_skip.ensures ∙ c.if-may_skip.false)) c.add.ensures

pub add_put-add-added-requires : goal.add_put-add-added-requires
add_put-add-added-requires t c =
    let low : 1 + 3 * (front c.args.self.now.agent.now c.args.prog).height < 2 + 3 * (front c.args.self.now.agent.now c.args.prog).height = omega arith in
    search rules

pub add_in_pick-add_put-requires : goal.add_in_pick-add_put-requires
add_in_pick-add_put-requires t c =
    let below : c.loop-constant.constant < sort_size c.args.self.now.agent.now c.args.sort = omega arith in
    let part = down (part_as c.in_ok-put.ensures (pick_part _ _ _ _ _ c.requires.closed refl c.loop-constant.constant below)) in
    search rules

pub add_in_pick-loop-constant-preserved : goal.add_in_pick-loop-constant-preserved
add_in_pick-loop-constant-preserved t c =
    let constant = c.loop-constant.constant in
    let below : constant < sort_size c.args.self.now.agent.now c.args.sort = omega arith in
    told_more c.args.self.now.agent.now c.args.self.now.state.now c.args.higher c.args.var c.args.sort c.args.body.now constant c.loop-constant.text c.add_put.new.text _ _ below (ap (blocks_text c.args.self.now.agent.now c.args.self.now.state.now c.args.higher) c.in_ok-put.ensures) c.loop-constant.invariant c.in_ok-add_put.ensures

pub add_in_pick-returns : goal.add_in_pick-returns
add_in_pick-returns t c =
    pick_told c.args.self.now.agent.now c.args.self.now.state.now c.args.higher c.requires.agent.programs.guarded c.args.var c.args.sort c.args.body.now c.loop-constant.constant c.args.text.now c.loop-constant.text (omega arith) c.loop-constant.invariant

pub add_in_call-body_of-requires : goal.add_in_call-body_of-requires
add_in_call-body_of-requires t c =
    call_few c.args.self.now.agent.now (well_formed_fits c.args.self.now.agent.now c.requires.agent) (prog.Call c.args.item c.args.args.now) c.args.item c.args.args.now c.requires.closed refl

pub add_in_call-add_put-requires : goal.add_in_call-add_put-requires
add_in_call-add_put-requires t c =
    let part = down (part_as c.in_ok-body.ensures (call_part _ (well_formed_fits c.args.self.now.agent.now c.requires.agent) _ _ _ c.requires.closed refl)) in
    search rules

pub add_in_call-returns : goal.add_in_call-returns
add_in_call-returns t c =
    added_as c.add_put.result c.args.text.now c.add_put.new.text _ _ (ap (blocks_text c.args.self.now.agent.now c.args.self.now.state.now c.args.higher) c.in_ok-body.ensures ∙ call_told c.args.self.now.agent.now c.args.self.now.state.now c.args.higher c.requires.agent.programs.guarded c.args.item c.args.args.now) c.add_put.ensures
