use Rattle.std.proofs.Common.{◌+◌, ◌*◌, ◌<◌, max, IfOk, List, [], ◌∷◌, ◌++◌, map, refl, sym, ap, ◌∙◌, subst, rules, arith}
use Rattle.golog_tree.specs.declared.cond.Cond.TheVariants as cond
use Rattle.golog_tree.specs.declared.prog.Label.TheVariants.{Quiet}
use Rattle.golog_tree.specs.declared.prog.Prog.{Prog}
use Rattle.golog_tree.specs.declared.prog.Prog.TheVariants as prog
use Rattle.golog_tree.specs.Ground.{sort_size}
use Rattle.golog_tree.specs.Tidy.{tidy_seq, tidy_conc, tidy_prio}
use Rattle.golog_semantics.specs.Guarded.{front}
use Rattle.golog_semantics.specs.Program.{body_of}
use Rattle.golog_fronts.specs.declared.front_lists.Front.{Front}
use Rattle.golog_fronts.specs.FrontLists.{AreClosedFronts, front_in, front_where, last_front, none_open}
use Rattle.golog_fronts.proofs.Closing.{choice_parts, conc_parts, prio_parts, seq_parts, star_part, cstar_part, if_parts, test_fits, while_parts, pick_part, call_part, call_few, both_down, branches, skipped, down, part_as, whole}
use Rattle.golog_fronts.proofs.Opened.{FrontsSoFar, both_given, call_fronts, choice_fronts, conc_fronts, cstar_fronts, follow_fronts, fronts_as, fronts_give, fronts_given_as, fronts_too, if_fronts, more_fronts, nil_fronts, no_fronts, pick_fronts, prio_fronts, search_fronts, seq_fronts_barred, star_fronts, test_fronts, while_fronts}
use Rattle.golog_fronts.proofs.Moved.{one_same, two_same, closed_as}
use Rattle.golog_fronts.proofs.here.Fit.+opening.Goals as goal

pub fronts_of-returns-in-Nil : goal.fronts_of-returns-in-Nil
fronts_of-returns-in-Nil t c =
    fronts_as c.args.self.now.agent.now c.args.prog.now prog.Nil c.in-Nil.is c.new.result [] c.new.ensures (nil_fronts c.args.self.now.agent.now c.args.self.now.fit.guarded)

pub fronts_of-act_front-requires-clause-closed : goal.fronts_of-act_front-requires-clause-closed
fronts_of-act_front-requires-clause-closed t c =
    closed_as (c.in-Act.is ∙ ap (prog.Act c.in-Act.action) (sym c.as_slice.ensures)) c.requires

pub fronts_of-returns-in-Act : goal.fronts_of-returns-in-Act
fronts_of-returns-in-Act t c =
    fronts_given_as c.args.self.now.agent.now _ _ (c.in-Act.is ∙ ap (prog.Act c.in-Act.action) (sym c.as_slice.ensures)) c.act_front.result c.act_front.ensures

pub fronts_of-returns-in-Test : goal.fronts_of-returns-in-Test
fronts_of-returns-in-Test t c =
    fronts_give c.args.self.now.agent.now c.args.prog.now (last_front c.in-Test.cond Quiet ∷ []) c.test_front.result c.test_front.ensures
    (fronts_as c.args.self.now.agent.now c.args.prog.now (prog.Test c.in-Test.cond) c.in-Test.is (last_front c.in-Test.cond Quiet ∷ []) (last_front c.in-Test.cond Quiet ∷ []) refl (test_fronts c.args.self.now.agent.now c.args.self.now.fit.guarded c.in-Test.cond (test_fits _ _ _ c.requires c.in-Test.is)))

pub fronts_of-fronts_of_conc-requires : goal.fronts_of-fronts_of_conc-requires
fronts_of-fronts_of_conc-requires t c =
    let handed = whole (two_same prog.Conc c.in-Conc.is c.get-in-Conc.ensures c.get-in-Conc-2.ensures) c.requires in
    search rules

pub fronts_of-returns-in-Conc : goal.fronts_of-returns-in-Conc
fronts_of-returns-in-Conc t c =
    fronts_given_as c.args.self.now.agent.now _ _ (two_same prog.Conc c.in-Conc.is c.get-in-Conc.ensures c.get-in-Conc-2.ensures) c.fronts_of_conc.result c.fronts_of_conc.ensures

pub fronts_of-fronts_of_prio-requires : goal.fronts_of-fronts_of_prio-requires
fronts_of-fronts_of_prio-requires t c =
    let handed = whole (two_same prog.Prio c.in-Prio.is c.get-in-Prio.ensures c.get-in-Prio-2.ensures) c.requires in
    search rules

pub fronts_of-returns-in-Prio : goal.fronts_of-returns-in-Prio
fronts_of-returns-in-Prio t c =
    fronts_given_as c.args.self.now.agent.now _ _ (two_same prog.Prio c.in-Prio.is c.get-in-Prio.ensures c.get-in-Prio-2.ensures) c.fronts_of_prio.result c.fronts_of_prio.ensures

pub fronts_of-fronts_of_seq-requires : goal.fronts_of-fronts_of_seq-requires
fronts_of-fronts_of_seq-requires t c =
    let handed = whole (two_same prog.Seq c.in-Seq.is c.get.ensures c.get-in-Seq.ensures) c.requires in
    search rules

pub fronts_of-returns-in-Seq : goal.fronts_of-returns-in-Seq
fronts_of-returns-in-Seq t c =
    fronts_given_as c.args.self.now.agent.now _ _ (two_same prog.Seq c.in-Seq.is c.get.ensures c.get-in-Seq.ensures) c.fronts_of_seq.result c.fronts_of_seq.ensures

pub fronts_of-fronts_of_both-requires : goal.fronts_of-fronts_of_both-requires
fronts_of-fronts_of_both-requires t c =
    let parts = both_down (choice_parts c.requires (two_same prog.Choice c.in-Choice.is c.get-in-Choice.ensures c.get-in-Choice-2.ensures)) in
    search rules

pub fronts_of-returns-in_ok-ones-in-Choice : goal.fronts_of-returns-in_ok-ones-in-Choice
fronts_of-returns-in_ok-ones-in-Choice t c =
    let a = c.get-in-Choice.result.now in
    let b = c.get-in-Choice-2.result.now in
    fronts_give c.args.self.now.agent.now c.args.prog.now (c.in_ok-ones-in-Choice.ones ++ c.in_ok-ones-in-Choice.others) c.joined.result c.joined.ensures
    (fronts_as c.args.self.now.agent.now _ _ (two_same prog.Choice c.in-Choice.is c.get-in-Choice.ensures c.get-in-Choice-2.ensures) (c.in_ok-ones-in-Choice.ones ++ c.in_ok-ones-in-Choice.others) (c.in_ok-ones-in-Choice.ones ++ c.in_ok-ones-in-Choice.others) refl (choice_fronts c.args.self.now.agent.now c.args.self.now.fit.guarded a b c.in_ok-ones-in-Choice.ones c.in_ok-ones-in-Choice.others c.in_ok-ones-in-Choice.ensures.one c.in_ok-ones-in-Choice.ensures.other))

pub fronts_of-fronts_of_both-requires-in-If : goal.fronts_of-fronts_of_both-requires-in-If
fronts_of-fronts_of_both-requires-in-If t c =
    let parts = both_down (branches (if_parts c.requires (two_same (prog.If c.in-If.cond) c.in-If.is c.get-in-If.ensures c.get-in-If-2.ensures))) in
    search rules

pub fronts_of-returns-in_ok-yes-in-If : goal.fronts_of-returns-in_ok-yes-in-If
fronts_of-returns-in_ok-yes-in-If t c =
    let a = c.get-in-If.result.now in
    let b = c.get-in-If-2.result.now in
    let e = two_same (prog.If c.in-If.cond) c.in-If.is c.get-in-If.ensures c.get-in-If-2.ensures in
    let parts = if_parts c.requires e in
    fronts_give c.args.self.now.agent.now c.args.prog.now (map (front_where c.in-If.cond) c.in_ok-yes-in-If.yes ++ map (front_where (cond.Not c.in-If.cond)) c.in_ok-yes-in-If.no) c.either_way.result c.either_way.ensures
    (fronts_as c.args.self.now.agent.now _ _ e (map (front_where c.in-If.cond) c.in_ok-yes-in-If.yes ++ map (front_where (cond.Not c.in-If.cond)) c.in_ok-yes-in-If.no) (map (front_where c.in-If.cond) c.in_ok-yes-in-If.yes ++ map (front_where (cond.Not c.in-If.cond)) c.in_ok-yes-in-If.no) refl (if_fronts c.args.self.now.agent.now c.args.self.now.fit.guarded a b c.in_ok-yes-in-If.yes c.in_ok-yes-in-If.no c.in_ok-yes-in-If.ensures.one c.in_ok-yes-in-If.ensures.other c.in-If.cond parts.cond))

pub fronts_of-fronts_of-requires : goal.fronts_of-fronts_of-requires
fronts_of-fronts_of-requires t c =
    let part = down ((while_parts c.requires (one_same (prog.While c.in-While.cond) c.in-While.is c.get-in-While.ensures)).body) in
    search rules

pub fronts_of-returns-in_ok-steps-in-While : goal.fronts_of-returns-in_ok-steps-in-While
fronts_of-returns-in_ok-steps-in-While t c =
    let a = c.get-in-While.result.now in
    let e = one_same (prog.While c.in-While.cond) c.in-While.is c.get-in-While.ensures in
    let parts = while_parts c.requires e in
    let here = subst (λ (z : Prog). AreClosedFronts c.args.self.now.agent.now z (map (front_where c.in-While.cond) (map (front_in (λ l. tidy_seq l z)) c.in_ok-steps-in-While.steps))) (sym e) (while_fronts c.args.self.now.agent.now c.args.self.now.fit.guarded a c.in_ok-steps-in-While.steps c.in_ok-steps-in-While.ensures c.in-While.cond parts.cond) in
    fronts_give c.args.self.now.agent.now c.args.prog.now (map (front_where c.in-While.cond) (map (front_in (λ l. tidy_seq l c.args.prog.now)) c.in_ok-steps-in-While.steps)) c.while_holds.result c.while_holds.ensures here

pub fronts_of-fronts_of-requires-in-Star : goal.fronts_of-fronts_of-requires-in-Star
fronts_of-fronts_of-requires-in-Star t c =
    let part = down (star_part c.requires (one_same prog.Star c.in-Star.is c.get-in-Star.ensures)) in
    search rules

pub fronts_of-returns-in_ok-steps-in-Star : goal.fronts_of-returns-in_ok-steps-in-Star
fronts_of-returns-in_ok-steps-in-Star t c =
    let a = c.get-in-Star.result.now in
    let here = subst (λ (z : Prog). AreClosedFronts c.args.self.now.agent.now z (map (front_in (λ l. tidy_seq l z)) c.in_ok-steps-in-Star.steps)) (sym (one_same prog.Star c.in-Star.is c.get-in-Star.ensures)) (star_fronts c.args.self.now.agent.now c.args.self.now.fit.guarded a c.in_ok-steps-in-Star.steps c.in_ok-steps-in-Star.ensures) in
    let listed = subst (λ (z : List Front). AreClosedFronts c.args.self.now.agent.now c.args.prog.now (map (front_in (λ l. tidy_seq l c.args.prog.now)) z)) (sym c.as_slice-in-Star.ensures) here in
    fronts_give c.args.self.now.agent.now c.args.prog.now (map (front_in (λ l. tidy_seq l c.args.prog.now)) c.as_slice-in-Star.result.now) c.fronts_at.result c.fronts_at.ensures listed

pub fronts_of-fronts_of-requires-in-Cstar : goal.fronts_of-fronts_of-requires-in-Cstar
fronts_of-fronts_of-requires-in-Cstar t c =
    let part = down (cstar_part c.requires (one_same prog.Cstar c.in-Cstar.is c.get-in-Cstar.ensures)) in
    search rules

pub fronts_of-returns-in_ok-steps-in-Cstar : goal.fronts_of-returns-in_ok-steps-in-Cstar
fronts_of-returns-in_ok-steps-in-Cstar t c =
    let a = c.get-in-Cstar.result.now in
    let here = subst (λ (z : Prog). AreClosedFronts c.args.self.now.agent.now z (map (front_in (λ l. tidy_conc l z)) c.in_ok-steps-in-Cstar.steps)) (sym (one_same prog.Cstar c.in-Cstar.is c.get-in-Cstar.ensures)) (cstar_fronts c.args.self.now.agent.now c.args.self.now.fit.guarded a c.in_ok-steps-in-Cstar.steps c.in_ok-steps-in-Cstar.ensures) in
    let listed = subst (λ (z : List Front). AreClosedFronts c.args.self.now.agent.now c.args.prog.now (map (front_in (λ l. tidy_conc l c.args.prog.now)) z)) (sym c.as_slice-in-Cstar.ensures) here in
    fronts_give c.args.self.now.agent.now c.args.prog.now (map (front_in (λ l. tidy_conc l c.args.prog.now)) c.as_slice-in-Cstar.result.now) c.fronts_at-in-Cstar.result c.fronts_at-in-Cstar.ensures listed

pub fronts_of-fronts_of_pick-requires : goal.fronts_of-fronts_of_pick-requires
fronts_of-fronts_of_pick-requires t c =
    let handed = whole (one_same (prog.Pick c.in-Pick.var c.in-Pick.sort) c.in-Pick.is c.get-in-Pick.ensures) c.requires in
    search rules

pub fronts_of-returns-in-Pick : goal.fronts_of-returns-in-Pick
fronts_of-returns-in-Pick t c =
    fronts_given_as c.args.self.now.agent.now _ _ (one_same (prog.Pick c.in-Pick.var c.in-Pick.sort) c.in-Pick.is c.get-in-Pick.ensures) c.fronts_of_pick.result c.fronts_of_pick.ensures

pub fronts_of-fronts_of_call-requires : goal.fronts_of-fronts_of_call-requires
fronts_of-fronts_of_call-requires t c =
    let handed = whole (c.in-Call.is ∙ ap (prog.Call c.in-Call.item) (sym c.as_slice-in-Call.ensures)) c.requires in
    search rules

pub fronts_of-returns-in-Call : goal.fronts_of-returns-in-Call
fronts_of-returns-in-Call t c =
    fronts_given_as c.args.self.now.agent.now _ _ (c.in-Call.is ∙ ap (prog.Call c.in-Call.item) (sym c.as_slice-in-Call.ensures)) c.fronts_of_call.result c.fronts_of_call.ensures

pub fronts_of-returns-in-Search : goal.fronts_of-returns-in-Search
fronts_of-returns-in-Search t c =
    fronts_as c.args.self.now.agent.now c.args.prog.now (prog.Search c.in-Search.depth c.in-Search.fuel c.in-Search.body) c.in-Search.is c.new-in-Search.result [] c.new-in-Search.ensures (search_fronts c.args.self.now.agent.now c.args.self.now.fit.guarded c.in-Search.depth c.in-Search.fuel c.in-Search.body)

pub fronts_of-returns-in-Follow : goal.fronts_of-returns-in-Follow
fronts_of-returns-in-Follow t c =
    fronts_as c.args.self.now.agent.now c.args.prog.now (prog.Follow c.in-Follow.depth c.in-Follow.fuel c.in-Follow.body c.in-Follow.rest) c.in-Follow.is c.new-in-Follow.result [] c.new-in-Follow.ensures (follow_fronts c.args.self.now.agent.now c.args.self.now.fit.guarded c.in-Follow.depth c.in-Follow.fuel c.in-Follow.body c.in-Follow.rest)

pub fronts_of_both-fronts_of-ones-requires : goal.fronts_of_both-fronts_of-ones-requires
fronts_of_both-fronts_of-ones-requires t c =
    let closed = c.requires.one in
    let low : 1 + 3 * (front c.args.self.now.agent.now c.args.one.now).height < 2 + 3 * max (front c.args.self.now.agent.now c.args.one.now).height (front c.args.self.now.agent.now c.args.other.now).height = omega arith in
    search rules

pub fronts_of_both-fronts_of-others-requires : goal.fronts_of_both-fronts_of-others-requires
fronts_of_both-fronts_of-others-requires t c =
    let closed = c.requires.other in
    let low : 1 + 3 * (front c.args.self.now.agent.now c.args.other.now).height < 2 + 3 * max (front c.args.self.now.agent.now c.args.one.now).height (front c.args.self.now.agent.now c.args.other.now).height = omega arith in
    search rules

pub fronts_of_both-returns : goal.fronts_of_both-returns
fronts_of_both-returns t c =
    both_given c.args.self.now.agent.now c.args.one.now c.args.other.now c.fronts_of-ones.result c.fronts_of-others.result c.fronts_of-ones.ensures c.fronts_of-others.ensures c.both.result c.both.ensures.parts

pub fronts_of_seq-fronts_of_both-requires : goal.fronts_of_seq-fronts_of_both-requires
fronts_of_seq-fronts_of_both-requires t c =
    let parts = both_down (skipped (sym c.may_skip.ensures ∙ c.if-may_skip.true) (seq_parts c.requires refl)) in
    search rules

pub fronts_of_seq-in_sequence-requires-clause-closed : goal.fronts_of_seq-in_sequence-requires-clause-closed
fronts_of_seq-in_sequence-requires-clause-closed t c =
    let parts = seq_parts c.requires refl in
    parts.one.closed_too

pub fronts_of_seq-in_sequence-requires-clause-ones : goal.fronts_of_seq-in_sequence-requires-clause-ones
fronts_of_seq-in_sequence-requires-clause-ones t c =
    c.in_ok-ones.ensures.one

pub fronts_of_seq-in_sequence-requires-clause-others : goal.fronts_of_seq-in_sequence-requires-clause-others
fronts_of_seq-in_sequence-requires-clause-others t c =
    c.in_ok-ones.ensures.other

pub fronts_of_seq-fronts_of-requires : goal.fronts_of_seq-fronts_of-requires
fronts_of_seq-fronts_of-requires t c =
    let part = down ((seq_parts c.requires refl).one) in
    search rules

pub fronts_of_seq-returns-in_ok-steps : goal.fronts_of_seq-returns-in_ok-steps
fronts_of_seq-returns-in_ok-steps t c =
    let here = seq_fronts_barred c.args.self.now.agent.now c.args.self.now.fit.guarded c.args.one.now c.args.other.now c.in_ok-steps.steps (sym c.may_skip.ensures ∙ c.if-may_skip.false) c.in_ok-steps.ensures in
    let listed = subst (λ (z : List Front). AreClosedFronts c.args.self.now.agent.now (prog.Seq c.args.one.now c.args.other.now) (map (front_in (λ l. tidy_seq l c.args.other.now)) z)) (sym c.as_slice.ensures) here in
    fronts_give c.args.self.now.agent.now (prog.Seq c.args.one.now c.args.other.now) (map (front_in (λ l. tidy_seq l c.args.other.now)) c.as_slice.result.now) c.fronts_at.result c.fronts_at.ensures listed

pub fronts_of_conc-fronts_of_both-requires : goal.fronts_of_conc-fronts_of_both-requires
fronts_of_conc-fronts_of_both-requires t c =
    let parts = both_down (conc_parts c.requires refl) in
    search rules

pub fronts_of_conc-returns : goal.fronts_of_conc-returns
fronts_of_conc-returns t c =
    fronts_give c.args.self.now.agent.now (prog.Conc c.args.one.now c.args.other.now) (map (front_in (λ l. tidy_conc l c.args.other.now)) c.in_ok-ones.ones ++ map (front_in (λ l. tidy_conc c.args.one.now l)) c.in_ok-ones.others) c.side_by_side.result c.side_by_side.ensures (conc_fronts c.args.self.now.agent.now c.args.self.now.fit.guarded c.args.one.now c.args.other.now c.in_ok-ones.ones c.in_ok-ones.others c.in_ok-ones.ensures.one c.in_ok-ones.ensures.other)

pub fronts_of_prio-fronts_of_both-requires : goal.fronts_of_prio-fronts_of_both-requires
fronts_of_prio-fronts_of_both-requires t c =
    let parts = both_down (prio_parts c.requires refl) in
    search rules

pub fronts_of_prio-returns : goal.fronts_of_prio-returns
fronts_of_prio-returns t c =
    fronts_give c.args.self.now.agent.now (prog.Prio c.args.high.now c.args.low.now) (map (front_in (λ l. tidy_prio l c.args.low.now)) c.in_ok-highs.highs ++ map (front_in (λ l. tidy_prio c.args.high.now l)) (map (front_where (none_open c.in_ok-highs.highs)) c.in_ok-highs.lows)) c.one_over_other.result c.one_over_other.ensures (prio_fronts c.args.self.now.agent.now c.args.self.now.fit.guarded c.args.high.now c.args.low.now c.in_ok-highs.highs c.in_ok-highs.lows c.in_ok-highs.ensures.one c.in_ok-highs.ensures.other)

pub fronts_of_put-fronts_of-fronts-requires : goal.fronts_of_put-fronts_of-fronts-requires
fronts_of_put-fronts_of-fronts-requires t c =
    let low : 1 + 3 * (front c.args.self.now.agent.now c.args.prog).height < 2 + 3 * (front c.args.self.now.agent.now c.args.prog).height = omega arith in
    search rules

pub fronts_of_pick-loop-constant-init : goal.fronts_of_pick-loop-constant-init
fronts_of_pick-loop-constant-init t c =
    subst (λ (z : List Front). FrontsSoFar c.args.self.now.agent.now c.args.var c.args.sort c.args.body.now 0 z) (sym c.new-all.ensures) (no_fronts c.args.self.now.agent.now c.args.var c.args.sort c.args.body.now)

pub fronts_of_pick-fronts_of_put-requires : goal.fronts_of_pick-fronts_of_put-requires
fronts_of_pick-fronts_of_put-requires t c =
    let below : c.loop-constant.constant < sort_size c.args.self.now.agent.now c.args.sort = omega arith in
    let part = down (part_as c.in_ok-put.ensures (pick_part _ _ _ _ _ c.requires refl c.loop-constant.constant below)) in
    search rules

pub fronts_of_pick-loop-constant-preserved : goal.fronts_of_pick-loop-constant-preserved
fronts_of_pick-loop-constant-preserved t c =
    let seen = subst (λ (z : Prog). AreClosedFronts c.args.self.now.agent.now z c.in_ok-steps.steps) c.in_ok-put.ensures c.in_ok-steps.ensures in
    subst (λ (z : List Front). FrontsSoFar c.args.self.now.agent.now c.args.var c.args.sort c.args.body.now (c.loop-constant.constant + 1) z) (sym c.in_ok-all.ensures)
    (more_fronts c.args.self.now.agent.now c.args.var c.args.sort c.args.body.now c.loop-constant.constant c.loop-constant.all c.in_ok-steps.steps seen c.loop-constant.invariant)

pub fronts_of_pick-returns : goal.fronts_of_pick-returns
fronts_of_pick-returns t c =
    pick_fronts c.args.self.now.agent.now c.args.var c.args.sort c.args.body.now c.args.self.now.fit.guarded c.loop-constant.constant c.loop-constant.all (omega arith) c.loop-constant.invariant

pub fronts_of_call-body_of-requires : goal.fronts_of_call-body_of-requires
fronts_of_call-body_of-requires t c =
    call_few _ c.args.self.now.fit _ _ _ c.requires refl

pub fronts_of_call-fronts_of_put-requires : goal.fronts_of_call-fronts_of_put-requires
fronts_of_call-fronts_of_put-requires t c =
    let part = down (part_as c.in_ok-body.ensures (call_part _ c.args.self.now.fit _ _ _ c.requires refl)) in
    search rules

pub fronts_of_call-returns : goal.fronts_of_call-returns
fronts_of_call-returns t c =
    let here = subst (λ (z : Prog). IfOk c.fronts_of_put.result (AreClosedFronts c.args.self.now.agent.now z)) c.in_ok-body.ensures c.fronts_of_put.ensures in
    fronts_too c.args.self.now.agent.now (prog.Call c.args.item c.args.args.now) (body_of c.args.self.now.agent.now c.args.item c.args.args.now) c.fronts_of_put.result (call_fronts c.args.self.now.agent.now c.args.self.now.fit.guarded c.args.self.now.fit.procs c.args.item c.args.args.now) here
