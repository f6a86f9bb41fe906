use Rattle.std.proofs.Common.{◌+◌, ◌*◌, ◌<◌, max, IfOk, true, false, List, [], ◌∷◌, refl, sym, ap, ◌∙◌, subst, rules, arith}
use Rattle.golog_tree.specs.declared.cond.Cond.{Cond}
use Rattle.golog_tree.specs.declared.cond.Cond.TheVariants as cond
use Rattle.golog_tree.specs.declared.prog.Prog.{Prog}
use Rattle.golog_tree.specs.declared.prog.Prog.TheVariants as prog
use Rattle.golog_tree.specs.Ground.{sort_size}
use Rattle.golog_semantics.specs.Guarded.{front}
use Rattle.golog_semantics.specs.Program.{body_of}
use Rattle.golog_fronts.specs.Ends.{IsClosedEnd}
use Rattle.golog_fronts.proofs.Closing.{choice_parts, conc_parts, prio_parts, seq_parts, search_part, follow_part, if_parts, while_parts, pick_part, call_part, call_few, both_down, branches, skipped, down, part_as, whole}
use Rattle.golog_fronts.proofs.Ends.{EndsSoFar, act_end, call_end, choice_end, conc_end, cstar_end, end_as, end_gives, end_of_too, ends_given, follow_end, if_end, more_ends, nil_end, no_ends, pick_end, prio_end, search_end, seq_end, seq_end_barred, star_end, test_end, while_end}
use Rattle.golog_fronts.proofs.Moved.{one_same, two_same}
use Rattle.golog_fronts.proofs.here.Fit.+ending.Goals as goal

pub end_of-returns-in-Nil : goal.end_of-returns-in-Nil
end_of-returns-in-Nil t c =
    end_as c.args.self.now.agent.now c.args.prog.now prog.Nil (cond.Truth true) c.in-Nil.is (nil_end c.args.self.now.agent.now c.args.self.now.fit.guarded)

pub end_of-returns-in-Act : goal.end_of-returns-in-Act
end_of-returns-in-Act t c =
    end_as c.args.self.now.agent.now c.args.prog.now (prog.Act c.in-Act.action c.in-Act.args) (cond.Truth false) c.in-Act.is (act_end c.args.self.now.agent.now c.args.self.now.fit.guarded c.in-Act.action c.in-Act.args)

pub end_of-returns-in-Test : goal.end_of-returns-in-Test
end_of-returns-in-Test t c =
    end_as c.args.self.now.agent.now c.args.prog.now (prog.Test c.in-Test.field-0) (cond.Truth false) c.in-Test.is (test_end c.args.self.now.agent.now c.args.self.now.fit.guarded c.in-Test.field-0)

pub end_of-returns-in-Star : goal.end_of-returns-in-Star
end_of-returns-in-Star t c =
    end_as c.args.self.now.agent.now c.args.prog.now (prog.Star c.in-Star.field-0) (cond.Truth true) c.in-Star.is (star_end c.args.self.now.agent.now c.args.self.now.fit.guarded c.in-Star.field-0)

pub end_of-returns-in-Cstar : goal.end_of-returns-in-Cstar
end_of-returns-in-Cstar t c =
    end_as c.args.self.now.agent.now c.args.prog.now (prog.Cstar c.in-Cstar.field-0) (cond.Truth true) c.in-Cstar.is (cstar_end c.args.self.now.agent.now c.args.self.now.fit.guarded c.in-Cstar.field-0)

pub end_of-end_of_seq-requires : goal.end_of-end_of_seq-requires
end_of-end_of_seq-requires t c =
    let handed = whole (two_same prog.Seq c.in-Seq.is c.get.ensures c.get-in-Seq.ensures) c.requires in
    search rules

pub end_of-returns-in-Seq : goal.end_of-returns-in-Seq
end_of-returns-in-Seq t c =
    subst (λ (z : Prog). IfOk c.end_of_seq.result (IsClosedEnd c.args.self.now.agent.now z)) (sym (two_same prog.Seq c.in-Seq.is c.get.ensures c.get-in-Seq.ensures)) c.end_of_seq.ensures

pub end_of-ends-requires : goal.end_of-ends-requires
end_of-ends-requires t c =
    let parts = both_down (choice_parts c.requires (two_same prog.Choice c.in-Choice.is c.get-in-Choice.ensures c.get-in-Choice-2.ensures)) in
    search rules

pub end_of-returns-in_ok-one-in-Choice : goal.end_of-returns-in_ok-one-in-Choice
end_of-returns-in_ok-one-in-Choice t c =
    let a = c.get-in-Choice.result.now in
    let b = c.get-in-Choice-2.result.now in
    end_gives c.args.self.now.agent.now c.args.prog.now (cond.Or (c.in_ok-one-in-Choice.one ∷ c.in_ok-one-in-Choice.other ∷ [])) c.disjunction.result c.disjunction.ensures
    (end_as c.args.self.now.agent.now c.args.prog.now (prog.Choice a b) (cond.Or (c.in_ok-one-in-Choice.one ∷ c.in_ok-one-in-Choice.other ∷ [])) (two_same prog.Choice c.in-Choice.is c.get-in-Choice.ensures c.get-in-Choice-2.ensures) (choice_end c.args.self.now.agent.now c.args.self.now.fit.guarded a b c.in_ok-one-in-Choice.one c.in_ok-one-in-Choice.other c.in_ok-one-in-Choice.ensures.one c.in_ok-one-in-Choice.ensures.other))

pub end_of-ends-requires-in-Conc : goal.end_of-ends-requires-in-Conc
end_of-ends-requires-in-Conc t c =
    let parts = both_down (conc_parts c.requires (two_same prog.Conc c.in-Conc.is c.get-in-Conc.ensures c.get-in-Conc-2.ensures)) in
    search rules

pub end_of-returns-in_ok-one-in-Conc : goal.end_of-returns-in_ok-one-in-Conc
end_of-returns-in_ok-one-in-Conc t c =
    let a = c.get-in-Conc.result.now in
    let b = c.get-in-Conc-2.result.now in
    end_gives c.args.self.now.agent.now c.args.prog.now (cond.And (c.in_ok-one-in-Conc.one ∷ c.in_ok-one-in-Conc.other ∷ [])) c.conjunction.result c.conjunction.ensures
    (end_as c.args.self.now.agent.now c.args.prog.now (prog.Conc a b) (cond.And (c.in_ok-one-in-Conc.one ∷ c.in_ok-one-in-Conc.other ∷ [])) (two_same prog.Conc c.in-Conc.is c.get-in-Conc.ensures c.get-in-Conc-2.ensures) (conc_end c.args.self.now.agent.now c.args.self.now.fit.guarded a b c.in_ok-one-in-Conc.one c.in_ok-one-in-Conc.other c.in_ok-one-in-Conc.ensures.one c.in_ok-one-in-Conc.ensures.other))

pub end_of-ends-requires-in-Prio : goal.end_of-ends-requires-in-Prio
end_of-ends-requires-in-Prio t c =
    let parts = both_down (prio_parts c.requires (two_same prog.Prio c.in-Prio.is c.get-in-Prio.ensures c.get-in-Prio-2.ensures)) in
    search rules

pub end_of-returns-in_ok-high-in-Prio : goal.end_of-returns-in_ok-high-in-Prio
end_of-returns-in_ok-high-in-Prio t c =
    let a = c.get-in-Prio.result.now in
    let b = c.get-in-Prio-2.result.now in
    end_gives c.args.self.now.agent.now c.args.prog.now (cond.And (c.in_ok-high-in-Prio.high ∷ c.in_ok-high-in-Prio.low ∷ [])) c.conjunction-in-Prio.result c.conjunction-in-Prio.ensures
    (end_as c.args.self.now.agent.now c.args.prog.now (prog.Prio a b) (cond.And (c.in_ok-high-in-Prio.high ∷ c.in_ok-high-in-Prio.low ∷ [])) (two_same prog.Prio c.in-Prio.is c.get-in-Prio.ensures c.get-in-Prio-2.ensures) (prio_end c.args.self.now.agent.now c.args.self.now.fit.guarded a b c.in_ok-high-in-Prio.high c.in_ok-high-in-Prio.low c.in_ok-high-in-Prio.ensures.one c.in_ok-high-in-Prio.ensures.other))

pub end_of-ends-requires-in-If : goal.end_of-ends-requires-in-If
end_of-ends-requires-in-If t c =
    let parts = both_down (branches (if_parts c.requires (two_same (prog.If c.in-If.cond) c.in-If.is c.get-in-If.ensures c.get-in-If-2.ensures))) in
    search rules

pub end_of-returns-in_ok-yes-in-If : goal.end_of-returns-in_ok-yes-in-If
end_of-returns-in_ok-yes-in-If t c =
    let a = c.get-in-If.result.now in
    let b = c.get-in-If-2.result.now in
    let e = two_same (prog.If c.in-If.cond) c.in-If.is c.get-in-If.ensures c.get-in-If-2.ensures in
    let parts = if_parts c.requires e in
    end_gives c.args.self.now.agent.now c.args.prog.now (cond.Or (cond.And (c.in-If.cond ∷ c.in_ok-yes-in-If.yes ∷ []) ∷ cond.And (cond.Not c.in-If.cond ∷ c.in_ok-yes-in-If.no ∷ []) ∷ [])) c.by_cases.result c.by_cases.ensures
    (end_as c.args.self.now.agent.now c.args.prog.now (prog.If c.in-If.cond a b) (cond.Or (cond.And (c.in-If.cond ∷ c.in_ok-yes-in-If.yes ∷ []) ∷ cond.And (cond.Not c.in-If.cond ∷ c.in_ok-yes-in-If.no ∷ []) ∷ [])) e (if_end c.args.self.now.agent.now c.args.self.now.fit.guarded a b c.in_ok-yes-in-If.yes c.in_ok-yes-in-If.no c.in_ok-yes-in-If.ensures.one c.in_ok-yes-in-If.ensures.other c.in-If.cond parts.cond))

pub end_of-end_of-requires : goal.end_of-end_of-requires
end_of-end_of-requires t c =
    let part = down ((while_parts c.requires (one_same (prog.While c.in-While.cond) c.in-While.is c.get-in-While.ensures)).body) in
    search rules

pub end_of-returns-in_ok-body-in-While : goal.end_of-returns-in_ok-body-in-While
end_of-returns-in_ok-body-in-While t c =
    let a = c.get-in-While.result.now in
    let e = one_same (prog.While c.in-While.cond) c.in-While.is c.get-in-While.ensures in
    let parts = while_parts c.requires e in
    end_gives c.args.self.now.agent.now c.args.prog.now (cond.Or (cond.Not c.in-While.cond ∷ c.in_ok-body-in-While.body ∷ [])) c.implied.result c.implied.ensures
    (end_as c.args.self.now.agent.now c.args.prog.now (prog.While c.in-While.cond a) (cond.Or (cond.Not c.in-While.cond ∷ c.in_ok-body-in-While.body ∷ [])) e (while_end c.args.self.now.agent.now c.args.self.now.fit.guarded c.in-While.cond parts.cond a c.in_ok-body-in-While.body c.in_ok-body-in-While.ensures))

pub end_of-end_of_pick-requires : goal.end_of-end_of_pick-requires
end_of-end_of_pick-requires t c =
    let handed = whole (one_same (prog.Pick c.in-Pick.var c.in-Pick.sort) c.in-Pick.is c.get-in-Pick.ensures) c.requires in
    search rules

pub end_of-returns-in-Pick : goal.end_of-returns-in-Pick
end_of-returns-in-Pick t c =
    subst (λ (z : Prog). IfOk c.end_of_pick.result (IsClosedEnd c.args.self.now.agent.now z)) (sym (one_same (prog.Pick c.in-Pick.var c.in-Pick.sort) c.in-Pick.is c.get-in-Pick.ensures)) c.end_of_pick.ensures

pub end_of-end_of_call-requires : goal.end_of-end_of_call-requires
end_of-end_of_call-requires t c =
    let handed = whole (c.in-Call.is ∙ ap (prog.Call c.in-Call.item) (sym c.as_slice.ensures)) c.requires in
    search rules

pub end_of-returns-in-Call : goal.end_of-returns-in-Call
end_of-returns-in-Call t c =
    subst (λ (z : Prog). IfOk c.end_of_call.result (IsClosedEnd c.args.self.now.agent.now z)) (sym (c.in-Call.is ∙ ap (prog.Call c.in-Call.item) (sym c.as_slice.ensures))) c.end_of_call.ensures

pub end_of-end_of-requires-in-Search : goal.end_of-end_of-requires-in-Search
end_of-end_of-requires-in-Search t c =
    let part = down (search_part _ _ _ _ _ c.requires (one_same (prog.Search c.in-Search.depth c.in-Search.fuel) c.in-Search.is c.get-in-Search.ensures)) in
    search rules

pub end_of-returns-in-Search : goal.end_of-returns-in-Search
end_of-returns-in-Search t c =
    let a = c.get-in-Search.result.now in
    subst (λ (z : Prog). IfOk c.end_of-in-Search.result (IsClosedEnd c.args.self.now.agent.now z)) (sym (one_same (prog.Search c.in-Search.depth c.in-Search.fuel) c.in-Search.is c.get-in-Search.ensures))
    (end_of_too c.args.self.now.agent.now (prog.Search c.in-Search.depth c.in-Search.fuel a) a c.end_of-in-Search.result (search_end c.args.self.now.agent.now c.args.self.now.fit.guarded c.in-Search.depth c.in-Search.fuel a) c.end_of-in-Search.ensures)

pub end_of-end_of-requires-in-Follow : goal.end_of-end_of-requires-in-Follow
end_of-end_of-requires-in-Follow t c =
    let part = down (follow_part _ _ _ _ _ _ c.requires (one_same (λ (z : Prog). prog.Follow c.in-Follow.depth c.in-Follow.fuel z c.in-Follow.rest) c.in-Follow.is c.get-in-Follow.ensures)) in
    search rules

pub end_of-returns-in-Follow : goal.end_of-returns-in-Follow
end_of-returns-in-Follow t c =
    let a = c.get-in-Follow.result.now in
    subst (λ (z : Prog). IfOk c.end_of-in-Follow.result (IsClosedEnd c.args.self.now.agent.now z)) (sym (one_same (λ (z : Prog). prog.Follow c.in-Follow.depth c.in-Follow.fuel z c.in-Follow.rest) c.in-Follow.is c.get-in-Follow.ensures))
    (end_of_too c.args.self.now.agent.now (prog.Follow c.in-Follow.depth c.in-Follow.fuel a c.in-Follow.rest) a c.end_of-in-Follow.result (λ d. follow_end c.args.self.now.agent.now c.args.self.now.fit.guarded c.in-Follow.depth c.in-Follow.fuel a c.in-Follow.rest d) c.end_of-in-Follow.ensures)

pub ends-end_of-one-requires : goal.ends-end_of-one-requires
ends-end_of-one-requires t c =
    let closed = c.requires.one in
    let low : 1 + 3 * (front c.args.self.now.agent.now c.args.one.now).height < 2 + 3 * max (front c.args.self.now.agent.now c.args.one.now).height (front c.args.self.now.agent.now c.args.other.now).height = omega arith in
    search rules

pub ends-end_of-other-requires : goal.ends-end_of-other-requires
ends-end_of-other-requires t c =
    let closed = c.requires.other in
    let low : 1 + 3 * (front c.args.self.now.agent.now c.args.other.now).height < 2 + 3 * max (front c.args.self.now.agent.now c.args.one.now).height (front c.args.self.now.agent.now c.args.other.now).height = omega arith in
    search rules

pub ends-returns : goal.ends-returns
ends-returns t c =
    ends_given c.args.self.now.agent.now c.args.one.now c.args.other.now c.end_of-one.result c.end_of-other.result c.end_of-one.ensures c.end_of-other.ensures c.both.result c.both.ensures.parts

pub end_of_seq-ends-requires : goal.end_of_seq-ends-requires
end_of_seq-ends-requires t c =
    let parts = both_down (skipped (sym c.may_skip.ensures ∙ c.if-may_skip.true) (seq_parts c.requires refl)) in
    search rules

pub end_of_seq-returns-in_ok-one : goal.end_of_seq-returns-in_ok-one
end_of_seq-returns-in_ok-one t c =
    end_gives c.args.self.now.agent.now (prog.Seq c.args.one.now c.args.other.now) (cond.And (c.in_ok-one.one ∷ c.in_ok-one.other ∷ [])) c.conjunction.result c.conjunction.ensures
    (seq_end c.args.self.now.agent.now c.args.self.now.fit.guarded c.args.one.now c.args.other.now c.in_ok-one.one c.in_ok-one.other c.in_ok-one.ensures.one c.in_ok-one.ensures.other)

pub end_of_seq-returns-else-may_skip : goal.end_of_seq-returns-else-may_skip
end_of_seq-returns-else-may_skip t c =
    seq_end_barred c.args.self.now.agent.now c.args.self.now.fit.guarded c.args.one.now c.args.other.now (sym c.may_skip.ensures ∙ c.if-may_skip.false)

pub end_of_put-end_of-end-requires : goal.end_of_put-end_of-end-requires
end_of_put-end_of-end-requires t c =
    let low : 1 + 3 * (front c.args.self.now.agent.now c.args.prog).height < 2 + 3 * (front c.args.self.now.agent.now c.args.prog).height = omega arith in
    search rules

pub end_of_pick-loop-constant-init : goal.end_of_pick-loop-constant-init
end_of_pick-loop-constant-init t c =
    subst (λ (z : List Cond). EndsSoFar c.args.self.now.agent.now c.args.var c.args.sort c.args.body.now 0 z) (sym c.new-ends.ensures) (no_ends c.args.self.now.agent.now c.args.var c.args.sort c.args.body.now)

pub end_of_pick-end_of_put-requires : goal.end_of_pick-end_of_put-requires
end_of_pick-end_of_put-requires t c =
    let below : c.loop-constant.constant < sort_size c.args.self.now.agent.now c.args.sort = omega arith in
    let part = down (part_as c.in_ok-put.ensures (pick_part _ _ _ _ _ c.requires refl c.loop-constant.constant below)) in
    search rules

pub end_of_pick-loop-constant-preserved : goal.end_of_pick-loop-constant-preserved
end_of_pick-loop-constant-preserved t c =
    let seen = subst (λ (z : Prog). IsClosedEnd c.args.self.now.agent.now z c.in_ok-end.end) c.in_ok-put.ensures c.in_ok-end.ensures in
    subst (λ (z : List Cond). EndsSoFar c.args.self.now.agent.now c.args.var c.args.sort c.args.body.now (c.loop-constant.constant + 1) z) (sym c.in_ok-push.ensures.ok)
    (more_ends c.args.self.now.agent.now c.args.var c.args.sort c.args.body.now c.loop-constant.constant c.loop-constant.ends c.in_ok-end.end seen c.loop-constant.invariant)

pub end_of_pick-returns : goal.end_of_pick-returns
end_of_pick-returns t c =
    pick_end c.args.self.now.agent.now c.args.var c.args.sort c.args.body.now c.args.self.now.fit.guarded c.loop-constant.constant c.loop-constant.ends (omega arith) c.loop-constant.invariant

pub end_of_call-body_of-requires : goal.end_of_call-body_of-requires
end_of_call-body_of-requires t c =
    call_few _ c.args.self.now.fit _ _ _ c.requires refl

pub end_of_call-end_of_put-requires : goal.end_of_call-end_of_put-requires
end_of_call-end_of_put-requires t c =
    let part = down (part_as c.in_ok-body.ensures (call_part _ c.args.self.now.fit _ _ _ c.requires refl)) in
    search rules

pub end_of_call-returns : goal.end_of_call-returns
end_of_call-returns t c =
    let here = subst (λ (z : Prog). IfOk c.end_of_put.result (IsClosedEnd c.args.self.now.agent.now z)) c.in_ok-body.ensures c.end_of_put.ensures in
    end_of_too c.args.self.now.agent.now (prog.Call c.args.item c.args.args.now) (body_of c.args.self.now.agent.now c.args.item c.args.args.now) c.end_of_put.result (call_end c.args.self.now.agent.now c.args.self.now.fit.guarded c.args.item c.args.args.now) here
