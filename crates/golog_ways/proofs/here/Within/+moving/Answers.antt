use Rattle.std.proofs.Common.{◌≡◌, ◌+◌, ◌*◌, ◌<◌, Option, None, [], false, inl, inr, refl, sym, ap, ◌∙◌, rules, arith}
use Rattle.golog_tree.specs.declared.cond.Truth.TheVariants.{Yes, No, Unknown}
use Rattle.golog_tree.specs.declared.prog.Prog.{Prog}
use Rattle.golog_tree.specs.declared.prog.Prog.TheOpen.{Choice, Star, If, While, Conc, Cstar, Call}
use Rattle.golog_tree.specs.declared.prog.Prog.TheVariants as prog
use Rattle.golog_tree.specs.declared.prog.Prog.TheViews.{out-Prog}
use Rattle.golog_semantics.specs.declared.search.Move.{Move}
use Rattle.golog_tree.specs.Ground.{sort_size}
use Rattle.golog_tree.specs.Tidy.{tidy_seq, tidy_conc, tidy_prio}
use Rattle.golog_semantics.specs.declared.Mode.TheVariants.{Must, May}
use Rattle.golog_semantics.specs.Guarded.{front}
use Rattle.golog_semantics.specs.Program.{body_of}
use Rattle.golog_semantics.proofs.Unfolded.{final-skips}
use Rattle.golog_ways.specs.FirstMove.{first_move, moved_in}
use Rattle.golog_ways.proofs.Lackings.{lacks_as, part_lacks, parts_lack, stops_as, stops_above, stops_from, memory_stops, search_lacks, seq_one, seq_other, pick_lacks, prio_high, prio_low, lacks_higher}
use Rattle.golog_ways.proofs.BlockParts.{search_begins}
use Rattle.golog_fronts.proofs.Closing.{skipped, choice_parts, conc_parts, prio_parts, seq_parts, star_part, cstar_part, if_parts, while_parts, pick_part, call_part, call_few, down, part_as, whole}
use Rattle.golog_ways.proofs.MoveSteps.{first_as, move_as, nil_first, search_first, seq_first, seq_second, seq_neither, choice_first, choice_second, conc_first, conc_second, prio_first, prio_kept, prio_second, if_first, star_first, cstar_first, while_first, while_none, call_first, pick_from, pick_here, pick_next, pick_none}
use Rattle.golog_fronts.proofs.Moved.{one_same, two_same, closed_as}
use Rattle.golog_ways.proofs.here.Within.+moving.Goals as goal

pub first_move-act_move-requires : goal.first_move-act_move-requires
first_move-act_move-requires g t c =
    closed_as (c.in-Act.is ∙ ap (prog.Act c.in-Act.action) (sym c.as_slice.ensures)) c.requires.closed

pub first_move-test_move-requires : goal.first_move-test_move-requires
first_move-test_move-requires g t c =
    closed_as c.in-Test.is c.requires.closed

pub first_move-returns-in-Nil-clause-first : goal.first_move-returns-in-Nil-clause-first
first_move-returns-in-Nil-clause-first g t c =
    sym (ap (first_move _ _ _) c.in-Nil.is ∙ nil_first _ _ _ c.args.self.now.here.fit.guarded)

pub first_move-first_of_seq-requires : goal.first_move-first_of_seq-requires
first_move-first_of_seq-requires g t c κs within =
    let handed = whole (two_same prog.Seq c.in-Seq.is c.get.ensures c.get-in-Seq.ensures) c.requires.closed in
    search rules

pub first_move-returns-in-Seq-clause-first : goal.first_move-returns-in-Seq-clause-first
first_move-returns-in-Seq-clause-first g t c =
    first_as _ _ _ c.first_of_seq.result (two_same prog.Seq c.in-Seq.is c.get.ensures c.get-in-Seq.ensures) c.first_of_seq.ensures.first

pub first_move-first_of_choice-requires : goal.first_move-first_of_choice-requires
first_move-first_of_choice-requires g t c κs within =
    let handed = whole (two_same prog.Choice c.in-Choice.is c.get-in-Choice.ensures c.get-in-Choice-2.ensures) c.requires.closed in
    search rules

pub first_move-returns-in-Choice-clause-first : goal.first_move-returns-in-Choice-clause-first
first_move-returns-in-Choice-clause-first g t c =
    first_as _ _ _ c.first_of_choice.result (two_same prog.Choice c.in-Choice.is c.get-in-Choice.ensures c.get-in-Choice-2.ensures) c.first_of_choice.ensures.first

pub first_move-first_of_conc-requires : goal.first_move-first_of_conc-requires
first_move-first_of_conc-requires g t c κs within =
    let handed = whole (two_same prog.Conc c.in-Conc.is c.get-in-Conc.ensures c.get-in-Conc-2.ensures) c.requires.closed in
    search rules

pub first_move-returns-in-Conc-clause-first : goal.first_move-returns-in-Conc-clause-first
first_move-returns-in-Conc-clause-first g t c =
    first_as _ _ _ c.first_of_conc.result (two_same prog.Conc c.in-Conc.is c.get-in-Conc.ensures c.get-in-Conc-2.ensures) c.first_of_conc.ensures.first

pub first_move-first_of_prio-requires : goal.first_move-first_of_prio-requires
first_move-first_of_prio-requires g t c κs within =
    let handed = whole (two_same prog.Prio c.in-Prio.is c.get-in-Prio.ensures c.get-in-Prio-2.ensures) c.requires.closed in
    search rules

pub first_move-returns-in-Prio-clause-first : goal.first_move-returns-in-Prio-clause-first
first_move-returns-in-Prio-clause-first g t c =
    first_as _ _ _ c.first_of_prio.result (two_same prog.Prio c.in-Prio.is c.get-in-Prio.ensures c.get-in-Prio-2.ensures) c.first_of_prio.ensures.first

pub first_move-first_of_if-requires : goal.first_move-first_of_if-requires
first_move-first_of_if-requires g t c κs within =
    let handed = whole (two_same (prog.If c.in-If.cond) c.in-If.is c.get-in-If.ensures c.get-in-If-2.ensures) c.requires.closed in
    search rules

pub first_move-returns-in-If-clause-first : goal.first_move-returns-in-If-clause-first
first_move-returns-in-If-clause-first g t c =
    first_as _ _ _ c.first_of_if.result (two_same (prog.If c.in-If.cond) c.in-If.is c.get-in-If.ensures c.get-in-If-2.ensures) c.first_of_if.ensures.first

pub first_move-first_of_pick-requires : goal.first_move-first_of_pick-requires
first_move-first_of_pick-requires g t c κs within =
    let handed = whole (one_same (prog.Pick c.in-Pick.var c.in-Pick.sort) c.in-Pick.is c.get-in-Pick.ensures) c.requires.closed in
    search rules

pub first_move-returns-in-Pick-clause-first : goal.first_move-returns-in-Pick-clause-first
first_move-returns-in-Pick-clause-first g t c =
    first_as _ _ _ c.first_of_pick.result (one_same (prog.Pick c.in-Pick.var c.in-Pick.sort) c.in-Pick.is c.get-in-Pick.ensures) c.first_of_pick.ensures.first

pub first_move-first_of_call-requires : goal.first_move-first_of_call-requires
first_move-first_of_call-requires g t c κs within =
    let handed = whole (c.in-Call.is ∙ ap (prog.Call c.in-Call.item) (sym c.as_slice-in-Call.ensures)) c.requires.closed in
    search rules

pub first_move-returns-in-Call-clause-first : goal.first_move-returns-in-Call-clause-first
first_move-returns-in-Call-clause-first g t c =
    first_as _ _ _ c.first_of_call.result (c.in-Call.is ∙ ap (prog.Call c.in-Call.item) (sym c.as_slice-in-Call.ensures)) c.first_of_call.ensures.first

pub first_move-first_move-requires : goal.first_move-first_move-requires
first_move-first_move-requires g t c κs within =
    let part = down (star_part c.requires.closed (one_same prog.Star c.in-Star.is c.get-in-Star.ensures)) in
    search rules

pub first_move-returns-in_ok-found-in-Star-clause-first : goal.first_move-returns-in_ok-found-in-Star-clause-first
first_move-returns-in_ok-found-in-Star-clause-first g t c =
    move_as c.before-in-Star.result (moved_in (λ l. tidy_seq l c.args.prog.now) c.in_ok-found-in-Star.found) (first_move _ _ _ c.args.prog.now) (ap (λ (w : Option Move). moved_in (λ l. tidy_seq l c.args.prog.now) w) c.in_ok-found-in-Star.ensures.first ∙ sym (star_first _ _ _ c.args.self.now.here.fit.guarded _ _ (one_same prog.Star c.in-Star.is c.get-in-Star.ensures))) c.before-in-Star.ensures.left

pub first_move-first_move-requires-in-Cstar : goal.first_move-first_move-requires-in-Cstar
first_move-first_move-requires-in-Cstar g t c κs within =
    let part = down (cstar_part c.requires.closed (one_same prog.Cstar c.in-Cstar.is c.get-in-Cstar.ensures)) in
    search rules

pub first_move-returns-in_ok-found-in-Cstar-clause-first : goal.first_move-returns-in_ok-found-in-Cstar-clause-first
first_move-returns-in_ok-found-in-Cstar-clause-first g t c =
    move_as c.first_beside.result (moved_in (λ l. tidy_conc l c.args.prog.now) c.in_ok-found-in-Cstar.found) (first_move _ _ _ c.args.prog.now) (ap (λ (w : Option Move). moved_in (λ l. tidy_conc l c.args.prog.now) w) c.in_ok-found-in-Cstar.ensures.first ∙ sym (cstar_first _ _ _ c.args.self.now.here.fit.guarded _ _ (one_same prog.Cstar c.in-Cstar.is c.get-in-Cstar.ensures))) c.first_beside.ensures.left

pub first_move-truth-requires : goal.first_move-truth-requires
first_move-truth-requires g t c =
    (while_parts c.requires.closed c.in-While.is).cond

pub first_move-first_move-requires-then-holds : goal.first_move-first_move-requires-then-holds
first_move-first_move-requires-then-holds g t c κs within =
    let part = down ((while_parts c.requires.closed (one_same (prog.While c.in-While.cond) c.in-While.is c.get-then-holds.ensures)).body) in
    search rules

pub first_move-returns-in_ok-found-in-While-clause-first : goal.first_move-returns-in_ok-found-in-While-clause-first
first_move-returns-in_ok-found-in-While-clause-first g t c =
    let a = c.get-then-holds.result.now in
    move_as c.before-then-holds.result (moved_in (λ l. tidy_seq l c.args.prog.now) c.in_ok-found-in-While.found) (first_move _ _ _ c.args.prog.now) (ap (λ (w : Option Move). moved_in (λ l. tidy_seq l c.args.prog.now) w) c.in_ok-found-in-While.ensures.first ∙ sym (while_first _ _ _ c.args.self.now.here.fit.guarded c.args.prog.now a c.in-While.cond c.truth.result c.truth.ensures (sym c.holds.ensures ∙ c.if-holds.true) (one_same (prog.While c.in-While.cond) c.in-While.is c.get-then-holds.ensures))) c.before-then-holds.ensures.left

pub first_move-returns-else-holds-clause-first : goal.first_move-returns-else-holds-clause-first
first_move-returns-else-holds-clause-first g t c =
    sym (while_none _ _ _ c.args.self.now.here.fit.guarded c.args.prog.now c.in-While.body c.in-While.cond c.truth.result c.truth.ensures (sym c.holds.ensures ∙ c.if-holds.false) c.in-While.is)

pub first_of_choice-first_move-requires : goal.first_of_choice-first_move-requires
first_of_choice-first_move-requires g t c κs within =
    let part = down ((choice_parts c.requires.closed refl).one) in
    search rules

pub first_of_choice-first_move-requires-in-None : goal.first_of_choice-first_move-requires-in-None
first_of_choice-first_move-requires-in-None g t c κs within =
    let part = down ((choice_parts c.requires.closed refl).other) in
    search rules

pub first_of_choice-returns-in-Some-clause-first : goal.first_of_choice-returns-in-Some-clause-first
first_of_choice-returns-in-Some-clause-first g t c =
    sym (choice_first _ _ _ c.args.self.now.here.fit.guarded c.args.one.now c.args.other.now c.in-Some.found (sym c.in-Some.is ∙ c.in_ok-found.ensures.first))

pub first_of_choice-returns-in-None-clause-first : goal.first_of_choice-returns-in-None-clause-first
first_of_choice-returns-in-None-clause-first g t c =
    move_as c.first_move-in-None.result (first_move _ _ _ c.args.other.now) (first_move _ _ _ (prog.Choice c.args.one.now c.args.other.now)) (sym (choice_second _ _ _ c.args.self.now.here.fit.guarded c.args.one.now c.args.other.now (sym c.in-None.is ∙ c.in_ok-found.ensures.first))) c.first_move-in-None.ensures.first

pub first_of_conc-first_move-requires : goal.first_of_conc-first_move-requires
first_of_conc-first_move-requires g t c κs within =
    let part = down ((conc_parts c.requires.closed refl).one) in
    search rules

pub first_of_conc-first_move-requires-in-None : goal.first_of_conc-first_move-requires-in-None
first_of_conc-first_move-requires-in-None g t c κs within =
    let part = down ((conc_parts c.requires.closed refl).other) in
    search rules

pub first_of_conc-returns-in-Some-clause-first : goal.first_of_conc-returns-in-Some-clause-first
first_of_conc-returns-in-Some-clause-first g t c =
    move_as c.first_beside.result _ (first_move _ _ _ (prog.Conc c.args.one.now c.args.other.now)) (sym (conc_first _ _ _ c.args.self.now.here.fit.guarded c.args.one.now c.args.other.now c.in-Some.found (sym c.in-Some.is ∙ c.in_ok-found.ensures.first))) c.first_beside.ensures.left

pub first_of_conc-returns-in_ok-found-in-None-clause-first : goal.first_of_conc-returns-in_ok-found-in-None-clause-first
first_of_conc-returns-in_ok-found-in-None-clause-first g t c =
    move_as c.second_beside.result (moved_in (λ l. tidy_conc c.args.one.now l) c.in_ok-found-in-None.found) (first_move _ _ _ (prog.Conc c.args.one.now c.args.other.now)) (ap (λ (w : Option Move). moved_in (λ l. tidy_conc c.args.one.now l) w) c.in_ok-found-in-None.ensures.first ∙ sym (conc_second _ _ _ c.args.self.now.here.fit.guarded c.args.one.now c.args.other.now (sym c.in-None.is ∙ c.in_ok-found.ensures.first))) c.second_beside.ensures.left

pub first_of_prio-first_move-requires : goal.first_of_prio-first_move-requires
first_of_prio-first_move-requires g t c κs within =
    let part = down ((prio_parts c.requires.closed refl).one) in
    search rules

pub first_of_prio-first_move-requires-else-holds_in : goal.first_of_prio-first_move-requires-else-holds_in
first_of_prio-first_move-requires-else-holds_in g t c κs within =
    let part = down ((prio_parts c.requires.closed refl).other) in
    search rules

pub first_of_prio-returns-in-Some-clause-first : goal.first_of_prio-returns-in-Some-clause-first
first_of_prio-returns-in-Some-clause-first g t c =
    move_as c.over.result _ (first_move _ _ _ (prog.Prio c.args.high.now c.args.low.now)) (sym (prio_first _ _ _ c.args.self.now.here.fit.guarded c.args.high.now c.args.low.now c.in-Some.found (sym c.in-Some.is ∙ c.in_ok-found.ensures.first))) c.over.ensures.left

pub first_of_prio-returns-then-holds_in-clause-first : goal.first_of_prio-returns-then-holds_in-clause-first
first_of_prio-returns-then-holds_in-clause-first g t c =
    let may = sym (c.in_ok-reach-in-None.ensures.reach.steps May) ∙ sym c.holds_in.ensures ∙ c.if-holds_in.true in
    sym (prio_kept _ _ _ c.args.self.now.here.fit.guarded c.args.high.now c.args.low.now (sym c.in-None.is ∙ c.in_ok-found.ensures.first) may)

pub first_of_prio-returns-in_ok-found-in-None-clause-first : goal.first_of_prio-returns-in_ok-found-in-None-clause-first
first_of_prio-returns-in_ok-found-in-None-clause-first g t c =
    let may = sym (c.in_ok-reach-in-None.ensures.reach.steps May) ∙ sym c.holds_in.ensures ∙ c.if-holds_in.false in
    move_as c.under.result (moved_in (λ l. tidy_prio c.args.high.now l) c.in_ok-found-in-None.found) (first_move _ _ _ (prog.Prio c.args.high.now c.args.low.now)) (ap (λ (w : Option Move). moved_in (λ l. tidy_prio c.args.high.now l) w) c.in_ok-found-in-None.ensures.first ∙ sym (prio_second _ _ _ c.args.self.now.here.fit.guarded c.args.high.now c.args.low.now (sym c.in-None.is ∙ c.in_ok-found.ensures.first) may)) c.under.ensures.left

pub first_of_seq-first_move-requires : goal.first_of_seq-first_move-requires
first_of_seq-first_move-requires g t c κs within =
    let part = down ((seq_parts c.requires.closed refl).one) in
    search rules

pub first_of_seq-can_end-requires : goal.first_of_seq-can_end-requires
first_of_seq-can_end-requires g t c =
    (seq_parts c.requires.closed refl).one.closed_too

pub first_of_seq-first_move-requires-then-branch : goal.first_of_seq-first_move-requires-then-branch
first_of_seq-first_move-requires-then-branch g t c κs within =
    let end = sym c.in_ok-can_end-in-None.ensures ∙ c.if-branch.true in
    let part = down ((skipped (final-skips c.args.self.now.here.agent.now c.args.self.now.here.values.now c.args.self.now.here.fit.guarded Must c.args.one.now end) (seq_parts c.requires.closed refl)).other) in
    search rules

pub first_of_seq-returns-in-Some-clause-first : goal.first_of_seq-returns-in-Some-clause-first
first_of_seq-returns-in-Some-clause-first g t c =
    move_as c.before-in-Some.result _ (first_move _ _ _ (prog.Seq c.args.one.now c.args.other.now)) (sym (seq_first _ _ _ c.args.self.now.here.fit.guarded c.args.one.now c.args.other.now c.in-Some.found (sym c.in-Some.is ∙ c.in_ok-found.ensures.first))) c.before-in-Some.ensures.left

pub first_of_seq-returns-then-branch-clause-first : goal.first_of_seq-returns-then-branch-clause-first
first_of_seq-returns-then-branch-clause-first g t c =
    let end = sym c.in_ok-can_end-in-None.ensures ∙ c.if-branch.true in
    move_as c.first_move-then-branch.result (first_move _ _ _ c.args.other.now) (first_move _ _ _ (prog.Seq c.args.one.now c.args.other.now)) (sym (seq_second _ _ _ c.args.self.now.here.fit.guarded c.args.one.now c.args.other.now (sym c.in-None.is ∙ c.in_ok-found.ensures.first) end)) c.first_move-then-branch.ensures.first

pub first_of_seq-returns-else-branch-clause-first : goal.first_of_seq-returns-else-branch-clause-first
first_of_seq-returns-else-branch-clause-first g t c =
    let end = sym c.in_ok-can_end-in-None.ensures ∙ c.if-branch.false in
    sym (seq_neither _ _ _ c.args.self.now.here.fit.guarded c.args.one.now c.args.other.now (sym c.in-None.is ∙ c.in_ok-found.ensures.first) end)

pub first_of_if-truth-requires : goal.first_of_if-truth-requires
first_of_if-truth-requires g t c =
    let parts = if_parts c.requires.closed refl in
    parts.cond

pub first_of_if-first_move-requires : goal.first_of_if-first_move-requires
first_of_if-first_move-requires g t c κs within =
    let part = down ((if_parts c.requires.closed refl).yes) in
    search rules

pub first_of_if-first_move-requires-in-No : goal.first_of_if-first_move-requires-in-No
first_of_if-first_move-requires-in-No g t c κs within =
    let part = down ((if_parts c.requires.closed refl).no) in
    search rules

pub first_of_if-returns-in-Yes-clause-first : goal.first_of_if-returns-in-Yes-clause-first
first_of_if-returns-in-Yes-clause-first g t c =
    move_as c.first_move.result (first_move _ _ _ c.args.yes.now) (first_move _ _ _ (prog.If c.args.cond.now c.args.yes.now c.args.no.now)) (sym (if_first _ _ _ c.args.self.now.here.fit.guarded c.args.cond.now c.args.yes.now c.args.no.now Yes (sym c.in-Yes.is ∙ c.truth.ensures))) c.first_move.ensures.first

pub first_of_if-returns-in-No-clause-first : goal.first_of_if-returns-in-No-clause-first
first_of_if-returns-in-No-clause-first g t c =
    move_as c.first_move-in-No.result (first_move _ _ _ c.args.no.now) (first_move _ _ _ (prog.If c.args.cond.now c.args.yes.now c.args.no.now)) (sym (if_first _ _ _ c.args.self.now.here.fit.guarded c.args.cond.now c.args.yes.now c.args.no.now No (sym c.in-No.is ∙ c.truth.ensures))) c.first_move-in-No.ensures.first

pub first_of_if-returns-in-Unknown-clause-first : goal.first_of_if-returns-in-Unknown-clause-first
first_of_if-returns-in-Unknown-clause-first g t c =
    sym (if_first _ _ _ c.args.self.now.here.fit.guarded c.args.cond.now c.args.yes.now c.args.no.now Unknown (sym c.in-Unknown.is ∙ c.truth.ensures))

pub first_of-first_move-first-requires : goal.first_of-first_move-first-requires
first_of-first_move-first-requires g t c κs within =
    let low : 1 + 3 * (front c.args.self.now.here.agent.now c.args.prog).height < 2 + 3 * (front c.args.self.now.here.agent.now c.args.prog).height = omega arith in
    search rules

pub first_of_pick-loop-constant-init : goal.first_of_pick-loop-constant-init
first_of_pick-loop-constant-init g t c =
    pick_from _ _ _ c.args.self.now.here.fit.guarded c.args.var c.args.sort c.args.body.now

pub first_of_pick-first_of-requires : goal.first_of_pick-first_of-requires
first_of_pick-first_of-requires g t c κs within =
    let below : c.loop-constant.constant < sort_size c.args.self.now.here.agent.now c.args.sort = omega arith in
    let part = down (part_as c.in_ok-put.ensures (pick_part _ _ _ _ _ c.requires.closed refl c.loop-constant.constant below)) in
    search rules

pub first_of_pick-loop-constant-preserved : goal.first_of_pick-loop-constant-preserved
first_of_pick-loop-constant-preserved g t c =
    let below : c.loop-constant.constant < sort_size c.args.self.now.here.agent.now c.args.sort = omega arith in
    let none : c.in_ok-found.found ≡ None = search rules in
    pick_next _ _ _ c.args.self.now.here.fit.guarded c.args.var c.args.sort c.args.body.now c.loop-constant.constant below (sym none ∙ c.in_ok-found.ensures.first ∙ ap (first_move _ _ _) c.in_ok-put.ensures) c.loop-constant.invariant

pub first_of_pick-returns-in-Some-clause-first : goal.first_of_pick-returns-in-Some-clause-first
first_of_pick-returns-in-Some-clause-first g t c =
    let below : c.loop-constant.constant < sort_size c.args.self.now.here.agent.now c.args.sort = omega arith in
    sym (pick_here _ _ _ c.args.self.now.here.fit.guarded c.args.var c.args.sort c.args.body.now c.loop-constant.constant c.in-Some.found below (sym c.in-Some.is ∙ c.in_ok-found.ensures.first ∙ ap (first_move _ _ _) c.in_ok-put.ensures) c.loop-constant.invariant)

pub first_of_pick-returns-clause-first : goal.first_of_pick-returns-clause-first
first_of_pick-returns-clause-first g t c =
    sym (pick_none _ _ _ c.args.self.now.here.fit.guarded c.args.var c.args.sort c.args.body.now c.loop-constant.constant (omega arith) c.loop-constant.invariant)

pub first_of_call-body_of-requires : goal.first_of_call-body_of-requires
first_of_call-body_of-requires g t c =
    call_few _ c.args.self.now.here.fit _ _ _ c.requires.closed refl

pub first_of_call-first_of-requires : goal.first_of_call-first_of-requires
first_of_call-first_of-requires g t c κs within =
    let part = down (part_as c.in_ok-body.ensures (call_part _ c.args.self.now.here.fit _ _ _ c.requires.closed refl)) in
    search rules

pub first_of_call-returns-clause-first : goal.first_of_call-returns-clause-first
first_of_call-returns-clause-first g t c =
    move_as c.first_of.result (first_move _ _ _ c.in_ok-body.body) (first_move _ _ _ (prog.Call c.args.item c.args.args.now)) (ap (first_move _ _ _) c.in_ok-body.ensures ∙ sym (call_first _ _ _ c.args.self.now.here.fit.guarded c.args.item c.args.args.now)) c.first_of.ensures.first

pub first_move-first_of_block-requires-clause-closed : goal.first_move-first_of_block-requires-clause-closed
first_move-first_of_block-requires-clause-closed g t c =
    let a = c.get-in-Search.result.now in
    search_begins c.args.self.now.here.agent.now c.args.prog.now a c.in-Search.depth c.in-Search.fuel _ refl c.requires.closed (one_same (prog.Search c.in-Search.depth c.in-Search.fuel) c.in-Search.is c.get-in-Search.ensures)

pub first_move-returns-in-Search-clause-first : goal.first_move-returns-in-Search-clause-first
first_move-returns-in-Search-clause-first g t c =
    let a = c.get-in-Search.result.now in
    move_as c.first_of_block.result _ (first_move _ _ _ c.args.prog.now) (search_first _ _ _ c.args.self.now.here.fit.guarded c.in-Search.depth c.in-Search.fuel a ∙ sym (ap (first_move _ _ _) (one_same (prog.Search c.in-Search.depth c.in-Search.fuel) c.in-Search.is c.get-in-Search.ensures))) c.first_of_block.ensures.first

pub first_move-returns-in-Follow-clause-first : goal.first_move-returns-in-Follow-clause-first
first_move-returns-in-Follow-clause-first g t c =
    let a = c.get-in-Follow.result.now in
    first_as _ _ _ c.first_of_block-in-Follow.result ((one_same (λ (z : Prog). prog.Follow c.in-Follow.depth c.in-Follow.fuel z c.in-Follow.rest) c.in-Follow.is c.get-in-Follow.ensures) ∙ ap (prog.Follow c.in-Follow.depth c.in-Follow.fuel a) (sym c.as_slice-in-Follow.ensures)) c.first_of_block-in-Follow.ensures.first

pub first_move-returns-in-Act-clause-first : goal.first_move-returns-in-Act-clause-first
first_move-returns-in-Act-clause-first g t c =
    c.act_move.ensures (g.B.Blocks.moves c.args.self.now.blocks.now c.args.self.now.here.agent.now c.args.self.now.here.values.now) ∙ ap (first_move _ _ _) (sym (c.in-Act.is ∙ ap (prog.Act c.in-Act.action) (sym c.as_slice.ensures)))

pub first_move-returns-in-Test-clause-first : goal.first_move-returns-in-Test-clause-first
first_move-returns-in-Test-clause-first g t c =
    c.test_move.ensures (g.B.Blocks.moves c.args.self.now.blocks.now c.args.self.now.here.agent.now c.args.self.now.here.values.now) ∙ ap (first_move _ _ _) (sym c.in-Test.is)

pub first_of_prio-reach_of-requires-clause-closed : goal.first_of_prio-reach_of-requires-clause-closed
first_of_prio-reach_of-requires-clause-closed g t c =
    (prio_parts c.requires.closed refl).one.closed_too

pub first_of_seq-returns-in_err-found-clause-fuel : goal.first_of_seq-returns-in_err-found-clause-fuel
first_of_seq-returns-in_err-found-clause-fuel g t c =
    stops_from _ _ false c.from_residual.result c.in_err-found.field-0.0 c.args.one.now (prog.Seq c.args.one.now c.args.other.now) c.from_residual.ensures.1
    (seq_one _ _ false c.args.one.now c.args.other.now) c.in_err-found.ensures.fuel

pub first_of_seq-returns-in-Some-clause-fuel : goal.first_of_seq-returns-in-Some-clause-fuel
first_of_seq-returns-in-Some-clause-fuel g t c =
    memory_stops _ _ false c.before-in-Some.result (prog.Seq c.args.one.now c.args.other.now) c.before-in-Some.ensures.memory

pub first_of_seq-returns-then-branch-clause-fuel : goal.first_of_seq-returns-then-branch-clause-fuel
first_of_seq-returns-then-branch-clause-fuel g t c =
    let end = sym c.in_ok-can_end-in-None.ensures ∙ c.if-branch.true in
    stops_as _ _ false c.first_move-then-branch.result c.args.other.now (prog.Seq c.args.one.now c.args.other.now)
    (seq_other _ _ false c.args.one.now c.args.other.now (final-skips c.args.self.now.here.agent.now c.args.self.now.here.values.now c.args.self.now.here.fit.guarded Must c.args.one.now end)) c.first_move-then-branch.ensures.fuel

pub first_of_choice-returns-in_err-found-clause-fuel : goal.first_of_choice-returns-in_err-found-clause-fuel
first_of_choice-returns-in_err-found-clause-fuel g t c =
    stops_from _ _ false c.from_residual.result c.in_err-found.field-0.0 c.args.one.now (prog.Choice c.args.one.now c.args.other.now) c.from_residual.ensures.1
    (λ h. parts_lack _ _ false (prog.Choice c.args.one.now c.args.other.now) c.args.one.now c.args.other.now (Choice c.args.one.now c.args.other.now) (prog.outs-Choice c.args.one.now c.args.other.now) (λ f. refl) (inl h)) c.in_err-found.ensures.fuel

pub first_of_choice-returns-in-None-clause-fuel : goal.first_of_choice-returns-in-None-clause-fuel
first_of_choice-returns-in-None-clause-fuel g t c =
    stops_as _ _ false c.first_move-in-None.result c.args.other.now (prog.Choice c.args.one.now c.args.other.now)
    (λ h. parts_lack _ _ false (prog.Choice c.args.one.now c.args.other.now) c.args.one.now c.args.other.now (Choice c.args.one.now c.args.other.now) (prog.outs-Choice c.args.one.now c.args.other.now) (λ f. refl) (inr h)) c.first_move-in-None.ensures.fuel

pub first_of_conc-returns-in_err-found-clause-fuel : goal.first_of_conc-returns-in_err-found-clause-fuel
first_of_conc-returns-in_err-found-clause-fuel g t c =
    stops_from _ _ false c.from_residual.result c.in_err-found.field-0.0 c.args.one.now (prog.Conc c.args.one.now c.args.other.now) c.from_residual.ensures.1
    (λ h. parts_lack _ _ false (prog.Conc c.args.one.now c.args.other.now) c.args.one.now c.args.other.now (Conc c.args.one.now c.args.other.now) (prog.outs-Conc c.args.one.now c.args.other.now) (λ f. refl) (inl h)) c.in_err-found.ensures.fuel

pub first_of_conc-returns-in-Some-clause-fuel : goal.first_of_conc-returns-in-Some-clause-fuel
first_of_conc-returns-in-Some-clause-fuel g t c =
    memory_stops _ _ false c.first_beside.result (prog.Conc c.args.one.now c.args.other.now) c.first_beside.ensures.memory

pub first_of_conc-returns-in_err-found-in-None-clause-fuel : goal.first_of_conc-returns-in_err-found-in-None-clause-fuel
first_of_conc-returns-in_err-found-in-None-clause-fuel g t c =
    stops_from _ _ false c.from_residual-in_err-found-in-None.result c.in_err-found-in-None.field-0.0 c.args.other.now (prog.Conc c.args.one.now c.args.other.now) c.from_residual-in_err-found-in-None.ensures.1
    (λ h. parts_lack _ _ false (prog.Conc c.args.one.now c.args.other.now) c.args.one.now c.args.other.now (Conc c.args.one.now c.args.other.now) (prog.outs-Conc c.args.one.now c.args.other.now) (λ f. refl) (inr h)) c.in_err-found-in-None.ensures.fuel

pub first_of_conc-returns-in_ok-found-in-None-clause-fuel : goal.first_of_conc-returns-in_ok-found-in-None-clause-fuel
first_of_conc-returns-in_ok-found-in-None-clause-fuel g t c =
    memory_stops _ _ false c.second_beside.result (prog.Conc c.args.one.now c.args.other.now) c.second_beside.ensures.memory

pub first_of_prio-returns-in_err-found-clause-fuel : goal.first_of_prio-returns-in_err-found-clause-fuel
first_of_prio-returns-in_err-found-clause-fuel g t c =
    stops_from _ _ false c.from_residual.result c.in_err-found.field-0.0 c.args.high.now (prog.Prio c.args.high.now c.args.low.now) c.from_residual.ensures.1
    (λ h. prio_high _ _ false c.args.high.now c.args.low.now (lacks_higher _ _ c.args.high.now h)) c.in_err-found.ensures.fuel

pub first_of_prio-returns-in-Some-clause-fuel : goal.first_of_prio-returns-in-Some-clause-fuel
first_of_prio-returns-in-Some-clause-fuel g t c =
    memory_stops _ _ false c.over.result (prog.Prio c.args.high.now c.args.low.now) c.over.ensures.memory

pub first_of_prio-returns-in_err-reach-in-None-clause-fuel : goal.first_of_prio-returns-in_err-reach-in-None-clause-fuel
first_of_prio-returns-in_err-reach-in-None-clause-fuel g t c =
    stops_above _ _ c.from_residual-in_err-reach-in-None.result c.in_err-reach-in-None.field-0.0 c.args.high.now (prog.Prio c.args.high.now c.args.low.now) c.from_residual-in_err-reach-in-None.ensures.1
    (prio_high _ _ false c.args.high.now c.args.low.now) c.in_err-reach-in-None.ensures.fuel

pub first_of_prio-returns-in_err-found-in-None-clause-fuel : goal.first_of_prio-returns-in_err-found-in-None-clause-fuel
first_of_prio-returns-in_err-found-in-None-clause-fuel g t c =
    stops_from _ _ false c.from_residual-in_err-found-in-None.result c.in_err-found-in-None.field-0.0 c.args.low.now (prog.Prio c.args.high.now c.args.low.now) c.from_residual-in_err-found-in-None.ensures.1
    (prio_low _ _ false c.args.high.now c.args.low.now) c.in_err-found-in-None.ensures.fuel

pub first_of_prio-returns-in_ok-found-in-None-clause-fuel : goal.first_of_prio-returns-in_ok-found-in-None-clause-fuel
first_of_prio-returns-in_ok-found-in-None-clause-fuel g t c =
    memory_stops _ _ false c.under.result (prog.Prio c.args.high.now c.args.low.now) c.under.ensures.memory

pub first_of_if-returns-in-Yes-clause-fuel : goal.first_of_if-returns-in-Yes-clause-fuel
first_of_if-returns-in-Yes-clause-fuel g t c =
    stops_as _ _ false c.first_move.result c.args.yes.now (prog.If c.args.cond.now c.args.yes.now c.args.no.now)
    (λ h. parts_lack _ _ false (prog.If c.args.cond.now c.args.yes.now c.args.no.now) c.args.yes.now c.args.no.now (If c.args.cond.now c.args.yes.now c.args.no.now) (prog.outs-If c.args.cond.now c.args.yes.now c.args.no.now) (λ f. refl) (inl h)) c.first_move.ensures.fuel

pub first_of_if-returns-in-No-clause-fuel : goal.first_of_if-returns-in-No-clause-fuel
first_of_if-returns-in-No-clause-fuel g t c =
    stops_as _ _ false c.first_move-in-No.result c.args.no.now (prog.If c.args.cond.now c.args.yes.now c.args.no.now)
    (λ h. parts_lack _ _ false (prog.If c.args.cond.now c.args.yes.now c.args.no.now) c.args.yes.now c.args.no.now (If c.args.cond.now c.args.yes.now c.args.no.now) (prog.outs-If c.args.cond.now c.args.yes.now c.args.no.now) (λ f. refl) (inr h)) c.first_move-in-No.ensures.fuel

pub first_of_pick-returns-in_err-found-clause-fuel : goal.first_of_pick-returns-in_err-found-clause-fuel
first_of_pick-returns-in_err-found-clause-fuel g t c =
    let below : c.loop-constant.constant < sort_size c.args.self.now.here.agent.now c.args.sort = omega arith in
    stops_from _ _ false c.from_residual-in_err-found.result c.in_err-found.field-0.0 c.in_ok-put.put (prog.Pick c.args.var c.args.sort c.args.body.now) c.from_residual-in_err-found.ensures.1
    (λ h. pick_lacks _ _ false c.args.var c.args.sort c.args.body.now c.loop-constant.constant below (lacks_as _ _ false _ _ c.in_ok-put.ensures h)) c.in_err-found.ensures.fuel

pub first_of_call-returns-clause-fuel : goal.first_of_call-returns-clause-fuel
first_of_call-returns-clause-fuel g t c =
    stops_as _ _ false c.first_of.result c.in_ok-body.body (prog.Call c.args.item c.args.args.now)
    (λ h. part_lacks _ _ false (prog.Call c.args.item c.args.args.now) (body_of c.args.self.now.here.agent.now c.args.item c.args.args.now) (Call c.args.item c.args.args.now) (prog.outs-Call c.args.item c.args.args.now) (λ f. refl) (lacks_as _ _ false _ _ c.in_ok-body.ensures h)) c.first_of.ensures.fuel

pub first_move-returns-in_err-found-in-Star-clause-fuel : goal.first_move-returns-in_err-found-in-Star-clause-fuel
first_move-returns-in_err-found-in-Star-clause-fuel g t c =
    let a = c.get-in-Star.result.now in
    stops_from _ _ false c.from_residual.result c.in_err-found-in-Star.field-0.0 a c.args.prog.now c.from_residual.ensures.1
    (part_lacks _ _ false c.args.prog.now a (Star a) (ap out-Prog (one_same prog.Star c.in-Star.is c.get-in-Star.ensures) ∙ prog.outs-Star a) (λ f. refl)) c.in_err-found-in-Star.ensures.fuel

pub first_move-returns-in_ok-found-in-Star-clause-fuel : goal.first_move-returns-in_ok-found-in-Star-clause-fuel
first_move-returns-in_ok-found-in-Star-clause-fuel g t c =
    memory_stops _ _ false c.before-in-Star.result c.args.prog.now c.before-in-Star.ensures.memory

pub first_move-returns-in_err-found-in-Cstar-clause-fuel : goal.first_move-returns-in_err-found-in-Cstar-clause-fuel
first_move-returns-in_err-found-in-Cstar-clause-fuel g t c =
    let a = c.get-in-Cstar.result.now in
    stops_from _ _ false c.from_residual-in_err-found-in-Cstar.result c.in_err-found-in-Cstar.field-0.0 a c.args.prog.now c.from_residual-in_err-found-in-Cstar.ensures.1
    (part_lacks _ _ false c.args.prog.now a (Cstar a) (ap out-Prog (one_same prog.Cstar c.in-Cstar.is c.get-in-Cstar.ensures) ∙ prog.outs-Cstar a) (λ f. refl)) c.in_err-found-in-Cstar.ensures.fuel

pub first_move-returns-in_ok-found-in-Cstar-clause-fuel : goal.first_move-returns-in_ok-found-in-Cstar-clause-fuel
first_move-returns-in_ok-found-in-Cstar-clause-fuel g t c =
    memory_stops _ _ false c.first_beside.result c.args.prog.now c.first_beside.ensures.memory

pub first_move-returns-in_err-found-in-While-clause-fuel : goal.first_move-returns-in_err-found-in-While-clause-fuel
first_move-returns-in_err-found-in-While-clause-fuel g t c =
    let a = c.get-then-holds.result.now in
    stops_from _ _ false c.from_residual-in_err-found-in-While.result c.in_err-found-in-While.field-0.0 a c.args.prog.now c.from_residual-in_err-found-in-While.ensures.1
    (part_lacks _ _ false c.args.prog.now a (While c.in-While.cond a) (ap out-Prog (one_same (prog.While c.in-While.cond) c.in-While.is c.get-then-holds.ensures) ∙ prog.outs-While c.in-While.cond a) (λ f. refl)) c.in_err-found-in-While.ensures.fuel

pub first_move-returns-in_ok-found-in-While-clause-fuel : goal.first_move-returns-in_ok-found-in-While-clause-fuel
first_move-returns-in_ok-found-in-While-clause-fuel g t c =
    memory_stops _ _ false c.before-then-holds.result c.args.prog.now c.before-then-holds.ensures.memory

pub first_move-returns-in-Search-clause-fuel : goal.first_move-returns-in-Search-clause-fuel
first_move-returns-in-Search-clause-fuel g t c =
    let a = c.get-in-Search.result.now in
    stops_as _ _ false c.first_of_block.result (prog.Follow c.in-Search.depth c.in-Search.fuel a []) c.args.prog.now (search_lacks _ _ false c.args.prog.now a c.in-Search.depth c.in-Search.fuel (one_same (prog.Search c.in-Search.depth c.in-Search.fuel) c.in-Search.is c.get-in-Search.ensures)) c.first_of_block.ensures.fuel

pub first_move-returns-in-Follow-clause-fuel : goal.first_move-returns-in-Follow-clause-fuel
first_move-returns-in-Follow-clause-fuel g t c =
    let a = c.get-in-Follow.result.now in
    let rest = c.as_slice-in-Follow.result.now in
    let block = prog.Follow c.in-Follow.depth c.in-Follow.fuel a rest in
    stops_as _ _ false c.first_of_block-in-Follow.result block c.args.prog.now (lacks_as _ _ false block c.args.prog.now (sym ((one_same (λ (z : Prog). prog.Follow c.in-Follow.depth c.in-Follow.fuel z c.in-Follow.rest) c.in-Follow.is c.get-in-Follow.ensures) ∙ ap (prog.Follow c.in-Follow.depth c.in-Follow.fuel a) (sym c.as_slice-in-Follow.ensures)))) c.first_of_block-in-Follow.ensures.fuel
