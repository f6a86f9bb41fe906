use Rattle.std.proofs.Common.{◌≡◌, ℕ, ◌-◌, ◌&&◌, not, Bool, length, sym, ap, ◌∙◌, arith}
use Rattle.std.specs.Prelude.{find}
use Rattle.std.specs.List.{range_with_len}
use Rattle.golog_tree.specs.declared.agent.Agent.{Agent}
use Rattle.golog_tree.specs.Ground.{action_args}
use Rattle.golog_tree.proofs.Numbers.{length-all_from}
use Rattle.golog_semantics.specs.Values.{ground_actions}
use Rattle.golog_semantics.specs.Journal.{is_carried_by}
use Rattle.golog_team.specs.Shapes.{is_heard}
use Rattle.golog_team.proofs.Ranges.{find-next, find-here, find-past}
use Rattle.golog_team.proofs.shape.unheard.Goals as goal

abbrev lost : Agent → Agent → ℕ → Bool
lost agent other a = is_carried_by agent 0 a && not (is_heard agent other a)

pub loop-action-init : goal.loop-action-init
loop-action-init c =
    let n = length (ground_actions c.args.agent.now) in
    let e : n ≡ n - 0 = omega arith in
    (ap (λ k. find (lost c.args.agent.now c.args.other.now) (range_with_len 0 k)) e, omega arith)

pub loop-action-preserved : goal.loop-action-preserved
loop-action-preserved c =
    let i = c.loop-action.action in
    let n = length (ground_actions c.args.agent.now) in
    let all = length-all_from c.args.agent.now (action_args c.args.agent.now) 0 in
    let counted = c.action_count-count.ensures in
    let inside = c.loop-action-test.true in (
      c.loop-action.invariant.0
          ∙ find-next (lost c.args.agent.now c.args.other.now) i n (omega (arith, all, counted, inside)) (sym c.is_unheard.ensures ∙ c.if-is_unheard.false),
      omega (arith, all, counted, inside),
    )

pub returns-then-is_unheard : goal.returns-then-is_unheard
returns-then-is_unheard c =
    let i = c.loop-action.action in
    let n = length (ground_actions c.args.agent.now) in
    let all = length-all_from c.args.agent.now (action_args c.args.agent.now) 0 in
    let counted = c.action_count-count.ensures in
    let inside = c.loop-action-test.true in
    sym (c.loop-action.invariant.0
    ∙ find-here (lost c.args.agent.now c.args.other.now) i n (omega (arith, all, counted, inside)) (sym c.is_unheard.ensures ∙ c.if-is_unheard.true))

pub returns : goal.returns
returns c =
    let i = c.loop-action.action in
    let n = length (ground_actions c.args.agent.now) in
    let all = length-all_from c.args.agent.now (action_args c.args.agent.now) 0 in
    let counted = c.action_count-count.ensures in
    let past = c.loop-action-test.false in
    let most = c.loop-action.auto.action-end in
    sym (c.loop-action.invariant.0 ∙ find-past (lost c.args.agent.now c.args.other.now) i n (omega (arith, all, counted, past, most)))
