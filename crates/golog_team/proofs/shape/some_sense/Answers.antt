use Rattle.std.proofs.Common.{◌≡◌, ℕ, ◌-◌, ◌&&◌, Bool, length, sym, ap, ◌∙◌, arith}
use Rattle.std.specs.List.{list_any, range_with_len}
use Rattle.golog_tree.specs.declared.agent.Agent.{Agent}
use Rattle.golog_tree.specs.Ground.{action_args}
use Rattle.golog_tree.proofs.Numbers.{length-all_from}
use Rattle.golog_semantics.specs.Values.{ground_actions}
use Rattle.golog_semantics.specs.Journal.{is_carried_by, is_sensing}
use Rattle.golog_team.proofs.Ranges.{any-next, any-here, any-past}
use Rattle.golog_team.proofs.shape.some_sense.Goals as goal

abbrev asked : Agent → ℕ → Bool
asked agent a = is_carried_by agent 0 a && is_sensing agent a

pub loop-action-init : goal.loop-action-init
loop-action-init c =
    let n = length (ground_actions c.args.agent.now) in
    let e : n ≡ n - 0 = omega arith in
    (ap (λ k. list_any (asked c.args.agent.now) (range_with_len 0 k)) e, omega arith)

pub loop-action-preserved : goal.loop-action-preserved
loop-action-preserved c =
    let i = c.loop-action.action in
    let n = length (ground_actions c.args.agent.now) in
    let all = length-all_from c.args.agent.now (action_args c.args.agent.now) 0 in
    let counted = c.action_count-count.ensures in
    let inside = c.loop-action-test.true in (
      c.loop-action.invariant.0
          ∙ any-next (asked c.args.agent.now) i n (omega (arith, all, counted, inside))
          (ap (λ a. asked a i) (sym c.requires.facts) ∙ sym c.is_asked.ensures ∙ c.if-is_asked.false),
      omega (arith, all, counted, inside),
    )

pub returns-then-is_asked : goal.returns-then-is_asked
returns-then-is_asked c =
    let i = c.loop-action.action in
    let n = length (ground_actions c.args.agent.now) in
    let all = length-all_from c.args.agent.now (action_args c.args.agent.now) 0 in
    let counted = c.action_count-count.ensures in
    let inside = c.loop-action-test.true in
    sym (c.loop-action.invariant.0
    ∙ any-here (asked c.args.agent.now) i n (omega (arith, all, counted, inside))
    (ap (λ a. asked a i) (sym c.requires.facts) ∙ sym c.is_asked.ensures ∙ c.if-is_asked.true))

pub returns : goal.returns
returns c =
    let i = c.loop-action.action in
    let n = length (ground_actions c.args.agent.now) in
    let all = length-all_from c.args.agent.now (action_args c.args.agent.now) 0 in
    let counted = c.action_count-count.ensures in
    let past = c.loop-action-test.false in
    let most = c.loop-action.auto.action-end in
    sym (c.loop-action.invariant.0 ∙ any-past (asked c.args.agent.now) i n (omega (arith, all, counted, past, most)))
