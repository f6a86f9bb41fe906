use Rattle.std.proofs.Common.{◌≡◌, ◌≤◌, length, sym, ap, ◌∙◌, subst}
use Rattle.std.specs.Prelude.{IfOk}
use Rattle.golog_tree.specs.Ground.{ground_fluents}
use Rattle.golog_semantics.specs.Truth.{Values}
use Rattle.golog_flat.specs.Effects.{Agree, ends_all}
use Rattle.golog_flat.proofs.Agreeing.{ends-length, few-fluents}
use Rattle.golog_flat.proofs.writes.writes_of.Goals as goal

pub agreeing-writes-requires-clause-even : goal.agreeing-writes-requires-clause-even
agreeing-writes-requires-clause-even c =
    let agent = c.args.agent.now in
    ap (λ (vs : Values). length vs) (c.as_slice-2.ensures ∙ c.in_ok-highs.ensures) ∙ ends-length agent c.args.action 255
    ∙ sym (ap (λ (vs : Values). length vs) (c.as_slice.ensures ∙ c.in_ok-lows.ensures) ∙ ends-length agent c.args.action 0)

pub agreeing-writes-requires-clause-few : goal.agreeing-writes-requires-clause-few
agreeing-writes-requires-clause-few c =
    let agent = c.args.agent.now in
    let count : length c.as_slice.result.now ≡ length (ground_fluents agent) = ap (λ (vs : Values). length vs) (c.as_slice.ensures ∙ c.in_ok-lows.ensures) ∙ ends-length agent c.args.action 0 in
    subst (λ k. k ≤ 4096) (sym count) (few-fluents agent c.requires.agent)

pub returns : goal.returns
returns c =
    let agent = c.args.agent.now in
    subst (λ vs. IfOk c.agreeing-writes.result (Agree vs (ends_all agent c.args.action 255))) (c.as_slice.ensures ∙ c.in_ok-lows.ensures)
    (subst (λ vs. IfOk c.agreeing-writes.result (Agree c.as_slice.result.now vs)) (c.as_slice-2.ensures ∙ c.in_ok-highs.ensures) c.agreeing-writes.ensures)
