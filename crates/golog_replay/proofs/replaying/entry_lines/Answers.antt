use Rattle.std.proofs.Common.{◌≡◌, ◌+◌, drop, sym, ap, ◌∙◌, arith}
use Rattle.golog_tree.specs.Ground.{fluent_args}
use Rattle.golog_tree.proofs.Numbers.{length-all_from}
use Rattle.golog_semantics.specs.Verdicts.{head_length}
use Rattle.golog_replay.proofs.Passing.{all-lines, behind-head}
use Rattle.golog_replay.proofs.replaying.entry_lines.Goals as goal

pub overflow_add-count : goal.overflow_add-count
overflow_add-count c =
    let whole = length-all_from c.args.agent.now (fluent_args c.args.agent.now) 0 in
    omega (arith, whole, c.requires.starts.whole, c.requires.countable.ground_fluents, c.len-count.ensures)

pub returns-then-is_some : goal.returns-then-is_some
returns-then-is_some c =
    let agent = c.args.agent.now in
    let many : c.len-count.result + 2 ≡ head_length agent = ap (λ n. n + 2) (c.len-count.ensures ∙ c.requires.starts.whole) in
    c.pass.ensures ∙ (λ i. drop (many i) (c.of-lines.ensures i))
    ∙ behind-head agent c.args.bytes.now c.args.report.now.start (sym c.is_some.ensures ∙ c.if-is_some.true)

pub returns : goal.returns
returns c = c.of-lines.ensures ∙ all-lines c.args.agent.now c.args.bytes.now c.args.report.now.start (sym c.is_some.ensures ∙ c.if-is_some.false)
