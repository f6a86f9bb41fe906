use Rattle.std.proofs.Common.{◌≡◌, ℕ, suc, ◌+◌, ◌-◌, [], length, ap, subst, arith}
use Rattle.golog_tree.specs.Ground.{fluent_args}
use Rattle.golog_tree.proofs.Numbers.{length-all_from}
use Rattle.golog_semantics.specs.Values.{ground_fluents}
use Rattle.golog_reports.specs.Answers.{ReadsOn, code_at}
use Rattle.golog_reports.specs.Reads.{begin_read, head_from}
use Rattle.golog_reports.proofs.HeadSteps.{head_goes_on, head_is_refused, one-start, refused_on, same_outcome}
use Rattle.golog_reports.proofs.head.read_head.Goals as goal

pub read_start-requires-clause-number : goal.read_start-requires-clause-number
read_start-requires-clause-number c =
    let whole = length-all_from c.args.agent.now (fluent_args c.args.agent.now) 0 in
    omega (arith, c.loop-test.true, c.loop.invariant.many, c.len-end.ensures, c.requires.formed.starts.whole, whole)

pub returns-in_err-rest : goal.returns-in_err-rest
returns-in_err-rest c =
    let agent = c.args.agent.now in
    let many = length (ground_fluents agent) in
    let values = c.loop.values in
    let rest = c.loop.rest.now in
    let fault = c.in_err-rest.field-0.0 in
    let whole = head_from agent many [] c.args.text.now in
    let more = many - (c.loop.counter + 1) in
    let next : many - c.loop.counter ≡ suc more = omega (arith, c.loop-test.true, c.len-end.ensures, c.requires.formed.starts.whole) in
    let so_far = subst (λ (k : ℕ). (head_from agent k values rest).outcome ≡ whole.outcome) next c.loop.invariant.same in
    refused_on c.from_residual.result fault c.read_start.new.values whole c.from_residual.ensures.1
    (head_is_refused agent values rest more whole.outcome so_far (code_at fault) c.in_err-rest.ensures)

pub loop-preserved : goal.loop-preserved
loop-preserved c =
    let agent = c.args.agent.now in
    let many = length (ground_fluents agent) in
    let values = c.loop.values in
    let rest = c.loop.rest.now in
    let whole = (head_from agent many [] c.args.text.now).outcome in
    let more = many - (c.loop.counter + 1) in
    let next : many - c.loop.counter ≡ suc more = omega (arith, c.loop-test.true, c.len-end.ensures, c.requires.formed.starts.whole) in
    let so_far = subst (λ (k : ℕ). (head_from agent k values rest).outcome ≡ whole) next c.loop.invariant.same in
    let new = c.read_start.new.values in
    let one = one-start agent values rest new c.in_ok-rest.rest.now c.in_ok-rest.ensures in
    record {
      same = head_goes_on agent values rest more whole so_far new c.in_ok-rest.rest.now c.in_ok-rest.ensures;
      many = omega (arith, one, c.loop.invariant.many);
    }

pub read_begin-requires : goal.read_begin-requires
read_begin-requires c =
    let whole = length-all_from c.args.agent.now (fluent_args c.args.agent.now) 0 in
    omega (arith, ap length c.as_slice.ensures, c.loop-test.false, c.loop.invariant.many, c.len-end.ensures, c.requires.formed.starts.whole, c.requires.formed.countable.ground_fluents, whole, c.loop.auto.counter-end)

pub returns : goal.returns
unfolding head_from
returns c =
    let agent = c.args.agent.now in
    let many = length (ground_fluents agent) in
    let values = c.loop.values in
    let rest = c.loop.rest.now in
    let whole = head_from agent many [] c.args.text.now in
    let none : many - c.loop.counter ≡ 0 = omega (arith, c.loop-test.false, c.len-end.ensures, c.requires.formed.starts.whole) in
    let so_far = subst (λ (k : ℕ). (head_from agent k values rest).outcome ≡ whole.outcome) none c.loop.invariant.same in
    same_outcome c.read_begin.result values (begin_read values rest) whole so_far
    (subst (λ vs. ReadsOn c.read_begin.result vs (begin_read vs rest)) c.as_slice.ensures c.read_begin.ensures)
