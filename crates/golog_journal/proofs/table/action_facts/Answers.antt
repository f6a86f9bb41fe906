use Rattle.std.proofs.Common.{List, [], ◌∷◌, length, length-append, sym, ap, subst, arith, rules}
use Rattle.golog_tree.specs.Ground.{action_args}
use Rattle.golog_tree.proofs.Numbers.{length-all_from}
use Rattle.golog_journal.specs.declared.facts.ActionFact.{ActionFact}
use Rattle.golog_journal.specs.Facts.{IsFactOf, AreFacts}
use Rattle.golog_journal.proofs.FactsMade.{facts-push, facts-none}
use Rattle.golog_journal.proofs.table.action_facts.Goals as goal

pub loop-number-init : goal.loop-number-init
loop-number-init c = search (rules, facts-none)

pub loop-number-preserved : goal.loop-number-preserved
loop-number-preserved c =
    let before = c.loop-number.facts.items in
    let long = c.loop-number.invariant.1 in
    let more = c.in_ok-push.ensures.items in
    let size = ap (λ (l : List ActionFact). length l) more in
    let one = length-append before (c.fact_of.result ∷ []) in (
      subst (AreFacts c.args.agent.now) (sym more)
          (facts-push c.args.agent.now before c.fact_of.result c.loop-number.invariant.0
          (subst (λ n. IsFactOf c.args.agent.now n c.fact_of.result) (sym long) c.fact_of.ensures)),
      omega (arith, size, one, long),
    )

pub returns : goal.returns
returns c =
    let count = length-all_from c.args.agent.now (action_args c.args.agent.now) 0 in
    let long = c.loop-number.invariant.1 in
    let last = c.loop-number-test.false in
    let most = c.loop-number.auto.number-end in
    let counted = c.action_count-count.ensures in
    record { first = c.loop-number.invariant.0; whole = omega (arith, count, long, last, most, counted) }
