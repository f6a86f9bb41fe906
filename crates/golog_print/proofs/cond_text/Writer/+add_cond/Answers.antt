use Rattle.std.proofs.Common.{◌≡◌, List, ℕ, OnOk, subst, arith}
use Rattle.golog_print.proofs.Spaces.{closed-list}
use Rattle.golog_print.proofs.cond_text.Writer.+add_cond.Goals as goal

pub add_conds-returns : goal.add_conds-returns
add_conds-returns t c =
    subst (λ (text : List ℕ). OnOk c.push-2.result (c.push-2.new.self ≡ text))
    (closed-list c.args.self.now.agent.now c.args.self.now.stem.now c.args.conds.now c.args.text.now c.args.word.now c.open_list.new.text c.loop-cond.text c.loop-cond.cond-index
    c.in_ok-open_list.ensures c.loop-cond.invariant (omega (arith, c.loop-cond-test.false))) c.push-2.ensures.ok
