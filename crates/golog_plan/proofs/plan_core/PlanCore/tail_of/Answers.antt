use Rattle.std.proofs.Common.{◌≡◌, ◌++◌, ◌∙◌, subst, sym, ap}
use Rattle.std.specs.Prelude.{IfOk, IsTrue, codes}
use Rattle.golog_semantics.specs.Text.{Text}
use Rattle.golog_branch.specs.TreeTexts.{is_told, tree_text}
use Rattle.golog_plan.specs.PlanTexts.{ended_line}
use Rattle.golog_plan.proofs.Decisions.{own-agent}
use Rattle.golog_plan.proofs.Following.{own-formed, seen_as}
use Rattle.golog_plan.proofs.plan_core.PlanCore.tail_of.Goals as goal

pub tree_text-requires : goal.tree_text-requires
tree_text-requires c =
    let r = c.self.inside in
    let k = c.self.invariant in
    record {
      agent = own-formed (seen_as r.counts r.depth r.fuel) r.agent.now r.state r.kept r.ended k;
      facts = c.facts.ensures ∙ sym k.own_so;
      told =
          subst (λ a. IsTrue (is_told a c.args.tree.now)) (sym (own-agent (seen_as r.counts r.depth r.fuel) c.args.self.now r.agent.now r.state r.kept r.ended k c.self.view_is))
          c.requires.told;
    }

pub returns : goal.returns
returns c =
    let r = c.self.inside in
    subst (λ (x : Text). IfOk c.joined-tail.result (λ (tail : Text). tail ≡ ended_line (codes " tree " ++ x)))
    (c.as_slice.ensures ∙ c.in_ok-text.ensures
    ∙ ap (λ a. tree_text a c.args.tree.now) (own-agent (seen_as r.counts r.depth r.fuel) c.args.self.now r.agent.now r.state r.kept r.ended c.self.invariant c.self.view_is))
    c.joined-tail.ensures
