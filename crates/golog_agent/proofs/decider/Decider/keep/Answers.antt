use Rattle.std.proofs.Common.{◌≡◌, ℕ, List, Option, true, sym, subst}
use Rattle.std.specs.Prelude.{IfSome}
use Rattle.golog_search.specs.declared.decision.Decision.{Decision}
use Rattle.golog_search.specs.Decided.{IsAhead}
use Rattle.golog_agent.specs.Configuration.{Configuration}
use Rattle.golog_agent.proofs.KeptDecision.{IsKept, keeps-ahead}
use Rattle.golog_agent.proofs.decider.Decider.keep.Goals as goal

pub invariant_of-self : goal.invariant_of-self
invariant_of-self c =
    let r = c.self.inside in (
      c.self.invariant.0,
      subst (λ (at : Option (List ℕ)). IsKept r.agent.now r.left at c.replace-2.new.dest) (sym c.replace.ensures.after)
          (subst (λ (ahead : Option Decision). IsKept r.agent.now r.left c.copied-at.result ahead) (sym c.replace-2.ensures.after)
          (keeps-ahead r.agent.now r.left r.state c.args.ahead c.copied-at.result
          (subst (λ values. IfSome c.copied-at.result (λ copy. copy ≡ values)) c.values.ensures c.copied-at.ensures)
          (subst (λ (v : Configuration). IsAhead v.agent v.values v.left true c.args.ahead) (sym c.self.view_is) c.requires))),
      c.self.invariant.2,
      c.self.invariant.3,
    )
