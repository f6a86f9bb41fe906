-- What is kept of a decision.
use Rattle.std.proofs.Common.{◌≡◌, ℕ, true, List, Option, Some, None, sym, subst}
use Rattle.std.specs.Prelude.{IfSome}
use Rattle.golog_tree.specs.declared.agent.Agent.{Agent}
use Rattle.golog_tree.specs.declared.prog.Prog.{Prog}
use Rattle.golog_search.specs.declared.decision.Decision.{Decision}
use Rattle.golog_search.specs.Decided.{IsAhead}

module _ (agent : Agent) (prog : Prog) where
  -- what is kept was decided at its values
  abbrev pub IsKept : Option (List ℕ) → Option Decision → Type 0
  IsKept at ahead = IfSome at (λ values. IsAhead agent values prog true ahead)

  -- what was decided at these values is kept with a copy of them
  pub keeps-ahead : (values : List ℕ) (ahead : Option Decision) (at : Option (List ℕ)) → IfSome at (λ copy. copy ≡ values)
      → IsAhead agent values prog true ahead → IsKept at ahead
  keeps-ahead values ahead None copied h = tt
  keeps-ahead values ahead (Some copy) copied h = subst (λ vs. IsAhead agent vs prog true ahead) (sym copied) h

  -- what is kept, at the values at which it was decided
  pub kept-ahead : (values : List ℕ) (ahead : Option Decision) (at : Option (List ℕ)) → at ≡ Some values → IsKept at ahead → IsAhead agent values prog true ahead
  kept-ahead values ahead at here h = subst (λ o. IsKept o ahead) here h
