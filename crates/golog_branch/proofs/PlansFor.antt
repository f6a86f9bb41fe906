-- What is so of a plan that is found.
use Rattle.std.proofs.Common.{◌≡◌, ℕ, sym}
use Rattle.golog_tree.specs.declared.agent.Agent.{Agent}
use Rattle.golog_tree.specs.declared.prog.Prog.{Prog}
use Rattle.golog_semantics.specs.Truth.{Values}
use Rattle.golog_semantics.specs.WellFormed.{WellFormed}
use Rattle.golog_ways.specs.Searched.{IsSearched}
use Rattle.golog_branch.specs.declared.tree.Planned.{Planned}
use Rattle.golog_branch.specs.declared.tree.Planned.TheVariants.{Found}
use Rattle.golog_branch.specs.declared.tree.Tree.{Tree}
use Rattle.golog_branch.specs.Plans.{planned}
use Rattle.golog_branch.specs.TreesInWorlds.{IsFoundFor, IsPlanFor}
use Rattle.golog_branch.proofs.AllTold.{all-told}
use Rattle.golog_branch.proofs.GoingOn.{goes-found}
use Rattle.golog_branch.proofs.Leading.{lead, leads-more}
use Rattle.golog_branch.proofs.PlanParts.{found-first}

module _ (agent : Agent) (formed : WellFormed agent) (p : Prog) (values : Values) (searched : IsSearched agent p values) (depth fuel : ℕ) where
  pub plan-for : (t : Tree) → planned agent depth fuel p values ≡ Found t → IsPlanFor agent depth p values t
  plan-for t found =
      let first = found-first agent depth fuel p values t found in
      record {
        leads = λ world completes. leads-more agent first.height depth t p world first.within (lead agent formed first.height p values world searched completes t first.first);
        goes_through = goes-found agent first.height p values t first.first;
        told = all-told agent formed first.height p values searched t first.first;
      }

  pub planned-so : (found : Planned) → found ≡ planned agent depth fuel p values → IsFoundFor agent depth p values found
  planned-so (Found t) e = plan-for t (sym e)
  planned-so _ e = tt
