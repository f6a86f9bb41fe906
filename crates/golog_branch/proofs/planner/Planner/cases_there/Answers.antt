use Rattle.std.proofs.Common.{◌≡◌, ℕ, Option, IfOk, List, map, sym, subst}
use Rattle.golog_branch.specs.declared.cases.Case.{Case as AnyCase}
use Rattle.golog_branch.specs.Levels.{case_of}
use Rattle.golog_branch.specs.Trees.{cases_by}
use Rattle.golog_branch.proofs.planner.Planner.cases_there.Goals as goal

pub returns-in_default : goal.returns-in_default
returns-in_default c =
    subst (λ (o : Option ℕ). IfOk c.one_case.result (λ (cs : List AnyCase). map case_of cs ≡ cases_by c.args.self.now.agent.now c.args.there o))
    (sym c.in_default.is) c.one_case.ensures
