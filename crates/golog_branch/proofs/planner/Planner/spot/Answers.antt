use Rattle.std.proofs.Common.{false, sym, ◌∙◌, subst}
use Rattle.golog_tree.specs.declared.prog.Prog.{Prog}
use Rattle.golog_semantics.specs.declared.Mode.TheVariants.{Must}
use Rattle.golog_semantics.specs.Search.{final}
use Rattle.golog_ways.specs.Searched.{IsSearched}
use Rattle.golog_branch.proofs.planner.Planner.spot.Goals as goal

pub is_final-requires-clause-program : goal.is_final-requires-clause-program
is_final-requires-clause-program c = record { in_block = false; fits = c.requires.searched.program }

pub is_final-requires-clause-sorts : goal.is_final-requires-clause-sorts
is_final-requires-clause-sorts c = c.requires.searched.sorts

pub returns-clause-state : goal.returns-clause-state
returns-clause-state c = let left = c.in_ok-left.ensures in let state = c.in_ok-state.ensures ∙ c.values.ensures in (λ i. (left i, state i))

pub returns-clause-so : goal.returns-clause-so
returns-clause-so c =
    let agent = c.args.self.now.agent.now in
    let left = c.in_ok-left.ensures in
    let state = c.in_ok-state.ensures ∙ c.values.ensures in
    record {
      searched = subst (λ (p : Prog). IsSearched agent p c.in_ok-state.state) (sym left) (subst (IsSearched agent c.args.left.now) (sym state) c.requires.searched);
      ends = c.in_ok-ends.ensures.end ∙ (λ i. final agent (sym state i) Must (sym left i));
    }
