use Rattle.std.proofs.Common.{◌≡◌, false, List, [], ◌∷◌, length, sym, ap, ◌∙◌, arith}
use Rattle.std.proofs.lemmas.List.{length-map}
use Rattle.std.proofs.lemmas.Result.{IfOk-weaker}
use Rattle.golog_tree.specs.declared.prog.Prog.{Prog}
use Rattle.golog_semantics.specs.declared.Mode.TheVariants.{Must}
use Rattle.golog_semantics.specs.Search.{final}
use Rattle.golog_semantics.specs.Truth.{Values}
use Rattle.golog_semantics.specs.Blocks.{State}
use Rattle.golog_branch.specs.declared.tree.Planned.{Planned}
use Rattle.golog_branch.specs.declared.tree.Planned.TheVariants.{Found}
use Rattle.golog_branch.specs.Levels.{state_of}
use Rattle.golog_branch.specs.Plans.{planned}
use Rattle.golog_branch.specs.Searching.{IsSearch}
use Rattle.golog_branch.proofs.Least.{ends-at-once}
use Rattle.golog_branch.specs.TreesInWorlds.{IsFoundFor}
use Rattle.golog_branch.proofs.Linking.{last-spots}
use Rattle.golog_branch.proofs.PlansFor.{planned-so}
use Rattle.golog_branch.proofs.planning.plan.Goals as goal

pub is_final-requires-clause-program : goal.is_final-requires-clause-program
is_final-requires-clause-program c = record { in_block = false; fits = c.requires.searched.program }

pub is_final-requires-clause-sorts : goal.is_final-requires-clause-sorts
is_final-requires-clause-sorts c = c.requires.searched.sorts

pub returns-then-branch-clause-found : goal.returns-then-branch-clause-found
returns-then-branch-clause-found c =
    ap Found c.in_ok-tree.ensures
    ∙ sym (ends-at-once c.args.agent.now c.args.prog.now c.args.state.now c.args.depth c.args.fuel (sym c.in_ok-is_final.ensures.end ∙ c.if-branch.true))

pub returns-then-branch-clause-so : goal.returns-then-branch-clause-so
returns-then-branch-clause-so c =
    planned-so c.args.agent.now c.requires.agent c.args.prog.now c.args.state.now c.requires.searched c.args.depth c.args.fuel (Found c.in_ok-tree.tree)
    (ap Found c.in_ok-tree.ensures
    ∙ sym (ends-at-once c.args.agent.now c.args.prog.now c.args.state.now c.args.depth c.args.fuel (sym c.in_ok-is_final.ensures.end ∙ c.if-branch.true)))

pub search_on-found-requires-clause-spots : goal.search_on-found-requires-clause-spots
search_on-found-requires-clause-spots c =
    last-spots c.args.agent.now ((c.args.prog.now, c.args.state.now) ∷ []) c.in_ok-search.search.levels c.in_ok-search.search.last c.in_ok-search.ensures.levels

pub search_on-found-requires-clause-width : goal.search_on-found-requires-clause-width
search_on-found-requires-clause-width c =
    let one : length c.in_ok-search.search.last ≡ 1 = sym (length-map c.in_ok-search.search.last state_of) ∙ ap (λ (ss : List State). length ss) c.in_ok-search.ensures.last in
    omega arith

pub returns-clause-found : goal.returns-clause-found
returns-clause-found c =
    let agent = c.args.agent.now in
    IfOk-weaker c.search_on-found.result
    (λ (f : Planned). (p : Prog) (values : Values) → IsSearch agent p values 0 c.in_ok-search.search → final agent values Must p ≡ false → f ≡ planned agent c.args.depth c.args.fuel p values)
    (λ (f : Planned). f ≡ planned agent c.args.depth c.args.fuel c.args.prog.now c.args.state.now)
    (λ f h. h c.args.prog.now c.args.state.now c.in_ok-search.ensures (sym c.in_ok-is_final.ensures.end ∙ c.if-branch.false)) c.search_on-found.ensures

pub returns-clause-so : goal.returns-clause-so
returns-clause-so c =
    let agent = c.args.agent.now in
    IfOk-weaker c.search_on-found.result
    (λ (f : Planned). (p : Prog) (values : Values) → IsSearch agent p values 0 c.in_ok-search.search → final agent values Must p ≡ false → f ≡ planned agent c.args.depth c.args.fuel p values)
    (IsFoundFor agent c.args.depth c.args.prog.now c.args.state.now)
    (λ f h. planned-so agent c.requires.agent c.args.prog.now c.args.state.now c.requires.searched c.args.depth c.args.fuel f
    (h c.args.prog.now c.args.state.now c.in_ok-search.ensures (sym c.in_ok-is_final.ensures.end ∙ c.if-branch.false))) c.search_on-found.ensures
