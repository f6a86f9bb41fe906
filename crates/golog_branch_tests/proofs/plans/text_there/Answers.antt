use Rattle.std.proofs.Common.{◌≡◌, true, sym, subst}
use Rattle.golog_branch.specs.declared.tree.Tree.{Tree}
use Rattle.golog_branch.specs.TreeTexts.{is_told}
use Rattle.golog_branch.specs.TreesInWorlds.{IsFoundFor}
use Rattle.golog_branch_tests.proofs.plans.text_there.Goals as goal

pub found_text-text-requires-clause-told : goal.found_text-text-requires-clause-told
found_text-text-requires-clause-told c =
    let agent = c.args.agent.now in
    let so = subst (IsFoundFor agent c.args.depth agent.main c.args.state.now) c.in-Found.is c.in_ok-found.ensures.so in
    subst (λ (t : Tree). is_told agent t ≡ true) (sym c.get.ensures) so.told
