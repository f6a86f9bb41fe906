use Rattle.std.proofs.Common.{◌≡◌, true, sym, subst}
use Rattle.std.specs.Prelude.{not}
use Rattle.golog_tree.specs.declared.prog.Prog.{Prog}
use Rattle.golog_semantics.specs.BlockFree.{has_block}
use Rattle.golog_semantics.specs.ProgFits.{fits}
use Rattle.golog_semantics.specs.Search.{Run}
use Rattle.golog_watch.specs.Watched.{AreTold}
use Rattle.golog_watch.proofs.watch.Watch.of.Goals as goal

pub returns-clause-watch : goal.returns-clause-watch
returns-clause-watch c =
    let agent = c.args.agent.now in
    let body = sym c.in_ok-body.ensures in
    record {
      program = subst (λ (p : Prog). fits agent p ≡ true) body c.requires.program;
      blockless = subst (λ (p : Prog). not (has_block agent p) ≡ true) body c.requires.blockless;
      told = subst (λ (p : Prog). AreTold agent p c.in_ok-rest.rest c.in_ok-conds.conds) body
          (subst (λ (run : Run). AreTold agent c.args.body.now run c.in_ok-conds.conds) (sym c.in_ok-rest.ensures) c.in_ok-conds.ensures);
    }
