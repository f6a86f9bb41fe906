use Rattle.std.proofs.Common.{◌≡◌, [], sym, subst, ◌∙◌}
use Rattle.golog_tree.specs.declared.agent.Agent.{Agent}
use Rattle.golog_tree.specs.Ground.{IsCountable, numbered}
use Rattle.golog_check.specs.Check.{main_in, names_of, refusals_in}
use Rattle.golog_check.proofs.Countable.{countable}
use Rattle.golog_check.proofs.PartLaws.{agent-is, none-refused}
use Rattle.golog_check.proofs.checking.answer.Goals as goal

pub whole-requires : goal.whole-requires
whole-requires c =
    let theory = c.args.theory.now in
    let program = c.args.program.now in
    let none : refusals_in (names_of theory program) theory program ≡ [] =
    c.in-None.ensures (names_of theory program) theory program c.requires.parts in
    let fit = none-refused theory program none in
    subst (λ (a : Agent). IsCountable (numbered a)) (sym c.requires.bare) (countable theory c.requires.keeps fit.fluents fit.actions)

pub returns-in_ok-whole-in-None : goal.returns-in_ok-whole-in-None
returns-in_ok-whole-in-None c =
    let theory = c.args.theory.now in
    let program = c.args.program.now in
    let names = names_of theory program in
    let none : refusals_in names theory program ≡ [] = c.in-None.ensures names theory program c.requires.parts in (
      none,
      c.in_ok-whole-in-None.ensures (main_in names program.main) c.requires.parts.main.items
          ∙ agent-is theory program c.args.agent c.args.parts c.requires.bare c.requires.parts,
    )
