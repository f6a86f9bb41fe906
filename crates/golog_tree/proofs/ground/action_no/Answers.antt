use Rattle.golog_tree.specs.Ground.{action_args}
use Rattle.golog_tree.proofs.Numbers.{below-map, get-number_of, number_of-below}
use Rattle.golog_tree.proofs.ground.action_no.Goals as goal

pub returns-clause-named : goal.returns-clause-named
returns-clause-named c =
    rw (c.number_of.ensures, c.as_slice-2.ensures)
    (get-number_of c.args.agent.now (action_args c.args.agent.now) c.args.action c.args.args.now (below-map c.args.agent.now.actions (λ item. item.args) c.args.action c.requires.action) c.requires.fits)

pub returns-clause-among : goal.returns-clause-among
returns-clause-among c =
    rw (c.number_of.ensures, c.as_slice-2.ensures)
    (number_of-below c.args.agent.now (action_args c.args.agent.now) c.args.action c.args.args.now (below-map c.args.agent.now.actions (λ item. item.args) c.args.action c.requires.action) c.requires.fits)
