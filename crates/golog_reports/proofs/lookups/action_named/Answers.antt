use Rattle.golog_tree.specs.Ground.{action_args, ground_count}
use Rattle.golog_semantics.specs.Text.{action_text}
use Rattle.golog_reports.proofs.FirstNamed.{the_one_named, one_below}
use Rattle.golog_reports.proofs.lookups.action_named.Goals as goal

pub returns-clause-named : goal.returns-clause-named
returns-clause-named c =
    let agent = c.args.agent.now in
    the_one_named (ground_count agent (action_args agent)) (action_text agent) c.args.text.now c.read_action.result c.read_action.ensures

pub returns-clause-number : goal.returns-clause-number
returns-clause-number c =
    let agent = c.args.agent.now in
    one_below (ground_count agent (action_args agent)) (action_text agent) c.args.text.now c.read_action.result c.read_action.ensures
