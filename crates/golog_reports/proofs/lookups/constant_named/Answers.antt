use Rattle.golog_tree.specs.Ground.{sort_size}
use Rattle.golog_semantics.specs.Text.{constant_text}
use Rattle.golog_reports.proofs.FirstNamed.{the_one_named}
use Rattle.golog_reports.proofs.lookups.constant_named.Goals as goal

pub returns : goal.returns
returns c =
    let agent = c.args.agent.now in
    the_one_named (sort_size agent c.args.sort) (constant_text agent c.args.sort) c.args.text.now c.read_constant.result c.read_constant.ensures.the_one
