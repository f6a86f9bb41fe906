use Rattle.golog_fronts.proofs.Opened.{ends_given}
use Rattle.golog_fronts.proofs.laying.where_ends.Goals as goal

pub returns : goal.returns
returns c =
    ends_given c.args.agent.now c.args.one.now c.args.fronts.now c.in_ok-end.end c.fronts_where-open.result c.in_ok-end.ensures c.fronts_where-open.ensures
