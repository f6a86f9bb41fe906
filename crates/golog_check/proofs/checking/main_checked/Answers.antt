use Rattle.std.proofs.Common.{[]}
use Rattle.golog_check.specs.Check.{main_in}
use Rattle.golog_check.proofs.checking.main_checked.Goals as goal

pub returns : goal.returns
returns c =
    c.in_ok-add.ensures [] (main_in c.args.names.now c.args.main.now) c.main_in.ensures c.new-checked.ensures
