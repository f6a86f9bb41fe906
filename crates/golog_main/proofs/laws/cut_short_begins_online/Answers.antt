use Rattle.golog_commands.proofs.CutShort.{cut_short}
use Rattle.golog_main.proofs.laws.cut_short_begins_online.Goals as goal

pub returns : goal.returns
returns c = cut_short
