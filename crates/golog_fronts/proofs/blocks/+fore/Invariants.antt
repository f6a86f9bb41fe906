use Rattle.std.proofs.Common.{ℕ, ◌+◌, ◌*◌, max}
use Rattle.golog_tree.specs.declared.prog.Prog.TheVariants as prog
use Rattle.golog_semantics.specs.Guarded.{front, front_at, proc_fronts}
use Rattle.golog_fronts.proofs.blocks.+fore.Given as goal

abbrev pub decreases-fore_of : goal.decreases-fore_of
decreases-fore_of l = 1 + 3 * (front l.agent.now l.prog.now).height

abbrev pub decreases-fores : goal.decreases-fores
decreases-fores l = 2 + 3 * max (front l.agent.now l.one.now).height (front l.agent.now l.other.now).height

abbrev pub decreases-fore_of_seq : goal.decreases-fore_of_seq
decreases-fore_of_seq l = 3 * (front l.agent.now (prog.Seq l.one.now l.other.now)).height

abbrev pub decreases-fore_of_call : goal.decreases-fore_of_call
decreases-fore_of_call l = 2 + 3 * (front_at (proc_fronts l.agent.now) l.item).height
