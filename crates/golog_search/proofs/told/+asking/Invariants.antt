use Rattle.std.proofs.Common.{◌+◌, ◌*◌, max}
use Rattle.golog_semantics.specs.Guarded.{front}
use Rattle.golog_search.proofs.told.+asking.Given as goal

abbrev pub decreases-ask_of : goal.decreases-ask_of
decreases-ask_of g l = 1 + 3 * (front l.agent.now l.prog.now).height

abbrev pub decreases-ask_of_both : goal.decreases-ask_of_both
decreases-ask_of_both g l = 2 + 3 * max (front l.agent.now l.one.now).height (front l.agent.now l.other.now).height
