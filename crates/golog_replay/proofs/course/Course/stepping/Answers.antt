use Rattle.std.proofs.Common.{sym, ◌∙◌}
use Rattle.golog_replay.proofs.course.Course.stepping.Goals as goal

pub step_of-requires-clause-label : goal.step_of-requires-clause-label
step_of-requires-clause-label c = sym c.label_of.ensures ∙ c.in-Some.is

pub returns-in-None : goal.returns-in-None
returns-in-None c = sym c.label_of.ensures ∙ c.in-None.is
