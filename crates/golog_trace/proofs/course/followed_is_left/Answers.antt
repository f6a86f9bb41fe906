use Rattle.golog_trace.proofs.Following as laws
use Rattle.golog_trace.proofs.course.followed_is_left.Goals as goal

pub returns : goal.returns
returns c = laws.followed_is_left
