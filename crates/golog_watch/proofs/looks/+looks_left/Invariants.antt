use Rattle.std.proofs.Common.{◌+◌, ◌*◌}
use Rattle.golog_watch.proofs.looks.+looks_left.Given as goal

abbrev pub decreases-looks_left : goal.decreases-looks_left
decreases-looks_left l = 2 * l.looks

abbrev pub decreases-left_of_both : goal.decreases-left_of_both
decreases-left_of_both l = 2 * l.looks + 1
