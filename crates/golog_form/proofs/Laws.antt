-- The laws that the reader's contract rests on.
use Rattle.golog_form.proofs.Found.{found}
use Rattle.golog_form.proofs.Only.{only}
use Rattle.golog_form.proofs.Least.{answer}
use Rattle.golog_form.proofs.Ordered.{ordered}
use Rattle.golog_form.proofs.Printable.{printable}

pub ruleset laws = (found, only, answer, printable, ordered)
