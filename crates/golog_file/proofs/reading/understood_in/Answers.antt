use Rattle.std.proofs.Common.{Err, sym, subst}
use Rattle.golog_file.specs.Spelled.{FormAnswersWith}
use Rattle.golog_file.proofs.Answers.{theory-refused}
use Rattle.golog_file.proofs.reading.understood_in.Goals as goal

pub returns-in-Err-clause-answer : goal.returns-in-Err-clause-answer
returns-in-Err-clause-answer c =
    subst (λ fault. FormAnswersWith (Err fault) c.args.form.now) (sym c.from.ensures) (theory-refused c.args.form.now c.in-Err.fault (c.in-Err.ensures.least c.requires))
