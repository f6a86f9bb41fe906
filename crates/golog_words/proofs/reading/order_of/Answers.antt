use Rattle.std.proofs.Common.{map, string_bytes}
use Rattle.golog_words.specs.Answers.{command_of}
use Rattle.golog_words.proofs.Counts.{plan_within, workers_fit}
use Rattle.golog_words.proofs.reading.order_of.Goals as goal

pub returns-in-Ok-clause-workers : goal.returns-in-Ok-clause-workers
returns-in-Ok-clause-workers c = workers_fit (map string_bytes c.args.words.now) (command_of c.in-Ok.order) c.in-Ok.ensures

pub returns-in-Ok-clause-plan : goal.returns-in-Ok-clause-plan
returns-in-Ok-clause-plan c = plan_within (map string_bytes c.args.words.now) (command_of c.in-Ok.order) c.in-Ok.ensures
