use Rattle.std.specs.Prelude.{option_map}
use Rattle.golog_commands.specs.Outcome.{Never, OfFrom}
use Rattle.golog_commands.proofs.FromStarts.{begins-so, memory-ends}
use Rattle.golog_commands.proofs.ready.ready_from.Goals as goal

pub returns-in-Ok-clause-begins : goal.returns-in-Ok-clause-begins
returns-in-Ok-clause-begins g c =
    let e = c.restarted.ensures in
    begins-so (g.F.Files.held c.args.files.now) c.args.agent (option_map (λ file. file.now) c.args.from) c.in-Ok.start c.restarted.result c.in-Ok.ensures.reads
    c.in-Ok.ensures.sorts e.start e.is e.formed e.kept

pub returns-in-Ok-clause-unready : goal.returns-in-Ok-clause-unready
returns-in-Ok-clause-unready g c =
    memory-ends c.restarted.result
    (OfFrom (g.F.Files.held c.args.files.now) (g.F.Files.faults c.args.files.now) (g.F.Files.faults c.start_in.new.files) c.args.agent (option_map (λ file. file.now) c.args.from) Never)
    c.restarted.ensures.memory
