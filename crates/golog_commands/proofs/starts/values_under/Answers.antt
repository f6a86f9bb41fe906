use Rattle.golog_commands.specs.declared.outcome.Input.TheVariants.{Journal as JournalFile}
use Rattle.golog_commands.specs.Inputs.{RefusesJournal}
use Rattle.golog_commands.specs.Outcome.{FileFails}
use Rattle.golog_commands.proofs.FromStarts.{memory-ends, values-left-by}
use Rattle.golog_commands.proofs.starts.values_under.Goals as goal

pub returns-in-Ok-clause-reads : goal.returns-in-Ok-clause-reads
returns-in-Ok-clause-reads g c =
    values-left-by (g.F.Files.held c.args.files.now) c.args.name.now c.args.agent.now c.in-Ok.told c.values_of.result c.in-Ok.ensures.reads c.values_of.ensures.left

pub returns-in-Ok-clause-unready : goal.returns-in-Ok-clause-unready
returns-in-Ok-clause-unready g c =
    memory-ends c.values_of.result
    (FileFails JournalFile (RefusesJournal c.args.agent.now) (g.F.Files.held c.args.files.now) c.args.name.now (g.F.Files.faults c.args.files.now) (g.F.Files.faults c.told_in.new.files))
    c.values_of.ensures.memory
