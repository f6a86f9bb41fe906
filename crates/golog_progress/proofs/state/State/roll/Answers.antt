use Rattle.golog_semantics.specs.declared.journal.Entry.TheVariants.{Do}
use Rattle.golog_progress.proofs.Rolled.{fit-at}
use Rattle.golog_progress.proofs.state.State.roll.Goals as goal

pub after_entry-requires-clause-entry : goal.after_entry-requires-clause-entry
after_entry-requires-clause-entry c =
    fit-at c.args.agent.now c.args.entries.now c.loop-entry.entry-index (Do 0) c.requires.entries c.loop-entry-test.true
