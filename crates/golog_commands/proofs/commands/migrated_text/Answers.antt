use Rattle.golog_commands.proofs.commands.migrated_text.Goals as goal

pub returns : goal.returns
returns c = rw c.in_ok-put_start.ensures.start at c.write_journal.ensures
