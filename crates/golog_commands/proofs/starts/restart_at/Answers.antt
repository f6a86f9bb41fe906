use Rattle.golog_commands.proofs.FromStarts.{restarted-sorts}
use Rattle.golog_commands.proofs.starts.restart_at.Goals as goal

pub restart-requires-clause-sorts : goal.restart-requires-clause-sorts
restart-requires-clause-sorts c = rw c.as_slice.ensures (rw c.in-Some.is at c.requires.sorts)

pub returns-in-Some-clause-started : goal.returns-in-Some-clause-started
returns-in-Some-clause-started c = rw c.in-Some.is (rw c.as_slice.ensures at c.restart.ensures.restarted)

pub returns-in-Some-clause-kept : goal.returns-in-Some-clause-kept
returns-in-Some-clause-kept c =
    rw c.in-Some.is
    (restarted-sorts c.restart.result c.args.agent.now c.restart.new.agent c.in-Some.values (rw c.as_slice.ensures at c.restart.ensures.restarted)
    (rw c.in-Some.is at c.requires.sorts))
