use Rattle.std.proofs.Common.{sym, ap, subst, arith}
use Rattle.golog_journal.specs.Boards.{AgentJournal, IsBoardList}
use Rattle.golog_thread_tests.proofs.Starting.{no-entries, none-ready, none-behind}
use Rattle.golog_thread_tests.proofs.runs.have_run.Goals as goal

pub run_threads-requires-clause-lawful : goal.run_threads-requires-clause-lawful
run_threads-requires-clause-lawful g c _ _ =
    subst (λ (j : AgentJournal). IsBoardList c.args.agent.now j.entries) (sym c.in_ok-journal.ensures) (no-entries c.args.agent.now)

pub run_threads-requires-clause-ready : goal.run_threads-requires-clause-ready
run_threads-requires-clause-ready g c _ _ device less opened =
    none-ready _ _ device (omega (arith, less, c.if-devices-len.false)) (ap (λ (j : AgentJournal). j.entries) c.in_ok-journal.ensures) opened

pub run_threads-requires-clause-behind : goal.run_threads-requires-clause-behind
run_threads-requires-clause-behind g c _ _ = none-behind _ _ c.requires.new (ap (λ (j : AgentJournal). j.entries) c.in_ok-journal.ensures)
