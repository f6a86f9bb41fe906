use Rattle.std.proofs.Common.{sym, ap, subst, ◌∙◌}
use Rattle.golog_journal.specs.Boards.{AgentJournal, IsBoardList}
use Rattle.golog_lead.specs.Courses.{Course}
use Rattle.golog_thread_tests.proofs.Starting.{no-entries, none-ready, none-behind}
use Rattle.golog_thread_tests.proofs.written.written.Goals as goal

pub run_inline-requires-clause-lawful : goal.run_inline-requires-clause-lawful
run_inline-requires-clause-lawful g c =
    subst (λ (j : AgentJournal). IsBoardList c.args.agent.now j.entries) (sym c.in_ok-journal.ensures) (no-entries c.args.agent.now)

pub run_inline-requires-clause-ready : goal.run_inline-requires-clause-ready
run_inline-requires-clause-ready g c device inside opened =
    none-ready _ _ device inside (ap (λ (j : AgentJournal). j.entries) c.in_ok-journal.ensures) opened

pub run_inline-requires-clause-behind : goal.run_inline-requires-clause-behind
run_inline-requires-clause-behind g c =
    none-behind _ _ (ap (λ (p : Course). p.list) (c.new-scribe.ensures.core ∙ c.in_ok-pen.ensures)) (ap (λ (j : AgentJournal). j.entries) c.in_ok-journal.ensures)
