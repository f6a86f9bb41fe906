use Rattle.std.proofs.Common.{None, ◌∙◌, ap, subst}
use Rattle.golog_journal.specs.Growing.{program}
use Rattle.golog_journal.specs.Leading.{TakesTurn}
use Rattle.golog_lead.specs.Courses.{Course}
use Rattle.golog_lead.specs.Waiting.{waits}
use Rattle.golog_thread_tests.proofs.Looking.{leads-then, turn-then}
use Rattle.golog_thread_tests.proofs.meeting.HostLead.turn.Goals as goal

pub turn-requires-clause-held : goal.turn-requires-clause-held
turn-requires-clause-held g c = ap (λ holds. holds program) c.welcome.ensures.looks.watches.leads.same_holds ∙ c.requires.held

pub returns-clause-leads : goal.returns-clause-leads
returns-clause-leads g c = leads-then _ _ _ c.welcome.ensures.looks c.turn.ensures.leads

pub returns-clause-turn : goal.returns-clause-turn
returns-clause-turn g c =
    turn-then _ _ _ c.welcome.ensures.looks _
    (subst
    (λ (r : Course). TakesTurn (record { agent = r.agent; bounds = (0, 0); list = r.list; waits = waits r.agent; outlet = None }) (g.B.Board.sight c.welcome.new.board) (g.B.Board.sight c.turn.new.board))
    c.welcome.ensures.runner c.turn.ensures.turn)
