use Rattle.std.proofs.Common.{◌≤◌, length, sym, ap, ◌∙◌, subst}
use Rattle.golog_semantics.specs.Journal.{Journal, longest}
use Rattle.golog_journal.specs.Boards.{IsBoardList}
use Rattle.golog_lead.specs.Courses.{Course}
use Rattle.golog_lead.specs.Seeing.{IsOver}
use Rattle.golog_lead.proofs.Turning.{watches}
use Rattle.golog_agent.proofs.Turning.{same-mind}
use Rattle.golog_agent.proofs.runner.RunnerLead.gather.Goals as goal

pub catch_up-requires : goal.catch_up-requires
catch_up-requires g c =
    let over : IsOver c.args.self.now (g.B.Board.sight c.args.board.now) =
    record { of_agent = c.requires.agent; held = c.requires.held; behind = c.requires.behind } in
    record { over = subst (λ (v : Course). IsOver v (g.B.Board.sight c.args.board.now)) (sym c.self.view_is) over }

pub invariant_of-self : goal.invariant_of-self
invariant_of-self g c = c.catch_up.ensures.recorded.stands_still c.self.invariant

pub returns-clause-same : goal.returns-clause-same
returns-clause-same g c =
    same-mind c.args.self.now c.catch_up.new.self.core (c.catch_up.ensures.same ∙ ap (λ (v : Course). v.agent) c.self.view_is)

pub returns-clause-watches : goal.returns-clause-watches
returns-clause-watches g c = watches (g.B.Board.sight c.args.board.now) (g.B.Board.sight c.catch_up.new.board) c.catch_up.ensures.follows

pub returns-clause-lawful : goal.returns-clause-lawful
returns-clause-lawful g c = subst (IsBoardList c.catch_up.new.self.core.agent) c.catch_up.ensures.current.whole c.keeps_rules.ensures.under_way.lawful

pub returns-clause-short : goal.returns-clause-short
returns-clause-short g c = subst (λ (j : Journal). length j ≤ longest) c.catch_up.ensures.current.whole c.keeps_rules.ensures.short
