use Rattle.std.proofs.Common.{◌≡◌, ap, ◌∙◌, sym, subst}
use Rattle.golog_journal.specs.Boards.{IsBoardList}
use Rattle.golog_team.proofs.Led.{has-led}
use Rattle.golog_team.proofs.posting.lead_turn.Goals as goal

pub returns-in-Ended-clause-led : goal.returns-in-Ended-clause-led
returns-in-Ended-clause-led g c =
    let t = c.turn.ensures in
    has-led (g.L.Lead.mind c.args.lead.now) c.args.journal.now c.turn.new.board c.requires.goes_on t.leads t.turn
    (subst (λ a. IsBoardList a c.turn.new.board.entries) (t.same.same_agent ∙ c.requires.agent) t.lawful)

pub returns-in-More-clause-led : goal.returns-in-More-clause-led
returns-in-More-clause-led g c =
    let t = c.turn.ensures in
    has-led (g.L.Lead.mind c.args.lead.now) c.args.journal.now c.turn.new.board c.requires.goes_on t.leads t.turn
    (subst (λ a. IsBoardList a c.turn.new.board.entries) (t.same.same_agent ∙ c.requires.agent) t.lawful)
