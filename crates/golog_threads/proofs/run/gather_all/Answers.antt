use Rattle.std.proofs.Common.{◌∙◌, ap, subst}
use Rattle.golog_journal.specs.Boards.{IsBoardList}
use Rattle.golog_turn.specs.Parties.{contains}
use Rattle.golog_turn.specs.Seats.{seen, parties_of}
use Rattle.golog_threads.specs.Gathering.{Gathered}
use Rattle.golog_threads.proofs.Fitting.{sight_of}
use Rattle.golog_threads.proofs.Gathering.{gathered}
use Rattle.golog_threads.proofs.run.gather_all.Goals as goal

pub returns-clause-gathered : goal.returns-clause-gathered
returns-clause-gathered g c =
    let agent = g.A.Naming.agent in
    let list = (g.L.Lead.mind c.gather_at.new.lead).list in
    subst (λ s. Gathered agent (seen s) list (parties_of c.args.seat)) c.of-board.ensures
    (gathered agent (sight_of agent (seen c.of-board.result.seat) (parties_of c.of-board.result.seat))
    (sight_of agent (seen c.gather_at.new.board.seat) (parties_of c.gather_at.new.board.seat)) list (parties_of c.args.seat)
    (ap (λ s. contains (parties_of s)) c.of-board.ensures) c.gather_at.ensures.watches c.gather_at.ensures.whole
    (subst (λ a. IsBoardList a (seen c.gather_at.new.board.seat)) (c.gather_at.ensures.same.same_agent ∙ c.requires.agent) c.gather_at.ensures.lawful)
    c.gather_at.ensures.short)
