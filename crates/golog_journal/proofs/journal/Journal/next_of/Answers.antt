use Rattle.std.proofs.Common.{ap, ◌∙◌}
use Rattle.golog_semantics.specs.Journal.{is_sensing}
use Rattle.golog_journal.specs.declared.board.Next.TheVariants as next
use Rattle.golog_journal.specs.Boards.{AgentJournal}
use Rattle.golog_journal.specs.Commands.{next_by}
use Rattle.golog_journal.proofs.journal.Journal.next_of.Goals as goal

pub returns-in-Some : goal.returns-in-Some
returns-in-Some c =
    let v = c.args.self.now in
    let x = c.in-Some.next in
    ap (next.Command x.place x.action)
    (c.is_sensing.ensures ∙ ap (λ agent. is_sensing agent x.action) c.facts.ensures ∙ ap (λ (w : AgentJournal). is_sensing w.agent x.action) c.self.view_is)
    ∙ ap (next_by v.agent v.entries c.args.poster c.args.taken) c.in-Some.ensures.command

pub returns-in-None : goal.returns-in-None
returns-in-None c =
    let v = c.args.self.now in
    c.next_without.ensures ∙ ap (next_by v.agent v.entries c.args.poster c.args.taken) c.in-None.ensures.command
