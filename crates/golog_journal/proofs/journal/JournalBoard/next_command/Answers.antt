use Rattle.std.proofs.Common.{◌<◌, [], length, refl, sym, ap, ◌∙◌, subst}
use Rattle.std.proofs.lemmas.List.{append-nil}
use Rattle.golog_journal.specs.Boards.{AgentJournal}
use Rattle.golog_journal.specs.Commands.{next_of}
use Rattle.golog_journal.proofs.Alone.{called}
use Rattle.golog_journal.proofs.journal.JournalBoard.next_command.Goals as goal

pub reach-requires : goal.reach-requires
reach-requires c = c.requires.ready.driven.is_device

pub next_of-requires : goal.next_of-requires
next_of-requires c = subst (λ (w : AgentJournal). c.args.poster < length w.agent.devices) (sym c.reach.ensures) c.requires.ready.driven.is_device

pub returns : goal.returns
returns c =
    let v = c.args.self.now in
    called _ _ _ [] (ap (λ (w : AgentJournal). w.agent) c.reach.ensures) refl refl
    (ap (λ (w : AgentJournal). w.entries) c.reach.ensures ∙ sym (append-nil v.entries))
    (record { none = refl; told = c.next_of.ensures ∙ ap (λ (w : AgentJournal). next_of w.agent w.entries c.args.poster c.args.taken) c.reach.ensures })
    c.keeps_rules.ensures.lawful c.keeps_rules.ensures.short
