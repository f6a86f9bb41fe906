use Rattle.std.proofs.Common.{◌<◌, length, sym, ap, ◌∙◌, subst}
use Rattle.golog_journal.specs.Boards.{AgentJournal}
use Rattle.golog_journal.specs.Commands.{is_resting}
use Rattle.golog_journal.proofs.CommandsKept.{counted-resting}
use Rattle.golog_journal.proofs.counts.Counts.is_resting.Goals as goal

pub returns : goal.returns
returns c =
    let j = c.self.inside in
    let inside : c.args.device < length j.facts.devices = subst (λ (w : AgentJournal). c.args.device < length w.agent.devices) (sym c.self.view_is) c.requires in
    c.is_resting.ensures
    ∙ counted-resting j.facts j.totals j.standings.items c.self.invariant c.args.device c.index-standing.result.now inside c.index-standing.ensures c.args.taken
    ∙ ap (λ (w : AgentJournal). is_resting w.agent w.entries c.args.device c.args.taken) c.self.view_is
