use Rattle.std.proofs.Common.{sym}
use Rattle.golog_journal.proofs.Reaching.{command-there, command-nowhere, place-there}
use Rattle.golog_journal.proofs.journal.Journal.command_at.Goals as goal

pub returns-then-number-reached-clause-command : goal.returns-then-number-reached-clause-command
returns-then-number-reached-clause-command c =
    let v = c.args.self.now in
    let told = c.reached_at-reached.ensures in
    command-there v.agent c.args.poster v.entries c.reached_at-reached.result told.reached c.args.number told.most c.if-number-reached.true

pub returns-then-number-reached-clause-place : goal.returns-then-number-reached-clause-place
returns-then-number-reached-clause-place c =
    let v = c.args.self.now in
    let told = c.reached_at-reached.ensures in
    place-there v.agent c.args.poster v.entries c.reached_at-reached.result told.reached c.args.number told.most c.if-number-reached.true

pub returns-else-number-reached-clause-command : goal.returns-else-number-reached-clause-command
returns-else-number-reached-clause-command c =
    let v = c.args.self.now in
    let told = c.reached_at-reached.ensures in
    sym (command-nowhere v.agent c.args.poster v.entries c.reached_at-reached.result told.reached c.args.number c.if-number-reached.false (told.far c.if-number-reached.false))
