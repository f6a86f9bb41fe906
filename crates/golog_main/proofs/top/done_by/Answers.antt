use Rattle.std.proofs.Common.{Some, rules}
use Rattle.golog_words.specs.Answers.{command_of}
use Rattle.golog_commands.specs.Outcome.{outside}
use Rattle.golog_commands.proofs.Reporting.{no-more-faults, nothing-left}
use Rattle.golog_main.proofs.top.done_by.Goals as goal

pub returns-in_default-clause-nothing : goal.returns-in_default-clause-nothing
returns-in_default-clause-nothing g c =
    let means = outside g.F.Files.held g.F.Files.faults g.K.Sink.taken g.K.Sink.faults g.D.Device.fresh g.D.Device.meaning in
    nothing-left (Some (command_of c.args.order)) (means c.args.files.now c.args.out.now c.args.devices.now) (means c.served.new.files c.served.new.out c.served.new.devices) c.served.result
    c.served.ensures.nothing

pub returns-in_default-clause-no_fault : goal.returns-in_default-clause-no_fault
returns-in_default-clause-no_fault g c = no-more-faults _ _ _ _ c.served.result c.served.ensures.nothing

pub returns-in-Run-default-default-false-default-default-clause-nothing : goal.returns-in-Run-default-default-false-default-default-clause-nothing
returns-in-Run-default-default-false-default-default-clause-nothing g c =
    let here = c.in-Run-default-default-false-default-default in
    let said = rw here.is at c.over_threads.ensures.nothing here.workers in
    rw here.is (search rules)
