use Rattle.std.proofs.Common.{Some, refl}
use Rattle.golog_words.specs.Answers.{command_of}
use Rattle.golog_commands.specs.Outcome.{outside}
use Rattle.golog_commands.proofs.CutShort.{lines-begin}
use Rattle.golog_commands.proofs.InWorlds.{runs-so}
use Rattle.golog_commands.proofs.Reporting.{call-ends, fault-first, no-more-faults, nothing-left, on-err}
use Rattle.golog_main.proofs.top.serve_inline.Goals as goal

pub returns-clause-ends : goal.returns-clause-ends
returns-clause-ends g c =
    let means = outside g.F.Files.held g.F.Files.faults g.K.Sink.taken g.K.Sink.faults g.D.Device.fresh g.D.Device.meaning in
    let before = means c.args.files.now c.args.out.now c.args.devices.now in
    let after = means c.served.new.files c.served.new.out c.served.new.devices in
    let spelled = Some (command_of c.args.order) in
    call-ends spelled before after c.served.result c.call_status.result c.served.ensures.reported (on-err c.served.result _ refl) (nothing-left spelled before after c.served.result c.served.ensures.nothing)
    (no-more-faults _ _ _ _ c.served.result c.served.ensures.nothing) c.served.ensures.left c.call_status.ensures.status
    c.call_status.ensures.memory

pub returns-clause-fault : goal.returns-clause-fault
returns-clause-fault g c = fault-first _ _ _ _ (returns-clause-ends g c)

pub returns-clause-so : goal.returns-clause-so
returns-clause-so g c = runs-so _ _ _ _ (returns-clause-ends g c)

pub returns-clause-lines : goal.returns-clause-lines
returns-clause-lines g c = lines-begin _ _ _ _ (returns-clause-ends g c)
