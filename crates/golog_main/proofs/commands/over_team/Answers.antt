use Rattle.std.proofs.Common.{Some, refl}
use Rattle.golog_words.specs.Commands.{team}
use Rattle.golog_commands.specs.Outcome.{outside}
use Rattle.golog_commands.proofs.Reporting.{outcome-nothing, plain-reported}
use Rattle.golog_main.proofs.commands.over_team.Goals as goal

pub returns-clause-reported : goal.returns-clause-reported
returns-clause-reported g c =
    let means = outside g.F.Files.held g.F.Files.faults g.K.Sink.taken g.K.Sink.faults g.D.Device.fresh g.D.Device.meaning in
    plain-reported (means c.args.files.now c.args.out.now c.args.devices.now)
    (means c.teamed.new.files c.report_if.new.out c.args.devices.now)
    (Some (team c.args.first.now c.args.second.now c.args.inline)) c.teamed.result c.report_if.result refl c.teamed.ensures c.report_if.ensures

pub returns-clause-nothing : goal.returns-clause-nothing
returns-clause-nothing g c = outcome-nothing c.teamed.result c.report_if.result _ _ _ _ c.report_if.ensures
