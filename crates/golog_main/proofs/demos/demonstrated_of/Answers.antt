use Rattle.std.proofs.Common.{true, subst}
use Rattle.golog_device.specs.Slots.{standings}
use Rattle.golog_commands.specs.Inputs.{scripts_for}
use Rattle.golog_commands.specs.Runs.{IsReportOf}
use Rattle.golog_commands.proofs.DemoLemmas.{shown}
use Rattle.golog_commands.proofs.Reported.{ended}
use Rattle.golog_main.proofs.demos.demonstrated_of.Goals as goal

pub reported_in_rounds-requires-clause-texts : goal.reported_in_rounds-requires-clause-texts
reported_in_rounds-requires-clause-texts g c = rw c.as_slice.ensures c.requires.texts

pub demo_outcome-requires : goal.demo_outcome-requires
demo_outcome-requires g c = ended _ _ _ _ _ _ c.in_ok-report.ensures

pub returns : goal.returns
returns g c =
    let stand = standings g.D.Device.fresh g.D.Device.meaning in
    let agent = c.args.ready.now.agent in
    let olds = stand c.args.devices.now in
    let news = stand c.reported_in_rounds.new.devices in
    shown c.args.size agent c.args.ready.now.scripts olds news c.in_ok-report.report c.demo_outcome.result c.requires.agent c.requires.scripts
    (subst (λ listed. IsReportOf agent (scripts_for agent listed) true olds news c.in_ok-report.report) c.as_slice.ensures c.in_ok-report.ensures)
    c.demo_outcome.ensures
