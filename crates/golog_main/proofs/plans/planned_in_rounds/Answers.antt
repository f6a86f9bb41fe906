use Rattle.std.proofs.Common.{true, ap, length, not}
use Rattle.std.proofs.lemmas.List.{length-map}
use Rattle.golog_device.specs.Slots.{standings}
use Rattle.golog_commands.specs.Inputs.{script_under, scripts_for}
use Rattle.golog_commands.specs.Plans.{IsPlannedOf}
use Rattle.golog_commands.proofs.Begun.{none-served}
use Rattle.golog_commands.proofs.Reporting.{on-err}
use Rattle.golog_plan.specs.Keeping.{PlanCourse}
use Rattle.golog_plan.specs.PlanTexts.{plan_text}
use Rattle.golog_main.specs.Plans.{PlansOn}
use Rattle.golog_main.proofs.Begun.{enough-boxes}
use Rattle.golog_main.proofs.PlanLemmas.{journal-by, journal-more, plans-run}
use Rattle.golog_main.proofs.plans.planned_in_rounds.Goals as goal

pub plan_written-requires : goal.plan_written-requires
plan_written-requires g c = record {
  pen = (ap (λ (p : PlanCourse). p.agent) c.in_ok-pen.ensures, ap (λ (p : PlanCourse). p.list) c.in_ok-pen.ensures);
  agent = c.in-Ok.ensures.begun.begun.same_agent;
  lawful = c.in-Ok.ensures.begun.begun.lawful;
  behind = c.in-Ok.ensures.begun.begun.behind;
  boxes =
      enough-boxes (λ d. record { fresh = g.D.Device.fresh d; meaning = g.D.Device.meaning d }) c.args.devices.now c.begun_with.new.devices (length c.args.agent.now.devices)
      _ _ _ _ c.in-Ok.ensures.begun.begun.begun c.requires.formed.small.devices c.requires.boxes;
  ready = c.in-Ok.ensures.begun.begun.ready;
}

pub returns-in-Ok-clause-written : goal.returns-in-Ok-clause-written
returns-in-Ok-clause-written g c =
    let agent = c.args.agent.now in
    let scripts = scripts_for agent c.args.listed.now in
    let before = c.in-Ok.journal in
    let stand = standings g.D.Device.fresh g.D.Device.meaning in
    let olds = stand c.args.devices.now in
    let mids = stand c.begun_with.new.devices in
    let news = stand c.plan_written.new.devices in
    let core = c.in_ok-pen.pen.core in
    journal-by agent c.args.depth c.args.fuel core scripts true olds news _ _ _ _ c.plan_written.result c.in_ok-pen.ensures
    (journal-more (PlansOn agent core.depth core.fuel true before.entries mids news) (IsPlannedOf agent core.depth core.fuel scripts true olds news)
    (plan_text agent core.depth core.fuel) _ _ _ _ c.plan_written.result
    (λ journal ran. plans-run agent core.depth core.fuel scripts true before olds mids news journal c.requires.formed (length-map agent.devices (script_under c.args.listed.now)) c.in-Ok.ensures.begun ran)
    c.plan_written.ensures)

pub returns-in_err-pen-clause-unserved : goal.returns-in_err-pen-clause-unserved
returns-in_err-pen-clause-unserved g c = on-err c.from_residual.result _ (none-served (standings g.D.Device.fresh g.D.Device.meaning c.args.devices.now))

pub new-requires-clause-blockless : goal.new-requires-clause-blockless
new-requires-clause-blockless g c = ap not c.requires.plannable
