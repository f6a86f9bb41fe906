use Rattle.std.proofs.Common.{◌≤◌, false, ap, length, not}
use Rattle.std.proofs.lemmas.List.{length-map}
use Rattle.golog_device.specs.Slots.{standings}
use Rattle.golog_commands.specs.Inputs.{script_under, scripts_for}
use Rattle.golog_commands.specs.Plans.{IsPlannedOf}
use Rattle.golog_commands.proofs.Begun.{begun-unserved, none-served, still-unserved}
use Rattle.golog_commands.proofs.Reporting.{on-err}
use Rattle.golog_plan.specs.Keeping.{PlanCourse}
use Rattle.golog_plan.specs.PlanTexts.{plan_text}
use Rattle.golog_main.specs.Plans.{PlansOn}
use Rattle.golog_main.proofs.Begun.{enough-boxes}
use Rattle.golog_main.proofs.PlanLemmas.{journals-by, journals-more, plans-run}
use Rattle.golog_main.proofs.plans.planned_on_threads.Goals as goal

pub plan_threaded-requires : goal.plan_threaded-requires
plan_threaded-requires g c = (
  c.type_bounds.send-D,
  (
    c.type_bounds.sync-R,
    (
      c.requires.formed,
      (
        (ap (λ (p : PlanCourse). p.agent) c.in_ok-pen.ensures, ap (λ (p : PlanCourse). p.list) c.in_ok-pen.ensures),
        (
          c.in-Ok.ensures.begun.begun.same_agent,
          (c.in-Ok.ensures.begun.begun.lawful, (c.in-Ok.ensures.begun.begun.behind, (boxes, c.in-Ok.ensures.begun.begun.ready))),
        ),
      ),
    ),
  ),
)
  where
    boxes : length c.args.agent.now.devices ≤ length c.begun_with.new.devices
    boxes =
        enough-boxes (λ d. record { fresh = g.D.Device.fresh d; meaning = g.D.Device.meaning d }) c.args.devices.now c.begun_with.new.devices (length c.args.agent.now.devices)
        _ _ _ _ c.in-Ok.ensures.begun.begun.begun c.requires.formed.small.devices c.requires.boxes

pub returns-in-Ok-clause-written : goal.returns-in-Ok-clause-written
returns-in-Ok-clause-written g c =
    let agent = c.args.agent.now in
    let scripts = scripts_for agent c.args.listed.now in
    let before = c.in-Ok.journal in
    let stand = standings g.D.Device.fresh g.D.Device.meaning in
    let olds = stand c.args.devices.now in
    let mids = stand c.begun_with.new.devices in
    let news = stand c.plan_threaded.new.devices in
    let core = c.in_ok-pen.pen.core in
    journals-by agent c.args.depth c.args.fuel core scripts false olds news _ _ _ _ c.plan_threaded.result c.in_ok-pen.ensures
    (journals-more (PlansOn agent core.depth core.fuel false before.entries mids news) (IsPlannedOf agent core.depth core.fuel scripts false olds news)
    (plan_text agent core.depth core.fuel) _ _ _ _ c.plan_threaded.result
    (λ journal ran. plans-run agent core.depth core.fuel scripts false before olds mids news journal c.requires.formed (length-map agent.devices (script_under c.args.listed.now)) c.in-Ok.ensures.begun ran)
    c.plan_threaded.ensures.written)

pub returns-in_err-pen-clause-unserved : goal.returns-in_err-pen-clause-unserved
returns-in_err-pen-clause-unserved g c = on-err c.from_residual.result _ (none-served (standings g.D.Device.fresh g.D.Device.meaning c.args.devices.now))

pub returns-in-Ok-clause-unserved : goal.returns-in-Ok-clause-unserved
returns-in-Ok-clause-unserved g c =
    still-unserved (standings g.D.Device.fresh g.D.Device.meaning) c.args.devices.now c.begun_with.new.devices c.plan_threaded.new.devices c.plan_threaded.result
    (begun-unserved _ _ _ _ _ _ c.in-Ok.ensures.begun.begun.begun) c.plan_threaded.ensures.unserved

pub new-requires-clause-blockless : goal.new-requires-clause-blockless
new-requires-clause-blockless g c = ap not c.requires.plannable
