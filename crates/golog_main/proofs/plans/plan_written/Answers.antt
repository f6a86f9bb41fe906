use Rattle.std.proofs.Common.{◌≡◌, true, ap, sym, ◌∙◌, subst}
use Rattle.golog_semantics.specs.Journal.{has_end}
use Rattle.golog_journal.specs.Leading.{Outlet}
use Rattle.golog_device.specs.Slots.{standings}
use Rattle.golog_plan.specs.Keeping.{PlanCourse}
use Rattle.golog_plan.specs.PlanTexts.{plan_text}
use Rattle.golog_commands.proofs.Reported.{whole-ended}
use Rattle.golog_main.specs.Plans.{PlansOn}
use Rattle.golog_main.proofs.PlanLemmas.{bounds_of, journal-writes, of-plan-rounds, planned-of}
use Rattle.golog_main.proofs.Reporting.{has-answer, same-outlet}
use Rattle.golog_main.proofs.plans.plan_written.Goals as goal

-- what is known of a reference that has this name
learned : {A N : Type 0} {given name : N} {x y : A} → name ≡ given → (given ≡ name → x ≡ y) → y ≡ x
learned same so = sym (so (sym same))

pub run_status-status-requires : goal.run_status-status-requires
run_status-status-requires g c =
    has-answer c.run_inline.new.lead.driver.core.list c.answer.result c.answer.ensures
    (ap has_end c.run_inline.ensures.whole ∙ whole-ended c.args.agent.now c.run_inline.new.board.entries c.run_inline.ensures.ran.whole)

pub returns : goal.returns
returns g c =
    let agent = c.args.agent.now in
    let depth = c.args.pen.core.depth in
    let fuel = c.args.pen.core.fuel in
    let stand = standings g.D.Device.fresh g.D.Device.meaning in
    let before = c.args.journal.entries in
    let olds = stand c.args.devices.now in
    let news = stand c.run_inline.new.devices in
    let board = c.run_inline.new.board.entries in
    let first = c.new-scribe.result.driver.core in
    let last = c.run_inline.new.lead in
    let list = last.driver.core.list in
    let taken = g.K.Sink.taken in
    let faults = g.K.Sink.faults in
    let outlet = same-outlet _ _ c.run_inline.ensures.same.same_outlet in
    let base = ap (λ (o : Outlet). o.base) outlet ∙ ap taken c.new-scribe.ensures.base in
    let count = ap (λ (o : Outlet). o.faults) outlet ∙ ap faults c.new-scribe.ensures.base in
    let name = c.into_sink-out.ensures.same_reference ∙ ap (λ (o : Outlet). o.name) outlet ∙ c.new-scribe.ensures.same_reference in
    let value = c.into_sink-out.ensures.value in
    let has = c.run_inline.ensures.stands (c.new-scribe.ensures.stands c.requires.pen.1) in
    let same = c.run_inline.ensures.same.same_agent ∙ ap (λ (p : PlanCourse). p.agent) c.new-scribe.ensures.core ∙ c.requires.pen.0 in
    let bounds = c.run_inline.ensures.same.same_bounds ∙ ap bounds_of c.new-scribe.ensures.core in
    let on = of-plan-rounds agent first.depth first.fuel before board olds news c.run_inline.ensures.lawful c.run_inline.ensures.short c.run_inline.ensures.ran in
    let so =
    subst (PlansOn agent depth fuel true before olds news) (sym c.run_inline.ensures.whole)
    (subst (λ (p : PlanCourse). PlansOn agent p.depth p.fuel true before olds news board) c.new-scribe.ensures.core on) in
    let ended = ap has_end c.run_inline.ensures.whole ∙ whole-ended agent board c.run_inline.ensures.ran.whole in
    journal-writes (PlansOn agent depth fuel true before olds news) (plan_text agent depth fuel) _ _ _ _ list last.driver.record.faulted c.answer.result c.run_status-status.result
    (planned-of agent last.driver.core.agent (bounds_of last.driver.core) (bounds_of c.args.pen.core) list last.driver.record.faulted _ _ _ _ _ _ _ _ same bounds base
    (sym (ap taken value) ∙ ap taken (learned name assumption)) count (sym (ap faults value) ∙ ap faults (learned name assumption)) has)
    so c.answer.ensures ended
    (λ fault. c.run_status-status.ensures.fault (c.faulted.ensures ∙ fault)) (λ whole. c.run_status-status.ensures.shown (c.faulted.ensures ∙ whole))
