use Rattle.std.proofs.Common.{◌≡◌, sym, ap, ◌∙◌, rules}
use Rattle.golog_journal.specs.Leading.{Outlet}
use Rattle.golog_plan.specs.Keeping.{PlanCourse}
use Rattle.golog_plan.specs.PlanTexts.{plan_text}
use Rattle.golog_main.specs.Plans.{PlansServedOn}
use Rattle.golog_main.proofs.PlanLemmas.{bounds_of, journal-writes, planned-as, planned-of}
use Rattle.golog_main.proofs.Reporting.{has-answer, same-outlet}
use Rattle.golog_main.proofs.Served.{threads-whole}
use Rattle.golog_main.proofs.plans.plan_served.Goals as goal

pub run_status-status-requires : goal.run_status-status-requires
run_status-status-requires g c = has-answer c.run_threads.new.lead.driver.core.list c.answer.result c.answer.ensures c.in-Ok.ensures.ran.ended

pub returns-in-Ok-clause-written : goal.returns-in-Ok-clause-written
returns-in-Ok-clause-written g c =
    let agent = c.args.agent.now in
    let depth = c.args.pen.core.depth in
    let fuel = c.args.pen.core.fuel in
    let meaning = g.D.Device.meaning in
    let before = c.args.journal.entries in
    let last = c.run_threads.new.lead in
    let list = last.driver.core.list in
    let taken = g.K.Sink.taken in
    let faults = g.K.Sink.faults in
    let outlet = same-outlet _ _ c.run_threads.ensures.same.same_outlet in
    let base = ap (λ (o : Outlet). o.base) outlet ∙ ap taken c.new-scribe.ensures.base in
    let count = ap (λ (o : Outlet). o.faults) outlet ∙ ap faults c.new-scribe.ensures.base in
    let name = c.into_sink-out.ensures.same_reference ∙ ap (λ (o : Outlet). o.name) outlet ∙ c.new-scribe.ensures.same_reference in
    let value = c.into_sink-out.ensures.value in
    let has = c.run_threads.ensures.stands (c.new-scribe.ensures.stands c.requires.pen.1) in
    let same = c.run_threads.ensures.same.same_agent ∙ ap (λ (p : PlanCourse). p.agent) c.new-scribe.ensures.core ∙ c.requires.pen.0 in
    let bounds = c.run_threads.ensures.same.same_bounds ∙ ap bounds_of c.new-scribe.ensures.core in
    let whole = threads-whole agent g.D.Device.fresh meaning before list c.args.devices.now c.run_threads.new.devices c.requires.boxes c.in-Ok.ensures.ran in
    let keeps = planned-as agent last.driver.core.agent (bounds_of last.driver.core) (bounds_of c.args.pen.core) list same bounds c.keeps_rules.ensures.keeps in
    journal-writes (PlansServedOn agent depth fuel meaning before c.args.devices.now c.run_threads.new.devices) (plan_text agent depth fuel) _ _ _ _ list last.driver.record.faulted c.answer.result c.run_status-status.result
    (planned-of agent last.driver.core.agent (bounds_of last.driver.core) (bounds_of c.args.pen.core) list last.driver.record.faulted _ _ _ _ _ _ _ _ same bounds base
    (sym (ap taken value) ∙ search rules) count (sym (ap faults value) ∙ search rules) has)
    (record { planned = record { entries = keeps; whole = whole }; ran = c.in-Ok.ensures.ran })
    c.answer.ensures c.in-Ok.ensures.ran.ended
    (λ fault. c.run_status-status.ensures.fault (c.faulted.ensures ∙ fault)) (λ whole. c.run_status-status.ensures.shown (c.faulted.ensures ∙ whole))

pub returns-in-Err-clause-nothing : goal.returns-in-Err-clause-nothing
returns-in-Err-clause-nothing g c =
    let taken = g.K.Sink.taken in
    let faults = g.K.Sink.faults in
    let outlet = same-outlet _ _ c.run_threads.ensures.same.same_outlet in
    let name = c.into_sink-out-in-Err.ensures.same_reference ∙ ap (λ (o : Outlet). o.name) outlet ∙ c.new-scribe.ensures.same_reference in
    let value = rw c.in-Err.ensures.memory.0 at c.into_sink-out-in-Err.ensures.value in
    let here : taken c.into_sink-out-in-Err.result.now ≡ taken c.args.out.now = ap taken (value ∙ c.new-scribe.ensures.value) in
    let count : faults c.into_sink-out-in-Err.result.now ≡ faults c.args.out.now = ap faults (value ∙ c.new-scribe.ensures.value) in
    (search rules, search rules)

pub returns-in-Err-clause-unserved : goal.returns-in-Err-clause-unserved
returns-in-Err-clause-unserved g c = c.in-Err.ensures.memory.1
