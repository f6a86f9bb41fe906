use Rattle.std.proofs.Common.{◌≡◌, sym, ap, refl, ◌∙◌, subst, rules}
use Rattle.golog_semantics.specs.InlineText.{report_of}
use Rattle.golog_semantics.specs.Online.{IsOnline, IsOnlineSoFar}
use Rattle.golog_semantics.proofs.LaterRuns.{whole_is_online}
use Rattle.golog_journal.specs.Leading.{Outlet}
use Rattle.golog_lead.specs.Courses.{Course}
use Rattle.golog_main.specs.Runs.{ServedOn}
use Rattle.golog_main.proofs.Served.{threads-whole}
use Rattle.golog_main.proofs.Reporting.{has-answer, same-outlet, scribe-writes, written-of}
use Rattle.golog_main.proofs.run.served_on_threads.Goals as goal

pub run_status-status-requires : goal.run_status-status-requires
run_status-status-requires g c = has-answer c.run_threads.new.lead.driver.core.list c.answer.result c.answer.ensures c.in-Ok.ensures.ran.ended

pub returns-in-Ok-clause-written : goal.returns-in-Ok-clause-written
returns-in-Ok-clause-written g c =
    let agent = c.args.agent.now in
    let meaning = g.D.Device.meaning in
    let before = c.args.journal.entries in
    let list = c.run_threads.new.lead.driver.core.list in
    let same = c.run_threads.ensures.same.same_agent ∙ ap (λ (p : Course). p.agent) (c.with-scribe.ensures.core ∙ c.requires.pen) in
    let whole = threads-whole agent g.D.Device.fresh meaning before list c.args.devices.now c.run_threads.new.devices c.requires.boxes c.in-Ok.ensures.ran in
    let so_far : IsOnlineSoFar agent (report_of agent list) = subst (λ a. IsOnlineSoFar a (report_of a list)) same c.keeps_rules.ensures.keeps in
    let online : IsOnline agent (report_of agent list) = (whole_is_online agent (report_of agent list)).whole so_far whole in
    let last = c.run_threads.new.lead in
    let taken = g.K.Sink.taken in
    let faults = g.K.Sink.faults in
    let outlet = same-outlet _ _ c.run_threads.ensures.same.same_outlet in
    let base = ap (λ (o : Outlet). o.base) outlet ∙ ap taken c.with-scribe.ensures.base in
    let count = ap (λ (o : Outlet). o.faults) outlet ∙ ap faults c.with-scribe.ensures.base in
    let name = c.into_sink-out.ensures.same_reference ∙ ap (λ (o : Outlet). o.name) outlet ∙ c.with-scribe.ensures.same_reference in
    let value = c.into_sink-out.ensures.value in
    let has = c.run_threads.ensures.stands (c.with-scribe.ensures.stands (ap (λ (p : Course). p.list) c.requires.pen)) in
    scribe-writes _ _ _ _ (ServedOn agent meaning before c.args.devices.now c.run_threads.new.devices) agent last.driver.core.agent last.driver.core.list last.driver.record.faulted c.answer.result c.run_status-status.result
    (written-of last.driver.core.agent last.driver.core.list last.driver.record.faulted _ _ _ _ _ _ _ _ base (sym (ap taken value) ∙ search rules) count (sym (ap faults value) ∙ search rules) has)
    same (record { journal = list; is = refl; online = online; ran = c.in-Ok.ensures.ran })
    c.answer.ensures c.in-Ok.ensures.ran.ended
    (λ fault. c.run_status-status.ensures.fault (c.faulted.ensures ∙ fault)) (λ whole. c.run_status-status.ensures.shown (c.faulted.ensures ∙ whole))

pub returns-in-Err-clause-nothing : goal.returns-in-Err-clause-nothing
returns-in-Err-clause-nothing g c =
    let taken = g.K.Sink.taken in
    let faults = g.K.Sink.faults in
    let outlet = same-outlet _ _ c.run_threads.ensures.same.same_outlet in
    let name = c.into_sink-out-in-Err.ensures.same_reference ∙ ap (λ (o : Outlet). o.name) outlet ∙ c.with-scribe.ensures.same_reference in
    let value = rw c.in-Err.ensures.memory.0 at c.into_sink-out-in-Err.ensures.value in
    let here : taken c.into_sink-out-in-Err.result.now ≡ taken c.args.out.now = ap taken (value ∙ c.with-scribe.ensures.value) in
    let count : faults c.into_sink-out-in-Err.result.now ≡ faults c.args.out.now = ap faults (value ∙ c.with-scribe.ensures.value) in
    (search rules, search rules)

pub returns-in-Err-clause-unserved : goal.returns-in-Err-clause-unserved
returns-in-Err-clause-unserved g c = c.in-Err.ensures.memory.1
