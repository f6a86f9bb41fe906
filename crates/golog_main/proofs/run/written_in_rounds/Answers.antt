use Rattle.std.proofs.Common.{◌≡◌, true, ap, sym, ◌∙◌}
use Rattle.golog_semantics.specs.Journal.{has_end}
use Rattle.golog_semantics.specs.InlineText.{report_of}
use Rattle.golog_journal.specs.Leading.{Outlet}
use Rattle.golog_device.specs.Slots.{standings}
use Rattle.golog_lead.specs.Courses.{Course}
use Rattle.golog_main.specs.Runs.{RunsOn}
use Rattle.golog_main.proofs.Served.{of-rounds}
use Rattle.golog_commands.proofs.Reported.{whole-ended}
use Rattle.golog_main.proofs.Reporting.{has-answer, same-outlet, scribe-writes, written-of}
use Rattle.golog_main.proofs.run.written_in_rounds.Goals as goal

-- what is known of a reference that has this name
learned : {A N : Type 0} {given name : N} {x y : A} → name ≡ given → (given ≡ name → x ≡ y) → y ≡ x
learned same so = sym (so (sym same))

pub run_status-status-requires : goal.run_status-status-requires
run_status-status-requires g c =
    has-answer c.run_inline.new.lead.driver.core.list c.answer.result c.answer.ensures
    (ap has_end c.run_inline.ensures.whole ∙ whole-ended c.args.agent.now c.run_inline.new.board.entries c.run_inline.ensures.ran.whole)

pub returns : goal.returns
returns g c =
    let agent = c.args.agent.now in
    let stand = standings g.D.Device.fresh g.D.Device.meaning in
    let before = c.args.journal.entries in
    let board = c.run_inline.new.board.entries in
    let last = c.run_inline.new.lead in
    let taken = g.K.Sink.taken in
    let faults = g.K.Sink.faults in
    let outlet = same-outlet _ _ c.run_inline.ensures.same.same_outlet in
    let base = ap (λ (o : Outlet). o.base) outlet ∙ ap taken c.with-scribe.ensures.base in
    let count = ap (λ (o : Outlet). o.faults) outlet ∙ ap faults c.with-scribe.ensures.base in
    let name = c.into_sink-out.ensures.same_reference ∙ ap (λ (o : Outlet). o.name) outlet ∙ c.with-scribe.ensures.same_reference in
    let value = c.into_sink-out.ensures.value in
    let has = c.run_inline.ensures.stands (c.with-scribe.ensures.stands (ap (λ (p : Course). p.list) c.requires.pen)) in
    let same = c.run_inline.ensures.same.same_agent ∙ ap (λ (p : Course). p.agent) (c.with-scribe.ensures.core ∙ c.requires.pen) in
    let ended = ap has_end c.run_inline.ensures.whole ∙ whole-ended agent board c.run_inline.ensures.ran.whole in
    scribe-writes _ _ _ _ (RunsOn agent true before (stand c.args.devices.now) (stand c.run_inline.new.devices)) agent last.driver.core.agent last.driver.core.list last.driver.record.faulted c.answer.result c.run_status-status.result
    (written-of last.driver.core.agent last.driver.core.list last.driver.record.faulted _ _ _ _ _ _ _ _ base (sym (ap taken value) ∙ ap taken (learned name assumption)) count (sym (ap faults value) ∙ ap faults (learned name assumption)) has)
    same
    (of-rounds agent before board (stand c.args.devices.now) (stand c.run_inline.new.devices) (report_of agent last.driver.core.list) (ap (report_of agent) c.run_inline.ensures.whole)
    c.run_inline.ensures.lawful c.run_inline.ensures.short c.run_inline.ensures.ran)
    c.answer.ensures ended
    (λ fault. c.run_status-status.ensures.fault (c.faulted.ensures ∙ fault)) (λ whole. c.run_status-status.ensures.shown (c.faulted.ensures ∙ whole))
