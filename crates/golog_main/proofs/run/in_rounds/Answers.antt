use Rattle.std.proofs.Common.{ap, ◌∙◌}
use Rattle.golog_semantics.specs.InlineText.{report_of}
use Rattle.golog_device.specs.Slots.{standings}
use Rattle.golog_lead.specs.Courses.{Course}
use Rattle.golog_main.proofs.Served.{of-rounds}
use Rattle.golog_main.proofs.run.in_rounds.Goals as goal

pub returns : goal.returns
returns g c =
    let stand = standings g.D.Device.fresh g.D.Device.meaning in
    of-rounds c.args.agent.now c.args.journal.entries c.run_inline.new.board.entries (stand c.args.devices.now) (stand c.run_inline.new.devices) c.report.result
    (c.report.ensures.entries ∙ ap (λ a. report_of a c.run_inline.new.lead.list) (c.run_inline.ensures.same.same_agent ∙ ap (λ (r : Course). r.agent) c.requires.runner) ∙ ap (report_of c.args.agent.now) c.run_inline.ensures.whole)
    c.run_inline.ensures.lawful c.run_inline.ensures.short c.run_inline.ensures.ran
