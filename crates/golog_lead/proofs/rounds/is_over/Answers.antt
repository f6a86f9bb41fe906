use Rattle.std.proofs.Common.{sym, ◌∙◌, arith}
use Rattle.golog_lead.proofs.Rounding.{next-shut, open-goes, shut-whole}
use Rattle.golog_lead.proofs.rounds.is_over.Goals as goal

pub loop-device-preserved : goal.loop-device-preserved
loop-device-preserved g c =
    next-shut c.args.agent.now (g.L.Lead.mind c.args.lead.now).list c.loop-device.device c.loop-device.invariant (sym c.is_open.ensures ∙ c.if-is_open.false)

pub overflow_cast-device : goal.overflow_cast-device
overflow_cast-device g c =
    let few = c.requires.well_formed.small.devices in
    let many = c.len-device-end.ensures in
    let below = c.loop-device-test.true in
    omega (arith, few, many, below)

pub returns-then-is_open : goal.returns-then-is_open
returns-then-is_open g c =
    let many = c.len-device-end.ensures in
    let below = c.loop-device-test.true in
    sym (open-goes c.args.agent.now (g.L.Lead.mind c.args.lead.now).list c.loop-device.device (omega (arith, many, below)) (sym c.is_open.ensures ∙ c.if-is_open.true))

pub returns : goal.returns
returns g c =
    let many = c.len-device-end.ensures in
    let past = c.loop-device-test.false in
    c.has_ended.ensures
    ∙ shut-whole c.args.agent.now (g.L.Lead.mind c.args.lead.now).list (λ d below. c.loop-device.invariant d (omega (arith, many, past, below)))
