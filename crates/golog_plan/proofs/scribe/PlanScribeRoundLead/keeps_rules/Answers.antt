use Rattle.golog_plan.proofs.scribe.PlanScribeRoundLead.keeps_rules.Goals as goal

pub returns : goal.returns
returns g c =
    let f = c.keeps_rules.ensures.followed in
    record { formed = f.formed; lawful = f.lawful; keeps = f.planned; short = c.keeps_rules.ensures.short }
