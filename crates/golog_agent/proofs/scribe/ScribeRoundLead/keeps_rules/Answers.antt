use Rattle.golog_agent.proofs.scribe.ScribeRoundLead.keeps_rules.Goals as goal

pub returns : goal.returns
returns g c =
    let u = c.keeps_rules.ensures in
    record { formed = u.under_way.formed; lawful = u.under_way.lawful; keeps = u.under_way.online; short = u.short }
