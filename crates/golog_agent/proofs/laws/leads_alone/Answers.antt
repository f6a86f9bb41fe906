use Rattle.golog_agent.proofs.Leading.{adds-one, leads-alone}
use Rattle.golog_agent.proofs.laws.leads_alone.Goals as goal

pub returns-clause-leads : goal.returns-clause-leads
returns-clause-leads c = leads-alone

pub returns-clause-one : goal.returns-clause-one
returns-clause-one c = adds-one
