use Rattle.golog_team.proofs.Pairs.{goes-on, has-ended, is-over}
use Rattle.golog_team.proofs.side.Side.is_over.Goals as goal

pub returns-clause-over : goal.returns-clause-over
returns-clause-over g c told = is-over g.L.Lead.mind g.W.Wire.view c.args.self.now c.requires told

pub returns-clause-told : goal.returns-clause-told
returns-clause-told g c told = has-ended g.L.Lead.mind g.W.Wire.view c.args.self.now c.requires told

pub returns-clause-goes_on : goal.returns-clause-goes_on
returns-clause-goes_on g c told = goes-on g.L.Lead.mind g.W.Wire.view c.args.self.now c.requires told
