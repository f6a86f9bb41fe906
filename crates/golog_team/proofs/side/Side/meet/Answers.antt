use Rattle.std.proofs.Common.{refl}
use Rattle.golog_team.proofs.Pairs.{apart, pair-met}
use Rattle.golog_team.proofs.side.Side.meet.Goals as goal

pub meet-requires : goal.meet-requires
meet-requires g c = apart g.L.Lead.mind g.M.Lead.mind g.W.Wire.view c.args.self.now c.args.other.now c.requires

pub returns-clause-pair : goal.returns-clause-pair
returns-clause-pair g c =
    let e = c.meet.ensures in
    pair-met g.L.Lead.mind g.M.Lead.mind g.W.Wire.view c.args.self.now c.args.other.now c.requires _ _ refl refl e.own e.other e.same e.all
