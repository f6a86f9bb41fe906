use Rattle.std.proofs.Common.{◌≡◌, ℕ, false, [], length, take, drop, refl, sym, ap, ◌∙◌, subst, arith}
use Rattle.golog_journal.specs.Boards.{AgentJournal}
use Rattle.golog_team.specs.declared.side.Side.{Side}
use Rattle.golog_team.specs.Steps.{station}
use Rattle.golog_team.specs.Sides.{IsToldOf}
use Rattle.golog_team.proofs.Held.{first-side, first-station}
use Rattle.golog_team.proofs.side.Side.new.Goals as goal

pub returns-clause-side : goal.returns-clause-side
returns-clause-side g c =
    first-side g.L.Lead.mind g.W.Wire.view _ c.requires.formed c.requires.may c.requires.facts c.requires.journal c.requires.lead c.requires.wire c.new.ensures
    refl refl

pub returns-clause-new : goal.returns-clause-new
returns-clause-new g c =
    let s : Side g.row.L.Denot g.row.W.Denot = record {
      side = c.args.side;
      agent = c.args.agent;
      other = c.args.other;
      facts = c.args.facts;
      journal = c.args.journal;
      lead = c.args.lead;
      wire = c.args.wire;
      told = c.new.result;
      taken = 0;
      ended = false;
    } in
    first-station g.L.Lead.mind g.W.Wire.view s c.requires.journal c.requires.wire.1 refl
