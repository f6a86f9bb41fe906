use Rattle.std.proofs.Common.{◌≡◌, ◌≤◌, ℕ, length, take}
use Rattle.golog_semantics.specs.Journal.{Journal}
use Rattle.golog_team.specs.Links.{room}
use Rattle.golog_team.specs.Steps.{Reads}
use Rattle.golog_team.specs.Sides.{at_read, IsToldOf}
use Rattle.golog_team.proofs.reading.read_on.Given as goal

abbrev pub invariant-loop-at : goal.invariant-loop-at
invariant-loop-at g l =
    let view = g.W.Wire.view in
    record {
      of_side : (view l.wire).side ≡ l.side;
      read : l.told.read ≡ l.at;
      within : l.at ≤ length (view l.wire).seen;
      few : length (view l.wire).seen ≤ room;
      told : IsToldOf l.side (take l.at (view l.wire).seen) l.told;
      reads : (journal : Journal) (taken : ℕ)
          → Reads l.side (at_read (view l.fn.wire) l.fn.told.read journal taken) (at_read (view l.wire) l.at journal taken);
    }
