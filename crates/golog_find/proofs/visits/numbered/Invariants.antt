use Rattle.std.proofs.Common.{take}
use Rattle.golog_memo.specs.Numbered.{AreOnce}
use Rattle.golog_fronts.specs.FrontLists.{guarded}
use Rattle.golog_ways.specs.Open.{AreChecked}
use Rattle.golog_find.specs.Numbers.{GoesOn}
use Rattle.golog_find.specs.Visits.{AreFrontsOf}
use Rattle.golog_find.proofs.visits.numbered.Given as goal

-- the fronts so far have their numbers, and their checks
abbrev pub invariant-loop-front : goal.invariant-loop-front
invariant-loop-front l =
    AreFrontsOf l.nodes (guarded (take l.front-index l.fronts)) l.list × GoesOn l.initial.nodes l.nodes × AreOnce l.nodes × AreChecked l.agent l.list
