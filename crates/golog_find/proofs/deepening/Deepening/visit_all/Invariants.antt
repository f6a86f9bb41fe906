use Rattle.golog_memo.specs.Numbered.{AreOnce}
use Rattle.golog_find.specs.Numbers.{GoesOn}
use Rattle.golog_find.specs.Visits.{AreKept}
use Rattle.golog_find.proofs.deepening.Deepening.visit_all.Given as goal

-- what was kept stays
abbrev pub invariant-loop-place : goal.invariant-loop-place
invariant-loop-place l = GoesOn l.initial.nodes l.nodes × AreOnce l.nodes × AreKept l.self.agent.now l.nodes l.visits
