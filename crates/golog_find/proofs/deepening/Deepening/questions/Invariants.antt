use Rattle.std.proofs.Common.{◌≡◌, map, take}
use Rattle.std.specs.Prelude.{All}
use Rattle.golog_semantics.specs.InSorts.{AreInSorts}
use Rattle.golog_ways.specs.Open.{AreChecked, open_places}
use Rattle.golog_find.specs.Batches.{places_at}
use Rattle.golog_find.proofs.deepening.Deepening.questions.Given as goal

-- what is asked of the states so far
abbrev pub invariant-loop-at : goal.invariant-loop-at
invariant-loop-at l = record {
  checked : All (λ a. AreChecked l.self.agent.now a.fronts.now) l.asked;
  sorts : All (λ a. AreInSorts l.self.agent.now a.values.now) l.asked;
  places : map (λ a. open_places l.self.agent.now a.values.now l.self.mode (map (λ f. f.cond) a.fronts.now)) l.asked
      ≡ map (places_at l.self.agent.now l.self.mode) (take l.at l.sources);
}
