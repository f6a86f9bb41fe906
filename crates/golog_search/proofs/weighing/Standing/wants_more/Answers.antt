use Rattle.std.proofs.Common.{ap, ◌∙◌}
use Rattle.golog_find.specs.Finding.{mode_of}
use Rattle.golog_search.specs.Weighing.{lacks_fuel}
use Rattle.golog_search.proofs.HeavyPrograms.{lacks-found}
use Rattle.golog_search.proofs.weighing.Standing.wants_more.Goals as goal

pub returns : goal.returns
returns c =
    c.lacks_fuel.ensures ∙ ap lacks_fuel c.in_ok-found.ensures.found
    ∙ lacks-found c.args.self.now.agent.now c.args.self.now.state.now (mode_of c.args.certain) c.args.block.now
