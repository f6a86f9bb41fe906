use Rattle.std.proofs.Common.{◌≡◌, map, sym, ◌∙◌, subst}
use Rattle.std.specs.Prelude.{All, reverse}
use Rattle.std.proofs.lemmas.Result.{IfOk-weaker}
use Rattle.golog_semantics.specs.Search.{Run}
use Rattle.golog_find.specs.Levels.{run_to}
use Rattle.golog_find.specs.Numbers.{HaveNumbers, all_meant}
use Rattle.golog_find.proofs.search.Search.run_to.Goals as goal

pub steps_to-requires-clause-states : goal.steps_to-requires-clause-states
steps_to-requires-clause-states c = c.requires.last

pub steps_to-requires-clause-before : goal.steps_to-requires-clause-before
steps_to-requires-clause-before c = subst (All (HaveNumbers c.args.self.now.nodes)) (sym c.as_slice.ensures) c.requires.before

pub returns : goal.returns
returns c =
    let nodes = c.args.self.now.nodes in
    let place = c.args.place in
    let last = all_meant nodes c.args.self.now.last in
    let told = run_to (reverse (map (all_meant nodes) c.as_slice.result.now)) last place in
    let wanted = run_to (reverse (map (all_meant nodes) c.args.self.now.before)) last place in
    let same : told ≡ wanted = (λ i. run_to (reverse (map (all_meant nodes) (c.as_slice.ensures i))) last place) in
    IfOk-weaker c.steps_to.result (λ (run : Run). run ≡ told) (λ (run : Run). run ≡ wanted) (λ run e. e ∙ same) c.steps_to.ensures
