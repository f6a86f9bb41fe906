use Rattle.std.proofs.Common.{◌≡◌, ap, ◌∙◌, subst}
use Rattle.std.specs.Prelude.{IfOk}
use Rattle.golog_semantics.specs.Progress.{left_after, values_after}
use Rattle.golog_search.specs.Decided.{decision}
use Rattle.golog_replay.proofs.Steps.{left-fits}
use Rattle.golog_replay.proofs.course.Course.decide.Goals as goal

pub decide_unbounded-requires-clause-program : goal.decide_unbounded-requires-clause-program
decide_unbounded-requires-clause-program c =
    left-fits c.args.agent.now c.args.before.now c.args.self.now.left c.requires.formed c.requires.left_so

pub returns : goal.returns
returns c =
    let agent = c.args.agent.now in
    let self = c.args.self.now in
    subst (λ p. IfOk c.decide_unbounded.result (λ d. d ≡ decision agent (values_after agent c.args.before.now) p)) c.requires.left_so
    (subst (λ vs. IfOk c.decide_unbounded.result (λ d. d ≡ decision agent vs self.left)) c.requires.values_so c.decide_unbounded.ensures)
