use Rattle.std.proofs.Common.{ap, ◌∙◌}
use Rattle.golog_semantics.specs.Search.{Run}
use Rattle.golog_watch.specs.Watched.{is_left}
use Rattle.golog_watch.proofs.watch.Watch.keeps.Goals as goal

pub returns : goal.returns
returns c =
    c.is_left.ensures ∙ ap (λ (run : Run). is_left c.args.self.now.body run c.args.body.now c.args.rest.now) c.as_slice.ensures
