use Rattle.std.proofs.Common.{◌≡◌, ◌++◌, ◌∷◌, [], ap, ◌∙◌}
use Rattle.golog_watch.specs.Watched.{with_room}
use Rattle.golog_watch.proofs.Keeping.{on-err}
use Rattle.golog_watch.proofs.watches.Watches.add.Goals as goal

pub returns-clause-added : goal.returns-clause-added
returns-clause-added c = c.in_ok-push.ensures.items ∙ ap (λ ws. ws ++ c.args.watch ∷ []) c.make_room.ensures

pub returns-in_err-push-clause-others : goal.returns-in_err-push-clause-others
returns-in_err-push-clause-others c =
    on-err (c.push.new.self.items ≡ with_room c.args.self.now.watches.items) c.from_residual.result (c.in_err-push.ensures.items ∙ c.make_room.ensures)
