use Rattle.std.proofs.Common.{rules, ◌∙◌}
use Rattle.golog_find.proofs.Standing.{found-there}
use Rattle.golog_find.proofs.level.Level.has_next.Goals as goal

pub returns : goal.returns
returns c =
    let level = c.args.self.now in
    c.is_some.ensures
    ∙ found-there _ _ c.find-found.result level.seen level.states level.next.left c.args.hash level.next.state c.requires.seen c.requires.hash c.find-found.ensures (λ place p. search rules) (λ place p. search rules)
