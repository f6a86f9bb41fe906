use Rattle.std.proofs.Common.{sym, ◌∙◌}
use Rattle.golog_memo.specs.Placed.{is_among}
use Rattle.golog_memo.proofs.Placing.{placed-first}
use Rattle.golog_memo.proofs.places.Places.add.Goals as goal

pub returns-in_ok-insert-clause-ok : goal.returns-in_ok-insert-clause-ok
returns-in_ok-insert-clause-ok c =
    placed-first c.args.self.now.firsts c.insert.new.self c.args.hash c.args.place (is_among c.args.self.now.others) (sym c.contains_key.ensures ∙ c.if-contains_key.false) (c.in_ok-insert.ensures.updates).0
