use Rattle.std.proofs.Common.{sym, ◌∙◌}
use Rattle.std.proofs.lemmas.List.{length-map}
use Rattle.golog_find.specs.Numbers.{meant}
use Rattle.golog_find.proofs.search.Search.width.Goals as goal

pub returns : goal.returns
returns c = c.len.ensures ∙ sym (length-map c.args.self.now.last (meant c.args.self.now.nodes))
