use Rattle.std.proofs.Common.{◌≡◌, true, false, sym, ap, ◌∙◌}
use Rattle.std.specs.Prelude.{◌||◌, not}
use Rattle.golog_semantics.specs.Ways.{is_empty}
use Rattle.golog_find.specs.Numbers.{looked_of}
use Rattle.golog_find.proofs.Numbering.{meant-empty}
use Rattle.golog_find.proofs.search.Search.is_cut.Goals as goal

pub returns-then-not-is_empty : goal.returns-then-not-is_empty
returns-then-not-is_empty c =
    let search = c.args.self.now in
    let some : is_empty (looked_of search).last ≡ false = sym (meant-empty search.nodes search.last c.is_empty.result c.is_empty.ensures) ∙ c.if-not-is_empty.true in
    ap not c.if-not-is_empty.true ∙ sym (ap (λ b. not b || search.cut) some)

pub returns-else-not-is_empty : goal.returns-else-not-is_empty
returns-else-not-is_empty c =
    let search = c.args.self.now in
    let none : is_empty (looked_of search).last ≡ true = sym (meant-empty search.nodes search.last c.is_empty.result c.is_empty.ensures) ∙ c.if-not-is_empty.false in
    sym (ap (λ b. not b || search.cut) none)
