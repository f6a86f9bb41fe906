use Rattle.std.proofs.Common.{◌≡◌, Bool, not, List, [], ◌++◌, ℕ, refl, sym, ap, subst, ◌∙◌, rules, arith}
use Rattle.std.proofs.Common.{to_z-of_z}
use Rattle.std.proofs.lemmas.Grind.{common_steps}
use Rattle.golog_tree.specs.declared.draft_prog.DraftProg.{DraftProg}
use Rattle.golog_semantics.specs.BlockFree.{has_block_by}
use Rattle.golog_rows.specs.Least.{CodeAt, IsLeastOf}
use Rattle.golog_shapes.specs.Unguarded.{refused_where}
use Rattle.golog_shapes.specs.DraftBlocks.{blocks_of, block_refusals, numbers_fit}
use Rattle.golog_shapes.proofs.Adding.{added-if, added-search, search-rows}
use Rattle.golog_shapes.proofs.BlockShapes.{told-has}
use Rattle.golog_shapes.proofs.blocks.+blocks.Goals as goal

abbrev rows_of : List Bool → Bool → ℕ → DraftProg → List CodeAt
rows_of said fit at body =
    (refused_where (has_block_by said (blocks_of said body).shape) (33, at) ++ refused_where (not fit) (37, at)) ++ block_refusals said body

pub blocks_in-returns-in-Search-clause-least : goal.blocks_in-returns-in-Search-clause-least
blocks_in-returns-in-Search-clause-least t c =
    let fits : c.numbers_fit.result ≡ numbers_fit c.in-Search.depth c.in-Search.fuel =
    first_of (search rules, search (rules, to_z-of_z), grind (arith, common_steps, to_z-of_z)) in
    λ before is.
    let said = c.args.said.now in
    let body = c.get-in-Search.result.now in
    let fit = numbers_fit c.in-Search.depth c.in-Search.fuel in
    let added = added-search c.least_of.result before (block_refusals said body) c.blocks_in-nested.result (has_block_by said (blocks_of said body).shape)
    c.numbers_fit.result fit c.in-Search.at (c.blocks_in-nested.ensures.has ∙ sym (told-has said body)) fits
    (c.least_of.ensures _ _ (c.lesser_where-outer-in-Search.ensures _ (c.lesser_where-outer.ensures before is))
    (c.blocks_in-nested.ensures.least [] refl)) in
    let whole : IsLeastOf c.least_of.result (before ++ rows_of said fit c.in-Search.at c.in-Search.body) =
    subst (λ (p : DraftProg). IsLeastOf c.least_of.result (before ++ rows_of said fit c.in-Search.at p)) c.get-in-Search.ensures added in
    subst (λ (rs : List CodeAt). IsLeastOf c.least_of.result (before ++ rs))
    (sym (ap (block_refusals said) c.in-Search.is ∙ search-rows said c.in-Search.depth c.in-Search.fuel c.in-Search.body c.in-Search.at)) whole

pub blocks_in-returns-then-one-clause-least : goal.blocks_in-returns-then-one-clause-least
blocks_in-returns-then-one-clause-least t c = λ before is.
    added-if c.blocks_in-other.new.least before c.args.said.now _ c.in-If.cond c.get.result.now c.in-If.yes c.get-in-If.result.now c.in-If.no c.in-If.at
    c.in-If.is c.get.ensures c.get-in-If.ensures (c.blocks_in-other.ensures.least _ (c.blocks_in-one.ensures.least before is))

pub blocks_in-returns-else-one-clause-least : goal.blocks_in-returns-else-one-clause-least
blocks_in-returns-else-one-clause-least t c = λ before is.
    added-if c.blocks_in-other.new.least before c.args.said.now _ c.in-If.cond c.get.result.now c.in-If.yes c.get-in-If.result.now c.in-If.no c.in-If.at
    c.in-If.is c.get.ensures c.get-in-If.ensures (c.blocks_in-other.ensures.least _ (c.blocks_in-one.ensures.least before is))
