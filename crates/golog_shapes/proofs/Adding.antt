-- Refusals that come one after another.
use Rattle.std.proofs.Common.{◌≡◌, ℕ, ℤ, Bool, not, List, ◌++◌, Option, sym, ap, subst, ◌∙◌, append_assoc}
use Rattle.golog_tree.specs.declared.draft_cond.DraftCond.{DraftCond}
use Rattle.golog_tree.specs.declared.draft_prog.DraftProg.{DraftProg}
use Rattle.golog_tree.specs.declared.draft_prog.DraftProg.TheVariants as draft
use Rattle.golog_tree.specs.declared.draft_prog.DraftProg.TheOpen.{If, Search}
use Rattle.golog_tree.specs.declared.draft_prog.DraftProg.TheFolds.{fold-roll-DraftProg}
use Rattle.golog_semantics.specs.BlockFree.{has_block_by}
use Rattle.golog_rows.specs.declared.least.Refusal.{Refusal}
use Rattle.golog_rows.specs.Least.{CodeAt, IsLeastOf}
use Rattle.golog_shapes.specs.Unguarded.{refused_where}
use Rattle.golog_shapes.specs.DraftBlocks.{Blocks, blocks_step, blocks_of, block_refusals, numbers_fit}

-- the rows of a search block
pub search-rows : (said : List Bool) (depth fuel : ℤ) (body : DraftProg) (at : ℕ) → block_refusals said (draft.Search depth fuel body at)
    ≡ ((refused_where (has_block_by said (blocks_of said body).shape) (33, at) ++ refused_where (not (numbers_fit depth fuel)) (37, at)) ++ block_refusals said body)
search-rows said depth fuel body at =
    ap (block_refusals said) (sym (draft.rolls-Search depth fuel body at))
    ∙ ap (λ (b : Blocks). b.refused) (fold-roll-DraftProg Blocks (blocks_step said) (Search depth fuel body at))

-- the rows of two programs, of which one is run
if-rows : (said : List Bool) (c : DraftCond) (p q : DraftProg) (at : ℕ)
    → block_refusals said (draft.If c p q at) ≡ block_refusals said p ++ block_refusals said q
if-rows said c p q at =
    ap (block_refusals said) (sym (draft.rolls-If c p q at))
    ∙ ap (λ (b : Blocks). b.refused) (fold-roll-DraftProg Blocks (blocks_step said) (If c p q at))

pub added-if : (least : Option Refusal) (before : List CodeAt) (said : List Bool) (whole : DraftProg) (c : DraftCond) (one p other q : DraftProg) (at : ℕ)
    → whole ≡ draft.If c p q at → one ≡ p → other ≡ q
    → IsLeastOf least ((before ++ block_refusals said one) ++ block_refusals said other)
    → IsLeastOf least (before ++ block_refusals said whole)
added-if least before said whole c one p other q at w e h is =
    subst (λ (rs : List CodeAt). IsLeastOf least rs)
    (append_assoc before (block_refusals said one) (block_refusals said other)
    ∙ ap (λ (d : DraftProg). before ++ (block_refusals said d ++ block_refusals said other)) e
    ∙ ap (λ (d : DraftProg). before ++ (block_refusals said p ++ block_refusals said d)) h
    ∙ ap (λ (rs : List CodeAt). before ++ rs) (sym (ap (block_refusals said) w ∙ if-rows said c p q at))) is

-- one more block, whose rows are added
pub added-search : (least : Option Refusal) (before inner : List CodeAt) (nested has fit is_fit : Bool) (at : ℕ) → nested ≡ has → fit ≡ is_fit
    → IsLeastOf least (((before ++ refused_where nested (33, at)) ++ refused_where (not fit) (37, at)) ++ inner)
    → IsLeastOf least (before ++ ((refused_where has (33, at) ++ refused_where (not is_fit) (37, at)) ++ inner))
added-search least before inner nested has fit is_fit at same e is =
    let one = refused_where has (33, at) in
    let two = refused_where (not is_fit) (37, at) in
    subst (λ (rs : List CodeAt). IsLeastOf least rs)
    (ap (λ b. ((before ++ refused_where b (33, at)) ++ refused_where (not fit) (37, at)) ++ inner) same
    ∙ ap (λ b. ((before ++ one) ++ refused_where (not b) (37, at)) ++ inner) e
    ∙ ap (λ rs. rs ++ inner) (append_assoc before one two) ∙ append_assoc before (one ++ two) inner) is

-- two rows, one after the other
pub added-two : (least : Option Refusal) (before : List CodeAt) (one is_one two is_two : Bool) (at : ℕ) → one ≡ is_one → two ≡ is_two
    → IsLeastOf least ((before ++ refused_where one (32, at)) ++ refused_where two (38, at))
    → IsLeastOf least (before ++ (refused_where is_one (32, at) ++ refused_where is_two (38, at)))
added-two least before one is_one two is_two at e h is =
    subst (λ (rs : List CodeAt). IsLeastOf least rs)
    (append_assoc before (refused_where one (32, at)) (refused_where two (38, at))
    ∙ ap (λ b. before ++ (refused_where b (32, at) ++ refused_where two (38, at))) e
    ∙ ap (λ b. before ++ (refused_where is_one (32, at) ++ refused_where b (38, at))) h) is
