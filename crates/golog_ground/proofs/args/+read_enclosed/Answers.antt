use Rattle.std.proofs.Common.{◌≡◌, ◌∷◌, Some, None, sym, ◌∙◌, subst, arith}
use Rattle.std.specs.Cmp.Lexicographic.{same_text}
use Rattle.golog_ground.specs.Texts.{IsTheOne, WritesEnclosed}
use Rattle.golog_ground.proofs.Enclosed.{none-left, few-read, no-constant, no-more, more, split}
use Rattle.golog_ground.proofs.args.+read_enclosed.Goals as goal

pub returns-then-eq : goal.returns-then-eq
returns-then-eq t c =
    none-left c.args.agent.now c.args.opening c.args.sorts.now c.none.result c.args.bytes.now c.in_default.ensures.cases c.none.ensures
    (same_text c.args.bytes.now _ (sym c.if-eq.true ∙ c.eq.ensures) ∙ c.as_slice.ensures)

pub returns-in_default-read_constant : goal.returns-in_default-read_constant
returns-in_default-read_constant t c =
    split c.args.agent.now c.args.opening _ _ _ _ _ _ None c.in-Some.ensures.cases.0 c.in-Some-split_first.ensures.cases.0
    (no-constant c.args.agent.now c.args.opening c.in-Some.sort.now _ c.in-Some.sorts.now c.in-Some-split_first.rest.now _ _
    c.split_at_mark.ensures.front c.split_at_mark.ensures.back c.in_default-read_constant.ensures.unmarked c.in_default-read_constant.ensures.the_one)

pub returns-in_default-read_enclosed : goal.returns-in_default-read_enclosed
returns-in_default-read_enclosed t c =
    split c.args.agent.now c.args.opening _ _ _ _ _ _ None c.in-Some.ensures.cases.0 c.in-Some-split_first.ensures.cases.0
    (no-more c.args.agent.now c.args.opening c.in-Some.sort.now _ c.in-Some.sorts.now c.in-Some-split_first.rest.now _ _
    c.split_at_mark.ensures.front c.split_at_mark.ensures.back c.read_constant.ensures.unmarked c.in_default-read_enclosed.ensures)

pub behind-requires : goal.behind-requires
behind-requires t c =
    few-read c.args.agent.now 44 c.in-Some.sort.now c.args.sorts.now c.in-Some.sorts.now c.in-Some-read_enclosed.args _
    c.in-Some.ensures.cases.0 c.requires.few c.in-Some-read_enclosed.ensures

pub returns : goal.returns
returns t c =
    let opens : c.in-Some-split_first.first.now ≡ c.args.opening = omega arith in
    let made : IsTheOne (Some (c.in-Some-read_constant.arg ∷ c.in-Some-read_enclosed.args)) (WritesEnclosed c.args.agent.now c.args.opening c.args.sorts.now c.args.bytes.now) =
    split c.args.agent.now c.args.opening _ _ _ _ _ _ _ c.in-Some.ensures.cases.0 c.in-Some-split_first.ensures.cases.0
    (more c.args.agent.now c.args.opening c.in-Some.sort.now c.in-Some-split_first.first.now c.in-Some.sorts.now c.in-Some-split_first.rest.now _ _
    c.split_at_mark.ensures.front c.split_at_mark.ensures.back c.read_constant.ensures.unmarked opens
    c.in-Some-read_constant.arg c.in-Some-read_enclosed.args c.in-Some-read_constant.ensures.the_one c.in-Some-read_enclosed.ensures) in
    subst (λ xs. IsTheOne (Some xs) (WritesEnclosed c.args.agent.now c.args.opening c.args.sorts.now c.args.bytes.now)) (sym c.behind.ensures) made
