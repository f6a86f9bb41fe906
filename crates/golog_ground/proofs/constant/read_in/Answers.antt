use Rattle.std.proofs.Common.{◌≡◌, ℕ, ◌<◌, Some, None, sym, ap, ◌∙◌, subst, to_z, of_z, rules}
use Rattle.std.specs.Prelude.{position, nat_eq}
use Rattle.std.specs.Int.{w32}
use Rattle.golog_ground.proofs.Constants.{of-range}
use Rattle.std.specs.Cmp.Lexicographic.{pointwise}
use Rattle.golog_tree.specs.Ground.{item_size}
use Rattle.golog_semantics.specs.Text.{constant_in}
use Rattle.golog_semantics.specs.ReportLaws.{AreDistinctNames}
use Rattle.golog_ground.specs.Texts.{IsTheOne, IsUnmarked, WritesConstantOf, HasOwnNames}
use Rattle.golog_ground.proofs.Places.{the-name, no-name, unmarked-names}
use Rattle.golog_ground.proofs.constant.read_in.Goals as goal

pub returns-in-Range-clause-the_one : goal.returns-in-Range-clause-the_one
returns-in-Range-clause-the_one c =
    let low : to_z w32 (of_z w32 c.in-Range.low) ≡ c.in-Range.low = search rules in
    let high : to_z w32 (of_z w32 c.in-Range.high) ≡ c.in-Range.high = search rules in
    subst (λ item. IsTheOne c.read_in_range.result (WritesConstantOf item c.args.bytes.now)) (sym c.in-Range.is)
    (of-range c.in-Range.name _ c.in-Range.low _ c.in-Range.high c.args.bytes.now c.read_in_range.result low high c.read_in_range.ensures.the_one)

pub returns-in-Some-clause-the_one : goal.returns-in-Some-clause-the_one
returns-in-Some-clause-the_one c =
    let apart : AreDistinctNames c.in-Listed.constants = subst HasOwnNames c.in-Listed.is c.requires.apart in
    let e : Some c.in-Some.place ≡ position (λ name. pointwise nat_eq name c.args.bytes.now) c.in-Listed.constants =
    c.in-Some.ensures ∙ ap (position (λ name. pointwise nat_eq name c.args.bytes.now)) c.as_slice.ensures in
    subst (λ item. IsTheOne (Some c.in-Some.place) (WritesConstantOf item c.args.bytes.now)) (sym c.in-Listed.is)
    (the-name c.in-Listed.constants apart c.args.bytes.now c.in-Some.place e)

pub returns-in-Some-clause-unmarked : goal.returns-in-Some-clause-unmarked
returns-in-Some-clause-unmarked c =
    subst (λ item. (v : ℕ) → v < item_size item → IsUnmarked (constant_in item v)) (sym c.in-Listed.is)
    (unmarked-names c.in-Listed.constants (subst HasOwnNames c.in-Listed.is c.requires.apart))

pub returns-in-None-clause-the_one : goal.returns-in-None-clause-the_one
returns-in-None-clause-the_one c =
    let apart : AreDistinctNames c.in-Listed.constants = subst HasOwnNames c.in-Listed.is c.requires.apart in
    let e : None ≡ position (λ name. pointwise nat_eq name c.args.bytes.now) c.in-Listed.constants =
    c.in-None.ensures ∙ ap (position (λ name. pointwise nat_eq name c.args.bytes.now)) c.as_slice.ensures in
    subst (λ item. IsTheOne None (WritesConstantOf item c.args.bytes.now)) (sym c.in-Listed.is)
    (no-name c.in-Listed.constants apart c.args.bytes.now e)

pub returns-in-None-clause-unmarked : goal.returns-in-None-clause-unmarked
returns-in-None-clause-unmarked c =
    subst (λ item. (v : ℕ) → v < item_size item → IsUnmarked (constant_in item v)) (sym c.in-Listed.is)
    (unmarked-names c.in-Listed.constants (subst HasOwnNames c.in-Listed.is c.requires.apart))
