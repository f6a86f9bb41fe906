use Rattle.std.proofs.Common.{◌∙◌, ◌-◌, ap, sym, List, length, map, string_bytes, is_some, take, drop}
use Rattle.golog_base.specs.Numbers.{amount}
use Rattle.golog_words.specs.Commands.{Text, plan_in}
use Rattle.golog_words.proofs.PlanWords.{spelled, two_first}
use Rattle.golog_words.proofs.command.is_plan.Goals as goal

pub returns-then-are_bounds : goal.returns-then-are_bounds
returns-then-are_bounds c =
    let words = c.args.words.now in
    let depth = string_bytes c.depth-item.result in
    let fuel = string_bytes c.fuel-item.result in
    let others = map string_bytes (take (length words - 2) (drop 2 words)) in
    let whole = two_first string_bytes words c.depth-item.result c.fuel-item.result
    c.in-len2-up.len_at_least c.depth-item.is c.fuel-item.is in
    let fit = sym c.are_bounds.ensures ∙ c.if-are_bounds.true in
    c.is_planned.ensures (amount depth) (amount fuel)
    ∙ ap is_some (sym (spelled depth fuel others fit))
    ∙ ap (λ (w : List Text). is_some (plan_in w)) (sym whole)
