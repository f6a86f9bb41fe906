use Rattle.std.proofs.Common.{◌≡◌, ◌++◌, ◌≤◌, length, List, ℕ, sym, ap, ◌∙◌, subst, arith}
use Rattle.std.specs.Prelude.{All}
use Rattle.std.proofs.lemmas.List.{length-append}
use Rattle.golog_find.specs.declared.states.Row.{Row}
use Rattle.golog_find.specs.Rows.{IsWithin, row_states}
use Rattle.golog_find.proofs.RowStates.{on-err, rows-more, rows-stay, within-longer, within-more}
use Rattle.golog_find.proofs.states.push_row.Goals as goal

pub returns-in_err-push-clause-within : goal.returns-in_err-push-clause-within
returns-in_err-push-clause-within c =
    let old = c.args.values.now in
    let new = c.extend.new.self in
    let count = ap (λ (vs : List ℕ). length vs) c.in_ok-extend.ensures.added ∙ length-append old c.values.result.now in
    let longer : length old ≤ length new = omega arith in
    subst (All (IsWithin (length new))) (sym c.in_err-push.ensures.err) (within-longer (length old) (length new) c.args.rows.now longer c.requires)

pub returns-in_err-push-clause-err : goal.returns-in_err-push-clause-err
returns-in_err-push-clause-err c =
    on-err c.from_residual-in_err-push.result
    ((λ i. row_states (c.in_ok-extend.ensures.added i) (c.in_err-push.ensures.err i))
    ∙ rows-stay c.args.values.now c.values.result.now c.args.rows.now c.requires)

abbrev row : goal.In_ok-push → Row
row c = record { label = c.args.reached.now.label; left = c.args.reached.now.left; from = c.args.reached.now.from; start = c.len-start.result; end = c.len.result }

added : (c : goal.In_ok-push) → c.extend.new.self ≡ c.args.values.now ++ c.args.reached.now.state
added c = c.in_ok-extend.ensures.added ∙ ap (λ (vs : List ℕ). c.args.values.now ++ vs) c.values.ensures

pub returns-clause-within : goal.returns-clause-within
returns-clause-within c =
    within-more c.args.values.now c.args.reached.now.state c.extend.new.self c.args.rows.now c.push.new.self (row c) c.requires (added c) c.in_ok-push.ensures.ok c.len-start.ensures c.len.ensures

pub returns-clause-ok : goal.returns-clause-ok
returns-clause-ok c =
    rows-more c.args.values.now c.args.reached.now.state c.extend.new.self c.args.rows.now c.push.new.self (row c) c.requires (added c) c.in_ok-push.ensures.ok c.len-start.ensures c.len.ensures
