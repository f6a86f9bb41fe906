use Rattle.std.proofs.Common.{◌≡◌, IfOk, refl, subst, ◌∙◌}
use Rattle.golog_check_text.specs.Counts.{check_text, counts_line}
use Rattle.golog_check_text.proofs.Counted.{counted}
use Rattle.golog_check_text.proofs.counts.check_text.Goals as goal

pub returns : goal.returns
returns c =
    let counts = counted c.args.agent.now c.requires in
    let line = counts_line c.len.result c.action_count.result c.len-2.result c.len-3.result in
    let same : line ≡ check_text c.args.agent.now =
    rw (c.len.ensures ∙ counts.fluents, c.action_count.ensures ∙ counts.actions, c.len-2.ensures, c.len-3.ensures) refl in
    subst (λ line. IfOk c.line_of.result (λ text. text ≡ line)) same c.line_of.ensures
