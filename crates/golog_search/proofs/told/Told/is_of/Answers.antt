use Rattle.std.proofs.Common.{sym, ◌∙◌}
use Rattle.golog_search.proofs.told.Told.is_of.Goals as goal

pub returns-then-is_same_prog : goal.returns-then-is_same_prog
returns-then-is_same_prog c =
    let same = c.is_same_prog.ensures in
    let all = c.are_same_ways.ensures in
    (λ t. (same.0 c.if-is_same_prog.true, sym c.as_slice.ensures ∙ all.0 t), λ h. all.1 (c.as_slice.ensures ∙ h.1))

pub returns-else-is_same_prog : goal.returns-else-is_same_prog
returns-else-is_same_prog c =
    let same = c.is_same_prog.ensures in
    let other = c.if-is_same_prog.false in
    (λ t. absurd (cc (t, other)), λ h. same.1 h.0)
