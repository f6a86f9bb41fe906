use Rattle.std.proofs.Common.{sym, ◌∙◌}
use Rattle.std.specs.Cmp.Lexicographic.{same_text, other_text}
use Rattle.golog_ground.proofs.Numbers.{not-text, not-parsed, read-back, not-read-back}
use Rattle.golog_ground.proofs.number.read_number.Goals as goal

pub returns-in_default : goal.returns-in_default
returns-in_default c = not-text c.args.bytes.now c.in_default.ensures.cases.0

pub returns-in_default-parse : goal.returns-in_default-parse
returns-in_default-parse c =
    not-parsed c.args.bytes.now (rw c.in-Ok.ensures.cases.0 at c.in_default-parse.ensures.value.0)

pub returns-then-eq : goal.returns-then-eq
returns-then-eq c =
    read-back c.in-Ok.text.now c.args.bytes.now c.in-Ok-parse.number c.in-Ok.ensures.cases.0 c.in-Ok-parse.ensures.value.0
    (sym c.format.ensures.text ∙ sym c.as_bytes.ensures.value
    ∙ same_text c.as_bytes.result.now c.args.bytes.now (sym c.if-eq.true ∙ c.eq.ensures))

pub returns-else-eq : goal.returns-else-eq
returns-else-eq c =
    not-read-back c.in-Ok.text.now c.args.bytes.now c.in-Ok-parse.number c.in-Ok.ensures.cases.0 c.in-Ok-parse.ensures.value.0
    (λ k. other_text c.as_bytes.result.now c.args.bytes.now (sym c.if-eq.false ∙ c.eq.ensures)
    (c.as_bytes.ensures.value ∙ c.format.ensures.text ∙ k))
