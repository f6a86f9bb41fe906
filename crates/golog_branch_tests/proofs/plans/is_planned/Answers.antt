use Rattle.std.proofs.Common.{sym, ap, ◌∙◌}
use Rattle.std.specs.Prelude.{not}
use Rattle.golog_branch_tests.proofs.plans.is_planned.Goals as goal

pub text_at_start-text-requires-clause-blockless : goal.text_at_start-text-requires-clause-blockless
text_at_start-text-requires-clause-blockless c = ap not (sym c.has_block.ensures ∙ c.if-has_block.false)
