use Rattle.std.proofs.Common.{true, false, sym, ◌∙◌, subst}
use Rattle.std.specs.Prelude.{IfOk}
use Rattle.golog_trace.specs.Ways.{TellsNext}
use Rattle.golog_trace.proofs.tracing.next_text.Goals as goal

pub returns-then-has_front_block : goal.returns-then-has_front_block
returns-then-has_front_block c =
    subst (λ b. IfOk c.blocks_text.result (TellsNext c.args.agent.now c.args.state.now c.args.prog.now b)) (sym c.if-has_front_block.true ∙ c.has_front_block.ensures) c.blocks_text.ensures

pub returns-else-has_front_block : goal.returns-else-has_front_block
returns-else-has_front_block c =
    subst (λ b. IfOk c.ways_text.result (TellsNext c.args.agent.now c.args.state.now c.args.prog.now b)) (sym c.if-has_front_block.false ∙ c.has_front_block.ensures) c.ways_text.ensures
