use Rattle.std.proofs.Common.{subst, sym}
use Rattle.golog_flat.specs.Effects.{IsEffectOf}
use Rattle.golog_flat.proofs.Agreeing.{quiet-is}
use Rattle.golog_flat.proofs.effect.Effect.of.Goals as goal

pub returns-in-Quiet : goal.returns-in-Quiet
returns-in-Quiet c =
    subst (λ label. IsEffectOf c.args.agent.now label (record { writes = c.new.result })) (sym c.in-Quiet.is)
    (quiet-is c.args.agent.now (record { writes = c.new.result }) c.new.ensures)
