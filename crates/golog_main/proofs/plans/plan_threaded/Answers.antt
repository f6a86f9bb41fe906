use Rattle.std.proofs.Common.{◌∙◌}
use Rattle.golog_main.proofs.Served.{still-among}
use Rattle.golog_main.proofs.PlanLemmas.{journals-more, plans-among}
use Rattle.golog_main.proofs.plans.plan_threaded.Goals as goal

pub returns-clause-written : goal.returns-clause-written
returns-clause-written g c =
    journals-more _ _ _ _ _ _ _ c.plan_served.result
    (plans-among c.args.agent.now c.args.pen.core.depth c.args.pen.core.fuel g.D.Device.fresh g.D.Device.meaning c.args.journal.entries _ _ _ _
    c.split_at_mut-served.ensures.value (c.split_at_mut-served.ensures.front_len ∙ c.len.ensures))
    c.plan_served.ensures.written

pub returns-clause-unserved : goal.returns-clause-unserved
returns-clause-unserved g c = still-among _ _ _ _ c.plan_served.result c.split_at_mut-served.ensures.value c.plan_served.ensures.unserved
