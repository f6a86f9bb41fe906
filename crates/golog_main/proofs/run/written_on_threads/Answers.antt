use Rattle.std.proofs.Common.{◌∙◌, []}
use Rattle.golog_main.proofs.Served.{still-among, threads-among}
use Rattle.golog_main.proofs.Reporting.{writes-more}
use Rattle.golog_main.proofs.run.written_on_threads.Goals as goal

pub returns-clause-written : goal.returns-clause-written
returns-clause-written g c =
    writes-more _ _ c.args.agent.now [] _ _ _ _ c.served_on_threads.result
    (threads-among c.args.agent.now g.D.Device.fresh g.D.Device.meaning c.args.journal.entries _ _ _ _
    c.split_at_mut-served.ensures.value (c.split_at_mut-served.ensures.front_len ∙ c.len.ensures))
    c.served_on_threads.ensures.written

pub returns-clause-unserved : goal.returns-clause-unserved
returns-clause-unserved g c = still-among _ _ _ _ c.served_on_threads.result c.split_at_mut-served.ensures.value c.served_on_threads.ensures.unserved
