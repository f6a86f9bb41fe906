use Rattle.golog_commands.proofs.ExactLemmas.{exact}
use Rattle.golog_main.proofs.laws.each_status_where_its_cause_is.Goals as goal

pub returns : goal.returns
returns c = exact c.spelled_cond_is_unrefused.ensures c.one_cond_is_spelled.ensures
