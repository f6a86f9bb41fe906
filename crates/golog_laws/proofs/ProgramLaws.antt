-- The laws of programs, put together.
use Rattle.std.proofs.Common.{ℕ, refl}
use Rattle.golog_tree.specs.declared.agent.Agent.{Agent}
use Rattle.golog_tree.specs.declared.prog.Prog.{Prog}
use Rattle.golog_tree.specs.Nest.{nest_step}
use Rattle.golog_tree.specs.Substitute.{Put}
use Rattle.golog_semantics.specs.Guarded.{proc_fronts}
use Rattle.golog_laws.specs.ProgLaws.{HasNoRuns, PlainCommutes, PutCommutes}
use Rattle.golog_semantics.specs.WellFormed.{WellFormed}
use Rattle.golog_semantics.proofs.PlainLaws.{front_plain, plain_conc, plain_prio, plain_put, plain_seq, put_conc, put_prio, put_seq}
use Rattle.golog_semantics.proofs.FrontPut.{front-put}
use Rattle.golog_semantics.proofs.PutByParts.{IgnoresPut, fold-put}
use Rattle.golog_certain.proofs.WrittenLaws.{main_within, well_formed_plain, well_formed_within}

nest_ignores : IgnoresPut ℕ ℕ nest_step (λ w. 0)
nest_ignores = record { act_same = λ action args put. refl; test_same = λ c put. refl; if_same = λ c put a b. refl; while_same = λ c put a. refl; call_same = λ item args put. refl }

pub constants_put_in : (p q : Prog) (put : Put) → PutCommutes p q put
constants_put_in p q put = record {
  seq = put_seq p q put;
  conc = put_conc p q put;
  prio = put_prio p q put;
  same_nest = fold-put ℕ ℕ nest_step (λ w. 0) nest_ignores p put;
  same_front = λ agent. front-put (proc_fronts agent) p put;
}

pub plainly_written : (p q : Prog) (put : Put) → PlainCommutes p q put
plainly_written p q put = record {
  seq = plain_seq p q;
  conc = plain_conc p q;
  prio = plain_prio p q;
  substituted = plain_put p put;
  same_front = λ agent. front_plain (proc_fronts agent) p;
}

pub has_no_runs : (agent : Agent) → WellFormed agent → HasNoRuns agent
has_no_runs agent w = record { is_plain = well_formed_plain agent w; procs_within = well_formed_within agent w; main_within = main_within agent w }
