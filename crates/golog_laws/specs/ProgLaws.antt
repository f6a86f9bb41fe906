-- Laws of programs: constants put in, runs under way written as blocks, and tidy programs.
use Rattle.std.specs.Prelude.{◌≡◌, IsTrue}
use Rattle.std.specs.List.{list_all}
use Rattle.golog_tree.specs.declared.agent.Agent.{Agent}
use Rattle.golog_tree.specs.declared.prog.Prog.{Prog}
use Rattle.golog_tree.specs.Nest.{nest}
use Rattle.golog_tree.specs.Substitute.{Put, prog_put}
use Rattle.golog_tree.specs.Tidy.{tidy_seq, tidy_conc, tidy_prio}
use Rattle.golog_semantics.specs.Guarded.{front}
use Rattle.golog_semantics.specs.Plain.{plain, IsPlain}
use Rattle.golog_certain.specs.FollowedRuns.{runs_within}
use Rattle.golog_semantics.specs.WellFormed.{WellFormed}

-- a constant that is put in goes into the parts of a tidy program, and changes neither nest nor front
pub record PutCommutes (p q : Prog) (put : Put) : Type 0 where
  pub seq : prog_put (tidy_seq p q) put ≡ tidy_seq (prog_put p put) (prog_put q put)
  pub conc : prog_put (tidy_conc p q) put ≡ tidy_conc (prog_put p put) (prog_put q put)
  pub prio : prog_put (tidy_prio p q) put ≡ tidy_prio (prog_put p put) (prog_put q put)
  pub same_nest : nest (prog_put p put) ≡ nest p
  pub same_front : (agent : Agent) → front agent (prog_put p put) ≡ front agent p

-- so it is with runs under way that are written as blocks
pub record PlainCommutes (p q : Prog) (put : Put) : Type 0 where
  pub seq : plain (tidy_seq p q) ≡ tidy_seq (plain p) (plain q)
  pub conc : plain (tidy_conc p q) ≡ tidy_conc (plain p) (plain q)
  pub prio : plain (tidy_prio p q) ≡ tidy_prio (plain p) (plain q)
  pub substituted : plain (prog_put p put) ≡ prog_put (plain p) put
  pub same_front : (agent : Agent) → front agent (plain p) ≡ front agent p

abbrev pub ConstantsPutIn : Type 0
ConstantsPutIn = (p q : Prog) (put : Put) → PutCommutes p q put

abbrev pub PlainlyWritten : Type 0
PlainlyWritten = (p q : Prog) (put : Put) → PlainCommutes p q put

-- no run is under way in an agent as it is read
pub record HasNoRuns (agent : Agent) : Type 0 where
  pub is_plain : IsPlain agent
  pub procs_within : IsTrue (list_all (λ item. runs_within item.body) agent.procs)
  pub main_within : IsTrue (runs_within agent.main)

abbrev pub WellFormedHasNoRuns : Type 0
WellFormedHasNoRuns = (agent : Agent) → WellFormed agent → HasNoRuns agent
