-- An agent of nothing.
use Rattle.std.specs.Prelude.{[]}
use Rattle.golog_tree.specs.declared.agent.Agent.{Agent}
use Rattle.golog_tree.specs.declared.prog.Prog.TheVariants.{Nil}

abbrev pub no_agent : Agent
no_agent = record {
  sorts = [];
  fluents = [];
  actions = [];
  firsts = record { sizes = []; fluents = []; actions = [] };
  devices = [];
  poss = [];
  causes = [];
  senses = [];
  starts = [];
  procs = [];
  main = Nil;
}
