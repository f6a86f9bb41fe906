-- The agent that a draft makes, and the refusals of a draft.
use Rattle.std.specs.Prelude.{◌≡◌, not, nat_le, Result, Ok, Err, List, [], ◌∷◌, ◌++◌, map}
use Rattle.golog_tree.specs.declared.agent.Agent.{Agent}
use Rattle.golog_tree.specs.declared.prog.Prog.{Prog}
use Rattle.golog_tree.specs.declared.prog.Prog.TheVariants as prog
use Rattle.golog_tree.specs.declared.draft.DraftTheory.{DraftTheory}
use Rattle.golog_tree.specs.declared.draft.DraftProgram.{DraftProgram}
use Rattle.golog_tree.specs.declared.draft.DraftDevice.{DraftDevice}
use Rattle.golog_tree.specs.declared.draft.DraftMain.{DraftMain}
use Rattle.golog_tree.specs.Ground.{ground_fluents, numbered}
use Rattle.golog_rows.specs.Reading.{Reading, row}
use Rattle.golog_semantics.specs.NoAgent.{no_agent}
use Rattle.golog_check.specs.declared.fault.CheckFault.{CheckFault}
use Rattle.golog_check.specs.declared.fault.CheckFault.TheVariants.{Refused, Memory}
use Rattle.golog_shapes.specs.Codes.{FRONT_DEEP}
use Rattle.golog_shapes.specs.Limits.{MAIN_NEST}
use Rattle.golog_check.specs.declared.starts.Start.{Start}
use Rattle.golog_check.specs.DeclaredItems.{Declared, sort_item, fluent_item, action_item, declared_by}
use Rattle.golog_rows.specs.Order.{IsLeast}
use Rattle.golog_rows.specs.Least.{CodeAt, IsAmong}
use Rattle.golog_check.specs.Least.{refusals, given}
use Rattle.golog_check.specs.Sums.{fluent_sum, action_sum}
use Rattle.golog_check.specs.Starts.{start_in, start_value}
use Rattle.golog_check.specs.Effects.{poss_in, cause_in, senses_in}
use Rattle.golog_shapes.specs.DraftNest.{draft_nest}
use Rattle.golog_check.specs.Programs.{prog_in}
use Rattle.golog_check.specs.Procs.{proc_in}
use Rattle.golog_shapes.specs.Unguarded.{all_front_refusals}
use Rattle.golog_shapes.specs.DraftBlocks.{all_block_refusals}

-- The program of `main`, with no variable in scope. It is refused where it nests too deep.
unfoldable pub main_in : Declared → DraftMain → Reading Prog
main_in names main =
    row (not (nat_le (draft_nest main.body) MAIN_NEST)) FRONT_DEEP main.at (prog_in names main.body [])

module _ (theory : DraftTheory) where
  -- what a theory declares, with nothing said of it yet
  abbrev pub bare : Agent
  bare = record no_agent {
    sorts = map sort_item theory.sorts;
    fluents = map fluent_item theory.fluents;
    actions = map action_item theory.actions;
    devices = map (λ (device : DraftDevice). device.name) theory.devices;
  }

  -- the start values that items give
  abbrev pub starts_of : Declared → List Start
  starts_of names = given (map (start_in names) theory.starts)

-- What there is of each part of a theory and a program, in order, given what there is of readings and of refusals:
-- the sums of ground things, the items, what procedures call without a step, search blocks, and `main`.
abbrev pub of_parts : {R : Type 0} → ((A : Type 0) → List (Reading A) → List R) → (List CodeAt → List R)
    → Declared → DraftTheory → DraftProgram → List R
of_parts of_readings of_refusals names theory program =
    of_readings _ (fluent_sum theory ∷ [])
    ++ of_readings _ (action_sum theory ∷ [])
    ++ of_readings _ (map (start_in names) theory.starts)
    ++ of_readings _ (map (poss_in names) theory.poss)
    ++ of_readings _ (map (cause_in names) theory.causes)
    ++ of_readings _ (senses_in names [] theory.senses)
    ++ of_readings _ (map (proc_in names) program.procs)
    ++ of_refusals (all_front_refusals program.procs)
    ++ of_refusals (all_block_refusals program.procs program.main.body)
    ++ of_readings _ (main_in names program.main ∷ [])

-- The refusals of a theory and a program: of each item the first row that fits, if one does, and beside these
-- each of what procedures call without a step and of search blocks.
abbrev pub refusals_in : Declared → DraftTheory → DraftProgram → List CodeAt
refusals_in names theory program =
    of_parts (λ A readings. refusals readings) (λ found. found) names theory program

abbrev pub main_of : Result Prog CodeAt → Prog
main_of (Ok p) = p
main_of (Err refusal) = prog.Nil

module _ (theory : DraftTheory) (program : DraftProgram) where
  abbrev pub names_of : Declared
  names_of = declared_by theory program.procs

  abbrev pub all_refusals : List CodeAt
  all_refusals = refusals_in names_of theory program

  -- The agent: the draft without places, its words resolved, its ground things numbered, with a start value
  -- for each ground fluent.
  abbrev pub agent_of : Agent
  agent_of = record (numbered (bare theory)) {
    poss = given (map (poss_in names_of) theory.poss);
    causes = given (map (cause_in names_of) theory.causes);
    senses = given (senses_in names_of [] theory.senses);
    starts = map (start_value (starts_of theory names_of)) (ground_fluents (bare theory));
    procs = given (map (proc_in names_of) program.procs);
    main = main_of (main_in names_of program.main).outcome;
  }

-- What a check of a draft answers: its agent where nothing is refused, else the least refusal, unless memory
-- ran out.
abbrev pub Checks : Result Agent CheckFault → DraftTheory → DraftProgram → Type 0
Checks (Ok agent) theory program = (all_refusals theory program ≡ []) × (agent ≡ agent_of theory program)
Checks (Err (Refused code at)) theory program = IsLeast (IsAmong (all_refusals theory program)) code at
Checks (Err Memory) theory program = Unit {0}
