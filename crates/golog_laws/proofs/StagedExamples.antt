-- The worked examples that are computed in stages: the runs, the steps and the ends at each state.
use Rattle.std.proofs.Common.{◌≡◌, List, [], ◌∷◌, refl, Some, None}
use Rattle.std.specs.Prelude.{true, false}
use Rattle.std.specs.Fmt.{digits}
use Rattle.golog_tree.specs.declared.agent.Agent.{Agent}
use Rattle.golog_tree.specs.declared.cond.Cond.TheVariants as cond
use Rattle.golog_tree.specs.declared.prog.Prog.{Prog}
use Rattle.golog_tree.specs.declared.prog.Prog.TheVariants as prog
use Rattle.golog_tree.specs.declared.prog.Label.TheVariants.{Quiet, Do as Doing}
use Rattle.golog_tree.specs.declared.prog.Way.{Way}
use Rattle.golog_semantics.specs.declared.Mode.TheVariants.{Must}
use Rattle.golog_semantics.specs.Truth.{env_of}
use Rattle.golog_semantics.specs.Guarded.{proc_fronts}
use Rattle.golog_semantics.specs.Search.{final, plain_ways, runs, best}
use Rattle.golog_semantics.specs.Blocks.{moves}
use Rattle.golog_semantics.specs.Text.{report_text}
use Rattle.golog_semantics.specs.Online.{fault_of, first_fault}
use Rattle.golog_laws.specs.Theories.{floors, door, world}
use Rattle.golog_laws.specs.Examples.{SearchedClimb, BrokenRun, KeptRun, KnownSearch}
use Rattle.golog_laws.specs.WrongExamples.{climb, ahead, journey}
use Rattle.golog_semantics.proofs.Computed.{computing}
use Rattle.golog_semantics.proofs.NoFaults.{online-no-fault}

-- what is left of the journey in the first place, and after its run
abbrev under_way : Prog
under_way = prog.Follow 4 1000 ahead (record { label = Doing 3; left = prog.Nil } ∷ [])

abbrev arrived : Prog
arrived = prog.Follow 4 1000 prog.Nil []

begins : moves journey (0 ∷ 0 ∷ 0 ∷ 0 ∷ []) Must journey.main ≡ record { label = Doing 2; left = under_way; run = Some (Doing 2 ∷ Doing 3 ∷ []) } ∷ []
unfolding final plain_ways runs best moves proc_fronts env_of world
begins = simp computing refl

goes_on : moves journey (0 ∷ 0 ∷ 0 ∷ 1 ∷ []) Must under_way ≡ record { label = Doing 3; left = arrived; run = None } ∷ []
unfolding final plain_ways moves proc_fronts env_of world
goes_on = simp computing refl

not_yet : final journey (0 ∷ 0 ∷ 0 ∷ 0 ∷ []) Must journey.main ≡ false
unfolding final proc_fronts env_of world
not_yet = simp computing refl

nor_now : final journey (0 ∷ 0 ∷ 0 ∷ 1 ∷ []) Must under_way ≡ false
unfolding final proc_fronts env_of world
nor_now = simp computing refl

over : final journey (0 ∷ 0 ∷ 0 ∷ 1 ∷ []) Must arrived ≡ true
unfolding final proc_fronts env_of world
over = simp computing refl

pub kept_run : KeptRun
unfolding report_text fault_of first_fault proc_fronts env_of world digits
kept_run = record { says = refl; online = online-no-fault _ _ (simp (begins, goes_on, not_yet, nor_now, over, computing) refl) }

begins_anew : moves journey (0 ∷ 0 ∷ 1 ∷ 0 ∷ []) Must under_way ≡ record { label = Doing 4; left = arrived; run = Some (Doing 4 ∷ []) } ∷ []
unfolding final plain_ways runs best moves proc_fronts env_of world
begins_anew = simp computing refl

not_anew : final journey (0 ∷ 0 ∷ 1 ∷ 0 ∷ []) Must under_way ≡ false
unfolding final proc_fronts env_of world
not_anew = simp computing refl

over_anew : final journey (0 ∷ 0 ∷ 1 ∷ 0 ∷ []) Must arrived ≡ true
unfolding final proc_fronts env_of world
over_anew = simp computing refl

pub broken_run : BrokenRun
unfolding fault_of first_fault proc_fronts env_of world digits
broken_run = record { says = unfold report_text in refl; online = online-no-fault _ _ (simp (begins, begins_anew, not_yet, not_anew, over_anew, computing) refl) }

-- looking at the door within a block, and going through where it is open
abbrev through : Prog
through = prog.Seq (prog.Test (cond.Is 1 [])) (prog.Act 3 [])

abbrev watched : Agent
watched = door (0 ∷ 1 ∷ []) (prog.Search 4 1000 (prog.Seq (prog.Act 2 []) through))

abbrev looked : Prog
looked = prog.Follow 4 1000 through (record { label = Quiet; left = prog.Act 3 [] } ∷ record { label = Doing 3; left = prog.Nil } ∷ [])

looks : moves watched (0 ∷ 1 ∷ []) Must watched.main ≡ record { label = Doing 2; left = looked; run = Some (Doing 2 ∷ Quiet ∷ Doing 3 ∷ []) } ∷ []
unfolding final plain_ways runs best moves proc_fronts env_of door
looks = simp computing refl

look_not_yet : final watched (0 ∷ 1 ∷ []) Must watched.main ≡ false
unfolding final proc_fronts env_of door
look_not_yet = simp computing refl

passing : Prog
passing = prog.Follow 4 1000 (prog.Act 3 []) (record { label = Doing 3; left = prog.Nil } ∷ [])

tests : moves watched (0 ∷ 1 ∷ []) Must looked ≡ record { label = Quiet; left = passing; run = None } ∷ []
unfolding final plain_ways moves proc_fronts env_of door passing
tests = simp computing refl

test_not_yet : final watched (0 ∷ 1 ∷ []) Must looked ≡ false
unfolding final proc_fronts env_of door
test_not_yet = simp computing refl

passes : moves watched (0 ∷ 1 ∷ []) Must passing ≡ record { label = Doing 3; left = arrived; run = None } ∷ []
unfolding final plain_ways moves proc_fronts env_of door passing
passes = simp computing refl

pass_not_yet : final watched (0 ∷ 1 ∷ []) Must passing ≡ false
unfolding final proc_fronts env_of door passing
pass_not_yet = simp computing refl

passed : final watched (0 ∷ 1 ∷ []) Must arrived ≡ true
unfolding final proc_fronts env_of door
passed = simp computing refl

pub known_search : KnownSearch
unfolding fault_of first_fault proc_fronts env_of door digits passing
known_search = record { says = unfold report_text in refl; online = online-no-fault _ _ (simp (looks, tests, passes, look_not_yet, test_not_yet, pass_not_yet, passed, computing) refl) }

-- climbing within a block: its runs of each length, its best run, and its steps
abbrev block : Agent
block = floors (0 ∷ 0 ∷ []) (prog.Search 8 1000 climb)

abbrev climbed : List Way
climbed = record { label = Doing 2; left = climb } ∷ record { label = Quiet; left = prog.Nil } ∷ []

no_short_run : runs block Must 1 climb (0 ∷ 0 ∷ []) ≡ []
unfolding final plain_ways runs proc_fronts env_of floors
no_short_run = simp computing refl

short_run : runs block Must 2 climb (0 ∷ 0 ∷ []) ≡ climbed ∷ []
unfolding final plain_ways runs proc_fronts env_of floors
short_run = simp computing refl

best_climb : best block Must 8 climb (0 ∷ 0 ∷ []) ≡ Some climbed
unfolding best
best_climb = simp (no_short_run, short_run) refl

on_the_way : Prog
on_the_way = prog.Follow 8 1000 climb (record { label = Quiet; left = prog.Nil } ∷ [])

climb_begins : moves block (0 ∷ 0 ∷ []) Must block.main ≡ record { label = Doing 2; left = on_the_way; run = Some (Doing 2 ∷ Quiet ∷ []) } ∷ []
unfolding moves proc_fronts floors on_the_way
climb_begins = simp (best_climb, computing) refl

climb_ends : moves block (0 ∷ 1 ∷ []) Must on_the_way ≡ record { label = Quiet; left = prog.Follow 8 1000 prog.Nil []; run = None } ∷ []
unfolding final plain_ways moves proc_fronts env_of floors on_the_way
climb_ends = simp computing refl

climb_not_yet : final block (0 ∷ 0 ∷ []) Must block.main ≡ false
unfolding final proc_fronts env_of floors
climb_not_yet = simp computing refl

climb_not_now : final block (0 ∷ 1 ∷ []) Must on_the_way ≡ false
unfolding final proc_fronts env_of floors on_the_way
climb_not_now = simp computing refl

climb_over : final block (0 ∷ 1 ∷ []) Must (prog.Follow 8 1000 prog.Nil []) ≡ true
unfolding final proc_fronts env_of floors
climb_over = simp computing refl

pub searched_climb : SearchedClimb
unfolding report_text fault_of first_fault proc_fronts env_of floors digits on_the_way
searched_climb = record { says = refl; online = online-no-fault _ _ (simp (climb_begins, climb_ends, climb_not_yet, climb_not_now, climb_over, computing) refl) }
