-- Worked examples of online executions: programs, the journals of their runs, and their texts.
use Rattle.std.specs.Prelude.{◌≡◌, [], ◌∷◌, ◌++◌, codes}
use Rattle.golog_tree.specs.declared.agent.Agent.{Agent}
use Rattle.golog_tree.specs.declared.cond.Arg.TheVariants.{Const}
use Rattle.golog_tree.specs.declared.cond.Term.TheVariants as term
use Rattle.golog_tree.specs.declared.cond.Cond.TheVariants as cond
use Rattle.golog_tree.specs.declared.prog.Label.TheVariants.{Quiet, Do as Doing}
use Rattle.golog_tree.specs.declared.prog.Prog.TheVariants as prog
use Rattle.golog_semantics.specs.declared.journal.Entry.TheVariants.{Do, Test, Exo, Sense, Rest, Close, End}
use Rattle.golog_semantics.specs.declared.journal.Reason.TheVariants.{Ended, Bad, Stopped}
use Rattle.golog_semantics.specs.declared.journal.Answer.TheVariants as answer
use Rattle.golog_semantics.specs.declared.journal.Report.{Report}
use Rattle.golog_semantics.specs.Text.{Text, report_text}
use Rattle.golog_semantics.specs.OneMore.{with_runs}
use Rattle.golog_semantics.specs.Online.{IsOnline}
use Rattle.golog_laws.specs.Theories.{one_effect, bare, one_fluent, floors, priorities, door, world, two, recursive, unsure, two_floors, lift}

-- the report has this text and is an online execution
pub record Shows (agent : Agent) (report : Report) (text : Text) : Type 0 where
  pub says : report_text agent report ≡ text
  pub online : IsOnline agent report

-- a test after the action that makes it true
abbrev pub TestedEffect : Type 0
TestedEffect =
    Shows
    (one_effect (0 ∷ 0 ∷ [])
    (prog.Seq (prog.Act 2 []) (prog.Test (cond.Is 1 []))))
    (with_runs [] (Do 2 ∷ Test ∷ End answer.Done ∷ []))
    (codes "0 do a\n1 test\n2 end done\n")

-- a program that may end at once
abbrev pub NothingToDo : Type 0
NothingToDo =
    Shows
    (bare (0 ∷ [])
    prog.Nil)
    (with_runs [] (End answer.Done ∷ []))
    (codes "0 end done\n")

-- a test that is false: the program is stuck
abbrev pub FalseTest : Type 0
FalseTest =
    Shows
    (one_fluent (0 ∷ 0 ∷ [])
    (prog.Test (cond.Is 1 [])))
    (with_runs [] (End answer.Stuck ∷ []))
    (codes "0 end stuck\n")

-- a test that is unknown: whether the program may go on is unknown
abbrev pub UnknownTest : Type 0
UnknownTest =
    Shows
    (one_fluent (0 ∷ 255 ∷ [])
    (prog.Test (cond.Is 1 [])))
    (with_runs [] (End answer.Unknown ∷ []))
    (codes "0 end unknown\n")

-- a program that may end does so, though it could go on
abbrev pub NoClimb : Type 0
NoClimb =
    Shows
    (floors (0 ∷ 0 ∷ [])
    (prog.Star (prog.Act 2 [])))
    (with_runs [] (End answer.Done ∷ []))
    (codes "0 end done\n")

-- outside a block the first way is taken, as long as there is one, past where the test would hold
abbrev pub BlindClimb : Type 0
BlindClimb =
    Shows
    (floors (0 ∷ 0 ∷ [])
    (prog.Seq (prog.Star (prog.Act 2 [])) (prog.Test (cond.Equal 1 (term.Fluent 1 []) (term.Arg (Const 1))))))
    (with_runs [] (Do 2 ∷ Do 2 ∷ Do 2 ∷ End answer.Stuck ∷ []))
    (codes "0 do up\n1 do up\n2 do up\n3 end stuck\n")

-- a block looks ahead, and prints the run that it begins
abbrev pub SearchedClimb : Type 0
SearchedClimb =
    Shows
    (floors (0 ∷ 0 ∷ [])
    (prog.Search 8 1000 (prog.Seq (prog.Star (prog.Act 2 []))
    (prog.Test (cond.Equal 1 (term.Fluent 1 []) (term.Arg (Const 1)))))))
    (with_runs (record { place = 0; labels = Doing 2 ∷ Quiet ∷ [] } ∷ [])
    (Do 2 ∷ Test ∷ End answer.Done ∷ []))
    (codes "0 do up run up; -\n1 test\n2 end done\n")

-- a lower part waits while the higher one may perhaps go on
abbrev pub UnknownPriority : Type 0
UnknownPriority =
    Shows
    (priorities (0 ∷ 255 ∷ [])
    (prog.Prio (prog.Seq (prog.Test (cond.Is 1 [])) (prog.Act 2 [])) (prog.Act 3 [])))
    (with_runs [] (End answer.Unknown ∷ []))
    (codes "0 end unknown\n")

-- a lower part goes on where the higher one certainly may not
abbrev pub FalsePriority : Type 0
FalsePriority =
    Shows
    (priorities (0 ∷ 0 ∷ [])
    (prog.Prio (prog.Seq (prog.Test (cond.Is 1 [])) (prog.Act 2 [])) (prog.Act 3 [])))
    (with_runs [] (Do 3 ∷ End answer.Stuck ∷ []))
    (codes "0 do b\n1 end stuck\n")

-- a result decides which branch is taken, and a device that rests is closed after it took its command
abbrev pub SensedDoor : Type 0
SensedDoor =
    Shows
    (door (0 ∷ 255 ∷ [])
    (prog.Seq (prog.Act 2 []) (prog.If (cond.Is 1 []) (prog.Act 3 []) (prog.Act 4 []))))
    (with_runs [] (Close 0 Ended 0 ∷ Rest 1 0 ∷ Do 2 ∷ Sense 1 2 1 1 ∷ Do 3 ∷ Close 1 Ended 1 ∷
    End answer.Done ∷ []))
    (codes "0 close wind ended 0\n1 rest door 0\n2 do look @door\n3 sense door 2 true\n4 do go\n"
    ++ codes "5 close door ended 1\n6 end done\n")

-- a device that is closed before its result comes leaves the program unanswered
abbrev pub UnansweredDoor : Type 0
UnansweredDoor =
    Shows
    (door (0 ∷ 255 ∷ [])
    (prog.Seq (prog.Act 2 []) (prog.If (cond.Is 1 []) (prog.Act 3 []) (prog.Act 4 []))))
    (with_runs [] (Close 0 Ended 0 ∷ Rest 1 0 ∷ Do 2 ∷ Close 1 Bad 1 ∷ End answer.Unanswered ∷ []))
    (codes "0 close wind ended 0\n1 rest door 0\n2 do look @door\n3 close door bad 1\n4 end unanswered\n")

-- a result is recorded against the value that was known, where another one was
abbrev pub SlammedDoor : Type 0
SlammedDoor =
    Shows
    (door (0 ∷ 255 ∷ [])
    (prog.Seq (prog.Act 2 []) (prog.If (cond.Is 1 []) (prog.Act 3 []) (prog.Act 4 []))))
    (with_runs [] (Exo 0 5 ∷ Rest 1 0 ∷ Do 2 ∷ Exo 0 6 ∷ Sense 1 2 1 1 ∷ Do 3 ∷ Close 0 Ended 0 ∷
    Close 1 Ended 1 ∷ End answer.Done ∷ []))
    (codes "0 exo wind calm\n1 rest door 0\n2 do look @door\n3 exo wind slam\n"
    ++ codes "4 sense door 2 true against false\n5 do go\n6 close wind ended 0\n"
    ++ codes "7 close door ended 1\n8 end done\n")

-- a run that an exogenous action breaks is given up, and a new one is printed
abbrev pub BrokenRun : Type 0
BrokenRun =
    Shows
    (world (0 ∷ 0 ∷ 0 ∷ 0 ∷ [])
    (prog.Search 4 1000 (prog.Seq (prog.Act 2 (Const 0 ∷ [])) (prog.Choice (prog.Act 2 (Const 1 ∷
    [])) (prog.Act 2 (Const 2 ∷ []))))))
    (with_runs (record { place = 1; labels = Doing 2 ∷ Doing 3 ∷ [] } ∷
    record { place = 3; labels = Doing 4 ∷ [] } ∷ [])
    (Exo 0 5 ∷ Do 2 ∷ Exo 0 7 ∷ Do 4 ∷ Close 0 Ended 0 ∷ End answer.Done ∷ []))
    (codes "0 exo world calm\n1 do go(a) run go(a); go(b)\n2 exo world block(b)\n"
    ++ codes "3 do go(c) run go(c)\n4 close world ended 0\n5 end done\n")

-- a run that an exogenous action leaves whole is followed on
abbrev pub KeptRun : Type 0
KeptRun =
    Shows
    (world (0 ∷ 0 ∷ 0 ∷ 0 ∷ [])
    (prog.Search 4 1000 (prog.Seq (prog.Act 2 (Const 0 ∷ [])) (prog.Choice (prog.Act 2 (Const 1 ∷
    [])) (prog.Act 2 (Const 2 ∷ []))))))
    (with_runs (record { place = 1; labels = Doing 2 ∷ Doing 3 ∷ [] } ∷ [])
    (Exo 0 5 ∷ Do 2 ∷ Exo 0 8 ∷ Do 3 ∷ Close 0 Ended 0 ∷ End answer.Done ∷ []))
    (codes "0 exo world calm\n1 do go(a) run go(a); go(b)\n2 exo world block(c)\n3 do go(b)\n"
    ++ codes "4 close world ended 0\n5 end done\n")

-- a block begins no run that hangs on a result that is not known
abbrev pub UnknownSearch : Type 0
UnknownSearch =
    Shows
    (door (0 ∷ 255 ∷ [])
    (prog.Search 4 1000 (prog.Seq (prog.Act 2 []) (prog.Seq (prog.Test (cond.Is 1 [])) (prog.Act 3 [])))))
    (with_runs [] (Close 0 Ended 0 ∷ Rest 1 0 ∷ End answer.Unknown ∷ Close 1 Stopped 0 ∷ []))
    (codes "0 close wind ended 0\n1 rest door 0\n2 end unknown\n3 close door stopped 0\n")

-- a block begins a run where the value is known, and follows it after the result
abbrev pub KnownSearch : Type 0
KnownSearch =
    Shows
    (door (0 ∷ 1 ∷ [])
    (prog.Search 4 1000 (prog.Seq (prog.Act 2 []) (prog.Seq (prog.Test (cond.Is 1 [])) (prog.Act 3 [])))))
    (with_runs (record { place = 2; labels = Doing 2 ∷ Quiet ∷ Doing 3 ∷ [] } ∷ [])
    (Close 0 Ended 0 ∷ Rest 1 0 ∷ Do 2 ∷ Sense 1 2 1 1 ∷ Test ∷ Close 1 Ended 1 ∷ Do 3 ∷
    End answer.Done ∷ []))
    (codes "0 close wind ended 0\n1 rest door 0\n2 do look @door run look; -; go\n"
    ++ codes "3 sense door 2 true\n4 test\n5 close door ended 1\n6 do go\n7 end done\n")

-- a block whose depth is too small for any run leaves something unseen
abbrev pub ShallowSearch : Type 0
ShallowSearch =
    Shows
    (floors (0 ∷ 0 ∷ [])
    (prog.Search 3 1000 (prog.Seq (prog.Star (prog.Act 2 []))
    (prog.Test (cond.Equal 1 (term.Fluent 1 []) (term.Arg (Const 3)))))))
    (with_runs [] (End answer.Depth ∷ []))
    (codes "0 end depth\n")

-- a block whose work is above its fuel
abbrev pub ScarceFuel : Type 0
ScarceFuel =
    Shows
    (two (0 ∷ 0 ∷ 0 ∷ [])
    (prog.Search 4 2 (prog.Seq (prog.Choice (prog.Act 2 []) (prog.Act 3 [])) (prog.Act 4 []))))
    (with_runs [] (End answer.Fuel ∷ []))
    (codes "0 end fuel\n")

-- a block whose work is its fuel
abbrev pub EnoughFuel : Type 0
EnoughFuel =
    Shows
    (two (0 ∷ 0 ∷ 0 ∷ [])
    (prog.Search 4 3 (prog.Seq (prog.Choice (prog.Act 2 []) (prog.Act 3 [])) (prog.Act 4 []))))
    (with_runs (record { place = 0; labels = Doing 2 ∷ Doing 4 ∷ [] } ∷ [])
    (Do 2 ∷ Do 4 ∷ End answer.Done ∷ []))
    (codes "0 do a run a; c\n1 do c\n2 end done\n")

-- a procedure may call itself after a step
abbrev pub GuardedRecursion : Type 0
GuardedRecursion =
    Shows
    (recursive (0 ∷ 255 ∷ [])
    prog.Nil)
    (with_runs [] (End answer.Done ∷ []))
    (codes "0 end done\n")

-- an effect whose condition is unknown, which makes no difference
abbrev pub SameEitherWay : Type 0
SameEitherWay =
    Shows
    (unsure (0 ∷ 1 ∷ 255 ∷ [])
    (prog.Seq (prog.Act 2 []) (prog.Test (cond.Is 1 []))))
    (with_runs [] (Do 2 ∷ Test ∷ End answer.Done ∷ []))
    (codes "0 do a\n1 test\n2 end done\n")

-- an effect whose condition is unknown, which makes a difference: the value is unknown after it
abbrev pub UnsureEffect : Type 0
UnsureEffect =
    Shows
    (unsure (0 ∷ 0 ∷ 255 ∷ [])
    (prog.Seq (prog.Act 2 []) (prog.Test (cond.Is 1 []))))
    (with_runs [] (Do 2 ∷ End answer.Unknown ∷ []))
    (codes "0 do a\n1 end unknown\n")

-- a sum stops at the end of its sort
abbrev pub TopFloor : Type 0
TopFloor =
    Shows
    (two_floors (0 ∷ 0 ∷ [])
    (prog.Seq (prog.Act 2 []) (prog.Seq (prog.Act 2 [])
    (prog.Test (cond.Equal 1 (term.Fluent 1 []) (term.Arg (Const 1)))))))
    (with_runs [] (Do 2 ∷ Do 2 ∷ Test ∷ End answer.Done ∷ []))
    (codes "0 do up\n1 do up\n2 test\n3 end done\n")

-- a device that posts what is not declared for it is closed; one at rest is stopped after the end
abbrev pub BadPost : Type 0
BadPost =
    Shows
    (lift (0 ∷ 0 ∷ 0 ∷ 0 ∷ 0 ∷ 0 ∷ 0 ∷ [])
    prog.Nil)
    (with_runs [] (Close 0 Bad 0 ∷ Rest 1 0 ∷ End answer.Done ∷ Close 1 Stopped 0 ∷ []))
    (codes "0 close panel bad 0\n1 rest lift 0\n2 end done\n3 close lift stopped 0\n")

-- a device that closed itself, and one that is stopped after the end
abbrev pub EndedDevice : Type 0
EndedDevice =
    Shows
    (lift (0 ∷ 0 ∷ 0 ∷ 0 ∷ 0 ∷ 0 ∷ 0 ∷ [])
    prog.Nil)
    (with_runs [] (Exo 0 8 ∷ Close 1 Ended 0 ∷ End answer.Done ∷ Close 0 Stopped 0 ∷ []))
    (codes "0 exo panel push(1)\n1 close lift ended 0\n2 end done\n3 close panel stopped 0\n")

-- all of them
pub record WorkedExamples : Type 0 where
  pub tested_effect : TestedEffect
  pub nothing_to_do : NothingToDo
  pub false_test : FalseTest
  pub unknown_test : UnknownTest
  pub no_climb : NoClimb
  pub blind_climb : BlindClimb
  pub searched_climb : SearchedClimb
  pub unknown_priority : UnknownPriority
  pub false_priority : FalsePriority
  pub sensed_door : SensedDoor
  pub unanswered_door : UnansweredDoor
  pub slammed_door : SlammedDoor
  pub broken_run : BrokenRun
  pub kept_run : KeptRun
  pub unknown_search : UnknownSearch
  pub known_search : KnownSearch
  pub shallow_search : ShallowSearch
  pub scarce_fuel : ScarceFuel
  pub enough_fuel : EnoughFuel
  pub guarded_recursion : GuardedRecursion
  pub same_either_way : SameEitherWay
  pub unsure_effect : UnsureEffect
  pub top_floor : TopFloor
  pub bad_post : BadPost
  pub ended_device : EndedDevice
