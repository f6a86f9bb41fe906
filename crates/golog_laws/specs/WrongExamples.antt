-- Worked examples of journals that break a rule, of steps in worlds, and of what scripted devices do.
use Rattle.std.specs.Prelude.{◌≡◌, ℕ, List, [], ◌∷◌, ◌++◌, Some, codes}
use Rattle.golog_tree.specs.declared.agent.Agent.{Agent}
use Rattle.golog_tree.specs.declared.cond.Arg.TheVariants.{Const}
use Rattle.golog_tree.specs.declared.cond.Term.TheVariants as term
use Rattle.golog_tree.specs.declared.cond.Cond.TheVariants as cond
use Rattle.golog_tree.specs.declared.prog.Prog.{Prog}
use Rattle.golog_tree.specs.declared.prog.Label.{Label}
use Rattle.golog_tree.specs.declared.prog.Label.TheVariants.{Quiet, Do as Doing}
use Rattle.golog_tree.specs.declared.prog.Prog.TheVariants as prog
use Rattle.golog_semantics.specs.declared.journal.Entry.TheVariants.{Do, Test, Exo, Rest, Close, End}
use Rattle.golog_semantics.specs.declared.journal.Reason.TheVariants.{Ended, Bad, Stopped}
use Rattle.golog_semantics.specs.declared.journal.Answer.TheVariants as answer
use Rattle.golog_semantics.specs.declared.journal.Report.{Report}
use Rattle.golog_semantics.specs.declared.journal.Why.{Why}
use Rattle.golog_semantics.specs.declared.journal.Why.TheVariants as why
use Rattle.golog_semantics.specs.Journal.{Journal}
use Rattle.golog_semantics.specs.Text.{lines_of}
use Rattle.golog_semantics.specs.OneMore.{with_runs}
use Rattle.golog_semantics.specs.Online.{fault_of}
use Rattle.golog_semantics.specs.Trans.{TransW}
use Rattle.golog_semantics.specs.Inline.{Scripted, turns_from, lead}
use Rattle.golog_laws.specs.Theories.{one_effect, one_fluent, floors, world, lift}

-- the first rule that the report breaks, read from its own text, and where
abbrev pub FailsAt : Agent → Report → ℕ → Why → Type 0
FailsAt agent report place rule =
    fault_of agent (Some (lines_of agent report)) report ≡ Some (record { place = place; why = rule })

-- an action, and a test of what it makes true
abbrev pub effect_and_test : Agent
effect_and_test = one_effect (0 ∷ 0 ∷ []) (prog.Seq (prog.Act 2 []) (prog.Test (cond.Is 1 [])))

-- a test of a fluent whose value is unknown
abbrev pub unknown_test : Agent
unknown_test = one_fluent (0 ∷ 255 ∷ []) (prog.Test (cond.Is 1 []))

-- going up some floors, perhaps none, and then a test of the second
abbrev pub climb : Prog
climb = prog.Seq (prog.Star (prog.Act 2 []))
    (prog.Test (cond.Equal 1 (term.Fluent 1 []) (term.Arg (Const 1))))

-- going from the second place to one of the others
abbrev pub ahead : Prog
ahead = prog.Choice (prog.Act 2 (Const 1 ∷ [])) (prog.Act 2 (Const 2 ∷ []))

-- going to the first place and from there to another, as a block
abbrev pub journey : Agent
journey = world (0 ∷ 0 ∷ 0 ∷ 0 ∷ []) (prog.Search 4 1000 (prog.Seq (prog.Act 2 (Const 0 ∷ [])) ahead))

-- a lift whose program ends at once
abbrev pub idle_lift : Agent
idle_lift = lift (0 ∷ 0 ∷ 0 ∷ 0 ∷ 0 ∷ 0 ∷ 0 ∷ []) prog.Nil

pub record WrongJournals : Type 0 where
  -- no end
  pub too_short : FailsAt effect_and_test (with_runs [] []) 0 why.Short
  -- an unknown test taken as false
  pub not_stuck : FailsAt unknown_test (with_runs [] (End answer.Stuck ∷ [])) 0 why.Answer
  -- a test that is false
  pub no_test : FailsAt (floors (0 ∷ 0 ∷ []) climb) (with_runs [] (Do 2 ∷ Do 2 ∷ Test ∷
      [])) 2 why.Step
  -- a run that is begun and not printed
  pub run_left_out : FailsAt journey (with_runs [] (Exo 0 5 ∷ Do 2 ∷ [])) 1 why.Run
  -- a line that is not the text of its entry
  pub misspelt :
      fault_of effect_and_test (Some (codes "0 do a" ∷ codes "1 test run -" ∷ []))
      (with_runs [] (Do 2 ∷ Test ∷ []))
      ≡ Some (record { place = 1; why = why.Text })

pub record StepsInWorlds : Type 0 where
  -- a test of an unknown fluent is a step of the world where it is true, and of no other
  pub true_there : TransW unknown_test (0 ∷ 1 ∷ []) unknown_test.main Quiet prog.Nil
  pub false_here : (label : Label) (left : Prog)
      → ¬ TransW unknown_test (0 ∷ 0 ∷ []) unknown_test.main label left
  -- a block steps where a way to its end goes on, of whatever length
  pub block_steps : TransW journey (0 ∷ 0 ∷ 0 ∷ 1 ∷ []) journey.main (Doing 2) (prog.Search 4 1000 ahead)

-- a device that answers nothing and posts these in turn
abbrev pub posts : List (List ℕ) → Scripted
posts idle = record { answers = []; idle = idle; taken = 0 }

-- what two scripted devices have done by the end of the program
abbrev pub before_end : Journal
before_end = Exo 0 8 ∷ Close 1 Ended 0 ∷ []

pub record ScriptedTurns : Type 0 where
  -- one posts an action, the other closes itself
  pub first_turns :
      turns_from idle_lift 0 [] (posts (codes "push(1)" ∷ codes "push(2)" ∷ []) ∷
      posts (codes "close" ∷ []) ∷ [])
      ≡ (before_end, posts (codes "push(2)" ∷ []) ∷ posts [] ∷ [])
  -- then the program ends
  pub ends : lead idle_lift before_end ≡ before_end ++ End answer.Done ∷ []
  -- then the device that is open still is stopped
  pub last_turns :
      (turns_from idle_lift 0 (before_end ++ End answer.Done ∷ []) (posts (codes "push(2)" ∷ []) ∷
      posts [] ∷ [])).0
      ≡ before_end ++ End answer.Done ∷ Close 0 Stopped 0 ∷ []
  -- a device that posts what is no action is closed, and one that rests does so
  pub no_action :
      (turns_from idle_lift 0 [] (posts (codes "push(9)" ∷ []) ∷ posts (codes "rest" ∷ []) ∷ [])).0
      ≡ Close 0 Bad 0 ∷ Rest 1 0 ∷ []
