-- Journals that break a rule, steps in worlds, and what scripted devices do.
use Rattle.std.proofs.Common.{◌≡◌, [], ◌∷◌, ◌++◌, refl, Some, inl}
use Rattle.std.specs.Prelude.{codes}
use Rattle.std.specs.Fmt.{digits}
use Rattle.golog_tree.specs.declared.prog.Prog.{Prog}
use Rattle.golog_tree.specs.declared.prog.Prog.TheVariants as prog
use Rattle.golog_tree.specs.declared.prog.Label.{Label}
use Rattle.golog_tree.specs.declared.prog.Label.TheVariants.{Quiet, Do as Doing}
use Rattle.golog_semantics.specs.declared.journal.Entry.TheVariants.{Do, Test, Exo, End}
use Rattle.golog_semantics.specs.declared.journal.Answer.TheVariants as answer
use Rattle.golog_semantics.specs.declared.journal.Why.TheVariants as why
use Rattle.golog_semantics.specs.Truth.{env_of}
use Rattle.golog_semantics.specs.Guarded.{proc_fronts}
use Rattle.golog_semantics.specs.Search.{final, plain_ways, runs, best}
use Rattle.golog_semantics.specs.Blocks.{moves, work}
use Rattle.golog_semantics.specs.Heavy.{heavy}
use Rattle.golog_semantics.specs.Answer.{answer_after}
use Rattle.golog_semantics.specs.OneMore.{with_runs}
use Rattle.golog_semantics.specs.Online.{fault_of, first_fault}
use Rattle.golog_semantics.specs.Trans.{TransW}
use Rattle.golog_semantics.specs.Inline.{lead}
use Rattle.golog_laws.specs.Theories.{one_effect, one_fluent, floors, world, lift}
use Rattle.golog_laws.specs.WrongExamples.{FailsAt, effect_and_test, unknown_test, climb, ahead, journey, idle_lift, before_end, WrongJournals, StepsInWorlds, ScriptedTurns}
use Rattle.golog_semantics.proofs.Computed.{computing}

not_stuck : FailsAt unknown_test (with_runs [] (End answer.Stuck ∷ [])) 0 why.Answer
unfolding fault_of first_fault proc_fronts env_of final plain_ways runs best moves work heavy one_fluent digits
not_stuck = simp computing refl

no_test : FailsAt (floors (0 ∷ 0 ∷ []) climb) (with_runs [] (Do 2 ∷ Do 2 ∷ Test ∷ [])) 2 why.Step
unfolding fault_of first_fault proc_fronts env_of final plain_ways runs best moves work heavy floors digits
no_test = simp computing refl

run_left_out : FailsAt journey (with_runs [] (Exo 0 5 ∷ Do 2 ∷ [])) 1 why.Run
unfolding fault_of first_fault proc_fronts env_of final plain_ways runs best moves work heavy world digits
run_left_out = simp computing refl

misspelt : fault_of effect_and_test (Some (codes "0 do a" ∷ codes "1 test run -" ∷ [])) (with_runs [] (Do 2 ∷ Test ∷ [])) ≡ Some (record { place = 1; why = why.Text })
unfolding fault_of first_fault proc_fronts env_of final plain_ways runs best moves work heavy one_effect digits
misspelt = simp computing refl

pub wrong_journals : WrongJournals
unfolding fault_of first_fault
wrong_journals = record { too_short = refl; not_stuck = not_stuck; no_test = no_test; run_left_out = run_left_out; misspelt = misspelt }

true_there : TransW unknown_test (0 ∷ 1 ∷ []) unknown_test.main Quiet prog.Nil
unfolding TransW proc_fronts env_of one_fluent
true_there = simp computing (refl, refl, refl)

false_here : (label : Label) (left : Prog) → TransW unknown_test (0 ∷ 0 ∷ []) unknown_test.main label left → ⊥
unfolding TransW proc_fronts env_of one_fluent
false_here label left = simp computing (λ h. cc h.0)

block_steps : TransW journey (0 ∷ 0 ∷ 0 ∷ 1 ∷ []) journey.main (Doing 2) (prog.Search 4 1000 ahead)
unfolding TransW final proc_fronts env_of world
block_steps = simp computing (ahead, (inl (prog.Nil, (refl, refl, refl), simp computing refl), (1, (Doing 3, prog.Nil, simp computing (inl (refl, refl, refl)), simp computing refl))), refl)

pub steps_in_worlds : StepsInWorlds
steps_in_worlds = record { true_there = true_there; false_here = false_here; block_steps = block_steps }

ends : lead idle_lift before_end ≡ before_end ++ End answer.Done ∷ []
unfolding answer_after final proc_fronts lift
ends = simp computing refl

pub scripted_turns : ScriptedTurns
unfolding lift digits
scripted_turns = record { first_turns = refl; ends = ends; last_turns = refl; no_action = refl }
