-- The worked examples are online, and have their texts.
use Rattle.std.proofs.Common.{refl}
use Rattle.std.specs.Fmt.{digits}
use Rattle.golog_semantics.specs.Truth.{env_of}
use Rattle.golog_semantics.specs.Guarded.{proc_fronts}
use Rattle.golog_semantics.specs.Search.{final, plain_ways, runs, best}
use Rattle.golog_semantics.specs.Blocks.{moves, work}
use Rattle.golog_semantics.specs.Heavy.{heavy}
use Rattle.golog_semantics.specs.Text.{report_text}
use Rattle.golog_semantics.specs.Online.{fault_of, first_fault}
use Rattle.golog_laws.specs.Theories.{one_effect, bare, one_fluent, floors, priorities, door, two, recursive, unsure, two_floors, lift}
use Rattle.golog_laws.specs.Examples.{TestedEffect, NothingToDo, FalseTest, UnknownTest, NoClimb, BlindClimb, UnknownPriority, FalsePriority, SensedDoor, UnansweredDoor, SlammedDoor, UnknownSearch, ShallowSearch, ScarceFuel, EnoughFuel, GuardedRecursion, SameEitherWay, UnsureEffect, TopFloor, BadPost, EndedDevice, WorkedExamples}
use Rattle.golog_semantics.proofs.Computed.{computing}
use Rattle.golog_semantics.proofs.NoFaults.{online-no-fault}
use Rattle.golog_laws.proofs.StagedExamples.{searched_climb, broken_run, kept_run, known_search}

tested_effect : TestedEffect
unfolding fault_of first_fault proc_fronts env_of final plain_ways runs best moves work heavy one_effect digits
tested_effect = record { says = unfold report_text in refl; online = online-no-fault _ _ (simp computing refl) }

nothing_to_do : NothingToDo
unfolding fault_of first_fault proc_fronts env_of final plain_ways runs best moves work heavy bare digits
nothing_to_do = record { says = unfold report_text in refl; online = online-no-fault _ _ (simp computing refl) }

false_test : FalseTest
unfolding fault_of first_fault proc_fronts env_of final plain_ways runs best moves work heavy one_fluent digits
false_test = record { says = unfold report_text in refl; online = online-no-fault _ _ (simp computing refl) }

unknown_test : UnknownTest
unfolding fault_of first_fault proc_fronts env_of final plain_ways runs best moves work heavy one_fluent digits
unknown_test = record { says = unfold report_text in refl; online = online-no-fault _ _ (simp computing refl) }

no_climb : NoClimb
unfolding fault_of first_fault proc_fronts env_of final plain_ways runs best moves work heavy floors digits
no_climb = record { says = unfold report_text in refl; online = online-no-fault _ _ (simp computing refl) }

blind_climb : BlindClimb
unfolding fault_of first_fault proc_fronts env_of final plain_ways runs best moves work heavy floors digits
blind_climb = record { says = unfold report_text in refl; online = online-no-fault _ _ (simp computing refl) }

unknown_priority : UnknownPriority
unfolding fault_of first_fault proc_fronts env_of final plain_ways runs best moves work heavy priorities digits
unknown_priority = record { says = unfold report_text in refl; online = online-no-fault _ _ (simp computing refl) }

false_priority : FalsePriority
unfolding fault_of first_fault proc_fronts env_of final plain_ways runs best moves work heavy priorities digits
false_priority = record { says = unfold report_text in refl; online = online-no-fault _ _ (simp computing refl) }

sensed_door : SensedDoor
unfolding fault_of first_fault proc_fronts env_of final plain_ways runs best moves work heavy door digits
sensed_door = record { says = unfold report_text in refl; online = online-no-fault _ _ (simp computing refl) }

unanswered_door : UnansweredDoor
unfolding fault_of first_fault proc_fronts env_of final plain_ways runs best moves work heavy door digits
unanswered_door = record { says = unfold report_text in refl; online = online-no-fault _ _ (simp computing refl) }

slammed_door : SlammedDoor
unfolding fault_of first_fault proc_fronts env_of final plain_ways runs best moves work heavy door digits
slammed_door = record { says = unfold report_text in simp computing refl; online = online-no-fault _ _ (simp computing refl) }

unknown_search : UnknownSearch
unfolding fault_of first_fault proc_fronts env_of final plain_ways runs best moves work heavy door digits
unknown_search = record { says = unfold report_text in refl; online = online-no-fault _ _ (simp computing refl) }

shallow_search : ShallowSearch
unfolding fault_of first_fault proc_fronts env_of final plain_ways runs best moves work heavy floors digits
shallow_search = record { says = unfold report_text in refl; online = online-no-fault _ _ (simp computing refl) }

scarce_fuel : ScarceFuel
unfolding fault_of first_fault proc_fronts env_of final plain_ways runs best moves work heavy two digits
scarce_fuel = record { says = unfold report_text in refl; online = online-no-fault _ _ (simp computing refl) }

enough_fuel : EnoughFuel
unfolding fault_of first_fault proc_fronts env_of final plain_ways runs best moves work heavy two digits
enough_fuel = record { says = unfold report_text in refl; online = online-no-fault _ _ (simp computing refl) }

guarded_recursion : GuardedRecursion
unfolding fault_of first_fault proc_fronts env_of final plain_ways runs best moves work heavy recursive digits
guarded_recursion = record { says = unfold report_text in refl; online = online-no-fault _ _ (simp computing refl) }

same_either_way : SameEitherWay
unfolding fault_of first_fault proc_fronts env_of final plain_ways runs best moves work heavy unsure digits
same_either_way = record { says = unfold report_text in refl; online = online-no-fault _ _ (simp computing refl) }

unsure_effect : UnsureEffect
unfolding fault_of first_fault proc_fronts env_of final plain_ways runs best moves work heavy unsure digits
unsure_effect = record { says = unfold report_text in refl; online = online-no-fault _ _ (simp computing refl) }

top_floor : TopFloor
unfolding fault_of first_fault proc_fronts env_of final plain_ways runs best moves work heavy two_floors digits
top_floor = record { says = unfold report_text in refl; online = online-no-fault _ _ (simp computing refl) }

bad_post : BadPost
unfolding fault_of first_fault proc_fronts env_of final plain_ways runs best moves work heavy lift digits
bad_post = record { says = unfold report_text in refl; online = online-no-fault _ _ (simp computing refl) }

ended_device : EndedDevice
unfolding fault_of first_fault proc_fronts env_of final plain_ways runs best moves work heavy lift digits
ended_device = record { says = unfold report_text in refl; online = online-no-fault _ _ (simp computing refl) }

pub worked_examples : WorkedExamples
worked_examples = record {
  tested_effect = tested_effect;
  nothing_to_do = nothing_to_do;
  false_test = false_test;
  unknown_test = unknown_test;
  no_climb = no_climb;
  blind_climb = blind_climb;
  searched_climb = searched_climb;
  unknown_priority = unknown_priority;
  false_priority = false_priority;
  sensed_door = sensed_door;
  unanswered_door = unanswered_door;
  slammed_door = slammed_door;
  broken_run = broken_run;
  kept_run = kept_run;
  unknown_search = unknown_search;
  known_search = known_search;
  shallow_search = shallow_search;
  scarce_fuel = scarce_fuel;
  enough_fuel = enough_fuel;
  guarded_recursion = guarded_recursion;
  same_either_way = same_either_way;
  unsure_effect = unsure_effect;
  top_floor = top_floor;
  bad_post = bad_post;
  ended_device = ended_device;
}
