-- The certain steps of a program without blocks are steps of each world, and these may be taken.
use Rattle.std.specs.Prelude.{Contains}
use Rattle.golog_tree.specs.declared.agent.Agent.{Agent}
use Rattle.golog_tree.specs.declared.prog.Label.{Label}
use Rattle.golog_tree.specs.declared.prog.Prog.{Prog}
use Rattle.golog_semantics.specs.declared.Mode.TheVariants.{Must, May}
use Rattle.golog_semantics.specs.declared.search.Move.{Move}
use Rattle.golog_semantics.specs.Truth.{Values}
use Rattle.golog_semantics.specs.Search.{moves_with, no_blocks}
use Rattle.golog_semantics.specs.Guarded.{IsGuarded}
use Rattle.golog_semantics.specs.Moves.{plain_moves}
use Rattle.golog_semantics.specs.Trans.{PlainTrans, no_steps}
use Rattle.golog_semantics.specs.World.{Refines}
use Rattle.golog_certain.specs.WorldLaws.{MayStep, StepsAreSo}
use Rattle.golog_semantics.proofs.Among.{among-contains, contains-among}
use Rattle.golog_semantics.proofs.StepsInModes.{any_block, any_goes}
use Rattle.golog_semantics.proofs.Known.{known_is_so}
use Rattle.golog_certain.proofs.Viewed.{as_it_is}
use Rattle.golog_certain.proofs.WorldSteps.{BlocksAreSo, Offers, certain_end, certain_so, possible_end, possible_so}

module _ (agent : Agent) (g : IsGuarded agent) (values world : Values) (r : Refines values world) where
  none_so : BlocksAreSo agent g values world (known_is_so agent values world r) (λ p. p) (as_it_is agent) any_block no_blocks no_steps
  none_so = record { certain = λ depth fuel p rest x move k. absurd k; possible = λ depth fuel p rest x label left k. absurd k }

  offered : (p : Prog) (label : Label) (left : Prog) → Offers agent (λ p. p) (as_it_is agent) (moves_with agent no_blocks values May p) label left → MayStep agent values world p label left
  unfolding plain_moves
  offered p label left o = record { step = o.step; among = contains-among (moves_with agent no_blocks values May p) o.step o.among; label_same = o.label_same; left_same = o.left_same }

  certain_in : (p : Prog) (step : Move) → Contains (plain_moves agent values Must p) step → PlainTrans agent world p step.label step.left
  unfolding plain_moves
  certain_in p step c =
      certain_so agent g values world (known_is_so agent values world r) (λ p. p) (as_it_is agent) any_block no_blocks no_steps none_so (any_goes agent) p tt step
      (among-contains (moves_with agent no_blocks values Must p) step c)

  pub plain_steps_so : (p : Prog) → StepsAreSo agent values world p
  plain_steps_so p = record {
    certain = certain_in p;
    possible = λ label left k. offered p label left
        (possible_so agent g values world (known_is_so agent values world r) (λ p. p) (as_it_is agent) any_block no_blocks no_steps none_so (any_goes agent) p tt label left k);
    certain_end = certain_end agent g values world (known_is_so agent values world r) (λ p. p) (as_it_is agent) any_block no_blocks no_steps none_so (any_goes agent) p;
    possible_end = possible_end agent g values world (known_is_so agent values world r) (λ p. p) (as_it_is agent) any_block no_blocks no_steps none_so (any_goes agent) p;
  }
