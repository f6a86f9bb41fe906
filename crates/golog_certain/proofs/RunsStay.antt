-- More knowledge keeps that a run goes through.
use Rattle.std.proofs.Common.{◌≡◌, true, [], ◌∷◌, map, subst}
use Rattle.std.specs.List.{list_any}
use Rattle.golog_tree.specs.declared.agent.Agent.{Agent}
use Rattle.golog_tree.specs.declared.prog.Prog.{Prog}
use Rattle.golog_tree.specs.declared.prog.Way.{Way}
use Rattle.golog_semantics.specs.declared.Mode.{Mode}
use Rattle.golog_semantics.specs.declared.Mode.TheVariants.{Must, May, Near}
use Rattle.golog_semantics.specs.Truth.{Values}
use Rattle.golog_semantics.specs.Values.{after}
use Rattle.golog_semantics.specs.Ways.{way_of}
use Rattle.golog_semantics.specs.Guarded.{front}
use Rattle.golog_semantics.specs.Same.{same_way}
use Rattle.golog_semantics.specs.Search.{Run, final, moves_with, no_blocks, plain_ways}
use Rattle.golog_semantics.specs.Blocks.{goes_through}
use Rattle.golog_semantics.specs.World.{Refines}
use Rattle.golog_certain.specs.KnowledgeLaws.{RunsStay, StayIn, WaysSettle, StepsKeepKnowledge}
use Rattle.golog_semantics.proofs.Words.{and-left, and-right, and-both}
use Rattle.golog_semantics.proofs.Among.{Among, among-contains, contains-among, among-map, map-among, among-any, any-among}
use Rattle.golog_certain.proofs.ValuesStay.{after-stays}
use Rattle.golog_certain.proofs.WaysStay.{from, to, final-stays, moves-stay}

module _ (agent : Agent) (old new : Values) (more : Refines old new) where
  pub ends-stay : (m : Mode) (p : Prog) → final agent (from agent old new more m) m p ≡ true → final agent (to agent old new more m) m p ≡ true
  unfolding final
  ends-stay m p h = final-stays agent old new more (front agent p).height m p h

  pub ways-stay : (m : Mode) (p : Prog) (w : Way) → Among (plain_ways agent (from agent old new more m) m p) w → Among (plain_ways agent (to agent old new more m) m p) w
  unfolding plain_ways
  ways-stay m p w h =
      let r = among-map way_of (moves_with agent no_blocks (from agent old new more m) m p) w h in
      subst (Among (map way_of (moves_with agent no_blocks (to agent old new more m) m p))) r.1.1
      (map-among way_of (moves_with agent no_blocks (to agent old new more m) m p) r.0 (moves-stay agent old new more (front agent p).height m p r.0 r.1.0))

  stay_in : (p : Prog) (m : Mode) → StayIn agent p m (from agent old new more m) (to agent old new more m)
  stay_in p m = record {
    ways = λ w h. contains-among (plain_ways agent (to agent old new more m) m p) w (ways-stay m p w (among-contains (plain_ways agent (from agent old new more m) m p) w h));
    ends = ends-stay m p;
  }

module _ (agent : Agent) where
  through-stays : (p : Prog) (run : Run) (old new : Values) → Refines old new → goes_through agent p run old ≡ true → goes_through agent p run new ≡ true
  through-stays p [] old new more h = ends-stay agent old new more Must p h
  through-stays p (w ∷ run) old new more h =
      let first = among-any (same_way w) (plain_ways agent old Must p) (and-left (list_any (same_way w) (plain_ways agent old Must p)) (goes_through agent w.left run (after agent old w.label)) h) in
      let later = and-right (list_any (same_way w) (plain_ways agent old Must p)) (goes_through agent w.left run (after agent old w.label)) h in
      and-both (list_any (same_way w) (plain_ways agent new Must p)) (goes_through agent w.left run (after agent new w.label))
      (any-among (same_way w) (plain_ways agent new Must p) first.0 (ways-stay agent old new more Must p first.0 first.1.0) first.1.1)
      (through-stays w.left run (after agent old w.label) (after agent new w.label) (after-stays agent old new more w.label) later)

pub runs_stay : RunsStay
runs_stay agent p run old new more h = through-stays agent p run old new more h

pub ways_settle : WaysSettle
ways_settle agent p old new more = record {
  certain = stay_in agent old new more p Must;
  possible = stay_in agent old new more p May;
  near = stay_in agent old new more p Near;
}

pub steps_keep : StepsKeepKnowledge
steps_keep agent label old new more = after-stays agent old new more label
