-- Runs that go through, and certain steps of search blocks, in each world in which all is so that is known.
use Rattle.std.proofs.Common.{◌≡◌, ℕ, Bool, true, false, if◌then◌else◌, List, [], ◌∷◌, length, Option, Some, None, inl, inr, refl, sym, subst}
use Rattle.std.specs.Prelude.{Contains, not}
use Rattle.std.specs.List.{list_any}
use Rattle.golog_tree.specs.declared.agent.Agent.{Agent}
use Rattle.golog_tree.specs.declared.prog.Prog.{Prog}
use Rattle.golog_tree.specs.declared.prog.Way.{Way}
use Rattle.golog_semantics.specs.declared.Mode.TheVariants.{Must}
use Rattle.golog_semantics.specs.declared.search.Move.{Move}
use Rattle.golog_semantics.specs.Truth.{Values}
use Rattle.golog_semantics.specs.Values.{after}
use Rattle.golog_semantics.specs.Ways.{is_empty, way_of}
use Rattle.golog_semantics.specs.Search.{Run, best, best_from, moves_with, no_blocks, plain_ways}
use Rattle.golog_semantics.specs.Moves.{plain_moves}
use Rattle.golog_semantics.specs.Blocks.{beginning, block_moves, first_step, goes_through, is_kept, labels_of}
use Rattle.golog_semantics.specs.Same.{same_way}
use Rattle.golog_semantics.specs.Guarded.{IsGuarded}
use Rattle.golog_semantics.specs.Trans.{LeadsIn, PlainTrans}
use Rattle.golog_semantics.specs.World.{Refines}
use Rattle.golog_certain.specs.WorldLaws.{BlockStepIsSo}
use Rattle.golog_tree.specs.declared.prog.Label.{Label}
use Rattle.golog_semantics.proofs.BestRuns.{same_way-eq, through}
use Rattle.golog_certain.proofs.CertainRuns.{found}
use Rattle.golog_semantics.proofs.Among.{Among, among-any, among-contains, among-map, contains-among}
use Rattle.golog_certain.proofs.RunsStay.{steps_keep}
use Rattle.golog_semantics.proofs.Tests.{and_cases}
use Rattle.golog_certain.proofs.PlainSteps.{plain_steps_so}

module _ (agent : Agent) (g : IsGuarded agent) where
  -- a certain way without blocks is a step of the world
  way_trans : (values world : Values) → Refines values world → (p : Prog) (w : Way) → Among (plain_ways agent values Must p) w → PlainTrans agent world p w.label w.left
  unfolding plain_ways plain_moves
  way_trans values world r p w h =
      let m = among-map way_of (moves_with agent no_blocks values Must p) w h in
      let s = plain_steps_so agent g values world r p in
      subst (λ (v : Way). PlainTrans agent world p v.label v.left) m.1.1
      (s.certain m.0 (contains-among (moves_with agent no_blocks values Must p) m.0 m.1.0))

  pub runs_lead : (run : Run) (p : Prog) (values world : Values) → Refines values world → goes_through agent p run values ≡ true → LeadsIn agent (length run) p world
  runs_lead [] p values world r h = (plain_steps_so agent g values world r p).certain_end h
  runs_lead (w ∷ run) p values world r h =
      let k = and_cases (list_any (same_way w) (plain_ways agent values Must p)) (goes_through agent w.left run (after agent values w.label)) h in
      let a = among-any (same_way w) (plain_ways agent values Must p) k.0 in
      let e = same_way-eq w a.0 a.1.1 in (
        w.label,
        w.left,
        way_trans values world r p w (subst (Among (plain_ways agent values Must p)) (sym e) a.1.0),
        runs_lead run w.left (after agent values w.label) (after agent world w.label) (steps_keep agent w.label values world r) k.1,
      )

  module _ (values world : Values) (r : Refines values world) (depth fuel : ℕ) (body : Prog) where
    abbrev So : Move → Type 0
    So step = BlockStepIsSo agent world depth fuel body step

    first_so : (begun_run : Option (List Label)) (run : Run) → goes_through agent body run values ≡ true → (step : Move) → Among (first_step depth fuel begun_run run) step → So step
    first_so b [] h step k = absurd k
    first_so b (w ∷ run) h step (inr k) = absurd k
    first_so b (w ∷ run) h step (inl is) =
        let k = and_cases (list_any (same_way w) (plain_ways agent values Must body)) (goes_through agent w.left run (after agent values w.label)) h in
        let a = among-any (same_way w) (plain_ways agent values Must body) k.0 in
        let e = same_way-eq w a.0 a.1.1 in
        subst So is
        (record {
          next = w.left;
          rest = run;
          left_is = refl;
          taken = way_trans values world r body w (subst (Among (plain_ways agent values Must body)) (sym e) a.1.0);
          leads = (length run, runs_lead run w.left (after agent values w.label) (after agent world w.label) (steps_keep agent w.label values world r) k.1);
        })

    best_so : (o : Option Run) → best_from agent Must 1 depth body values ≡ o → (step : Move) → Among (beginning depth fuel o) step → So step
    best_so None e step k = absurd k
    best_so (Some run) e step k =
        let f = found agent Must 1 depth body values run e in
        first_so (Some (labels_of run)) run (through agent f.size body values run f.among) step k

    certain_so : (b : Bool) (rest : Run) → is_kept agent values body rest ≡ b → (step : Move)
        → Among (if b then first_step depth fuel None rest else beginning depth fuel (best_from agent Must 1 depth body values)) step → So step
    certain_so true rest e step k = first_so None rest (and_cases (not (is_empty rest)) (goes_through agent body rest values) e).1 step k
    certain_so false rest e step k = best_so (best_from agent Must 1 depth body values) refl step k

    pub block_so : (rest : Run) (step : Move) → Contains (block_moves agent values Must depth fuel body rest) step → So step
    unfolding best
    block_so rest step k = certain_so (is_kept agent values body rest) rest refl step (among-contains (block_moves agent values Must depth fuel body rest) step k)
