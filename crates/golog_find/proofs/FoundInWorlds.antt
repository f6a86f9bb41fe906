-- What the search of a block finds, or does not find, is so in each world in which all is so that is known.
use Rattle.std.proofs.Common.{◌≡◌, ℕ, zero, suc, ◌≤◌, Bool, true, false, ◌&&◌, ◌||◌, if◌then◌else◌, List, [], ◌∷◌, map, length, Option, Some, None, inl, inr, refl, sym, ap, ◌∙◌, subst, arith}
use Rattle.std.specs.Prelude.{MatchOption, not, nat_lt}
use Rattle.golog_tree.specs.declared.agent.Agent.{Agent}
use Rattle.golog_tree.specs.declared.prog.Label.{Label}
use Rattle.golog_tree.specs.declared.prog.Prog.{Prog}
use Rattle.golog_tree.specs.declared.prog.Way.{Way}
use Rattle.golog_semantics.specs.declared.Mode.{Mode}
use Rattle.golog_semantics.specs.declared.Mode.TheVariants.{Must, May, Near}
use Rattle.golog_semantics.specs.declared.search.Block.{Block}
use Rattle.golog_semantics.specs.Truth.{Values}
use Rattle.golog_semantics.specs.Values.{after}
use Rattle.golog_semantics.specs.Ways.{is_empty, way_of}
use Rattle.golog_semantics.specs.Search.{Run, best, is_followed, moves_with, no_blocks, plain_ways, runs}
use Rattle.golog_semantics.specs.Moves.{plain_moves}
use Rattle.golog_semantics.specs.Blocks.{has_path, is_cut, meets_cut, work}
use Rattle.golog_semantics.specs.Guarded.{IsGuarded}
use Rattle.golog_semantics.specs.RunLaws.{IsLeast, NoneUpTo}
use Rattle.golog_semantics.specs.Trans.{LeadsIn, PlainTrans}
use Rattle.golog_semantics.specs.World.{Refines}
use Rattle.golog_semantics.specs.WellFormed.{WellFormed}
use Rattle.golog_semantics.proofs.Among.{Among, among-contains, any-among, map-among}
use Rattle.golog_semantics.proofs.BestRuns.{best_is_least, runs_are_sound}
use Rattle.golog_semantics.proofs.StepsInModes.{plain_steps-ordered}
use Rattle.golog_semantics.proofs.Tests.{and_both, or_cases, or_first, or_second}
use Rattle.golog_certain.specs.SearchLaws.{IsFoundOrCut}
use Rattle.golog_certain.proofs.CertainRuns.{more_runs}
use Rattle.golog_certain.proofs.PlainSteps.{plain_steps_so}
use Rattle.golog_certain.proofs.RunsStay.{steps_keep}
use Rattle.golog_certain.proofs.WorldRuns.{runs_lead}
use Rattle.golog_certain.proofs.WorldSearch.{found_or_cut}
use Rattle.golog_find.specs.declared.found.Found.{Found}
use Rattle.golog_find.specs.declared.found.Found.TheVariants.{Absent, Fuel, Run as Runs}
use Rattle.golog_find.specs.Finding.{found, found_by, mode_of, run_or}
use Rattle.golog_find.specs.InWorlds.{AbsenceIsCertain, RunIsCertain}

-- ---- what was found, by what is said of the call

abbrev by : (lacks cut : Bool) → Option Run → Found
by lacks cut best = if lacks then Fuel else run_or cut best

run_told : (lacks cut : Bool) (o : Option Run) (run : Run) → by lacks cut o ≡ Runs run → o ≡ Some run
run_told true cut o run h = absurd (cc)
run_told false cut None run h = absurd (cc)
run_told false cut (Some r) run h = let e : r ≡ run = cc in ap Some e

absence_told : (lacks cut : Bool) (o : Option Run) → by lacks cut o ≡ Absent false → (cut ≡ false) × (o ≡ None)
absence_told true cut o h = absurd (cc)
absence_told false cut (Some r) h = absurd (cc)
absence_told false cut None h = ((let e : cut ≡ false = cc in e), refl)

-- ---- where a step of the world begins a way to an end, a near run is there, or something unseen

some_run : (rs : List Run) → not (is_empty rs) ≡ true → (run : Run) × Among rs run
some_run [] h = absurd (cc)
some_run (r ∷ rs) h = (r, inl refl)

module _ (agent : Agent) (g : IsGuarded agent) (values world : Values) (r : Refines values world) (p : Prog) where
  -- a step of the world is a near way
  near_way : (label : Label) (left : Prog) → PlainTrans agent world p label left → Among (plain_ways agent values Near p) (record { label = label; left = left })
  unfolding plain_ways plain_moves
  near_way label left t =
      let s = (plain_steps_so agent g values world r p).possible label left t in
      let a = among-contains (moves_with agent no_blocks values May p) s.step s.among in
      let b = subst (λ ms. Among ms s.step) (sym (plain_steps-ordered agent values p).near_are_possible) a in
      subst (Among (map way_of (moves_with agent no_blocks values Near p))) (λ i. record { label = s.label_same i; left = s.left_same i })
      (map-among way_of (moves_with agent no_blocks values Near p) s.step b)

  module _ (k : ℕ) (none : NoneUpTo agent Near p values (suc k)) (uncut : is_cut agent Near (suc k) p values ≡ false)
      (w : Way) (among : Among (plain_ways agent values Near p) w) where
    abbrev next : Values
    next = after agent values w.label

    -- something stays unseen after it
    no_path : is_followed w ≡ true → has_path agent Near k w.left next ≡ true → ⊥
    no_path e h =
        let yes =
        or_first (has_path agent Near (suc k) p values) (meets_cut agent Near (suc k) p values)
        (any-among (λ v. is_followed v && has_path agent Near k v.left (after agent values v.label)) (plain_ways agent values Near p) w among
        (and_both (is_followed w) (has_path agent Near k w.left next) e h)) in
        absurd (let no : true ≡ false = sym yes ∙ uncut in cc)

    no_cut : (not (is_followed w) || meets_cut agent Near k w.left next) ≡ true → ⊥
    no_cut h =
        let yes =
        or_second (has_path agent Near (suc k) p values) (meets_cut agent Near (suc k) p values)
        (any-among (λ v. not (is_followed v) || meets_cut agent Near k v.left (after agent values v.label)) (plain_ways agent values Near p) w among h) in
        absurd (let no : true ≡ false = sym yes ∙ uncut in cc)

    nowhere : (followed : Bool) → is_followed w ≡ followed → IsFoundOrCut agent next k w.left → ⊥
    nowhere false e s = no_cut (or_first (not (is_followed w)) (meets_cut agent Near k w.left next) (ap not e))
    nowhere true e (inl f) =
        let run = some_run (runs agent Near f.size w.left next) f.found in
        let longer = more_runs agent Near f.size p values w run.0 among e run.1 in
        let within = f.within in
        subst (λ rs. Among rs (w ∷ run.0)) (none (suc f.size) (omega arith) (omega arith)) longer
    nowhere true e (inr h) =
        elim (or_cases (has_path agent Near k w.left next) (meets_cut agent Near k w.left next) h) [
          | inl a ↦ no_path e a
          | inr a ↦ no_cut (or_second (not (is_followed w)) (meets_cut agent Near k w.left next) a)
        ]

  nothing_leads : (depth : ℕ) → NoneUpTo agent Near p values depth → is_cut agent Near depth p values ≡ false → (n : ℕ) → LeadsIn agent (suc n) p world → ⊥
  nothing_leads zero none uncut n l = absurd (cc)
  nothing_leads (suc k) none uncut n l =
      let w : Way = record { label = l.0; left = l.1 } in
      nowhere k none uncut w (near_way l.0 l.1 l.2) (is_followed w) refl
      (found_or_cut agent g k n l.1 (after agent values l.0) (after agent world l.0) (steps_keep agent l.0 values world r) l.3)

module _ (agent : Agent) (w : WellFormed agent) (values : Values) (block : Block) where
  abbrev lacks : Mode → Bool
  lacks m = true && nat_lt block.fuel (work agent m block.depth block.body values)

  by_parts : (m : Mode) → found agent values m block ≡ by (lacks m) (is_cut agent m block.depth block.body values) (best agent m block.depth block.body values)
  unfolding found_by
  by_parts m = refl

  pub run_so : (certain : Bool) (f : Found) → f ≡ found agent values (mode_of certain) block → RunIsCertain agent values block.body certain f
  run_so false f told e run h world r = absurd (cc)
  run_so true f told e run h world r =
      let b = run_told (lacks Must) (is_cut agent Must block.depth block.body values) (best agent Must block.depth block.body values) run (sym (by_parts Must) ∙ sym told ∙ h) in
      runs_lead agent w.programs.guarded run block.body values world r ((runs_are_sound agent block.body values).best_through block.depth run b)

  pub absence_so : (certain : Bool) (f : Found) → f ≡ found agent values (mode_of certain) block → AbsenceIsCertain agent values block.body certain f
  absence_so true f told e h world r n l = absurd (cc)
  absence_so false f told e h world r n l =
      let a = absence_told (lacks Near) (is_cut agent Near block.depth block.body values) (best agent Near block.depth block.body values) (sym (by_parts Near) ∙ sym told ∙ h) in
      let none = subst (λ o. MatchOption o (NoneUpTo agent Near block.body values block.depth) (IsLeast agent Near block.body values block.depth)) a.1 (best_is_least agent Near block.depth block.body values) in
      nothing_leads agent w.programs.guarded values world r block.body block.depth none a.0 n l
