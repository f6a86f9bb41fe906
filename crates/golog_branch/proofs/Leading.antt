-- A plan that is found leads to an end in each world in which all is so that is known.
use Rattle.std.proofs.Common.{◌≡◌, ℕ, zero, suc, ◌≤◌, Bool, true, false, Option, Some, None, List, map, IsSomeAnd, refl, sym, ap, ◌∙◌, subst, arith}
use Rattle.std.specs.Prelude.{Contains}
use Rattle.golog_tree.specs.declared.agent.Agent.{Agent}
use Rattle.golog_tree.specs.declared.prog.Prog.{Prog}
use Rattle.golog_tree.specs.declared.prog.Way.{Way}
use Rattle.golog_semantics.specs.declared.Mode.TheVariants.{Must}
use Rattle.golog_semantics.specs.BlockFree.{has_block}
use Rattle.golog_semantics.specs.Blocks.{ways}
use Rattle.golog_semantics.specs.Certain.{CertainIsTrans}
use Rattle.golog_semantics.specs.Fits.{nothing_bound}
use Rattle.golog_semantics.specs.InSorts.{AreInSorts}
use Rattle.golog_semantics.specs.Moves.{plain_moves}
use Rattle.golog_semantics.specs.Plain.{plain}
use Rattle.golog_semantics.specs.Search.{final, plain_ways}
use Rattle.golog_semantics.specs.Trans.{FinalW, TransW}
use Rattle.golog_semantics.specs.Truth.{Values}
use Rattle.golog_semantics.specs.Values.{after}
use Rattle.golog_semantics.specs.Ways.{way_of}
use Rattle.golog_semantics.specs.WellFormed.{WellFormed}
use Rattle.golog_semantics.specs.World.{Completes}
use Rattle.golog_semantics.proofs.Among.{Among, contains-among}
use Rattle.golog_semantics.proofs.BlocksFit.{each-contains}
use Rattle.golog_semantics.proofs.NoBlocks.{blockless_steps, not_so}
use Rattle.golog_semantics.proofs.ProgPut.{at_scope}
use Rattle.golog_certain.proofs.BodiesPlain.{bodies_plain}
use Rattle.golog_certain.proofs.StepsSo.{certain_is_trans}
use Rattle.golog_ways.specs.Searched.{IsSearched}
use Rattle.golog_ways.proofs.SearchedWays.{WayStays, ways_stay}
use Rattle.golog_ways.proofs.Within.{into}
use Rattle.golog_branch.specs.declared.tree.Branch.{Branch}
use Rattle.golog_branch.specs.declared.tree.Tree.{Tree}
use Rattle.golog_branch.specs.declared.tree.Tree.TheOpen.{Tree-F, Done, Step}
use Rattle.golog_branch.specs.declared.tree.Tree.TheVariants as tree
use Rattle.golog_branch.specs.declared.tree.Tree.TheViews.{out-Tree}
use Rattle.golog_branch.specs.Plans.{first_plan}
use Rattle.golog_branch.specs.Trees.{sensed_by_label}
use Rattle.golog_branch.specs.TreesInWorlds.{LeadsWithin, branch_taken, leads_layer}
use Rattle.golog_branch.proofs.PlanParts.{begins, is-done, none-at-once}
use Rattle.golog_branch.proofs.Taken.{taken}

some-more : {A : Type 0} (o : Option A) (P Q : A → Type 0) → ((x : A) → P x → Q x) → IsSomeAnd o P → IsSomeAnd o Q
some-more None P Q into h = h
some-more (Some x) P Q into h = into x h

module _ (agent : Agent) where
  -- a plan
  abbrev Leading : Type 1
  Leading = Tree → Prog → Values → Type 0

  layer-more : (one other : Leading) → ((t : Tree) (p : Prog) (world : Values) → one t p world → other t p world) → (p : Prog) (world : Values) (l : Tree-F Tree Branch)
      → leads_layer agent one p world l → leads_layer agent other p world l
  layer-more one other into p world Done h = h
  layer-more one other into p world (Step label left next) h = (
    h.0,
    some-more (branch_taken (after agent world label) (sensed_by_label agent label) next) (λ (b : Branch). one b.tree left (after agent world label))
        (λ (b : Branch). other b.tree left (after agent world label)) (λ b k. into b.tree left (after agent world label) k) h.1,
  )

  -- within more steps too
  pub leads-more : (n m : ℕ) (t : Tree) (p : Prog) (world : Values) → n ≤ m → LeadsWithin agent n t p world → LeadsWithin agent m t p world
  leads-more zero zero t p world few h = h
  leads-more zero (suc m) t p world few h = layer-more (λ _ _ _. ⊥) (LeadsWithin agent m) (λ u q w none. absurd none) p world (out-Tree t) h
  leads-more (suc n) zero t p world few h = absurd (omega arith)
  leads-more (suc n) (suc m) t p world few h =
      layer-more (LeadsWithin agent n) (LeadsWithin agent m) (λ u q w k. leads-more n m u q w (omega arith) k) p world (out-Tree t) h

  -- where the plan is done, the program may end
  done-leads : (n : ℕ) (t : Tree) (p : Prog) (world : Values) → t ≡ tree.Done → FinalW agent world p → LeadsWithin agent n t p world
  done-leads zero t p world e f = subst (leads_layer agent (λ _ _ _. ⊥) p world) (sym (ap out-Tree e ∙ tree.outs-Done)) f
  done-leads (suc n) t p world e f = subst (leads_layer agent (LeadsWithin agent n) p world) (sym (ap out-Tree e ∙ tree.outs-Done)) f

  module _ (formed : WellFormed agent) where
    -- no run is under way in a program without blocks
    plain-is : (p : Prog) (values : Values) → IsSearched agent p values → plain p ≡ p
    plain-is p values searched =
        bodies_plain agent p (at_scope nothing_bound true) refl
        (into agent p nothing_bound searched.program (not_so (has_block agent p) searched.blockless))

    same-ways : (p : Prog) (values : Values) → IsSearched agent p values → ways agent values Must p ≡ plain_ways agent values Must p
    unfolding plain_ways plain_moves
    same-ways p values searched = ap (map way_of) (blockless_steps agent values Must p searched.blockless)

    pub way-stays : (p : Prog) (values : Values) → IsSearched agent p values → (w : Way) → Among (plain_ways agent values Must p) w → WayStays agent w
    way-stays p values searched w among =
        each-contains (WayStays agent) (plain_ways agent values Must p) w (ways_stay agent formed p values searched Must)
        (contains-among (plain_ways agent values Must p) w among)

    -- what a step leaves may be searched where its values are in their sorts
    pub left-searched : (w : Way) → WayStays agent w → (values : Values) → AreInSorts agent values → IsSearched agent w.left values
    left-searched w stays values sorts = record { program = stays.left_fits; blockless = stays.left_free; sorts = sorts }

    module _ (p : Prog) (values world : Values) (searched : IsSearched agent p values) (completes : Completes agent values world) where
      certain : CertainIsTrans agent values world p
      certain = certain_is_trans agent formed values world completes.refines p searched.program

      pub end-so : final agent values Must p ≡ true → FinalW agent world p
      end-so e = subst (FinalW agent world) (plain-is p values searched) (certain.ends e)

      pub step-so : (w : Way) → Among (plain_ways agent values Must p) w → TransW agent world p w.label w.left
      step-so w among =
          let stays = way-stays p values searched w among in
          let here : Contains (ways agent values Must p) w =
          contains-among (ways agent values Must p) w (subst (λ (ws : List Way). Among ws w) (sym (same-ways p values searched)) among) in
          subst (λ (q : Prog). TransW agent world q w.label w.left) (plain-is p values searched)
          (subst (TransW agent world (plain p) w.label) (plain-is w.left values (left-searched w stays values searched.sorts)) (certain.steps w here))

    pub lead : (n : ℕ) (p : Prog) (values world : Values) → IsSearched agent p values → Completes agent values world → (t : Tree)
        → first_plan agent n p values ≡ Some t → LeadsWithin agent n t p world
    lead zero p values world searched completes t h = go (final agent values Must p) refl
      where
        go : (b : Bool) → final agent values Must p ≡ b → LeadsWithin agent zero t p world
        go true e = done-leads zero t p world (is-done agent zero p values t e h) (end-so p values world searched completes e)
        go false e = let none = sym (none-at-once agent p values e) ∙ h in absurd (cc)
    lead (suc n) p values world searched completes t h = go (final agent values Must p) refl (lead n)
      where
        go : (b : Bool) → final agent values Must p ≡ b
            → ((q : Prog) (vs w : Values) → IsSearched agent q vs → Completes agent vs w → (u : Tree) → first_plan agent n q vs ≡ Some u → LeadsWithin agent n u q w)
            → LeadsWithin agent (suc n) t p world
        go true e later = done-leads (suc n) t p world (is-done agent (suc n) p values t e h) (end-so p values world searched completes e)
        go false e later =
            let begun = begins agent n p values t e h in
            let way = begun.way in
            let stays = way-stays p values searched way begun.among in
            let there = after agent world way.label in
            let branch = taken agent formed (first_plan agent n) way.left way.label values world completes searched.sorts begun.next begun.branches in
            subst (leads_layer agent (LeadsWithin agent n) p world) (sym (ap out-Tree begun.is ∙ tree.outs-Step way.label way.left begun.next)) (
              step-so p values world searched completes way begun.among,
              subst (λ (o : Option Branch). IsSomeAnd o (λ (b : Branch). LeadsWithin agent n b.tree way.left there)) (sym branch.is)
                  (later way.left branch.values there (left-searched way stays branch.values branch.sorts) branch.completes branch.branch.tree branch.plan_so),
            )
