-- The journal of a program that follows plans is so in each world that agrees with it.
use Rattle.std.proofs.Common.{◌≡◌, ℕ, true, not, ◌&&◌, if◌then◌else◌, Option, Some, None, List, [], ◌∷◌, ◌++◌, refl, sym, ap, ◌∙◌, subst}
use Rattle.std.specs.Prelude.{is_some, nat_lt}
use Rattle.std.specs.Option.{option_map_or}
use Rattle.std.proofs.lemmas.Bool.{eqb-true}
use Rattle.std.proofs.lemmas.Option.{same_Some}
use Rattle.golog_tree.specs.declared.agent.Agent.{Agent}
use Rattle.golog_tree.specs.declared.prog.Label.{Label}
use Rattle.golog_tree.specs.declared.prog.Label.TheVariants.{Quiet, Do as Doing}
use Rattle.golog_tree.specs.declared.prog.Prog.{Prog}
use Rattle.golog_tree.specs.declared.prog.Way.{Way}
use Rattle.golog_semantics.specs.declared.Mode.TheVariants.{Must}
use Rattle.golog_semantics.specs.declared.journal.Answer.TheVariants.{Done as AnswerDone}
use Rattle.golog_semantics.specs.declared.journal.Entry.{Entry}
use Rattle.golog_semantics.specs.declared.journal.Entry.TheVariants.{Do, Test, End}
use Rattle.golog_semantics.specs.BlockFree.{has_block}
use Rattle.golog_semantics.specs.Journal.{Journal, count, is_full, is_quiet, lacks_results, limit}
use Rattle.golog_semantics.specs.Online.{label_of}
use Rattle.golog_semantics.specs.Progress.{values_after}
use Rattle.golog_semantics.specs.Same.{same_label, same_way}
use Rattle.golog_semantics.specs.Search.{final, plain_ways}
use Rattle.golog_semantics.specs.Trans.{FinalW, TransW}
use Rattle.golog_semantics.specs.Truth.{Values}
use Rattle.golog_semantics.specs.WellFormed.{WellFormed}
use Rattle.golog_semantics.specs.World.{Agrees, Completes, IsWorld, world_after}
use Rattle.golog_semantics.proofs.Among.{among-any}
use Rattle.golog_semantics.proofs.BestRuns.{same_way-eq}
use Rattle.golog_semantics.proofs.Tests.{and_cases}
use Rattle.golog_certain.proofs.JournalSo.{entries_refine}
use Rattle.golog_certain.proofs.WorldsComplete.{stays_complete}
use Rattle.golog_ways.specs.Searched.{IsSearched}
use Rattle.golog_branch.specs.declared.following.Kept.{Kept}
use Rattle.golog_branch.specs.declared.tree.Branch.{Branch}
use Rattle.golog_branch.specs.declared.tree.Planned.{Planned}
use Rattle.golog_branch.specs.declared.tree.Planned.TheVariants.{Found}
use Rattle.golog_branch.specs.declared.tree.Tree.{Tree}
use Rattle.golog_branch.specs.declared.tree.Tree.TheOpen.{Done, Step}
use Rattle.golog_branch.specs.declared.tree.Tree.TheViews.{out-Tree}
use Rattle.golog_branch.specs.Following.{Layer, after_layer, after_step, ahead, first_label, kept_after, kept_at, label_in, plan_kept, tree_in}
use Rattle.golog_branch.specs.Going.{is_step, way_to}
use Rattle.golog_branch.specs.PlanJournals.{IsPlannedSoFar, KeepsPlanned, is_abandoned, is_found, is_fuel, is_label, is_large, keeps_plan_answer, label_ahead, may_step_ahead, new_plan, plan_begun}
use Rattle.golog_branch.specs.Plans.{planned}
use Rattle.golog_branch.specs.PlansInWorlds.{PlannedIsSo, PlansAreSo}
use Rattle.golog_branch.specs.TreesInWorlds.{LeadsWithin}
use Rattle.golog_branch.proofs.KeptSearched.{ahead-step, found-new, kept_after-push, searched-before}
use Rattle.golog_branch.proofs.Leading.{end-so, lead, leads-more, step-so}
use Rattle.golog_branch.proofs.PlanAnswers.{done-told}
use Rattle.golog_branch.proofs.PlanParts.{found-first}

label-same : (l k : Label) → same_label l k ≡ true → l ≡ k
label-same Quiet Quiet h = refl
label-same Quiet (Doing b) h = absurd (cc)
label-same (Doing a) Quiet h = absurd (cc)
label-same (Doing a) (Doing b) h = ap Doing (eqb-true a b h)

-- the first step of a plan
record StepOf (t : Tree) (label : Label) : Type 0 where
  pub left : Prog
  pub next : List Branch
  pub is : out-Tree t ≡ Step label left next

layer-step : (t : Tree) (label : Label) (l : Layer) → out-Tree t ≡ l → label_in l ≡ Some label → StepOf t label
layer-step t label Done e h = absurd (cc)
layer-step t label (Step other left next) e h =
    let same : other ≡ label = same_Some other label h in
    record { left = left; next = next; is = e ∙ ap (λ (k : Label). Step k left next) same }

-- the label is that of the plan that is ahead
record IsLabelled (x : Planned) (label : Label) : Type 0 where
  pub plan : Tree
  pub found : tree_in x ≡ Some plan
  pub step : StepOf plan label

labelled : (x : Planned) (label : Label) → is_label label (label_ahead x) ≡ true → IsLabelled x label
labelled x label h = go (tree_in x) refl h
  where
    first : (t : Tree) (o : Option Label) → first_label t ≡ o → is_label label o ≡ true → StepOf t label
    first t None e k = absurd (cc)
    first t (Some l) e k = layer-step t label (out-Tree t) refl (e ∙ ap Some (sym (label-same label l k)))

    go : (o : Option Tree) → tree_in x ≡ o → is_label label (option_map_or first_label o None) ≡ true → IsLabelled x label
    go None e k = absurd (cc)
    go (Some t) e k = record { plan = t; found = e; step = first t (first_label t) refl k }

module _ (agent : Agent) where
  module _ (depth fuel : ℕ) where
    -- after a step the program is what the plan's step leaves
    left-after : (values : Values) (k : Kept) (e : Entry) (label : Label) → label_of e ≡ Some label → (t : Tree) → tree_in (ahead agent depth fuel values k) ≡ Some t
        → (left : Prog) (next : List Branch) → out-Tree t ≡ Step label left next → (kept_at agent depth fuel values k e).left ≡ left
    left-after values k (Do action) label h t found left next out =
        ap (λ (o : Option Tree). (option_map_or (after_step agent k) o k).left) found ∙ ap (λ (l : Layer). (after_layer agent t k l).left) out
    left-after values k Test label h t found left next out =
        ap (λ (o : Option Tree). (option_map_or (after_step agent k) o k).left) found ∙ ap (λ (l : Layer). (after_layer agent t k l).left) out
    left-after values k _ label h t found left next out = absurd (cc)

    module _ (formed : WellFormed agent) where
      module _ (journal : Journal) (keeps : IsPlannedSoFar agent depth fuel journal) (free : not (has_block agent agent.main) ≡ true) where
        module _ (before later : Journal) (e : Entry) (is : journal ≡ before ++ e ∷ later) (start : Values) (world-is : IsWorld agent start) (agrees : Agrees agent start before) where
          abbrev values : Values
          values = values_after agent before

          abbrev k : Kept
          k = kept_after agent depth fuel before

          abbrev world : Values
          world = world_after agent start before

          searched : IsSearched agent k.left values
          searched = searched-before agent depth fuel formed journal keeps free before (e ∷ later) is

          completes : Completes agent values world
          completes = record {
            complete = (stays_complete agent formed start world-is.complete).journals before;
            refines = entries_refine agent agent.starts start world-is.refines before agrees;
          }

          rules : KeepsPlanned agent depth fuel before e
          rules = keeps.entries before e later is

          certain-step : (label : Label) (left : Prog) → is_step agent label left k.left values ≡ true → TransW agent world k.left label left
          certain-step label left so =
              let found = among-any (same_way (way_to label left)) (plain_ways agent values Must k.left) so in
              let same : way_to label left ≡ found.0 = same_way-eq (way_to label left) found.0 found.1.1 in
              subst (λ (w : Way). TransW agent world k.left w.label w.left) (sym same) (step-so agent formed k.left values world searched completes found.0 found.1.0)

          step-is : (label : Label) → label_of e ≡ Some label → TransW agent world k.left label (kept_after agent depth fuel (before ++ e ∷ [])).left
          step-is label h =
              let may = sym (ap (λ (o : Option Label). option_map_or (may_step_ahead agent depth fuel before values k) o true) h) ∙ rules.step in
              let told = (and_cases (not (lacks_results agent before) && not (final agent values Must k.left) && nat_lt (count before) limit)
              (is_label label (label_ahead (ahead agent depth fuel values k))) may).1 in
              let plan = labelled (ahead agent depth fuel values k) label told in
              let step = plan.step in
              let left : (kept_after agent depth fuel (before ++ e ∷ [])).left ≡ step.left =
              ap (λ (z : Kept). z.left) (kept_after-push agent depth fuel before e) ∙ left-after values k e label h plan.plan plan.found step.left step.next step.is in
              subst (TransW agent world k.left label) (sym left) (certain-step label step.left (ahead-step agent depth fuel values k plan.plan plan.found label step.left step.next step.is))

          done-is : e ≡ End AnswerDone → FinalW agent world k.left
          done-is h =
              let x = ahead agent depth fuel values k in
              end-so agent formed k.left values world searched completes
              (done-told (is_full before) (is_abandoned agent before) (lacks_results agent before) (final agent values Must k.left) (is_fuel x) (is_large x) (is_found x) (not (is_quiet agent before))
              (subst (λ (z : Entry). keeps_plan_answer agent depth fuel before values k z ≡ true) h rules.answer))

          begun : (o : Option Label) (t : Tree) → option_map_or (λ (label : Label). new_plan agent depth fuel before values k) o None ≡ Some t → new_plan agent depth fuel before values k ≡ Some t
          begun None t h = absurd (cc)
          begun (Some label) t h = h

          new-is : (t : Tree) → new_plan agent depth fuel before values k ≡ Some t → planned agent depth fuel k.left values ≡ Found t
          new-is t h = go (plan_kept agent values k) refl h
            where
              go : (o : Option Tree) → plan_kept agent values k ≡ o → (if is_some o then None else tree_in (ahead agent depth fuel values k)) ≡ Some t
                  → planned agent depth fuel k.left values ≡ Found t
              go None none h = found-new agent depth fuel values k t none h
              go (Some u) some h = absurd (cc)

          plan-is : (t : Tree) → plan_begun agent depth fuel before e ≡ Some t → LeadsWithin agent depth t k.left world
          plan-is t h =
              let first = found-first agent depth fuel k.left values t (new-is t (begun (label_of e) t h)) in
              leads-more agent first.height depth t k.left world first.within (lead agent formed first.height k.left values world searched completes t first.first)

          pub entry-is : PlannedIsSo agent depth fuel before e world
          entry-is = record { step = step-is; done = done-is; plan = plan-is }

        pub plans-so : PlansAreSo agent depth fuel journal
        plans-so before later e start is world-is agrees = entry-is before later e is start world-is agrees
