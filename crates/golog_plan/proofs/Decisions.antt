-- What a program that follows plans does next, by what is counted and what is ahead.
use Rattle.std.proofs.Common.{◌≡◌, ℕ, Bool, true, false, not, ◌&&◌, ◌||◌, if◌then◌else◌, inl, inr, Option, Some, None, List, [], ◌∷◌, refl, sym, ap, ◌∙◌, subst, arith}
use Rattle.std.specs.Prelude.{IfSome, is_none, is_some, nat_le, nat_lt, option_and_then, option_map}
use Rattle.std.specs.List.{list_all, list_any}
use Rattle.std.specs.Option.{option_map_or}
use Rattle.std.proofs.lemmas.Bool.{and_from, and_parts, eq-eqb, le-leb, leb-true, ltb-false, ltb-true, not-true}
use Rattle.std.proofs.lemmas.Option.{same_Some}
use Rattle.golog_tree.specs.declared.agent.Agent.{Agent}
use Rattle.golog_tree.specs.declared.prog.Label.{Label}
use Rattle.golog_tree.specs.declared.prog.Label.TheVariants.{Quiet, Do as Doing}
use Rattle.golog_tree.specs.declared.prog.Prog.{Prog}
use Rattle.golog_tree.specs.declared.prog.Way.{Way}
use Rattle.golog_semantics.specs.declared.Mode.TheVariants.{Must}
use Rattle.golog_semantics.specs.declared.journal.Answer.{Answer}
use Rattle.golog_semantics.specs.declared.journal.Answer.TheVariants as answer
use Rattle.golog_semantics.specs.Answer.{first_that_fits}
use Rattle.golog_semantics.specs.Inline.{entry_for}
use Rattle.golog_semantics.specs.Journal.{count, has_end, is_full, is_quiet, lacks_results, limit, may_be_answered}
use Rattle.golog_semantics.specs.Reports.{fits_label}
use Rattle.golog_semantics.specs.Same.{same_label, same_way}
use Rattle.golog_semantics.specs.Search.{final, plain_ways}
use Rattle.golog_semantics.specs.Truth.{Values}
use Rattle.golog_semantics.proofs.BestRuns.{same_way-eq}
use Rattle.golog_ways.specs.Searched.{IsSearched}
use Rattle.golog_ways.proofs.SearchedWays.{label_is, labels_fit}
use Rattle.golog_branch.specs.declared.following.Kept.{Kept}
use Rattle.golog_branch.specs.declared.tree.Branch.{Branch}
use Rattle.golog_branch.specs.declared.tree.Planned.{Planned}
use Rattle.golog_branch.specs.declared.tree.Planned.TheVariants.{Absent, Found, Fuel, Large}
use Rattle.golog_branch.specs.declared.tree.Tree.{Tree}
use Rattle.golog_branch.specs.declared.tree.Tree.TheFolds.{fold-roll-Tree}
use Rattle.golog_branch.specs.declared.tree.Tree.TheOpen.{Done, Step}
use Rattle.golog_branch.specs.declared.tree.Tree.TheVariants as tree
use Rattle.golog_branch.specs.declared.tree.Tree.TheViews.{out-Tree, roll-Tree, roll-out-Tree}
use Rattle.golog_branch.specs.Following.{Layer, after_step, ahead, begins_with_step, first_label, goes_on, if_goes_on, is_step_layer, kept_at, label_in, plan_kept, tree_in}
use Rattle.golog_branch.specs.Going.{Going, GoingBranch, goes, goes_step, way_to}
use Rattle.golog_branch.specs.PlanJournals.{has_no_plan, is_abandoned, is_found, is_fuel, is_label, is_large, label_ahead, plan_answer, plan_waits}
use Rattle.golog_branch.specs.Plans.{planned}
use Rattle.golog_branch.specs.TreesInWorlds.{IsFoundFor, IsPlanFor}
use Rattle.golog_branch.proofs.KeptPlans.{ahead-kept, ahead-new}
use Rattle.golog_branch.proofs.KeptSearched.{ahead-step, kept_after-push}
use Rattle.golog_plan.specs.declared.next.Begun.{Begun}
use Rattle.golog_plan.specs.declared.next.Next.TheVariants as next
use Rattle.golog_plan.specs.Keeping.{IsFollowed, KeepsPlan, LacksOne, PlanCourse}
use Rattle.golog_plan.specs.Next.{BeginsBy, IsNextOf, NextIs, Planless, ahead_of, is_settled_at, kept_of, tail_begun, values_of}
use Rattle.golog_plan.specs.PlanTexts.{ended_line, plan_tail}
use Rattle.golog_plan.proofs.Awaiting.{abandoned, none-abandoned, unabandoned, unquiet}
use Rattle.golog_plan.proofs.Following.{own-searched, searched}

-- ---- the answer, by the tests that are asked for it

abbrev answer_by : (full abandoned lacks final fuel large found unquiet : Bool) → Option Answer
answer_by full abandoned lacks final fuel large found unquiet =
    first_that_fits
    ((full, Some answer.Full) ∷ (abandoned, Some answer.Unanswered) ∷ (lacks, None) ∷ (final, Some answer.Done) ∷ (fuel, Some answer.Fuel) ∷ (large, Some answer.Deep)
    ∷ (found, None) ∷ (unquiet, None) ∷ [])
    (Some answer.Depth)

by-full : (f a l e u g d q : Bool) → f ≡ true → answer_by f a l e u g d q ≡ Some answer.Full
by-full f a l e u g d q hf = rw hf refl

by-abandoned : (f a l e u g d q : Bool) → f ≡ false → a ≡ true → answer_by f a l e u g d q ≡ Some answer.Unanswered
by-abandoned f a l e u g d q hf ha = rw (hf, ha) refl

by-lacking : (f a l e u g d q : Bool) → f ≡ false → a ≡ false → l ≡ true → answer_by f a l e u g d q ≡ None
by-lacking f a l e u g d q hf ha hl = rw (hf, ha, hl) refl

by-end : (f a l e u g d q : Bool) → f ≡ false → a ≡ false → l ≡ false → e ≡ true → answer_by f a l e u g d q ≡ Some answer.Done
by-end f a l e u g d q hf ha hl he = rw (hf, ha, hl, he) refl

by-fuel : (f a l e u g d q : Bool) → f ≡ false → a ≡ false → l ≡ false → e ≡ false → u ≡ true → answer_by f a l e u g d q ≡ Some answer.Fuel
by-fuel f a l e u g d q hf ha hl he hu = rw (hf, ha, hl, he, hu) refl

by-large : (f a l e u g d q : Bool) → f ≡ false → a ≡ false → l ≡ false → e ≡ false → u ≡ false → g ≡ true → answer_by f a l e u g d q ≡ Some answer.Deep
by-large f a l e u g d q hf ha hl he hu hg = rw (hf, ha, hl, he, hu, hg) refl

by-depth : (f a l e u g d q : Bool) → f ≡ false → a ≡ false → l ≡ false → e ≡ false → u ≡ false → g ≡ false → d ≡ false → q ≡ false → answer_by f a l e u g d q ≡ Some answer.Depth
by-depth f a l e u g d q hf ha hl he hu hg hd hq = rw (hf, ha, hl, he, hu, hg, hd, hq) refl

by-waiting : (f a l e u g d q : Bool) → f ≡ false → a ≡ false → l ≡ false → e ≡ false → u ≡ false → g ≡ false → d ≡ false → q ≡ true → answer_by f a l e u g d q ≡ None
by-waiting f a l e u g d q hf ha hl he hu hg hd hq = rw (hf, ha, hl, he, hu, hg, hd, hq) refl

by-plan : (f a l e u g d q : Bool) → f ≡ false → a ≡ false → l ≡ false → e ≡ false → u ≡ false → g ≡ false → d ≡ true → answer_by f a l e u g d q ≡ None
by-plan f a l e u g d q hf ha hl he hu hg hd = rw (hf, ha, hl, he, hu, hg, hd) refl

waits-lacking : (quiet none lacks bare : Bool) → quiet ≡ false → none ≡ true → lacks ≡ true → (not quiet && none && (lacks || bare)) ≡ true
waits-lacking quiet none lacks bare hq hn hl = rw (hq, hn, hl) refl

waits-bare : (quiet none lacks bare : Bool) → quiet ≡ false → none ≡ true → lacks ≡ false → bare ≡ true → (not quiet && none && (lacks || bare)) ≡ true
waits-bare quiet none lacks bare hq hn hl hb = rw (hq, hn, hl, hb) refl

-- ---- the parts of a program that goes on

pub record Settles (c : PlanCourse) : Type 0 where
  pub goes : has_end c.list ≡ false
  pub none : lacks_results c.agent c.list ≡ false
  pub room : nat_lt (count c.list) limit ≡ true
  pub unended : final c.agent (values_of c) Must (kept_of c).left ≡ false

pub settles : (c : PlanCourse) → is_settled_at c ≡ true → Settles c
settles c h =
    let last = final c.agent (values_of c) Must (kept_of c).left in
    let four = and_parts (not (has_end c.list) && not (lacks_results c.agent c.list) && nat_lt (count c.list) limit) (not last) h in
    let three = and_parts (not (has_end c.list) && not (lacks_results c.agent c.list)) (nat_lt (count c.list) limit) four.0 in
    let two = and_parts (not (has_end c.list)) (not (lacks_results c.agent c.list)) three.0 in
    record { goes = not-true (has_end c.list) two.0; none = not-true (lacks_results c.agent c.list) two.1; room = three.1; unended = not-true last four.1 }

room-left : (n : ℕ) → nat_le limit n ≡ false → nat_lt n limit ≡ true
room-left n h = go (nat_lt n limit) refl
  where
    go : (b : Bool) → nat_lt n limit ≡ b → nat_lt n limit ≡ true
    go true is = is
    go false is = absurd (let k = sym (le-leb limit n (ltb-false n limit is)) ∙ h in cc)

not-full : (n : ℕ) → nat_lt n limit ≡ true → nat_le limit n ≡ false
not-full n h = go (nat_le limit n) refl
  where
    go : (b : Bool) → nat_le limit n ≡ b → nat_le limit n ≡ false
    go false is = is
    go true is = absurd (let low = ltb-true n limit h in let high = leb-true limit n is in omega (arith, low, high))

pub settled-so : (c : PlanCourse) → has_end c.list ≡ false → is_full c.list ≡ false → lacks_results c.agent c.list ≡ false → final c.agent (values_of c) Must (kept_of c).left ≡ false → is_settled_at c ≡ true
settled-so c goes room none unended =
    and_from (not (has_end c.list) && not (lacks_results c.agent c.list) && nat_lt (count c.list) limit) (not (final c.agent (values_of c) Must (kept_of c).left))
    (and_from (not (has_end c.list) && not (lacks_results c.agent c.list)) (nat_lt (count c.list) limit)
    (and_from (not (has_end c.list)) (not (lacks_results c.agent c.list)) (ap not goes) (ap not none)) (room-left (count c.list) room))
    (ap not unended)

-- ---- plans

same_label-same : (l : Label) → same_label l l ≡ true
same_label-same Quiet = refl
same_label-same (Doing a) = eq-eqb a a refl

module _ (agent : Agent) (p : Prog) (values : Values) where
  goes-done : goes agent tree.Done p values ≡ final agent values Must p
  goes-done =
      ap (λ (g : Going). g p values)
      (ap (goes agent) (sym tree.rolls-Done) ∙ fold-roll-Tree Going GoingBranch (goes_step agent) (λ b. (b.value, b.tree)) Done)

  -- a plan that goes through begins with a step, where the program may not end
  pub begins-so : (t : Tree) → goes agent t p values ≡ true → final agent values Must p ≡ false → begins_with_step t ≡ true
  begins-so t through unended = go (out-Tree t) refl
    where
      go : (l : Layer) → out-Tree t ≡ l → begins_with_step t ≡ true
      go Done out =
          let done : t ≡ tree.Done = sym (roll-out-Tree t) ∙ ap roll-Tree out ∙ tree.rolls-Done in
          absurd (let k = sym through ∙ ap (λ (u : Tree). goes agent u p values) done ∙ goes-done ∙ unended in cc)
      go (Step label left next) out = ap is_step_layer out

-- a plan that begins with a step does something first
pub labels-so : (t : Tree) → begins_with_step t ≡ true → first_label t ≡ None → ⊥
labels-so t begins none = go (out-Tree t) refl
  where
    go : (l : Layer) → out-Tree t ≡ l → ⊥
    go Done out = absurd (let k = sym begins ∙ ap is_step_layer out in cc)
    go (Step label left next) out = absurd (let k = sym none ∙ ap label_in out in cc)

pub label-done : (t : Tree) → t ≡ tree.Done → None ≡ first_label t
label-done t e = sym (ap first_label e ∙ ap label_in tree.outs-Done)

pub label-step : (t : Tree) (label : Label) (left : Prog) (behind : List Branch) → t ≡ tree.Step label left behind → Some label ≡ first_label t
label-step t label left behind e = sym (ap first_label e ∙ ap label_in (tree.outs-Step label left behind))

-- the label of a way that fits
way-fits : (agent : Agent) (w : Way) (ws : List Way) → list_any (same_way w) ws ≡ true → list_all (label_is agent) ws ≡ true → fits_label agent w.label ≡ true
way-fits agent w [] some all = absurd (cc)
way-fits agent w (x ∷ ws) some all =
    let parts = and_parts (label_is agent x) (list_all (label_is agent) ws) all in
    go (same_way w x) refl some parts.0 (λ h. way-fits agent w ws h parts.1)
  where
    go : (b : Bool) → same_way w x ≡ b → (b || list_any (same_way w) ws) ≡ true → label_is agent x ≡ true → (list_any (same_way w) ws ≡ true → fits_label agent w.label ≡ true)
        → fits_label agent w.label ≡ true
    go true is h here rest = ap (label_is agent) (same_way-eq w x is) ∙ here
    go false is h here rest = rest h

module _ (c : PlanCourse) where
  abbrev V : Values
  V = values_of c

  abbrev K : Kept
  K = kept_of c

  abbrev X : Planned
  X = ahead_of c

  -- ---- the first step of what is ahead

  own-label : IsFollowed c → (t : Tree) → BeginsBy c t → (label : Label) → first_label t ≡ Some label → fits_label c.agent label ≡ true
  own-label f t ahead label first = go (out-Tree t) refl
    where
      go : (l : Layer) → out-Tree t ≡ l → fits_label c.agent label ≡ true
      go Done out = absurd (let k = sym first ∙ ap label_in out in cc)
      go (Step other left next) out =
          let same : other ≡ label = same_Some other label (sym (ap label_in out) ∙ first) in
          let step = ahead-step c.agent c.depth c.fuel V K t ahead other left next out in
          ap (fits_label c.agent) (sym same)
          ∙ way-fits c.agent (way_to other left) (plain_ways c.agent V Must K.left) step (labels_fit c.agent f.formed K.left V (searched c f) Must)

  kept-step : (l : Label) → kept_at c.agent c.depth c.fuel V K (entry_for l) ≡ option_map_or (after_step c.agent K) (tree_in X) K
  kept-step (Doing a) = refl
  kept-step Quiet = refl

  -- it is taken
  pub begun-next : IsFollowed c → is_settled_at c ≡ true → (t : Tree) → BeginsBy c t → (begun : Begun) → first_label t ≡ Some begun.label
      → ((before : Kept) → begun.kept ≡ after_step c.agent before t) → begun.tail ≡ tail_begun c → IsNextOf c begun
  begun-next f settled t ahead begun first kept tail =
      let s = settles c settled in
      record {
        own = own-label f t ahead begun.label first;
        may =
            and_from (not (lacks_results c.agent c.list) && not (final c.agent V Must K.left) && nat_lt (count c.list) limit) (is_label begun.label (label_ahead X))
            (and_from (not (lacks_results c.agent c.list) && not (final c.agent V Must K.left)) (nat_lt (count c.list) limit)
            (and_from (not (lacks_results c.agent c.list)) (not (final c.agent V Must K.left)) (ap not s.none) (ap not s.unended)) s.room)
            (ap (λ (o : Option Tree). is_label begun.label (option_map_or first_label o None)) ahead ∙ ap (is_label begun.label) first ∙ same_label-same begun.label);
        kept_so =
            kept K ∙ sym (ap (λ (o : Option Tree). option_map_or (after_step c.agent K) o K) ahead) ∙ sym (kept-step begun.label)
            ∙ sym (kept_after-push c.agent c.depth c.fuel c.list (entry_for begun.label));
        tail_so = tail;
      }

  -- the plan that is kept
  pub kept-begins : (t : Tree) → plan_kept c.agent V K ≡ Some t → begins_with_step t ≡ true
  kept-begins t e = go K.plan e
    where
      test : (w : Tree) (b : Bool) → goes_on c.agent K.left V w ≡ b → (if b then Some w else None) ≡ Some t → begins_with_step t ≡ true
      test w true on h = ap begins_with_step (sym (same_Some w t h)) ∙ (and_parts (begins_with_step w) (goes c.agent w K.left V) on).0
      test w false on h = absurd (cc)

      go : (o : Option Tree) → option_and_then (if_goes_on c.agent K.left V) o ≡ Some t → begins_with_step t ≡ true
      go None h = absurd (cc)
      go (Some w) h = test w (goes_on c.agent K.left V w) refl h

  pub kept-ahead : (t : Tree) → plan_kept c.agent V K ≡ Some t → BeginsBy c t
  kept-ahead t e = sym (ap tree_in (ahead-kept c.agent c.depth c.fuel V K t e))

  pub kept-tail : (t : Tree) → plan_kept c.agent V K ≡ Some t → None ≡ tail_begun c
  kept-tail t e =
      sym (ap (λ (o : Option Tree). option_map (λ (u : Tree). ended_line (plan_tail c.agent (Some u))) (if is_some o then None else tree_in X)) e)

  -- a plan that is new
  pub new-ahead : plan_kept c.agent V K ≡ None → (found : Planned) → found ≡ planned c.agent c.depth c.fuel K.left V → found ≡ X
  new-ahead none found is = is ∙ ahead-new c.agent c.depth c.fuel V K none

  pub new-tail : plan_kept c.agent V K ≡ None → (t : Tree) → BeginsBy c t → Some (ended_line (plan_tail c.agent (Some t))) ≡ tail_begun c
  new-tail none t ahead =
      sym (ap (λ (o : Option Tree). option_map (λ (u : Tree). ended_line (plan_tail c.agent (Some u))) (if is_some o then None else tree_in X)) none
      ∙ ap (option_map (λ (u : Tree). ended_line (plan_tail c.agent (Some u)))) ahead)

  -- ---- the ends, and when it waits

  abbrev unquiet_now : Bool
  unquiet_now = not (is_quiet c.agent c.list)

  abbrev F : Bool
  F = is_full c.list

  abbrev A : Bool
  A = is_abandoned c.agent c.list

  abbrev L : Bool
  L = lacks_results c.agent c.list

  abbrev E : Bool
  E = final c.agent V Must K.left

  abbrev U : Bool
  U = is_fuel X

  abbrev G : Bool
  G = is_large X

  abbrev D : Bool
  D = is_found X

  abbrev answer_so : Option Answer
  answer_so = answer_by F A L E U G D unquiet_now

  answered : plan_answer c.agent c.depth c.fuel c.list ≡ answer_so
  unfolding plan_answer
  answered = refl

  -- with such an answer
  pub full-next : is_full c.list ≡ true → NextIs c (next.End answer.Full)
  full-next h = inr (answered ∙ by-full F A L E U G D unquiet_now h)

  pub memory-next : NextIs c (next.End answer.Memory)
  memory-next = inl refl

  pub unanswered-next : is_full c.list ≡ false → lacks_results c.agent c.list ≡ true → may_be_answered c.agent c.list ≡ false → NextIs c (next.End answer.Unanswered)
  unanswered-next room lacks none = inr (answered ∙ by-abandoned F A L E U G D unquiet_now room (abandoned c.agent c.list lacks none))

  waits-so : is_quiet c.agent c.list ≡ false → answer_so ≡ None → lacks_results c.agent c.list ≡ true → plan_waits c.agent c.depth c.fuel c.list ≡ true
  unfolding plan_waits
  waits-so unquiet none lacks =
      waits-lacking (is_quiet c.agent c.list) (is_none (plan_answer c.agent c.depth c.fuel c.list)) (lacks_results c.agent c.list) (has_no_plan c.agent c.depth c.fuel c.list)
      unquiet (ap is_none (answered ∙ none)) lacks

  waits-without : is_quiet c.agent c.list ≡ false → answer_so ≡ None → lacks_results c.agent c.list ≡ false → has_no_plan c.agent c.depth c.fuel c.list ≡ true → plan_waits c.agent c.depth c.fuel c.list ≡ true
  unfolding plan_waits
  waits-without unquiet none lacks bare =
      waits-bare (is_quiet c.agent c.list) (is_none (plan_answer c.agent c.depth c.fuel c.list)) (lacks_results c.agent c.list) (has_no_plan c.agent c.depth c.fuel c.list)
      unquiet (ap is_none (answered ∙ none)) lacks bare

  pub awaiting-next : IsFollowed c → LacksOne c.agent c.list → is_full c.list ≡ false → lacks_results c.agent c.list ≡ true → may_be_answered c.agent c.list ≡ true → NextIs c next.Wait
  awaiting-next f one room lacks may =
      waits-so (unquiet c.agent c.list f.lawful may) (by-lacking F A L E U G D unquiet_now room (unabandoned c.agent c.list one may) lacks) lacks

  pub done-next : is_full c.list ≡ false → lacks_results c.agent c.list ≡ false → final c.agent V Must K.left ≡ true → NextIs c (next.End answer.Done)
  done-next room none ends = inr (answered ∙ by-end F A L E U G D unquiet_now room (none-abandoned c.agent c.list none) none ends)

  module _ (settled : is_settled_at c ≡ true) where
    s : Settles c
    s = settles c settled

    room : is_full c.list ≡ false
    room = not-full (count c.list) s.room

    alone : is_abandoned c.agent c.list ≡ false
    alone = none-abandoned c.agent c.list s.none

    pub fuel-next : Fuel ≡ X → NextIs c (next.End answer.Fuel)
    fuel-next e = inr (answered ∙ by-fuel F A L E U G D unquiet_now room alone s.none s.unended (ap is_fuel (sym e)))

    pub large-next : Large ≡ X → NextIs c (next.End answer.Deep)
    large-next e = inr (answered ∙ by-large F A L E U G D unquiet_now room alone s.none s.unended (ap is_fuel (sym e)) (ap is_large (sym e)))

    module _ (bare : Planless c) where
      unfound : is_found X ≡ false
      unfound = not-true (is_found X) bare.none

      pub depth-next : is_quiet c.agent c.list ≡ true → NextIs c (next.End answer.Depth)
      depth-next quiet = inr (answered ∙ by-depth F A L E U G D unquiet_now room alone s.none s.unended bare.fueled bare.small unfound (ap not quiet))

      pub bare-waits : is_quiet c.agent c.list ≡ false → NextIs c next.Wait
      bare-waits unquiet =
          waits-without unquiet (by-waiting F A L E U G D unquiet_now room alone s.none s.unended bare.fueled bare.small unfound (ap not unquiet)) s.none bare.none

  -- no plan was found
  pub planless : Absent ≡ X → Planless c
  planless e = record { none = ap (λ (x : Planned). not (is_found x)) (sym e); fueled = ap is_fuel (sym e); small = ap is_large (sym e) }

  -- where a step may be taken the program has no answer
  pub step-answers-none : nat_lt (count c.list) limit ≡ true → lacks_results c.agent c.list ≡ false → final c.agent V Must K.left ≡ false → is_found X ≡ true
      → plan_answer c.agent c.depth c.fuel c.list ≡ None
  step-answers-none room none unended found =
      answered ∙ by-plan F A L E U G D unquiet_now (not-full (count c.list) room) (none-abandoned c.agent c.list none) none unended (not-fuel X found) (not-large X found) found
    where
      not-fuel : (x : Planned) → is_found x ≡ true → is_fuel x ≡ false
      not-fuel (Found t) h = refl
      not-fuel Absent h = refl
      not-fuel Fuel h = absurd (cc)
      not-fuel Large h = refl

      not-large : (x : Planned) → is_found x ≡ true → is_large x ≡ false
      not-large (Found t) h = refl
      not-large Absent h = refl
      not-large Fuel h = refl
      not-large Large h = absurd (cc)

-- what was found goes through, and has a text
pub found-plan : (c : PlanCourse) (found : Planned) (t : Tree) → found ≡ Found t → IsFoundFor c.agent c.depth (kept_of c).left (values_of c) found → IsPlanFor c.agent c.depth (kept_of c).left (values_of c) t
found-plan c found t is so = subst (IsFoundFor c.agent c.depth (kept_of c).left (values_of c)) is so

-- ---- as it is kept

-- what is asked of what is kept is so of the program as contracts see it
module _ (c value : PlanCourse) (own : Agent) (state : Values) (kept : Option Kept) (ended : Option Answer) (k : KeepsPlan c own state kept ended) (is : c ≡ value) where
  pub own-agent : own ≡ value.agent
  own-agent = k.own_so ∙ ap (λ (v : PlanCourse). v.agent) is

  pub own-values : state ≡ values_of value
  own-values = k.state_so ∙ ap values_of is

  module _ (given : Kept) (given-is : given ≡ kept_of value) where
    pub given-searched : IsSearched own given.left state
    given-searched = subst (λ (z : Kept). IsSearched own z.left state) (sym (given-is ∙ ap kept_of (sym is))) (own-searched c own state kept ended k)

    pub given-final : final own state Must given.left ≡ final value.agent (values_of value) Must (kept_of value).left
    given-final =
        ap (λ a. final a state Must given.left) own-agent ∙ ap (λ v. final value.agent v Must given.left) own-values
        ∙ ap (λ (z : Kept). final value.agent (values_of value) Must z.left) given-is

    pub given-kept : plan_kept own state given ≡ plan_kept value.agent (values_of value) (kept_of value)
    given-kept =
        ap (λ a. plan_kept a state given) own-agent ∙ ap (λ v. plan_kept value.agent v given) own-values ∙ ap (plan_kept value.agent (values_of value)) given-is

    pub given-found : planned own c.depth c.fuel given.left state ≡ planned value.agent value.depth value.fuel (kept_of value).left (values_of value)
    given-found =
        ap (λ a. planned a c.depth c.fuel given.left state) own-agent ∙ ap (λ v. planned value.agent c.depth c.fuel given.left v) own-values
        ∙ ap (λ (z : Kept). planned value.agent c.depth c.fuel z.left (values_of value)) given-is
        ∙ ap (λ (v : PlanCourse). planned value.agent v.depth v.fuel (kept_of value).left (values_of value)) is

    pub given-so : (found : Planned) → IsFoundFor own c.depth given.left state found → IsFoundFor value.agent value.depth (kept_of value).left (values_of value) found
    given-so found so =
        subst (λ (v : PlanCourse). IsFoundFor value.agent v.depth (kept_of value).left (values_of value) found) is
        (subst (λ (z : Kept). IsFoundFor value.agent c.depth z.left (values_of value) found) given-is
        (subst (λ v. IsFoundFor value.agent c.depth given.left v found) own-values (subst (λ a. IsFoundFor a c.depth given.left state found) own-agent so)))

  -- it is kept so
  pub kept-given : (given : Kept) → kept ≡ Some given → given ≡ kept_of value
  kept-given given e = subst (λ (o : Option Kept). IfSome o (λ (z : Kept). z ≡ kept_of c)) e k.kept_so ∙ ap kept_of is
