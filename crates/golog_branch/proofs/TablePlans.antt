-- What a table tells by that of the next level is the first plan of one step more.
use Rattle.std.proofs.Common.{◌≡◌, ℕ, zero, suc, true, false, if◌then◌else◌, List, [], ◌∷◌, map, slice_get, Option, Some, None, refl, sym, ap, ◌∙◌}
use Rattle.std.specs.List.{AllZip}
use Rattle.std.specs.Option.{option_map, option_and_then}
use Rattle.std.proofs.lemmas.Option.{slice_get-map}
use Rattle.golog_tree.specs.declared.agent.Agent.{Agent}
use Rattle.golog_tree.specs.declared.prog.Way.{Way}
use Rattle.golog_semantics.specs.declared.Mode.TheVariants.{Must}
use Rattle.golog_semantics.specs.Blocks.{State}
use Rattle.golog_semantics.specs.Online.{first_some}
use Rattle.golog_semantics.specs.Search.{final}
use Rattle.golog_semantics.specs.Truth.{Values}
use Rattle.golog_branch.specs.declared.spot.Jump.{Jump}
use Rattle.golog_branch.specs.declared.spot.Link.{Link}
use Rattle.golog_branch.specs.declared.spot.Linked.{Linked}
use Rattle.golog_branch.specs.declared.tree.Branch.{Branch}
use Rattle.golog_branch.specs.declared.tree.Tree.{Tree}
use Rattle.golog_branch.specs.declared.tree.Tree.TheVariants as tree
use Rattle.golog_branch.specs.Levels.{IsLinked, Led, WayLed, branch_in, jumped, led, link_plan, linked, linked_plan, step_with, way_led}
use Rattle.golog_branch.specs.Plans.{all_some, branch_for, branch_to, first_plan, followed, step_for}
use Rattle.golog_branch.specs.Trees.{cases}

-- a function by way of another
pub map-through : {A B C : Type 0} (f : A → C) (g : B → C) (h : A → B) → ((x : A) → f x ≡ g (h x)) → (xs : List A) → map f xs ≡ map g (map h xs)
map-through f g h e [] = refl
map-through f g h e (x ∷ xs) = let one = e x in let rest = map-through f g h e xs in (λ i. one i ∷ rest i)

module _ (agent : Agent) (n : ℕ) where
  abbrev pub plan_of : State → Option Tree
  plan_of s = first_plan agent n s.0 s.1

  -- the branch to where a case leads
  abbrev branch-led : Led → Option Branch
  branch-led l = option_map (branch_to l.0) (option_and_then plan_of l.1)

  branch-jumped : (states : List State) (j : Jump) → branch_in (map plan_of states) j ≡ branch-led (jumped states j)
  branch-jumped states j =
      ap (λ o. option_map (branch_to j.value) (option_and_then (λ (p : Option Tree). p) o)) (slice_get-map plan_of states j.place)
      ∙ go (slice_get states j.place)
    where
      go : (o : Option State) → option_map (branch_to j.value) (option_and_then (λ (p : Option Tree). p) (option_map plan_of o)) ≡ branch-led (j.value, o)
      go None = refl
      go (Some s) = refl

  -- the step to where its cases lead
  abbrev step-led : WayLed → Option Tree
  step-led l = step_with l.0 (all_some (map branch-led l.1))

  link-linked : (states : List State) (l : Link) → link_plan (map plan_of states) l ≡ step-led (linked states l)
  link-linked states l =
      ap (λ bs. step_with l.way (all_some bs)) (map-through (branch_in (map plan_of states)) branch-led (jumped states) (branch-jumped states) l.next)

  way-step : (values : Values) (w : Way) → step_for agent (first_plan agent n) values w ≡ step-led (way_led agent values w)
  way-step values w =
      ap (λ bs. step_with w (all_some bs)) (map-through (branch_for (first_plan agent n) w.left) branch-led (led w.left) (λ c. refl) (cases agent values w.label))

  linked-is : (next : List State) (s : State) (l : Linked) → IsLinked agent next s l
      → linked_plan (map plan_of next) l ≡ first_plan agent (suc n) s.0 s.1
  unfolding first_plan
  linked-is next s l h =
      let ends = h.ends in
      let steps : map (link_plan (map plan_of next)) l.links ≡ map (step_for agent (first_plan agent n) s.1) (followed agent s.0 s.1) =
      map-through (link_plan (map plan_of next)) step-led (linked next) (link-linked next) l.links
      ∙ ap (map step-led) h.links
      ∙ sym (map-through (step_for agent (first_plan agent n) s.1) step-led (way_led agent s.1) (way-step s.1) (followed agent s.0 s.1)) in
      (λ i. if ends i then Some tree.Done else first_some (steps i))

  pub level-is : (next states : List State) (level : List Linked) → AllZip (IsLinked agent next) states level
      → map (linked_plan (map plan_of next)) level ≡ map (λ (s : State). first_plan agent (suc n) s.0 s.1) states
  level-is next [] [] h = refl
  level-is next [] (l ∷ level) h = absurd h
  level-is next (s ∷ states) [] h = absurd h
  level-is next (s ∷ states) (l ∷ level) h =
      let one = linked-is next s l h.0 in
      let rest = level-is next states level h.1 in
      (λ i. one i ∷ rest i)

  -- where the program may end the plan is done, and else it begins with the first way that has one
  pub first-ends : (s : State) → final agent s.1 Must s.0 ≡ true → first_plan agent n s.0 s.1 ≡ Some tree.Done
  unfolding first_plan
  first-ends s e = go n
    where
      go : (k : ℕ) → first_plan agent k s.0 s.1 ≡ Some tree.Done
      go zero = ap (λ b. if b then Some tree.Done else None) e
      go (suc k) = ap (λ b. if b then Some tree.Done else first_some (map (step_for agent (first_plan agent k) s.1) (followed agent s.0 s.1))) e

  pub first-goes : (s : State) → final agent s.1 Must s.0 ≡ false → first_plan agent (suc n) s.0 s.1
      ≡ first_some (map (step_for agent (first_plan agent n) s.1) (followed agent s.0 s.1))
  unfolding first_plan
  first-goes s e = ap (λ b. if b then Some tree.Done else first_some (map (step_for agent (first_plan agent n) s.1) (followed agent s.0 s.1))) e
