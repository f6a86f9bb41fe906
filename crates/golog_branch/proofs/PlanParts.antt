-- What a plan that is found is made of: a way that may be followed, and a plan for each of its cases.
use Rattle.std.proofs.Common.{◌≡◌, ℕ, zero, suc, ◌+◌, ◌<◌, ◌≤◌, Bool, true, false, if◌then◌else◌, Option, Some, None, List, [], ◌∷◌, map, refl, sym, ap, ◌∙◌, subst, inl, inr, arith}
use Rattle.std.specs.Prelude.{nat_lt}
use Rattle.std.specs.List.{AllZip}
use Rattle.std.specs.Option.{option_and_then, option_map, option_map_or, option_or}
use Rattle.std.proofs.lemmas.Option.{same_Some}
use Rattle.golog_tree.specs.declared.agent.Agent.{Agent}
use Rattle.golog_tree.specs.declared.prog.Prog.{Prog}
use Rattle.golog_tree.specs.declared.prog.Way.{Way}
use Rattle.golog_semantics.specs.declared.Mode.TheVariants.{Must}
use Rattle.golog_semantics.specs.Online.{first_some}
use Rattle.golog_semantics.specs.Search.{final, is_followed, plain_ways}
use Rattle.golog_semantics.specs.Truth.{Values}
use Rattle.golog_semantics.proofs.Among.{Among, among-filter}
use Rattle.golog_branch.specs.declared.tree.Branch.{Branch}
use Rattle.golog_branch.specs.declared.tree.Planned.{Planned}
use Rattle.golog_branch.specs.declared.tree.Planned.TheVariants.{Found, Absent, Fuel, Large}
use Rattle.golog_branch.specs.declared.tree.Tree.{Tree}
use Rattle.golog_branch.specs.declared.tree.Tree.TheVariants as tree
use Rattle.golog_branch.specs.Plans.{Planning, all_some, branch_for, branch_to, first_plan, followed, if_small, least_plan, most_steps, plan_at, plan_from, plan_work, planned, step_for}
use Rattle.golog_branch.specs.Trees.{Case, cases, steps}
use Rattle.golog_branch.proofs.TablePlans.{first-ends, first-goes}

module _ {A B : Type 0} (f : A → Option B) where
  -- the first that is there comes of one of these
  pub first-among : (xs : List A) (y : B) → first_some (map f xs) ≡ Some y → (x : A) × (Among xs x × (f x ≡ Some y))
  first-among [] y e = absurd (cc)
  first-among (x ∷ xs) y e = go (f x) refl e (first-among xs y)
    where
      go : (o : Option B) → f x ≡ o → option_or o (first_some (map f xs)) ≡ Some y
          → (first_some (map f xs) ≡ Some y → (z : A) × (Among xs z × (f z ≡ Some y))) → (z : A) × (Among (x ∷ xs) z × (f z ≡ Some y))
      go None is h later = let r = later h in (r.0, (inr r.1.0, r.1.1))
      go (Some z) is h later = (x, (inl refl, is ∙ h))

  -- all that are there come of these, one by one
  pub all-there : (xs : List A) (ys : List B) → all_some (map f xs) ≡ Some ys → AllZip (λ x y. f x ≡ Some y) xs ys
  all-there [] [] e = tt
  all-there [] (y ∷ ys) e = let same : [] ≡ y ∷ ys = same_Some [] (y ∷ ys) e in absurd (cc)
  all-there (x ∷ xs) ys e = go (f x) refl (all_some (map f xs)) refl e (all-there xs)
    where
      go : (o : Option B) → f x ≡ o → (r : Option (List B)) → all_some (map f xs) ≡ r
          → option_and_then (λ y. option_map (λ zs. y ∷ zs) r) o ≡ Some ys → ((zs : List B) → all_some (map f xs) ≡ Some zs → AllZip (λ x y. f x ≡ Some y) xs zs)
          → AllZip (λ x y. f x ≡ Some y) (x ∷ xs) ys
      go None is r ris h later = absurd (cc)
      go (Some y) is None ris h later = absurd (cc)
      go (Some y) is (Some zs) ris h later = subst (AllZip (λ x y. f x ≡ Some y) (x ∷ xs)) (same_Some (y ∷ zs) ys h) (is, later zs ris)

pub mapped-some : {A B : Type 0} (g : A → B) (o : Option A) (y : B) → option_map g o ≡ Some y → (x : A) × ((o ≡ Some x) × (g x ≡ y))
mapped-some g None y e = absurd (cc)
mapped-some g (Some x) y e = (x, (refl, same_Some (g x) y e))

-- each branch has the plan of its case
abbrev pub AreBranches : Planning → Prog → List Case → List Branch → Type 0
AreBranches plan left cs next = AllZip (λ (c : Case) (b : Branch). branch_for plan left c ≡ Some b) cs next

-- a branch has the plan of its case, and its value
pub record IsBranch (plan : Planning) (left : Prog) (c : Case) (b : Branch) : Type 0 where
  pub plan_so : plan left c.1 ≡ Some b.tree
  pub value_so : b.value ≡ c.0

pub is-branch : (plan : Planning) (left : Prog) (c : Case) (b : Branch) → branch_for plan left c ≡ Some b → IsBranch plan left c b
is-branch plan left c b e =
    let made = mapped-some (branch_to c.0) (plan left c.1) b e in
    record {
      plan_so = made.1.0 ∙ ap (λ (d : Branch). Some d.tree) made.1.1;
      value_so = sym (ap (λ (d : Branch). d.value) made.1.1);
    }

module _ (agent : Agent) where
  -- the plan begins with a way that may be followed, and has a plan of so many steps for each of its cases
  pub record Begins (n : ℕ) (p : Prog) (values : Values) (t : Tree) : Type 0 where
    pub way : Way
    pub next : List Branch
    pub among : Among (plain_ways agent values Must p) way
    pub branches : AreBranches (first_plan agent n) way.left (cases agent values way.label) next
    pub is : t ≡ tree.Step way.label way.left next

  pub begins : (n : ℕ) (p : Prog) (values : Values) (t : Tree) → final agent values Must p ≡ false → first_plan agent (suc n) p values ≡ Some t → Begins n p values t
  begins n p values t e h =
      let found = first-among (step_for agent (first_plan agent n) values) (followed agent p values) t (sym (first-goes agent n (p, values) e) ∙ h) in
      let way = found.0 in
      let plans = map (branch_for (first_plan agent n) way.left) (cases agent values way.label) in
      let made = mapped-some (tree.Step way.label way.left) (all_some plans) t found.1.1 in
      record {
        way = way;
        next = made.0;
        among = (among-filter is_followed (plain_ways agent values Must p) way found.1.0).0;
        branches = all-there (branch_for (first_plan agent n) way.left) (cases agent values way.label) made.0 made.1.0;
        is = sym made.1.1;
      }

  -- where the program may end, the plan is done
  pub is-done : (n : ℕ) (p : Prog) (values : Values) (t : Tree) → final agent values Must p ≡ true → first_plan agent n p values ≡ Some t → t ≡ tree.Done
  is-done n p values t e h = same_Some t tree.Done (sym h ∙ first-ends agent n (p, values) e)

  -- and else there is none without a step
  pub none-at-once : (p : Prog) (values : Values) → final agent values Must p ≡ false → first_plan agent zero p values ≡ None
  unfolding first_plan
  none-at-once p values e = ap (λ b. if b then Some tree.Done else None) e

  -- ---- the plan that a search finds

  -- a plan of at most so many steps in a row
  pub record IsFirst (depth : ℕ) (p : Prog) (values : Values) (t : Tree) : Type 0 where
    pub height : ℕ
    pub within : height ≤ depth
    pub first : first_plan agent height p values ≡ Some t

  from-first : (n more k : ℕ) (p : Prog) (values : Values) (t : Tree) → plan_from agent n more p values ≡ Some (k, t) → (k < n + more) × (first_plan agent k p values ≡ Some t)
  from-first n zero k p values t e = absurd (cc)
  from-first n (suc more) k p values t e = go (first_plan agent n p values) refl e (from-first (n + 1) more k p values t)
    where
      go : (o : Option Tree) → first_plan agent n p values ≡ o → option_or (option_map (λ u. (n, u)) o) (plan_from agent (n + 1) more p values) ≡ Some (k, t)
          → (plan_from agent (n + 1) more p values ≡ Some (k, t) → (k < n + 1 + more) × (first_plan agent k p values ≡ Some t))
          → (k < n + suc more) × (first_plan agent k p values ≡ Some t)
      go None is h later = let r = later h in ((let below = r.0 in omega arith), r.1)
      go (Some u) is h later =
          let pair = same_Some (n, u) (k, t) h in
          let same : n ≡ k = ap (λ (x : ℕ × Tree). x.0) pair in
          let plan : u ≡ t = ap (λ (x : ℕ × Tree). x.1) pair in
          ((omega arith), subst (λ j. first_plan agent j p values ≡ Some t) same (is ∙ ap Some plan))

  least-first : (depth : ℕ) (p : Prog) (values : Values) (k : ℕ) (t : Tree) → least_plan agent depth p values ≡ Some (k, t) → IsFirst depth p values t
  unfolding least_plan
  least-first depth p values k t e =
      let found = from-first 0 (depth + 1) k p values t e in
      record { height = k; within = (let below = found.0 in omega arith); first = found.1 }

  -- the plan that was found, or another
  abbrev plan-or : Tree → Planned → Tree
  plan-or u (Found t) = t
  plan-or u _ = u

  abbrev is-found : Planned → Bool
  is-found (Found t) = true
  is-found _ = false

  small-is : (u t : Tree) → if_small u ≡ Found t → u ≡ t
  small-is u t h = go (nat_lt most_steps (steps u)) h
    where
      go : (b : Bool) → (if b then Large else Found u) ≡ Found t → u ≡ t
      go true e = let none : false ≡ true = ap is-found e in absurd (cc)
      go false e = ap (plan-or u) e

  pub found-first : (depth fuel : ℕ) (p : Prog) (values : Values) (t : Tree) → planned agent depth fuel p values ≡ Found t → IsFirst depth p values t
  unfolding planned
  found-first depth fuel p values t h = go (nat_lt fuel (plan_work agent depth p values)) (least_plan agent depth p values) refl h
    where
      go : (b : Bool) (o : Option (ℕ × Tree)) → least_plan agent depth p values ≡ o
          → (if b then Fuel else option_map_or (λ (found : ℕ × Tree). if_small found.1) o Absent) ≡ Found t → IsFirst depth p values t
      go true o is e = let none : false ≡ true = ap is-found e in absurd (cc)
      go false None is e = let none : false ≡ true = ap is-found e in absurd (cc)
      go false (Some (k, u)) is e = least-first depth p values k t (is ∙ ap (λ v. Some (k, v)) (small-is u t e))
