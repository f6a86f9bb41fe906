-- Whether a plan goes through, by its branches; and that each plan that is found does.
use Rattle.std.proofs.Common.{◌≡◌, ℕ, zero, suc, ◌+◌, ◌<◌, ◌≤◌, Bool, true, false, ◌&&◌, ◌==◌, Some, List, [], ◌∷◌, length, map, drop, get_or, refl, sym, ap, ◌∙◌, subst}
use Rattle.std.proofs.lemmas.Bool.{eq-eqb}
use Rattle.std.proofs.lemmas.List.{at_drop_all, at_drop_more}
use Rattle.golog_base.proofs.Bools.{and-false}
use Rattle.golog_tree.specs.declared.agent.Agent.{Agent}
use Rattle.golog_tree.specs.declared.prog.Label.{Label}
use Rattle.golog_tree.specs.declared.prog.Prog.{Prog}
use Rattle.golog_semantics.specs.declared.Mode.TheVariants.{Must}
use Rattle.golog_semantics.specs.Same.{same_way}
use Rattle.golog_semantics.specs.Search.{final, plain_ways}
use Rattle.golog_semantics.specs.Truth.{Values}
use Rattle.golog_semantics.specs.WellFormed.{WellFormed}
use Rattle.golog_semantics.proofs.Among.{among-any, any-among}
use Rattle.golog_semantics.proofs.BestRuns.{same_way-eq, same_way-same}
use Rattle.golog_semantics.proofs.Tests.{and_both}
use Rattle.golog_ways.specs.Searched.{IsSearched}
use Rattle.golog_branch.specs.declared.cases.Case.{Case as AnyCase}
use Rattle.golog_branch.specs.declared.tree.Branch.{Branch}
use Rattle.golog_branch.specs.declared.tree.Tree.{Tree}
use Rattle.golog_branch.specs.declared.tree.Tree.TheVariants as tree
use Rattle.golog_branch.specs.Going.{Going, GoingBranch, all_go, branch_going, goes, goes_step, is_step, way_to}
use Rattle.golog_branch.specs.Levels.{IsWay, case_of}
use Rattle.golog_branch.specs.Plans.{Planning, first_plan}
use Rattle.golog_branch.specs.Trees.{Case, cases}
use Rattle.golog_branch.proofs.Folded.{fold-done, fold-step}
use Rattle.golog_branch.proofs.Leading.{way-stays}
use Rattle.golog_branch.proofs.PlanParts.{AreBranches, begins, is-branch, is-done, none-at-once}

module _ (agent : Agent) where
  pub goes-done : (p : Prog) (values : Values) → goes agent tree.Done p values ≡ final agent values Must p
  goes-done p values = ap (λ (g : Going). g p values) (fold-done Going GoingBranch (goes_step agent) (λ b. (b.value, b.tree)))

  pub goes-on : (label : Label) (left : Prog) (next : List Branch) (p : Prog) (values : Values)
      → goes agent (tree.Step label left next) p values ≡ (is_step agent label left p values && all_go (map (branch_going agent) next) left (cases agent values label))
  goes-on label left next p values =
      ap (λ (g : Going). g p values) (fold-step Going GoingBranch (goes_step agent) (λ b. (b.value, b.tree)) label left next)

  module _ (t : Tree) (label : Label) (left : Prog) (next : List Branch) (is : t ≡ tree.Step label left next) (p : Prog) (values : Values) where
    goes-in : goes agent t p values ≡ (is_step agent label left p values && all_go (map (branch_going agent) next) left (cases agent values label))
    goes-in = ap (λ (u : Tree). goes agent u p values) is ∙ goes-on label left next p values

    -- its first step is none there
    pub goes-nowhere : false ≡ is_step agent label left p values → false ≡ goes agent t p values
    goes-nowhere none = sym (goes-in ∙ ap (λ (b : Bool). b && all_go (map (branch_going agent) next) left (cases agent values label)) (sym none))

    -- its first step is one there, so its branches decide
    pub goes-by : true ≡ is_step agent label left p values → all_go (map (branch_going agent) next) left (cases agent values label) ≡ goes agent t p values
    goes-by so = sym (goes-in ∙ ap (λ (b : Bool). b && all_go (map (branch_going agent) next) left (cases agent values label)) (sym so))

  -- ---- branch by branch

  uneven : (next : List Branch) (cs : List AnyCase) (left : Prog) → (length next ≡ length cs → ⊥) → all_go (map (branch_going agent) next) left (map case_of cs) ≡ false
  uneven [] [] left other = absurd (other refl)
  uneven [] (c ∷ cs) left other = refl
  uneven (b ∷ next) [] left other = refl
  uneven (b ∷ next) (c ∷ cs) left other =
      ap (λ (u : Bool). b.value == c.value && goes agent b.tree left c.state && u) (uneven next cs left (λ e. other (ap suc e)))
      ∙ and-false (b.value == c.value && goes agent b.tree left c.state)

  pub goes-uneven : (next : List Branch) (cs : List AnyCase) (left : Prog) → (length next ≡ length cs → ⊥) → false ≡ all_go (map (branch_going agent) next) left (map case_of cs)
  goes-uneven next cs left other = sym (uneven next cs left other)

  module _ (next : List Branch) (cs : List AnyCase) (left : Prog) where
    -- the branches from one on go through
    abbrev pub from : ℕ → Bool
    from i = all_go (map (branch_going agent) (drop i next)) left (map case_of (drop i cs))

    from-next : (i : ℕ) (b : Branch) (c : AnyCase) → i < length next → b ≡ get_or next i b → i < length cs → c ≡ get_or cs i c
        → from i ≡ (b.value == c.value && goes agent b.tree left c.state && from (i + 1))
    from-next i b c inside is within same =
        at_drop_more (λ (bs : List Branch). all_go (map (branch_going agent) bs) left (map case_of (drop i cs))) next i b inside
        ∙ ap (λ (d : Branch). all_go (map (branch_going agent) (d ∷ drop (i + 1) next)) left (map case_of (drop i cs))) (sym is)
        ∙ at_drop_more (λ (ds : List AnyCase). all_go (map (branch_going agent) (b ∷ drop (i + 1) next)) left (map case_of ds)) cs i c within
        ∙ ap (λ (d : AnyCase). all_go (map (branch_going agent) (b ∷ drop (i + 1) next)) left (map case_of (d ∷ drop (i + 1) cs))) (sym same)

    -- a branch decides, or those behind it do
    pub from-none : (i : ℕ) (b : Branch) (c : AnyCase) → i < length next → b ≡ get_or next i b → i < length cs → c ≡ get_or cs i c
        → false ≡ (b.value == c.value && goes agent b.tree left c.state) → from i ≡ false
    from-none i b c inside is within same none = from-next i b c inside is within same ∙ ap (λ (u : Bool). u && from (i + 1)) (sym none)

    pub from-more : (i : ℕ) (b : Branch) (c : AnyCase) → i < length next → b ≡ get_or next i b → i < length cs → c ≡ get_or cs i c
        → true ≡ (b.value == c.value && goes agent b.tree left c.state) → from i ≡ from (i + 1)
    from-more i b c inside is within same so = from-next i b c inside is within same ∙ ap (λ (u : Bool). u && from (i + 1)) (sym so)

    pub from-end : (i : ℕ) → length next ≤ i → length cs ≤ i → from i ≡ true
    from-end i more few =
        at_drop_all (λ (bs : List Branch). all_go (map (branch_going agent) bs) left (map case_of (drop i cs))) next i more
        ∙ at_drop_all (λ (ds : List AnyCase). all_go (map (branch_going agent) []) left (map case_of ds)) cs i few

  module _ (formed : WellFormed agent) where
    -- a certain step leaves what a search may reach
    pub step-way : (p : Prog) (values : Values) → IsSearched agent p values → (label : Label) (left : Prog) → is_step agent label left p values ≡ true → IsWay agent (way_to label left)
    step-way p values searched label left e =
        let found = among-any (same_way (way_to label left)) (plain_ways agent values Must p) e in
        let same : way_to label left ≡ found.0 = same_way-eq (way_to label left) found.0 found.1.1 in
        let stays = way-stays agent formed p values searched found.0 found.1.0 in
        subst (IsWay agent) (sym same) (record { program = stays.left_fits; blockless = stays.left_free; label = stays.label_fits })

    pub way-there : (p : Prog) (values : Values) → IsSearched agent p values → (label : Label) (left : Prog) → true ≡ is_step agent label left p values → IsWay agent (way_to label left)
    way-there p values searched label left e = step-way p values searched label left (sym e)

  -- ---- a plan that is found

  branches-go : (plan : Planning) (left : Prog) → ((values : Values) (t : Tree) → plan left values ≡ Some t → goes agent t left values ≡ true)
      → (cs : List Case) (next : List Branch) → AreBranches plan left cs next → all_go (map (branch_going agent) next) left cs ≡ true
  branches-go plan left each [] [] h = refl
  branches-go plan left each [] (b ∷ next) h = absurd h
  branches-go plan left each (c ∷ cs) [] h = absurd h
  branches-go plan left each (c ∷ cs) (b ∷ next) h =
      let so = is-branch plan left c b h.0 in
      let going = goes agent b.tree left c.1 in
      let rest = all_go (map (branch_going agent) next) left cs in
      and_both (b.value == c.0 && going) rest
      (and_both (b.value == c.0) going (eq-eqb b.value c.0 so.value_so) (each c.1 b.tree so.plan_so)) (branches-go plan left each cs next h.1)

  pub goes-found : (n : ℕ) (p : Prog) (values : Values) (t : Tree) → first_plan agent n p values ≡ Some t → goes agent t p values ≡ true
  goes-found zero p values t h = go (final agent values Must p) refl
    where
      go : (b : Bool) → final agent values Must p ≡ b → goes agent t p values ≡ true
      go true e = ap (λ (u : Tree). goes agent u p values) (is-done agent zero p values t e h) ∙ goes-done p values ∙ e
      go false e = let none = sym (none-at-once agent p values e) ∙ h in absurd (cc)
  goes-found (suc n) p values t h = go (final agent values Must p) refl (goes-found n)
    where
      go : (b : Bool) → final agent values Must p ≡ b → ((q : Prog) (vs : Values) (u : Tree) → first_plan agent n q vs ≡ Some u → goes agent u q vs ≡ true)
          → goes agent t p values ≡ true
      go true e later = ap (λ (u : Tree). goes agent u p values) (is-done agent (suc n) p values t e h) ∙ goes-done p values ∙ e
      go false e later =
          let begun = begins agent n p values t e h in
          let way = begun.way in
          let going = all_go (map (branch_going agent) begun.next) way.left (cases agent values way.label) in
          ap (λ (u : Tree). goes agent u p values) begun.is ∙ goes-on way.label way.left begun.next p values
          ∙ and_both (is_step agent way.label way.left p values) going
          (any-among (same_way (way_to way.label way.left)) (plain_ways agent values Must p) way begun.among (same_way-same way))
          (branches-go (first_plan agent n) way.left (later way.left) (cases agent values way.label) begun.next begun.branches)
