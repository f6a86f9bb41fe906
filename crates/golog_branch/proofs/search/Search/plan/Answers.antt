use Rattle.std.proofs.Common.{◌≡◌, ◌+◌, List, [], ◌∷◌, ◌++◌, length, sym, ap, ◌∙◌, subst}
use Rattle.golog_branch.specs.declared.spot.Linked.{Linked}
use Rattle.golog_branch.specs.declared.spot.Spot.{Spot}
use Rattle.golog_branch.specs.Levels.{AreLevels}
use Rattle.golog_branch.specs.Plans.{first_plan}
use Rattle.golog_branch.proofs.search.Search.plan.Goals as goal

-- the last of one alone
last-alone : {A : Type 0} (xs : List A) (x y : A) → y ∷ [] ≡ xs ++ x ∷ [] → x ≡ y
last-alone [] x y e = cc
last-alone (z ∷ []) x y e = absurd (cc)
last-alone (z ∷ w ∷ xs) x y e = absurd (cc)

pub returns-in-Some : goal.returns-in-Some
returns-in-Some c = λ p values n h.
    let agent = c.args.planner.now.agent.now in
    let self = c.args.self.now in
    let levels = subst (λ (ls : List (List Linked)). AreLevels agent ((p, values) ∷ []) ls c.as_slice-2.result.now) (sym c.as_slice.ensures)
    (subst (λ (ss : List Spot). AreLevels agent ((p, values) ∷ []) self.levels ss) (sym c.as_slice-2.ensures) h.levels) in
    let table = c.in_ok-table.ensures ((p, values) ∷ []) levels in
    last-alone c.pop-plan.new.self c.in-Some.plan _ (sym table ∙ c.in-Some.ensures)
    ∙ ap (λ k. first_plan agent (k + 1) p values) (ap (λ (ls : List (List Linked)). length ls) c.as_slice.ensures ∙ h.count)

pub returns-in-None : goal.returns-in-None
returns-in-None c = λ p values n h.
    let agent = c.args.planner.now.agent.now in
    let self = c.args.self.now in
    let levels = subst (λ (ls : List (List Linked)). AreLevels agent ((p, values) ∷ []) ls c.as_slice-2.result.now) (sym c.as_slice.ensures)
    (subst (λ (ss : List Spot). AreLevels agent ((p, values) ∷ []) self.levels ss) (sym c.as_slice-2.ensures) h.levels) in
    let table = c.in_ok-table.ensures ((p, values) ∷ []) levels in
    let none = sym table ∙ c.in-None.ensures.0 in
    absurd (cc)
