-- The least number for which there is a plan, and the work of the search for it.
use Rattle.std.proofs.Common.{◌≡◌, ℕ, zero, suc, ◌+◌, ◌-◌, ◌<◌, ◌≤◌, true, false, if◌then◌else◌, Option, Some, None, length, refl, sym, ap, ◌∙◌, subst, inl, inr, arith}
use Rattle.std.specs.Prelude.{nat_lt, sum_by}
use Rattle.std.specs.List.{range_with_len}
use Rattle.std.specs.Option.{option_map, option_map_or, option_or}
use Rattle.std.proofs.lemmas.Bool.{cases_lt, le-ltb, lt-ltb}
use Rattle.std.proofs.lemmas.List.{map-id}
use Rattle.std.proofs.lemmas.Option.{same_Some}
use Rattle.std.proofs.lemmas.List.FromFn.{sum_by-map-range_with_len_more}
use Rattle.golog_tree.specs.declared.agent.Agent.{Agent}
use Rattle.golog_tree.specs.declared.prog.Prog.{Prog}
use Rattle.golog_semantics.specs.declared.Mode.TheVariants.{Must}
use Rattle.golog_semantics.specs.Truth.{Values}
use Rattle.golog_semantics.specs.Search.{final}
use Rattle.golog_branch.specs.declared.tree.Tree.{Tree}
use Rattle.golog_branch.specs.declared.tree.Tree.TheVariants as tree
use Rattle.golog_branch.specs.declared.tree.Tree.TheOpen.{Done}
use Rattle.golog_branch.specs.declared.tree.Tree.TheFolds.{fold-roll-Tree}
use Rattle.golog_branch.specs.declared.tree.Planned.{Planned}
use Rattle.golog_branch.specs.declared.tree.Planned.TheVariants.{Found, Absent, Fuel, Large}
use Rattle.golog_branch.specs.Plans.{first_plan, if_small, least_plan, plan_from, plan_level, plan_work, planned}
use Rattle.golog_branch.specs.Trees.{steps, steps_step}

steps-done : steps tree.Done ≡ 0
steps-done = ap steps (sym tree.rolls-Done) ∙ fold-roll-Tree ℕ ℕ steps_step (λ b. b.tree) Done

module _ (agent : Agent) (p : Prog) (values : Values) where
  abbrev size : ℕ → ℕ
  size k = length (plan_level agent p values k)

  -- how many states the levels before this one have
  abbrev pub looked : ℕ → ℕ
  looked n = sum_by (λ k. length (plan_level agent p values k)) (range_with_len 0 n)

  pub looked-more : (n : ℕ) → looked (n + 1) ≡ looked n + length (plan_level agent p values n)
  looked-more n =
      ap (sum_by size) (sym (map-id (range_with_len 0 (n + 1))))
      ∙ sum_by-map-range_with_len_more size (λ k. k) 0 n n (omega arith)
      ∙ ap (λ ks. sum_by size ks + size n) (map-id (range_with_len 0 n))

  looked-up : (n j : ℕ) → n ≤ j → looked n ≤ looked j
  looked-up n zero h = let e : 0 ≡ n = omega arith in subst (λ k. looked k ≤ looked 0) e (omega arith)
  looked-up n (suc j) h = elim (cases_lt n (suc j)) [ inl l ↦ below l (looked-up n j (omega arith)) | inr l ↦ same l ]
    where
      same : suc j ≤ n → looked n ≤ looked (suc j)
      same l = let e : suc j ≡ n = omega arith in subst (λ k. looked k ≤ looked (suc j)) e (omega arith)

      below : n < suc j → looked n ≤ looked j → looked n ≤ looked (suc j)
      below l one =
          let more = looked-more j in
          let e : j + 1 ≡ suc j = omega arith in
          subst (λ k. looked n ≤ looked k) e (omega arith)

  -- the number of a plan, where some plan is of this one or a greater
  from-least : (n more k : ℕ) (t : Tree) → plan_from agent n more p values ≡ Some (k, t) → n ≤ k
  from-least n zero k t e = absurd (cc)
  from-least n (suc more) k t e = go (from-least (n + 1) more k t) (first_plan agent n p values) e
    where
      go : (plan_from agent (n + 1) more p values ≡ Some (k, t) → n + 1 ≤ k) → (o : Option Tree)
          → option_or (option_map (λ u. (n, u)) o) (plan_from agent (n + 1) more p values) ≡ Some (k, t) → n ≤ k
      go below None h = let up = below h in omega arith
      go below (Some u) h = let same : n ≡ k = ap (λ (x : ℕ × Tree). x.0) (same_Some (n, u) (k, t) h) in omega arith

  pub none-here : (n more : ℕ) → first_plan agent n p values ≡ None → plan_from agent n (suc more) p values ≡ plan_from agent (n + 1) more p values
  none-here n more e = ap (λ o. option_or (option_map (λ u. (n, u)) o) (plan_from agent (n + 1) more p values)) e

  some-here : (n more : ℕ) (t : Tree) → first_plan agent n p values ≡ Some t → plan_from agent n (suc more) p values ≡ Some (n, t)
  some-here n more t e = ap (λ o. option_or (option_map (λ u. (n, u)) o) (plan_from agent (n + 1) more p values)) e

  module _ (depth fuel : ℕ) where
    -- what the search comes to, by the least plan
    abbrev comes : Option (ℕ × Tree) → Planned
    comes o =
        if nat_lt fuel (looked (option_map_or (λ (found : ℕ × Tree). found.0) o depth)) then Fuel
        else option_map_or (λ (found : ℕ × Tree). if_small found.1) o Absent

    comes-to : planned agent depth fuel p values ≡ comes (least_plan agent depth p values)
    unfolding planned plan_work
    comes-to = refl

    pub found-at : (n more : ℕ) (t : Tree) → least_plan agent depth p values ≡ plan_from agent n (suc more) p values
        → first_plan agent n p values ≡ Some t → looked n ≤ fuel → planned agent depth fuel p values ≡ if_small t
    found-at n more t least first few =
        comes-to ∙ ap comes (least ∙ some-here n more t first) ∙ ap (λ b. if b then Fuel else if_small t) (le-ltb fuel (looked n) few)

    pub absent : least_plan agent depth p values ≡ None → looked depth ≤ fuel → planned agent depth fuel p values ≡ Absent
    absent least few = comes-to ∙ ap comes least ∙ ap (λ b. if b then Fuel else Absent) (le-ltb fuel (looked depth) few)

    pub fuel-out : (n more : ℕ) → least_plan agent depth p values ≡ plan_from agent n more p values → n ≤ depth → fuel < looked n
        → planned agent depth fuel p values ≡ Fuel
    fuel-out n more least deep much = comes-to ∙ ap comes least ∙ go (plan_from agent n more p values) refl
      where
        go : (o : Option (ℕ × Tree)) → plan_from agent n more p values ≡ o → comes o ≡ Fuel
        go None e =
            let up = looked-up n depth deep in
            ap (λ b. if b then Fuel else Absent) (lt-ltb fuel (looked depth) (omega arith))
        go (Some (k, t)) e =
            let up = looked-up n k (from-least n more k t e) in
            ap (λ b. if b then Fuel else if_small t) (lt-ltb fuel (looked k) (omega arith))

    pub ends-at-once : final agent values Must p ≡ true → planned agent depth fuel p values ≡ Found tree.Done
    unfolding least_plan first_plan
    ends-at-once e =
        let more : depth + 1 ≡ suc depth = omega arith in
        found-at 0 depth tree.Done (ap (λ k. plan_from agent 0 k p values) more) (ap (λ b. if b then Some tree.Done else None) e) (omega arith)
        ∙ ap (λ k. if nat_lt 10000 k then Large else Found tree.Done) steps-done

    pub begins : final agent values Must p ≡ false → least_plan agent depth p values ≡ plan_from agent 1 depth p values
    unfolding least_plan first_plan
    begins e =
        let more : depth + 1 ≡ suc depth = omega arith in
        ap (λ k. plan_from agent 0 k p values) more ∙ none-here 0 depth (ap (λ b. if b then Some tree.Done else None) e)

-- no plan is of at most so many steps, and what is left of the fuel
pub record IsLooking (agent : Agent) (p : Prog) (values : Values) (depth fuel n room : ℕ) : Type 0 where
  pub least : least_plan agent depth p values ≡ plan_from agent (n + 1) (depth - n) p values
  pub spent : room + looked agent p values n ≡ fuel

module _ (agent : Agent) (p : Prog) (values : Values) (depth fuel n room : ℕ) where
  pub looks-on : final agent values Must p ≡ false → IsLooking agent p values depth fuel 0 fuel
  looks-on e = record {
    least = begins agent p values depth fuel e ∙ (let same : depth ≡ depth - 0 = omega arith in ap (λ k. plan_from agent 1 k p values) same);
    spent = omega arith;
  }

  module _ (inside : n < depth) (h : IsLooking agent p values depth fuel n room) (width : ℕ) (level : width ≡ length (plan_level agent p values n)) (few : width ≤ room) where
    more : depth - n ≡ suc (depth - (n + 1))
    more = omega arith

    least : least_plan agent depth p values ≡ plan_from agent (n + 1) (suc (depth - (n + 1))) p values
    least = h.least ∙ ap (λ k. plan_from agent (n + 1) k p values) more

    looked-here : room - width + looked agent p values (n + 1) ≡ fuel
    looked-here =
        let spent = h.spent in
        let next = looked-more agent p values n in
        omega arith

    pub finds : (t : Tree) → first_plan agent (n + 1) p values ≡ Some t → planned agent depth fuel p values ≡ if_small t
    finds t first = found-at agent p values depth fuel (n + 1) (depth - (n + 1)) t least first (let e = looked-here in omega arith)

    pub looks-further : first_plan agent (n + 1) p values ≡ None → IsLooking agent p values depth fuel (n + 1) (room - width)
    looks-further none = record {
      least = least ∙ none-here agent p values (n + 1) (depth - (n + 1)) none;
      spent = looked-here;
    }

    pub lacks : first_plan agent (n + 1) p values ≡ None → n + 1 < depth → room - width < length (plan_level agent p values (n + 1)) → planned agent depth fuel p values ≡ Fuel
    lacks none deep many =
        let on = looks-further none in
        let spent = looked-here in
        let next = looked-more agent p values (n + 1) in
        fuel-out agent p values depth fuel (n + 1 + 1) (depth - (n + 1)) on.least (omega arith) (omega arith)

  pub looks-no-further : n ≡ depth → IsLooking agent p values depth fuel n room → planned agent depth fuel p values ≡ Absent
  looks-no-further end h =
      let none : depth - n ≡ 0 = omega arith in
      let spent = h.spent in
      let all : looked agent p values n ≡ looked agent p values depth = ap (looked agent p values) end in
      absent agent p values depth fuel (h.least ∙ ap (λ k. plan_from agent (n + 1) k p values) none) (omega arith)
