-- The number of an action with arguments of its sorts is that of a ground action.
use Rattle.std.proofs.Common.{◌≡◌, ℕ, zero, suc, ◌+◌, ◌*◌, ◌≤◌, ◌<◌, true, List, [], ◌∷◌, ◌++◌, map, Option, Some, None, sym, ap, ◌∙◌, subst, arith}
use Rattle.std.specs.Prelude.{⊤, nat_lt, slice_get, sum_by, take, option_map, option_and_then}
use Rattle.std.specs.List.{range_with_len}
use Rattle.std.proofs.lemmas.Nat.{mul-le}
use Rattle.std.proofs.lemmas.List.Sums.{sum_by-cons}
use Rattle.golog_tree.specs.declared.agent.Agent.{Agent}
use Rattle.golog_tree.specs.declared.agent.ActionItem.{ActionItem}
use Rattle.golog_tree.specs.declared.cond.Arg.{Arg}
use Rattle.golog_tree.specs.declared.cond.Arg.TheVariants.{Const, Var}
use Rattle.golog_tree.specs.Ground.{Ground, action_args, action_no, all_from, args_of, ground_actions, number_of, place_of, product, sizes, sort_size}
use Rattle.golog_semantics.specs.Truth.{arg_value, env_of}
use Rattle.golog_semantics.specs.Fits.{args_fit, nothing_bound}
use Rattle.golog_semantics.specs.Journal.{action_item}
use Rattle.golog_semantics.proofs.Tests.{and_cases}

-- as many as sizes, each below its own
abbrev Within : List ℕ → List ℕ → Type 0
Within [] [] = ⊤
Within [] (a ∷ args) = ⊥
Within (n ∷ ns) [] = ⊥
Within (n ∷ ns) (a ∷ args) = (a < n) × Within ns args

place-within : (ns args : List ℕ) → Within ns args → place_of ns args < product ns
place-within [] [] h = omega arith
place-within [] (a ∷ args) h = absurd h
place-within (n ∷ ns) [] h = absurd h
place-within (n ∷ ns) (a ∷ args) h =
    let k = place-within ns args h.1 in
    let m : suc a * product ns ≤ n * product ns = mul-le (suc a) (product ns) n (product ns) h.0 (omega arith) in
    omega arith

get-range : {A : Type 0} (f : ℕ → A) (xs : List A) (a n k : ℕ) → k < n → slice_get (map f (range_with_len a n) ++ xs) k ≡ Some (f (a + k))
get-range f xs a zero k l = absurd (omega arith)
get-range f xs a (suc n) zero l = ap (λ j. Some (f j)) (let e : a ≡ a + 0 = omega arith in e)
get-range f xs a (suc n) (suc k) l = get-range f xs (a + 1) n k (omega arith) ∙ ap (λ j. Some (f j)) (let e : (a + 1) + k ≡ a + suc k = omega arith in e)

get-past : {A : Type 0} (f : ℕ → A) (xs : List A) (a n k j : ℕ) → j ≡ n + k → slice_get (map f (range_with_len a n) ++ xs) j ≡ slice_get xs k
get-past f xs a zero k j e = ap (slice_get xs) (omega arith)
get-past f xs a (suc n) k zero e = absurd (omega arith)
get-past f xs a (suc n) k (suc j) e = get-past f xs (a + 1) n k j (omega arith)

module _ (agent : Agent) where
  -- the ground thing at the number of an item is one of that item
  item_at : (items : List (List ℕ)) (from item : ℕ) (sorts args : List ℕ) → slice_get items item ≡ Some sorts → Within (sizes agent sorts) args
      → option_map (λ (g : Ground). g.0) (slice_get (all_from agent from items) (number_of agent items item args)) ≡ Some (from + item)
  item_at [] from item sorts args e h = absurd (cc)
  item_at (s ∷ items) from zero sorts args e h =
      let is : s ≡ sorts = cc in
      let w = subst (λ z. Within (sizes agent z) args) (sym is) h in
      ap (option_map (λ (g : Ground). g.0)) (get-range (λ place. (from, args_of (sizes agent s) place)) (all_from agent (from + 1) items) 0 (product (sizes agent s)) (number_of agent (s ∷ items) zero args) (let l = place-within (sizes agent s) args w in omega arith))
      ∙ ap Some (let k : from ≡ from + 0 = omega arith in k)
  item_at (s ∷ items) from (suc item) sorts args e h =
      let f = λ (z : List ℕ). product (sizes agent z) in
      let t : sum_by f (take (suc item) (s ∷ items)) ≡ f s + sum_by f (take item items) = sum_by-cons f s (take item items) in
      ap (option_map (λ (g : Ground). g.0)) (get-past (λ place. (from, args_of (sizes agent s) place)) (all_from agent (from + 1) items) 0 (product (sizes agent s)) (number_of agent items item args) (number_of agent (s ∷ items) (suc item) args) (omega (arith, t)))
      ∙ item_at items (from + 1) item sorts args e h
      ∙ ap Some (let k : (from + 1) + item ≡ from + suc item = omega arith in k)

  args_within : (sorts : List ℕ) (args : List Arg) → args_fit agent nothing_bound sorts args ≡ true → Within (sizes agent sorts) (map (arg_value (env_of [])) args)
  args_within [] [] h = tt
  args_within [] (arg ∷ args) h = absurd (cc)
  args_within (sort ∷ sorts) [] h = absurd (cc)
  args_within (sort ∷ sorts) (Const c ∷ args) h =
      let k = and_cases (nat_lt c (sort_size agent sort)) (args_fit agent nothing_bound sorts args) h in
      (grind (arith, k.0), args_within sorts args k.1)
  args_within (sort ∷ sorts) (Var x ∷ args) h = absurd (cc)

  args_of_action : (items : List ActionItem) (action : ℕ) (item : ActionItem) → slice_get items action ≡ Some item → slice_get (map (λ (i : ActionItem). i.args) items) action ≡ Some item.args
  args_of_action [] action item e = absurd (cc)
  args_of_action (i ∷ items) zero item e = let h : i ≡ item = cc in ap (λ (z : ActionItem). Some z.args) h
  args_of_action (i ∷ items) (suc action) item e = args_of_action items action item e

  found : {A : Type 0} (get : ℕ → Option A) (o : Option Ground) (n : ℕ) → option_map (λ (g : Ground). g.0) o ≡ Some n → option_and_then (λ (g : Ground). get g.0) o ≡ get n
  found get None n e = absurd (cc)
  found get (Some g) n e = ap get (let h : g.0 ≡ n = cc in h)

  -- the item of the action at the number of an action that fits
  pub action_item-no : (action : ℕ) (item : ActionItem) (args : List Arg) → slice_get agent.actions action ≡ Some item → args_fit agent nothing_bound item.args args ≡ true
      → action_item agent (action_no agent action (map (arg_value (env_of [])) args)) ≡ Some item
  action_item-no action item args e h =
      found (slice_get agent.actions) (slice_get (ground_actions agent) (action_no agent action (map (arg_value (env_of [])) args))) action
      (item_at (action_args agent) 0 action item.args (map (arg_value (env_of [])) args) (args_of_action agent.actions action item e) (args_within item.args args h)
      ∙ ap Some (let k : 0 + action ≡ action = omega arith in k))
      ∙ e
