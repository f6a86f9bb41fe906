-- Items that are given with the sorts of their arguments: how many ground things the first of them have.
use Rattle.std.proofs.Common.{◌≡◌, ℕ, suc, ◌+◌, ◌-◌, ◌<◌, ◌≤◌, List, [], ◌∷◌, ◌++◌, length, map, take, get_or, refl, sym, ap, ◌∙◌, subst, arith}
use Rattle.std.specs.Prelude.{All, replicate}
use Rattle.std.proofs.lemmas.List.{get_or-map, length-map}
use Rattle.std.proofs.lemmas.List.Sums.{sum_by_more, sum_by_more_le}
use Rattle.std.proofs.lemmas.List.FromFn.{get_or-map-range_with_len, length-map-range_with_len}
use Rattle.golog_tree.specs.declared.agent.Agent.{Agent}
use Rattle.golog_tree.specs.declared.ground.Ground.{Ground}
use Rattle.golog_tree.specs.Ground.{product, sizes, place_of, args_of, args_at, number_of, ground_count, firsts_of}
use Rattle.golog_tree.specs.Numbered.{IsGround}
use Rattle.golog_tree.proofs.Decoded.{args_at-get_or, is-ground}

module _ {T : Type 0} (agent : Agent) (f : T → List ℕ) (items : List T) where
  abbrev count : List ℕ → ℕ
  count sorts = product (sizes agent sorts)

  -- the item at a place, and the sorts of its arguments
  pub record IsItem (i : ℕ) (r : T) (sorts : List ℕ) : Type 0 where
    pub below : i < length items
    pub sorts_are : sorts ≡ f r
    pub is : r ≡ get_or items i r

  found : (i : ℕ) (r : T) (sorts : List ℕ) → IsItem i r sorts → get_or (map f items) i [] ≡ sorts
  found i r sorts at = get_or-map f items i r [] at.below ∙ ap f (sym at.is) ∙ sym at.sorts_are

  pub args_at-is : (i : ℕ) (r : T) (sorts : List ℕ) → IsItem i r sorts → args_at (map f items) i ≡ sorts
  args_at-is i r sorts at = args_at-get_or (map f items) i ∙ found i r sorts at

  pub few-at : (i : ℕ) (r : T) (sorts : List ℕ) → IsItem i r sorts → All (λ xs. length xs ≤ 3) (map f items) → length sorts ≤ 3
  few-at i r sorts at few =
      subst (λ xs. length xs ≤ 3) (found i r sorts at) (few i [] (omega (arith, at.below, length-map items f)))

  pub count-more : (i : ℕ) (r : T) (sorts : List ℕ) → IsItem i r sorts → (n k : ℕ)
      → n ≡ ground_count agent (take i (map f items)) → k ≡ product (sizes agent sorts)
      → n + k ≡ ground_count agent (take (i + 1) (map f items))
  count-more i r sorts at n k e h =
      let m = sum_by_more count (map f items) i [] (omega (arith, at.below, length-map items f)) in
      let c : k ≡ count (get_or (map f items) i []) = h ∙ ap count (sym (found i r sorts at)) in
      omega (arith, e, c, m)

  pub count-fits : (i : ℕ) (r : T) (sorts : List ℕ) → IsItem i r sorts → (n k : ℕ)
      → n ≡ ground_count agent (take i (map f items)) → k ≡ product (sizes agent sorts)
      → n + k ≤ ground_count agent (map f items)
  count-fits i r sorts at n k e h =
      let m = sum_by_more_le count (map f items) i [] (omega (arith, at.below, length-map items f)) in
      let c : k ≡ count (get_or (map f items) i []) = h ∙ ap count (sym (found i r sorts at)) in
      omega (arith, e, c, m)

  pub firsts-long : (firsts : List ℕ) → firsts ≡ firsts_of agent (map f items) → length firsts ≡ length items
  firsts-long firsts e =
      ap (λ xs. length xs) e
      ∙ length-map-range_with_len (λ item. ground_count agent (take item (map f items))) 0 (length (map f items))
      ∙ length-map items f

  pub first-is : (firsts : List ℕ) → firsts ≡ firsts_of agent (map f items) → (i d : ℕ) → i < length items
      → get_or firsts i d ≡ ground_count agent (take i (map f items))
  first-is firsts e i d below =
      ap (λ xs. get_or xs i d) e
      ∙ get_or-map-range_with_len (λ item. ground_count agent (take item (map f items))) 0 (length (map f items)) i i d
      (omega (arith, below, length-map items f)) (omega arith)

  pub number_of-is : (i : ℕ) (r : T) (sorts args : List ℕ) → IsItem i r sorts → (n k : ℕ)
      → n ≡ ground_count agent (take i (map f items)) → k ≡ place_of (sizes agent sorts) args
      → n + k ≡ number_of agent (map f items) i args
  number_of-is i r sorts args at n k e h =
      let p : k ≡ place_of (sizes agent (args_at (map f items) i)) args =
      h ∙ ap (λ xs. place_of (sizes agent xs) args) (sym (args_at-is i r sorts at)) in
      omega (arith, e, p)

  pub made : (i : ℕ) (r : T) (sorts : List ℕ) → IsItem i r sorts → (number place k : ℕ) (ground : Ground)
      → place < k → k ≡ product (sizes agent sorts)
      → number ≡ ground_count agent (take i (map f items)) + place
      → ground.item ≡ i → ground.count ≡ length sorts
      → ground.args ≡ args_of (sizes agent sorts) place ++ replicate (3 - length sorts) 0
      → IsGround agent (map f items) number ground
  made i r sorts at number place k ground l e n ei ec ea =
      let s : sorts ≡ args_at (map f items) i = sym (args_at-is i r sorts at) in
      let w : place < product (sizes agent sorts) = omega (arith, l, e) in
      is-ground agent (map f items) number i place ground (record {
        declared = omega (arith, at.below, length-map items f);
        within = subst (λ xs. place < product (sizes agent xs)) s w;
        number_is = n;
        item_is = ei;
        count_is = ec ∙ ap (λ xs. length xs) s;
        args_are = ea ∙ ap (λ xs. args_of (sizes agent xs) place ++ replicate (3 - length xs) 0) s;
      })
