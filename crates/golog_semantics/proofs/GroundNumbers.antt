-- A ground thing stands at its number: no two numbers have the same one.
use Rattle.std.proofs.Common.{◌≡◌, ℕ, zero, suc, ◌+◌, ◌-◌, ◌*◌, ◌/◌, ◌%◌, ◌<◌, List, [], ◌∷◌, ◌++◌, length, map, take, refl, sym, ap, ◌∙◌, subst, Some, arith, inl, inr, zero-add, add-zero}
use Rattle.std.proofs.lemmas.List.Sums.{sum_by-cons}
use Rattle.std.proofs.Math.Nat.{add_assoc}
use Rattle.std.specs.Prelude.{slice_get, sum_by, option_map}
use Rattle.std.specs.List.{range_with_len}
use Rattle.std.proofs.Math.Arith.{mod-mul}
use Rattle.std.proofs.Math.Nat.{mod-lt, mod-one, mod-eq_of_lt}
use Rattle.std.proofs.lemmas.Option.{slice_get-map}
use Rattle.std.proofs.lemmas.List.FromFn.{length-map-range_with_len}
use Rattle.std.proofs.lemmas.Bool.{cases_lt}
use Rattle.std.proofs.lemmas.List.{length-map}
use Rattle.golog_tree.specs.declared.agent.Agent.{Agent}
use Rattle.golog_tree.specs.Ground.{AreWithin, product, sizes, place_of, args_of, args_at, number_of, action_no, action_args, Ground, all_from, ground_actions}

pub factors : (n m : ℕ) → 0 < n * m → (0 < n) × (0 < m)
factors zero m h = absurd (omega arith)
factors (suc n) zero h = absurd (omega arith)
factors (suc n) (suc m) h = (omega arith, omega arith)

-- the place of the arguments at a place
place-args : (ns : List ℕ) (p : ℕ) → 0 < product ns → place_of ns (args_of ns p) ≡ p % product ns
place-args [] p h = sym (mod-one p)
place-args (n ∷ ns) p h =
    let both : (0 < n) × (0 < product ns) = factors n (product ns) h in
    ap (λ x. (p / product ns) % n * product ns + x) (place-args ns p both.1) ∙ sym (mod-mul p both.0 both.1)

-- each argument is below its size
args-within : (ns : List ℕ) (p : ℕ) → 0 < product ns → AreWithin ns (args_of ns p)
args-within [] p h = tt
args-within (n ∷ ns) p h =
    let both : (0 < n) × (0 < product ns) = factors n (product ns) h in
    (mod-lt (p / product ns) both.0, args-within ns p both.1)

module _ {A : Type 0} where
  pub slice_get-left : (xs ys : List A) (i : ℕ) → i < length xs → slice_get (xs ++ ys) i ≡ slice_get xs i
  slice_get-left [] ys i h = absurd (omega arith)
  slice_get-left (x ∷ xs) ys zero h = refl
  slice_get-left (x ∷ xs) ys (suc i) h = slice_get-left xs ys i (omega arith)

  pub slice_get-right : (xs ys : List A) (i j : ℕ) → i ≡ length xs + j → slice_get (xs ++ ys) i ≡ slice_get ys j
  slice_get-right [] ys i j h = ap (slice_get ys) (h ∙ zero-add j)
  slice_get-right (x ∷ xs) ys zero j h = absurd (omega arith)
  slice_get-right (x ∷ xs) ys (suc i) j h = slice_get-right xs ys i j (omega arith)

pub some-same : {A : Type 0} (a b : A) → Some a ≡ Some b → a ≡ b
some-same a b e = cc

pub slice_get-range : (a n i : ℕ) → i < n → slice_get (range_with_len a n) i ≡ Some (a + i)
slice_get-range a zero i h = absurd (omega arith)
slice_get-range a (suc n) zero h = ap Some (sym (add-zero a))
slice_get-range a (suc n) (suc i) h = slice_get-range (a + 1) n i (omega arith) ∙ ap Some (let k : a + 1 + i ≡ a + suc i = omega arith in k)

module _ (agent : Agent) where
  -- the ground things of one item
  abbrev ground_of : ℕ → List ℕ → List Ground
  ground_of first sorts = map (λ place. (first, args_of (sizes agent sorts) place)) (range_with_len 0 (product (sizes agent sorts)))

  -- what stands at a number of the things of the items from the first on
  pub record StandsAt (items : List (List ℕ)) (first a i : ℕ) (args : List ℕ) : Type 0 where
    pub at : ℕ
    pub is : i ≡ first + at
    pub inside : at < length items
    pub within : AreWithin (sizes agent (args_at items at)) args
    pub number : number_of agent items at args ≡ a

  stands-here : (sorts : List ℕ) (items : List (List ℕ)) (first a : ℕ) → a < product (sizes agent sorts) → StandsAt (sorts ∷ items) first a first (args_of (sizes agent sorts) a)
  stands-here sorts items first a h = record {
    at = 0;
    is = sym (add-zero first);
    inside = omega arith;
    within = args-within (sizes agent sorts) a (omega arith);
    number = zero-add _ ∙ place-args (sizes agent sorts) a (omega arith) ∙ mod-eq_of_lt h;
  }

  pub stands : (items : List (List ℕ)) (first a i : ℕ) (args : List ℕ) → slice_get (all_from agent first items) a ≡ Some (i, args) → StandsAt items first a i args
  stands [] first a i args e = absurd (cc)
  stands (sorts ∷ items) first a i args e =
      elim (cases_lt a (product (sizes agent sorts))) [
        | inl h ↦ here h
        | inr h ↦ later (a - product (sizes agent sorts)) (omega arith) (stands items (first + 1) (a - product (sizes agent sorts)) i args (sym (past (a - product (sizes agent sorts)) (omega arith)) ∙ e))
      ]
    where
      count : length (ground_of first sorts) ≡ product (sizes agent sorts)
      count = length-map-range_with_len (λ place. (first, args_of (sizes agent sorts) place)) 0 (product (sizes agent sorts))

      past : (b : ℕ) → a ≡ product (sizes agent sorts) + b → slice_get (all_from agent first (sorts ∷ items)) a ≡ slice_get (all_from agent (first + 1) items) b
      past b h = slice_get-right (ground_of first sorts) (all_from agent (first + 1) items) a b (h ∙ ap (λ n. n + b) (sym count))

      found : a < product (sizes agent sorts) → slice_get (all_from agent first (sorts ∷ items)) a ≡ Some (first, args_of (sizes agent sorts) a)
      found h =
          slice_get-left (ground_of first sorts) (all_from agent (first + 1) items) a (subst (λ n. a < n) (sym count) h)
          ∙ slice_get-map (λ place. (first, args_of (sizes agent sorts) place)) (range_with_len 0 (product (sizes agent sorts))) a
          ∙ ap (option_map (λ place. (first, args_of (sizes agent sorts) place))) (slice_get-range 0 (product (sizes agent sorts)) a h ∙ ap Some (zero-add a))

      here : a < product (sizes agent sorts) → StandsAt (sorts ∷ items) first a i args
      here h =
          subst (λ (g : Ground). StandsAt (sorts ∷ items) first a g.0 g.1) (some-same _ _ (sym (found h) ∙ e)) (stands-here sorts items first a h)

      later : (b : ℕ) → a ≡ product (sizes agent sorts) + b → StandsAt items (first + 1) b i args → StandsAt (sorts ∷ items) first a i args
      later b h s = record {
        at = suc s.at;
        is = s.is ∙ (let k : first + 1 + s.at ≡ first + suc s.at = omega arith in k);
        inside = let k : s.at < length items = s.inside in omega arith;
        within = s.within;
        number =
            ap (λ n. n + place_of (sizes agent (args_at items s.at)) args) (sum_by-cons (λ sorts. product (sizes agent sorts)) sorts (take s.at items))
            ∙ add_assoc (product (sizes agent sorts)) (sum_by (λ sorts. product (sizes agent sorts)) (take s.at items)) (place_of (sizes agent (args_at items s.at)) args)
            ∙ ap (λ n. product (sizes agent sorts) + n) s.number ∙ sym h;
      }

  -- an action and its arguments, by their number
  pub record ActionIs (action item : ℕ) (args : List ℕ) : Type 0 where
    pub inside : item < length agent.actions
    pub within : AreWithin (sizes agent (args_at (action_args agent) item)) args
    pub number : action_no agent item args ≡ action

  pub action_is : (action item : ℕ) (args : List ℕ) → slice_get (ground_actions agent) action ≡ Some (item, args) → ActionIs action item args
  action_is action item args e =
      let s = stands (action_args agent) 0 action item args e in
      let k : item ≡ s.at = s.is ∙ zero-add s.at in
      subst (λ i. ActionIs action i args) (sym k) (record {
        inside = let l : s.at < length (action_args agent) = s.inside in omega (arith, length-map agent.actions (λ item. item.args));
        within = s.within;
        number = s.number;
      })
