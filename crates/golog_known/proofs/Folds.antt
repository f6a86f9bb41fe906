-- The truth of conditions that hold lists, and lists taken one by one.
use Rattle.std.proofs.Common.{◌≡◌, ℕ, suc, zero, ◌+◌, ◌<◌, ◌≤◌, subst, List, [], ◌∷◌, ◌++◌, map, length, take, get_or, refl, sym, ap, ◌∙◌, arith, add-one}
use Rattle.std.proofs.lemmas.List.{map-append, take_all}
use Rattle.std.proofs.Math.Seq.{take-suc}
use Rattle.std.specs.List.{range_with_len}
use Rattle.std.specs.Prelude.{slice_set}
use denote.Param.Weighed.{most, at_most}
use Rattle.golog_tree.specs.declared.agent.Agent.{Agent}
use Rattle.golog_tree.specs.declared.cond.Truth.{Truth}
use Rattle.golog_tree.specs.declared.cond.Truth.TheVariants.{Yes, No, Unknown}
use Rattle.golog_tree.specs.declared.cond.Cond.{Cond}
use Rattle.golog_tree.specs.declared.cond.Cond.TheVariants as cond
use Rattle.golog_tree.specs.Ground.{sort_size}
use Rattle.golog_semantics.specs.Truth.{Env, Values, both, either, and_of, or_of, truth_of, cond_step, term_step}
use Rattle.golog_semantics.proofs.CondByParts as conds

pub map-map : {A B C : Type 0} (f : A → B) (g : B → C) (xs : List A) → map g (map f xs) ≡ map (λ x. g (f x)) xs
map-map f g [] = refl
map-map f g (x ∷ xs) = ap (λ ys. g (f x) ∷ ys) (map-map f g xs)

module _ (agent : Agent) (values : Values) (cs : List Cond) (env : Env) where
  pub truth_of-And : truth_of agent values (cond.And cs) env ≡ and_of (map (λ c. truth_of agent values c env) cs)
  truth_of-And =
      ap (λ (f : Env → Truth). f env) (conds.fold-and (Env → Truth) (Env → ℕ) (cond_step agent values) (term_step agent values) cs)
      ∙ ap and_of (map-map (truth_of agent values) (λ c. c env) cs)

  pub truth_of-Or : truth_of agent values (cond.Or cs) env ≡ or_of (map (λ c. truth_of agent values c env) cs)
  truth_of-Or =
      ap (λ (f : Env → Truth). f env) (conds.fold-or (Env → Truth) (Env → ℕ) (cond_step agent values) (term_step agent values) cs)
      ∙ ap or_of (map-map (truth_of agent values) (λ c. c env) cs)

both_assoc : (a b c : Truth) → both (both a b) c ≡ both a (both b c)
both_assoc Unknown Unknown Yes = refl
both_assoc _ _ _ = refl

pub both-Yes : (t : Truth) → both t Yes ≡ t
both-Yes Yes = refl
both-Yes No = refl
both-Yes Unknown = refl

either-No : (t : Truth) → either t No ≡ either No t
either-No Yes = refl
either-No No = refl
either-No Unknown = refl

either_assoc : (a b c : Truth) → either (either a b) c ≡ either a (either b c)
either_assoc No No Yes = refl
either_assoc No Unknown Yes = refl
either_assoc Unknown No Yes = refl
either_assoc Unknown Unknown Yes = refl
either_assoc _ _ _ = refl

pub and_of-push : (ts : List Truth) (t : Truth) → and_of (ts ++ t ∷ []) ≡ both (and_of ts) t
and_of-push [] t = both-Yes t
and_of-push (u ∷ ts) t = ap (both u) (and_of-push ts t) ∙ sym (both_assoc u (and_of ts) t)

or_of-push : (ts : List Truth) (t : Truth) → or_of (ts ++ t ∷ []) ≡ either (or_of ts) t
or_of-push [] t = either-No t
or_of-push (u ∷ ts) t = ap (either u) (or_of-push ts t) ∙ sym (either_assoc u (or_of ts) t)

range-push : (a n : ℕ) → range_with_len a (n + 1) ≡ range_with_len a n ++ (a + n) ∷ []
range-push a zero = let e : a ≡ a + 0 = omega arith in ap (λ x. x ∷ []) e
range-push a (suc n) =
    let k : suc n + 1 ≡ suc (n + 1) = omega arith in
    let e : a + 1 + n ≡ a + suc n = omega arith in
    rw k (ap (λ xs. a ∷ xs) (range-push (a + 1) n ∙ ap (λ x. range_with_len (a + 1) n ++ x ∷ []) e))

-- what is false makes false, and what is true makes true, whatever comes behind
false-stays : (u t s : Truth) → (t ≡ No → s ≡ No) → both u t ≡ No → both u s ≡ No
false-stays Yes t s h e = h e
false-stays No t s h e = refl
false-stays Unknown Yes s h e = absurd (cc)
false-stays Unknown No s h e = ap (both Unknown) (h refl)
false-stays Unknown Unknown s h e = absurd (cc)

true-stays : (u t s : Truth) → (t ≡ Yes → s ≡ Yes) → either u t ≡ Yes → either u s ≡ Yes
true-stays Yes t s h e = refl
true-stays No Yes s h e = ap (either No) (h refl)
true-stays No No s h e = absurd (cc)
true-stays No Unknown s h e = absurd (cc)
true-stays Unknown Yes s h e = ap (either Unknown) (h refl)
true-stays Unknown No s h e = absurd (cc)
true-stays Unknown Unknown s h e = absurd (cc)

module _ {A : Type 0} (f : A → Truth) where
  and_of-took : (n : ℕ) (xs : List A) → and_of (map f (take n xs)) ≡ No → and_of (map f xs) ≡ No
  and_of-took zero xs e = absurd (cc)
  and_of-took (suc n) [] e = e
  and_of-took (suc n) (x ∷ xs) e = false-stays (f x) (and_of (map f (take n xs))) (and_of (map f xs)) (and_of-took n xs) e

  or_of-took : (n : ℕ) (xs : List A) → or_of (map f (take n xs)) ≡ Yes → or_of (map f xs) ≡ Yes
  or_of-took zero xs e = absurd (cc)
  or_of-took (suc n) [] e = e
  or_of-took (suc n) (x ∷ xs) e = true-stays (f x) (or_of (map f (take n xs))) (or_of (map f xs)) (or_of-took n xs) e

module _ (f : ℕ → Truth) where
  pub and_of-some : (a k n : ℕ) → k ≤ n → and_of (map f (range_with_len a k)) ≡ No → and_of (map f (range_with_len a n)) ≡ No
  and_of-some a zero n h e = absurd (cc)
  and_of-some a (suc k) zero h e = absurd (omega arith)
  and_of-some a (suc k) (suc n) h e =
      false-stays (f a) (and_of (map f (range_with_len (a + 1) k))) (and_of (map f (range_with_len (a + 1) n))) (and_of-some (a + 1) k n (omega arith)) e

  pub or_of-some : (a k n : ℕ) → k ≤ n → or_of (map f (range_with_len a k)) ≡ Yes → or_of (map f (range_with_len a n)) ≡ Yes
  or_of-some a zero n h e = absurd (cc)
  or_of-some a (suc k) zero h e = absurd (omega arith)
  or_of-some a (suc k) (suc n) h e =
      true-stays (f a) (or_of (map f (range_with_len (a + 1) k))) (or_of (map f (range_with_len (a + 1) n))) (or_of-some (a + 1) k n (omega arith)) e

-- one more item
module _ {A : Type 0} (f : A → Truth) where
  and_of-map-push : (xs : List A) (x : A) → and_of (map f (xs ++ x ∷ [])) ≡ both (and_of (map f xs)) (f x)
  and_of-map-push xs x = ap and_of (map-append f xs (x ∷ [])) ∙ and_of-push (map f xs) (f x)

  or_of-map-push : (xs : List A) (x : A) → or_of (map f (xs ++ x ∷ [])) ≡ either (or_of (map f xs)) (f x)
  or_of-map-push xs x = ap or_of (map-append f xs (x ∷ [])) ∙ or_of-push (map f xs) (f x)

  pub and_of-take : (xs : List A) (i : ℕ) (d : A) → i < length xs → and_of (map f (take (i + 1) xs)) ≡ both (and_of (map f (take i xs))) (f (get_or xs i d))
  and_of-take xs i d h = rw (add-one, take-suc xs i d h) (and_of-map-push (take i xs) (get_or xs i d))

  pub or_of-take : (xs : List A) (i : ℕ) (d : A) → i < length xs → or_of (map f (take (i + 1) xs)) ≡ either (or_of (map f (take i xs))) (f (get_or xs i d))
  or_of-take xs i d h = rw (add-one, take-suc xs i d h) (or_of-map-push (take i xs) (get_or xs i d))

-- one more constant
module _ (f : ℕ → Truth) where
  pub and_of-range : (n : ℕ) → and_of (map f (range_with_len 0 (n + 1))) ≡ both (and_of (map f (range_with_len 0 n))) (f n)
  and_of-range n = let z : 0 + n ≡ n = omega arith in rw (range-push, z) (and_of-map-push f (range_with_len 0 n) n)

  pub or_of-range : (n : ℕ) → or_of (map f (range_with_len 0 (n + 1))) ≡ either (or_of (map f (range_with_len 0 n))) (f n)
  or_of-range n = let z : 0 + n ≡ n = omega arith in rw (range-push, z) (or_of-map-push f (range_with_len 0 n) n)

pub item_smaller : {X : Type 0} (μ : X → ℕ) (xs : List X) (i : ℕ) (x : X) → x ≡ get_or xs i x → i < length xs → μ x ≤ most μ xs
item_smaller μ xs i x e h = subst (λ y. μ y ≤ most μ xs) (sym e) (at_most μ xs i x h)

-- some of the items settle it
module _ (agent : Agent) (values : Values) (cs : List Cond) (env : Env) (n : ℕ) where
  pub some-And : and_of (map (λ c. truth_of agent values c env) (take n cs)) ≡ No → No ≡ truth_of agent values (cond.And cs) env
  some-And e = sym (truth_of-And agent values cs env ∙ and_of-took (λ c. truth_of agent values c env) n cs e)

  pub some-Or : or_of (map (λ c. truth_of agent values c env) (take n cs)) ≡ Yes → Yes ≡ truth_of agent values (cond.Or cs) env
  some-Or e = sym (truth_of-Or agent values cs env ∙ or_of-took (λ c. truth_of agent values c env) n cs e)

-- some of the constants settle it
module _ (agent : Agent) (values : Values) (x sort : ℕ) (body : Cond) (env : Env) (k : ℕ) where
  pub some-ForAll : k ≤ sort_size agent sort → and_of (map (λ c. truth_of agent values body (slice_set env x c)) (range_with_len 0 k)) ≡ No → No ≡ truth_of agent values (cond.ForAll x sort body) env
  some-ForAll h e =
      sym (ap (λ (f : Env → Truth). f env) (conds.fold-all (Env → Truth) (Env → ℕ) (cond_step agent values) (term_step agent values) x sort body)
      ∙ and_of-some (λ c. truth_of agent values body (slice_set env x c)) 0 k (sort_size agent sort) h e)

  pub some-ForSome : k ≤ sort_size agent sort → or_of (map (λ c. truth_of agent values body (slice_set env x c)) (range_with_len 0 k)) ≡ Yes → Yes ≡ truth_of agent values (cond.ForSome x sort body) env
  some-ForSome h e =
      sym (ap (λ (f : Env → Truth). f env) (conds.fold-some (Env → Truth) (Env → ℕ) (cond_step agent values) (term_step agent values) x sort body)
      ∙ or_of-some (λ c. truth_of agent values body (slice_set env x c)) 0 k (sort_size agent sort) h e)

-- all items were taken
module _ (agent : Agent) (values : Values) (cs : List Cond) (env : Env) (n : ℕ) (t : Truth) where
  pub all-And : t ≡ and_of (map (λ c. truth_of agent values c env) (take n cs)) → length cs ≤ n → t ≡ truth_of agent values (cond.And cs) env
  all-And e h =
      e ∙ ap (λ xs. and_of (map (λ c. truth_of agent values c env) xs)) (take_all n cs h) ∙ sym (truth_of-And agent values cs env)

  pub all-Or : t ≡ or_of (map (λ c. truth_of agent values c env) (take n cs)) → length cs ≤ n → t ≡ truth_of agent values (cond.Or cs) env
  all-Or e h =
      e ∙ ap (λ xs. or_of (map (λ c. truth_of agent values c env) xs)) (take_all n cs h) ∙ sym (truth_of-Or agent values cs env)
