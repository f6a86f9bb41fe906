-- Arrays that are filled from lists, one element after another.
use Rattle.std.proofs.Common.{◌≡◌, ℕ, suc, ◌+◌, ◌≤◌, ◌<◌, Bool, true, false, ◌||◌, ◌==◌, List, [], ◌∷◌, ◌++◌, length, take, set, get_or, refl, sym, ap, ◌∙◌, subst, arith, ◌⊎◌, inl, inr, take-suc, take-suc-set, get_or-set_same, get_or-set_other}
use Rattle.std.specs.Prelude.{All}
use Rattle.std.specs.List.{list_any}
use Rattle.std.proofs.lemmas.Bool.{cases_eq, eq-eqb, ne_eqb, or_right}
use Rattle.std.proofs.lemmas.List.Folds.{list_any_more}
use Rattle.std.proofs.lemmas.List.{length-map}
use Rattle.golog_base.proofs.Bools.{or-false}
use Rattle.golog_tree.specs.declared.agent.Agent.{Agent}
use Rattle.golog_tree.specs.Ground.{AreWithin, sizes, args_at, fluent_args, IsCountable}
use Rattle.golog_tree.proofs.Decoded.{args_at-get_or}
use Rattle.golog_semantics.proofs.CausesKeep.{within-length}

-- a test for each number: whether it is among the first of these
pub mark-more : (marks : List Bool) (xs : List ℕ) (i x : ℕ) → i < length xs → x ≡ get_or xs i 0 → x < length marks
    → ((d : ℕ) → d < 16 → get_or marks d false ≡ list_any (λ y. y == d) (take i xs))
    → (d : ℕ) → d < 16 → get_or (set marks x true) d false ≡ list_any (λ y. y == d) (take (i + 1) xs)
mark-more marks xs i x inside is small so_far d below = go (cases_eq d x)
  where
    more : list_any (λ y. y == d) (take (i + 1) xs) ≡ (list_any (λ y. y == d) (take i xs) || (x == d))
    more =
        list_any_more (λ y. y == d) xs i 0 inside
        ∙ ap (λ y. list_any (λ y. y == d) (take i xs) || (y == d)) (sym is)

    go : (d ≡ x) ⊎ (d ≡ x → ⊥) → get_or (set marks x true) d false ≡ list_any (λ y. y == d) (take (i + 1) xs)
    go (inl same) =
        subst (λ k. get_or (set marks x true) k false ≡ true) (sym same) (get_or-set_same marks x true false small)
        ∙ sym (more ∙ or_right (list_any (λ y. y == d) (take i xs)) (x == d) (eq-eqb x d (sym same)))
    go (inr other) =
        get_or-set_other marks x d true false other ∙ so_far d below
        ∙ sym (more ∙ ap (λ b. list_any (λ y. y == d) (take i xs) || b) (ne_eqb x d (λ e. other (sym e))) ∙ or-false (list_any (λ y. y == d) (take i xs)))

-- one more element of a list is written
pub fill-more : (array xs : List ℕ) (i x : ℕ) → i < length array → i < length xs → x ≡ get_or xs i 0 → take i array ≡ take i xs
    → take (i + 1) (set array i x) ≡ take (i + 1) xs
fill-more array xs i x room inside is so_far =
    let next : i + 1 ≡ suc i = omega arith in
    ap (λ n. take n (set array i x)) next ∙ take-suc-set array i x room ∙ ap (λ front. front ++ x ∷ []) so_far
    ∙ ap (λ y. take i xs ++ y ∷ []) is ∙ sym (take-suc xs i 0 inside) ∙ ap (λ n. take n xs) (sym next)

-- a fluent has three arguments at most
pub args-few : (agent : Agent) (fluent : ℕ) (xs : List ℕ) → IsCountable agent → fluent < length agent.fluents
    → AreWithin (sizes agent (args_at (fluent_args agent) fluent)) xs → length xs ≤ 3
args-few agent fluent xs countable inside w =
    let long = length-map agent.fluents (λ item. item.args) in
    let few : length (get_or (fluent_args agent) fluent []) ≤ 3 = countable.fluent_arities fluent [] (omega (arith, inside, long)) in
    let at = ap (λ sorts. length sorts) (args_at-get_or (fluent_args agent) fluent) in
    let l = within-length agent (args_at (fluent_args agent) fluent) xs w in
    omega (arith, few, at, l)

-- an item has three arguments at most
pub arity-few : (items : List (List ℕ)) (i : ℕ) → All (λ args. length args ≤ 3) items → i < length items → length (args_at items i) ≤ 3
arity-few items i all inside =
    let few : length (get_or items i []) ≤ 3 = all i [] inside in
    let at = ap (λ sorts. length sorts) (args_at-get_or items i) in
    omega (arith, few, at)
