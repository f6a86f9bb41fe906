-- What an index tells of the first items of a list.
use Rattle.std.proofs.Common.{◌≡◌, ℕ, zero, suc, ◌+◌, ◌<◌, ◌≤◌, Bool, true, false, List, [], ◌∷◌, length, take, length-take-le, Option, Some, None, refl, sym, ap, subst, ◌∙◌, cond, ltb, arith}
use Rattle.std.specs.Prelude.{position, take_while}
use Rattle.std.specs.List.{position_from, prefix_len}
use Rattle.std.proofs.lemmas.Iterator.Adapters.{position_from-zero}
use Rattle.std.proofs.lemmas.Bool.Decides.{nat_tests}
use Rattle.std.proofs.lemmas.List.Sums.{prefix_len-le-length}
use Rattle.golog_tree.specs.declared.draft.DraftTheory.{DraftTheory}
use Rattle.golog_theory.specs.declared.index.Numbers.{Numbers}
use Rattle.golog_theory.specs.declared.index.Index.{Index}
use Rattle.golog_theory.specs.Before.{before}
use Rattle.golog_theory.specs.Index.{number_at, below, FindsBelow, IsIndexUpTo}

below-some : (k limit : ℕ) → k < limit → Some k ≡ below limit (Some k)
below-some k limit lt = grind (arith, nat_tests)

below-none : (k limit : ℕ) → limit ≤ k → None ≡ below limit (Some k)
below-none k limit le = grind (arith, nat_tests)

-- no item is numbered below the first
position_from-low : {T : Type 0} (test : T → Bool) (k limit : ℕ) (items : List T) → limit ≤ k → None ≡ below limit (position_from test k items)
position_from-low test k limit [] le = refl
position_from-low test k limit (item ∷ items) le =
    step (test item) (position_from test (k + 1) items) (position_from-low test (k + 1) limit items (omega arith))
  where
    step : (b : Bool) (rest : Option ℕ) → None ≡ below limit rest → None ≡ below limit (cond b (Some k) rest)
    step true rest e = below-none k limit le
    step false rest e = e

-- the first that passes among the first items is the first of all, where that is among them
position_from-take : {T : Type 0} (test : T → Bool) (k n : ℕ) (items : List T) → position_from test k (take n items) ≡ below (k + n) (position_from test k items)
position_from-take test k zero items =
    let le : k + 0 ≤ k = omega arith in
    position_from-low test k (k + 0) items le
position_from-take test k (suc n) [] = refl
position_from-take test k (suc n) (item ∷ items) =
    let e : k + 1 + n ≡ k + suc n = omega arith in
    step (test item) (position_from test (k + 1) (take n items)) (position_from test (k + 1) items)
    (position_from-take test (k + 1) n items ∙ ap (λ limit. below limit (position_from test (k + 1) items)) e)
  where
    step : (b : Bool) (first all : Option ℕ) → first ≡ below (k + suc n) all → cond b (Some k) first ≡ below (k + suc n) (cond b (Some k) all)
    step true first all e = let lt : k < k + suc n = omega arith in below-some k (k + suc n) lt
    step false first all e = e

position-take : {T : Type 0} (test : T → Bool) (n : ℕ) (items : List T) → position test (take n items) ≡ below n (position test items)
position-take test n items =
    let zero : 0 + n ≡ n = omega arith in
    position_from-zero test (take n items) ∙ position_from-take test 0 n items
    ∙ ap (λ limit. below limit (position_from test 0 items)) zero
    ∙ ap (below n) (sym (position_from-zero test items))

below-below : (m n : ℕ) (o : Option ℕ) → m ≤ n → below m (below n o) ≡ below m o
below-below m n None le = refl
below-below m n (Some k) le = grind (arith, nat_tests)

-- an index of a list finds what is among its first items
cut : {T : Type 0} (test : List ℕ → T → Bool) (numbers : Numbers) (p : T → Bool) (items : List T) → FindsBelow test numbers items → FindsBelow test numbers (take_while p items)
cut test numbers p items finds word =
    let le = prefix_len-le-length p items in
    let count : length (take_while p items) ≡ prefix_len p items = length-take-le (prefix_len p items) items le in
    ap (λ limit. below limit (number_at numbers word)) count
    ∙ sym (below-below (prefix_len p items) (length items) (number_at numbers word) le)
    ∙ ap (below (prefix_len p items)) (finds word)
    ∙ sym (position-take (test word) (prefix_len p items) items)

-- an index up to a theory is one up to its first items
pub index-before : (index : Index) (place : ℕ) (theory : DraftTheory) → IsIndexUpTo index theory → IsIndexUpTo index (before place theory)
unfolding before
index-before index place theory finds = record {
  sorts = cut _ index.sorts _ theory.sorts finds.sorts;
  constants = cut _ index.constants _ theory.sorts finds.constants;
  devices = cut _ index.devices _ theory.devices finds.devices;
  fluents = cut _ index.fluents _ theory.fluents finds.fluents;
  actions = cut _ index.actions _ theory.actions finds.actions;
}
