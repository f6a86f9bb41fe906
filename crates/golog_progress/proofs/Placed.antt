-- The ground fluents of a fluent of a well-formed agent stand together.
use Rattle.std.proofs.Common.{◌≡◌, ℕ, zero, suc, ◌+◌, ◌<◌, ◌≤◌, Bool, true, Some, List, [], ◌∷◌, length, map, take, get_or, refl, sym, ap, ◌∙◌, subst, arith}
use Rattle.std.specs.Prelude.{slice_get, sum_by}
use Rattle.std.specs.List.{list_all}
use Rattle.std.proofs.lemmas.Bool.{ltb-true}
use Rattle.std.proofs.lemmas.List.{length-map}
use Rattle.std.proofs.lemmas.List.Sums.{sum_by-cons}
use Rattle.golog_tree.specs.declared.agent.Agent.{Agent}
use Rattle.golog_tree.specs.declared.agent.FluentItem.{FluentItem}
use Rattle.golog_tree.specs.Ground.{AreWithin, args_at, fluent_args, ground_count, ground_fluents, number_of, place_of, product, size_at, sizes, sort_size}
use Rattle.golog_tree.proofs.Numbers.{length-all_from}
use Rattle.golog_tree.proofs.Places.{place-below}
use Rattle.golog_tree.proofs.Decoded.{args_at-get_or}
use Rattle.golog_semantics.specs.Fits.{is_sort}
use Rattle.golog_semantics.specs.WellFormed.{WellFormed, sort_fits, are_sorts, fluent_item_fits}
use Rattle.golog_semantics.proofs.Words.{and-left, and-right}
use Rattle.golog_semantics.proofs.SortsStay.{has_at}
use Rattle.golog_progress.specs.Effects.{ArePlaces}

pub all-at : {A : Type 0} (p : A → Bool) (xs : List A) (k : ℕ) (x : A) → list_all p xs ≡ true → slice_get xs k ≡ Some x → p x ≡ true
all-at p [] k x h e = absurd (cc)
all-at p (y ∷ xs) zero x h e = let same : y ≡ x = cc in ap p (sym same) ∙ and-left (p y) (list_all p xs) h
all-at p (y ∷ xs) (suc k) x h e = all-at p xs k x (and-right (p y) (list_all p xs) h) e

-- the item at an index
pub item-at : {A : Type 0} (xs : List A) (k : ℕ) (x : A) → k < length xs → x ≡ get_or xs k x → slice_get xs k ≡ Some x
item-at [] k x h e = absurd (omega arith)
item-at (y ∷ xs) zero x h e = ap Some (sym e)
item-at (y ∷ xs) (suc k) x h e = item-at xs k x (omega arith) e

pub args-of-item : (items : List FluentItem) (k : ℕ) (item : FluentItem) → slice_get items k ≡ Some item → args_at (map (λ f. f.args) items) k ≡ item.args
args-of-item [] k item e = absurd (cc)
args-of-item (f ∷ items) zero item e = let same : f ≡ item = cc in ap (λ x. x.args) same
args-of-item (f ∷ items) (suc k) item e = args-of-item items k item e

pub zeros-count : (n : ℕ) → n ≤ 3 → n ≡ length {A = ℕ} (take n (0 ∷ 0 ∷ 0 ∷ []))
zeros-count zero h = refl
zeros-count (suc zero) h = refl
zeros-count (suc (suc zero)) h = refl
zeros-count (suc (suc (suc zero))) h = refl
zeros-count (suc (suc (suc (suc n)))) h = absurd (omega arith)

zeros-place : (ns : List ℕ) → length ns ≤ 3 → place_of ns (take (length ns) (0 ∷ 0 ∷ 0 ∷ [])) ≡ 0
zeros-place [] h = refl
zeros-place (a ∷ []) h = omega arith
zeros-place (a ∷ b ∷ []) h = omega arith
zeros-place (a ∷ b ∷ c ∷ []) h = omega arith
zeros-place (a ∷ b ∷ c ∷ d ∷ ns) h = absurd (omega arith)

module _ (agent : Agent) where
  abbrev count : List ℕ → ℕ
  count sorts = product (sizes agent sorts)

  taken : (items : List (List ℕ)) (i : ℕ) → i < length items → sum_by count (take i items) + count (args_at items i) ≤ sum_by count items
  taken [] i h = absurd (omega arith)
  taken (x ∷ items) zero h = omega (arith, sum_by-cons count x items)
  taken (x ∷ items) (suc i) h = let r = taken items i (omega arith) in omega (arith, r, sum_by-cons count x items, sum_by-cons count x (take i items))

  module _ (fits : WellFormed agent) where
    size-pos : (sort : ℕ) → is_sort agent sort ≡ true → 0 < sort_size agent sort
    size-pos sort h =
        let r = has_at agent.sorts sort (ltb-true sort (length agent.sorts) h) in
        subst (λ o. 0 < size_at o) (sym r.is) (ltb-true 0 _ (all-at sort_fits agent.sorts sort r.item fits.sorts r.is))

    zeros-within : (ss : List ℕ) → are_sorts agent ss ≡ true → length ss ≤ 3 → AreWithin (sizes agent ss) (take (length ss) (0 ∷ 0 ∷ 0 ∷ []))
    zeros-within [] h few = tt
    zeros-within (a ∷ []) h few = (size-pos a (and-left (is_sort agent a) true h), tt)
    zeros-within (a ∷ b ∷ []) h few =
        let later = and-right (is_sort agent a) (are_sorts agent (b ∷ [])) h in
        (size-pos a (and-left (is_sort agent a) (are_sorts agent (b ∷ [])) h), (size-pos b (and-left (is_sort agent b) true later), tt))
    zeros-within (a ∷ b ∷ c ∷ []) h few =
        let later = and-right (is_sort agent a) (are_sorts agent (b ∷ c ∷ [])) h in
        let last = and-right (is_sort agent b) (are_sorts agent (c ∷ [])) later in
        (size-pos a (and-left (is_sort agent a) (are_sorts agent (b ∷ c ∷ [])) h), (size-pos b (and-left (is_sort agent b) (are_sorts agent (c ∷ [])) later), (size-pos c (and-left (is_sort agent c) true last), tt)))
    zeros-within (a ∷ b ∷ c ∷ d ∷ ss) h few = absurd (omega arith)

    -- a fluent of the agent, and the sorts of its arguments
    pub record FluentOf (fluent : ℕ) (item : FluentItem) : Type 0 where
      pub args : args_at (fluent_args agent) fluent ≡ item.args
      pub few : length item.args ≤ 3
      pub zeros : AreWithin (sizes agent item.args) (take (length item.args) (0 ∷ 0 ∷ 0 ∷ []))
      pub places : (first count : ℕ) → first ≡ number_of agent (fluent_args agent) fluent (take (length item.args) (0 ∷ 0 ∷ 0 ∷ [])) → count ≡ product (sizes agent item.args)
          → ArePlaces agent fluent first count

    pub fluent_of : (fluent : ℕ) (item : FluentItem) → fluent < length agent.fluents → slice_get agent.fluents fluent ≡ Some item → FluentOf fluent item
    fluent_of fluent item h e = record {
      args = args;
      few = few;
      zeros = zeros;
      places = λ first count f k. record {
        first_is = f ∙ ap (λ n. sum_by (λ ss. product (sizes agent ss)) (take fluent (fluent_args agent)) + n) zero-place ∙ (let r : sum_by (λ ss. product (sizes agent ss)) (take fluent (fluent_args agent)) + 0 ≡ sum_by (λ ss. product (sizes agent ss)) (take fluent (fluent_args agent)) = omega arith in r);
        count_is = k ∙ ap (λ ss. product (sizes agent ss)) (sym args);
        some = subst (λ n. 0 < n) (sym k) (let r : place_of (sizes agent item.args) (take (length item.args) (0 ∷ 0 ∷ 0 ∷ [])) < product (sizes agent item.args) = place-below _ _ zeros in omega arith);
        within =
            let r : sum_by (λ ss. product (sizes agent ss)) (take fluent (fluent_args agent)) + product (sizes agent (args_at (fluent_args agent) fluent)) ≤ ground_count agent (fluent_args agent) = taken (fluent_args agent) fluent inside in
            let l : length (ground_fluents agent) ≡ ground_count agent (fluent_args agent) = length-all_from agent (fluent_args agent) 0 in
            let s : first ≡ sum_by (λ ss. product (sizes agent ss)) (take fluent (fluent_args agent)) = f ∙ ap (λ n. sum_by (λ ss. product (sizes agent ss)) (take fluent (fluent_args agent)) + n) zero-place ∙ (let r : sum_by (λ ss. product (sizes agent ss)) (take fluent (fluent_args agent)) + 0 ≡ sum_by (λ ss. product (sizes agent ss)) (take fluent (fluent_args agent)) = omega arith in r) in
            let n : count ≡ product (sizes agent (args_at (fluent_args agent) fluent)) = k ∙ ap (λ ss. product (sizes agent ss)) (sym args) in
            omega arith;
      };
    }
      where
        args : args_at (fluent_args agent) fluent ≡ item.args
        args = args-of-item agent.fluents fluent item e

        inside : fluent < length (fluent_args agent)
        inside = subst (λ n. fluent < n) (sym (length-map agent.fluents (λ f. f.args))) h

        few : length item.args ≤ 3
        few = subst (λ xs. length xs ≤ 3) (sym (args_at-get_or (fluent_args agent) fluent) ∙ args) (fits.countable.fluent_arities fluent [] inside)

        zeros : AreWithin (sizes agent item.args) (take (length item.args) (0 ∷ 0 ∷ 0 ∷ []))
        zeros = zeros-within item.args (and-left (are_sorts agent item.args) (is_sort agent item.sort) (all-at (fluent_item_fits agent) agent.fluents fluent item fits.fluents e)) few

        zero-place : place_of (sizes agent (args_at (fluent_args agent) fluent)) (take (length item.args) (0 ∷ 0 ∷ 0 ∷ [])) ≡ 0
        zero-place =
            ap (λ ss. place_of (sizes agent ss) (take (length item.args) (0 ∷ 0 ∷ 0 ∷ []))) args
            ∙ ap (λ n. place_of (sizes agent item.args) (take n (0 ∷ 0 ∷ 0 ∷ []))) (sym (length-map item.args (sort_size agent)))
            ∙ zeros-place (sizes agent item.args) (omega (arith, length-map item.args (sort_size agent), few))
