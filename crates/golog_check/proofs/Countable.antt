-- A theory whose sums are in their limits can number its ground things.
use Rattle.std.proofs.Common.{◌≡◌, ℕ, zero, suc, ◌+◌, ◌*◌, ◌<◌, ◌≤◌, Bool, true, false, not, List, [], ◌∷◌, length, map, get_or, Some, Ok, refl, sym, ap, subst, ◌∙◌, arith}
use Rattle.std.specs.Prelude.{All, nat_lt, nat_le, sum_by, ℤ, pos, negsuc, int_lt, ◌+ℤ◌, ◌-ℤ◌, slice_get}
use Rattle.std.specs.List.{list_all}
use Rattle.std.proofs.lemmas.Bool.{ltb-true, ltb-false}
use Rattle.std.proofs.lemmas.Bool.Decides.{nat_tests}
use Rattle.std.proofs.lemmas.Int.{ints}
use Rattle.std.specs.Option.{option_map_or}
use Rattle.std.proofs.lemmas.List.{length-map, map-id}
use Rattle.std.proofs.lemmas.List.Sums.{sum_by-cons}
use Rattle.golog_tree.specs.declared.agent.Agent.{Agent}
use Rattle.golog_tree.specs.declared.agent.SortItem.{SortItem}
use Rattle.golog_tree.specs.declared.agent.FluentItem.{FluentItem}
use Rattle.golog_tree.specs.declared.agent.ActionItem.{ActionItem}
use Rattle.golog_tree.specs.declared.draft.DraftTheory.{DraftTheory}
use Rattle.golog_tree.specs.declared.draft.DraftSort.{DraftSort}
use Rattle.golog_tree.specs.declared.draft.DraftSort.TheVariants.{Range, Listed}
use Rattle.golog_tree.specs.declared.draft.DraftFluent.{DraftFluent}
use Rattle.golog_tree.specs.declared.draft.DraftAction.{DraftAction}
use Rattle.golog_tree.specs.declared.draft.DraftSense.{DraftSense}
use Rattle.golog_tree.specs.Ground.{item_size, to_count, product, sizes, ground_count, numbered, IsCountable}
use Rattle.golog_draft.specs.Drafts.{TheoryKeeps, draft_sort_keeps, draft_args_keep, draft_fluent_keeps, draft_action_keeps, draft_sense_keeps}
use Rattle.golog_semantics.proofs.Tests.{and_both, and_cases}
use Rattle.golog_check.specs.DeclaredItems.{HasFewSorts, sort_item, fluent_item, action_item}
use Rattle.golog_check.specs.Sums.{Counted, size_in, count_in, sum_from, fluent_counted, action_counted, fluent_sum, action_sum, AreSmall, HaveFewArgs}
use Rattle.golog_check.specs.Check.{bare}
use Rattle.golog_check.proofs.Readings.{past}

-- what a test finds of each item is so of what is made of each
pub all-mapped : {X Y : Type 0} (P : Y → Type 0) (f : X → Y) (p : X → Bool) → ((x : X) → p x ≡ true → P (f x))
    → (xs : List X) → list_all p xs ≡ true → All P (map f xs)
all-mapped P f p holds [] h = λ k d l. absurd (omega (arith, l))
all-mapped {X} {Y} P f p holds (x ∷ xs) h = λ k.
    elim k as (λ i. (d : Y) → i < length (map f (x ∷ xs)) → P (get_or (map f (x ∷ xs)) i d)) [
      | zero ↦ λ d l. holds x (and_cases (p x) (list_all p xs) h).0
      | suc i ↦ λ d l. all-mapped P f p holds xs (and_cases (p x) (list_all p xs) h).1 i d (omega (arith, l))
    ]

pub made : {X Y : Type 0} (q : Y → Bool) (f : X → Y) (p : X → Bool) → ((x : X) → p x ≡ true → q (f x) ≡ true)
    → (xs : List X) → list_all p xs ≡ true → list_all q (map f xs) ≡ true
made q f p holds [] h = refl
made q f p holds (x ∷ xs) h =
    let t = and_cases (p x) (list_all p xs) h in
    and_both (q (f x)) (list_all q (map f xs)) (holds x t.0) (made q f p holds xs t.1)

-- what a test finds of each item is so of the one of a number
pub all-get : {X : Type 0} (p : X → Bool) (xs : List X) → list_all p xs ≡ true → (n : ℕ) (x : X) → slice_get xs n ≡ Some x → p x ≡ true
all-get p [] h n x e = absurd (cc)
all-get p (y ∷ xs) h zero x e = let is : y ≡ x = cc in subst (λ z. p z ≡ true) is (and_cases (p y) (list_all p xs) h).0
all-get p (y ∷ xs) h (suc n) x e = all-get p xs (and_cases (p y) (list_all p xs) h).1 n x e

some-below : {X : Type 0} (xs : List X) (n : ℕ) (p : X → Bool) → option_map_or p (slice_get xs n) false ≡ true → n < length xs
some-below [] n p h = absurd (cc)
some-below (x ∷ xs) zero p h = omega arith
some-below (x ∷ xs) (suc n) p h = let l = some-below xs n p h in omega (arith, l)

-- where no item makes the sum pass its limit, the whole sum is within it
pub sum-within : (sorts : List SortItem) (limit sum : ℕ) (items : List Counted) → sum ≤ limit
    → (sum_from sorts limit sum items).outcome ≡ Ok tt
    → sum + sum_by (λ (item : Counted). count_in sorts item.0) items ≤ limit
sum-within sorts limit sum [] low h = omega (arith, low)
sum-within sorts limit sum ((args, at) ∷ items) low h =
    let t = past (nat_lt limit (sum + count_in sorts args)) _ at
    (sum_from sorts limit (sum + count_in sorts args) items) tt h in
    let less : sum + count_in sorts args ≤ limit = ltb-false limit (sum + count_in sorts args) t.none in
    let rest = sum-within sorts limit (sum + count_in sorts args) items less t.rest in
    let cons = sum_by-cons (λ (item : Counted). count_in sorts item.0) (args, at) items in
    omega (arith, rest, cons)

-- a sort has from 1 to 255 constants
range-few : (z : ℤ) → int_lt z (pos 1) ≡ false → int_lt (pos 255) z ≡ false → (0 < to_count z) × (to_count z ≤ 255)
range-few (pos n) h k = (grind (arith, ints), grind (arith, ints))
range-few (negsuc n) h k = absurd (grind (arith, ints))

pub sort-few : (sort : DraftSort) → draft_sort_keeps sort ≡ true
    → (0 < item_size (sort_item sort)) × (item_size (sort_item sort) ≤ 255)
sort-few (Range name low high at) h =
    let t = and_cases (not (int_lt high low)) (int_lt high (low +ℤ pos 255)) h in
    range-few (high -ℤ low +ℤ pos 1) (grind (arith, ints)) (grind (arith, ints))
sort-few (Listed name constants at) h =
    let t = and_cases (nat_lt 0 (length constants)) (nat_le (length constants) 255) h in
    (ltb-true 0 (length constants) t.0, grind (arith, nat_tests))

sort-some : (sorts : List DraftSort) → list_all draft_sort_keeps sorts ≡ true → (n : ℕ) → n < length sorts
    → 0 < size_in (map sort_item sorts) n
sort-some [] h n l = absurd (omega (arith, l))
sort-some (sort ∷ sorts) h zero l =
    (sort-few sort (and_cases (draft_sort_keeps sort) (list_all draft_sort_keeps sorts) h).0).0
sort-some (sort ∷ sorts) h (suc n) l =
    sort-some sorts (and_cases (draft_sort_keeps sort) (list_all draft_sort_keeps sorts) h).1 n (omega (arith, l))

times-some : (a b : ℕ) → 0 < a → 0 < b → 0 < a * b
times-some zero b h k = absurd (omega (arith, h))
times-some (suc a) zero h k = absurd (omega (arith, k))
times-some (suc a) (suc b) h k = omega arith

-- how many ground things there are is the sum over the items
pub all-counted : {X I : Type 0} (agent : Agent) (item : X → I) (args : I → List ℕ) (counted : X → Counted) → ((x : X) → args (item x) ≡ (counted x).0)
    → (xs : List X) → ground_count agent (map args (map item xs)) ≡ sum_by (λ (c : Counted). count_in agent.sorts c.0) (map counted xs)
all-counted agent item args counted same [] = refl
all-counted agent item args counted same (x ∷ xs) =
    sum_by-cons (λ sorts. product (sizes agent sorts)) (args (item x)) (map args (map item xs))
    ∙ ap (λ n. count_in agent.sorts (args (item x)) + n) (all-counted agent item args counted same xs)
    ∙ ap (λ sorts. count_in agent.sorts sorts + sum_by (λ (c : Counted). count_in agent.sorts c.0) (map counted xs)) (same x)
    ∙ sym (sum_by-cons (λ (c : Counted). count_in agent.sorts c.0) (counted x) (map counted xs))

module _ (theory : DraftTheory) (keeps : TheoryKeeps theory) where
  abbrev sorts : List SortItem
  sorts = map sort_item theory.sorts

  pub small : AreSmall (map sort_item theory.sorts)
  small = all-mapped (λ item. item_size item ≤ 255) sort_item draft_sort_keeps (λ sort h. (sort-few sort h).1)
      theory.sorts keeps.sorts

  pub few-sorts : HasFewSorts (map sort_item theory.sorts)
  few-sorts = record { sorts = subst (λ n. n ≤ 64) (sym (length-map theory.sorts sort_item)) keeps.few.sorts; constants = small }

  -- an item has some ground thing
  count-some : (args : List ℕ) → list_all (λ sort. nat_lt sort (length theory.sorts)) args ≡ true → 0 < count_in (map sort_item theory.sorts) args
  count-some [] h = omega arith
  count-some (a ∷ args) h =
      let t = and_cases (nat_lt a (length theory.sorts)) (list_all (λ sort. nat_lt sort (length theory.sorts)) args) h in
      times-some (size_in (map sort_item theory.sorts) a) (count_in (map sort_item theory.sorts) args)
      (sort-some theory.sorts keeps.sorts a (ltb-true a (length theory.sorts) t.0)) (count-some args t.1)

  pub few-of : (args : List ℕ) → draft_args_keep theory args ≡ true → length args ≤ 3
  few-of args h =
      let t = (and_cases (nat_le (length args) 3) (list_all (λ sort. nat_lt sort (length theory.sorts)) args) h).0 in
      grind (arith, nat_tests)

  some-of : (args : List ℕ) → draft_args_keep theory args ≡ true → 0 < count_in (map sort_item theory.sorts) args
  some-of args h =
      count-some args (and_cases (nat_le (length args) 3) (list_all (λ sort. nat_lt sort (length theory.sorts)) args) h).1

  pub fluent-args : (item : DraftFluent) → draft_fluent_keeps theory item ≡ true → draft_args_keep theory item.args ≡ true
  fluent-args item h = (and_cases (draft_args_keep theory item.args) (nat_lt item.sort (length theory.sorts)) h).0

  pub action-args : (item : DraftAction) → draft_action_keeps theory item ≡ true → draft_args_keep theory item.args ≡ true
  action-args item h = (and_cases _ _ (and_cases _ _ (and_cases _ _ h).0).0).0

  pub few-fluents : HaveFewArgs (map fluent_counted theory.fluents)
  few-fluents = all-mapped (λ (item : Counted). length item.0 ≤ 3) fluent_counted (draft_fluent_keeps theory)
      (λ item h. few-of item.args (fluent-args item h)) theory.fluents keeps.fluents

  pub few-actions : HaveFewArgs (map action_counted theory.actions)
  few-actions = all-mapped (λ (item : Counted). length item.0 ≤ 3) action_counted (draft_action_keeps theory)
      (λ item h. few-of item.args (action-args item h)) theory.actions keeps.actions

  -- every action that senses is declared
  pub sensed : All (λ (item : DraftSense). item.action < length (map action_item theory.actions)) theory.senses
  sensed =
      let P : DraftSense → Type 0 = λ item. item.action < length (map action_item theory.actions) in
      subst (λ (xs : List DraftSense). All P xs) (map-id theory.senses)
      (all-mapped P (λ item. item) (draft_sense_keeps theory) (λ item h.
      omega (
        arith,
        length-map theory.actions action_item,
        some-below theory.actions item.action _ (and_cases _ _ h).0,
      )) theory.senses keeps.senses)

  counted-some : (items : List Counted) → list_all (λ (item : Counted). draft_args_keep theory item.0) items ≡ true
      → length items ≤ sum_by (λ (item : Counted). count_in (map sort_item theory.sorts) item.0) items
  counted-some [] h = omega arith
  counted-some (item ∷ items) h =
      let t = and_cases (draft_args_keep theory item.0) (list_all (λ (i : Counted). draft_args_keep theory i.0) items) h in
      let one = some-of item.0 t.0 in
      let rest = counted-some items t.1 in
      let cons = sum_by-cons (λ (i : Counted). count_in (map sort_item theory.sorts) i.0) item items in
      omega (arith, one, rest, cons)

  -- where the sums are in their limits, ground things can be numbered
  pub countable : (fluent_sum theory).outcome ≡ Ok tt → (action_sum theory).outcome ≡ Ok tt → IsCountable (numbered (bare theory))
  countable f a =
      let fs = sum-within (map sort_item theory.sorts) 4096 0 (map fluent_counted theory.fluents) (omega arith) f in
      let acts = sum-within (map sort_item theory.sorts) 65536 0 (map action_counted theory.actions) (omega arith) a in
      let fe = all-counted (bare theory) fluent_item (λ (i : FluentItem). i.args) fluent_counted (λ x. refl) theory.fluents in
      let ae = all-counted (bare theory) action_item (λ (i : ActionItem). i.args) action_counted (λ x. refl) theory.actions in
      let fn = counted-some (map fluent_counted theory.fluents) (made (λ (i : Counted). draft_args_keep theory i.0) fluent_counted (draft_fluent_keeps theory) fluent-args theory.fluents keeps.fluents) in
      let an = counted-some (map action_counted theory.actions) (made (λ (i : Counted). draft_args_keep theory i.0) action_counted (draft_action_keeps theory) action-args theory.actions keeps.actions) in
      record {
        sorts = small;
        fluent_arities = all-mapped (λ args. length args ≤ 3) (λ item. item.args) (λ item. draft_args_keep theory item.args)
            (λ item h. few-of item.args h) (map fluent_item theory.fluents)
            (made (λ item. draft_args_keep theory item.args) fluent_item (draft_fluent_keeps theory) fluent-args theory.fluents keeps.fluents);
        action_arities = all-mapped (λ args. length args ≤ 3) (λ item. item.args) (λ item. draft_args_keep theory item.args)
            (λ item h. few-of item.args h) (map action_item theory.actions)
            (made (λ item. draft_args_keep theory item.args) action_item (draft_action_keeps theory) action-args theory.actions keeps.actions);
        fluents = omega (arith, fs, fn, length-map theory.fluents fluent_counted, length-map theory.fluents fluent_item);
        actions = omega (arith, acts, an, length-map theory.actions action_counted, length-map theory.actions action_item);
        ground_fluents = omega (arith, fs, fe);
        ground_actions = omega (arith, acts, ae);
        sizes = refl;
        first_fluents = refl;
        first_actions = refl;
      }
