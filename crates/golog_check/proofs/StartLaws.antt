-- Start values, one item further.
use Rattle.std.proofs.Common.{◌≡◌, ◌≢◌, ℕ, ◌+◌, ◌<◌, Bool, true, ◌&&◌, List, [], ◌∷◌, ◌++◌, zero, suc, length, map, take, get_or, Some, None, refl, sym, ap, subst, ◌∙◌, inl, inr, zero-add, arith}
use Rattle.std.specs.Prelude.{◌==◌, nat_eq, if◌then◌else◌, slice_get, slice_set, slice_index}
use Rattle.std.specs.Cmp.Lexicographic.{pointwise}
use Rattle.std.proofs.lemmas.Bool.{cases_eq, eq-eqb, eqb-true, false_from_ne_true}
use Rattle.std.proofs.lemmas.List.{length-map, get_or-map, map-append, take_more, ext_get_or, get_or-set_same, get_or-set_other}
use Rattle.std.proofs.lemmas.Option.{slice_get-get_or, slice_get_within}
use Rattle.golog_tree.specs.declared.agent.Agent.{Agent}
use Rattle.golog_tree.specs.declared.agent.FluentItem.{FluentItem}
use Rattle.golog_tree.specs.Ground.{AreWithin, sizes, args_at, fluent_args, fluent_no, ground_fluents, ground_count}
use Rattle.golog_tree.proofs.Numbers.{length-all_from}
use Rattle.golog_semantics.specs.Truth.{unknown}
use Rattle.golog_semantics.proofs.GroundNumbers.{stands, some-same}
use Rattle.golog_semantics.proofs.Tests.{and_both, and_cases}
use Rattle.golog_check.specs.declared.starts.Start.{Start}
use Rattle.golog_check.specs.declared.starts.Start.TheVariants.{One}
use Rattle.golog_check.specs.Starts.{Ground, own_after, own_value, one_after, one_value, start_value}

pub own-more : (own : ℕ) (xs : List Start) (x : Start) (fluent : ℕ)
    → own_value own (xs ++ x ∷ []) fluent ≡ own_after (own_value own xs fluent) x fluent
own-more own [] x fluent = refl
own-more own (y ∷ ys) x fluent = own-more (own_after own y fluent) ys x fluent

pub one-more : (before : ℕ) (xs : List Start) (x : Start) (at : Ground)
    → one_value before (xs ++ x ∷ []) at ≡ one_after (one_value before xs at) x at
one-more before [] x at = refl
one-more before (y ∷ ys) x at = one-more (one_after before y at) ys x at

same-lists : (xs ys : List ℕ) → pointwise nat_eq xs ys ≡ true → xs ≡ ys
same-lists [] [] h = refl
same-lists [] (y ∷ ys) h = cc
same-lists (x ∷ xs) [] h = cc
same-lists (x ∷ xs) (y ∷ ys) h =
    let t = and_cases (nat_eq x y) (pointwise nat_eq xs ys) h in
    ap (λ n. n ∷ xs) (eqb-true x y t.0) ∙ ap (λ l. y ∷ l) (same-lists xs ys t.1)

lists-same : (xs : List ℕ) → pointwise nat_eq xs xs ≡ true
lists-same [] = refl
lists-same (x ∷ xs) = and_both (nat_eq x x) (pointwise nat_eq xs xs) (eq-eqb x x refl) (lists-same xs)

one-hit : (before fluent : ℕ) (args : List ℕ) (value : ℕ) → one_after before (One fluent args value) (fluent, args) ≡ value
one-hit before fluent args value =
    ap (λ (b : Bool). if b then value else before)
    (and_both (fluent == fluent) (pointwise nat_eq args args) (eq-eqb fluent fluent refl) (lists-same args))

one-miss : (before fluent : ℕ) (args : List ℕ) (value item : ℕ) (own : List ℕ) → ((fluent ≡ item) × (args ≡ own) → ⊥)
    → one_after before (One fluent args value) (item, own) ≡ before
one-miss before fluent args value item own other =
    ap (λ (b : Bool). if b then value else before)
    (false_from_ne_true (fluent == item && pointwise nat_eq args own) (λ h.
    let t = and_cases (fluent == item) (pointwise nat_eq args own) h in
    other (eqb-true fluent item t.0, same-lists args own t.1)))

module _ (agent : Agent) where
  pub record IsAt (number fluent : ℕ) (args : List ℕ) : Type 0 where
    pub declared : fluent < length agent.fluents
    pub within : AreWithin (sizes agent (args_at (fluent_args agent) fluent)) args
    pub number_is : fluent_no agent fluent args ≡ number

  -- the ground fluent of a number
  pub at-number : (number fluent : ℕ) (args : List ℕ) → slice_get (ground_fluents agent) number ≡ Some (fluent, args)
      → IsAt number fluent args
  at-number number fluent args e =
      let s = stands agent (fluent_args agent) 0 number fluent args e in
      let is : fluent ≡ s.at = s.is ∙ zero-add s.at in
      let low : s.at < length agent.fluents = omega (arith, s.inside, length-map agent.fluents (λ item. item.args)) in
      record {
        declared = subst (λ i. i < length agent.fluents) (sym is) low;
        within = subst (λ i. AreWithin (sizes agent (args_at (fluent_args agent) i)) args) (sym is) s.within;
        number_is = ap (λ i. fluent_no agent i args) is ∙ s.number;
      }

  -- a `start` item of another ground fluent changes nothing
  pub put-apart : (before number n fluent : ℕ) (args : List ℕ) (value item : ℕ) (own : List ℕ)
      → slice_get (ground_fluents agent) number ≡ Some (fluent, args)
      → slice_get (ground_fluents agent) n ≡ Some (item, own) → (number ≡ n → ⊥)
      → one_after before (One fluent args value) (item, own) ≡ before
  put-apart before number n fluent args value item own e h apart =
      one-miss before fluent args value item own (λ same.
      let there : Some (item, own) ≡ Some (fluent, args) =
      ap (λ i. Some (i, own)) (sym same.0) ∙ ap (λ l. Some (fluent, l)) (sym same.1) in
      apart (sym (at-number number fluent args e).number_is ∙ (at-number n fluent args (h ∙ there)).number_is))

  pub put-none : (before n fluent : ℕ) (args : List ℕ) (value item : ℕ) (own : List ℕ)
      → ((number : ℕ) → slice_get (ground_fluents agent) number ≡ Some (fluent, args) → ⊥)
      → slice_get (ground_fluents agent) n ≡ Some (item, own)
      → one_after before (One fluent args value) (item, own) ≡ before
  put-none before n fluent args value item own none h =
      one-miss before fluent args value item own (λ same.
      let there : Some (item, own) ≡ Some (fluent, args) =
      ap (λ i. Some (i, own)) (sym same.0) ∙ ap (λ l. Some (fluent, l)) (sym same.1) in
      none n (h ∙ there))

  pub put-hit : (values : List ℕ) (number n fluent : ℕ) (args : List ℕ) (value item : ℕ) (own : List ℕ)
      → n < length values → number < length values
      → slice_get (ground_fluents agent) number ≡ Some (fluent, args)
      → slice_get (ground_fluents agent) n ≡ Some (item, own)
      → slice_index (slice_set values number value) n ≡ one_after (slice_index values n) (One fluent args value) (item, own)
  put-hit values number n fluent args value item own l k e h =
      elim (cases_eq number n) [
        | inl same ↦
            let is : (item, own) ≡ (fluent, args) = some-same _ _ (sym h ∙ ap (slice_get (ground_fluents agent)) (sym same) ∙ e) in
            ap (λ i. get_or (slice_set values number value) i 0) (sym same)
            ∙ get_or-set_same values number value 0 k
            ∙ sym (ap (λ (at : Ground). one_after (slice_index values n) (One fluent args value) at) is
            ∙ one-hit (slice_index values n) fluent args value)
        | inr apart ↦
            let other : n ≢ number = λ s. apart (sym s) in
            get_or-set_other values number n value 0 other
            ∙ sym (put-apart (slice_index values n) number n fluent args value item own e h apart)
      ]

args-at-is : (items : List FluentItem) (fluent : ℕ) (item : FluentItem) → slice_get items fluent ≡ Some item
    → args_at (map (λ (i : FluentItem). i.args) items) fluent ≡ item.args
args-at-is [] fluent item e = absurd (cc)
args-at-is (x ∷ xs) zero item e = ap (λ (i : FluentItem). i.args) (some-same x item e)
args-at-is (x ∷ xs) (suc fluent) item e = args-at-is xs fluent item e

-- where there is no fluent of the number there is no ground fluent of it
pub no-fluent : (agent : Agent) (fluent : ℕ) (args : List ℕ) → slice_get agent.fluents fluent ≡ None
    → (number : ℕ) → slice_get (ground_fluents agent) number ≡ Some (fluent, args) → ⊥
no-fluent agent fluent args none number e =
    let some = slice_get-get_or agent.fluents fluent (record { name = []; args = []; sort = 0 })
    (at-number agent number fluent args e).declared in cc

-- the arguments of a ground fluent are of its fluent's sorts
pub other-args : (agent : Agent) (fluent : ℕ) (item : FluentItem) (args : List ℕ) → slice_get agent.fluents fluent ≡ Some item
    → (AreWithin (sizes agent item.args) args → ⊥)
    → (number : ℕ) → slice_get (ground_fluents agent) number ≡ Some (fluent, args) → ⊥
other-args agent fluent item args is apart number e =
    apart (subst (λ (sorts : List ℕ). AreWithin (sizes agent sorts) args) (args-at-is agent.fluents fluent item is)
    (at-number agent number fluent args e).within)

pub args-are : (agent : Agent) (fluent : ℕ) (item : FluentItem) (args : List ℕ) → slice_get agent.fluents fluent ≡ Some item
    → AreWithin (sizes agent item.args) args → AreWithin (sizes agent (args_at (fluent_args agent) fluent)) args
args-are agent fluent item args is h =
    subst (λ (sorts : List ℕ). AreWithin (sizes agent sorts) args) (sym (args-at-is agent.fluents fluent item is)) h

-- there are as many ground fluents as are counted
pub as-counted : (agent : Agent) → length (ground_fluents agent) ≡ ground_count agent (fluent_args agent)
as-counted agent = length-all_from agent (fluent_args agent) 0

-- one more ground fluent, by its fluent's own item
pub base-more : (agent : Agent) (own : List ℕ) (number item : ℕ) (args values : List ℕ)
    → slice_get (ground_fluents agent) number ≡ Some (item, args)
    → values ≡ map (λ (at : Ground). slice_index own at.0) (take number (ground_fluents agent))
    → values ++ slice_index own item ∷ []
    ≡ map (λ (at : Ground). slice_index own at.0) (take (number + 1) (ground_fluents agent))
base-more agent own number item args values e is =
    let gs = ground_fluents agent in
    let f : Ground → ℕ = λ at. slice_index own at.0 in
    let below : number < length gs = slice_get_within gs number (item, args) e in
    let here : get_or gs number (item, args) ≡ (item, args) =
    some-same _ _ (sym (slice_get-get_or gs number (item, args) below) ∙ e) in
    let more : take (number + 1) gs ≡ take number gs ++ (item, args) ∷ [] =
    take_more gs number (item, args) below ∙ ap (λ (at : Ground). take number gs ++ at ∷ []) here in
    ap (λ (xs : List ℕ). xs ++ slice_index own item ∷ []) is
    ∙ sym (ap (map f) more ∙ map-append f (take number gs) ((item, args) ∷ []))

-- where each ground fluent has its value, these are the values
pub all-started : (agent : Agent) (starts : List Start) (values : List ℕ) → length values ≡ length (ground_fluents agent)
    → ((number : ℕ) (at : Ground) → slice_get (ground_fluents agent) number ≡ Some at
    → slice_index values number ≡ one_value (own_value unknown starts at.0) starts at)
    → values ≡ map (start_value starts) (ground_fluents agent)
all-started agent starts values l h =
    let gs = ground_fluents agent in
    ext_get_or 0 values (map (start_value starts) gs) (l ∙ sym (length-map gs (start_value starts))) (λ i low.
    let below : i < length gs = omega (arith, l, low) in
    let at : Ground = get_or gs i (0, []) in
    h i at (slice_get-get_or gs i (0, []) below) ∙ sym (get_or-map (start_value starts) gs i (0, []) 0 below))

-- the values by the fluents' own items alone
pub all-based : (agent : Agent) (starts : List Start) (own values : List ℕ)
    → ((fluent : ℕ) → fluent < length agent.fluents → slice_index own fluent ≡ own_value unknown starts fluent)
    → values ≡ map (λ (at : Ground). slice_index own at.0) (ground_fluents agent)
    → (number : ℕ) (at : Ground) → slice_get (ground_fluents agent) number ≡ Some at
    → slice_index values number ≡ own_value unknown starts at.0
all-based agent starts own values o is number at e =
    let gs = ground_fluents agent in
    let f : Ground → ℕ = λ at. slice_index own at.0 in
    let below : number < length gs = slice_get_within gs number at e in
    let here : get_or gs number at ≡ at = some-same _ _ (sym (slice_get-get_or gs number at below) ∙ e) in
    ap (λ (xs : List ℕ). get_or xs number 0) is ∙ get_or-map f gs number at 0 below ∙ ap f here
    ∙ o at.0 (at-number agent number at.0 at.1 e).declared
