-- A ground thing with arguments in their sorts stands at its number.
use Rattle.std.proofs.Common.{◌≡◌, ℕ, zero, suc, ◌+◌, ◌*◌, ◌/◌, ◌%◌, ◌<◌, List, [], ◌∷◌, length, map, take, refl, sym, ap, ◌∙◌, subst, Some, arith, zero-add, add-zero}
use Rattle.std.specs.Prelude.{slice_get, sum_by, option_map, option_and_then, unwrap_or}
use Rattle.std.specs.List.{range_with_len}
use Rattle.std.proofs.Math.Arith.{digits_lt, digits_div}
use Rattle.std.proofs.Math.Nat.{mod-eq_of_lt, mul_assoc, add_assoc, add_comm, add-mul-div_right, mul-add-mod_self_right}
use Rattle.std.proofs.lemmas.Option.{slice_get-map}
use Rattle.std.proofs.lemmas.List.{length-map}
use Rattle.std.proofs.lemmas.List.Sums.{sum_by-cons}
use Rattle.std.proofs.lemmas.List.FromFn.{length-map-range_with_len}
use Rattle.golog_tree.specs.declared.agent.Agent.{Agent}
use Rattle.golog_tree.specs.declared.agent.FluentItem.{FluentItem}
use Rattle.golog_tree.specs.Ground.{action_args, all_from, AreWithin, args_at, args_of, fluent_args, fluent_no, Ground, ground_fluents, number_of, place_of, product, sizes}
use Rattle.golog_semantics.specs.Values.{fluent_sort}
use Rattle.golog_semantics.specs.NumberLaws.{HasOneNumber}
use Rattle.golog_semantics.proofs.GroundNumbers.{action_is, stands, factors, slice_get-left, slice_get-right, slice_get-range}

-- the arguments at a place don't depend on whole products before it
pub args-shift : (ns : List ℕ) (q p : ℕ) → 0 < product ns → args_of ns (q * product ns + p) ≡ args_of ns p
args-shift [] q p h = refl
args-shift (n ∷ ns) q p h =
    let both : (0 < n) × (0 < product ns) = factors n (product ns) h in
    let regroup : q * (n * product ns) + p ≡ q * n * product ns + p = ap (λ x. x + p) (sym (mul_assoc q n (product ns))) in
    let quotient : (q * n * product ns + p) / product ns ≡ q * n + p / product ns =
    ap (λ x. x / product ns) (add_comm (q * n * product ns) p) ∙ add-mul-div_right p (q * n) both.1 ∙ add_comm (p / product ns) (q * n) in
    let first : (q * (n * product ns) + p) / product ns % n ≡ p / product ns % n =
    ap (λ x. x / product ns % n) regroup ∙ ap (λ x. x % n) quotient ∙ mul-add-mod_self_right q n (p / product ns) in
    let rest : args_of ns (q * (n * product ns) + p) ≡ args_of ns p = ap (args_of ns) regroup ∙ args-shift ns (q * n) p both.1 in
    (λ i. first i ∷ rest i)

pub args-place : (ns args : List ℕ) → AreWithin ns args → (args_of ns (place_of ns args) ≡ args) × (place_of ns args < product ns)
args-place [] [] w = (refl, omega arith)
args-place [] (a ∷ args) w = elim w [ ]
args-place (n ∷ ns) [] w = elim w [ ]
args-place (n ∷ ns) (a ∷ args) w =
    let r = args-place ns args w.1 in
    let less : place_of ns args < product ns = r.1 in
    let below : a < n = w.0 in
    let first : (a * product ns + place_of ns args) / product ns % n ≡ a = ap (λ x. x % n) (digits_div a less) ∙ mod-eq_of_lt below in
    let rest : args_of ns (a * product ns + place_of ns args) ≡ args = args-shift ns a (place_of ns args) (omega arith) ∙ r.0 in
    ((λ i. first i ∷ rest i), digits_lt below less)

module _ (agent : Agent) where
  pub get-number : (items : List (List ℕ)) (first i : ℕ) (args : List ℕ) → i < length items → AreWithin (sizes agent (args_at items i)) args
      → slice_get (all_from agent first items) (number_of agent items i args) ≡ Some (first + i, args)
  get-number [] first i args h w = absurd (omega arith)
  get-number (sorts ∷ items) first zero args h w =
      let r = args-place (sizes agent sorts) args w in
      let place = place_of (sizes agent sorts) args in
      let make = λ (p : ℕ). let at : Ground = (first, args_of (sizes agent sorts) p) in at in
      let ours = map make (range_with_len 0 (product (sizes agent sorts))) in
      ap (slice_get (all_from agent first (sorts ∷ items))) (zero-add place)
      ∙ slice_get-left ours (all_from agent (first + 1) items) place (subst (λ n. place < n) (sym (length-map-range_with_len make 0 (product (sizes agent sorts)))) r.1)
      ∙ slice_get-map make (range_with_len 0 (product (sizes agent sorts))) place
      ∙ ap (option_map make) (slice_get-range 0 (product (sizes agent sorts)) place r.1 ∙ ap Some (zero-add place))
      ∙ ap (λ x. Some (first, x)) r.0 ∙ ap (λ n. Some (n, args)) (sym (add-zero first))
  get-number (sorts ∷ items) first (suc i) args h w =
      let make = λ (p : ℕ). let at : Ground = (first, args_of (sizes agent sorts) p) in at in
      let ours = map make (range_with_len 0 (product (sizes agent sorts))) in
      let later = number_of agent items i args in
      let number : number_of agent (sorts ∷ items) (suc i) args ≡ length ours + later =
      ap (λ n. n + place_of (sizes agent (args_at items i)) args) (sum_by-cons (λ sorts. product (sizes agent sorts)) sorts (take i items))
      ∙ add_assoc (product (sizes agent sorts)) (sum_by (λ sorts. product (sizes agent sorts)) (take i items)) (place_of (sizes agent (args_at items i)) args)
      ∙ ap (λ n. n + later) (sym (length-map-range_with_len make 0 (product (sizes agent sorts)))) in
      slice_get-right ours (all_from agent (first + 1) items) (number_of agent (sorts ∷ items) (suc i) args) later number
      ∙ get-number items (first + 1) i args (omega arith) w ∙ ap (λ n. Some (n, args)) (let e : first + 1 + i ≡ first + suc i = omega arith in e)

  pub fluent_args-at : (items : List FluentItem) (i : ℕ) (item : FluentItem) → slice_get items i ≡ Some item → (args_at (map (λ f. f.args) items) i ≡ item.args) × (i < length items)
  fluent_args-at [] i item e = absurd (cc)
  fluent_args-at (f ∷ items) zero item e = (let s : f ≡ item = cc in ap (λ x. x.args) s, omega arith)
  fluent_args-at (f ∷ items) (suc i) item e = let r = fluent_args-at items i item e in (r.0, let k : i < length items = r.1 in omega arith)

  -- a fluent with arguments in their sorts stands at its number, and its sort is that of its item
  pub record FluentStands (fluent : ℕ) (item : FluentItem) (args : List ℕ) : Type 0 where
    pub stands : slice_get (ground_fluents agent) (fluent_no agent fluent args) ≡ Some (fluent, args)
    pub sorted : fluent_sort agent (fluent_no agent fluent args) ≡ item.sort

  pub sort-at : (f fluent : ℕ) (item : FluentItem) (args : List ℕ) → slice_get (ground_fluents agent) f ≡ Some (fluent, args) → slice_get agent.fluents fluent ≡ Some item → fluent_sort agent f ≡ item.sort
  sort-at f fluent item args e k =
      ap (λ o. unwrap_or (option_and_then (λ (at : Ground). option_map (λ i. i.sort) (slice_get agent.fluents at.0)) o) 0) e
      ∙ ap (λ o. unwrap_or (option_map (λ i. i.sort) o) 0) k

  pub fluent-stands : (fluent : ℕ) (item : FluentItem) (args : List ℕ) → slice_get agent.fluents fluent ≡ Some item → AreWithin (sizes agent item.args) args → FluentStands fluent item args
  fluent-stands fluent item args e w =
      let at = fluent_args-at agent.fluents fluent item e in
      let inside : fluent < length (fluent_args agent) = subst (λ n. fluent < n) (sym (length-map agent.fluents (λ f. f.args))) at.1 in
      let stands : slice_get (ground_fluents agent) (fluent_no agent fluent args) ≡ Some (fluent, args) =
      get-number (fluent_args agent) 0 fluent args inside (subst (λ s. AreWithin (sizes agent s) args) (sym at.0) w) ∙ ap (λ n. Some (n, args)) (zero-add fluent) in
      record { stands = stands; sorted = sort-at (fluent_no agent fluent args) fluent item args stands e }

  pub one_number : HasOneNumber agent
  one_number = record {
    actions = λ number item args e. (action_is agent number item args e).number;
    fluents = λ number item args e.
        let s = stands agent (fluent_args agent) 0 number item args e in
        ap (λ i. fluent_no agent i args) (s.is ∙ zero-add s.at) ∙ s.number;
    actions_stand = λ item args inside within. get-number (action_args agent) 0 item args inside within ∙ ap (λ n. Some (n, args)) (zero-add item);
    fluents_stand = λ item args inside within. get-number (fluent_args agent) 0 item args inside within ∙ ap (λ n. Some (n, args)) (zero-add item);
  }
