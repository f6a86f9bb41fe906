-- A well-formed agent tells its things apart, and its start values are in their sorts.
use Rattle.std.proofs.Common.{◌≡◌, ℕ, zero, suc, ◌+◌, ◌<◌, true, false, not, List, [], ◌∷◌, ◌++◌, length, map, refl, sym, ap, ◌∙◌, subst, Some, arith, inl, inr, zero-add, add-zero}
use Rattle.std.specs.Prelude.{◌≤◌, ◌+ℤ◌, codes, pos, slice_get, slice_index, unwrap_or}
use Rattle.std.specs.List.{AllByRecursion, IsDistinct, flat_map, list_all, enumerate_from}
use Rattle.std.proofs.lemmas.Bool.{lt-ltb}
use Rattle.std.proofs.lemmas.Option.{get_or_from_slice_get, slice_get_within}
use Rattle.golog_base.specs.Names.{is_name}
use Rattle.golog_tree.specs.declared.agent.Agent.{Agent}
use Rattle.golog_tree.specs.declared.agent.SortItem.{SortItem}
use Rattle.golog_tree.specs.declared.agent.SortItem.TheVariants.{Range, Listed}
use Rattle.golog_tree.specs.Ground.{item_size}
use Rattle.golog_semantics.specs.Text.{Text, constant_in}
use Rattle.golog_semantics.specs.Truth.{unknown}
use Rattle.golog_semantics.specs.BuiltIn.{sort_names, declared_names, is_keyword, same_text}
use Rattle.golog_semantics.specs.WellFormed.{WellFormed, start_fits}
use Rattle.golog_semantics.specs.ReportLaws.{AreDistinctNames, AreKnown, HasConstants, TellsApart, RangesFit}
use Rattle.golog_semantics.specs.InSorts.{AreInSorts}
use Rattle.golog_semantics.proofs.Words.{and-left, and-right, signed-known}
use Rattle.golog_semantics.proofs.Names.{moved_small, name_at}
use Rattle.golog_semantics.proofs.GroundNumbers.{some-same}
use Rattle.golog_semantics.proofs.Among.{Among, contains-among, among-get, among-left, among-right, flat-among}
use Rattle.golog_semantics.proofs.Levels.{same_values-same}

module _ {A : Type 0} (P : A → Type 0) where
  all-get : (xs : List A) (i : ℕ) (x : A) → AllByRecursion P xs → slice_get xs i ≡ Some x → P x
  all-get [] i x a e = absurd (cc)
  all-get (y ∷ xs) zero x a e = subst P (some-same y x e) a.0
  all-get (y ∷ xs) (suc i) x a e = all-get xs i x a.1 e

  all-left : (xs ys : List A) → AllByRecursion P (xs ++ ys) → AllByRecursion P xs
  all-left [] ys a = tt
  all-left (x ∷ xs) ys a = (a.0, all-left xs ys a.1)

pub distinct-left : (xs ys : List Text) → IsDistinct same_text (xs ++ ys) → IsDistinct same_text xs
unfolding IsDistinct
distinct-left [] ys d = tt
distinct-left (x ∷ xs) ys d = (all-left (λ y. same_text x y ≡ false) xs ys d.0, distinct-left xs ys d.1)

pub distinct-right : (xs ys : List Text) → IsDistinct same_text (xs ++ ys) → IsDistinct same_text ys
unfolding IsDistinct
distinct-right [] ys d = d
distinct-right (x ∷ xs) ys d = distinct-right xs ys d.1

pub distinct-part : {A : Type 0} (f : A → List Text) (xs : List A) (i : ℕ) (x : A) → slice_get xs i ≡ Some x → IsDistinct same_text (flat_map f xs) → IsDistinct same_text (f x)
distinct-part f [] i x e d = absurd (cc)
distinct-part f (y ∷ xs) zero x e d = subst (λ z. IsDistinct same_text (f z)) (some-same y x e) (distinct-left (f y) (flat_map f xs) d)
distinct-part f (y ∷ xs) (suc i) x e d = distinct-part f xs i x e (distinct-right (f y) (flat_map f xs) d)

not-later : (x name : Text) (xs : List Text) (i : ℕ) → x ≡ name → AllByRecursion (λ y. same_text x y ≡ false) xs → slice_get xs i ≡ Some name → ⊥
not-later x name xs i e a k =
    let f : same_text x name ≡ false = all-get (λ y. same_text x y ≡ false) xs i name a k in
    let g : same_text x name ≡ true = ap (same_text x) (sym e) ∙ same_values-same x in
    cc

distinct-get : (names : List Text) → IsDistinct same_text names → (i j : ℕ) (name : Text) → slice_get names i ≡ Some name → slice_get names j ≡ Some name → i ≡ j
unfolding IsDistinct
distinct-get [] d i j name e k = absurd (cc)
distinct-get (x ∷ xs) d zero zero name e k = refl
distinct-get (x ∷ xs) d zero (suc j) name e k = absurd (not-later x name xs j (some-same x name e) d.0 k)
distinct-get (x ∷ xs) d (suc i) zero name e k = absurd (not-later x name xs i (some-same x name k) d.0 e)
distinct-get (x ∷ xs) d (suc i) (suc j) name e k = ap suc (distinct-get xs d.1 i j name e k)

-- where no name is a keyword, none is that of an unknown value
free-names : (names : List Text) → list_all (λ name. not (is_keyword name)) names ≡ true → Among names (codes "unknown") → ⊥
free-names [] h a = a
free-names (name ∷ names) h (inl e) =
    let own : not (is_keyword name) ≡ true = and-left (not (is_keyword name)) (list_all (λ name. not (is_keyword name)) names) h in
    let wrong : not (is_keyword (codes "unknown")) ≡ true = subst (λ n. not (is_keyword n) ≡ true) e own in cc
free-names (name ∷ names) h (inr a) = free-names names (and-right (not (is_keyword name)) (list_all (λ name. not (is_keyword name)) names) h) a

module _ (agent : Agent) (fits : WellFormed agent) where
  abbrev of_sorts : List Text
  of_sorts = flat_map sort_names agent.sorts

  abbrev of_fluents : List Text
  of_fluents = map (λ item. item.name) agent.fluents

  abbrev of_actions : List Text
  of_actions = map (λ item. item.name) agent.actions

  abbrev of_procs : List Text
  of_procs = map (λ item. item.name) agent.procs

  word : (name : Text) → Among (declared_names agent) name → is_name name ≡ true
  word name a =
      let r = contains-among (declared_names agent) name a in
      subst (λ n. is_name n ≡ true) r.2 (fits.names.words r.0 name r.1).named

  through_actions : IsDistinct same_text (((of_sorts ++ agent.devices) ++ of_fluents) ++ of_actions)
  through_actions = distinct-left (((of_sorts ++ agent.devices) ++ of_fluents) ++ of_actions) of_procs fits.names.once

  through_devices : IsDistinct same_text (of_sorts ++ agent.devices)
  through_devices = distinct-left (of_sorts ++ agent.devices) of_fluents (distinct-left ((of_sorts ++ agent.devices) ++ of_fluents) of_actions through_actions)

  among-devices : (name : Text) → Among (of_sorts ++ agent.devices) name → Among (declared_names agent) name
  among-devices name a = among-left _ of_procs name (among-left _ of_actions name (among-left _ of_fluents name a))

  devices_apart : AreDistinctNames agent.devices
  devices_apart = record {
    named = λ i name e. word name (among-devices name (among-right of_sorts agent.devices name (among-get agent.devices i name e)));
    distinct = distinct-get agent.devices (distinct-right of_sorts agent.devices through_devices);
  }

  pub actions_apart : AreDistinctNames of_actions
  actions_apart = record {
    named = λ i name e. word name (among-left _ of_procs name (among-right ((of_sorts ++ agent.devices) ++ of_fluents) of_actions name (among-get of_actions i name e)));
    distinct = distinct-get of_actions (distinct-right ((of_sorts ++ agent.devices) ++ of_fluents) of_actions through_actions);
  }

  pub constants_apart : (sort : ℕ) (name : Text) (constants : List Text) → slice_get agent.sorts sort ≡ Some (Listed name constants) → AreDistinctNames constants
  constants_apart sort name constants e = record {
    named = λ i constant k. word constant (among-devices constant (among-left of_sorts agent.devices constant
        (flat-among sort_names agent.sorts (Listed name constants) constant (among-get agent.sorts sort (Listed name constants) e) (inr (among-get constants i constant k)))));
    distinct = distinct-get constants (distinct-right (name ∷ []) constants (distinct-part sort_names agent.sorts sort (Listed name constants) e (distinct-left of_sorts agent.devices through_devices)));
  }

  has_constants : RangesFit agent → (sort : ℕ) (item : SortItem) → slice_get agent.sorts sort ≡ Some item → HasConstants item
  has_constants ranges sort (Range name low high) e = ranges sort name low high e
  has_constants ranges sort (Listed name constants) e = constants_apart sort name constants e

  -- no constant has the name of an unknown value
  none_unknown : (sort : ℕ) (name : Text) (constants : List Text) → slice_get agent.sorts sort ≡ Some (Listed name constants)
      → (i : ℕ) → slice_get constants i ≡ Some (codes "unknown") → ⊥
  none_unknown sort name constants e i k =
      free-names (declared_names agent) fits.names.free
      (among-devices (codes "unknown") (among-left of_sorts agent.devices (codes "unknown")
      (flat-among sort_names agent.sorts (Listed name constants) (codes "unknown") (among-get agent.sorts sort (Listed name constants) e)
      (inr (among-get constants i (codes "unknown") k)))))

  own-text : RangesFit agent → (sort : ℕ) (item : SortItem) → slice_get agent.sorts sort ≡ Some item → (value : ℕ) → value < item_size item → constant_in item value ≡ codes "unknown" → ⊥
  own-text ranges sort (Range name low high) e value less k =
      let both = ranges sort name low high e in
      signed-known (low +ℤ pos value) (moved_small low high value both.0.sfits both.1.sfits less) k
  own-text ranges sort (Listed name constants) e value less k =
      let r = name_at constants value less in
      none_unknown sort name constants e value (r.is ∙ ap Some (ap (λ o. unwrap_or o []) (sym r.is) ∙ k))

  are_known : RangesFit agent → (sort : ℕ) (item : SortItem) → slice_get agent.sorts sort ≡ Some item → AreKnown item
  are_known ranges sort item e value less =
      let few : item_size item ≤ 255 = subst (λ i. item_size i ≤ 255) (get_or_from_slice_get agent.sorts sort item item e)
      (fits.countable.sorts sort item (slice_get_within agent.sorts sort item e)) in
      (lt-ltb value unknown (omega (arith, less, few)), own-text ranges sort item e value less)

  pub tells_apart : RangesFit agent → TellsApart agent
  tells_apart ranges = record { devices = devices_apart; actions = actions_apart; constants = has_constants ranges; known = are_known ranges }

  starts-from : (n : ℕ) (starts : List ℕ) (k : ℕ) → list_all (start_fits agent) (enumerate_from n starts) ≡ true → k < length starts → start_fits agent (n + k, slice_index starts k) ≡ true
  starts-from n [] k h less = absurd (omega arith)
  starts-from n (v ∷ starts) zero h less =
      subst (λ f. start_fits agent (f, v) ≡ true) (sym (add-zero n)) (and-left (start_fits agent (n, v)) (list_all (start_fits agent) (enumerate_from (n + 1) starts)) h)
  starts-from n (v ∷ starts) (suc k) h less =
      subst (λ f. start_fits agent (f, slice_index starts k) ≡ true) (let e : n + 1 + k ≡ n + suc k = omega arith in e)
      (starts-from (n + 1) starts k (and-right (start_fits agent (n, v)) (list_all (start_fits agent) (enumerate_from (n + 1) starts)) h) (omega arith))

  pub starts_in_sorts : AreInSorts agent agent.starts
  starts_in_sorts = record {
    whole = fits.starts.whole;
    sorted = λ f less. subst (λ g. start_fits agent (g, slice_index agent.starts f) ≡ true) (zero-add f) (starts-from 0 agent.starts f fits.starts.sorted less);
  }
