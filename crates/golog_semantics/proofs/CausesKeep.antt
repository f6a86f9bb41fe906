-- The causes of a well-formed agent keep the sorts of their fluents.
use Rattle.std.proofs.Common.{◌≡◌, ℕ, zero, suc, ◌+◌, ◌<◌, Bool, true, false, ◌&&◌, ◌==◌, if◌then◌else◌, List, [], ◌∷◌, ◌++◌, length, refl, sym, ap, ◌∙◌, subst, Some, None, Option, arith, inl, inr, zero-add, add-zero, ◌-◌}
use Rattle.std.specs.Prelude.{nat_lt, slice_get, slice_index, replicate}
use Rattle.std.specs.List.{list_all}
use Rattle.std.specs.Option.{option_map_or}
use Rattle.std.proofs.lemmas.Bool.{eqb-true}
use Rattle.golog_tree.specs.declared.agent.Agent.{Agent}
use Rattle.golog_tree.specs.declared.agent.CauseItem.{CauseItem}
use Rattle.golog_tree.specs.declared.prog.Label.TheVariants.{Quiet, Do}
use Rattle.golog_tree.specs.declared.cond.Arg.{Arg}
use Rattle.golog_tree.specs.declared.cond.Arg.TheVariants.{Const, Var}
use Rattle.golog_tree.specs.Ground.{AreWithin, fluent_args, sizes, sort_size}
use Rattle.golog_semantics.specs.Truth.{Values, env_of, value_of}
use Rattle.golog_semantics.specs.Values.{matched_values}
use Rattle.golog_semantics.specs.Fits.{bound_from, term_fits, cond_fits}
use Rattle.golog_semantics.specs.Written.{is_written_term, is_written_cond}
use Rattle.golog_semantics.specs.WellFormed.{WellFormed, head_sorts, effect_fits, cause_fits_for, cause_fits}
use Rattle.golog_semantics.specs.InSorts.{IsOf, AreInSorts}
use Rattle.golog_semantics.specs.SortLaws.{KeepsSorts, ValuesStayInSorts, StepsStayInSorts}
use Rattle.golog_semantics.proofs.Words.{and-left, and-right}
use Rattle.golog_semantics.proofs.Among.{Among, among-contains}
use Rattle.golog_semantics.proofs.GroundNumbers.{some-same, stands, action_is}
use Rattle.golog_semantics.proofs.ActionNames.{args_at-map}
use Rattle.golog_semantics.proofs.NumbersStand.{fluent_args-at, sort-at}
use Rattle.golog_semantics.proofs.TermsFit.{Typed, term_is_of}
use Rattle.golog_semantics.proofs.SortsStay.{after_do-sorts, sorts_stay}
use Rattle.golog_semantics.proofs.WellNamed.{starts_in_sorts}

pub record Has {A : Type 0} (p : A → Bool) (o : Option A) : Type 0 where
  pub item : A
  pub is : o ≡ Some item
  pub passes : p item ≡ true

pub has : {A : Type 0} (p : A → Bool) (o : Option A) → option_map_or p o false ≡ true → Has p o
has p None h = absurd (cc)
has p (Some x) h = record { item = x; is = refl; passes = h }

pub chosen-some : {A : Type 0} (b : Bool) (o : Option A) (r : A) → (if b then o else None) ≡ Some r → o ≡ Some r
chosen-some true o r h = h
chosen-some false o r h = absurd (cc)

pub chosen-true : {A : Type 0} (b : Bool) (o : Option A) (r : A) → (if b then o else None) ≡ Some r → b ≡ true
chosen-true true o r h = refl
chosen-true false o r h = absurd (cc)

pub index-left : (xs ys : List ℕ) (k : ℕ) → k < length xs → slice_index (xs ++ ys) k ≡ slice_index xs k
index-left [] ys k h = absurd (omega arith)
index-left (x ∷ xs) ys zero h = refl
index-left (x ∷ xs) ys (suc k) h = index-left xs ys k (omega arith)

module _ (agent : Agent) where
  pub within-length : (ss xs : List ℕ) → AreWithin (sizes agent ss) xs → length ss ≡ length xs
  within-length [] [] w = refl
  within-length [] (x ∷ xs) w = elim w [ ]
  within-length (s ∷ ss) [] w = elim w [ ]
  within-length (s ∷ ss) (x ∷ xs) w = ap suc (within-length ss xs w.1)

  within-append : (ss ts xs ys : List ℕ) → AreWithin (sizes agent ss) xs → AreWithin (sizes agent ts) ys → AreWithin (sizes agent (ss ++ ts)) (xs ++ ys)
  within-append [] ts [] ys w v = v
  within-append [] ts (x ∷ xs) ys w v = elim w [ ]
  within-append (s ∷ ss) ts [] ys w v = elim w [ ]
  within-append (s ∷ ss) ts (x ∷ xs) ys w v = (w.0, within-append ss ts xs ys w.1 v)

  -- what the variables of a head are matched with is of their sorts
  head-fit : (ss : List ℕ) (args : List Arg) (fs vars vs found result : List ℕ) → AreWithin (sizes agent ss) vs → AreWithin (sizes agent fs) found
      → head_sorts agent ss args fs ≡ Some vars → matched_values args vs found ≡ Some result → AreWithin (sizes agent vars) result
  head-fit [] [] fs vars vs found result w v h k = subst (λ x. AreWithin (sizes agent x) result) (some-same fs vars h) (subst (AreWithin (sizes agent fs)) (some-same found result k) v)
  head-fit [] (arg ∷ args) fs vars vs found result w v h k = absurd (cc)
  head-fit (s ∷ ss) [] fs vars vs found result w v h k = absurd (cc)
  head-fit (s ∷ ss) (arg ∷ args) fs vars [] found result w v h k = elim w [ ]
  head-fit (s ∷ ss) (Const c ∷ args) fs vars (x ∷ vs) found result w v h k =
      head-fit ss args fs vars vs found result w.1 v (chosen-some (nat_lt c (sort_size agent s)) (head_sorts agent ss args fs) vars h) (chosen-some (c == x) (matched_values args vs found) result k)
  head-fit (s ∷ ss) (Var y ∷ args) fs vars (x ∷ vs) found result w v h k =
      go (y == length fs) h (subst (λ n. (if y == n then matched_values args vs (found ++ x ∷ []) else (if slice_index found y == x then matched_values args vs found else None)) ≡ Some result) (sym (within-length fs found v)) k)
      (head-fit ss args (fs ++ s ∷ []) vars vs (found ++ x ∷ []) result w.1 (within-append fs (s ∷ []) found (x ∷ []) v (w.0, tt)))
      (head-fit ss args fs vars vs found result w.1 v)
    where
      go : (b : Bool) → (if b then head_sorts agent ss args (fs ++ s ∷ []) else (if option_map_or (λ own. own == s) (slice_get fs y) false then head_sorts agent ss args fs else None)) ≡ Some vars
          → (if b then matched_values args vs (found ++ x ∷ []) else (if slice_index found y == x then matched_values args vs found else None)) ≡ Some result
          → (head_sorts agent ss args (fs ++ s ∷ []) ≡ Some vars → matched_values args vs (found ++ x ∷ []) ≡ Some result → AreWithin (sizes agent vars) result)
          → (head_sorts agent ss args fs ≡ Some vars → matched_values args vs found ≡ Some result → AreWithin (sizes agent vars) result)
          → AreWithin (sizes agent vars) result
      go true f g new old = new f g
      go false f g new old = old (chosen-some (option_map_or (λ own. own == s) (slice_get fs y) false) (head_sorts agent ss args fs) vars f) (chosen-some (slice_index found y == x) (matched_values args vs found) result g)

  -- a bound variable, by its place among those that are bound
  pub record BoundAt (n x sort : ℕ) (found : List ℕ) : Type 0 where
    pub at : ℕ
    pub is : x ≡ n + at
    pub inside : at < length found
    pub below : slice_index found at < sort_size agent sort

  pub bound-at : (n : ℕ) (vars found : List ℕ) (x sort : ℕ) → AreWithin (sizes agent vars) found → bound_from n vars x ≡ Some sort → BoundAt n x sort found
  bound-at n [] found x sort w h = absurd (cc)
  bound-at n (s ∷ vars) [] x sort w h = elim w [ ]
  bound-at n (s ∷ vars) (v ∷ found) x sort w h = go (x == n) refl h (bound-at (suc n) vars found x sort w.1)
    where
      go : (b : Bool) → (x == n) ≡ b → (if b then Some s else bound_from (suc n) vars x) ≡ Some sort → (bound_from (suc n) vars x ≡ Some sort → BoundAt (suc n) x sort found) → BoundAt n x sort (v ∷ found)
      go true e k rest = record {
        at = 0;
        is = eqb-true x n e ∙ sym (add-zero n);
        inside = omega arith;
        below = subst (λ t. v < sort_size agent t) (some-same s sort k) w.0;
      }
      go false e k rest = let r = rest k in record {
        at = suc r.at;
        is = let q : x ≡ suc n + r.at = r.is in omega arith;
        inside = let q : r.at < length found = r.inside in omega arith;
        below = r.below;
      }

  pub typed-env : (values : Values) (sorts : AreInSorts agent values) (vars found : List ℕ) → AreWithin (sizes agent vars) found → Typed agent values sorts (bound_from 0 vars) (env_of found)
  unfolding env_of
  typed-env values sorts vars found w x sort h =
      let b = bound-at 0 vars found x sort w h in
      let same : x ≡ b.at = b.is ∙ zero-add b.at in
      subst (λ k. slice_index (found ++ replicate (32 - length found) 0) k < sort_size agent sort) (sym same)
      (subst (λ v. v < sort_size agent sort) (sym (index-left found (replicate (32 - length found) 0) b.at b.inside)) b.below)

  module _ (cause : CauseItem) (fits : cause_fits agent cause ≡ true) where
    pub cause-keeps : KeepsSorts agent cause
    cause-keeps values sorts action at ours f fluent is found e =
        let a = has (λ action. option_map_or (cause_fits_for agent cause action) (slice_get agent.fluents cause.fluent) false) (slice_get agent.actions cause.action) fits in
        let b = has (cause_fits_for agent cause a.item) (slice_get agent.fluents cause.fluent) a.passes in
        let c = has (effect_fits agent cause b.item.sort) (head_sorts agent (a.item.args ++ b.item.args) (cause.action_args ++ cause.fluent_args) []) b.passes in
        let test = cause.action == at.0 && cause.fluent == fluent.0 in
        let hit : test ≡ true = chosen-true test (matched_values (cause.action_args ++ cause.fluent_args) (at.1 ++ fluent.1) []) found e in
        let match : matched_values (cause.action_args ++ cause.fluent_args) (at.1 ++ fluent.1) [] ≡ Some found = chosen-some test (matched_values (cause.action_args ++ cause.fluent_args) (at.1 ++ fluent.1) []) found e in
        let action_same : cause.action ≡ at.0 = eqb-true cause.action at.0 (and-left (cause.action == at.0) (cause.fluent == fluent.0) hit) in
        let fluent_same : cause.fluent ≡ fluent.0 = eqb-true cause.fluent fluent.0 (and-right (cause.action == at.0) (cause.fluent == fluent.0) hit) in
        let action_item : slice_get agent.actions at.0 ≡ Some a.item = ap (slice_get agent.actions) (sym action_same) ∙ a.is in
        let fluent_item : slice_get agent.fluents fluent.0 ≡ Some b.item = ap (slice_get agent.fluents) (sym fluent_same) ∙ b.is in
        let one : AreWithin (sizes agent a.item.args) at.1 = subst (λ s. AreWithin (sizes agent s) at.1) (args_at-map agent.actions at.0 a.item action_item) (action_is agent action at.0 at.1 ours).within in
        let s = stands agent (fluent_args agent) 0 f fluent.0 fluent.1 is in
        let place : s.at ≡ fluent.0 = sym (zero-add s.at) ∙ sym s.is in
        let other : AreWithin (sizes agent b.item.args) fluent.1 = subst (λ t. AreWithin (sizes agent t) fluent.1) (fluent_args-at agent agent.fluents s.at b.item (ap (slice_get agent.fluents) place ∙ fluent_item)).0 s.within in
        let within = head-fit (a.item.args ++ b.item.args) (cause.action_args ++ cause.fluent_args) [] c.item (at.1 ++ fluent.1) [] found (within-append a.item.args b.item.args at.1 fluent.1 one other) tt c.is match in
        let term_test = term_fits agent cause.term (bound_from 0 c.item) b.item.sort in
        let cond_test = cond_fits agent cause.cond (bound_from 0 c.item) in
        let written = is_written_term agent cause.term in
        let term = and-left term_test cond_test (and-left (term_test && cond_test) written
        (and-left (term_test && cond_test && written) (is_written_cond agent cause.cond (length c.item)) c.passes)) in
        subst (λ t. IsOf agent t (value_of agent values cause.term (env_of found))) (sym (sort-at agent f fluent.0 b.item fluent.1 is fluent_item))
        (term_is_of agent values sorts cause.term (bound_from 0 c.item) b.item.sort (env_of found) term (typed-env values sorts c.item found within))

  all-fit : (causes : List CauseItem) (cause : CauseItem) → list_all (cause_fits agent) causes ≡ true → Among causes cause → cause_fits agent cause ≡ true
  all-fit [] cause h a = absurd a
  all-fit (c ∷ causes) cause h (inl e) = ap (cause_fits agent) (sym e) ∙ and-left (cause_fits agent c) (list_all (cause_fits agent) causes) h
  all-fit (c ∷ causes) cause h (inr a) = all-fit causes cause (and-right (cause_fits agent c) (list_all (cause_fits agent) causes) h) a

each-keeps : (agent : Agent) → WellFormed agent → (cause : CauseItem) → Among agent.causes cause → KeepsSorts agent cause
each-keeps agent fits cause among = cause-keeps agent cause (all-fit agent agent.causes cause fits.actions_fit.causes among)

pub values_stay_in_sorts : ValuesStayInSorts
values_stay_in_sorts agent fits journal results =
    sorts_stay agent (λ cause among. each-keeps agent fits cause (among-contains agent.causes cause among)) (starts_in_sorts agent fits) journal results

pub steps_stay_in_sorts : StepsStayInSorts
steps_stay_in_sorts agent fits values Quiet sorts = sorts
steps_stay_in_sorts agent fits values (Do action) sorts = after_do-sorts agent (each-keeps agent fits) values sorts action
