-- What is known of conditions and terms stays so where more is known.
use Rattle.std.proofs.Common.{◌≡◌, ℕ, ℤ, Bool, true, false, IsTrue, ◌&&◌, if◌then◌else◌, ◌==◌, List, [], ◌∷◌, map, refl, sym, ap, ◌∙◌, subst}
use Rattle.std.specs.Prelude.{⊤, nat_lt, nat_le, slice_set}
use Rattle.golog_tree.specs.Ground.{fluent_no}
use Rattle.std.proofs.lemmas.Bool.{eqb-true, eq-eqb}
use Rattle.golog_tree.specs.declared.agent.Agent.{Agent}
use Rattle.golog_tree.specs.declared.cond.Truth.{Truth}
use Rattle.golog_tree.specs.declared.cond.Truth.TheVariants.{Yes, No, Unknown}
use Rattle.golog_tree.specs.declared.cond.Term.{Term}
use Rattle.golog_tree.specs.declared.cond.Cond.{Cond}
use Rattle.golog_tree.specs.declared.cond.Cond.TheOpen.{Cond-F, Truth as Plain, Is, Equal, Less, AtMost, Not, And, Or, ForSome, ForAll}
use Rattle.golog_tree.specs.declared.cond.Cond.TheOpen.{Term-F, Arg as ArgTerm, Fluent, Shift, Ite}
use Rattle.golog_tree.specs.declared.cond.Cond.TheViews.{roll-Cond, roll-Term}
use Rattle.golog_tree.specs.declared.cond.Cond.TheFolds.{ind-Cond, ind-Term, map-Cond, map-Term}
use Rattle.golog_semantics.specs.Truth.{Env, Values, unknown, is_known, truth, not_of, both, either, and_of, or_of, comparison_of, value_moved, value_shifted, chosen, constants, fluent_value, truth_of, value_of, cond_step, term_step, arg_value}
use Rattle.golog_semantics.specs.World.{Refines}
use Rattle.golog_semantics.specs.Certain.{KnownIsSo}
use Rattle.golog_semantics.proofs.Computed.{truth_roll, value_roll}

-- the second truth is the first, where that is known
abbrev pub So : Truth → Truth → Type 0
So Yes u = u ≡ Yes
So No u = u ≡ No
So Unknown u = ⊤

abbrev pub SoValue : ℕ → ℕ → Type 0
SoValue v w = IsTrue (is_known v) → w ≡ v

so-same : (t : Truth) → So t t
so-same Yes = refl
so-same No = refl
so-same Unknown = tt

pub so-not : (t u : Truth) → So t u → So (not_of t) (not_of u)
so-not Yes u h = ap not_of h
so-not No u h = ap not_of h
so-not Unknown u h = tt

both-no : (t : Truth) → both t No ≡ No
both-no Yes = refl
both-no No = refl
both-no Unknown = refl

so-both : (t u s r : Truth) → So t u → So s r → So (both t s) (both u r)
so-both Yes u s r h k = subst (λ x. So s (both x r)) (sym h) k
so-both No u s r h k = ap (λ x. both x r) h
so-both Unknown u Yes r h k = tt
so-both Unknown u No r h k = ap (both u) k ∙ both-no u
so-both Unknown u Unknown r h k = tt

so-either : (t u s r : Truth) → So t u → So s r → So (either t s) (either u r)
so-either t u s r h k = so-not (both (not_of t) (not_of s)) (both (not_of u) (not_of r)) (so-both (not_of t) (not_of u) (not_of s) (not_of r) (so-not t u h) (so-not s r k))

module _ {A : Type 0} (f g : A → Truth) (h : (a : A) → So (f a) (g a)) where
  so-and : (xs : List A) → So (and_of (map f xs)) (and_of (map g xs))
  so-and [] = refl
  so-and (x ∷ xs) = so-both (f x) (g x) (and_of (map f xs)) (and_of (map g xs)) (h x) (so-and xs)

  so-or : (xs : List A) → So (or_of (map f xs)) (or_of (map g xs))
  so-or [] = refl
  so-or (x ∷ xs) = so-either (f x) (g x) (or_of (map f xs)) (or_of (map g xs)) (h x) (so-or xs)

compared-known : (test : ℕ → ℕ → Bool) (a b : ℕ) (p q : Bool) → is_known a ≡ p → is_known b ≡ q → comparison_of test a b ≡ (if p && q then truth (test a b) else Unknown)
compared-known test a b p q e k = ap (λ (x : Bool × Bool). if x.0 && x.1 then truth (test a b) else Unknown) (λ i. (e i, k i))

so-compared : (test : ℕ → ℕ → Bool) (a a' b b' : ℕ) → SoValue a a' → SoValue b b' → So (comparison_of test a b) (comparison_of test a' b')
so-compared test a a' b b' h k = go (is_known a) (is_known b) refl refl
  where
    go : (p q : Bool) → is_known a ≡ p → is_known b ≡ q → So (comparison_of test a b) (comparison_of test a' b')
    go true true e f = subst (λ x. So (comparison_of test a b) (comparison_of test x b')) (sym (h e)) (subst (λ x. So (comparison_of test a b) (comparison_of test a x)) (sym (k f)) (so-same (comparison_of test a b)))
    go true false e f = subst (λ x. So x (comparison_of test a' b')) (sym (compared-known test a b true false e f)) tt
    go false q e f = subst (λ x. So x (comparison_of test a' b')) (sym (compared-known test a b false q e f)) tt

so-shifted : (size v w : ℕ) (by : ℤ) → SoValue v w → SoValue (value_shifted size v by) (value_shifted size w by)
so-shifted size v w by h = go (is_known v) refl
  where
    go : (p : Bool) → is_known v ≡ p → SoValue (value_shifted size v by) (value_shifted size w by)
    go true e = λ _. ap (λ x. value_shifted size x by) (h e)
    go false e = λ k. absurd (cc (subst (λ b. IsTrue (is_known (if b then value_moved size v by else unknown))) e k))

pub so-chosen : (t u : Truth) (a a' b b' : ℕ) → So t u → SoValue a a' → SoValue b b' → SoValue (chosen t a b) (chosen u a' b')
so-chosen Yes u a a' b b' s h k = λ known. subst (λ x. chosen x a' b' ≡ a) (sym s) (h known)
so-chosen No u a a' b b' s h k = λ known. subst (λ x. chosen x a' b' ≡ b) (sym s) (k known)
so-chosen Unknown u a a' b b' s h k = go (a == b) refl
  where
    same : (x : Truth) (c : ℕ) → chosen x c c ≡ c
    same Yes c = refl
    same No c = refl
    same Unknown c = ap (λ p. if p then c else unknown) (eq-eqb c c refl)

    equal : a ≡ b → IsTrue (is_known a) → chosen u a' b' ≡ a
    equal e known =
        let one : a' ≡ a = h known in
        let other : b' ≡ a = k (subst (λ x. IsTrue (is_known x)) e known) ∙ sym e in
        (λ i. chosen u (one i) (other i)) ∙ same u a

    go : (p : Bool) → (a == b) ≡ p → SoValue (if a == b then a else unknown) (chosen u a' b')
    go true e = subst (λ p. SoValue (if p then a else unknown) (chosen u a' b')) (sym e) (equal (eqb-true a b e))
    go false e = subst (λ p. SoValue (if p then a else unknown) (chosen u a' b')) (sym e) (λ known. absurd (cc known))

module _ (agent : Agent) (old new : Values) (more : Refines old new) where
  abbrev TruthStays : Cond → Type 0
  TruthStays c = (env : Env) → So (truth_of agent old c env) (truth_of agent new c env)

  abbrev ValueStays : Term → Type 0
  ValueStays t = (env : Env) → SoValue (value_of agent old t env) (value_of agent new t env)

  abbrev SomeCond : Type 0
  SomeCond = (c : Cond) × TruthStays c

  abbrev SomeTerm : Type 0
  SomeTerm = (t : Term) × ValueStays t

  so-all : (env : Env) (cs : List SomeCond) → So (and_of (map (λ c. c env) (map (truth_of agent old) (map (λ c. c.0) cs)))) (and_of (map (λ c. c env) (map (truth_of agent new) (map (λ c. c.0) cs))))
  so-all env [] = refl
  so-all env (c ∷ cs) = so-both _ _ _ _ (c.1 env) (so-all env cs)

  so-any : (env : Env) (cs : List SomeCond) → So (or_of (map (λ c. c env) (map (truth_of agent old) (map (λ c. c.0) cs)))) (or_of (map (λ c. c env) (map (truth_of agent new) (map (λ c. c.0) cs))))
  so-any env [] = refl
  so-any env (c ∷ cs) = so-either _ _ _ _ (c.1 env) (so-any env cs)

  abbrev conds : Cond-F SomeCond SomeTerm → Cond-F Cond Term
  conds y = map-Cond SomeCond SomeTerm Cond Term (λ c. c.0) (λ t. t.0) y

  abbrev terms : Term-F SomeCond SomeTerm → Term-F Cond Term
  terms y = map-Term SomeCond SomeTerm Cond Term (λ c. c.0) (λ t. t.0) y

  abbrev truths : Values → Cond-F Cond Term → Cond-F (Env → Truth) (Env → ℕ)
  truths values l = map-Cond Cond Term (Env → Truth) (Env → ℕ) (truth_of agent values) (value_of agent values) l

  abbrev numbers : Values → Term-F Cond Term → Term-F (Env → Truth) (Env → ℕ)
  numbers values l = map-Term Cond Term (Env → Truth) (Env → ℕ) (truth_of agent values) (value_of agent values) l

  cond_layer : (y : Cond-F SomeCond SomeTerm) (env : Env) → So (cond_step agent old (truths old (conds y)) env) (cond_step agent new (truths new (conds y)) env)
  cond_layer (Plain b) env = so-same (truth b)
  cond_layer (Is fluent args) env = so-compared nat_lt 0 0 (fluent_value agent old fluent (map (arg_value env) args)) (fluent_value agent new fluent (map (arg_value env) args)) (λ _. refl) (more.same (fluent_no agent fluent (map (arg_value env) args)))
  cond_layer (Equal sort one other) env = so-compared (λ a b. a == b) _ _ _ _ (one.1 env) (other.1 env)
  cond_layer (Less sort one other) env = so-compared nat_lt _ _ _ _ (one.1 env) (other.1 env)
  cond_layer (AtMost sort one other) env = so-compared nat_le _ _ _ _ (one.1 env) (other.1 env)
  cond_layer (Not c) env = so-not _ _ (c.1 env)
  cond_layer (And cs) env = so-all env cs
  cond_layer (Or cs) env = so-any env cs
  cond_layer (ForSome x sort c) env =
      so-or (λ v. truth_of agent old c.0 (slice_set env x v)) (λ v. truth_of agent new c.0 (slice_set env x v)) (λ v. c.1 (slice_set env x v)) (constants agent sort)
  cond_layer (ForAll x sort c) env =
      so-and (λ v. truth_of agent old c.0 (slice_set env x v)) (λ v. truth_of agent new c.0 (slice_set env x v)) (λ v. c.1 (slice_set env x v)) (constants agent sort)

  term_layer : (y : Term-F SomeCond SomeTerm) (env : Env) → SoValue (term_step agent old (numbers old (terms y)) env) (term_step agent new (numbers new (terms y)) env)
  term_layer (ArgTerm arg) env = λ _. refl
  term_layer (Fluent fluent args) env = more.same _
  term_layer (Shift sort t by) env = so-shifted _ _ _ by (t.1 env)
  term_layer (Ite c one other) env = so-chosen _ _ _ _ _ _ (c.1 env) (one.1 env) (other.1 env)

  cond_case : (y : Cond-F SomeCond SomeTerm) → TruthStays (roll-Cond (conds y))
  cond_case y env =
      subst (λ t. So t (truth_of agent new (roll-Cond (conds y)) env)) (sym (truth_roll agent old env (conds y)))
      (subst (λ t. So (cond_step agent old (truths old (conds y)) env) t) (sym (truth_roll agent new env (conds y))) (cond_layer y env))

  term_case : (y : Term-F SomeCond SomeTerm) → ValueStays (roll-Term (terms y))
  term_case y env =
      subst (λ v. SoValue v (value_of agent new (roll-Term (terms y)) env)) (sym (value_roll agent old env (terms y)))
      (subst (λ v. SoValue (term_step agent old (numbers old (terms y)) env) v) (sym (value_roll agent new env (terms y))) (term_layer y env))

  pub truth_stays : (c : Cond) → TruthStays c
  truth_stays = ind-Cond TruthStays ValueStays (λ x y is. subst (λ l. TruthStays (roll-Cond l)) is (cond_case y)) (λ x y is. subst (λ l. ValueStays (roll-Term l)) is (term_case y))

  pub value_stays : (t : Term) → ValueStays t
  value_stays = ind-Term TruthStays ValueStays (λ x y is. subst (λ l. TruthStays (roll-Cond l)) is (cond_case y)) (λ x y is. subst (λ l. ValueStays (roll-Term l)) is (term_case y))

  known_yes : (t u : Truth) → So t u → t ≡ Yes → u ≡ Yes
  known_yes Yes u h e = h
  known_yes No u h e = cc
  known_yes Unknown u h e = cc

  known_no : (t u : Truth) → So t u → t ≡ No → u ≡ No
  known_no Yes u h e = cc
  known_no No u h e = h
  known_no Unknown u h e = cc

  pub known_is_so : KnownIsSo agent old new
  known_is_so = record {
    yes = λ c env. known_yes _ _ (truth_stays c env);
    no = λ c env. known_no _ _ (truth_stays c env);
    value = value_stays;
  }
