-- Folds over conditions and terms, constants put in, and induction, construct by construct.
use Rattle.std.proofs.Common.{◌≡◌, ℕ, ℤ, Bool, List, [], ◌∷◌, map, refl, sym, ap, ◌∙◌, subst}
use Rattle.golog_tree.specs.declared.cond.Arg.{Arg}
use Rattle.golog_tree.specs.declared.cond.Term.{Term}
use Rattle.golog_tree.specs.declared.cond.Cond.{Cond}
use Rattle.golog_tree.specs.declared.cond.Term.TheVariants as term
use Rattle.golog_tree.specs.declared.cond.Cond.TheVariants as cond
use Rattle.golog_tree.specs.declared.cond.Cond.TheOpen.{Term-F, Arg as ArgTerm, Fluent, Shift, Ite}
use Rattle.golog_tree.specs.declared.cond.Cond.TheOpen.{Cond-F, Truth, Is, Equal, Less, AtMost, Not, And, Or, ForSome, ForAll}
use Rattle.golog_tree.specs.declared.cond.Cond.TheViews.{roll-Cond, roll-Term}
use Rattle.golog_tree.specs.declared.cond.Cond.TheFolds.{fold-Cond, fold-Term, fold-roll-Cond, fold-roll-Term, ind-Cond, ind-Term, map-Cond, map-Term}
use Rattle.golog_tree.specs.Substitute.{Put, within, arg_put, cond_put, cond_step, term_put, term_step}
use Rattle.golog_tree.proofs.Substituted.{cond_put-And, cond_put-Or}
use Rattle.golog_semantics.proofs.ByParts.{OfEach}

module _ (A B : Type 0) (step : Cond-F A B → A) (step' : Term-F A B → B) where
  abbrev of : Cond → A
  of = fold-Cond A B step step'

  abbrev of_term : Term → B
  of_term = fold-Term A B step step'

  pub fold-arg : (arg : Arg) → of_term (term.Arg arg) ≡ step' (ArgTerm arg)
  fold-arg arg = ap of_term (sym (term.rolls-Arg arg)) ∙ fold-roll-Term A B step step' (ArgTerm arg)

  pub fold-fluent : (fluent : ℕ) (args : List Arg) → of_term (term.Fluent fluent args) ≡ step' (Fluent fluent args)
  fold-fluent fluent args = ap of_term (sym (term.rolls-Fluent fluent args)) ∙ fold-roll-Term A B step step' (Fluent fluent args)

  pub fold-shift : (sort : ℕ) (t : Term) (by : ℤ) → of_term (term.Shift sort t by) ≡ step' (Shift sort (of_term t) by)
  fold-shift sort t by = ap of_term (sym (term.rolls-Shift sort t by)) ∙ fold-roll-Term A B step step' (Shift sort t by)

  pub fold-ite : (c : Cond) (t : Term) (u : Term) → of_term (term.Ite c t u) ≡ step' (Ite (of c) (of_term t) (of_term u))
  fold-ite c t u = ap of_term (sym (term.rolls-Ite c t u)) ∙ fold-roll-Term A B step step' (Ite c t u)

  pub fold-truth : (b : Bool) → of (cond.Truth b) ≡ step (Truth b)
  fold-truth b = ap of (sym (cond.rolls-Truth b)) ∙ fold-roll-Cond A B step step' (Truth b)

  pub fold-is : (fluent : ℕ) (args : List Arg) → of (cond.Is fluent args) ≡ step (Is fluent args)
  fold-is fluent args = ap of (sym (cond.rolls-Is fluent args)) ∙ fold-roll-Cond A B step step' (Is fluent args)

  pub fold-equal : (sort : ℕ) (t : Term) (u : Term) → of (cond.Equal sort t u) ≡ step (Equal sort (of_term t) (of_term u))
  fold-equal sort t u = ap of (sym (cond.rolls-Equal sort t u)) ∙ fold-roll-Cond A B step step' (Equal sort t u)

  pub fold-less : (sort : ℕ) (t : Term) (u : Term) → of (cond.Less sort t u) ≡ step (Less sort (of_term t) (of_term u))
  fold-less sort t u = ap of (sym (cond.rolls-Less sort t u)) ∙ fold-roll-Cond A B step step' (Less sort t u)

  pub fold-at_most : (sort : ℕ) (t : Term) (u : Term) → of (cond.AtMost sort t u) ≡ step (AtMost sort (of_term t) (of_term u))
  fold-at_most sort t u = ap of (sym (cond.rolls-AtMost sort t u)) ∙ fold-roll-Cond A B step step' (AtMost sort t u)

  pub fold-not : (c : Cond) → of (cond.Not c) ≡ step (Not (of c))
  fold-not c = ap of (sym (cond.rolls-Not c)) ∙ fold-roll-Cond A B step step' (Not c)

  pub fold-and : (cs : List Cond) → of (cond.And cs) ≡ step (And (map of cs))
  fold-and cs = ap of (sym (cond.rolls-And cs)) ∙ fold-roll-Cond A B step step' (And cs)

  pub fold-or : (cs : List Cond) → of (cond.Or cs) ≡ step (Or (map of cs))
  fold-or cs = ap of (sym (cond.rolls-Or cs)) ∙ fold-roll-Cond A B step step' (Or cs)

  pub fold-some : (x : ℕ) (sort : ℕ) (c : Cond) → of (cond.ForSome x sort c) ≡ step (ForSome x sort (of c))
  fold-some x sort c = ap of (sym (cond.rolls-ForSome x sort c)) ∙ fold-roll-Cond A B step step' (ForSome x sort c)

  pub fold-all : (x : ℕ) (sort : ℕ) (c : Cond) → of (cond.ForAll x sort c) ≡ step (ForAll x sort (of c))
  fold-all x sort c = ap of (sym (cond.rolls-ForAll x sort c)) ∙ fold-roll-Cond A B step step' (ForAll x sort c)

abbrev PC : Type 0
PC = Put → Cond

abbrev PT : Type 0
PT = Put → Term

pub put-arg : (arg : Arg) (put : Put) → term_put (term.Arg arg) put ≡ term.Arg (arg_put put arg)
put-arg arg put = ap (λ (f : PT). f put) (fold-arg PC PT cond_step term_step arg)

pub put-fluent : (fluent : ℕ) (args : List Arg) (put : Put) → term_put (term.Fluent fluent args) put ≡ term.Fluent fluent (map (arg_put put) args)
put-fluent fluent args put = ap (λ (f : PT). f put) (fold-fluent PC PT cond_step term_step fluent args)

pub put-shift : (sort : ℕ) (t : Term) (by : ℤ) (put : Put) → term_put (term.Shift sort t by) put ≡ term.Shift sort (term_put t put) by
put-shift sort t by put = ap (λ (f : PT). f put) (fold-shift PC PT cond_step term_step sort t by)

pub put-ite : (c : Cond) (t : Term) (u : Term) (put : Put) → term_put (term.Ite c t u) put ≡ term.Ite (cond_put c put) (term_put t put) (term_put u put)
put-ite c t u put = ap (λ (f : PT). f put) (fold-ite PC PT cond_step term_step c t u)

pub put-truth : (b : Bool) (put : Put) → cond_put (cond.Truth b) put ≡ cond.Truth b
put-truth b put = ap (λ (f : PC). f put) (fold-truth PC PT cond_step term_step b)

pub put-is : (fluent : ℕ) (args : List Arg) (put : Put) → cond_put (cond.Is fluent args) put ≡ cond.Is fluent (map (arg_put put) args)
put-is fluent args put = ap (λ (f : PC). f put) (fold-is PC PT cond_step term_step fluent args)

pub put-equal : (sort : ℕ) (t : Term) (u : Term) (put : Put) → cond_put (cond.Equal sort t u) put ≡ cond.Equal sort (term_put t put) (term_put u put)
put-equal sort t u put = ap (λ (f : PC). f put) (fold-equal PC PT cond_step term_step sort t u)

pub put-less : (sort : ℕ) (t : Term) (u : Term) (put : Put) → cond_put (cond.Less sort t u) put ≡ cond.Less sort (term_put t put) (term_put u put)
put-less sort t u put = ap (λ (f : PC). f put) (fold-less PC PT cond_step term_step sort t u)

pub put-at_most : (sort : ℕ) (t : Term) (u : Term) (put : Put) → cond_put (cond.AtMost sort t u) put ≡ cond.AtMost sort (term_put t put) (term_put u put)
put-at_most sort t u put = ap (λ (f : PC). f put) (fold-at_most PC PT cond_step term_step sort t u)

pub put-not : (c : Cond) (put : Put) → cond_put (cond.Not c) put ≡ cond.Not (cond_put c put)
put-not c put = ap (λ (f : PC). f put) (fold-not PC PT cond_step term_step c)

pub put-and : (cs : List Cond) (put : Put) → cond_put (cond.And cs) put ≡ cond.And (map (λ c. cond_put c put) cs)
put-and = cond_put-And

pub put-or : (cs : List Cond) (put : Put) → cond_put (cond.Or cs) put ≡ cond.Or (map (λ c. cond_put c put) cs)
put-or = cond_put-Or

pub put-some : (x : ℕ) (sort : ℕ) (c : Cond) (put : Put) → cond_put (cond.ForSome x sort c) put ≡ cond.ForSome x sort (cond_put c (within x put))
put-some x sort c put = ap (λ (f : PC). f put) (fold-some PC PT cond_step term_step x sort c)

pub put-all : (x : ℕ) (sort : ℕ) (c : Cond) (put : Put) → cond_put (cond.ForAll x sort c) put ≡ cond.ForAll x sort (cond_put c (within x put))
put-all x sort c put = ap (λ (f : PC). f put) (fold-all PC PT cond_step term_step x sort c)

-- the cases of an induction over conditions and terms
pub record Cases (P : Cond → Type 0) (Q : Term → Type 0) : Type 0 where
  pub arg_case : (arg : Arg) → Q (term.Arg arg)
  pub fluent_case : (fluent : ℕ) (args : List Arg) → Q (term.Fluent fluent args)
  pub shift_case : (sort : ℕ) (t : Term) (by : ℤ) → Q t → Q (term.Shift sort t by)
  pub ite_case : (c : Cond) (t : Term) (u : Term) → P c → Q t → Q u → Q (term.Ite c t u)
  pub truth_case : (b : Bool) → P (cond.Truth b)
  pub is_case : (fluent : ℕ) (args : List Arg) → P (cond.Is fluent args)
  pub equal_case : (sort : ℕ) (t : Term) (u : Term) → Q t → Q u → P (cond.Equal sort t u)
  pub less_case : (sort : ℕ) (t : Term) (u : Term) → Q t → Q u → P (cond.Less sort t u)
  pub at_most_case : (sort : ℕ) (t : Term) (u : Term) → Q t → Q u → P (cond.AtMost sort t u)
  pub not_case : (c : Cond) → P c → P (cond.Not c)
  pub and_case : (cs : List Cond) → OfEach P cs → P (cond.And cs)
  pub or_case : (cs : List Cond) → OfEach P cs → P (cond.Or cs)
  pub some_case : (x : ℕ) (sort : ℕ) (c : Cond) → P c → P (cond.ForSome x sort c)
  pub all_case : (x : ℕ) (sort : ℕ) (c : Cond) → P c → P (cond.ForAll x sort c)

module _ (P : Cond → Type 0) (Q : Term → Type 0) (cases : Cases P Q) where
  abbrev AC : Type 0
  AC = (c : Cond) × P c

  abbrev AT : Type 0
  AT = (t : Term) × Q t

  abbrev term_of : Term-F AC AT → Term-F Cond Term
  term_of = map-Term AC AT Cond Term (λ e. e.0) (λ e. e.0)

  abbrev cond_of : Cond-F AC AT → Cond-F Cond Term
  cond_of = map-Cond AC AT Cond Term (λ e. e.0) (λ e. e.0)

  each : (cs : List AC) → OfEach P (map (λ e. e.0) cs)
  each [] = tt
  each (c ∷ cs) = (c.1, each cs)

  term_layer : (y : Term-F AC AT) → Q (roll-Term (term_of y))
  term_layer (ArgTerm arg) = subst Q (sym (term.rolls-Arg arg)) (cases.arg_case arg)
  term_layer (Fluent fluent args) = subst Q (sym (term.rolls-Fluent fluent args)) (cases.fluent_case fluent args)
  term_layer (Shift sort t by) = subst Q (sym (term.rolls-Shift sort t.0 by)) (cases.shift_case sort t.0 by t.1)
  term_layer (Ite c t u) = subst Q (sym (term.rolls-Ite c.0 t.0 u.0)) (cases.ite_case c.0 t.0 u.0 c.1 t.1 u.1)

  cond_layer : (y : Cond-F AC AT) → P (roll-Cond (cond_of y))
  cond_layer (Truth b) = subst P (sym (cond.rolls-Truth b)) (cases.truth_case b)
  cond_layer (Is fluent args) = subst P (sym (cond.rolls-Is fluent args)) (cases.is_case fluent args)
  cond_layer (Equal sort t u) = subst P (sym (cond.rolls-Equal sort t.0 u.0)) (cases.equal_case sort t.0 u.0 t.1 u.1)
  cond_layer (Less sort t u) = subst P (sym (cond.rolls-Less sort t.0 u.0)) (cases.less_case sort t.0 u.0 t.1 u.1)
  cond_layer (AtMost sort t u) = subst P (sym (cond.rolls-AtMost sort t.0 u.0)) (cases.at_most_case sort t.0 u.0 t.1 u.1)
  cond_layer (Not c) = subst P (sym (cond.rolls-Not c.0)) (cases.not_case c.0 c.1)
  cond_layer (And cs) = subst P (sym (cond.rolls-And (map (λ e. e.0) cs))) (cases.and_case (map (λ e. e.0) cs) (each cs))
  cond_layer (Or cs) = subst P (sym (cond.rolls-Or (map (λ e. e.0) cs))) (cases.or_case (map (λ e. e.0) cs) (each cs))
  cond_layer (ForSome x sort c) = subst P (sym (cond.rolls-ForSome x sort c.0)) (cases.some_case x sort c.0 c.1)
  cond_layer (ForAll x sort c) = subst P (sym (cond.rolls-ForAll x sort c.0)) (cases.all_case x sort c.0 c.1)

  pub cond_by_parts : (c : Cond) → P c
  cond_by_parts = ind-Cond P Q (λ x y is. subst (λ z. P (roll-Cond z)) is (cond_layer y)) (λ x y is. subst (λ z. Q (roll-Term z)) is (term_layer y))

  pub term_by_parts : (t : Term) → Q t
  term_by_parts = ind-Term P Q (λ x y is. subst (λ z. P (roll-Cond z)) is (cond_layer y)) (λ x y is. subst (λ z. Q (roll-Term z)) is (term_layer y))
