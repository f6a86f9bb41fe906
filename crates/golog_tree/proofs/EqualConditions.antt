-- The derived equality of conditions and terms holds of equal ones alone.
use Rattle.std.proofs.Common.{◌≡◌, Bool, true, ◌&&◌, ◌==◌, List, [], sym, subst, ◌∙◌}
use Rattle.std.specs.Bool.{Decides, beq}
use Rattle.std.specs.Ordering.{int_eq}
use Rattle.std.specs.Cmp.{booleans_Decides, signed_Decides}
use Rattle.std.specs.Cmp.Lexicographic.{pointwise}
use Rattle.std.proofs.lemmas.Bool.{eqb-true}
use denote.Enum.Compared.{Each}
use denote.Hole.Carrier.{out, roll, shown, hidden}
use Rattle.golog_tree.specs.declared.cond.Arg.{Arg}
use Rattle.golog_tree.specs.declared.cond.Term.{Term}
use Rattle.golog_tree.specs.declared.cond.Cond.{Cond}
use Rattle.golog_tree.specs.declared.cond.Cond.TheBlock as block
use Rattle.golog_tree.specs.declared.cond.Cond.TheOpen.{Cond-F, Truth, Is, Equal, Less, AtMost, Not, And, Or}
use Rattle.golog_tree.specs.declared.cond.Cond.TheOpen.{ForSome, ForAll, Term-F, Arg as Argument, Fluent, Shift, Ite}
use Rattle.golog_tree.specs.declared.cond.Cond.TheViews.{roll-Cond, out-Cond, out-roll-Cond, roll-Term, out-Term}
use Rattle.golog_tree.specs.declared.cond.Cond.TheFolds.{ind-Cond, ind-Term, map-Cond, map-Term}
use Rattle.golog_tree.specs.contracts.cond.Cond as cond_type
use Rattle.golog_tree.specs.contracts.cond.Term as term_type
use Rattle.golog_tree.specs.contracts.cond.ArgPartialEq.TheImpl as arg
use Rattle.golog_tree.specs.contracts.cond.CondPartialEq.TheImpl as cond
use Rattle.golog_tree.specs.contracts.cond.CondPartialEq.TheImpl.Laws as cond_law
use Rattle.golog_tree.specs.contracts.cond.TermPartialEq.TheImpl as term
use Rattle.golog_tree.specs.contracts.cond.TermPartialEq.TheImpl.Laws as term_law
use Rattle.golog_tree.specs.contracts.cond.CondEq.TheImpl.Laws as cond_whole
use Rattle.golog_tree.specs.contracts.cond.TermEq.TheImpl.Laws as term_whole
use Rattle.golog_tree.proofs.Tells.{◌▹◌, last, then, Tells, Told, list-tells, At, value-tells}
use Rattle.golog_tree.proofs.EqualArguments.{arg-decides, args-tell}

abbrev pub eq-cond : Cond → Cond → Bool
eq-cond = (cond.ghosts).eq

abbrev pub eq-term : Term → Term → Bool
eq-term = (term.ghosts).eq

abbrev eq-args : List Arg → List Arg → Bool
eq-args = pointwise (arg.ghosts).eq

-- the test of each condition's parts
abbrev cond-tests : Each Bool cond_type.the_parts
cond-tests =
    (λ x y. beq x.0 y.0) ▹
    (λ x y. (x.0 == y.0) && eq-args x.1.0 y.1.0) ▹
    (λ x y. (x.0 == y.0) && (eq-term x.1.0 y.1.0 && eq-term x.1.1.0 y.1.1.0)) ▹
    (λ x y. (x.0 == y.0) && (eq-term x.1.0 y.1.0 && eq-term x.1.1.0 y.1.1.0)) ▹
    (λ x y. (x.0 == y.0) && (eq-term x.1.0 y.1.0 && eq-term x.1.1.0 y.1.1.0)) ▹
    (λ x y. eq-cond x.0 y.0) ▹
    (λ x y. pointwise eq-cond x.0 y.0) ▹
    (λ x y. pointwise eq-cond x.0 y.0) ▹
    (λ x y. (x.0 == y.0) && ((x.1.0 == y.1.0) && eq-cond x.1.1.0 y.1.1.0)) ▹
    (λ x y. (x.0 == y.0) && ((x.1.0 == y.1.0) && eq-cond x.1.1.0 y.1.1.0)) ▹
    tt

-- the test of each term's parts
abbrev term-tests : Each Bool term_type.the_parts
term-tests =
    (λ x y. (arg.ghosts).eq x.0 y.0) ▹
    (λ x y. (x.0 == y.0) && eq-args x.1.0 y.1.0) ▹
    (λ x y. (x.0 == y.0) && (eq-term x.1.0 y.1.0 && int_eq x.1.1.0 y.1.1.0)) ▹
    (λ x y. eq-cond x.0 y.0 && (eq-term x.1.0 y.1.0 && eq-term x.1.1.0 y.1.1.0)) ▹
    tt

abbrev SomeCond : Type 0
SomeCond = Told eq-cond

abbrev SomeTerm : Type 0
SomeTerm = Told eq-term

abbrev conds : Cond-F SomeCond SomeTerm → Cond-F Cond Term
conds y = map-Cond SomeCond SomeTerm Cond Term (λ c. c.0) (λ t. t.0) y

abbrev terms : Term-F SomeCond SomeTerm → Term-F Cond Term
terms y = map-Term SomeCond SomeTerm Cond Term (λ c. c.0) (λ t. t.0) y

abbrev parts_of : Cond-F Cond Term → List Cond
parts_of (And cs) = cs
parts_of (Or cs) = cs
parts_of _ = []

abbrev CondTells : Cond-F SomeCond SomeTerm → Type 0
CondTells y = At cond_type.the_parts cond-tests (cond_type.as_values (roll-Cond (conds y)))

abbrev TermTells : Term-F SomeCond SomeTerm → Type 0
TermTells y = At term_type.the_parts term-tests (term_type.as_values (roll-Term (terms y)))

cond-at : (y : Cond-F SomeCond SomeTerm) → CondTells y
unfolding out-Cond roll-Cond out roll shown hidden block.shown-the_row-Cond-0 block.shown-the_row-Cond-1
cond-at (Truth b) = λ v. last (booleans_Decides b v.0).0
cond-at (Is n ps) = λ v. then (eqb-true n v.0) (last (args-tell ps v.1.0))
cond-at (Equal n t u) = λ v. then (eqb-true n v.0) (then (t.1 v.1.0) (last (u.1 v.1.1.0)))
cond-at (Less n t u) = λ v. then (eqb-true n v.0) (then (t.1 v.1.0) (last (u.1 v.1.1.0)))
cond-at (AtMost n t u) = λ v. then (eqb-true n v.0) (then (t.1 v.1.0) (last (u.1 v.1.1.0)))
cond-at (Not c) = λ v. last (c.1 v.0)
cond-at (And cs) = λ v. last (list-tells eq-cond cs _ (λ i. parts_of (out-roll-Cond (conds (And cs)) i)) v.0)
cond-at (Or cs) = λ v. last (list-tells eq-cond cs _ (λ i. parts_of (out-roll-Cond (conds (Or cs)) i)) v.0)
cond-at (ForSome x n c) = λ v. then (eqb-true x v.0) (then (eqb-true n v.1.0) (last (c.1 v.1.1.0)))
cond-at (ForAll x n c) = λ v. then (eqb-true x v.0) (then (eqb-true n v.1.0) (last (c.1 v.1.1.0)))

term-at : (y : Term-F SomeCond SomeTerm) → TermTells y
unfolding out-Term roll-Term out roll shown hidden block.shown-the_row-Cond-0 block.shown-the_row-Term-2
term-at (Argument a) = λ v. last (arg-decides a v.0).0
term-at (Fluent n ps) = λ v. then (eqb-true n v.0) (last (args-tell ps v.1.0))
term-at (Shift n t z) = λ v. then (eqb-true n v.0) (then (t.1 v.1.0) (last (signed_Decides z v.1.1.0).0))
term-at (Ite c t u) = λ v. then (c.1 v.0) (then (t.1 v.1.0) (last (u.1 v.1.1.0)))

cond-layer : (y : Cond-F SomeCond SomeTerm) → Tells eq-cond (roll-Cond (conds y))
cond-layer y c e =
    let d = roll-Cond (conds y) in
    value-tells cond_type.enum cond-tests d (cond-at y) c (sym (cond_law.is d c) ∙ e)

term-layer : (y : Term-F SomeCond SomeTerm) → Tells eq-term (roll-Term (terms y))
term-layer y t e =
    let d = roll-Term (terms y) in
    value-tells term_type.enum term-tests d (term-at y) t (sym (term_law.is d t) ∙ e)

made-cond : (x : Cond-F Cond Term) (y : Cond-F SomeCond SomeTerm) → conds y ≡ x → Tells eq-cond (roll-Cond x)
made-cond x y is = subst (λ l. Tells eq-cond (roll-Cond l)) is (cond-layer y)

made-term : (x : Term-F Cond Term) (y : Term-F SomeCond SomeTerm) → terms y ≡ x → Tells eq-term (roll-Term x)
made-term x y is = subst (λ l. Tells eq-term (roll-Term l)) is (term-layer y)

pub conds-tell : (c : Cond) → Tells eq-cond c
conds-tell = ind-Cond (Tells eq-cond) (Tells eq-term) made-cond made-term

pub cond-decides : (c d : Cond) → Decides (eq-cond c d) (c ≡ d)
cond-decides c d = (conds-tell c d, λ e. subst (λ x. eq-cond c x ≡ true) e (cond_whole.laws-law.refl c))

terms-tell : (t : Term) → Tells eq-term t
terms-tell = ind-Term (Tells eq-cond) (Tells eq-term) made-cond made-term

pub term-decides : (t u : Term) → Decides (eq-term t u) (t ≡ u)
term-decides t u = (terms-tell t u, λ e. subst (λ x. eq-term t x ≡ true) e (term_whole.laws-law.refl t))
