-- The derived equality of programs and steps holds of equal ones alone.
use Rattle.std.proofs.Common.{◌≡◌, Bool, true, ◌&&◌, ◌==◌, List, [], refl, sym, subst, ◌∙◌}
use Rattle.std.specs.Bool.{Decides}
use Rattle.std.specs.Cmp.Lexicographic.{pointwise, pointwise_decides}
use Rattle.std.proofs.lemmas.Bool.{eqb-true}
use denote.Enum.Compared.{Each}
use denote.Hole.Carrier.{out, roll, shown, hidden}
use Rattle.golog_tree.specs.declared.cond.Arg.{Arg}
use Rattle.golog_tree.specs.declared.prog.Prog.{Prog}
use Rattle.golog_tree.specs.declared.prog.Way.{Way}
use Rattle.golog_tree.specs.declared.prog.Prog.TheBlock as block
use Rattle.golog_tree.specs.declared.prog.Prog.TheOpen.{Prog-F, Way-F, Nil, Act, Test, Seq, Choice, Pick, Star, If}
use Rattle.golog_tree.specs.declared.prog.Prog.TheOpen.{While, Conc, Prio, Cstar, Call, Search, Follow}
use Rattle.golog_tree.specs.declared.prog.Prog.TheViews.{roll-Prog, out-Prog, out-roll-Prog, roll-Way}
use Rattle.golog_tree.specs.declared.prog.Prog.TheFolds.{ind-Prog, ind-Way, map-Prog, map-Way}
use Rattle.golog_tree.specs.contracts.prog.Prog as type
use Rattle.golog_tree.specs.contracts.cond.ArgPartialEq.TheImpl as arg
use Rattle.golog_tree.specs.contracts.prog.ProgPartialEq.TheImpl as prog
use Rattle.golog_tree.specs.contracts.prog.ProgPartialEq.TheImpl.Laws as prog_law
use Rattle.golog_tree.specs.contracts.prog.WayPartialEq.TheImpl as way
use Rattle.golog_tree.specs.contracts.prog.WayPartialEq.TheImpl.Laws as way_law
use Rattle.golog_tree.specs.contracts.prog.ProgEq.TheImpl.Laws as prog_whole
use Rattle.golog_tree.specs.contracts.prog.WayEq.TheImpl.Laws as way_whole
use Rattle.golog_tree.proofs.Tells.{◌▹◌, both, last, then, Tells, Told, list-tells, At, value-tells}
use Rattle.golog_tree.proofs.EqualArguments.{args-tell, label-tells}
use Rattle.golog_tree.proofs.EqualConditions.{eq-cond, conds-tell}

abbrev pub eq-prog : Prog → Prog → Bool
eq-prog = (prog.ghosts).eq

abbrev pub eq-way : Way → Way → Bool
eq-way = (way.ghosts).eq

abbrev eq-ways : List Way → List Way → Bool
eq-ways = pointwise eq-way

abbrev eq-args : List Arg → List Arg → Bool
eq-args = pointwise (arg.ghosts).eq

-- the test of each construct's parts
abbrev tests : Each Bool type.the_parts
tests =
    (λ x y. true) ▹
    (λ x y. (x.0 == y.0) && eq-args x.1.0 y.1.0) ▹
    (λ x y. eq-cond x.0 y.0) ▹
    (λ x y. eq-prog x.0 y.0 && eq-prog x.1.0 y.1.0) ▹
    (λ x y. eq-prog x.0 y.0 && eq-prog x.1.0 y.1.0) ▹
    (λ x y. (x.0 == y.0) && ((x.1.0 == y.1.0) && eq-prog x.1.1.0 y.1.1.0)) ▹
    (λ x y. eq-prog x.0 y.0) ▹
    (λ x y. eq-cond x.0 y.0 && (eq-prog x.1.0 y.1.0 && eq-prog x.1.1.0 y.1.1.0)) ▹
    (λ x y. eq-cond x.0 y.0 && eq-prog x.1.0 y.1.0) ▹
    (λ x y. eq-prog x.0 y.0 && eq-prog x.1.0 y.1.0) ▹
    (λ x y. eq-prog x.0 y.0 && eq-prog x.1.0 y.1.0) ▹
    (λ x y. eq-prog x.0 y.0) ▹
    (λ x y. (x.0 == y.0) && eq-args x.1.0 y.1.0) ▹
    (λ x y. (x.0 == y.0) && ((x.1.0 == y.1.0) && eq-prog x.1.1.0 y.1.1.0)) ▹
    (λ x y. (x.0 == y.0) && ((x.1.0 == y.1.0) && (eq-prog x.1.1.0 y.1.1.0 && eq-ways x.1.1.1.0 y.1.1.1.0))) ▹
    tt

abbrev SomeProg : Type 0
SomeProg = Told eq-prog

abbrev SomeWay : Type 0
SomeWay = Told eq-way

abbrev progs : Prog-F SomeProg SomeWay → Prog-F Prog Way
progs y = map-Prog SomeProg SomeWay Prog Way (λ p. p.0) (λ w. w.0) y

abbrev ways : Way-F SomeProg SomeWay → Way-F Prog Way
ways y = map-Way SomeProg SomeWay Prog Way (λ p. p.0) (λ w. w.0) y

abbrev rest_of : Prog-F Prog Way → List Way
rest_of (Follow depth fuel p rest) = rest
rest_of _ = []

at : (y : Prog-F SomeProg SomeWay) → At type.the_parts tests (type.as_values (roll-Prog (progs y)))
unfolding out-Prog roll-Prog out roll shown hidden block.shown-the_row-Prog-0
at Nil = λ v e. refl
at (Act n ps) = λ v. then (eqb-true n v.0) (last (args-tell ps v.1.0))
at (Test c) = λ v. last (conds-tell c v.0)
at (Seq p q) = λ v. then (p.1 v.0) (last (q.1 v.1.0))
at (Choice p q) = λ v. then (p.1 v.0) (last (q.1 v.1.0))
at (Pick x n p) = λ v. then (eqb-true x v.0) (then (eqb-true n v.1.0) (last (p.1 v.1.1.0)))
at (Star p) = λ v. last (p.1 v.0)
at (If c p q) = λ v. then (conds-tell c v.0) (then (p.1 v.1.0) (last (q.1 v.1.1.0)))
at (While c p) = λ v. then (conds-tell c v.0) (last (p.1 v.1.0))
at (Conc p q) = λ v. then (p.1 v.0) (last (q.1 v.1.0))
at (Prio p q) = λ v. then (p.1 v.0) (last (q.1 v.1.0))
at (Cstar p) = λ v. last (p.1 v.0)
at (Call n ps) = λ v. then (eqb-true n v.0) (last (args-tell ps v.1.0))
at (Search n k p) = λ v. then (eqb-true n v.0) (then (eqb-true k v.1.0) (last (p.1 v.1.1.0)))
at (Follow n k p rest) = λ v.
    let o = out-roll-Prog (progs (Follow n k p rest)) in
    let tells = list-tells eq-way rest _ (λ i. rest_of (o i)) v.1.1.1.0 in
    then (eqb-true n v.0) (then (eqb-true k v.1.0) (then (p.1 v.1.1.0) (last tells)))

prog-layer : (y : Prog-F SomeProg SomeWay) → Tells eq-prog (roll-Prog (progs y))
prog-layer y q e =
    let p = roll-Prog (progs y) in
    value-tells type.enum tests p (at y) q (sym (prog_law.is p q) ∙ e)

way-layer : (y : Way-F SomeProg SomeWay) → Tells eq-way (roll-Way (ways y))
way-layer y v e =
    let h = both (label-tells y.label v.label) (y.left.1 v.left) (sym (way_law.is (roll-Way (ways y)) v) ∙ e) in
    λ i. record { label = h.0 i; left = h.1 i }

made-prog : (x : Prog-F Prog Way) (y : Prog-F SomeProg SomeWay) → progs y ≡ x → Tells eq-prog (roll-Prog x)
made-prog x y is = subst (λ l. Tells eq-prog (roll-Prog l)) is (prog-layer y)

made-way : (x : Way-F Prog Way) (y : Way-F SomeProg SomeWay) → ways y ≡ x → Tells eq-way (roll-Way x)
made-way x y is = subst (λ l. Tells eq-way (roll-Way l)) is (way-layer y)

progs-tell : (p : Prog) → Tells eq-prog p
progs-tell = ind-Prog (Tells eq-prog) (Tells eq-way) made-prog made-way

pub prog-decides : (p q : Prog) → Decides (eq-prog p q) (p ≡ q)
prog-decides p q = (progs-tell p q, λ e. subst (λ x. eq-prog p x ≡ true) e (prog_whole.laws-law.refl p))

ways-tell : (w : Way) → Tells eq-way w
ways-tell = ind-Way (Tells eq-prog) (Tells eq-way) made-prog made-way

pub way-decides : (w v : Way) → Decides (eq-way w v) (w ≡ v)
way-decides w v = (ways-tell w v, λ e. subst (λ x. eq-way w x ≡ true) e (way_whole.laws-law.refl w))

pub ways-decide : (ws vs : List Way) → Decides (eq-ways ws vs) (ws ≡ vs)
ways-decide = pointwise_decides way-decides
