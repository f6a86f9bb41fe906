-- The derived equality of arguments and of labels holds of equal ones alone.
use Rattle.std.proofs.Common.{◌≡◌, true, refl, List, ap}
use Rattle.std.specs.Cmp.Lexicographic.{pointwise, pointwise_decides}
use Rattle.std.specs.Bool.{Decides}
use Rattle.std.proofs.lemmas.Bool.{eqb-true, eq-eqb}
use Rattle.golog_tree.specs.declared.cond.Arg.{Arg}
use Rattle.golog_tree.specs.declared.cond.Arg.TheVariants.{Const, Var}
use Rattle.golog_tree.specs.declared.prog.Label.{Label}
use Rattle.golog_tree.specs.declared.prog.Label.TheVariants.{Quiet, Do}
use Rattle.golog_tree.specs.contracts.cond.ArgPartialEq.TheImpl as arg
use Rattle.golog_tree.specs.contracts.prog.LabelPartialEq.TheImpl as label

pub arg-decides : (a b : Arg) → Decides ((arg.ghosts).eq a b) (a ≡ b)
arg-decides (Const a) (Const b) = (λ t. ap Const (eqb-true a b t), λ k. eq-eqb a b (cc))
arg-decides (Const a) (Var b) = (λ t. absurd (cc), λ k. absurd (cc))
arg-decides (Var a) (Const b) = (λ t. absurd (cc), λ k. absurd (cc))
arg-decides (Var a) (Var b) = (λ t. ap Var (eqb-true a b t), λ k. eq-eqb a b (cc))

pub args-tell : (xs ys : List Arg) → pointwise (arg.ghosts).eq xs ys ≡ true → xs ≡ ys
args-tell xs ys = (pointwise_decides arg-decides xs ys).0

pub label-tells : (a b : Label) → (label.ghosts).eq a b ≡ true → a ≡ b
label-tells Quiet Quiet t = refl
label-tells Quiet (Do b) t = absurd (cc)
label-tells (Do a) Quiet t = absurd (cc)
label-tells (Do a) (Do b) t = ap Do (eqb-true a b t)
