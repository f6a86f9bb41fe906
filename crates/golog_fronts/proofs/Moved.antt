-- What is said of a program, of one that equals it.
use Rattle.std.proofs.Common.{◌≡◌, sym, ap, ◌∙◌, subst}
use Rattle.std.specs.Prelude.{Result, IfOk}
use Rattle.std.proofs.lemmas.Result.{IfOk-weaker}
use Rattle.golog_tree.specs.declared.agent.Agent.{Agent}
use Rattle.golog_tree.specs.declared.prog.Prog.{Prog}
use Rattle.golog_semantics.specs.Guarded.{front}
use Rattle.golog_fronts.specs.Closed.{IsClosed}

-- a construct whose part is given by another name
pub one_same : {A : Type 0} (f : A → Prog) {r : Prog} {p a : A} → r ≡ f p → a ≡ p → r ≡ f a
one_same f e h = e ∙ ap f (sym h)

pub two_same : (f : Prog → Prog → Prog) {r p q a b : Prog} → r ≡ f p q → a ≡ p → b ≡ q → r ≡ f a b
two_same f {r} {p} {q} {a} {b} e h k = e ∙ ap (λ (z : Prog). f z q) (sym h) ∙ ap (f a) (sym k)

pub closed_as : {agent : Agent} {r q : Prog} → r ≡ q → IsClosed agent r → IsClosed agent q
closed_as {agent} e c = subst (λ (z : Prog). IsClosed agent z) e c

pub closed_again : {agent : Agent} {r q : Prog} → q ≡ r → IsClosed agent r → IsClosed agent q
closed_again {agent} e c = subst (λ (z : Prog). IsClosed agent z) (sym e) c

pub same_height : (agent : Agent) {p q : Prog} → p ≡ q → (front agent p).height ≡ (front agent q).height
same_height agent e = ap (λ (z : Prog). (front agent z).height) e

-- where what a call gives has one property, it has another
pub gives : {X E : Type 0} (result : Result X E) (P Q : X → Type 0) → IfOk result P → ((x : X) → P x → Q x) → IfOk result Q
gives result P Q h f = IfOk-weaker result P Q f h
