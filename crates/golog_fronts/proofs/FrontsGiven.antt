-- A front and lists of fronts, where each part is given by a call.
use Rattle.std.proofs.Common.{◌≡◌, List, ◌++◌, sym, ap, ◌∙◌, subst}
use Rattle.std.specs.Prelude.{Result, Ok, Err, IfOk}
use Rattle.golog_tree.specs.declared.cond.Cond.{Cond}
use Rattle.golog_tree.specs.declared.prog.Label.{Label}
use Rattle.golog_tree.specs.declared.prog.Prog.{Prog}
use Rattle.golog_fronts.specs.declared.front_lists.Front.{Front}

abbrev pub front_of : Cond → Label → Prog → Front
front_of c label left = record { cond = c; label = label; left = left }

pub front_given : {E : Type 0} (one : Result Cond E) (label : Label) (other : Result Prog E) (c d : Cond) (left rest : Prog)
    → IfOk one (λ z. z ≡ d) → IfOk other (λ z. z ≡ rest) → one ≡ Ok c → other ≡ Ok left → front_of c label left ≡ front_of d label rest
front_given {E = E} one label other c d left rest h k e f =
    let same : c ≡ d = subst (λ (r : Result Cond E). IfOk r (λ z. z ≡ d)) e h in
    let also : left ≡ rest = subst (λ (r : Result Prog E). IfOk r (λ z. z ≡ rest)) f k in
    ap (λ (z : Cond). front_of z label left) same ∙ ap (λ (z : Prog). front_of d label z) also

pub joined_given : {E : Type 0} (result one other : Result (List Front) E) (xs ys fs hs : List Front) → one ≡ Ok xs → other ≡ Ok ys
    → IfOk one (λ z. z ≡ fs) → IfOk other (λ z. z ≡ hs) → IfOk result (λ z. z ≡ xs ++ ys) → IfOk result (λ z. z ≡ fs ++ hs)
joined_given {E = E} result one other xs ys fs hs e k h l is =
    let same : xs ≡ fs = subst (λ (r : Result (List Front) E). IfOk r (λ z. z ≡ fs)) e h in
    let rest : ys ≡ hs = subst (λ (r : Result (List Front) E). IfOk r (λ z. z ≡ hs)) k l in
    subst (λ (zs : List Front). IfOk result (λ z. z ≡ zs)) (ap (λ (zs : List Front). zs ++ ys) same ∙ ap (λ (zs : List Front). fs ++ zs) rest) is
