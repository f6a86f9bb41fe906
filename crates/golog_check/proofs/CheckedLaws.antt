-- One more item that is checked.
use Rattle.std.proofs.Common.{◌≡◌, List, [], ◌∷◌, ◌++◌, Option, Result, Ok, Err, refl, sym, ap, subst, ◌∙◌, append_assoc}
use Rattle.std.proofs.lemmas.List.{append-nil}
use Rattle.golog_rows.specs.Reading.{Reading}
use Rattle.golog_check.specs.declared.checked.Checked.{Checked}
use Rattle.golog_check.specs.declared.fault.CheckFault.{CheckFault}
use Rattle.golog_check.specs.declared.fault.CheckFault.TheVariants.{Refused, Memory}
use Rattle.golog_rows.specs.declared.least.Refusal.{Refusal}
use Rattle.golog_check.specs.Faults.{Answers}
use Rattle.golog_rows.specs.Least.{CodeAt, IsLeastOf}
use Rattle.golog_check.specs.Least.{refusal_of, refusals, value_of, given}
use Rattle.golog_check.specs.Checked.{AddsTo, Lowers}

module _ {A : Type 0} where
  pub refusals-append : (rs ss : List (Reading A)) → refusals (rs ++ ss) ≡ refusals rs ++ refusals ss
  refusals-append [] ss = refl
  refusals-append (r ∷ rs) ss =
      ap (λ xs. refusal_of r.outcome ++ xs) (refusals-append rs ss)
      ∙ sym (append_assoc (refusal_of r.outcome) (refusals rs) (refusals ss))

  pub given-append : (rs ss : List (Reading A)) → given (rs ++ ss) ≡ given rs ++ given ss
  given-append [] ss = refl
  given-append (r ∷ rs) ss =
      ap (λ xs. value_of r.outcome ++ xs) (given-append rs ss)
      ∙ sym (append_assoc (value_of r.outcome) (given rs) (given ss))

  refusals-one : (rs : List (Reading A)) (r : Reading A) (o : Result A CodeAt) → r.outcome ≡ o
      → refusals (rs ++ r ∷ []) ≡ refusals rs ++ refusal_of o
  refusals-one rs r o e =
      refusals-append rs (r ∷ [])
      ∙ ap (λ xs. refusals rs ++ xs) (append-nil (refusal_of r.outcome) ∙ ap refusal_of e)

  given-one : (rs : List (Reading A)) (r : Reading A) (o : Result A CodeAt) → r.outcome ≡ o
      → given (rs ++ r ∷ []) ≡ given rs ++ value_of o
  given-one rs r o e =
      given-append rs (r ∷ []) ∙ ap (λ xs. given rs ++ xs) (append-nil (value_of r.outcome) ∙ ap value_of e)

  pub adds-value : (answer : Result A CheckFault) (x : A) (old : Checked A) (items : List A)
      → answer ≡ Ok x → items ≡ old.items ++ x ∷ [] → AddsTo answer old (record old { items = items })
  adds-value answer x old items e i = λ rs r said is.
      let o : r.outcome ≡ Ok x = subst (λ (a : Result A CheckFault). Answers a r) e said in
      record {
        items = i ∙ ap (λ xs. xs ++ x ∷ []) is.items ∙ sym (given-one rs r (Ok x) o);
        least = subst (λ xs. IsLeastOf old.least xs)
            (sym (refusals-one rs r (Ok x) o ∙ append-nil (refusals rs))) is.least;
      }

  pub adds-refusal : (answer : Result A CheckFault) (fault : CheckFault) (old : Checked A) (least : Option Refusal)
      → answer ≡ Err fault → Lowers fault old.least least → AddsTo answer old (record old { least = least })
  adds-refusal answer (Refused code at) old least e l = λ rs r said is.
      let o : r.outcome ≡ Err (code, at) = subst (λ (a : Result A CheckFault). Answers a r) e said in
      record {
        items = is.items ∙ sym (given-one rs r (Err (code, at)) o ∙ append-nil (given rs));
        least = subst (λ xs. IsLeastOf least xs) (sym (refusals-one rs r (Err (code, at)) o))
            (l (refusals rs) is.least);
      }
  adds-refusal answer Memory old least e l = absurd l
