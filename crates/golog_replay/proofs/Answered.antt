-- Answers that are compared.
use Rattle.std.proofs.Common.{◌≡◌, ℕ, zero, suc, ◌==◌, refl, sym, ◌∙◌}
use base.Stored.{Gv, gnil, gnum, gcons}
use denote.Enum.Bare.{sameb}
use denote.Enum.Declared.{tag_of}
use lib.Dec.{eqb-suc-suc, eqb-suc-zero, eqb-zero-suc}
use Rattle.golog_semantics.specs.contracts.journal.Answer as answer
use Rattle.golog_semantics.specs.declared.journal.Answer.{Answer}
use Rattle.golog_semantics.specs.declared.journal.Answer.TheVariants.{Done, Stuck, Unknown, Depth, Fuel, Unanswered, Full, Deep, Memory}
use Rattle.golog_semantics.specs.Same.{same_code}

-- the code of a variant, by its number
abbrev code_of : ℕ → Gv
code_of zero = gcons (gnum 0) gnil
code_of (suc n) = gcons (gnum 1) (code_of n)

coded : (a : Answer) → answer.the_row.coded.code a ≡ code_of (tag_of answer.the_type a)
coded Done = refl
coded Stuck = refl
coded Unknown = refl
coded Depth = refl
coded Fuel = refl
coded Unanswered = refl
coded Full = refl
coded Deep = refl
coded Memory = refl

same-number : (m n : ℕ) → same_code (code_of m) (code_of n) ≡ (m == n)
same-number zero zero = refl
same-number zero (suc n) = sym (eqb-zero-suc n)
same-number (suc m) zero = sym (eqb-suc-zero m)
same-number (suc m) (suc n) = same-number m n ∙ sym (eqb-suc-suc m n)

pub same-answers : (a b : Answer) → sameb answer.the_type a b ≡ same_code (answer.the_row.coded.code a) (answer.the_row.coded.code b)
same-answers a b = sym ((λ i. same_code (coded a i) (coded b i)) ∙ same-number (tag_of answer.the_type a) (tag_of answer.the_type b))
