-- Labels that are compared one after another.
use Rattle.std.proofs.Common.{◌≡◌, ℕ, ◌+◌, ◌<◌, ◌≤◌, Bool, true, false, ◌&&◌, ◌==◌, List, [], ◌∷◌, drop, get_or, length, refl, sym, ap, ◌∙◌, arith, add-one}
use Rattle.std.specs.Cmp.Lexicographic.{pointwise}
use Rattle.std.proofs.Math.Seq.{drop-cons}
use Rattle.std.proofs.lemmas.Bool.{ne_eqb}
use Rattle.std.proofs.lemmas.List.{drop_all}
use Rattle.golog_tree.specs.declared.prog.Label.{Label}
use Rattle.golog_semantics.specs.Same.{same_label}
use Rattle.golog_semantics.specs.Ways.{is_empty}

abbrev same : List Label → List Label → Bool
same = pointwise same_label

module _ (one other rest : List Label) (i : ℕ) (so_far : same one other ≡ same (drop i one) rest) where
  ahead : (d : Label) → i < length one → drop i one ≡ get_or one i d ∷ drop (i + 1) one
  ahead d low = drop-cons one i d low ∙ ap (λ n. get_or one i d ∷ drop n one) (sym (add-one i))

  pub next-label : (d : Label) → i < length one → (first : Label) (later : List Label) → rest ≡ first ∷ later → (b : Bool) → same_label (get_or one i d) first ≡ b
      → same one other ≡ (b && same (drop (i + 1) one) later)
  next-label d low first later is b h =
      so_far ∙ (λ t. same (ahead d low t) (is t)) ∙ ap (λ x. x && same (drop (i + 1) one) later) h

  pub no-label : (d : Label) → i < length one → length rest ≡ 0 → same one other ≡ false
  no-label d low none = so_far ∙ ap (λ xs. same xs rest) (ahead d low) ∙ end rest none
    where
      end : (xs : List Label) → length xs ≡ 0 → same (get_or one i d ∷ drop (i + 1) one) xs ≡ false
      end [] h = refl
      end (x ∷ xs) h = absurd (omega (arith, h))

  pub last-label : length one ≤ i → same one other ≡ is_empty rest
  last-label most = so_far ∙ ap (λ xs. same xs rest) (drop_all i one most) ∙ end rest
    where
      end : (xs : List Label) → same [] xs ≡ is_empty xs
      end [] = refl
      end (x ∷ xs) = refl

pub emptied : (b : Bool) (xs : List Label) → b ≡ (length xs == 0) → b ≡ is_empty xs
emptied b [] h = h
emptied b (x ∷ xs) h = h ∙ ne_eqb (length (x ∷ xs)) 0 (λ e. omega (arith, e))
