-- The head of a cause, bound to the arguments of an action.
use Rattle.std.proofs.Common.{◌≡◌, ℕ, Bool, true, false, ◌==◌, if◌then◌else◌, Some, None, List, [], ◌∷◌, ◌++◌, length, refl, sym, ap, ◌∙◌, subst, arith}
use Rattle.std.specs.Prelude.{option_and_then}
use Rattle.golog_tree.specs.declared.agent.Agent.{Agent}
use Rattle.golog_tree.specs.declared.agent.CauseItem.{CauseItem}
use Rattle.golog_tree.specs.declared.cond.Arg.{Arg}
use Rattle.golog_tree.specs.Ground.{AreWithin, sizes}
use Rattle.golog_semantics.specs.Truth.{arg_value}
use Rattle.golog_semantics.specs.Values.{matched_values}
use Rattle.golog_semantics.proofs.GroundNumbers.{some-same}
use Rattle.golog_semantics.proofs.CausesKeep.{chosen-some}
use Rattle.golog_progress.specs.Effects.{is_next, HeadFits}
use Rattle.golog_progress.proofs.Heads.{fixed, next}
use Rattle.golog_progress.proofs.Spread.{matched-fixed, matched-free}

-- what is matched first, and then the rest
pub matched-split : (xs ys : List Arg) (vs ws found : List ℕ) → length xs ≡ length vs → matched_values (xs ++ ys) (vs ++ ws) found ≡ option_and_then (λ f. matched_values ys ws f) (matched_values xs vs found)
matched-split [] ys [] ws found h = refl
matched-split [] ys (v ∷ vs) ws found h = absurd (omega arith)
matched-split (x ∷ xs) ys [] ws found h = absurd (omega arith)
matched-split (x ∷ xs) ys (v ∷ vs) ws found h =
    go (is_next found x) refl (matched-split xs ys vs ws (found ++ v ∷ []) (omega arith)) (matched-split xs ys vs ws found (omega arith))
  where
    same : (b : Bool) → matched_values (xs ++ ys) (vs ++ ws) found ≡ option_and_then (λ f. matched_values ys ws f) (matched_values xs vs found)
        → (if b then matched_values (xs ++ ys) (vs ++ ws) found else None) ≡ option_and_then (λ f. matched_values ys ws f) (if b then matched_values xs vs found else None)
    same true e = e
    same false e = refl

    go : (b : Bool) → is_next found x ≡ b
        → matched_values (xs ++ ys) (vs ++ ws) (found ++ v ∷ []) ≡ option_and_then (λ f. matched_values ys ws f) (matched_values xs vs (found ++ v ∷ []))
        → matched_values (xs ++ ys) (vs ++ ws) found ≡ option_and_then (λ f. matched_values ys ws f) (matched_values xs vs found)
        → matched_values (x ∷ (xs ++ ys)) (v ∷ (vs ++ ws)) found ≡ option_and_then (λ f. matched_values ys ws f) (matched_values (x ∷ xs) (v ∷ vs) found)
    go true e new old =
        matched-free x (xs ++ ys) v (vs ++ ws) found e ∙ new
        ∙ ap (option_and_then (λ f. matched_values ys ws f)) (sym (matched-free x xs v vs found e))
    go false e new old =
        matched-fixed x (xs ++ ys) v (vs ++ ws) found e ∙ same (arg_value found x == v) old
        ∙ ap (option_and_then (λ f. matched_values ys ws f)) (sym (matched-fixed x xs v vs found e))

module _ (agent : Agent) (cause : CauseItem) (ts : List ℕ) (ys : List Arg) where
  pub bind : (ss : List ℕ) (xs : List Arg) (vs found result : List ℕ) → length xs ≡ length ss → AreWithin (sizes agent ss) vs → matched_values xs vs found ≡ Some result
      → HeadFits agent cause (ss ++ ts) (xs ++ ys) found → HeadFits agent cause ts ys result
  bind [] [] vs found result l w m h = subst (HeadFits agent cause ts ys) (some-same found result m) h
  bind [] (x ∷ xs) vs found result l w m h = absurd (omega arith)
  bind (s ∷ ss) [] vs found result l w m h = absurd (omega arith)
  bind (s ∷ ss) (x ∷ xs) [] found result l w m h = elim w [ ]
  bind (s ∷ ss) (x ∷ xs) (v ∷ vs) found result l w m h =
      go (is_next found x) refl (bind ss xs vs (found ++ v ∷ []) result (omega arith) w.1) (bind ss xs vs found result (omega arith) w.1)
    where
      go : (b : Bool) → is_next found x ≡ b
          → (matched_values xs vs (found ++ v ∷ []) ≡ Some result → HeadFits agent cause (ss ++ ts) (xs ++ ys) (found ++ v ∷ []) → HeadFits agent cause ts ys result)
          → (matched_values xs vs found ≡ Some result → HeadFits agent cause (ss ++ ts) (xs ++ ys) found → HeadFits agent cause ts ys result)
          → HeadFits agent cause ts ys result
      go true e new old = new (sym (matched-free x xs v vs found e) ∙ m) (next agent cause s (ss ++ ts) x (xs ++ ys) found v e w.0 h)
      go false e new old =
          old (chosen-some (arg_value found x == v) (matched_values xs vs found) result (sym (matched-fixed x xs v vs found e) ∙ m))
          (fixed agent cause s (ss ++ ts) x (xs ++ ys) found e h).rest
