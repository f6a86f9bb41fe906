-- What is told of runs that are under way, one by one.
use Rattle.std.proofs.Common.{◌≡◌, ℕ, zero, suc, ◌<◌, ◌&&◌, ◌==◌, Bool, false, List, [], ◌∷◌, ◌++◌, length, refl, sym, ap, ◌∙◌, subst, arith}
use Rattle.std.specs.Prelude.{not, slice_index_or}
use Rattle.std.proofs.lemmas.Bool.{ne_eqb}
use Rattle.std.proofs.lemmas.List.Elements.{All-append}
use Rattle.golog_tree.specs.declared.agent.Agent.{Agent}
use Rattle.golog_tree.specs.declared.prog.Prog.{Prog}
use Rattle.golog_semantics.specs.Truth.{Values}
use Rattle.golog_semantics.specs.Search.{Run}
use Rattle.golog_semantics.specs.Ways.{is_empty}
use Rattle.golog_semantics.specs.Blocks.{goes_through, is_kept}
use Rattle.golog_search.specs.declared.told.Told.{Told}
use Rattle.golog_search.specs.Told.{AreTold, IsTold}

-- a list is empty where its length is 0
pub empty-by : {A : Type 0} (xs : List A) → (length xs == 0) ≡ is_empty xs
empty-by [] = refl
empty-by (x ∷ xs) = ne_eqb (length (x ∷ xs)) 0 (λ e. omega arith)

-- a run that is told of is kept where it goes through
pub told-kept : (agent : Agent) (values : Values) (body p : Prog) (rest run : Run) (through : Bool) → through ≡ goes_through agent p run values → p ≡ body → run ≡ rest → is_empty rest ≡ false
    → through ≡ is_kept agent values body rest
told-kept agent values body p rest run through h e k some =
    h ∙ ap (λ (q : Prog). goes_through agent q run values) e ∙ ap (λ (r : Run). goes_through agent body r values) k
    ∙ sym (ap (λ b. not b && goes_through agent body rest values) some)

module _ (agent : Agent) (values : Values) where
  -- with what is told of one more run
  pub one-more : (told more : List Told) (t : Told) (body : Prog) (rest : Run) (through : Bool) → AreTold agent values told → t ≡ record { body = body; rest = rest; through = through }
      → through ≡ goes_through agent body rest values → more ≡ told ++ t ∷ [] → AreTold agent values more
  one-more told more t body rest through h is so e =
      subst (AreTold agent values) (sym e)
      (All-append (IsTold agent values) told (t ∷ []) h (λ k d l. alone k d l))
    where
      alone : (k : ℕ) (d : Told) → k < length (t ∷ []) → IsTold agent values (slice_index_or (t ∷ []) k d)
      alone zero d l = subst (IsTold agent values) (sym is) so
      alone (suc k) d l = absurd (omega arith)
