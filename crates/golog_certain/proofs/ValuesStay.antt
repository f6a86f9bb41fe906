-- More knowledge before a step is more knowledge after it.
use Rattle.std.proofs.Common.{ℕ, zero, suc, List, [], ◌∷◌, map, refl, sym, ◌∙◌, Some, None, Option}
use Rattle.std.specs.Prelude.{slice_index, slice_get}
use Rattle.std.specs.List.{enumerate_from}
use Rattle.std.proofs.lemmas.List.{length-map}
use Rattle.golog_tree.specs.declared.agent.Agent.{Agent}
use Rattle.golog_tree.specs.declared.agent.CauseItem.{CauseItem}
use Rattle.golog_tree.specs.declared.prog.Label.{Label}
use Rattle.golog_tree.specs.declared.prog.Label.TheVariants.{Quiet, Do}
use Rattle.golog_tree.specs.Ground.{Ground, ground_fluents, ground_actions}
use Rattle.golog_semantics.specs.Truth.{Values, env_of}
use Rattle.golog_semantics.specs.Values.{cause_for, value_caused, value_by_causes, after_if, after_do, after}
use Rattle.golog_semantics.specs.World.{Refines}
use Rattle.golog_semantics.proofs.Known.{SoValue, so-chosen, truth_stays, value_stays}

-- a value known in the first list is the same in the second
so-mapped : {A : Type 0} (f g : A → ℕ) → ((x : A) → SoValue (f x) (g x)) → (xs : List A) (k : ℕ) → SoValue (slice_index (map f xs) k) (slice_index (map g xs) k)
so-mapped f g h [] k = λ _. refl
so-mapped f g h (x ∷ xs) zero = h x
so-mapped f g h (x ∷ xs) (suc k) = so-mapped f g h xs k

module _ (agent : Agent) (old new : Values) (more : Refines old new) where
  caused-stays : (cause : CauseItem) (found : Option (List ℕ)) (v w : ℕ) → SoValue v w → SoValue (value_caused agent old cause found v) (value_caused agent new cause found w)
  caused-stays cause None v w h = h
  caused-stays cause (Some found) v w h =
      so-chosen _ _ _ _ _ _ (truth_stays agent old new more cause.cond (env_of found)) (value_stays agent old new more cause.term (env_of found)) h

  ruled-stays : (causes : List CauseItem) (action fluent : Ground) (v w : ℕ) → SoValue v w → SoValue (value_by_causes agent old causes action fluent v) (value_by_causes agent new causes action fluent w)
  ruled-stays [] action fluent v w h = h
  ruled-stays (cause ∷ causes) action fluent v w h =
      caused-stays cause (cause_for cause action fluent) (value_by_causes agent old causes action fluent v) (value_by_causes agent new causes action fluent w) (ruled-stays causes action fluent v w h)

  after_if-stays : (o : Option Ground) → Refines (after_if agent old o) (after_if agent new o)
  after_if-stays None = more
  after_if-stays (Some action) = record {
    whole = length-map (enumerate_from 0 (ground_fluents agent)) _ ∙ sym (length-map (enumerate_from 0 (ground_fluents agent)) _);
    same = so-mapped _ _ (λ f. ruled-stays agent.causes action f.1 (slice_index old f.0) (slice_index new f.0) (more.same f.0)) (enumerate_from 0 (ground_fluents agent));
  }

  pub after_do-stays : (action : ℕ) → Refines (after_do agent old action) (after_do agent new action)
  after_do-stays action = after_if-stays (slice_get (ground_actions agent) action)

  pub after-stays : (label : Label) → Refines (after agent old label) (after agent new label)
  after-stays Quiet = more
  after-stays (Do action) = after_do-stays action
