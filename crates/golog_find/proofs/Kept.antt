-- What is kept of actions, and one action more.
use Rattle.std.proofs.Common.{◌≡◌, ℕ, ◌==◌, Bool, true, false, Option, Some, None, refl, sym, ap, ◌∙◌, subst}
use Rattle.std.specs.Prelude.{IfSome, cond}
use Rattle.std.specs.HashMap.{get_by}
use Rattle.std.specs.Option.{option_copied}
use Rattle.std.proofs.lemmas.Bool.{eqb-true}
use Rattle.golog_tree.specs.declared.agent.Agent.{Agent}
use Rattle.golog_tree.specs.declared.prog.Label.TheVariants.{Do}
use Rattle.golog_semantics.proofs.GroundNumbers.{some-same}
use Rattle.golog_flat.specs.declared.effect.Effect.{Effect}
use Rattle.golog_flat.specs.Effects.{IsEffectOf}
use Rattle.golog_find.specs.declared.effects.Effects.{Effects}
use Rattle.golog_find.specs.Visits.{AreEffects}
use denote.Ref.{Bor}

-- what is found of an action is what its steps write
pub found-effect : (agent : Agent) (effects : Effects) (action : ℕ) (found : Option (Bor Effect)) → AreEffects agent effects → option_copied found ≡ get_by (λ k. action == k) effects.kept
    → IfSome found (λ (e : Bor Effect). IsEffectOf agent (Do action) e.now)
found-effect agent effects action None h is = tt
found-effect agent effects action (Some e) h is = h action e.now (sym is)

-- one action more
pub effects-more : (agent : Agent) (old new : Effects) (action : ℕ) (effect : Effect) → AreEffects agent old → IsEffectOf agent (Do action) effect
    → ((q : ℕ) → get_by (λ k. q == k) new.kept ≡ cond (action == q) (Some effect) (get_by (λ k. q == k) old.kept)) → AreEffects agent new
effects-more agent old new action effect h is updates = λ q e there. go q e there (action == q) refl
  where
    go : (q : ℕ) (e : Effect) → get_by (λ k. q == k) new.kept ≡ Some e → (b : Bool) → (action == q) ≡ b → IsEffectOf agent (Do q) e
    go q e there true t =
        let now : effect ≡ e = some-same effect e (sym (updates q ∙ ap (λ (b : Bool). cond b (Some effect) (get_by (λ k. q == k) old.kept)) t) ∙ there) in
        subst (λ (k : ℕ). IsEffectOf agent (Do k) e) (eqb-true action q t) (subst (IsEffectOf agent (Do action)) now is)
    go q e there false t =
        h q e (sym (updates q ∙ ap (λ (b : Bool). cond b (Some effect) (get_by (λ k. q == k) old.kept)) t) ∙ there)
