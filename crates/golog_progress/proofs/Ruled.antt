-- The values after an action, by all causes of an agent.
use Rattle.std.proofs.Common.{◌≡◌, ℕ, suc, ◌+◌, ◌<◌, ◌≤◌, false, ◌==◌, ◌&&◌, if◌then◌else◌, Some, None, List, [], ◌∷◌, ◌++◌, length, refl, sym, ap, ◌∙◌, subst, arith, zero-add}
use Rattle.std.specs.Prelude.{Result, Ok, Err, IfOk, slice_get, slice_index}
use Rattle.std.specs.List.{enumerate_from}
use Rattle.std.proofs.lemmas.List.{length-map}
use Rattle.std.proofs.lemmas.List.FromFn.{length-enumerate_from}
use Rattle.golog_tree.specs.declared.agent.Agent.{Agent}
use Rattle.golog_tree.specs.declared.agent.CauseItem.{CauseItem}
use Rattle.golog_tree.specs.Ground.{Ground, action_args, args_at, ground_actions, ground_count, ground_fluents}
use Rattle.golog_tree.proofs.Numbers.{length-all_from}
use Rattle.golog_tree.proofs.Decoded.{args_at-get_or}
use Rattle.golog_semantics.specs.Truth.{Values}
use Rattle.golog_semantics.specs.Values.{matched_values, cause_for, value_caused, value_by_causes, after_if, after_do, after_ground}
use Rattle.golog_semantics.specs.WellFormed.{WellFormed}
use Rattle.golog_semantics.proofs.SortsStay.{has_at, mapped-at}
use Rattle.golog_progress.specs.Effects.{IsAffected, AreRuled}

same-lists : (xs ys : List ℕ) → length xs ≡ length ys → ((k : ℕ) → k < length xs → slice_index xs k ≡ slice_index ys k) → xs ≡ ys
same-lists [] [] l h = refl
same-lists [] (y ∷ ys) l h = absurd (omega arith)
same-lists (x ∷ xs) [] l h = absurd (omega arith)
same-lists (x ∷ xs) (y ∷ ys) l h =
    let first : x ≡ y = h 0 (omega arith) in
    let rest : xs ≡ ys = same-lists xs ys (omega arith) (λ k below. h (suc k) (omega arith)) in
    (λ i. first i ∷ rest i)

pub if-ok : {E : Type 0} (P : List ℕ → Type 0) (v : List ℕ) (r : Result (List ℕ) E) → IfOk r (λ s. s ≡ v) → P v → IfOk r P
if-ok P v (Ok s) h p = subst P (sym h) p
if-ok P v (Err e) h p = tt

module _ (agent : Agent) where
  pub count-actions : length (ground_actions agent) ≡ ground_count agent (action_args agent)
  count-actions = length-all_from agent (action_args agent) 0

  pub few-args : (fits : WellFormed agent) (item : ℕ) → item < length (action_args agent) → length (args_at (action_args agent) item) ≤ 3
  few-args fits item inside = subst (λ xs. length xs ≤ 3) (sym (args_at-get_or (action_args agent) item)) (fits.countable.action_arities item [] inside)

  module _ (values : Values) (action : ℕ) (args : List ℕ) where
    pub ruled-none : (old : Values) → AreRuled agent values [] (action, args) old old
    ruled-none old = record { changed = λ f fluent e. refl }

    -- a cause of the action, put in after those behind it
    pub ruled-one : (cause : CauseItem) (later : List CauseItem) (old mid new : Values) → AreRuled agent values later (action, args) old mid → cause.action ≡ action
        → IsAffected agent values cause (cause.action, args) mid new → AreRuled agent values (cause ∷ later) (action, args) old new
    ruled-one cause later old mid new r same a = record {
      changed = λ f fluent e.
          a.changed f fluent e
          ∙ ap (λ n. value_caused agent values cause (cause_for cause (n, args) fluent) (slice_index mid f)) same
          ∙ ap (value_caused agent values cause (cause_for cause (action, args) fluent)) (r.changed f fluent e);
    }

    -- a cause of another action
    pub ruled-other : (cause : CauseItem) (later : List CauseItem) (old new : Values) → AreRuled agent values later (action, args) old new → (cause.action == action) ≡ false
        → AreRuled agent values (cause ∷ later) (action, args) old new
    ruled-other cause later old new r other = record {
      changed = λ f fluent e.
          r.changed f fluent e
          ∙ ap (λ o. value_caused agent values cause o (value_by_causes agent values later (action, args) fluent (slice_index old f))) (sym (none fluent));
    }
      where
        none : (fluent : Ground) → cause_for cause (action, args) fluent ≡ None
        none fluent = ap (λ b. if b && cause.fluent == fluent.0 then matched_values (cause.action_args ++ cause.fluent_args) (args ++ fluent.1) [] else None) other

    pub ruled-all : (number : ℕ) (new : Values) → slice_get (ground_actions agent) number ≡ Some (action, args) → length new ≡ length (ground_fluents agent)
        → AreRuled agent values agent.causes (action, args) values new → new ≡ after_do agent values number
    ruled-all number new named whole r = same-lists new (after_ground agent values (action, args)) (whole ∙ sym count) at ∙ ap (after_if agent values) (sym named)
      where
        count : length (after_ground agent values (action, args)) ≡ length (ground_fluents agent)
        count = length-map (enumerate_from 0 (ground_fluents agent)) _ ∙ length-enumerate_from 0 (ground_fluents agent)

        at : (k : ℕ) → k < length new → slice_index new k ≡ slice_index (after_ground agent values (action, args)) k
        at k below =
            let s = has_at (ground_fluents agent) k (subst (λ n. k < n) whole below) in
            r.changed k s.item s.is
            ∙ ap (λ n. value_by_causes agent values agent.causes (action, args) s.item (slice_index values n)) (sym (zero-add k))
            ∙ sym (mapped-at (λ g. value_by_causes agent values agent.causes (action, args) g.1 (slice_index values g.0)) 0 (ground_fluents agent) k s.item s.is)
