-- The facts of ground actions, made from the agent.
use Rattle.std.proofs.Common.{◌≡◌, ℕ, zero, suc, ◌≤◌, ◌<◌, true, false, ◌&&◌, ◌||◌, ◌==◌, not, Option, Some, None, List, [], ◌∷◌, ◌++◌, length, get_or, replicate, refl, sym, ap, ◌∙◌, subst, arith, ◌⊎◌, inl, inr}
use Rattle.std.specs.Prelude.{find, slice_get, is_some, option_map, option_and_then, All, IfSome}
use Rattle.std.specs.List.{list_all, list_any}
use Rattle.std.specs.Option.{option_map_or}
use Rattle.std.proofs.lemmas.Bool.{and_parts, ltb-true, cases_lt}
use Rattle.std.proofs.lemmas.Option.{slice_get-get_or, slice_get_past, get_or_from_slice_get, slice_get_within}
use Rattle.std.proofs.lemmas.List.Sums.{AllPass-from_list_all}
use Rattle.std.proofs.lemmas.List.Elements.{All-weaker}
use Rattle.golog_tree.specs.declared.agent.Agent.{Agent}
use Rattle.golog_tree.specs.declared.agent.ActionItem.{ActionItem}
use Rattle.golog_tree.specs.declared.agent.SenseItem.{SenseItem}
use Rattle.golog_tree.specs.declared.ground.Ground.{Ground as Numbered}
use Rattle.golog_tree.specs.Ground.{Ground, sort_size, ground_actions, action_args}
use Rattle.golog_tree.specs.Numbered.{args, IsGround}
use Rattle.golog_semantics.specs.Values.{fluent_sort}
use Rattle.golog_semantics.specs.Ways.{is_empty}
use Rattle.golog_semantics.specs.Journal.{action_item, fluent_sensed, sensed_by, sense_item, is_held}
use Rattle.golog_semantics.specs.WellFormed.{is_device_no, are_sorts, action_item_fits}
use Rattle.golog_journal.specs.declared.facts.ActionFact.{ActionFact}
use Rattle.golog_journal.specs.Agents.{ServesDevices}
use Rattle.golog_journal.specs.Facts.{IsFactOf, AreFacts, AreAllFacts}

-- what is so of each element by its place, with one more
pub indexed-push : {A : Type 0} (P : ℕ → A → Type 0) (xs : List A) (y : A) → ((k : ℕ) (d : A) → k < length xs → P k (get_or xs k d)) → P (length xs) y
    → (k : ℕ) (d : A) → k < length (xs ++ y ∷ []) → P k (get_or (xs ++ y ∷ []) k d)
indexed-push P [] y each last zero d below = last
indexed-push P [] y each last (suc k) d below = absurd (omega (arith, below))
indexed-push P (x ∷ xs) y each last zero d below = each zero d (omega arith)
indexed-push P (x ∷ xs) y each last (suc k) d below =
    indexed-push (λ n. P (suc n)) xs y (λ n e inside. each (suc n) e (omega (arith, inside))) last k d (omega (arith, below))

-- one more fact
pub facts-push : (agent : Agent) (facts : List ActionFact) (fact : ActionFact) → AreFacts agent facts → IsFactOf agent (length facts) fact
    → AreFacts agent (facts ++ fact ∷ [])
facts-push agent facts fact are is = record { each = indexed-push (IsFactOf agent) facts fact are.each is }

pub facts-none : (agent : Agent) (facts : List ActionFact) → facts ≡ [] → AreFacts agent facts
facts-none agent facts none = subst (AreFacts agent) (sym none) (record { each = λ k d below. absurd (omega (arith, below)) })

module _ (agent : Agent) where
  -- where there is no such ground action
  no-item : (action : ℕ) → slice_get (ground_actions agent) action ≡ None → action_item agent action ≡ None
  no-item action none = ap (option_and_then (λ (at : Ground). slice_get agent.actions at.0)) none

  false-at : (n k : ℕ) → get_or (replicate n false) k false ≡ false
  false-at zero k = refl
  false-at (suc n) zero = refl
  false-at (suc n) (suc k) = false-at n k

  no-action : (action : ℕ) (fact : ActionFact) → slice_get (ground_actions agent) action ≡ None
      → fact.device ≡ None → fact.posters ≡ replicate 16 false → fact.sensed ≡ None → fact.held ≡ false → IsFactOf agent action fact
  no-action action fact none device posters senses held = record {
    device = device ∙ sym (ap (option_and_then (λ (item : ActionItem). item.device)) (no-item action none));
    posters = λ d below.
        ap (λ ps. get_or ps d false) posters ∙ false-at 16 d
        ∙ sym (ap (λ o. option_map_or (λ (item : ActionItem). list_any (λ p. p == d) item.posters) o false) (no-item action none));
    sensed = senses ∙ sym not-sensed;
    values = λ fluent h. absurd (let k : None ≡ Some fluent = sym not-sensed ∙ h in cc);
    held = held ∙ sym (ap (λ (o : Option Ground). option_map_or (λ (item : SenseItem). not item.later) (option_and_then (sense_item agent) o) false) none);
  }
    where
      not-sensed : fluent_sensed agent action ≡ None
      not-sensed = ap (option_and_then (λ (at : Ground). option_map (sensed_by agent at) (find (λ item. item.action == at.0) agent.senses))) none

  -- what is read of the table is so, also past its end
  pub fact-read : (facts : List ActionFact) (action : ℕ) (fact : ActionFact) → AreAllFacts agent facts → slice_get facts action ≡ Some fact → IsFactOf agent action fact
  fact-read facts action fact all at =
      subst (IsFactOf agent action) (get_or_from_slice_get facts action fact fact at)
      (all.first.each action fact (slice_get_within facts action fact at))

  pub fact-past : (facts : List ActionFact) (action : ℕ) (fact : ActionFact) → AreAllFacts agent facts → slice_get facts action ≡ None
      → fact.device ≡ None → fact.posters ≡ replicate 16 false → fact.sensed ≡ None → fact.held ≡ false → IsFactOf agent action fact
  fact-past facts action fact all past =
      no-action action fact (go (cases_lt action (length facts)))
    where
      go : (action < length facts) ⊎ (length facts ≤ action) → slice_get (ground_actions agent) action ≡ None
      go (inl inside) = absurd (let k = slice_get-get_or facts action fact inside in let e : None ≡ Some (get_or facts action fact) = sym past ∙ k in cc)
      go (inr above) = let whole = all.whole in slice_get_past (ground_actions agent) action (omega (arith, above, whole))

  module _ (serves : ServesDevices agent) (number : ℕ) (ground : Numbered) (is : IsGround agent (action_args agent) number ground)
      (item : ActionItem) (at : slice_get agent.actions ground.item ≡ Some item) where
    item-is : action_item agent number ≡ Some item
    item-is = ap (option_and_then (λ (g : Ground). slice_get agent.actions g.0)) is.named ∙ at

    pub sensed-is : fluent_sensed agent number ≡ option_map (sensed_by agent (ground.item, args ground)) (find (λ s. s.action == ground.item) agent.senses)
    sensed-is = ap (option_and_then (λ (g : Ground). option_map (sensed_by agent g) (find (λ s. s.action == g.0) agent.senses))) is.named

    held-is : is_held agent number ≡ option_map_or (λ (s : SenseItem). not s.later) (find (λ s. s.action == ground.item) agent.senses) false
    held-is = ap (λ (o : Option Ground). option_map_or (λ (s : SenseItem). not s.later) (option_and_then (sense_item agent) o) false) is.named

    fits : action_item_fits agent item ≡ true
    fits =
        let inside = slice_get_within agent.actions ground.item item at in
        ap (action_item_fits agent) (sym (get_or_from_slice_get agent.actions ground.item item item at))
        ∙ AllPass-from_list_all (action_item_fits agent) agent.actions serves.actions ground.item item inside

    below-16 : (d : ℕ) → is_device_no agent d ≡ true → d < 16
    below-16 d h = let k = ltb-true d (length agent.devices) h in let few = serves.few in omega (arith, k, few)

    three : ((are_sorts agent item.args && option_map_or (is_device_no agent) item.device true && list_all (is_device_no agent) item.posters) ≡ true)
    three =
        (and_parts (are_sorts agent item.args && option_map_or (is_device_no agent) item.device true && list_all (is_device_no agent) item.posters)
        (is_empty item.posters || not (is_some item.device)) fits).0

    two : (are_sorts agent item.args && option_map_or (is_device_no agent) item.device true) ≡ true
    two = (and_parts (are_sorts agent item.args && option_map_or (is_device_no agent) item.device true) (list_all (is_device_no agent) item.posters) three).0

    pub device-small : IfSome item.device (λ d. d < 16)
    device-small = go item.device (and_parts (are_sorts agent item.args) (option_map_or (is_device_no agent) item.device true) two).1
      where
        go : (o : Option ℕ) → option_map_or (is_device_no agent) o true ≡ true → IfSome o (λ d. d < 16)
        go None h = tt
        go (Some d) h = below-16 d h

    pub posters-small : All (λ p. p < 16) item.posters
    posters-small =
        All-weaker (λ p. is_device_no agent p ≡ true) (λ p. p < 16) below-16 item.posters
        (AllPass-from_list_all (is_device_no agent) item.posters
        (and_parts (are_sorts agent item.args && option_map_or (is_device_no agent) item.device true) (list_all (is_device_no agent) item.posters) three).1)

    pub is-fact : (fact : ActionFact) → fact.device ≡ item.device
        → ((d : ℕ) → d < 16 → get_or fact.posters d false ≡ list_any (λ p. p == d) item.posters)
        → fact.sensed ≡ option_map (sensed_by agent (ground.item, args ground)) (find (λ s. s.action == ground.item) agent.senses)
        → IfSome fact.sensed (λ fluent. fact.values ≡ sort_size agent (fluent_sort agent fluent))
        → fact.held ≡ option_map_or (λ (s : SenseItem). not s.later) (find (λ s. s.action == ground.item) agent.senses) false
        → IsFactOf agent number fact
    is-fact fact device posters senses values held = record {
      device = device ∙ sym (ap (option_and_then (λ (i : ActionItem). i.device)) item-is);
      posters = λ d below.
          posters d below ∙ sym (ap (λ o. option_map_or (λ (i : ActionItem). list_any (λ p. p == d) i.posters) o false) item-is);
      sensed = senses ∙ sym sensed-is;
      values = λ fluent h.
          subst (λ o. IfSome o (λ f. fact.values ≡ sort_size agent (fluent_sort agent f))) (senses ∙ sym sensed-is ∙ h) values;
      held = held ∙ sym held-is;
    }
