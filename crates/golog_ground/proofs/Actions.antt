-- The text of a ground action tells which it is.
use Rattle.std.proofs.Common.{◌≡◌, ℕ, zero, suc, ◌+◌, ◌<◌, ◌≤◌, get_or, true, false, List, [], ◌∷◌, ◌++◌, length, map, take, drop, Some, None, refl, sym, ap, ◌∙◌, subst, arith}
use Rattle.std.specs.Prelude.{slice_get, option_map, option_and_then, unwrap_or, nat_eq, position}
use Rattle.std.specs.List.{zip}
use Rattle.std.specs.Cmp.Lexicographic.{pointwise, same_text}
use Rattle.std.proofs.lemmas.Option.{slice_get-map, slice_get_within, slice_get_read, get_or_from_slice_get}
use Rattle.std.proofs.lemmas.List.{length-map, take-append-drop}
use Rattle.golog_tree.specs.declared.agent.Agent.{Agent}
use Rattle.golog_tree.specs.declared.agent.ActionItem.{ActionItem}
use Rattle.golog_tree.specs.declared.ground.Ground.{Ground as Read}
use Rattle.golog_tree.specs.Numbered.{IsGround, args}
use Rattle.golog_tree.proofs.Items.{few-at}
use Rattle.golog_tree.specs.Ground.{IsCountable, AreWithin, action_args, action_no, args_at, ground_actions, ground_count, sizes}
use Rattle.golog_tree.proofs.Numbers.{length-all_from}
use Rattle.golog_semantics.specs.Text.{Text, action_text, args_text, constant_text, ground_text, in_brackets}
use Rattle.golog_semantics.specs.WellFormed.{WellFormed}
use Rattle.golog_semantics.proofs.ActionNames.{HasAction, args_at-map}
use Rattle.golog_semantics.proofs.GroundNumbers.{action_is}
use Rattle.golog_semantics.proofs.Levels.{same_values-same}
use Rattle.golog_semantics.proofs.WellNamed.{actions_apart}
use Rattle.golog_ground.specs.Texts.{IsTheOne, IsUnmarked, WritesAction, WritesArgs}
use Rattle.golog_ground.proofs.Answers.{none-fits, only-fits, some-same}
use Rattle.golog_ground.proofs.Enclosed.{StartsMarked, front, take-front, drop-front}
use Rattle.golog_ground.proofs.Marks.{unmarked-name}
use Rattle.golog_ground.proofs.Places.{no-place, place-found}

-- an item of a list
record ItemAt {A : Type 0} (items : List A) (i : ℕ) : Type 0 where
  item : A
  is : slice_get items i ≡ Some item

item_at : {A : Type 0} (items : List A) (i : ℕ) → i < length items → ItemAt items i
item_at [] i h = absurd (omega arith)
item_at (x ∷ items) zero h = record { item = x; is = refl }
item_at (x ∷ items) (suc i) h = let r = item_at items i (omega arith) in record { item = r.item; is = r.is }

starts-brackets : (texts : List Text) → StartsMarked (in_brackets texts)
starts-brackets [] = tt
starts-brackets (t ∷ texts) = refl

module _ (agent : Agent) where
  pub text-is : (action at : ℕ) (item : ActionItem) (args : List ℕ) → slice_get (ground_actions agent) action ≡ Some (at, args) → slice_get agent.actions at ≡ Some item
      → action_text agent action ≡ item.name ++ args_text agent item.args args
  text-is action at item args e k =
      ap (λ o. unwrap_or (option_and_then (λ at. option_map (λ item. ground_text agent item at) (slice_get agent.actions at.0)) o) []) e
      ∙ ap (λ o. unwrap_or (option_map (λ item. ground_text agent item (at, args)) o) []) k

  has-action : (action : ℕ) → action < ground_count agent (action_args agent) → HasAction agent action
  has-action action h =
      let found = item_at (ground_actions agent) action (omega (arith, h, length-all_from agent (action_args agent) 0)) in
      let item = item_at agent.actions found.item.0 (action_is agent action found.item.0 found.item.1 found.is).inside in
      record { item = item.item; at = found.item.0; args = found.item.1; ground = found.is; is = item.is }

  within : (action : ℕ) (has : HasAction agent action) → AreWithin (sizes agent has.item.args) has.args
  within action has =
      subst (λ sorts. AreWithin (sizes agent sorts) has.args) (args_at-map agent.actions has.at has.item has.is) (action_is agent action has.at has.args has.ground).within

module _ (agent : Agent) (fits : WellFormed agent) where
  name-at : (i : ℕ) (item : ActionItem) → slice_get agent.actions i ≡ Some item → slice_get (map (λ x. x.name) agent.actions) i ≡ Some item.name
  name-at i item e = slice_get-map (λ x. x.name) agent.actions i ∙ ap (option_map (λ x. x.name)) e

  unmarked : (i : ℕ) (item : ActionItem) → slice_get agent.actions i ≡ Some item → IsUnmarked item.name
  unmarked i item e = unmarked-name item.name ((actions_apart agent fits).named i item.name (name-at i item e))

  same-place : (i j : ℕ) (one other : ActionItem) → slice_get agent.actions i ≡ Some one → slice_get agent.actions j ≡ Some other → one.name ≡ other.name → i ≡ j
  same-place i j one other e k h = (actions_apart agent fits).distinct i j one.name (name-at i one e) (name-at j other k ∙ ap Some (sym h))

  module _ (bytes name rest : Text) (before : name ≡ take (front bytes) bytes) (after : rest ≡ drop (front bytes) bytes) where
    -- the action that the bytes write, by its parts
    record Reads (action : ℕ) : Type 0 where
      has : HasAction agent action
      named : has.item.name ≡ name
      args_are : WritesArgs agent has.item.args rest has.args

    reads : (action : ℕ) → WritesAction agent bytes action → Reads action
    reads action w =
        let has = has-action agent action w.0 in
        let tail = args_text agent has.item.args has.args in
        let same : has.item.name ++ tail ≡ bytes = sym (text-is agent action has.at has.item has.args has.ground has.is) ∙ w.1 in
        let free = unmarked has.at has.item has.is in
        let marked : StartsMarked tail = starts-brackets (map (λ at. constant_text agent at.0 at.1) (zip has.item.args has.args)) in
        record {
          has = has;
          named = sym (take-front has.item.name tail bytes same free marked) ∙ sym before;
          args_are = (within agent action has, sym (drop-front has.item.name tail bytes same free marked) ∙ sym after);
        }

    pub no-action : None ≡ position (λ item. pointwise nat_eq item.name name) agent.actions → IsTheOne None (WritesAction agent bytes)
    no-action e = none-fits (WritesAction agent bytes) (λ action w.
        let r = reads action w in
        let f : pointwise nat_eq r.has.item.name name ≡ false = no-place (λ item. pointwise nat_eq item.name name) agent.actions e r.has.at r.has.item r.has.is in
        let g : pointwise nat_eq r.has.item.name name ≡ true = ap (pointwise nat_eq r.has.item.name) (sym r.named) ∙ same_values-same r.has.item.name in
        absurd (cc))

    module _ (place : ℕ) (item : ActionItem) (stands : slice_get agent.actions place ≡ Some item) (called : item.name ≡ name) where
      at-place : (action : ℕ) (r : Reads action) → place ≡ r.has.at
      at-place action r = same-place place r.has.at item r.has.item stands r.has.is (called ∙ sym r.named)

      same-item : (action : ℕ) (r : Reads action) → r.has.item ≡ item
      same-item action r = some-same r.has.item item (sym r.has.is ∙ ap (slice_get agent.actions) (sym (at-place action r)) ∙ stands)

      its-read : (action : ℕ) (r : Reads action) → WritesArgs agent item.args rest r.has.args
      its-read action r = subst (λ x. WritesArgs agent x.args rest r.has.args) (same-item action r) r.args_are

      pub no-args : IsTheOne None (WritesArgs agent item.args rest) → IsTheOne None (WritesAction agent bytes)
      no-args h = none-fits (WritesAction agent bytes) (λ action w.
          let r = reads action w in let e : None ≡ Some r.has.args = (h r.has.args).1 (its-read action r) in absurd (cc))

      pub found : (number : ℕ) (args : List ℕ) → IsTheOne (Some args) (WritesArgs agent item.args rest)
          → slice_get (ground_actions agent) number ≡ Some (place, args) → number < ground_count agent (action_args agent)
          → name ++ rest ≡ bytes → IsTheOne (Some number) (WritesAction agent bytes)
      found number args h e less whole =
          let w : WritesArgs agent item.args rest args = (h args).0 refl in
          only-fits (WritesAction agent bytes) number
          (less, text-is agent number place item args e stands ∙ (λ i. called i ++ w.1 i) ∙ whole)
          (λ action v.
          let r = reads action v in
          let same : args ≡ r.has.args = some-same args r.has.args ((h r.has.args).1 (its-read action r)) in
          sym (action_is agent number place args e).number
          ∙ (λ i. action_no agent (at-place action r i) (same i))
          ∙ (action_is agent action r.has.at r.has.args r.has.ground).number)

-- an item of an agent has few arguments
pub few-args : (agent : Agent) → IsCountable agent → (i : ℕ) (item : ActionItem) → slice_get agent.actions i ≡ Some item → length item.args ≤ 3
few-args agent h i item e =
    few-at agent (λ (x : ActionItem). x.args) agent.actions i item item.args
    (record { below = slice_get_within agent.actions i item e; sorts_are = refl; is = sym (get_or_from_slice_get agent.actions i item item e) })
    h.action_arities

pub stands : (agent : Agent) (items : List ActionItem) (i : ℕ) (item : ActionItem) → items ≡ agent.actions → i < length (action_args agent)
    → item ≡ get_or items i item → slice_get agent.actions i ≡ Some item
stands agent items i item e h k =
    let l : length items ≡ length agent.actions = ap length e in
    let m : length (action_args agent) ≡ length agent.actions = length-map agent.actions (λ (x : ActionItem). x.args) in
    ap (λ xs. slice_get xs i) (sym e) ∙ slice_get_read items (length items) i item refl (omega arith) k

-- the action that was found by its name
pub chosen : (agent : Agent) (name : Text) (one other : List ActionItem) (i : ℕ) (item : ActionItem) → one ≡ agent.actions → other ≡ agent.actions
    → Some i ≡ position (λ (x : ActionItem). pointwise nat_eq x.name name) one → item ≡ get_or other i item → (slice_get agent.actions i ≡ Some item) × (item.name ≡ name)
chosen agent name one other i item e k h g =
    let r = place-found (λ (x : ActionItem). pointwise nat_eq x.name name) one i h in
    let at : slice_get other i ≡ Some r.item = ap (λ xs. slice_get xs i) (k ∙ sym e) ∙ r.is in
    let same : item ≡ r.item = g ∙ get_or_from_slice_get other i r.item item at in
    (ap (λ xs. slice_get xs i) (sym k) ∙ at ∙ ap Some (sym same), ap (λ (x : ActionItem). x.name) same ∙ same_text r.item.name name (sym r.fits))

module _ (agent : Agent) (action : ℕ) (ground : Read) (is : IsGround agent (action_args agent) action ground)
    (item : ActionItem) (at : slice_get agent.actions ground.item ≡ Some item) where
  its-sorts : args_at (action_args agent) ground.item ≡ item.args
  its-sorts = args_at-map agent.actions ground.item item at

  pub its-count : IsCountable agent → ground.count ≤ 3
  its-count h = let few = few-args agent h ground.item item at in omega (arith, is.count, ap length its-sorts, few)

  module _ (sorts : List ℕ) (same : sorts ≡ item.args) where
    pub its-args : AreWithin (sizes agent sorts) (args ground)
    its-args = subst (λ xs. AreWithin (sizes agent xs) (args ground)) (its-sorts ∙ sym same) is.fits

    pub its-few : IsCountable agent → length sorts ≤ 3
    its-few h = let few = few-args agent h ground.item item at in omega (arith, ap length same, few)

    pub its-text : action_text agent action ≡ item.name ++ args_text agent sorts (args ground)
    its-text = text-is agent action ground.item item (args ground) is.named at ∙ ap (λ xs. item.name ++ args_text agent xs (args ground)) (sym same)

pub whole : (bytes name rest : Text) → name ≡ take (front bytes) bytes → rest ≡ drop (front bytes) bytes → name ++ rest ≡ bytes
whole bytes name rest e h = (λ i. e i ++ h i) ∙ take-append-drop (front bytes) bytes

-- arguments that were read are within the sorts of the action
pub within-read : (agent : Agent) (i : ℕ) (item : ActionItem) (sorts read lent : List ℕ) (rest : Text) → slice_get agent.actions i ≡ Some item → sorts ≡ item.args
    → lent ≡ read → IsTheOne (Some read) (WritesArgs agent sorts rest) → AreWithin (sizes agent (args_at (action_args agent) i)) lent
within-read agent i item sorts read lent rest e h k one =
    let w : WritesArgs agent sorts rest read = (one read).0 refl in
    subst (λ xs. AreWithin (sizes agent (args_at (action_args agent) i)) xs) (sym k)
    (subst (λ xs. AreWithin (sizes agent xs) read) (h ∙ sym (args_at-map agent.actions i item e)) w.0)
