-- The text of a ground fluent, by what its number names.
use Rattle.std.proofs.Common.{◌≡◌, ℕ, ◌<◌, ◌≤◌, get_or, List, ◌++◌, [], length, Some, refl, sym, ap, ◌∙◌, subst, arith}
use Rattle.std.specs.Prelude.{slice_get, option_map, option_and_then, unwrap_or}
use Rattle.std.proofs.lemmas.Option.{slice_get_within, slice_get_read, get_or_from_slice_get}
use Rattle.std.proofs.lemmas.List.{length-map}
use Rattle.golog_tree.specs.declared.agent.Agent.{Agent}
use Rattle.golog_tree.specs.declared.agent.FluentItem.{FluentItem}
use Rattle.golog_tree.specs.declared.ground.Ground.{Ground as Read}
use Rattle.golog_tree.specs.Numbered.{IsGround, args}
use Rattle.golog_tree.specs.Ground.{IsCountable, AreWithin, args_at, fluent_args, sizes}
use Rattle.golog_tree.proofs.Items.{IsItem, args_at-is, few-at}
use Rattle.golog_semantics.specs.Text.{args_text, fluent_text, fluent_text_at}

abbrev sorts_of : FluentItem → List ℕ
sorts_of item = item.args

pub stands : (agent : Agent) (items : List FluentItem) (i : ℕ) (item : FluentItem) → items ≡ agent.fluents → i < length (fluent_args agent)
    → item ≡ get_or items i item → slice_get agent.fluents i ≡ Some item
stands agent items i item e h k =
    let l : length items ≡ length agent.fluents = ap length e in
    let m : length (fluent_args agent) ≡ length agent.fluents = length-map agent.fluents sorts_of in
    ap (λ xs. slice_get xs i) (sym e) ∙ slice_get_read items (length items) i item refl (omega arith) k

module _ (agent : Agent) (fluent : ℕ) (ground : Read) (is : IsGround agent (fluent_args agent) fluent ground)
    (item : FluentItem) (at : slice_get agent.fluents ground.item ≡ Some item) where
  stands-there : IsItem agent sorts_of agent.fluents ground.item item item.args
  stands-there = record {
    below = slice_get_within agent.fluents ground.item item at;
    sorts_are = refl;
    is = sym (get_or_from_slice_get agent.fluents ground.item item item at);
  }

  its-sorts : args_at (fluent_args agent) ground.item ≡ item.args
  its-sorts = args_at-is agent sorts_of agent.fluents ground.item item item.args stands-there

  few : IsCountable agent → length item.args ≤ 3
  few h = few-at agent sorts_of agent.fluents ground.item item item.args stands-there h.fluent_arities

  pub its-count : IsCountable agent → ground.count ≤ 3
  its-count h = let at_most = few h in omega (arith, is.count, ap length its-sorts, at_most)

  module _ (sorts : List ℕ) (same : sorts ≡ item.args) where
    pub its-args : AreWithin (sizes agent sorts) (args ground)
    its-args = subst (λ xs. AreWithin (sizes agent xs) (args ground)) (its-sorts ∙ sym same) is.fits

    pub its-few : IsCountable agent → length sorts ≤ 3
    its-few h = let at_most = few h in omega (arith, ap length same, at_most)

    pub its-text : fluent_text agent fluent ≡ item.name ++ args_text agent sorts (args ground)
    its-text =
        ap (λ o. unwrap_or (option_and_then (λ at. option_map (λ item. fluent_text_at agent item at) (slice_get agent.fluents at.0)) o) []) is.named
        ∙ ap (λ o. unwrap_or (option_map (λ item. fluent_text_at agent item (ground.item, args ground)) o) []) at
        ∙ ap (λ xs. item.name ++ args_text agent xs (args ground)) (sym same)
