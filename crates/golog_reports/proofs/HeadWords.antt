-- The words of a head: the texts of ground fluents, and of the values that a journal starts from.
use Rattle.std.proofs.Common.{◌≡◌, ℕ, zero, suc, ◌<◌, ◌≤◌, Bool, true, false, ◌==◌, inl, inr, Option, Some, None, List, [], ◌∷◌, ◌++◌, length, map, refl, sym, ap, ◌∙◌, subst, arith, zero-add}
use Rattle.std.specs.Prelude.{bytes_eq, codes, if◌then◌else◌, nat_lt, slice_get, option_map, option_and_then, unwrap_or}
use Rattle.std.specs.Cmp.Lexicographic.{same_text}
use Rattle.std.specs.List.{flat_map, zip}
use Rattle.std.proofs.lemmas.Bool.{lt-ltb}
use Rattle.std.proofs.lemmas.List.{length-map}
use Rattle.std.proofs.lemmas.Option.{get_or_from_slice_get, slice_get-map, slice_get_within}
use Rattle.golog_base.specs.Names.{is_name}
use Rattle.golog_tree.specs.declared.agent.Agent.{Agent}
use Rattle.golog_tree.specs.declared.agent.FluentItem.{FluentItem}
use Rattle.golog_tree.specs.declared.agent.SortItem.{SortItem}
use Rattle.golog_tree.specs.Ground.{AreWithin, args_at, fluent_args, ground_fluents, item_size, size_at, sizes, sort_size}
use Rattle.golog_semantics.specs.BuiltIn.{declared_names, sort_names}
use Rattle.golog_semantics.specs.InSorts.{IsOf}
use Rattle.golog_semantics.specs.ReportLaws.{TellsApart}
use Rattle.golog_semantics.specs.Text.{Text, args_text, constant_text, fluent_text, fluent_text_at, start_line, start_text, value_text}
use Rattle.golog_semantics.specs.Truth.{is_known, unknown}
use Rattle.golog_semantics.specs.Values.{fluent_sort}
use Rattle.golog_semantics.specs.WellFormed.{WellFormed}
use Rattle.golog_semantics.proofs.Among.{among-get, among-left, among-right, contains-among}
use Rattle.golog_semantics.proofs.GroundNumbers.{some-same, stands}
use Rattle.golog_semantics.proofs.Names.{constant_known}
use Rattle.golog_semantics.proofs.SortsStay.{has_at, or-left, unknown-of}
use Rattle.golog_semantics.proofs.StartValues.{IsEither, either_of, known_text}
use Rattle.golog_reports.specs.Forms.{is_action}
use Rattle.golog_reports.specs.Reads.{constant_named, start_named}
use Rattle.golog_reports.proofs.FirstNamed.{named-has}
use Rattle.golog_reports.proofs.Marks.{Lacks, lacks-both}
use Rattle.golog_reports.proofs.OwnWords.{action-form, args-form, constant-back, constant-form}
use Rattle.golog_reports.proofs.WordBytes.{action-lacks, constant-lacks}

args_at-fluents : (items : List FluentItem) (at : ℕ) (item : FluentItem) → slice_get items at ≡ Some item → args_at (map (λ i. i.args) items) at ≡ item.args
args_at-fluents [] at item e = absurd (cc)
args_at-fluents (i ∷ items) zero item e = ap (λ i. i.args) (some-same i item e)
args_at-fluents (i ∷ items) (suc at) item e = args_at-fluents items at item e

module _ (agent : Agent) (well : WellFormed agent) where
  -- ---- fluents

  fluent-named : (i : ℕ) (item : FluentItem) → slice_get agent.fluents i ≡ Some item → is_name item.name ≡ true
  fluent-named i item e =
      let fluents : List Text = map (λ (f : FluentItem). f.name) agent.fluents in
      let actions : List Text = map (λ item. item.name) agent.actions in
      let procs : List Text = map (λ item. item.name) agent.procs in
      let there : slice_get fluents i ≡ Some item.name = slice_get-map (λ (f : FluentItem). f.name) agent.fluents i ∙ ap (option_map (λ (f : FluentItem). f.name)) e in
      let r = contains-among (declared_names agent) item.name
      (among-left _ procs item.name (among-left _ actions item.name
      (among-right (flat_map sort_names agent.sorts ++ agent.devices) fluents item.name (among-get fluents i item.name there)))) in
      subst (λ n. is_name n ≡ true) r.2 (well.names.words r.0 item.name r.1).named

  -- a ground fluent's item and arguments
  record IsFluent (fluent : ℕ) : Type 0 where
    item : FluentItem
    args : List ℕ
    named : is_name item.name ≡ true
    within : AreWithin (sizes agent item.args) args
    text : fluent_text agent fluent ≡ item.name ++ args_text agent item.args args

  is-fluent : (fluent : ℕ) → fluent < length (ground_fluents agent) → IsFluent fluent
  is-fluent fluent less =
      let g = has_at (ground_fluents agent) fluent less in
      let s = stands agent (fluent_args agent) 0 fluent g.item.0 g.item.1 g.is in
      let at : g.item.0 ≡ s.at = s.is ∙ zero-add s.at in
      let many = length-map agent.fluents (λ (f : FluentItem). f.args) in
      let i = has_at agent.fluents g.item.0 (omega (arith, s.inside, at, many)) in
      record {
        item = i.item;
        args = g.item.1;
        named = fluent-named g.item.0 i.item i.is;
        within =
            subst (λ sorts. AreWithin (sizes agent sorts) g.item.1) (args_at-fluents agent.fluents g.item.0 i.item i.is)
            (subst (λ k. AreWithin (sizes agent (args_at (fluent_args agent) k)) g.item.1) (sym at) s.within);
        text =
            ap (λ o. unwrap_or (option_and_then (λ at. option_map (λ item. fluent_text_at agent item at) (slice_get agent.fluents at.0)) o) []) g.is
            ∙ ap (λ o. unwrap_or (option_map (λ item. fluent_text_at agent item g.item) o) []) i.is;
      }

  -- ---- values

  sort-few : (sort : ℕ) (o : Option SortItem) → slice_get agent.sorts sort ≡ o → size_at o ≤ 255
  sort-few sort None e = omega arith
  sort-few sort (Some item) e =
      subst (λ i. item_size i ≤ 255) (get_or_from_slice_get agent.sorts sort item item e) (well.countable.sorts sort item (slice_get_within agent.sorts sort item e))

  few-constants : (sort : ℕ) → sort_size agent sort ≤ 255
  few-constants sort = sort-few sort (slice_get agent.sorts sort) refl

  below-known : (sort v : ℕ) → v < sort_size agent sort → is_known v ≡ true
  below-known sort v less = lt-ltb v unknown (omega (arith, less, few-constants sort))

  -- a value that a text names is of the fluent's sort, and this is its text
  pub start-named-only : (fluent : ℕ) (text : Text) (v : ℕ) → start_named agent fluent text ≡ Some v → IsOf agent (fluent_sort agent fluent) v × (text ≡ start_text agent fluent v)
  unfolding start_named
  start-named-only fluent text v e = go (bytes_eq text (codes "unknown")) refl e
    where
      go : (b : Bool) → bytes_eq text (codes "unknown") ≡ b
          → (if b then Some unknown else constant_named agent (fluent_sort agent fluent) text) ≡ Some v
          → IsOf agent (fluent_sort agent fluent) v × (text ≡ start_text agent fluent v)
      go true h e =
          subst (λ u. IsOf agent (fluent_sort agent fluent) u × (text ≡ start_text agent fluent u)) (some-same unknown v e)
          (unknown-of agent (fluent_sort agent fluent), same_text text (codes "unknown") (sym h))
      go false h e =
          let sort = fluent_sort agent fluent in
          let r = named-has (sort_size agent sort) (constant_text agent sort) text v e in (
            or-left (nat_lt v (sort_size agent sort)) (v == unknown) (lt-ltb v (sort_size agent sort) r.0),
            sym r.1 ∙ ap (λ b. if b then value_text agent fluent v else codes "unknown") (sym (below-known sort v r.0)),
          )

  module _ (apart : TellsApart agent) where
    pub fluent-form : (fluent : ℕ) → fluent < length (ground_fluents agent) → is_action (fluent_text agent fluent) ≡ true
    fluent-form fluent less =
        let f = is-fluent fluent less in
        ap is_action f.text
        ∙ action-form f.item.name (map (λ at. constant_text agent at.0 at.1) (zip f.item.args f.args)) f.named (args-form agent well apart f.item.args f.args f.within)

    other-text : (sort v : ℕ) → v < sort_size agent sort → bytes_eq (constant_text agent sort v) (codes "unknown") ≡ false
    other-text sort v less = go (bytes_eq (constant_text agent sort v) (codes "unknown")) refl
      where
        go : (b : Bool) → bytes_eq (constant_text agent sort v) (codes "unknown") ≡ b → bytes_eq (constant_text agent sort v) (codes "unknown") ≡ false
        go false e = e
        go true e = absurd ((constant_known agent apart sort v less).1 (same_text (constant_text agent sort v) (codes "unknown") (sym e)))

    -- the text of a value names it
    pub start-named-back : (fluent v : ℕ) → IsOf agent (fluent_sort agent fluent) v → start_named agent fluent (start_text agent fluent v) ≡ Some v
    unfolding start_named
    start-named-back fluent v of = go (either_of agent (fluent_sort agent fluent) v of)
      where
        go : IsEither agent (fluent_sort agent fluent) v → start_named agent fluent (start_text agent fluent v) ≡ Some v
        go (inl less) =
            let sort = fluent_sort agent fluent in
            let text = constant_text agent sort v in
            ap (λ t. if bytes_eq t (codes "unknown") then Some unknown else constant_named agent sort t) (known_text agent apart fluent v less)
            ∙ ap (λ b. if b then Some unknown else constant_named agent sort text) (other-text sort v less)
            ∙ constant-back agent well apart sort v less
        go (inr same) = subst (λ u. start_named agent fluent (start_text agent fluent u) ≡ Some u) (sym same) refl

    start-lacks : (fluent v : ℕ) → IsOf agent (fluent_sort agent fluent) v → Lacks 10 (start_text agent fluent v)
    start-lacks fluent v of = go (either_of agent (fluent_sort agent fluent) v of)
      where
        go : IsEither agent (fluent_sort agent fluent) v → Lacks 10 (start_text agent fluent v)
        go (inl less) =
            let sort = fluent_sort agent fluent in
            subst (Lacks 10) (sym (known_text agent apart fluent v less)) (constant-lacks 10 refl (constant_text agent sort v) (constant-form agent well apart sort v less))
        go (inr same) = subst (λ u. Lacks 10 (start_text agent fluent u)) (sym same) refl

    -- the line of a value has no line feed
    pub start-line-lacks : (fluent v : ℕ) → fluent < length (ground_fluents agent) → IsOf agent (fluent_sort agent fluent) v → Lacks 10 (start_line agent (fluent, v))
    start-line-lacks fluent v less of =
        let name = fluent_text agent fluent in
        lacks-both 10 ((codes "start " ++ name) ++ codes " ") (start_text agent fluent v)
        (lacks-both 10 (codes "start " ++ name) (codes " ")
        (lacks-both 10 (codes "start ") name refl (action-lacks 10 refl name (fluent-form fluent less))) refl)
        (start-lacks fluent v of)
