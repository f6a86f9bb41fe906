-- The agent that a draft makes: its names, sorts, fluents and actions.
use Rattle.std.proofs.Common.{◌≡◌, ℕ, ◌≤◌, Bool, true, not, ◌&&◌, ◌||◌, List, [], ◌∷◌, ◌++◌, length, map, Option, Result, Ok, Err, Some, None, refl, sym, ap, subst, ◌∙◌, arith}
use Rattle.std.specs.Prelude.{All, nat_lt, nat_le, IsTrue, is_some}
use Rattle.std.specs.List.{list_all, flat_map, IsDistinct}
use Rattle.std.specs.Option.{option_map_or}
use Rattle.std.proofs.lemmas.Bool.{lt-ltb}
use Rattle.std.proofs.lemmas.List.{length-map, length-append}
use Rattle.golog_base.specs.Names.{IsWord}
use Rattle.golog_tree.specs.declared.agent.Agent.{Agent}
use Rattle.golog_tree.specs.declared.agent.FluentItem.{FluentItem}
use Rattle.golog_tree.specs.declared.agent.ActionItem.{ActionItem}
use Rattle.golog_tree.specs.declared.draft.DraftTheory.{DraftTheory}
use Rattle.golog_tree.specs.declared.draft.DraftProgram.{DraftProgram}
use Rattle.golog_tree.specs.declared.draft.DraftSort.{DraftSort}
use Rattle.golog_tree.specs.declared.draft.DraftSort.TheVariants.{Range, Listed}
use Rattle.golog_tree.specs.declared.draft.DraftFluent.{DraftFluent}
use Rattle.golog_tree.specs.declared.draft.DraftAction.{DraftAction}
use Rattle.golog_tree.specs.declared.draft.DraftDevice.{DraftDevice}
use Rattle.golog_tree.specs.Ground.{item_size, IsCountable}
use Rattle.golog_rows.specs.Reading.{Reading}
use Rattle.golog_semantics.specs.Text.{Text}
use Rattle.golog_semantics.specs.Ways.{is_empty}
use Rattle.golog_semantics.specs.BuiltIn.{NamesFit, declared_names, sort_names, same_text, is_keyword}
use Rattle.golog_semantics.specs.Fits.{is_sort}
use Rattle.golog_draft.specs.Drafts.{TheoryKeeps, ProgramKeeps, proc_names, draft_sort_names, theory_names, draft_sort_keeps, draft_fluent_keeps, draft_action_keeps, draft_args_keep}
use Rattle.golog_semantics.specs.WellFormed.{IsSmall, sort_fits, are_sorts, is_device_no, fluent_item_fits, action_item_fits}
use Rattle.golog_semantics.proofs.Tests.{and_both, and_cases}
use Rattle.golog_check.specs.DeclaredItems.{sort_item, fluent_item, action_item}
use Rattle.golog_rows.specs.Least.{CodeAt}
use Rattle.golog_check.specs.Least.{refusals, value_of, given}
use Rattle.golog_check.specs.Effects.{cause_in}
use Rattle.golog_check.specs.Procs.{proc_in}
use Rattle.golog_check.specs.Sums.{fluent_sum, action_sum}
use Rattle.golog_check.specs.Check.{names_of, agent_of}
use Rattle.golog_check.proofs.Countable.{made, sort-few, countable}
use Rattle.golog_check.proofs.ShapeLaws.{procs-named}

-- what is given is no more than what is read
pub given-few : {A : Type 0} (readings : List (Reading A)) → length (given readings) ≤ length readings
given-few [] = omega arith
given-few {A} (reading ∷ readings) =
    let more = given-few readings in
    let both = length-append (value_of reading.outcome) (given readings) in
    let one = one-few reading.outcome in
    omega (arith, more, both, one)
  where
    one-few : (o : Result A CodeAt) → length (value_of o) ≤ 1
    one-few (Ok x) = omega arith
    one-few (Err refusal) = omega arith

sort-named : (sort : DraftSort) → sort_names (sort_item sort) ≡ draft_sort_names sort
sort-named (Range name low high at) = refl
sort-named (Listed name constants at) = refl

sorts-named : (sorts : List DraftSort) → flat_map sort_names (map sort_item sorts) ≡ flat_map draft_sort_names sorts
sorts-named [] = refl
sorts-named (sort ∷ sorts) =
    ap (λ names. names ++ flat_map sort_names (map sort_item sorts)) (sort-named sort)
    ∙ ap (λ names. draft_sort_names sort ++ names) (sorts-named sorts)

fluents-named : (items : List DraftFluent) → map (λ (i : FluentItem). i.name) (map fluent_item items)
    ≡ map (λ (item : DraftFluent). item.name) items
fluents-named [] = refl
fluents-named (item ∷ items) = ap (λ names. item.name ∷ names) (fluents-named items)

actions-named : (items : List DraftAction) → map (λ (i : ActionItem). i.name) (map action_item items)
    ≡ map (λ (item : DraftAction). item.name) items
actions-named [] = refl
actions-named (item ∷ items) = ap (λ names. item.name ∷ names) (actions-named items)

module _ (theory : DraftTheory) (program : DraftProgram) (keeps : TheoryKeeps theory) (also : ProgramKeeps theory program) where
  abbrev agent : Agent
  agent = agent_of theory program

  module _ (none : refusals (map (proc_in (names_of theory program)) program.procs) ≡ []) where
    named : declared_names agent ≡ theory_names theory ++ proc_names program.procs
    named =
        let devices = map (λ (device : DraftDevice). device.name) theory.devices in
        let fluents = map (λ (i : FluentItem). i.name) (map fluent_item theory.fluents) in
        let actions = map (λ (i : ActionItem). i.name) (map action_item theory.actions) in
        let drafts = map (λ (item : DraftFluent). item.name) theory.fluents in
        ap (λ names. flat_map sort_names (map sort_item theory.sorts) ++ devices ++ fluents ++ actions ++ names)
        (procs-named (names_of theory program) program.procs none)
        ∙ ap (λ names. names ++ devices ++ fluents ++ actions ++ proc_names program.procs) (sorts-named theory.sorts)
        ∙ ap (λ names. flat_map draft_sort_names theory.sorts ++ devices ++ names ++ actions ++ proc_names program.procs) (fluents-named theory.fluents)
        ∙ ap (λ names. flat_map draft_sort_names theory.sorts ++ devices ++ drafts ++ names ++ proc_names program.procs) (actions-named theory.actions)

    pub names : NamesFit agent
    names = record {
      words = subst (λ (xs : List Text). All IsWord xs) (sym named) also.names.words;
      free = subst (λ (xs : List Text). IsTrue (list_all (λ name. not (is_keyword name)) xs)) (sym named) also.names.free;
      once = subst (λ (xs : List Text). IsDistinct same_text xs) (sym named) also.names.once;
    }

  pub small : IsSmall agent
  small = record {
    sorts = omega (arith, keeps.few.sorts, length-map theory.sorts sort_item);
    devices = omega (arith, keeps.few.devices, length-map theory.devices (λ (device : DraftDevice). device.name));
    causes =
        let few = given-few (map (cause_in (names_of theory program)) theory.causes) in
        let same = length-map theory.causes (cause_in (names_of theory program)) in
        omega (arith, few, same, keeps.few.causes);
    procs =
        let few = given-few (map (proc_in (names_of theory program)) program.procs) in
        let same = length-map program.procs (proc_in (names_of theory program)) in
        omega (arith, few, same, also.few);
  }

  pub sorts : IsTrue (list_all sort_fits agent.sorts)
  sorts = made sort_fits sort_item draft_sort_keeps (λ sort h. lt-ltb 0 (item_size (sort_item sort)) (sort-few sort h).0)
      theory.sorts keeps.sorts

  pub numbered : (fluent_sum theory).outcome ≡ Ok tt → (action_sum theory).outcome ≡ Ok tt → IsCountable agent
  numbered f a =
      let c = countable theory keeps f a in
      record {
        sorts = c.sorts;
        fluent_arities = c.fluent_arities;
        action_arities = c.action_arities;
        fluents = c.fluents;
        actions = c.actions;
        ground_fluents = c.ground_fluents;
        ground_actions = c.ground_actions;
        sizes = c.sizes;
        first_fluents = c.first_fluents;
        first_actions = c.first_actions;
      }

  -- a sort of the theory is one of the agent
  pub sort-in : (sort : ℕ) → nat_lt sort (length theory.sorts) ≡ is_sort agent sort
  sort-in sort = ap (λ n. nat_lt sort n) (sym (length-map theory.sorts sort_item))

  device-in : (device : ℕ) → nat_lt device (length theory.devices) ≡ is_device_no agent device
  device-in device = ap (λ n. nat_lt device n) (sym (length-map theory.devices (λ (device : DraftDevice). device.name)))

  all-same : (p q : ℕ → Bool) → ((n : ℕ) → p n ≡ q n) → (ns : List ℕ) → list_all p ns ≡ list_all q ns
  all-same p q h [] = refl
  all-same p q h (n ∷ ns) = ap (λ b. b && list_all p ns) (h n) ∙ ap (λ b. q n && b) (all-same p q h ns)

  pub args-in : (args : List ℕ) → draft_args_keep theory args ≡ true → are_sorts agent args ≡ true
  args-in args h =
      sym (all-same (λ sort. nat_lt sort (length theory.sorts)) (is_sort agent) sort-in args)
      ∙ (and_cases (nat_le (length args) 3) (list_all (λ sort. nat_lt sort (length theory.sorts)) args) h).1

  pub fluents : IsTrue (list_all (fluent_item_fits agent) agent.fluents)
  fluents = made (fluent_item_fits agent) fluent_item (draft_fluent_keeps theory) (λ item h.
      let t = and_cases (draft_args_keep theory item.args) (nat_lt item.sort (length theory.sorts)) h in
      and_both (are_sorts agent item.args) (is_sort agent item.sort) (args-in item.args t.0) (sym (sort-in item.sort) ∙ t.1))
      theory.fluents keeps.fluents

  device-of : (o : Option ℕ) → option_map_or (λ device. nat_lt device (length theory.devices)) o true ≡ option_map_or (is_device_no agent) o true
  device-of None = refl
  device-of (Some device) = device-in device

  pub actions : IsTrue (list_all (action_item_fits agent) agent.actions)
  actions = made (action_item_fits agent) action_item (draft_action_keeps theory) (λ item h.
      let t = and_cases _ (is_empty item.posters || not (is_some item.device)) h in
      let u = and_cases _ (list_all (λ device. nat_lt device (length theory.devices)) item.posters) t.0 in
      let v = and_cases (draft_args_keep theory item.args) (option_map_or (λ device. nat_lt device (length theory.devices)) item.device true) u.0 in
      and_both _ _ (and_both _ _ (and_both _ _ (args-in item.args v.0) (sym (device-of item.device) ∙ v.1))
      (sym (all-same (λ device. nat_lt device (length theory.devices)) (is_device_no agent) device-in item.posters) ∙ u.1)) t.1)
      theory.actions keeps.actions
