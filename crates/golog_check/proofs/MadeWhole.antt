-- The agent that a draft makes is well formed.
use Rattle.std.proofs.Common.{◌≡◌, ℕ, ◌≤◌, true, false, ◌&&◌, List, [], ◌++◌, length, Option, Result, Ok, Err, Some, None, refl, sym, ap, subst, ◌∙◌, arith}
use Rattle.std.specs.Prelude.{◌==◌, slice_get, unwrap_or, option_map, IfOk}
use Rattle.std.specs.List.{list_all}
use Rattle.std.specs.Option.{option_map_or}
use Rattle.std.proofs.lemmas.Bool.{eqb-true}
use Rattle.std.proofs.lemmas.List.{append-nil}
use Rattle.golog_tree.specs.declared.agent.Agent.{Agent}
use Rattle.golog_tree.specs.declared.agent.FluentItem.{FluentItem}
use Rattle.golog_tree.specs.declared.agent.ActionItem.{ActionItem}
use Rattle.golog_tree.specs.declared.agent.CauseItem.{CauseItem}
use Rattle.golog_tree.specs.declared.cond.Term.{Term}
use Rattle.golog_tree.specs.declared.cond.Cond.{Cond}
use Rattle.golog_tree.specs.declared.draft.DraftTheory.{DraftTheory}
use Rattle.golog_tree.specs.declared.draft.DraftProgram.{DraftProgram}
use Rattle.golog_tree.specs.declared.draft.DraftFluent.{DraftFluent}
use Rattle.golog_tree.specs.declared.draft.DraftAction.{DraftAction}
use Rattle.golog_tree.specs.declared.draft.DraftCause.{DraftCause}
use Rattle.golog_rows.specs.Reading.{Reading}
use Rattle.golog_semantics.specs.Fits.{bound_from}
use Rattle.golog_semantics.specs.Written.{is_written_cond}
use Rattle.golog_draft.specs.Drafts.{TheoryKeeps, ProgramKeeps, signature, cond_keeps, term_keeps, fluent_keeps, draft_args_keep, draft_action_at, draft_action_keeps, draft_fluent_keeps, draft_cause_keeps, cause_vars, vars_after}
use Rattle.golog_semantics.specs.WellFormed.{WellFormed, head_sorts, effect_fits, cause_fits_for, cause_fits}
use Rattle.golog_semantics.proofs.Tests.{and_both, and_cases}
use Rattle.golog_check.specs.declared.heads.Head.{Head}
use Rattle.golog_check.specs.DeclaredItems.{Declared, action_item}
use Rattle.golog_check.specs.Sorts.{fluent_sort, fluent_sorts, action_sorts}
use Rattle.golog_check.specs.Terms.{term_in}
use Rattle.golog_check.specs.Heads.{head_from}
use Rattle.golog_check.specs.Effects.{head_within, cause_in}
use Rattle.golog_check.specs.declared.fault.CheckFault.{CheckFault}
use Rattle.golog_check.specs.Check.{names_of, all_refusals, agent_of, Checks}
use Rattle.golog_check.proofs.CauseParts.{IsCause, cause-is}
use Rattle.golog_check.proofs.Countable.{action-args, all-get, few-of, fluent-args}
use Rattle.golog_check.proofs.TermLaws.{terms-fit}
use Rattle.golog_check.proofs.CondLaws.{conds-fit}
use Rattle.golog_check.proofs.PartLaws.{none-refused}
use Rattle.golog_check.proofs.Given.{given-all}
use Rattle.golog_check.proofs.Vars.{words_of, words-long, head-vars, vars-append}
use Rattle.golog_check.proofs.MadeCauses.{found_of, found-long, head-fits, scope-binds}
use Rattle.golog_check.proofs.MadeBuiltIn.{built-in}
use Rattle.golog_check.proofs.MadeItems as items
use Rattle.golog_check.proofs.MadeActions as acts
use Rattle.golog_check.proofs.MadePrograms as progs

module _ (theory : DraftTheory) (program : DraftProgram) (keeps : TheoryKeeps theory) (also : ProgramKeeps theory program) where
  abbrev agent : Agent
  agent = agent_of theory program

  abbrev names : Declared
  names = names_of theory program

  cause-at : (item : DraftCause) (action : DraftAction) (fluent : DraftFluent) (y : CauseItem)
      → slice_get theory.actions item.action ≡ Some action → slice_get theory.fluents item.fluent ≡ Some fluent
      → length action.args ≡ length item.action_args → length fluent.args ≡ length item.fluent_args
      → draft_args_keep theory action.args ≡ true → draft_args_keep theory fluent.args ≡ true
      → term_keeps (signature theory) item.term ≡ true
      → cond_keeps (signature theory) item.cond (length (cause_vars theory item)) ≡ true
      → IsCause names item y → cause_fits agent y ≡ true
  cause-at item action fluent y e f l m akept fkept tkept ckept s =
      let has = acts.has-items theory program keeps also in
      let get = acts.action-get theory program keeps also item.action action e in
      let got = acts.fluent-get theory program keeps also item.fluent fluent f in
      let asorts : action_sorts names item.action ≡ action.args = ap (λ (o : Option ActionItem). option_map_or (λ (i : ActionItem). i.args) o []) get in
      let fsorts : fluent_sorts names item.fluent ≡ fluent.args = ap (λ (o : Option FluentItem). option_map_or (λ (i : FluentItem). i.args) o []) got in
      let own : unwrap_or (fluent_sort names item.fluent) 0 ≡ fluent.sort = ap (λ (o : Option FluentItem). unwrap_or (option_map (λ (i : FluentItem). i.sort) o) 0) got in
      let few-a = few-of theory keeps action.args akept in
      let few-f = few-of theory keeps fluent.args fkept in
      let read-a : (head_from names (head_within []) action.args item.action_args).outcome ≡ Ok s.action =
      subst (λ ss. (head_from names (head_within []) ss item.action_args).outcome ≡ Ok s.action) asorts s.action_read in
      let read-f : (head_from names (head_within s.action.scope) fluent.args item.fluent_args).outcome ≡ Ok s.fluent =
      subst (λ ss. (head_from names (head_within s.action.scope) ss item.fluent_args).outcome ≡ Ok s.fluent) fsorts s.fluent_read in
      let one = head-fits agent names has action.args item.action_args (head_within []) s.action (sym l)
      (items.args-in theory program keeps also action.args akept) refl (omega (arith, few-a)) read-a in
      let two = head-fits agent names has fluent.args item.fluent_args (head_within s.action.scope) s.fluent (sym m)
      (items.args-in theory program keeps also fluent.args fkept) one.sorted (omega (arith, one.long, few-a, few-f)) read-f in
      let vars = found_of s.fluent.scope in
      let few : length s.fluent.scope ≤ 32 = omega (arith, one.long, two.long, few-a, few-f) in
      let words : words_of s.fluent.scope ≡ cause_vars theory item =
      head-vars theory program fluent.args item.fluent_args (head_within s.action.scope) s.fluent (sym m) read-f
      ∙ ap (λ (ws : List (List ℕ)). vars_after theory ws item.fluent_args) (head-vars theory program action.args item.action_args (head_within []) s.action (sym l) read-a)
      ∙ sym (vars-append theory program item.action_args item.fluent_args []) in
      let long : length s.fluent.scope ≡ length (cause_vars theory item) = sym (words-long s.fluent.scope) ∙ ap length words in
      let binds = scope-binds agent names has s.fluent.scope two.sorted in
      let term = terms-fit agent names has (bound_from 0 vars) s.fluent.scope binds few item.term
      (ap (λ g. term_keeps g item.term) (acts.same-signature theory program keeps also) ∙ tkept) fluent.sort s.term
      (subst (λ n. (term_in names s.fluent.scope n item.term).outcome ≡ Ok s.term) own s.term_read) in
      let cond = conds-fit agent names has item.cond (bound_from 0 vars) s.fluent.scope binds few
      (ap (λ g. cond_keeps g item.cond (length s.fluent.scope)) (acts.same-signature theory program keeps also)
      ∙ ap (λ n. cond_keeps (signature theory) item.cond n) long ∙ ckept) s.cond s.cond_read in
      let made : CauseItem = record { action = item.action; action_args = s.action.args; fluent = item.fluent; fluent_args = s.fluent.args; term = s.term; cond = s.cond } in
      let heads : head_sorts agent (action.args ++ fluent.args) (s.action.args ++ s.fluent.args) [] ≡ Some vars =
      ap (λ xs. head_sorts agent (action.args ++ fluent.args) (xs ++ s.fluent.args) []) one.args
      ∙ ap (λ xs. head_sorts agent (action.args ++ fluent.args) (one.added ++ xs) []) two.args
      ∙ one.fit fluent.args two.added
      ∙ ap (λ ss. head_sorts agent ss two.added (found_of s.action.scope)) (sym (append-nil fluent.args))
      ∙ ap (λ xs. head_sorts agent (fluent.args ++ []) xs (found_of s.action.scope)) (sym (append-nil two.added))
      ∙ two.fit [] [] in
      let written : is_written_cond agent s.cond (length vars) ≡ true = ap (λ n. is_written_cond agent s.cond n) (found-long s.fluent.scope) ∙ cond.written in
      ap (cause_fits agent) (sym s.is)
      ∙ ap (λ (o : Option ActionItem). option_map_or (λ a. option_map_or (cause_fits_for agent made a) (slice_get agent.fluents item.fluent) false) o false) get
      ∙ ap (λ (o : Option FluentItem). option_map_or (cause_fits_for agent made (action_item action)) o false) got
      ∙ ap (λ (o : Option (List ℕ)). option_map_or (effect_fits agent made fluent.sort) o false) heads
      ∙ and_both _ _ (and_both _ _ (and_both _ _ term.fits cond.fits) term.written) written

  cause-by : (item : DraftCause) (y : CauseItem) (o : Option DraftAction) → slice_get theory.actions item.action ≡ o
      → option_map_or (λ (action : DraftAction). length action.args == length item.action_args && true) o false ≡ true
      → fluent_keeps (signature theory) item.fluent item.fluent_args ≡ true
      → term_keeps (signature theory) item.term ≡ true
      → cond_keeps (signature theory) item.cond (length (cause_vars theory item)) ≡ true
      → IsCause names item y → cause_fits agent y ≡ true
  cause-by item y None e h k tk ck s = absurd (cc)
  cause-by item y (Some action) e h k tk ck s =
      let t = and_cases (length action.args == length item.action_args) true h in
      let f = acts.fluent-some theory program keeps also item.fluent (length item.fluent_args) (slice_get theory.fluents item.fluent) refl k in
      cause-at item action f.0 y e f.1 (eqb-true (length action.args) (length item.action_args) t.0)
      (acts.fluent-long theory program keeps also item.fluent f.0 (length item.fluent_args) f.1 k)
      (action-args theory keeps action (all-get (draft_action_keeps theory) theory.actions keeps.actions item.action action e))
      (fluent-args theory keeps f.0 (all-get (draft_fluent_keeps theory) theory.fluents keeps.fluents item.fluent f.0 f.1)) tk ck s

  causes : list_all (cause_fits agent) (agent_of theory program).causes ≡ true
  causes = given-all (cause_in names) (cause_fits agent) (draft_cause_keeps theory) (λ item h y e.
      let t = and_cases _ (cond_keeps (signature theory) item.cond (length (cause_vars theory item))) h in
      let u = and_cases _ (term_keeps (signature theory) item.term) t.0 in
      let v = and_cases (draft_action_at theory item.action (length item.action_args) (λ _. true)) (fluent_keeps (signature theory) item.fluent item.fluent_args) u.0 in
      cause-by item y (slice_get theory.actions item.action) refl v.0 v.1 u.1 t.1 (cause-is names item y e))
      theory.causes keeps.causes

  pub whole : all_refusals theory program ≡ [] → WellFormed (agent_of theory program)
  whole none =
      let fit = none-refused theory program none in
      record {
        built_in = built-in theory program keeps;
        names = items.names theory program keeps also fit.procs;
        small = items.small theory program keeps also;
        sorts = items.sorts theory program keeps also;
        countable = items.numbered theory program keeps also fit.fluents fit.actions;
        fluents = items.fluents theory program keeps also;
        actions = items.actions theory program keeps also;
        actions_fit = record {
          poss = acts.poss theory program keeps also;
          poss_once = acts.poss-once theory program keeps also;
          causes = causes;
          senses = acts.senses theory program keeps also;
          senses_once = acts.senses-distinct theory program keeps also;
        };
        starts = progs.starts theory program keeps also;
        programs = progs.programs theory program keeps also none;
      }

  -- an agent that a check answers is well formed
  pub well-formed : (result : Result Agent CheckFault) → Checks result theory program → IfOk result WellFormed
  well-formed (Ok made) h = subst WellFormed (sym h.1) (whole h.0)
  well-formed (Err fault) h = tt
