-- The agent that a draft makes: what is built in stands first.
use Rattle.std.proofs.Common.{◌≡◌, ℕ, suc, ◌+◌, Bool, true, not, ◌&&◌, cond, List, [], ◌∷◌, ◌++◌, length, map, take, drop, Option, Result, Ok, Some, None, refl, sym, ap, ◌∙◌, arith}
use Rattle.std.specs.Prelude.{nat_lt, nat_le, codes, slice_get, unwrap_or, option_map, option_and_then, position}
use Rattle.std.specs.List.{take-map, enumerate_from, position_or_len}
use Rattle.std.specs.Option.{option_map_or}
use Rattle.std.proofs.lemmas.Bool.{lt-ltb}
use Rattle.std.proofs.lemmas.List.{take-append-drop}
use Rattle.golog_tree.specs.declared.agent.SortItem.{SortItem}
use Rattle.golog_tree.specs.declared.agent.FluentItem.{FluentItem}
use Rattle.golog_tree.specs.declared.agent.CauseItem.{CauseItem}
use Rattle.golog_tree.specs.declared.cond.Arg.{Arg}
use Rattle.golog_tree.specs.declared.cond.Arg.TheVariants.{Const}
use Rattle.golog_tree.specs.declared.cond.Term.{Term}
use Rattle.golog_tree.specs.declared.cond.Term.TheVariants as term
use Rattle.golog_tree.specs.declared.cond.Cond.{Cond}
use Rattle.golog_tree.specs.declared.draft.DraftTheory.{DraftTheory}
use Rattle.golog_tree.specs.declared.draft.DraftProgram.{DraftProgram}
use Rattle.golog_tree.specs.declared.draft.DraftCause.{DraftCause}
use Rattle.golog_tree.specs.declared.draft_cond.DraftArg.TheVariants.{Word}
use Rattle.golog_tree.specs.declared.draft_cond.DraftTerm.{DraftTerm}
use Rattle.golog_tree.specs.declared.draft_cond.DraftTerm.TheVariants as draft_term
use Rattle.golog_tree.specs.declared.draft_cond.DraftTerm.TheOpen.{Arg as ArgOf}
use Rattle.golog_tree.specs.declared.draft_cond.DraftTerm.TheFolds.{fold-roll-DraftTerm}
use Rattle.golog_tree.specs.declared.draft_cond.DraftCond.TheVariants as draft_cond
use Rattle.golog_tree.specs.declared.draft_cond.DraftCond.TheOpen.{Truth}
use Rattle.golog_tree.specs.declared.draft_cond.DraftCond.TheFolds.{fold-roll-DraftCond}
use Rattle.golog_rows.specs.Reading.{Reading, gives, ◌>>=◌, found, unless, outcome_behind}
use Rattle.golog_semantics.specs.Text.{Text}
use Rattle.golog_semantics.specs.BuiltIn.{HasBuiltIn, bool_item, interrupts_running, sets_running}
use Rattle.golog_draft.specs.Drafts.{TheoryKeeps, draft_sets_running}
use Rattle.golog_check.specs.declared.scope.Meant.{Meant}
use Rattle.golog_check.specs.Codes.{SORT_CLASH, UNBOUND}
use Rattle.golog_draft.specs.DraftPlaces.{sort_place}
use Rattle.golog_check.specs.DeclaredItems.{Declared, sort_item, fluent_item, action_item}
use Rattle.golog_rows.specs.Least.{CodeAt}
use Rattle.golog_check.specs.Least.{value_of, given}
use Rattle.golog_check.specs.Sorts.{lists, lists_before, is_declared, place_of_word, constant_of, listing, constant, fluent_sort}
use Rattle.golog_check.specs.Terms.{is_other, sort_step, term_sort, as_step, term_as, term_place, term_in}
use Rattle.golog_check.specs.Conditions.{InScope, cond_step, cond_in}
use Rattle.golog_check.specs.Effects.{cause_in}
use Rattle.golog_check.specs.Check.{names_of, agent_of}

position-first : {X : Type 0} (p : X → Bool) (x : X) (xs : List X) → p x ≡ true → position p (x ∷ xs) ≡ Some 0
position-first p x xs e =
    let at : Bool → ℕ = λ b. cond (not b) (1 + position_or_len p xs) 0 in
    ap (λ b. cond (nat_lt (at b) (suc (length xs))) (Some (at b)) None) e
    ∙ ap (λ b. cond b (Some 0) None) (lt-ltb 0 (suc (length xs)) (omega arith))

-- a truth value's word, and its place in `bool`
record IsTruth (word : Text) (c : ℕ) : Type 0 where
  listed : lists word bool_item ≡ true
  place : place_of_word word bool_item ≡ Some c

truth-false : IsTruth (codes "false") 0
truth-false = record { listed = refl; place = refl }

truth-true : IsTruth (codes "true") 1
truth-true = record { listed = refl; place = refl }

module _ (names : Declared) (more : List SortItem) (places : List ℕ)
    (first : names.sorts ≡ bool_item ∷ more) (at_first : names.places ≡ 0 ∷ places) (word : Text) (c : ℕ) (truth : IsTruth word c) where
  constant-built : constant names word 0 ≡ Some (record { arg = Const c; sort = 0 })
  unfolding constant
  constant-built =
      let declared : is_declared names 0 0 ≡ true = ap (λ (ps : List ℕ). option_map_or (λ p. nat_le p 0) (slice_get ps 0) true) at_first in
      let fits : lists_before names word 0 (0, bool_item) ≡ true =
      ap (λ b. b && lists word bool_item) declared ∙ truth.listed in
      let here : listing names word 0 ≡ Some 0 =
      ap (λ (sorts : List SortItem). position (lists_before names word 0) (enumerate_from 0 sorts)) first
      ∙ position-first (lists_before names word 0) (0, bool_item) (enumerate_from (0 + 1) more) fits in
      let meant : ℕ → Meant = λ n. record { arg = Const n; sort = 0 } in
      ap (λ (o : Option ℕ). option_and_then (constant_of names word) o) here
      ∙ ap (λ (sorts : List SortItem). option_map meant (option_and_then (place_of_word word) (slice_get sorts 0))) first
      ∙ ap (λ (o : Option ℕ). option_map meant o) truth.place

  abbrev built_term : DraftTerm
  built_term = draft_term.Arg (Word word 0)

  shows : term_sort names [] (draft_term.Arg (Word word 0)) ≡ Some 0
  shows =
      ap (term_sort names []) (sym (draft_term.rolls-Arg (Word word 0)))
      ∙ fold-roll-DraftTerm (Option ℕ) (sort_step names []) (ArgOf (Word word 0))
      ∙ ap (λ (o : Option Meant). option_map (λ (m : Meant). m.sort) o) constant-built

  takes : (term_as names [] (draft_term.Arg (Word word 0)) 0).outcome ≡ Ok (term.Arg (Const c))
  takes =
      ap (λ t. (term_as names [] t 0).outcome) (sym (draft_term.rolls-Arg (Word word 0)))
      ∙ ap (λ (f : ℕ → Reading Term). (f 0).outcome) (fold-roll-DraftTerm (ℕ → Reading Term) (as_step names []) (ArgOf (Word word 0)))
      ∙ ap (λ (o : Option Meant). (found UNBOUND 0 (option_map (λ (m : Meant). m.arg) o) >>= λ (a : Arg). gives (term.Arg a)).outcome) constant-built

  term-built : (term_in names [] 0 (draft_term.Arg (Word word 0))).outcome ≡ Ok (term.Arg (Const c))
  unfolding term_in
  term-built =
      ap (λ (o : Option ℕ). unless (is_other o 0) (SORT_CLASH, term_place built_term) (term_as names [] built_term 0).outcome) shows
      ∙ takes

  truth-built : cond_in names (draft_cond.Truth true 0) ≡ cond_step names (Truth true 0)
  truth-built = ap (cond_in names) (sym (draft_cond.rolls-Truth true 0)) ∙ fold-roll-DraftCond InScope (cond_step names) (Truth true 0)

  cause-built : (action : ℕ) → unwrap_or (fluent_sort names 0) 0 ≡ 0 → (cause_in names (draft_sets_running action word)).outcome ≡ Ok (sets_running action c)
  unfolding cause_in
  cause-built action own =
      let made : Term → Cond → Reading CauseItem = λ t d. gives (record { action = action; action_args = []; fluent = 0; fluent_args = []; term = t; cond = d }) in
      let next : InScope → Term → Reading CauseItem = λ f t. f [] >>= λ d. made t d in
      ap (λ n. outcome_behind (term_in names [] n built_term).outcome (next (cond_in names (draft_cond.Truth true 0)))) own
      ∙ ap (λ (o : Result Term CodeAt). outcome_behind o (next (cond_in names (draft_cond.Truth true 0)))) term-built
      ∙ ap (λ (f : InScope). (next f (term.Arg (Const c))).outcome) truth-built

module _ (theory : DraftTheory) (program : DraftProgram) (keeps : TheoryKeeps theory) where
  abbrev names : Declared
  names = names_of theory program

  sorts-first : (names_of theory program).sorts ≡ bool_item ∷ map sort_item (drop 1 theory.sorts)
  sorts-first =
      ap (map sort_item) (sym (take-append-drop 1 theory.sorts) ∙ ap (λ xs. xs ++ drop 1 theory.sorts) keeps.built_in.sorts)

  places-first : (names_of theory program).places ≡ 0 ∷ map sort_place (drop 1 theory.sorts)
  places-first =
      ap (map sort_place) (sym (take-append-drop 1 theory.sorts) ∙ ap (λ xs. xs ++ drop 1 theory.sorts) keeps.built_in.sorts)

  fluents-first : (names_of theory program).fluents ≡ interrupts_running ∷ map fluent_item (drop 1 theory.fluents)
  fluents-first =
      ap (map fluent_item) (sym (take-append-drop 1 theory.fluents) ∙ ap (λ xs. xs ++ drop 1 theory.fluents) keeps.built_in.fluents)

  own-first : unwrap_or (fluent_sort (names_of theory program) 0) 0 ≡ 0
  own-first = ap (λ (xs : List FluentItem). unwrap_or (option_map (λ (i : FluentItem). i.sort) (slice_get xs 0)) 0) fluents-first

  causes-first : theory.causes ≡ draft_sets_running 0 (codes "true") ∷ draft_sets_running 1 (codes "false") ∷ drop 2 theory.causes
  causes-first = sym (take-append-drop 2 theory.causes) ∙ ap (λ xs. xs ++ drop 2 theory.causes) keeps.built_in.causes

  pub built-in : HasBuiltIn (agent_of theory program)
  built-in = record {
    sorts = take-map sort_item 1 theory.sorts ∙ ap (map sort_item) keeps.built_in.sorts;
    fluents = take-map fluent_item 1 theory.fluents ∙ ap (map fluent_item) keeps.built_in.fluents;
    actions = take-map action_item 2 theory.actions ∙ ap (map action_item) keeps.built_in.actions;
    causes =
        let rest = given (map (cause_in names) (drop 2 theory.causes)) in
        let true-cause = draft_sets_running 0 (codes "true") in
        let false-cause = draft_sets_running 1 (codes "false") in
        let made-true = cause-built names (map sort_item (drop 1 theory.sorts)) (map sort_place (drop 1 theory.sorts))
        sorts-first places-first (codes "true") 1 truth-true 0 own-first in
        let made-false = cause-built names (map sort_item (drop 1 theory.sorts)) (map sort_place (drop 1 theory.sorts))
        sorts-first places-first (codes "false") 0 truth-false 1 own-first in
        ap (λ (xs : List DraftCause). take 2 (given (map (cause_in names) xs))) causes-first
        ∙ ap (λ (o : Result CauseItem CodeAt). take 2 (value_of o ++ (value_of (cause_in names false-cause).outcome ++ rest))) made-true
        ∙ ap (λ (o : Result CauseItem CodeAt). take 2 (sets_running 0 1 ∷ (value_of o ++ rest))) made-false;
  }
