-- What the parts of a draft say: words and numbers in their places, conditions and programs. (This project's own.)
use Rattle.std.specs.Prelude.{ℕ, pos, Bool, true, false, ◌==◌, ◌&&◌, Option, Some, None, List, [], ◌∷◌}
use Rattle.std.specs.Option.{option_map_or}
use Rattle.std.specs.Ordering.{int_eq}
use Rattle.golog_tree.specs.declared.cond.Arg.{Arg}
use Rattle.golog_tree.specs.declared.cond.Arg.TheVariants.{Const, Var}
use Rattle.golog_tree.specs.declared.cond.Term.{Term}
use Rattle.golog_tree.specs.declared.cond.Cond.{Cond}
use Rattle.golog_tree.specs.declared.cond.Cond.TheOpen as said
use Rattle.golog_tree.specs.declared.cond.Cond.TheViews.{out-Term, out-Cond}
use Rattle.golog_tree.specs.declared.prog.Prog.{Prog}
use Rattle.golog_tree.specs.declared.prog.Prog.TheOpen as prog
use Rattle.golog_tree.specs.Tidy.{Layer}
use Rattle.golog_tree.specs.declared.prog.Prog.TheViews.{out-Prog}
use Rattle.golog_tree.specs.declared.draft_cond.DraftArg.{DraftArg}
use Rattle.golog_tree.specs.declared.draft_cond.DraftArg.TheVariants.{Word, Number}
use Rattle.golog_tree.specs.declared.draft_cond.DraftTerm.{DraftTerm}
use Rattle.golog_tree.specs.declared.draft_cond.DraftTerm.TheOpen as term
use Rattle.golog_tree.specs.declared.draft_cond.DraftTerm.TheFolds.{fold-DraftTerm}
use Rattle.golog_tree.specs.declared.draft_cond.DraftCond.{DraftCond}
use Rattle.golog_tree.specs.declared.draft_cond.DraftCond.TheOpen.{DraftCond-F, Truth, Is, Equal, Less, AtMost, Not, And, Or, ForSome, ForAll}
use Rattle.golog_tree.specs.declared.draft_cond.DraftCond.TheFolds.{fold-DraftCond}
use Rattle.golog_tree.specs.declared.draft_prog.DraftProg.{DraftProg}
use Rattle.golog_tree.specs.declared.draft_prog.DraftProg.TheOpen.{DraftProg-F, Nil, Act, Test, Seq, Choice, Pick, Star, If, While, Conc, Prio, Cstar, Call, Search}
use Rattle.golog_tree.specs.declared.draft_prog.DraftProg.TheFolds.{fold-DraftProg}
use Rattle.golog_check.specs.declared.scope.Meant.{Meant}
use Rattle.golog_tree.specs.declared.join.Join.{Join}
use Rattle.golog_tree.specs.declared.join.Join.TheVariants.{Seq as InSeq, Choice as InChoice, Conc as InConc, Prio as InPrio}
use Rattle.golog_check.specs.DeclaredItems.{Declared}
use Rattle.golog_check.specs.Sorts.{number_in, fluent_sorts, action_sorts, param_sorts}
use Rattle.golog_check.specs.Scope.{Scope, meaning, variable_no, within}

-- the same argument
abbrev pub same_arg : Arg → Arg → Bool
same_arg (Const c) (Const d) = c == d
same_arg (Var x) (Var y) = x == y
same_arg _ _ = false

module _ (names : Declared) (scope : Scope) where
  -- In a place of a sort a word says the variable or the constant of this sort that it means there, and a
  -- number says the constant of this sort that it is.
  abbrev pub arg_says : ℕ → DraftArg → Arg → Bool
  arg_says sort (Word word at) arg =
      option_map_or (λ (meant : Meant). meant.sort == sort && same_arg meant.arg arg)
      (meaning names scope word at) false
  arg_says sort (Number number at) arg =
      option_map_or (λ place. same_arg (Const place) arg) (number_in names sort number) false

  -- as many arguments as sorts, each in a place of its own sort
  abbrev pub args_say : List ℕ → List DraftArg → List Arg → Bool
  args_say [] [] [] = true
  args_say (sort ∷ sorts) (draft ∷ drafts) (arg ∷ args) = arg_says sort draft arg && args_say sorts drafts args
  args_say _ _ _ = false

  -- a term in a place of a sort, given what its part says
  abbrev pub term_says_step : term.DraftTerm-F (ℕ → Term → Bool) → ℕ → said.Term-F Cond Term → Bool
  term_says_step (term.Arg draft) sort (said.Arg arg) = arg_says sort draft arg
  term_says_step (term.Fluent fluent drafts at) sort (said.Fluent item args) =
      fluent == item && args_say (fluent_sorts names fluent) drafts args
  term_says_step (term.Shift part by at) sort (said.Shift own t amount) =
      own == sort && int_eq by amount && part sort t
  term_says_step _ _ _ = false

  -- in a place of the sort, the draft says the term
  abbrev pub term_says : DraftTerm → ℕ → Term → Bool
  term_says = fold-DraftTerm (ℕ → Term → Bool) (λ layer sort t. term_says_step layer sort (out-Term t))

-- what a condition says, in any scope
abbrev pub CondSays : Type 0
CondSays = Scope → Cond → Bool

-- as many conditions as there are drafts, each said by its own
abbrev pub conds_say : Scope → List CondSays → List Cond → Bool
conds_say scope [] [] = true
conds_say scope (draft ∷ drafts) (c ∷ cs) = draft scope c && conds_say scope drafts cs
conds_say _ _ _ = false

-- within a binder, whose variable has the number of variables in scope
abbrev pub bound_says : Scope → List ℕ → ℕ → CondSays → ℕ → ℕ → Cond → Bool
bound_says scope word sort draft var own c =
    var == variable_no scope && own == sort && draft (within word sort scope) c

module _ (names : Declared) where
  -- a condition in a scope, given what its parts say
  abbrev pub cond_says_step : DraftCond-F CondSays → Scope → said.Cond-F Cond Term → Bool
  cond_says_step (Truth true at) scope (said.Truth true) = true
  cond_says_step (Truth false at) scope (said.Truth false) = true
  cond_says_step (Is fluent drafts at) scope (said.Is item args) =
      fluent == item && args_say names scope (fluent_sorts names fluent) drafts args
  cond_says_step (Equal one other at) scope (said.Equal sort t u) =
      term_says names scope one sort t && term_says names scope other sort u
  cond_says_step (Less one other at) scope (said.Less sort t u) =
      term_says names scope one sort t && term_says names scope other sort u
  cond_says_step (AtMost one other at) scope (said.AtMost sort t u) =
      term_says names scope one sort t && term_says names scope other sort u
  cond_says_step (Not draft at) scope (said.Not c) = draft scope c
  cond_says_step (And drafts at) scope (said.And cs) = conds_say scope drafts cs
  cond_says_step (Or drafts at) scope (said.Or cs) = conds_say scope drafts cs
  cond_says_step (ForSome word sort draft at) scope (said.ForSome var own c) =
      bound_says scope word sort draft var own c
  cond_says_step (ForAll word sort draft at) scope (said.ForAll var own c) =
      bound_says scope word sort draft var own c
  cond_says_step _ _ _ = false

  -- in the scope, the draft says the condition
  abbrev pub cond_says : DraftCond → CondSays
  cond_says = fold-DraftCond CondSays (λ layer scope c. cond_says_step layer scope (out-Cond c))

-- what a program says, in any scope
abbrev pub ProgSays : Type 0
ProgSays = Scope → Prog → Bool

abbrev pub is_nil : Layer → Bool
is_nil prog.Nil = true
is_nil _ = false

-- the two parts of a program that is joined so
abbrev pub two_of : Join → Layer → Option (Prog × Prog)
two_of InSeq (prog.Seq p q) = Some (p, q)
two_of InChoice (prog.Choice p q) = Some (p, q)
two_of InConc (prog.Conc p q) = Some (p, q)
two_of InPrio (prog.Prio p q) = Some (p, q)
two_of _ _ = None

-- More than two parts nest to the right; one part stands for itself, and none is `nil`.
abbrev pub parts_say : Join → Scope → List ProgSays → Prog → Bool
parts_say join scope [] p = is_nil (out-Prog p)
parts_say join scope (draft ∷ []) p = draft scope p
parts_say join scope (draft ∷ next ∷ drafts) p =
    option_map_or (λ (two : Prog × Prog). draft scope two.0 && parts_say join scope (next ∷ drafts) two.1)
    (two_of join (out-Prog p)) false

module _ (names : Declared) where
  -- a program in a scope that no parts are joined to, given what its parts say
  abbrev pub prog_says_layer : DraftProg-F ProgSays → Scope → Layer → Bool
  prog_says_layer (Nil at) scope prog.Nil = true
  prog_says_layer (Act action drafts at) scope (prog.Act item args) =
      action == item && args_say names scope (action_sorts names action) drafts args
  prog_says_layer (Test draft at) scope (prog.Test c) = cond_says names draft scope c
  prog_says_layer (Pick word sort draft at) scope (prog.Pick var own p) =
      var == variable_no scope && own == sort && draft (within word sort scope) p
  prog_says_layer (Star draft at) scope (prog.Star p) = draft scope p
  prog_says_layer (If draft one other at) scope (prog.If c p q) =
      cond_says names draft scope c && one scope p && other scope q
  prog_says_layer (While draft body at) scope (prog.While c p) = cond_says names draft scope c && body scope p
  prog_says_layer (Cstar draft at) scope (prog.Cstar p) = draft scope p
  prog_says_layer (Call callee drafts at) scope (prog.Call item args) =
      callee == item && args_say names scope (param_sorts names callee) drafts args
  prog_says_layer (Search depth fuel draft at) scope (prog.Search d f p) =
      int_eq depth (pos d) && int_eq fuel (pos f) && draft scope p
  prog_says_layer _ _ _ = false

  abbrev pub prog_says_step : DraftProg-F ProgSays → Scope → Prog → Bool
  prog_says_step (Seq drafts at) scope p = parts_say InSeq scope drafts p
  prog_says_step (Choice drafts at) scope p = parts_say InChoice scope drafts p
  prog_says_step (Conc drafts at) scope p = parts_say InConc scope drafts p
  prog_says_step (Prio drafts at) scope p = parts_say InPrio scope drafts p
  prog_says_step draft scope p = prog_says_layer draft scope (out-Prog p)

  -- in the scope, the draft says the program
  abbrev pub prog_says : DraftProg → ProgSays
  prog_says = fold-DraftProg ProgSays prog_says_step
