-- The text of a program of an agent, as its file could say it.
use Rattle.std.specs.Prelude.{ℕ, ℤ, pos, negsuc, not, nat_eq, Bool, true, false, List, [], ◌∷◌, ◌++◌, find, slice_get, unwrap_or, unsigned_abs, codes, decimal}
use Rattle.std.specs.List.{list_any, range_with_len, starts_with}
use Rattle.std.specs.Option.{option_map_or}
use Rattle.golog_form.specs.Printing.{spaced}
use Rattle.golog_tree.specs.declared.agent.Agent.{Agent}
use Rattle.golog_tree.specs.declared.agent.SortItem.{SortItem}
use Rattle.golog_tree.specs.declared.agent.SortItem.TheVariants.{Range, Listed}
use Rattle.golog_tree.specs.declared.agent.FluentItem.{FluentItem}
use Rattle.golog_tree.specs.declared.agent.ActionItem.{ActionItem}
use Rattle.golog_tree.specs.declared.agent.ProcItem.{ProcItem}
use Rattle.golog_tree.specs.declared.cond.Arg.{Arg}
use Rattle.golog_tree.specs.declared.cond.Arg.TheVariants.{Const, Var}
use Rattle.golog_tree.specs.declared.cond.Cond.{Cond}
use Rattle.golog_tree.specs.declared.cond.Cond.TheOpen.{Term-F, Arg as ArgTerm, Fluent, Shift, Ite}
use Rattle.golog_tree.specs.declared.cond.Cond.TheOpen.{Cond-F, Truth, Is, Equal, Less, AtMost, Not, And, Or, ForSome, ForAll}
use Rattle.golog_tree.specs.declared.cond.Cond.TheFolds.{fold-Cond, fold-Term}
use Rattle.golog_tree.specs.declared.cond.Term.{Term}
use Rattle.golog_tree.specs.declared.prog.Prog.{Prog}
use Rattle.golog_tree.specs.declared.prog.Prog.TheOpen.{Prog-F, Nil, Act, Test, Seq, Choice, Pick, Star, If, While, Conc, Prio, Cstar, Call, Search, Follow}
use Rattle.golog_tree.specs.declared.prog.Prog.TheFolds.{fold-Prog}
use Rattle.golog_semantics.specs.BuiltIn.{declared_names}
use Rattle.golog_semantics.specs.Text.{Text, constant_text}
use Rattle.golog_print.specs.declared.named.TheConstants.{STEMS}

-- these texts in a list, with one space between two
abbrev pub in_list : List Text → Text
in_list texts = codes "(" ++ spaced texts ++ codes ")"

-- what the names of variables can begin with
abbrev pub stem_text : ℕ → Text
stem_text number = codes "v" ++ decimal number ++ codes "_"

abbrev pub truth_text : Bool → Text
truth_text true = codes "true"
truth_text false = codes "false"

-- how a term is moved by a number, up or down
abbrev pub sign_text : ℤ → Text
sign_text (pos n) = codes "+"
sign_text (negsuc n) = codes "-"

-- the first number that passes the test, of so many from one on
unfoldable pub first_passing : (ℕ → Bool) → ℕ → ℕ → ℕ
first_passing test from count = unwrap_or (find test (range_with_len from count)) 0

module _ (agent : Agent) where
  -- no declared name begins with the stem of the number
  abbrev pub is_free : ℕ → Bool
  is_free number = not (list_any (λ name. starts_with nat_eq name (stem_text number)) (declared_names agent))

  -- the first such number, of more than an agent has names
  abbrev pub stem_no : ℕ
  stem_no = first_passing is_free 0 STEMS

  -- the name of a sort, a fluent, an action, a procedure
  abbrev pub sort_item_name : SortItem → Text
  sort_item_name (Range name low high) = name
  sort_item_name (Listed name constants) = name

  abbrev pub sort_name : ℕ → Text
  sort_name sort = option_map_or sort_item_name (slice_get agent.sorts sort) []

  abbrev pub fluent_name : ℕ → Text
  fluent_name fluent = option_map_or (λ (item : FluentItem). item.name) (slice_get agent.fluents fluent) []

  abbrev pub action_name : ℕ → Text
  action_name action = option_map_or (λ (item : ActionItem). item.name) (slice_get agent.actions action) []

  abbrev pub proc_name : ℕ → Text
  proc_name item = option_map_or (λ (proc : ProcItem). proc.name) (slice_get agent.procs item) []

  -- the sorts of the arguments of a fluent, an action, a procedure
  abbrev pub fluent_sorts : ℕ → List ℕ
  fluent_sorts fluent = option_map_or (λ (item : FluentItem). item.args) (slice_get agent.fluents fluent) []

  abbrev pub action_sorts : ℕ → List ℕ
  action_sorts action = option_map_or (λ (item : ActionItem). item.args) (slice_get agent.actions action) []

  abbrev pub proc_sorts : ℕ → List ℕ
  proc_sorts item = option_map_or (λ (proc : ProcItem). proc.params) (slice_get agent.procs item) []

module _ (agent : Agent) (stem : Text) where
  -- a variable, by its number
  abbrev pub variable_text : ℕ → Text
  variable_text var = stem ++ decimal var

  -- a constant of the sort, or a variable
  abbrev pub arg_text : ℕ → Arg → Text
  arg_text sort (Const value) = constant_text agent sort value
  arg_text sort (Var var) = variable_text var

  -- arguments of these sorts
  abbrev pub args_texts : List ℕ → List Arg → List Text
  args_texts [] args = []
  args_texts (sort ∷ sorts) [] = []
  args_texts (sort ∷ sorts) (arg ∷ args) = arg_text sort arg ∷ args_texts sorts args

  -- `(VAR SORT)`
  abbrev pub binder_text : ℕ → ℕ → Text
  binder_text var sort = in_list (variable_text var ∷ sort_name agent sort ∷ [])

  -- `(FLUENT ARGS)`
  abbrev pub fluent_text : ℕ → List Arg → Text
  fluent_text fluent args = in_list (fluent_name agent fluent ∷ args_texts (fluent_sorts agent fluent) args)

  -- A term of the sort, given its parts. An agent file has no `Ite`.
  abbrev pub term_step : Term-F Text (ℕ → Text) → ℕ → Text
  term_step (ArgTerm arg) sort = arg_text sort arg
  term_step (Fluent fluent args) sort = fluent_text fluent args
  term_step (Shift own term by) sort = in_list (sign_text by ∷ term own ∷ decimal (unsigned_abs by) ∷ [])
  term_step (Ite cond one other) sort = in_list []

  -- a condition, given its parts
  abbrev pub cond_step : Cond-F Text (ℕ → Text) → Text
  cond_step (Truth truth) = truth_text truth
  cond_step (Is fluent args) = fluent_text fluent args
  cond_step (Equal sort one other) = in_list (codes "=" ∷ one sort ∷ other sort ∷ [])
  cond_step (Less sort one other) = in_list (codes "<" ∷ one sort ∷ other sort ∷ [])
  cond_step (AtMost sort one other) = in_list (codes "<=" ∷ one sort ∷ other sort ∷ [])
  cond_step (Not cond) = in_list (codes "not" ∷ cond ∷ [])
  cond_step (And conds) = in_list (codes "and" ∷ conds)
  cond_step (Or conds) = in_list (codes "or" ∷ conds)
  cond_step (ForSome var sort cond) = in_list (codes "some" ∷ binder_text var sort ∷ cond ∷ [])
  cond_step (ForAll var sort cond) = in_list (codes "all" ∷ binder_text var sort ∷ cond ∷ [])

  abbrev pub term_text : Term → ℕ → Text
  term_text = fold-Term Text (ℕ → Text) cond_step term_step

  abbrev pub cond_text : Cond → Text
  cond_text = fold-Cond Text (ℕ → Text) cond_step term_step

  -- A program, given its parts. An agent file has no `Follow`.
  abbrev pub prog_step : Prog-F Text Text → Text
  prog_step Nil = codes "nil"
  prog_step (Act action args) =
      in_list (codes "act" ∷ action_name agent action ∷ args_texts (action_sorts agent action) args)
  prog_step (Test cond) = in_list (codes "test" ∷ cond_text cond ∷ [])
  prog_step (Seq p q) = in_list (codes "seq" ∷ p ∷ q ∷ [])
  prog_step (Choice p q) = in_list (codes "choice" ∷ p ∷ q ∷ [])
  prog_step (Pick var sort p) = in_list (codes "pick" ∷ binder_text var sort ∷ p ∷ [])
  prog_step (Star p) = in_list (codes "star" ∷ p ∷ [])
  prog_step (If cond p q) = in_list (codes "if" ∷ cond_text cond ∷ p ∷ q ∷ [])
  prog_step (While cond p) = in_list (codes "while" ∷ cond_text cond ∷ p ∷ [])
  prog_step (Conc p q) = in_list (codes "conc" ∷ p ∷ q ∷ [])
  prog_step (Prio p q) = in_list (codes "prio" ∷ p ∷ q ∷ [])
  prog_step (Cstar p) = in_list (codes "cstar" ∷ p ∷ [])
  prog_step (Call item args) = in_list (codes "call" ∷ proc_name agent item ∷ args_texts (proc_sorts agent item) args)
  prog_step (Search depth fuel p) = in_list (codes "search" ∷ decimal depth ∷ decimal fuel ∷ p ∷ [])
  prog_step (Follow depth fuel p rest) = in_list []

  abbrev pub prog_text : Prog → Text
  prog_text = fold-Prog Text Text prog_step (λ _. [])

-- The text of a program. Its variables are named behind what no declared name begins with.
abbrev pub text_of_prog : Agent → Prog → Text
text_of_prog agent prog = prog_text agent (stem_text (stem_no agent)) prog

-- the text of a condition, with variables named so
abbrev pub text_of_cond : Agent → Cond → Text
text_of_cond agent cond = cond_text agent (stem_text (stem_no agent)) cond
