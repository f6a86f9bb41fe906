-- What is built into every agent, and the names of an agent.
use Rattle.std.specs.Prelude.{◌≡◌, ℕ, Bool, true, not, nat_eq, None, List, [], ◌∷◌, ◌++◌, codes, map, take, All, IsTrue}
use Rattle.std.specs.List.{list_any, list_all, flat_map, IsDistinct}
use Rattle.std.specs.Cmp.Lexicographic.{pointwise}
use Rattle.golog_base.specs.Names.{IsWord}
use Rattle.golog_tree.specs.declared.agent.Agent.{Agent}
use Rattle.golog_tree.specs.declared.agent.SortItem.{SortItem}
use Rattle.golog_tree.specs.declared.agent.SortItem.TheVariants.{Range, Listed}
use Rattle.golog_tree.specs.declared.agent.FluentItem.{FluentItem}
use Rattle.golog_tree.specs.declared.agent.ActionItem.{ActionItem}
use Rattle.golog_tree.specs.declared.agent.CauseItem.{CauseItem}
use Rattle.golog_tree.specs.declared.cond.Arg.TheVariants.{Const}
use Rattle.golog_tree.specs.declared.cond.Term.TheVariants as term
use Rattle.golog_tree.specs.declared.cond.Cond.TheVariants as cond
use Rattle.golog_semantics.specs.Text.{Text}

-- the sort of truth values
abbrev pub bool_item : SortItem
bool_item = Listed (codes "bool") (codes "false" ∷ codes "true" ∷ [])

-- whether interrupts are running
abbrev pub interrupts_running : FluentItem
interrupts_running = record { name = codes "interrupts_running"; args = []; sort = 0 }

-- an action of the program alone, without arguments
abbrev pub own_action : Text → ActionItem
own_action name = record { name = name; args = []; device = None; posters = [] }

abbrev pub start_interrupts : ActionItem
start_interrupts = own_action (codes "start_interrupts")

abbrev pub stop_interrupts : ActionItem
stop_interrupts = own_action (codes "stop_interrupts")

-- the action makes `interrupts_running` this
abbrev pub sets_running : ℕ → ℕ → CauseItem
sets_running action value = record {
  action = action;
  action_args = [];
  fluent = 0;
  fluent_args = [];
  term = term.Arg (Const value);
  cond = cond.Truth true;
}

-- what is built in stands first in each list
pub record HasBuiltIn (agent : Agent) : Type 0 where
  pub sorts : take 1 agent.sorts ≡ bool_item ∷ []
  pub fluents : take 1 agent.fluents ≡ interrupts_running ∷ []
  pub actions : take 2 agent.actions ≡ start_interrupts ∷ stop_interrupts ∷ []
  pub causes : take 2 agent.causes ≡ sets_running 0 1 ∷ sets_running 1 0 ∷ []

-- a sort's name, and its constants where they are names
abbrev pub sort_names : SortItem → List Text
sort_names (Range name low high) = name ∷ []
sort_names (Listed name constants) = name ∷ constants

-- the names that an agent declares
abbrev pub declared_names : Agent → List Text
declared_names agent =
    flat_map sort_names agent.sorts ++ agent.devices
    ++ map (λ item. item.name) agent.fluents
    ++ map (λ item. item.name) agent.actions
    ++ map (λ item. item.name) agent.procs

abbrev pub same_text : Text → Text → Bool
same_text = pointwise nat_eq

-- the words that no item declares, not even one that is built in
abbrev pub keywords : List Text
keywords =
    codes "unknown" ∷ codes "nil" ∷ codes "not" ∷ codes "and" ∷ codes "or" ∷ codes "some" ∷ codes "all" ∷ []

abbrev pub is_keyword : Text → Bool
is_keyword name = list_any (same_text name) keywords

-- each name is a word, no keyword, and declared once
pub record NamesFit (agent : Agent) : Type 0 where
  pub words : All IsWord (declared_names agent)
  pub free : IsTrue (list_all (λ name. not (is_keyword name)) (declared_names agent))
  pub once : IsDistinct same_text (declared_names agent)
