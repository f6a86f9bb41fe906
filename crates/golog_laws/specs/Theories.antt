-- The theories of the worked examples: each with its start values and its program open.
use Rattle.std.specs.Prelude.{pos, negsuc, true, false, ℕ, List, [], ◌∷◌, Some, None, codes}
use Rattle.golog_tree.specs.declared.agent.Agent.{Agent}
use Rattle.golog_tree.specs.declared.agent.SortItem.TheVariants.{Range, Listed}
use Rattle.golog_tree.specs.declared.agent.FluentItem.{FluentItem}
use Rattle.golog_tree.specs.declared.agent.ActionItem.{ActionItem}
use Rattle.golog_tree.specs.declared.agent.CauseItem.{CauseItem}
use Rattle.golog_tree.specs.declared.cond.Arg.TheVariants.{Const, Var}
use Rattle.golog_tree.specs.declared.cond.Term.{Term}
use Rattle.golog_tree.specs.declared.cond.Term.TheVariants as term
use Rattle.golog_tree.specs.declared.cond.Cond.TheVariants as cond
use Rattle.golog_tree.specs.declared.prog.Prog.{Prog}
use Rattle.golog_tree.specs.declared.prog.Prog.TheVariants as prog
use Rattle.golog_tree.specs.Ground.{numbered}
use Rattle.golog_semantics.specs.NoAgent.{no_agent}
use Rattle.golog_semantics.specs.Text.{Text}
use Rattle.golog_semantics.specs.BuiltIn.{bool_item, interrupts_running, own_action, start_interrupts, stop_interrupts, sets_running}

-- no items of its own
abbrev plain : List ℕ → Prog → Agent
plain starts main = record no_agent { starts = starts; main = main }

-- what is built in stands before a theory's own items
abbrev built : Agent → Agent
built own = numbered (record own {
  sorts = bool_item ∷ own.sorts;
  fluents = interrupts_running ∷ own.fluents;
  actions = start_interrupts ∷ stop_interrupts ∷ own.actions;
  causes = sets_running 0 1 ∷ sets_running 1 0 ∷ own.causes;
})

-- a fluent without arguments, of this sort
abbrev fluent : Text → ℕ → FluentItem
fluent name sort = record { name = name; args = []; sort = sort }

-- an action that the second device carries out
abbrev commanded : Text → List ℕ → ActionItem
commanded name args = record { name = name; args = args; device = Some 1; posters = [] }

-- an action that the first device posts
abbrev posted : Text → List ℕ → ActionItem
posted name args = record { name = name; args = args; device = None; posters = 0 ∷ [] }

-- the action gives the fluent this value, always
abbrev sets : ℕ → ℕ → Term → CauseItem
sets action fluent term = record {
  action = action;
  action_args = [];
  fluent = fluent;
  fluent_args = [];
  term = term;
  cond = cond.Truth true;
}

-- so it does at its argument
abbrev sets_there : ℕ → ℕ → Term → CauseItem
sets_there action fluent term =
    record (sets action fluent term) { action_args = Var 0 ∷ []; fluent_args = Var 0 ∷ [] }

abbrev yes : Term
yes = term.Arg (Const 1)

abbrev no : Term
no = term.Arg (Const 0)

-- what is built in, and nothing else
unfoldable pub bare : List ℕ → Prog → Agent
bare starts main = built (plain starts main)

-- a fluent that an action makes true
unfoldable pub one_effect : List ℕ → Prog → Agent
one_effect starts main = built (record (plain starts main) {
  fluents = fluent (codes "p") 0 ∷ [];
  actions = own_action (codes "a") ∷ [];
  causes = sets 2 1 yes ∷ [];
})

-- one fluent
unfoldable pub one_fluent : List ℕ → Prog → Agent
one_fluent starts main = built (record (plain starts main) {
  fluents = fluent (codes "p") 0 ∷ [];
})

-- the floors 1 to 4, and going up
unfoldable pub floors : List ℕ → Prog → Agent
floors starts main = built (record (plain starts main) {
  sorts = Range (codes "level") (pos 1) (pos 4) ∷ [];
  fluents = fluent (codes "floor") 1 ∷ [];
  actions = own_action (codes "up") ∷ [];
  poss = record { action = 2; cond = cond.Less 1 (term.Fluent 1 []) (term.Arg (Const 3)) } ∷ [];
  causes = sets 2 1 (term.Shift 1 (term.Fluent 1 []) (pos 1)) ∷ [];
})

-- one fluent and two actions
unfoldable pub priorities : List ℕ → Prog → Agent
priorities starts main = built (record (plain starts main) {
  fluents = fluent (codes "u") 0 ∷ [];
  actions = own_action (codes "a") ∷ own_action (codes "b") ∷ [];
})

-- a door that a device looks at, and the wind, which slams it
unfoldable pub door : List ℕ → Prog → Agent
door starts main = built (record (plain starts main) {
  fluents = fluent (codes "opened") 0 ∷ [];
  actions =
      commanded (codes "look") [] ∷
      own_action (codes "go") ∷
      own_action (codes "knock") ∷
      posted (codes "calm") [] ∷
      posted (codes "slam") [] ∷ [];
  devices = codes "wind" ∷ codes "door" ∷ [];
  causes = sets 6 1 no ∷ [];
  senses = record { action = 2; fluent = 1; args = []; later = false } ∷ [];
})

-- places that may be blocked
unfoldable pub world : List ℕ → Prog → Agent
world starts main = built (record (plain starts main) {
  sorts = Listed (codes "place") (codes "a" ∷ codes "b" ∷ codes "c" ∷ []) ∷ [];
  fluents = record (fluent (codes "blocked") 0) { args = 1 ∷ [] } ∷ [];
  actions =
      record (own_action (codes "go")) { args = 1 ∷ [] } ∷
      posted (codes "calm") [] ∷
      posted (codes "block") (1 ∷ []) ∷ [];
  devices = codes "world" ∷ [];
  poss = record { action = 2; cond = cond.Not (cond.Is 1 (Var 0 ∷ [])) } ∷ [];
  causes = sets_there 4 1 yes ∷ [];
})

-- two actions that make a fluent true each, and one that changes nothing
unfoldable pub two : List ℕ → Prog → Agent
two starts main = built (record (plain starts main) {
  fluents = fluent (codes "p") 0 ∷ fluent (codes "q") 0 ∷ [];
  actions = own_action (codes "a") ∷ own_action (codes "b") ∷ own_action (codes "c") ∷ [];
  causes = sets 2 1 yes ∷ sets 3 2 yes ∷ [];
})

-- a procedure that calls itself after an action
unfoldable pub recursive : List ℕ → Prog → Agent
recursive starts main = built (record (plain starts main) {
  fluents = fluent (codes "q") 0 ∷ [];
  actions = own_action (codes "a") ∷ [];
  procs =
      record { name = codes "p"; params = []; body = prog.Seq (prog.Act 2 []) (prog.Call 0 []) } ∷ [];
})

-- an effect that hangs on another fluent
unfoldable pub unsure : List ℕ → Prog → Agent
unsure starts main = built (record (plain starts main) {
  fluents = fluent (codes "p") 0 ∷ fluent (codes "q") 0 ∷ [];
  actions = own_action (codes "a") ∷ [];
  causes = record (sets 2 1 yes) { cond = cond.Is 2 [] } ∷ [];
})

-- the floors 1 and 2, and going up
unfoldable pub two_floors : List ℕ → Prog → Agent
two_floors starts main = built (record (plain starts main) {
  sorts = Range (codes "level") (pos 1) (pos 2) ∷ [];
  fluents = fluent (codes "floor") 1 ∷ [];
  actions = own_action (codes "up") ∷ [];
  causes = sets 2 1 (term.Shift 1 (term.Fluent 1 []) (pos 1)) ∷ [];
})

-- a lift with its panel
unfoldable pub lift : List ℕ → Prog → Agent
lift starts main = built (record (plain starts main) {
  sorts = Range (codes "level") (pos 1) (pos 4) ∷ [];
  fluents =
      fluent (codes "floor") 1 ∷
      record (fluent (codes "on") 0) { args = 1 ∷ [] } ∷
      fluent (codes "quitting") 0 ∷ [];
  actions =
      commanded (codes "up") [] ∷
      commanded (codes "down") [] ∷
      commanded (codes "off") (1 ∷ []) ∷
      posted (codes "push") (1 ∷ []) ∷
      posted (codes "quit") [] ∷ [];
  devices = codes "panel" ∷ codes "lift" ∷ [];
  poss =
      record { action = 2; cond = cond.Less 1 (term.Fluent 1 []) (term.Arg (Const 3)) } ∷
      record { action = 3; cond = cond.Less 1 (term.Arg (Const 0)) (term.Fluent 1 []) } ∷
      record {
        action = 4;
        cond = cond.And ((cond.Is 2 (Var 0 ∷ []))
            ∷ (cond.Equal 1 (term.Arg (Var 0)) (term.Fluent 1 [])) ∷ []);
      } ∷ [];
  causes =
      sets 2 1 (term.Shift 1 (term.Fluent 1 []) (pos 1)) ∷
      sets 3 1 (term.Shift 1 (term.Fluent 1 []) (negsuc 0)) ∷
      sets_there 4 2 no ∷
      sets_there 5 2 yes ∷
      sets 6 3 yes ∷ [];
})
