-- Procedures that reach themselves without a step, and front nests that are too deep.
use Rattle.std.specs.Prelude.{ℕ, zero, suc, ◌==◌, nat_lt, not, Bool, true, false, ◌&&◌, ◌||◌, List, [], ◌∷◌, ◌++◌, length, map, slice_get, slice_index, unwrap_or}
use Rattle.std.specs.List.{list_any, enumerate_from, flat_map}
use Rattle.golog_tree.specs.declared.agent.Agent.{Agent}
use Rattle.golog_tree.specs.declared.agent.ProcItem.{ProcItem}
use Rattle.golog_tree.specs.declared.draft.DraftProc.{DraftProc}
use Rattle.golog_semantics.specs.FrontCalls.{front_calls, front_nests}
use Rattle.golog_shapes.specs.Codes.{UNGUARDED, FRONT_DEEP}
use Rattle.golog_shapes.specs.Limits.{PROC_NEST}
use Rattle.golog_rows.specs.Least.{CodeAt}
use Rattle.golog_shapes.specs.Shapes.{shapes}

-- what is said of the procedure with this number
abbrev pub said : List Bool → ℕ → Bool
said marks item = unwrap_or (slice_get marks item) false

-- one of the calls is of the procedure, or of one of which it is said that it reaches it
abbrev pub leads_to : ℕ → List Bool → List ℕ → Bool
leads_to goal reached calls = list_any (λ item. item == goal || said reached item) calls

module _ (agent : Agent) where
  -- which procedures may come to a call of this one without a step, in so many calls
  abbrev pub reaching_to : ℕ → ℕ → List Bool
  reaching_to zero goal = map (λ item. false) agent.procs
  reaching_to (suc k) goal =
      map (λ (item : ProcItem). leads_to goal (reaching_to k goal) (front_calls agent item.body)) agent.procs

  -- The same in any number of calls. As many as there are procedures are enough.
  unfoldable pub reaching : ℕ → List Bool
  reaching goal = reaching_to (length agent.procs) goal

  -- the procedure reaches itself without a step
  abbrev pub is_unguarded : ℕ → Bool
  is_unguarded item = said (reaching item) item

  -- It reaches one that reaches itself, as it may be itself. Then it has no front nest.
  abbrev pub has_no_nest : ℕ → Bool
  has_no_nest item =
      list_any (λ (other : ℕ × ProcItem). is_unguarded other.0 && said (reaching other.0) item)
      (enumerate_from 0 agent.procs)

  -- the front nest is too deep, where there is one
  abbrev pub is_deep : ℕ → Bool
  is_deep item = not (has_no_nest item) && nat_lt PROC_NEST (slice_index (front_nests agent) item)

abbrev pub refused_where : Bool → CodeAt → List CodeAt
refused_where true refusal = refusal ∷ []
refused_where false refusal = []

-- the refusals of a procedure for what it may call without a step, by its number
abbrev pub front_refusals : Agent → ℕ × DraftProc → List CodeAt
front_refusals agent (item, draft) =
    refused_where (is_unguarded agent item) (UNGUARDED, draft.at)
    ++ refused_where (is_deep agent item) (FRONT_DEEP, draft.at)

abbrev pub all_front_refusals : List DraftProc → List CodeAt
all_front_refusals procs = flat_map (front_refusals (shapes procs)) (enumerate_from 0 procs)
