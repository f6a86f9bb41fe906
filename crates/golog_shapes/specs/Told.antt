-- What is told of the procedures of a draft: how deep each nests by itself, what it calls without a step, and which
-- reach which in that way.
use Rattle.std.specs.Prelude.{ℕ, Bool, false, ◌&&◌, List, length, map, min, slice_get, replicate}
use Rattle.std.specs.List.{list_any, enumerate_from}
use Rattle.std.specs.Option.{option_map_or}
use Rattle.golog_tree.specs.declared.draft.DraftProc.{DraftProc}
use Rattle.golog_tree.specs.declared.draft_prog.DraftProg.{DraftProg}
use Rattle.golog_semantics.specs.FrontCalls.{front_calls}
use Rattle.golog_shapes.specs.declared.fronts.Nesting.{Nesting}
use Rattle.golog_shapes.specs.DraftNest.{draft_nest}
use Rattle.golog_shapes.specs.Limits.{told_nest}
use Rattle.golog_shapes.specs.Shapes.{shape, shapes}
use Rattle.golog_shapes.specs.Unguarded.{said}
use Rattle.golog_shapes.specs.Settled.{rounds_of}
use Rattle.golog_shapes.specs.Fronts.{draft_fore, reach_round}

-- how deep a procedure nests by itself, and what it calls
abbrev pub nesting : Nesting → ℕ × List ℕ
nesting item = (item.own, item.calls)

abbrev pub calls_told : List Nesting → List (List ℕ)
calls_told items = map (λ (item : Nesting). item.calls) items

-- the same of a procedure among others; the nest is told up to the one that is too deep
abbrev pub nesting_in : List DraftProc → DraftProc → ℕ × List ℕ
nesting_in procs item = (min (draft_nest item.body) told_nest, front_calls (shapes procs) (shape item.body))

abbrev pub nestings_in : List DraftProc → List (ℕ × List ℕ)
nestings_in procs = map (nesting_in procs) procs

-- the same, by which procedures may be skipped
abbrev pub nesting_by : List Bool → DraftProg → ℕ × List ℕ
nesting_by skips prog = (min (draft_nest prog) told_nest, (draft_fore skips prog).calls)

-- which procedures reach one
abbrev pub reached_by : List Nesting → ℕ → List Bool
reached_by items goal = rounds_of (reach_round (calls_told items) goal) (length items) (replicate (length items) false)

-- the same for each that is reached
abbrev pub reached_each : List Nesting → List (List Bool)
reached_each items = map (λ (at : ℕ × Nesting). reached_by items at.0) (enumerate_from 0 items)

-- by which procedures reach each: a procedure reaches itself
abbrev pub reaches_itself : List (List Bool) → ℕ → Bool
reaches_itself reached item = option_map_or (λ (marks : List Bool). said marks item) (slice_get reached item) false

-- a procedure reaches one that reaches itself
abbrev pub is_endless : List (List Bool) → ℕ → Bool
is_endless reached item =
    list_any (λ (at : ℕ × List Bool). said at.1 at.0 && said at.1 item) (enumerate_from 0 reached)
