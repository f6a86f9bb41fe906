-- Programs that stay inside the numbers, sorts and limits of an agent.
use Rattle.std.specs.Prelude.{ℕ, Bool, true, false, not, nat_le, ◌&&◌, List, slice_get}
use Rattle.std.specs.List.{list_all}
use Rattle.std.specs.Option.{option_map_or}
use Rattle.golog_tree.specs.declared.agent.Agent.{Agent}
use Rattle.golog_tree.specs.declared.agent.ActionItem.{ActionItem}
use Rattle.golog_tree.specs.declared.cond.Arg.{Arg}
use Rattle.golog_tree.specs.declared.prog.Prog.{Prog}
use Rattle.golog_tree.specs.declared.prog.Prog.TheOpen.{Prog-F, Way-F, Nil, Act, Test, Seq, Choice, Pick, Star, If, While, Conc, Prio, Cstar, Call, Search, Follow}
use Rattle.golog_tree.specs.declared.prog.Prog.TheFolds.{fold-Prog}
use Rattle.golog_semantics.specs.Ways.{is_empty}
use Rattle.golog_semantics.specs.Reports.{fits_label}
use Rattle.golog_semantics.specs.Fits.{Scope, nothing_bound, bound, args_fit, binder_fits, cond_fits}
use Rattle.golog_semantics.specs.BlockFree.{block_at, proc_blocks}

-- where a program stands: the variables that are bound there, and whether it is within a search block
pub record Position : Type 0 where
  pub scope : Scope
  pub in_block : Bool

-- outside of all binders and blocks
abbrev pub outermost : Position
outermost = record { scope = nothing_bound; in_block = false }

-- within a binder of this variable
abbrev pub within_binder : Position → ℕ → ℕ → Position
within_binder at var sort = record at { scope = bound at.scope var sort }

-- within a search block
abbrev pub within_block : Position → Position
within_block at = record at { in_block = true }

-- from the low number to the high one
abbrev pub is_between : ℕ → ℕ → ℕ → Bool
is_between low high n = nat_le low n && nat_le n high

-- the greatest depth of a block
abbrev pub depth_limit : ℕ
depth_limit = 64

-- the greatest fuel of a block
abbrev pub fuel_limit : ℕ
fuel_limit = 100000

-- a block stands within no block, and its depth and fuel are in their limits
abbrev pub block_fits : Position → ℕ → ℕ → Bool
block_fits at depth fuel = not at.in_block && is_between 1 depth_limit depth && is_between 1 fuel_limit fuel

module _ (agent : Agent) where
  -- an action of the program or a built-in one, with its arguments
  abbrev pub act_fits : Position → ℕ → List Arg → Bool
  act_fits at action args =
      let is_own = λ (item : ActionItem). is_empty item.posters && args_fit agent at.scope item.args args in
      option_map_or is_own (slice_get agent.actions action) false

  -- a procedure with its arguments; within a block, one that has no block
  abbrev pub call_fits : Position → ℕ → List Arg → Bool
  call_fits at item args =
      option_map_or (λ proc. args_fit agent at.scope proc.params args) (slice_get agent.procs item) false
      && not (at.in_block && block_at (proc_blocks agent) item)

  -- a program fits its position, given this of its parts
  abbrev pub prog_step : Prog-F (Position → Bool) (Position → Bool) → Position → Bool
  prog_step Nil at = true
  prog_step (Act action args) at = act_fits at action args
  prog_step (Test c) at = cond_fits agent c at.scope
  prog_step (Seq p q) at = p at && q at
  prog_step (Choice p q) at = p at && q at
  prog_step (Pick var sort p) at = binder_fits agent var sort && p (within_binder at var sort)
  prog_step (Star p) at = p at
  prog_step (If c p q) at = cond_fits agent c at.scope && p at && q at
  prog_step (While c p) at = cond_fits agent c at.scope && p at
  prog_step (Conc p q) at = p at && q at
  prog_step (Prio p q) at = p at && q at
  prog_step (Cstar p) at = p at
  prog_step (Call item args) at = call_fits at item args
  prog_step (Search depth fuel p) at = block_fits at depth fuel && p (within_block at)
  prog_step (Follow depth fuel p rest) at =
      block_fits at depth fuel && p (within_block at) && list_all (λ w. w (within_block at)) rest

  -- a way of a run under way: its action is the program's, and its left fits
  abbrev pub way_step : Way-F (Position → Bool) (Position → Bool) → Position → Bool
  way_step way at = fits_label agent way.label && way.left at

  -- Every number in the program is the agent's, every argument and term is of its sort, every variable is
  -- bound, blocks are in their limits, and none stands in a block or is reached from one.
  abbrev pub prog_fits : Prog → Position → Bool
  prog_fits = fold-Prog (Position → Bool) (Position → Bool) prog_step way_step

  -- a program with no free variable
  abbrev pub fits : Prog → Bool
  fits p = prog_fits p outermost
