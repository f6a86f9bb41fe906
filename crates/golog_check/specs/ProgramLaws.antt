-- A program that is not refused fits the agent, where its blocks keep their limits, and could stand in its file.
use Rattle.std.specs.Prelude.{◌≡◌, ℕ, ◌≤◌, Bool, true, not, ◌&&◌, IsTrue, Ok, List, length, map}
use Rattle.std.specs.List.{list_all}
use Rattle.golog_tree.specs.declared.agent.Agent.{Agent}
use Rattle.golog_tree.specs.declared.agent.ProcItem.{ProcItem}
use Rattle.golog_tree.specs.declared.draft.DraftTheory.{DraftTheory}
use Rattle.golog_tree.specs.declared.draft.DraftProc.{DraftProc}
use Rattle.golog_tree.specs.declared.draft_prog.DraftProg.{DraftProg}
use Rattle.golog_tree.specs.declared.draft_prog.DraftProg.TheOpen.{DraftProg-F, Nil, Act, Test, Seq, Choice, Pick, Star, If, While, Conc, Prio, Cstar, Call, Search}
use Rattle.golog_tree.specs.declared.draft_prog.DraftProg.TheFolds.{fold-DraftProg}
use Rattle.golog_tree.specs.declared.prog.Prog.{Prog}
use Rattle.golog_tree.specs.Ground.{to_count}
use Rattle.golog_semantics.specs.BlockFree.{block_at, proc_blocks}
use Rattle.golog_semantics.specs.Fits as fits
use Rattle.golog_semantics.specs.ProgFits.{Position, is_between, depth_limit, fuel_limit, prog_fits}
use Rattle.golog_semantics.specs.Written.{is_written_prog}
use Rattle.golog_draft.specs.Drafts.{prog_keeps}
use Rattle.golog_check.specs.DeclaredItems.{Declared, declared_by}
use Rattle.golog_check.specs.Scope.{Scope}
use Rattle.golog_check.specs.Programs.{prog_in}
use Rattle.golog_check.specs.CheckLaws.{HasItems, Binds}

-- the agent has what is declared for programs too
pub record HasPrograms (agent : Agent) (names : Declared) : Type 0 where
  pub items : HasItems agent names
  pub actions : agent.actions ≡ names.actions
  pub params : map (λ (proc : ProcItem). proc.params) agent.procs ≡ names.params

module _ (has_block : ℕ → Bool) where
  -- blocks keep their limits, given the parts, within a block or not
  abbrev pub blocks_step : DraftProg-F (Bool → Bool) → Bool → Bool
  blocks_step (Nil at) inside = true
  blocks_step (Act action args at) inside = true
  blocks_step (Test c at) inside = true
  blocks_step (Seq ps at) inside = list_all (λ p. p inside) ps
  blocks_step (Choice ps at) inside = list_all (λ p. p inside) ps
  blocks_step (Pick var sort p at) inside = p inside
  blocks_step (Star p at) inside = p inside
  blocks_step (If c p q at) inside = p inside && q inside
  blocks_step (While c p at) inside = p inside
  blocks_step (Conc ps at) inside = list_all (λ p. p inside) ps
  blocks_step (Prio ps at) inside = list_all (λ p. p inside) ps
  blocks_step (Cstar p at) inside = p inside
  blocks_step (Call item args at) inside = not (inside && has_block item)
  blocks_step (Search depth fuel p at) inside =
      not inside && is_between 1 depth_limit (to_count depth) && is_between 1 fuel_limit (to_count fuel)
      && p true

  -- No block stands within a block or is called from there, and depths and fuels are in their limits.
  abbrev pub blocks_keep : DraftProg → Bool → Bool
  blocks_keep = fold-DraftProg (Bool → Bool) blocks_step

-- a program that fits its position, and that a file can say within so many variables
pub record IsProgOf (agent : Agent) (at : Position) (variables : ℕ) (prog : Prog) : Type 0 where
  pub fits : IsTrue (prog_fits agent prog at)
  pub written : IsTrue (is_written_prog agent prog variables)

-- a position within these variables, and within a block or not
abbrev pub position : fits.Scope → Bool → Position
position bound inside = record { scope = bound; in_block = inside }

abbrev pub ProgsFit : Type 0
ProgsFit =
    (agent : Agent) (theory : DraftTheory) (procs : List DraftProc)
    → HasPrograms agent (declared_by theory procs) → (draft : DraftProg) (inside : Bool)
    (bound : fits.Scope) (scope : Scope) → Binds agent bound scope → length scope ≤ 32
    → IsTrue (prog_keeps theory procs draft (length scope))
    → IsTrue (blocks_keep (block_at (proc_blocks agent)) draft inside) → (prog : Prog)
    → (prog_in (declared_by theory procs) draft scope).outcome ≡ Ok prog
    → IsProgOf agent (position bound inside) (length scope) prog
