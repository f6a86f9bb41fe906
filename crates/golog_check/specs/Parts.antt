-- The parts of a draft as they were checked.
use Rattle.std.specs.Prelude.{[], ◌∷◌, map}
use Rattle.golog_tree.specs.declared.draft.DraftTheory.{DraftTheory}
use Rattle.golog_tree.specs.declared.draft.DraftProgram.{DraftProgram}
use Rattle.golog_check.specs.declared.checking.Parts.{Parts}
use Rattle.golog_check.specs.DeclaredItems.{Declared}
use Rattle.golog_rows.specs.Least.{IsLeastOf}
use Rattle.golog_check.specs.Least.{refusals}
use Rattle.golog_check.specs.Checked.{IsChecked}
use Rattle.golog_check.specs.Sums.{fluent_sum, action_sum}
use Rattle.golog_check.specs.Starts.{start_in}
use Rattle.golog_check.specs.Effects.{poss_in, cause_in, senses_in}
use Rattle.golog_check.specs.Procs.{proc_in}
use Rattle.golog_shapes.specs.Unguarded.{all_front_refusals}
use Rattle.golog_shapes.specs.DraftBlocks.{all_block_refusals}
use Rattle.golog_check.specs.Check.{main_in}

-- what each list of items gives, with its least refusal, and the least refusals of the sums, of what procedures call
-- without a step, and of search blocks
pub record AreParts (parts : Parts) (names : Declared) (theory : DraftTheory) (program : DraftProgram) : Type 0 where
  pub fluent_sum : IsLeastOf parts.fluent_sum (refusals (fluent_sum theory ∷ []))
  pub action_sum : IsLeastOf parts.action_sum (refusals (action_sum theory ∷ []))
  pub starts : IsChecked parts.starts (map (start_in names) theory.starts)
  pub poss : IsChecked parts.poss (map (poss_in names) theory.poss)
  pub causes : IsChecked parts.causes (map (cause_in names) theory.causes)
  pub senses : IsChecked parts.senses (senses_in names [] theory.senses)
  pub procs : IsChecked parts.procs (map (proc_in names) program.procs)
  pub fronts : IsLeastOf parts.fronts (all_front_refusals program.procs)
  pub blocks : IsLeastOf parts.blocks (all_block_refusals program.procs program.main.body)
  pub main : IsChecked parts.main (main_in names program.main ∷ [])
