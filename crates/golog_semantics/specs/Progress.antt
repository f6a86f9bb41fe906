-- The values and the program left after the entries of a journal.
use Rattle.std.specs.Prelude.{List, [], ◌∷◌, fold, slice_set}
use Rattle.golog_tree.specs.declared.agent.Agent.{Agent}
use Rattle.golog_tree.specs.declared.prog.Prog.{Prog}
use Rattle.golog_semantics.specs.declared.Mode.TheVariants.{Must}
use Rattle.golog_semantics.specs.declared.search.Move.{Move}
use Rattle.golog_semantics.specs.declared.journal.Entry.{Entry}
use Rattle.golog_semantics.specs.declared.journal.Entry.TheVariants.{Do, Test, Exo, Sense}
use Rattle.golog_semantics.specs.Truth.{Values}
use Rattle.golog_semantics.specs.Values.{after_do}
use Rattle.golog_semantics.specs.Blocks.{moves}
use Rattle.golog_semantics.specs.Journal.{Journal}

module _ (agent : Agent) where
  -- the values after an entry
  abbrev pub after_entry : Values → Entry → Values
  after_entry values (Do action) = after_do agent values action
  after_entry values (Exo poster action) = after_do agent values action
  after_entry values (Sense poster place fluent value) = slice_set values fluent value
  after_entry values _ = values

  -- the values after these entries
  abbrev pub values_after : Journal → Values
  values_after journal = fold after_entry agent.starts journal

  -- the program left by the first of these steps
  abbrev pub left_by : Prog → List Move → Prog
  left_by p [] = p
  left_by p (m ∷ ms) = m.left

  -- the program left after an entry: a Do or a Test takes the first certain step
  abbrev pub left_at : Values → Prog → Entry → Prog
  left_at values p (Do action) = left_by p (moves agent values Must p)
  left_at values p Test = left_by p (moves agent values Must p)
  left_at values p _ = p

  -- the program left after these entries, from these values and this program on
  abbrev pub left_from : Values → Prog → Journal → Prog
  left_from values p [] = p
  left_from values p (e ∷ entries) = left_from (after_entry values e) (left_at values p e) entries

  -- the program left after these entries
  abbrev pub left_after : Journal → Prog
  left_after journal = left_from agent.starts agent.main journal
