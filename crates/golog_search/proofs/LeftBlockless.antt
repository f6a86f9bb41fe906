-- The program left along a journal has no search blocks, where `main` has none.
use Rattle.std.proofs.Common.{◌≡◌, true, List, [], ◌∷◌, ap}
use Rattle.std.specs.Prelude.{not, Contains}
use Rattle.golog_tree.specs.declared.agent.Agent.{Agent}
use Rattle.golog_tree.specs.declared.prog.Prog.{Prog}
use Rattle.golog_semantics.specs.declared.Mode.{Mode}
use Rattle.golog_semantics.specs.declared.Mode.TheVariants.{Must}
use Rattle.golog_semantics.specs.declared.search.Move.{Move}
use Rattle.golog_semantics.specs.declared.journal.Entry.{Entry}
use Rattle.golog_semantics.specs.declared.journal.Entry.TheVariants.{Do, Test, Exo, Sense, Rest, Close, End}
use Rattle.golog_semantics.specs.Truth.{Values}
use Rattle.golog_semantics.specs.Blocks.{moves}
use Rattle.golog_semantics.specs.BlockFree.{has_block}
use Rattle.golog_semantics.specs.Journal.{Journal}
use Rattle.golog_semantics.specs.Progress.{after_entry, left_after, left_at, left_by, left_from}
use Rattle.golog_semantics.proofs.BlocksFit.{each-contains}
use Rattle.golog_semantics.proofs.StepsKeep.{OfLefts}
use Rattle.golog_semantics.proofs.NoBlocks.{blockless, not_so}
use Rattle.golog_search.specs.Laws.{IsBlocklessStep}
use Rattle.golog_ways.proofs.Blockless.{P, lefts_blockless}
use Rattle.golog_search.proofs.Runless.{BeginsNone, steps_runless}

module _ (agent : Agent) where
  pub step_blockless : (values : Values) (m : Mode) (p : Prog) → not (has_block agent p) ≡ true → (step : Move) → Contains (moves agent values m p) step → IsBlocklessStep agent step
  step_blockless values m p h step c = record {
    no_run = each-contains BeginsNone (moves agent values m p) step (steps_runless agent values m p (not_so (has_block agent p) h)) c;
    left = ap not (each-contains (λ (k : Move). P agent k.left) (moves agent values m p) step (lefts_blockless agent values m p (not_so (has_block agent p) h)) c);
  }

  by_blockless : (p : Prog) (steps : List Move) → P agent p → OfLefts agent (blockless agent) steps → P agent (left_by agent p steps)
  by_blockless p [] h k = h
  by_blockless p (step ∷ steps) h k = k.0

  at_blockless : (values : Values) (p : Prog) (e : Entry) → P agent p → P agent (left_at agent values p e)
  at_blockless values p (Do action) h = by_blockless p (moves agent values Must p) h (lefts_blockless agent values Must p h)
  at_blockless values p Test h = by_blockless p (moves agent values Must p) h (lefts_blockless agent values Must p h)
  at_blockless values p (Exo poster action) h = h
  at_blockless values p (Sense poster place fluent value) h = h
  at_blockless values p (Rest poster taken) h = h
  at_blockless values p (Close poster reason taken) h = h
  at_blockless values p (End answer) h = h

  from_blockless : (values : Values) (p : Prog) (journal : Journal) → P agent p → P agent (left_from agent values p journal)
  from_blockless values p [] h = h
  from_blockless values p (e ∷ journal) h = from_blockless (after_entry agent values e) (left_at agent values p e) journal (at_blockless values p e h)

  pub left_blockless : not (has_block agent agent.main) ≡ true → (journal : Journal) → not (has_block agent (left_after agent journal)) ≡ true
  left_blockless h journal = ap not (from_blockless agent.starts agent.main journal (not_so (has_block agent agent.main) h))
