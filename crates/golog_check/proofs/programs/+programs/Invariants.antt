use Rattle.std.proofs.Common.{◌≡◌, List, map, drop}
use Rattle.golog_tree.specs.declared.prog.Prog.{Prog}
use Rattle.golog_rows.specs.Reading.{each}
use Rattle.golog_check.specs.Programs.{InScope, prog_in}
use Rattle.golog_check.proofs.programs.+programs.Given as goal

abbrev pub invariant-add_progs-loop-draft : goal.invariant-add_progs-loop-draft
invariant-add_progs-loop-draft l =
    (each (λ (_ : List Prog) (part : InScope). part l.scope) l.progs (map (prog_in l.names) (drop l.draft-index l.drafts))).outcome
    ≡ (each (λ (_ : List Prog) (part : InScope). part l.scope) l.fn.progs (map (prog_in l.names) l.drafts)).outcome
