-- The program that is left behind the entries of a journal, where each step of them is what the program does next.
use Rattle.std.specs.Prelude.{◌≡◌, Bool, if◌then◌else◌, Option, Some, None, List, [], ◌∷◌, option_and_then}
use Rattle.golog_tree.specs.declared.agent.Agent.{Agent}
use Rattle.golog_tree.specs.declared.prog.Label.{Label}
use Rattle.golog_tree.specs.declared.prog.Prog.{Prog}
use Rattle.golog_semantics.specs.declared.journal.Entry.{Entry}
use Rattle.golog_semantics.specs.declared.search.Move.{Move}
use Rattle.golog_semantics.specs.Journal.{Journal}
use Rattle.golog_semantics.specs.Online.{label_of}
use Rattle.golog_semantics.specs.Progress.{after_entry, left_after}
use Rattle.golog_semantics.specs.Same.{same_label}
use Rattle.golog_semantics.specs.Truth.{Values}
use Rattle.golog_search.specs.declared.decision.Decision.{Decision}
use Rattle.golog_search.specs.declared.decision.Decision.TheVariants.{Step}
use Rattle.golog_search.specs.Decided.{decision}

-- what a step leaves, if it has this label
abbrev pub left_if : Label → Decision → Option Prog
left_if label (Step step) = if same_label label step.label then Some step.left else None
left_if label _ = None

module _ (agent : Agent) where
  -- the program left behind an entry, if the entry is no step, or is what the program does next
  abbrev pub left_by_label : Values → Prog → Option Label → Option Prog
  left_by_label values p None = Some p
  left_by_label values p (Some label) = left_if label (decision agent values p)

  abbrev pub left_behind : Values → Prog → Entry → Option Prog
  left_behind values p entry = left_by_label values p (label_of entry)

  -- the program left behind these entries, if each is so
  abbrev pub followed : Values → Prog → Journal → Option Prog
  followed values p [] = Some p
  followed values p (entry ∷ entries) =
      option_and_then (λ left. followed (after_entry agent values entry) left entries) (left_behind values p entry)

-- what is followed to is what is left
abbrev pub FollowedIsLeft : Type 0
FollowedIsLeft =
    (agent : Agent) (journal : Journal) (p : Prog)
    → followed agent agent.starts agent.main journal ≡ Some p → p ≡ left_after agent journal
