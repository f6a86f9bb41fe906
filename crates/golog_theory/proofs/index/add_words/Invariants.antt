use Rattle.std.proofs.Common.{◌≡◌, ℕ, List, drop}
use Rattle.std.specs.List.{list_any}
use Rattle.golog_theory.specs.Names.{same}
use Rattle.golog_theory.specs.Index.{number_at, or_new}
use Rattle.golog_theory.proofs.index.add_words.Given as goal

abbrev pub invariant-loop-word : goal.invariant-loop-word
invariant-loop-word l = (word : List ℕ) →
    or_new (number_at l.numbers word) (list_any (same word) (drop l.word-index l.words)) l.number
    ≡ or_new (number_at l.initial.numbers word) (list_any (same word) l.words) l.number
