use Rattle.std.proofs.Common.{◌≡◌, drop, map, string_bytes}
use Rattle.golog_words.specs.Commands.{nothing_said, said_by}
use Rattle.golog_words.specs.Said.{said_of}
use Rattle.golog_words.proofs.said.said_by.Given as goal

abbrev pub invariant-loop-word : goal.invariant-loop-word
invariant-loop-word l =
    said_by (map string_bytes (drop l.word-index l.words)) (said_of l.said) ≡ said_by (map string_bytes l.words) nothing_said
