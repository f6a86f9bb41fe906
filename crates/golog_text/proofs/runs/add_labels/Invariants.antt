use Rattle.std.proofs.Common.{◌≡◌, ◌+◌, ◌*◌, ◌≤◌, ◌++◌, codes, length, take}
use Rattle.std.specs.List.{flat_map}
use Rattle.golog_semantics.specs.Text.{label_text}
use Rattle.golog_text.proofs.runs.add_labels.Given as goal

-- the labels so far stand behind the first, each with at most 130 bytes
abbrev pub invariant-loop-label : goal.invariant-loop-label
invariant-loop-label l = record {
  added : l.text ≡ l.initial.text ++ flat_map (λ label. codes "; " ++ label_text l.agent label) (take l.label-index l.others);
  short : length l.text ≤ length l.initial.text + 130 * l.label-index;
}
