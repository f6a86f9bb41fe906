use Rattle.std.proofs.Common.{◌≡◌, ◌≤◌, [], drop, map, length, All}
use Rattle.serde_json.specs.View.{view, items_view}
use Rattle.golog_script.specs.Reading.{each}
use Rattle.golog_script.specs.DevicesFile.{listed, element_of}
use Rattle.golog_script.specs.ScriptTexts.{HasTexts}
use Rattle.golog_script.proofs.scripts.scripts_of_elements.Given as goal

abbrev pub invariant-loop-element : goal.invariant-loop-element
invariant-loop-element l = record {
  rest : (each (element_of l.names) l.scripts (map view (drop l.element-index l.elements))).outcome
      ≡ (each (element_of l.names) [] (listed (items_view l.elements))).outcome;
  few : length l.scripts ≤ 16;
  texts : All HasTexts l.scripts;
}
