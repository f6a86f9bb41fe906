-- What the code keeps of the words behind `run`.
use Rattle.std.specs.Prelude.{option_map}
use Rattle.golog_words.specs.Commands.{Said}
use Rattle.golog_words.specs.declared.said.Said.{Said as Kept}

-- what was said, with the bytes of its texts
abbrev pub said_of : Kept → Said
said_of kept = record {
  agent = option_map (λ name. name.now) kept.agent;
  devices = option_map (λ name. name.now) kept.devices;
  is_inline = kept.inline;
  from = option_map (λ name. name.now) kept.from;
  workers = option_map (λ word. word.now) kept.workers;
  awaits = kept.awaits;
}
