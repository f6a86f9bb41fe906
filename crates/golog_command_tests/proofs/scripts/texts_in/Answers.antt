use Rattle.std.proofs.Common.{arith}
use Rattle.std.proofs.lemmas.List.Elements.{All-get_or}
use Rattle.golog_script.specs.ScriptTexts.{HasTexts}
use Rattle.golog_command_tests.proofs.scripts.texts_in.Goals as goal

pub push_text-requires : goal.push_text-requires
push_text-requires c =
    rw c.script-item.is (All-get_or HasTexts c.args.scripts.now c.loop-script.script-index c.script-item.result (omega arith) c.requires)
