use Rattle.golog_script.specs.ScriptTexts.{HasTexts}
use Rattle.golog_commands.proofs.Begun.{found-so}
use Rattle.golog_commands.proofs.beginning.text_under.Goals as goal

pub script_text-requires : goal.script_text-requires
script_text-requires c = found-so HasTexts _ c.args.listed.now c.in-Some.script.now c.requires c.in-Some.ensures
