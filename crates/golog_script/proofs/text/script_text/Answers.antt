use Rattle.serde_json.specs.View.{view}
use Rattle.golog_script.specs.ScriptTexts.{script_of_named}
use Rattle.golog_script.proofs.ScriptObjects.{compact, reads-back}
use Rattle.golog_script.proofs.text.script_text.Goals as goal

pub returns-clause-compact : goal.returns-clause-compact
returns-clause-compact c =
    rw c.from_vec.ensures (compact (script_of_named c.args.script.now) (view c.in_ok-value.value) c.in_ok-text.text.items c.in_ok-value.ensures c.in_ok-text.ensures.text)

pub returns-clause-reads_back : goal.returns-clause-reads_back
returns-clause-reads_back c =
    rw c.from_vec.ensures (reads-back (script_of_named c.args.script.now) (view c.in_ok-value.value) c.in_ok-text.text.items c.in_ok-value.ensures c.in_ok-text.ensures.utf8 c.in_ok-text.ensures.reads_back)
