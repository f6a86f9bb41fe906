use Rattle.std.proofs.Common.{sym}
use Rattle.std.proofs.lemmas.Bool.{false≢true}
use Rattle.serde_json.specs.View.{view}
use Rattle.golog_script.proofs.Values.{spelled-some, spelled-none}
use Rattle.golog_script.proofs.lists.lists_of.Goals as goal

pub returns-in-Ok : goal.returns-in-Ok
returns-in-Ok c =
    rw (spelled-some c.args.text.now (view c.in-Ok.value) c.in-Ok.ensures.ok.0 c.in-Ok.ensures.ok.1) c.lists_in.ensures

pub returns-in-Err-2 : goal.returns-in-Err-2
returns-in-Err-2 c =
    sym (spelled-none c.args.text.now (c.in-Err.ensures.err (λ h. false≢true (c.if-is_memory.ensures.1 h))))
