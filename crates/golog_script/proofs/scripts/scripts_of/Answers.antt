use Rattle.std.proofs.Common.{ap, ◌∙◌}
use Rattle.std.proofs.lemmas.Bool.{false≢true}
use Rattle.serde_json.specs.View.{view}
use Rattle.golog_script.specs.Reading.{refusal_in, code_at}
use Rattle.golog_rows.proofs.Chain.{first_row}
use Rattle.golog_script.specs.DevicesFile.{scripts_of}
use Rattle.golog_script.proofs.Values.{value-some, value-none, scripts-some, scripts-none, answers-same}
use Rattle.golog_script.proofs.scripts.scripts_of.Goals as goal

pub returns-in-Ok-clause-spelled : goal.returns-in-Ok-clause-spelled
returns-in-Ok-clause-spelled c =
    let value = value-some c.args.bytes.now (view c.in-Ok.value) c.in-Ok.ensures.ok.0 c.in-Ok.ensures.ok.1 in
    answers-same c.scripts_in.result _ _ (scripts-some c.args.names.now c.args.bytes.now _ value) (rw c.as_slice.ensures at c.scripts_in.ensures.spelled)

pub returns-in-Ok-clause-first : goal.returns-in-Ok-clause-first
returns-in-Ok-clause-first c =
    let value = value-some c.args.bytes.now (view c.in-Ok.value) c.in-Ok.ensures.ok.0 c.in-Ok.ensures.ok.1 in
    first_row code_at c.scripts_in.result (scripts_of c.args.names.now c.args.bytes.now) (answers-same c.scripts_in.result _ _ (scripts-some c.args.names.now c.args.bytes.now _ value) (rw c.as_slice.ensures at c.scripts_in.ensures.spelled))

pub returns-in-Err-2-clause-spelled : goal.returns-in-Err-2-clause-spelled
returns-in-Err-2-clause-spelled c =
    let refused = c.in-Err.ensures.err (λ h. false≢true (c.if-is_memory.ensures.1 h)) in
    scripts-none c.args.names.now c.args.bytes.now (value-none c.args.bytes.now refused)

pub returns-in-Err-2-clause-first : goal.returns-in-Err-2-clause-first
returns-in-Err-2-clause-first c =
    let refused = c.in-Err.ensures.err (λ h. false≢true (c.if-is_memory.ensures.1 h)) in
    let reading = scripts_of c.args.names.now c.args.bytes.now in
    reading.agrees ∙ ap refusal_in (scripts-none c.args.names.now c.args.bytes.now (value-none c.args.bytes.now refused))
