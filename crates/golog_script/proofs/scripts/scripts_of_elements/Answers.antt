use Rattle.std.proofs.Common.{◌∙◌, arith}
use Rattle.std.proofs.lemmas.List.{length_push}
use Rattle.std.proofs.lemmas.List.Elements.{All-push}
use Rattle.golog_script.specs.DevicesFile.{element_of}
use Rattle.golog_script.specs.ScriptTexts.{HasTexts}
use Rattle.golog_script.proofs.Elements.{next-element}
use Rattle.golog_script.proofs.scripts.scripts_of_elements.Goals as goal

pub loop-element-preserved : goal.loop-element-preserved
loop-element-preserved c =
    let kept = c.loop-element.invariant in
    let scripts = c.loop-element.scripts in
    let script = c.in_ok-script.script in
    let spelled = rw c.as_slice.ensures at c.in_ok-script.ensures.spelled in
    let fewer = rw c.as_slice.ensures at c.in_ok-script.ensures.few in
    rw c.in_ok-push.ensures.ok (record {
      rest = next-element (element_of c.args.names.now) scripts c.args.elements.now c.loop-element.element-index c.element-item.result script (omega arith) c.element-item.is spelled ∙ kept.rest;
      few = omega (arith, length_push scripts script, fewer);
      texts = All-push HasTexts scripts script kept.texts c.in_ok-script.ensures.texts;
    })
