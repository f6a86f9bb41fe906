use Rattle.std.proofs.Common.{◌≡◌, Some, IsUtf8, sym, ap, ◌∙◌, arith}
use Rattle.std.proofs.lemmas.List.Elements.{All-push}
use Rattle.serde_json.specs.Find.{as_str}
use Rattle.serde_json.specs.View.{view}
use Rattle.golog_script.proofs.Gathered.{Gathers-start, Gathers-next, Gathers-none, Gathers-end}
use Rattle.golog_script.proofs.strings.strings_of.Goals as goal

pub loop-item-init : goal.loop-item-init
loop-item-init c = rw c.new-strings.ensures (record { gathers = Gathers-start c.args.items.now; texts = λ k d lt. absurd (omega arith) })

pub loop-item-preserved : goal.loop-item-preserved
loop-item-preserved c =
    let kept = c.loop-item.invariant in
    let text : as_str (view c.item-item.result) ≡ Some c.as_bytes.result.now = sym (ap Some c.as_bytes.ensures.value ∙ c.in-Some.ensures) in
    rw c.in_ok-push_copy.ensures (record {
      gathers = Gathers-next c.args.items.now c.loop-item.item-index c.loop-item.strings c.item-item.result c.as_bytes.result.now (omega arith) c.item-item.is text kept.gathers;
      texts = All-push IsUtf8 c.loop-item.strings c.as_bytes.result.now kept.texts c.as_bytes.ensures.utf8;
    })

pub returns-in_default-clause-found : goal.returns-in_default-clause-found
returns-in_default-clause-found c =
    sym (Gathers-none c.args.items.now c.loop-item.item-index c.loop-item.strings c.item-item.result (omega arith) c.item-item.is (sym c.in_default.ensures) c.loop-item.invariant.gathers)

pub returns-clause-found : goal.returns-clause-found
returns-clause-found c =
    sym (Gathers-end c.args.items.now c.loop-item.item-index c.loop-item.strings (omega arith) c.loop-item.invariant.gathers)
