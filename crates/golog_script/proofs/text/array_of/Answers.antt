use Rattle.std.proofs.Common.{ap, ◌∙◌, map, arith, IsUtf8}
use Rattle.std.proofs.lemmas.List.{take_all}
use Rattle.std.proofs.lemmas.List.Elements.{All-get_or}
use Rattle.serde_json.specs.Data.{string, array}
use Rattle.serde_json.specs.View.{items_of}
use Rattle.serde_json.proofs.Views.{view-Array}
use Rattle.golog_script.proofs.text.array_of.Goals as goal

pub push_string-requires : goal.push_string-requires
push_string-requires c =
    rw c.text-item.is (All-get_or IsUtf8 c.args.texts.now c.loop-text.text-index c.text-item.result (omega arith) c.requires)

pub returns : goal.returns
returns c =
    view-Array c.loop-text.strings
    ∙ ap (λ ds. array (items_of ds)) (c.loop-text.invariant ∙ ap (map string) (take_all c.loop-text.text-index c.args.texts.now (omega arith)))
