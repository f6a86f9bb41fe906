use Rattle.std.proofs.Common.{◌≡◌, ◌∙◌, ap, sym, string_bytes, is_some, Some}
use Rattle.golog_base.specs.Numbers.{amount}
use Rattle.golog_words.specs.Commands.{depth_in, fuel_in}
use Rattle.golog_words.proofs.Parts.{plan_parts, is_there, is_text, flag_is}
use Rattle.golog_words.proofs.PlanWords.{behind}
use Rattle.golog_words.proofs.reading.read_plan.Goals as goal

pub unwrap-requires-2 : goal.unwrap-requires-2
unwrap-requires-2 c =
    let parted = behind string_bytes c.args.words.now c.depth-item.result c.fuel-item.result
    c.in-len2-up.len_at_least c.in-len1-up.len_at_least c.depth-item.is c.fuel-item.is c.requires in
    ap is_some (c.fuel_in.ensures ∙ ap fuel_in c.as_str-2.ensures.value ∙ parted.fuel_is)

pub unwrap-requires-3 : goal.unwrap-requires-3
unwrap-requires-3 c =
    let parted = behind string_bytes c.args.words.now c.depth-item.result c.fuel-item.result
    c.in-len2-up.len_at_least c.in-len1-up.len_at_least c.depth-item.is c.fuel-item.is c.requires in
    let parts = plan_parts c.in-Ok.told _ _ _ parted.some c.in-Ok.ensures.found in
    is_there c.get_str.result parts.agent (c.get_str.ensures ∙ parts.agent_is)

pub returns : goal.returns
returns c =
    let parted = behind string_bytes c.args.words.now c.depth-item.result c.fuel-item.result
    c.in-len2-up.len_at_least c.in-len1-up.len_at_least c.depth-item.is c.fuel-item.is c.requires in
    let parts = plan_parts c.in-Ok.told _ _ _ parted.some c.in-Ok.ensures.found in
    let depth : Some (amount (string_bytes c.depth-item.result)) ≡ Some c.unwrap.result =
    sym (c.depth_in.ensures ∙ ap depth_in c.as_str.ensures.value ∙ parted.depth_is) ∙ c.unwrap.ensures in
    let fuel : Some (amount (string_bytes c.fuel-item.result)) ≡ Some c.unwrap-2.result =
    sym (c.fuel_in.ensures ∙ ap fuel_in c.as_str-2.ensures.value ∙ parted.fuel_is) ∙ c.unwrap-2.ensures in
    rw (
      is_text _ _ _ (c.get_str.ensures ∙ parts.agent_is) c.unwrap-3.ensures,
      c.get_str-2.ensures ∙ parts.devices_is,
      flag_is _ _ _ parts.inline_is c.get_flag.ensures.value c.get_flag.ensures.other,
    ) (
    let told = parted.is ∙ parts.is in
    cc)
