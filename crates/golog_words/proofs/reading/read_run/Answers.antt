use Rattle.std.proofs.Common.{◌∙◌, ap, map, string_bytes, drop}
use Rattle.std.specs.Prelude.{option_and_then}
use Rattle.golog_words.specs.Commands.{count_in}
use Rattle.golog_words.proofs.Parts.{run_parts, is_there, is_text, flag_is}
use Rattle.golog_words.proofs.reading.read_run.Goals as goal

pub unwrap-requires : goal.unwrap-requires
unwrap-requires c =
    let parts = run_parts c.in-Ok.found (drop 1 (map string_bytes c.args.words.now)) c.requires c.in-Ok.ensures.found in
    is_there c.get_str.result parts.agent (c.get_str.ensures ∙ parts.agent_is)

pub returns : goal.returns
returns c =
    let parts = run_parts c.in-Ok.found (drop 1 (map string_bytes c.args.words.now)) c.requires c.in-Ok.ensures.found in
    rw (
      is_text _ _ _ (c.get_str.ensures ∙ parts.agent_is) c.unwrap.ensures,
      c.get_str-2.ensures ∙ parts.devices_is,
      flag_is _ _ _ parts.inline_is c.get_flag.ensures.value c.get_flag.ensures.other,
      c.get_str-3.ensures ∙ parts.from_is,
      c.count_of.ensures ∙ ap (option_and_then count_in) c.get_str-4.ensures ∙ parts.workers_is,
    ) parts.is
