use Rattle.std.proofs.Common.{◌∙◌, map, string_bytes, drop}
use Rattle.golog_words.proofs.Parts.{team_parts, is_there, is_text, flag_is}
use Rattle.golog_words.proofs.reading.read_team.Goals as goal

pub unwrap-requires : goal.unwrap-requires
unwrap-requires c =
    let parts = team_parts c.in-Ok.named (drop 1 (map string_bytes c.args.words.now)) c.requires c.in-Ok.ensures.found in
    is_there c.get_str.result parts.first (c.get_str.ensures ∙ parts.first_is)

pub unwrap-requires-2 : goal.unwrap-requires-2
unwrap-requires-2 c =
    let parts = team_parts c.in-Ok.named (drop 1 (map string_bytes c.args.words.now)) c.requires c.in-Ok.ensures.found in
    is_there c.get_str-2.result parts.second (c.get_str-2.ensures ∙ parts.second_is)

pub returns : goal.returns
returns c =
    let parts = team_parts c.in-Ok.named (drop 1 (map string_bytes c.args.words.now)) c.requires c.in-Ok.ensures.found in
    rw (
      is_text _ _ _ (c.get_str.ensures ∙ parts.first_is) c.unwrap.ensures,
      is_text _ _ _ (c.get_str-2.ensures ∙ parts.second_is) c.unwrap-2.ensures,
      flag_is _ _ _ parts.inline_is c.get_flag.ensures.value c.get_flag.ensures.other,
    ) parts.is
