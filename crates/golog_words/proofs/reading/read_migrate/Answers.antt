use Rattle.std.proofs.Common.{◌∙◌, map, string_bytes, drop}
use Rattle.golog_words.proofs.Parts.{migrate_parts, is_there, is_text}
use Rattle.golog_words.proofs.reading.read_migrate.Goals as goal

pub unwrap-requires : goal.unwrap-requires
unwrap-requires c =
    let parts = migrate_parts c.in-Ok.found (drop 1 (map string_bytes c.args.words.now)) c.requires c.in-Ok.ensures.found in
    is_there c.get_str.result parts.agent (c.get_str.ensures ∙ parts.agent_is)

pub unwrap-requires-2 : goal.unwrap-requires-2
unwrap-requires-2 c =
    let parts = migrate_parts c.in-Ok.found (drop 1 (map string_bytes c.args.words.now)) c.requires c.in-Ok.ensures.found in
    is_there c.get_str-2.result parts.journal (c.get_str-2.ensures ∙ parts.journal_is)

pub returns : goal.returns
returns c =
    let parts = migrate_parts c.in-Ok.found (drop 1 (map string_bytes c.args.words.now)) c.requires c.in-Ok.ensures.found in
    rw (is_text _ _ _ (c.get_str.ensures ∙ parts.agent_is) c.unwrap.ensures, is_text _ _ _ (c.get_str-2.ensures ∙ parts.journal_is) c.unwrap-2.ensures) parts.is
