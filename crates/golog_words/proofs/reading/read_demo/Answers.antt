use Rattle.std.proofs.Common.{◌≡◌, ◌∙◌, ap, sym, map, string_bytes, drop, Some, is_some}
use Rattle.golog_words.specs.Commands.{size_in}
use Rattle.golog_words.proofs.Parts.{demo_parts, is_there, is_text}
use Rattle.golog_words.proofs.reading.read_demo.Goals as goal

pub unwrap-word-requires : goal.unwrap-word-requires
unwrap-word-requires c =
    let parts = demo_parts c.in-Ok.found (drop 1 (map string_bytes c.args.words.now)) c.requires c.in-Ok.ensures.found in
    is_there c.get_str.result parts.word (c.get_str.ensures ∙ parts.word_is)

pub unwrap-requires : goal.unwrap-requires
unwrap-requires c =
    let parts = demo_parts c.in-Ok.found (drop 1 (map string_bytes c.args.words.now)) c.requires c.in-Ok.ensures.found in
    let word = is_text _ _ _ (c.get_str.ensures ∙ parts.word_is) c.unwrap-word.ensures in
    ap is_some (c.size_in.ensures ∙ (ap size_in word ∙ parts.size_is))

pub returns : goal.returns
returns c =
    let parts = demo_parts c.in-Ok.found (drop 1 (map string_bytes c.args.words.now)) c.requires c.in-Ok.ensures.found in
    let word = is_text _ _ _ (c.get_str.ensures ∙ parts.word_is) c.unwrap-word.ensures in
    let size : Some c.unwrap.result ≡ Some parts.size = sym c.unwrap.ensures ∙ (c.size_in.ensures ∙ (ap size_in word ∙ parts.size_is)) in
    let spelled = parts.is in
    cc
