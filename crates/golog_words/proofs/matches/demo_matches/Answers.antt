use Rattle.std.proofs.Common.{rules, ap₂, codes, map, string_bytes, ◌≡◌, ◌∙◌}
use Rattle.clap.specs.Words.{app_of, new_rule, rule_of, with_rule}
use Rattle.golog_words.proofs.Meeting.{found, fails}
use Rattle.golog_words.proofs.DemoWords.{demonstrating, meets, simple}
use Rattle.golog_words.proofs.matches.demo_matches.Goals as goal

pub returns : goal.returns
returns c =
    let size_is : rule_of c.new-size.result ≡ new_rule (codes "size") = search rules in
    let same : app_of c.in_ok-command.command ≡ demonstrating = c.in_ok-command.ensures.shape (search rules)
    ∙ ap₂ with_rule c.new.ensures.app size_is in
    let words = map string_bytes c.args.words.now in
    let parse = c.try_get_matches_from in
    record {
      found = found demonstrating words _ (meets words) _ same simple _ parse.ensures.matches;
      fails = fails demonstrating words _ (meets words) _ same simple _ parse.ensures.passes;
    }
