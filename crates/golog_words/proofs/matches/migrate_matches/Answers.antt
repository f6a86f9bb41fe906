use Rattle.std.proofs.Common.{rules, ap₂, codes, map, string_bytes, ◌≡◌, ◌∙◌}
use Rattle.clap.specs.Words.{app_of, new_rule, rule_of, with_rule}
use Rattle.golog_words.proofs.Meeting.{found, fails}
use Rattle.golog_words.proofs.MigrateWords.{migrating, meets, simple}
use Rattle.golog_words.proofs.matches.migrate_matches.Goals as goal

pub returns : goal.returns
returns c =
    let agent_is : rule_of c.new-2.result ≡ new_rule (codes "agent") = search rules in
    let journal_is : rule_of c.new-3.result ≡ new_rule (codes "journal") = search rules in
    let same : app_of c.in_ok-command.command ≡ migrating = c.in_ok-command.ensures.shape (search rules)
    ∙ ap₂ with_rule (c.in_ok-arg.ensures.shape (search rules) ∙ ap₂ with_rule c.new.ensures.app agent_is) journal_is in
    let words = map string_bytes c.args.words.now in
    let parse = c.try_get_matches_from in
    record {
      found = found migrating words _ (meets words) _ same simple _ parse.ensures.matches;
      fails = fails migrating words _ (meets words) _ same simple _ parse.ensures.passes;
    }
