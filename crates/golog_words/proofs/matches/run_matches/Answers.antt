use Rattle.std.proofs.Common.{rules, ap₂, codes, map, string_bytes, ◌≡◌, ◌∙◌}
use Rattle.clap.specs.Words.{app_of, new_rule, rule_of, with_rule}
use Rattle.golog_words.proofs.Meeting.{found, fails}
use Rattle.golog_words.proofs.RunWalk.{running, simple, inline, from, workers}
use Rattle.golog_words.proofs.RunWords.{meets}
use Rattle.golog_words.proofs.matches.run_matches.Goals as goal

pub returns : goal.returns
returns c =
    let agent_is : rule_of c.new-2.result ≡ new_rule (codes "agent") = search rules in
    let devices_is : rule_of c.new-3.result ≡ new_rule (codes "devices") = search rules in
    let inline_is : rule_of c.action.result ≡ inline = search rules in
    let from_is : rule_of c.action-2.result ≡ from = search rules in
    let workers_is : rule_of c.action-3.result ≡ workers = search rules in
    let same : app_of c.in_ok-command.command ≡ running = c.in_ok-command.ensures.shape (search rules)
    ∙ ap₂ with_rule (c.in_ok-arg-4.ensures.shape (search rules)
    ∙ ap₂ with_rule (c.in_ok-arg-3.ensures.shape (search rules)
    ∙ ap₂ with_rule (c.in_ok-arg-2.ensures.shape (search rules)
    ∙ ap₂ with_rule (c.in_ok-arg.ensures.shape (search rules)
    ∙ ap₂ with_rule c.new.ensures.app agent_is) devices_is) inline_is) from_is) workers_is in
    let words = map string_bytes c.args.words.now in
    let parse = c.try_get_matches_from in
    record {
      found = found running words _ (meets words) _ same simple _ parse.ensures.matches;
      fails = fails running words _ (meets words) _ same simple _ parse.ensures.passes;
    }
