use Rattle.std.proofs.Common.{◌≡◌, ◌∷◌, [], ◌++◌, ap, ◌∙◌, subst}
use Rattle.std.specs.Prelude.{OnOk, codes}
use Rattle.golog_text.specs.Heads.{start_lines}
use Rattle.golog_text.proofs.HeadLines.{head_parts}
use Rattle.golog_text.proofs.head.add_head.Goals as goal

pub returns : goal.returns
returns c =
    let agent = c.args.agent.now in
    let values = c.args.values.now in
    let lines = start_lines agent values in
    let last = codes "begin" ++ 10 ∷ [] in
    subst (λ t. OnOk c.extend-2.result (c.extend-2.new.self ≡ t))
    (ap (λ t. t ++ last) (c.in_ok-add_starts.ensures ∙ ap (λ t. t ++ lines) c.in_ok-extend.ensures.added) ∙ head_parts agent values c.args.text.now)
    c.extend-2.ensures.added
