use Rattle.std.proofs.Common.{◌≡◌, ℕ, List, [], ◌∷◌, ◌++◌, ap, ◌∙◌, subst}
use Rattle.std.specs.Prelude.{OnOk, codes}
use Rattle.golog_semantics.specs.Text.{Text}
use Rattle.golog_semantics.specs.Truth.{env_of, truth_of}
use Rattle.golog_fronts.proofs.Acting.{closed_cond}
use Rattle.golog_print.specs.Printing.{text_of_cond}
use Rattle.golog_trace.specs.Judged.{judged_text, open_lines, truth_word}
use Rattle.golog_trace.proofs.Said.{line-then}
use Rattle.golog_trace.proofs.judging.add_judged.Goals as goal

pub value-truth-requires-clause-fits : goal.value-truth-requires-clause-fits
value-truth-requires-clause-fits c = closed_cond c.args.agent.now c.args.cond.now c.new.result c.requires.closed

pub returns : goal.returns
returns c =
    let agent = c.args.agent.now in
    let cond = c.args.cond.now in
    let old = c.args.text.now in
    let state = c.args.state.now in
    let shown : Text = text_of_cond agent cond in
    let opens : Text = open_lines agent cond state in
    let truth : c.value-truth.result ≡ truth_of agent state cond (env_of []) =
    c.value-truth.ensures.truth ∙ ap (λ (v : List ℕ). truth_of agent v cond c.new.result) c.values.ensures ∙ ap (truth_of agent state cond) c.new.ensures in
    subst (λ (t : Text). OnOk c.add_opens.result (c.add_opens.new.text ≡ t))
    (ap (λ (vs : List ℕ). c.add_shown.new.text ++ open_lines agent cond vs) c.values-2.ensures
    ∙ ap (λ (t : Text). t ++ opens)
    (c.in_ok-add_shown.ensures
    ∙ ap (λ (s : Text). old ++ (s ++ codes ": " ++ truth_word c.value-truth.result ++ 10 ∷ [])) (c.as_slice.ensures ∙ c.in_ok-shown.ensures)
    ∙ ap (λ t. old ++ (shown ++ codes ": " ++ truth_word t ++ 10 ∷ [])) truth)
    ∙ line-then old (shown ++ codes ": " ++ truth_word (truth_of agent state cond (env_of []))) opens)
    c.add_opens.ensures
