use Rattle.std.proofs.Common.{◌≡◌, ◌+◌, [], ◌∷◌, ◌++◌, length, refl, sym, ap, ◌∙◌, subst, arith}
use Rattle.std.specs.Prelude.{IfSome}
use Rattle.std.proofs.lemmas.List.{length_push, same_from_push}
use Rattle.golog_semantics.specs.Same.{same_values}
use Rattle.golog_semantics.specs.Text.{line_text}
use Rattle.golog_text.specs.Named.{AreLabels}
use Rattle.golog_text.proofs.Things.{run_named}
use Rattle.golog_replay.proofs.replaying.is_text.Goals as goal

pub try_fill-requires-clause-labels : goal.try_fill-requires-clause-labels
try_fill-requires-clause-labels c =
    let agent = c.args.agent.now in
    subst (λ run. IfSome run (AreLabels agent)) (sym c.run_here-run.ensures) (run_named agent c.args.here.now.runs.now c.requires.runs (length c.args.here.now.before.now))

pub returns-in-Some : goal.returns-in-Some
returns-in-Some c =
    let before = c.args.here.now.before.now in
    let runs = c.args.here.now.runs.now in
    let line = line_text c.args.agent.now runs before c.args.here.now.next in
    let full : c.in_ok-filled.filled.now ≡ line ++ 10 ∷ [] =
    c.in_ok-filled.ensures.line before runs refl (sym c.requires.values) (sym c.run_here-run.ensures) in
    let same : c.in-Some.own.now ≡ line = (same_from_push c.in-Some.own.now line _ 10 (sym c.in-Some.ensures.cases.0 ∙ full)).0 in
    c.eq.ensures ∙ ap (same_values c.args.line.now) same

pub returns-in-None : goal.returns-in-None
returns-in-None c =
    let before = c.args.here.now.before.now in
    let runs = c.args.here.now.runs.now in
    let line = line_text c.args.agent.now runs before c.args.here.now.next in
    let full : c.in_ok-filled.filled.now ≡ line ++ 10 ∷ [] =
    c.in_ok-filled.ensures.line before runs refl (sym c.requires.values) (sym c.run_here-run.ensures) in
    let long : length c.in_ok-filled.filled.now ≡ length line + 1 = ap length full ∙ length_push line 10 in
    absurd (omega (arith, long, c.in-None.ensures.cases))
