use Rattle.std.proofs.Common.{◌≡◌, drop, sym, ap, ◌∙◌, subst}
use Rattle.std.specs.Prelude.{IfOk, slice_get}
use Rattle.golog_semantics.specs.Online.{same_line}
use Rattle.golog_semantics.specs.Text.{line_text}
use Rattle.golog_replay.proofs.Along.{ok-always}
use Rattle.golog_replay.proofs.replaying.is_spelled.Goals as goal

pub returns-in-Some-clause-lines : goal.returns-in-Some-clause-lines
returns-in-Some-clause-lines c = ok-always c.is_text.result (sym (ap (drop 1) c.in-Some.ensures))

pub returns-in-Some-clause-same : goal.returns-in-Some-clause-same
returns-in-Some-clause-same c =
    let here = c.args.here.now in
    let line = line_text c.args.agent.now here.runs.now here.before.now here.next in
    subst (λ g. IfOk c.is_text.result (λ b. b ≡ same_line g line)) (sym (ap (λ ls. slice_get ls 0) c.in-Some.ensures)) c.is_text.ensures

pub returns-in-None-clause-lines : goal.returns-in-None-clause-lines
returns-in-None-clause-lines c = c.in-None.ensures.1 ∙ sym (ap (drop 1) c.in-None.ensures.0)

pub returns-in-None-clause-same : goal.returns-in-None-clause-same
returns-in-None-clause-same c =
    let here = c.args.here.now in
    let line = line_text c.args.agent.now here.runs.now here.before.now here.next in
    ap (λ ls. same_line (slice_get ls 0) line) (sym c.in-None.ensures.0)
