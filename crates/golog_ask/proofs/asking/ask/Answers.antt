use Rattle.std.proofs.Common.{◌≡◌, [], take, ◌∙◌}
use Rattle.golog_semantics.specs.Fits.{nothing_bound}
use Rattle.golog_semantics.specs.Progress.{values_after}
use Rattle.golog_semantics.specs.Truth.{env_of, truth_of}
use Rattle.golog_ask.proofs.Taken.{fit-first, if-ok-more, truth-after}
use Rattle.golog_ask.proofs.asking.ask.Goals as goal

pub rolled-truth-requires-clause-entries : goal.rolled-truth-requires-clause-entries
rolled-truth-requires-clause-entries c = fit-first c.args.agent.now c.args.entries.now c.in-Ok.earlier.left c.requires.entries

pub rolled-truth-requires-clause-cond : goal.rolled-truth-requires-clause-cond
rolled-truth-requires-clause-cond c = c.in-Ok.ensures.back.fits nothing_bound c.requires.cond

pub returns-in-Ok : goal.returns-in-Ok
returns-in-Ok c =
    let agent = c.args.agent.now in
    let earlier = c.in-Ok.earlier in
    if-ok-more (λ truth. truth ≡ truth_of agent (values_after agent (take earlier.left c.args.entries.now)) earlier.cond (env_of []))
    (λ truth. truth ≡ truth_of agent (values_after agent c.args.entries.now) c.args.cond.now (env_of [])) c.rolled-truth.result
    (λ truth same. same ∙ truth-after agent c.requires.formed c.args.entries.now earlier.left c.args.cond.now earlier.cond c.requires.entries c.requires.cond c.in-Ok.ensures.back)
    c.rolled-truth.ensures
