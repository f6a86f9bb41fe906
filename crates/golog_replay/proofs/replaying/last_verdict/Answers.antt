use Rattle.std.proofs.Common.{length, sym, ap, ◌∙◌, subst}
use Rattle.std.specs.Prelude.{Contains}
use Rattle.golog_semantics.specs.declared.journal.Entry.TheVariants.{End}
use Rattle.golog_semantics.specs.Journal.{Journal}
use Rattle.golog_semantics.specs.Online.{is_whole}
use Rattle.golog_replay.proofs.Along.{online-so, short-so}
use Rattle.golog_replay.proofs.replaying.last_verdict.Goals as goal

pub whole-requires : goal.whole-requires
whole-requires c = c.requires.follows.standing

pub returns-in-Some : goal.returns-in-Some
returns-in-Some c = λ bytes report same none.
    online-so c.args.agent.now bytes report c.in-Some.answer none (ap (is_whole c.args.agent.now) same ∙ c.in-Some.ensures.0)
    (subst (λ (es : Journal). Contains es (End c.in-Some.answer)) (sym same) c.in-Some.ensures.1)

pub returns-in-None : goal.returns-in-None
returns-in-None c = λ bytes report same none.
    short-so c.args.agent.now bytes report (length c.args.entries.now) (ap (λ (es : Journal). length es) (sym same)) none
    (ap (is_whole c.args.agent.now) same ∙ c.in-None.ensures)
