use Rattle.std.proofs.Common.{[], ◌∷◌, ◌++◌, false, true, sym, ◌∙◌, subst}
use Rattle.std.specs.Prelude.{IfSome, option_copied}
use Rattle.golog_semantics.specs.InSorts.{AreInSorts}
use Rattle.golog_semantics.specs.WellFormed.{WellFormed}
use Rattle.golog_text.specs.Filled.{IsLineOf}
use Rattle.golog_text.specs.Named.{AreLabels, IsNamed}
use Rattle.golog_lead.specs.Written.{HasWritten}
use Rattle.golog_lead.proofs.Printing.{line-is, next-few, next-labels, next-named}
use Rattle.golog_lead.proofs.Writing.{line-done, line-left}
use Rattle.golog_lead.proofs.printed.PrintedRecord.keep.Goals as goal

pub fill-line-requires : goal.fill-line-requires
fill-line-requires g c =
    let agent = (g.C.UnderWay.course c.args.core.now).agent in
    let list = (g.C.UnderWay.course c.args.core.now).list in
    let e = c.args.entry in
    let under = subst WellFormed c.agent.ensures.agent c.agent.ensures.formed in
    let short = c.len.ensures.most in
    let run = option_copied c.as_ref.result in
    let begins = c.as_ref.ensures.value ∙ c.requires.run in
    record {
      formed = c.agent.ensures.formed;
      sorts = subst (λ a. AreInSorts a c.state.result.now) (sym c.agent.ensures.agent) c.state.ensures.sorts;
      entry = subst (λ a. IsNamed a e) (sym c.agent.ensures.agent) (next-named agent list e under c.requires.lawful short);
      labels =
          subst (λ a. IfSome run (AreLabels a)) (sym c.agent.ensures.agent)
          (next-labels agent list e under c.requires.lawful short run begins);
      few = next-few agent list e under c.requires.lawful short run begins;
    }

pub returns-then-not-self-clause-stands : goal.returns-then-not-self-clause-stands
returns-then-not-self-clause-stands g c = λ stood.
    let agent = (g.C.UnderWay.course c.args.core.now).agent in
    let list = (g.C.UnderWay.course c.args.core.now).list in
    let e = c.args.entry in
    let was = g.K.Sink.taken c.args.self.now.base.value in
    let now = g.K.Sink.taken c.args.self.now.out.now in
    let is = g.K.Sink.taken c.write_all.new.out in
    let before = g.K.Sink.faults c.args.self.now.base.value in
    let between = g.K.Sink.faults c.args.self.now.out.now in
    let after = g.K.Sink.faults c.write_all.new.out in
    let wrote = c.write_all.ensures in
    let place = c.len.result in
    let values = c.state.result.now in
    let run = option_copied c.as_ref.result in
    let text = c.fill-line.result.now in
    let of = subst (λ a. IsLineOf a place values run e text) c.agent.ensures.agent c.fill-line.ensures.line in
    let so = line-is agent list e place values run text c.len.ensures.number c.state.ensures.values (c.as_ref.ensures.value ∙ c.requires.run) of in
    subst (λ f. HasWritten agent (list ++ e ∷ []) was is before after f) (sym c.is_err-self.ensures.value)
    (line-done agent was now is before between after list e text so
    (subst (λ f. HasWritten agent list was now before between f) c.if-not-self.true stood)
    wrote.faults c.write_all.result wrote.added wrote.no_fault wrote.prefix wrote.failed)

pub returns-clause-stands : goal.returns-clause-stands
returns-clause-stands g c = λ stood.
    let agent = (g.C.UnderWay.course c.args.core.now).agent in
    let list = (g.C.UnderWay.course c.args.core.now).list in
    let e = c.args.entry in
    let was = g.K.Sink.taken c.args.self.now.base.value in
    let now = g.K.Sink.taken c.args.self.now.out.now in
    let before = g.K.Sink.faults c.args.self.now.base.value in
    let between = g.K.Sink.faults c.args.self.now.out.now in
    subst (λ f. HasWritten agent (list ++ e ∷ []) was now before between f) (sym c.if-not-self.false)
    (line-left agent was now now before between between list e
    (subst (λ f. HasWritten agent list was now before between f) c.if-not-self.false stood))
