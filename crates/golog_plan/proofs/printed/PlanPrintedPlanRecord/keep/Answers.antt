use Rattle.std.proofs.Common.{◌≡◌, ◌++◌, ◌∷◌, [], false, true, None, sym, subst}
use Rattle.std.specs.Prelude.{option_copied}
use Rattle.golog_semantics.specs.InSorts.{AreInSorts}
use Rattle.golog_semantics.specs.WellFormed.{WellFormed}
use Rattle.golog_text.specs.Filled.{full_line}
use Rattle.golog_text.specs.Named.{IsNamed}
use Rattle.golog_lead.proofs.Printing.{next-named}
use Rattle.golog_plan.specs.PlanTexts.{HasPlanned}
use Rattle.golog_plan.proofs.Writing.{line-done, line-is, line-left, line-some}
use Rattle.golog_plan.proofs.printed.PlanPrintedPlanRecord.keep.Goals as goal

pub fill-line-requires : goal.fill-line-requires
fill-line-requires g c =
    let agent = c.args.core.now.agent in
    let list = c.args.core.now.list in
    let e = c.args.entry in
    let under = subst WellFormed c.agent.ensures.agent c.agent.ensures.formed in
    record {
      formed = c.agent.ensures.formed;
      sorts = subst (λ a. AreInSorts a c.state.result.now) (sym c.agent.ensures.agent) c.state.ensures.sorts;
      entry = subst (λ a. IsNamed a e) (sym c.agent.ensures.agent) (next-named agent list e under c.requires.lawful c.len.ensures.most);
      labels = tt;
      few = tt;
    }

pub write_line-requires : goal.write_line-requires
write_line-requires g c =
    let of = subst (λ a. c.fill-line.result.now ≡ full_line a c.len.result c.state.result.now None c.args.entry) c.agent.ensures.agent c.fill-line.ensures.full in
    line-some c.args.core.now c.args.entry c.len.result c.state.result.now c.fill-line.result.now of

pub returns-then-not-self-clause-stands : goal.returns-then-not-self-clause-stands
returns-then-not-self-clause-stands g c = λ stood.
    let core = c.args.core.now in
    let e = c.args.entry in
    let was = g.K.Sink.taken c.args.self.now.base.value in
    let now = g.K.Sink.taken c.args.self.now.out.now in
    let is = g.K.Sink.taken c.write_line.new.out in
    let before = g.K.Sink.faults c.args.self.now.base.value in
    let between = g.K.Sink.faults c.args.self.now.out.now in
    let after = g.K.Sink.faults c.write_line.new.out in
    let wrote = c.write_line.ensures in
    let place = c.len.result in
    let values = c.state.result.now in
    let line = c.fill-line.result.now in
    let of = subst (λ a. line ≡ full_line a place values None e) c.agent.ensures.agent c.fill-line.ensures.full in
    let so = line-is core e place values line (option_copied c.args.tail) c.len.ensures.number c.state.ensures.values of c.requires.tail in
    subst (λ f. HasPlanned core.agent core.depth core.fuel (core.list ++ e ∷ []) was is before after f) (sym c.is_err-self.ensures.value)
    (line-done core was now is before between after e _ so
    (subst (λ f. HasPlanned core.agent core.depth core.fuel core.list was now before between f) c.if-not-self.true stood)
    wrote.faults c.write_line.result wrote.added wrote.no_fault wrote.prefix wrote.failed)

pub returns-else-not-self-clause-stands : goal.returns-else-not-self-clause-stands
returns-else-not-self-clause-stands g c = λ stood.
    let core = c.args.core.now in
    let e = c.args.entry in
    let was = g.K.Sink.taken c.args.self.now.base.value in
    let now = g.K.Sink.taken c.args.self.now.out.now in
    let before = g.K.Sink.faults c.args.self.now.base.value in
    let between = g.K.Sink.faults c.args.self.now.out.now in
    subst (λ f. HasPlanned core.agent core.depth core.fuel (core.list ++ e ∷ []) was now before between f) (sym c.if-not-self.false)
    (line-left core was now now before between between e
    (subst (λ f. HasPlanned core.agent core.depth core.fuel core.list was now before between f) c.if-not-self.false stood))
