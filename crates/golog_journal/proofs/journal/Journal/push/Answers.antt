use Rattle.std.proofs.Common.{◌<◌, ◌∷◌, [], ◌++◌, length, length-append, sym, ap, ◌∙◌, subst, arith}
use Rattle.golog_semantics.specs.Journal.{Journal}
use Rattle.golog_journal.specs.Boards.{AgentJournal}
use Rattle.golog_journal.specs.Reaching.{AreReached}
use Rattle.golog_journal.proofs.Beginning.{earlier}
use Rattle.golog_journal.proofs.Reaching.{all-longer}
use Rattle.golog_journal.proofs.journal.Journal.push.Goals as goal

pub push-requires-clause-room : goal.push-requires-clause-room
push-requires-clause-room c =
    let j = c.self.inside in
    let short = c.keeps_rules.ensures.short in
    let more = ap (λ (v : AgentJournal). length v.entries) c.add.ensures in
    let long = length-append j.counts.entries (c.args.entry ∷ []) in
    let same = ap (λ (l : Journal). length l) c.self.invariant.0 in
    omega (arith, short, more, long, same)

pub push-requires-clause-earlier : goal.push-requires-clause-earlier
push-requires-clause-earlier c place result =
    let v = c.args.self.now in
    let same = c.self.invariant.0 ∙ ap (λ (w : AgentJournal). w.entries) c.self.view_is in
    subst (λ (l : Journal). place < length l) (sym same) (earlier v.agent v.entries c.args.entry c.requires place result)

pub invariant_of-self : goal.invariant_of-self
invariant_of-self c =
    let j = c.self.inside in (
      c.push.ensures ∙ ap (λ (l : Journal). l ++ c.args.entry ∷ []) c.self.invariant.0 ∙ sym (ap (λ (v : AgentJournal). v.entries) c.add.ensures),
      subst (λ (v : AgentJournal). AreReached v.agent v.entries j.reached.items) (sym c.add.ensures)
          (all-longer j.counts.agent j.counts.entries j.reached.items c.self.invariant.1 c.args.entry),
    )
