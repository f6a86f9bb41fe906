use Rattle.std.proofs.Common.{[], ◌∷◌, ◌++◌, sym, subst}
use Rattle.golog_semantics.specs.declared.journal.Entry.{Entry}
use Rattle.golog_semantics.specs.declared.journal.Entry.TheVariants.{Sense}
use Rattle.golog_replay.specs.Standings.{HoldsBy}
use Rattle.golog_replay.proofs.Awaiting.{holds-unless}
use Rattle.golog_replay.proofs.Noting.{waits-on}
use Rattle.golog_replay.proofs.standing.Standing.held_after.Goals as goal

pub held_by-requires-clause-settled : goal.held_by-requires-clause-settled
held_by-requires-clause-settled c = c.requires.settled c.in-Do.action c.in-Do.is

pub returns-in-Do : goal.returns-in-Do
returns-in-Do c =
    subst (λ (e : Entry). HoldsBy c.args.agent.now (c.args.before.now ++ e ∷ []) c.held_by.result) (sym c.in-Do.is) c.held_by.ensures

pub returns-in-Sense : goal.returns-in-Sense
returns-in-Sense c =
    let agent = c.args.agent.now in
    let before = c.args.before.now in
    let s = c.in-Sense in
    subst (λ (e : Entry). HoldsBy agent (before ++ e ∷ []) c.unless_at.result) (sym s.is)
    (subst (HoldsBy agent (before ++ Sense s.poster s.place s.fluent s.value ∷ [])) (sym c.unless_at.ensures)
    (holds-unless agent before s.poster s.place s.fluent s.value c.args.self.now.held c.requires.standing.holds))

pub returns-in_default : goal.returns-in_default
returns-in_default c =
    waits-on c.args.agent.now c.args.before.now c.args.self.now.held c.requires.standing.holds c.args.entry c.in_default.not-Do
    c.in_default.not-Sense
