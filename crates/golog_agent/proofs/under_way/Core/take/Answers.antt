use Rattle.std.proofs.Common.{◌∷◌, [], ◌++◌, ap, ◌∙◌}
use Rattle.golog_journal.specs.Boards.{AgentJournal}
use Rattle.golog_lead.specs.Courses.{Course}
use Rattle.golog_lead.proofs.Taking.{seen_as}
use Rattle.golog_agent.proofs.Growth.{entries-fit, kept-then, lawful-inside, sound}
use Rattle.golog_agent.proofs.under_way.Core.take.Goals as goal

pub take-requires-clause-sound : goal.take-requires-clause-sound
take-requires-clause-sound c =
    let r = c.self.inside in
    sound r.counts.agent r.counts.entries r.decider c.self.invariant.known_so c.self.invariant.under_way

pub take-requires-clause-entry : goal.take-requires-clause-entry
take-requires-clause-entry c =
    let r = c.self.inside in
    entries-fit r.counts.agent r.counts.entries r.decider c.self.invariant.known_so c.args.entry
    (lawful-inside r.counts.agent r.counts.entries c.args.self.now c.args.entry c.self.view_is c.requires.lawful)

pub add-requires : goal.add-requires
add-requires c =
    let r = c.self.inside in
    lawful-inside r.counts.agent r.counts.entries c.args.self.now c.args.entry c.self.view_is c.requires.lawful

pub invariant_of-self : goal.invariant_of-self
invariant_of-self c =
    let r = c.self.inside in
    kept-then r.counts c.add.new.self c.args.self.now c.args.entry r.decider c.take.new.self c.args.left r.held c.held_after-held.result r.ended c.ended_after-ended.result
    c.self.view_is c.self.invariant c.requires.lawful c.requires.online c.requires.left
    c.add.ensures c.take.ensures c.held_after-held.ensures c.ended_after-ended.ensures

pub returns : goal.returns
returns c =
    ap (λ (j : AgentJournal). seen_as j.agent j.entries) c.add.ensures
    ∙ ap (λ (v : Course). seen_as v.agent (v.list ++ c.args.entry ∷ [])) c.self.view_is
