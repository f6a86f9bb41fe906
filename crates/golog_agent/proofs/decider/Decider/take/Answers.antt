use Rattle.std.proofs.Common.{[], ◌∷◌, sym, subst}
use Rattle.golog_semantics.specs.InSorts.{AreInSorts}
use Rattle.golog_semantics.specs.WellFormed.{WellFormed}
use Rattle.golog_progress.specs.Entries.{EntriesFit}
use Rattle.golog_agent.specs.Configuration.{Configuration}
use Rattle.golog_agent.proofs.decider.Decider.take.Goals as goal

pub roll-requires-clause-agent : goal.roll-requires-clause-agent
roll-requires-clause-agent c = subst (λ (v : Configuration). WellFormed v.agent) (sym c.self.view_is) c.requires.sound.formed

pub roll-requires-clause-sorts : goal.roll-requires-clause-sorts
roll-requires-clause-sorts c = subst (λ (v : Configuration). AreInSorts v.agent v.values) (sym c.self.view_is) c.requires.sound.sorted

pub roll-requires-clause-entries : goal.roll-requires-clause-entries
roll-requires-clause-entries c = subst (λ (v : Configuration). EntriesFit v.agent (c.args.entry ∷ [])) (sym c.self.view_is) c.requires.entry
