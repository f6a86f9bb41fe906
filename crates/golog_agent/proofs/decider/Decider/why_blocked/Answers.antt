use Rattle.std.proofs.Common.{◌≡◌, true, false, sym, subst}
use Rattle.std.specs.Prelude.{IfOk, IsTrue}
use Rattle.golog_semantics.specs.declared.Mode.TheVariants.{Must}
use Rattle.golog_semantics.specs.Blocks.{moves}
use Rattle.golog_semantics.specs.ProgFits.{fits}
use Rattle.golog_semantics.specs.Search.{final}
use Rattle.golog_semantics.specs.InSorts.{AreInSorts}
use Rattle.golog_semantics.specs.Ways.{is_empty}
use Rattle.golog_semantics.specs.WellFormed.{WellFormed}
use Rattle.golog_search.specs.Decided.{IsDecided}
use Rattle.golog_agent.specs.Configuration.{Configuration}
use Rattle.golog_agent.proofs.decider.Decider.why_blocked.Goals as goal

pub decide_blocked-requires-clause-agent : goal.decide_blocked-requires-clause-agent
decide_blocked-requires-clause-agent g c = subst (λ (v : Configuration). WellFormed v.agent) (sym c.self.view_is) c.requires.sound.formed

pub decide_blocked-requires-clause-program : goal.decide_blocked-requires-clause-program
decide_blocked-requires-clause-program g c = subst (λ (v : Configuration). IsTrue (fits v.agent v.left)) (sym c.self.view_is) c.requires.sound.fitting

pub decide_blocked-requires-clause-sorts : goal.decide_blocked-requires-clause-sorts
decide_blocked-requires-clause-sorts g c = subst (λ (v : Configuration). AreInSorts v.agent v.values) (sym c.self.view_is) c.requires.sound.sorted

pub decide_blocked-requires-clause-unended : goal.decide_blocked-requires-clause-unended
decide_blocked-requires-clause-unended g c = subst (λ (v : Configuration). final v.agent v.values Must v.left ≡ false) (sym c.self.view_is) c.requires.unended

pub decide_blocked-requires-clause-stepless : goal.decide_blocked-requires-clause-stepless
decide_blocked-requires-clause-stepless g c =
    subst (λ (v : Configuration). IsTrue (is_empty (moves v.agent v.values Must v.left))) (sym c.self.view_is) c.requires.stepless

pub returns : goal.returns
returns g c = subst (λ (v : Configuration). IfOk c.decide_blocked.result (IsDecided v.agent v.values v.left true)) c.self.view_is c.decide_blocked.ensures
