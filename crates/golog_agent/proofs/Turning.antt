-- What came of a turn, from what came of its parts.
use Rattle.std.proofs.Common.{◌≡◌, ◌↔◌, ◌++◌, [], ◌∷◌, false, true, None, refl, sym, ap, ◌∙◌, subst}
use Rattle.std.specs.Prelude.{IsTrue}
use Rattle.golog_tree.specs.declared.agent.Agent.{Agent}
use Rattle.golog_semantics.specs.declared.journal.Entry.{Entry}
use Rattle.golog_semantics.specs.InlineText.{report_of}
use Rattle.golog_semantics.specs.Journal.{Journal, has_end}
use Rattle.golog_semantics.specs.Online.{IsOnlineSoFar}
use Rattle.golog_journal.specs.declared.lead.Led.TheVariants as led
use Rattle.golog_journal.specs.Growing.{Sight, program}
use Rattle.golog_journal.specs.Leading.{Mind, SameMind, TakesTurn}
use Rattle.golog_lead.specs.declared.stepped.Stepped.{Stepped}
use Rattle.golog_lead.specs.Courses.{Course}
use Rattle.golog_lead.specs.Run.{is_step_entry}
use Rattle.golog_lead.specs.Seeing.{led_for}
use Rattle.golog_lead.specs.Waiting.{waits}
use Rattle.golog_agent.specs.Turns.{MayAnswer, TurnIs}
use Rattle.golog_lead.proofs.BegunRuns.{keeps-rules}
use Rattle.golog_lead.proofs.Turning.{led-so, takes-turn, turn-leads}
use Rattle.golog_agent.proofs.StepsKept.{step-unended, stepping-ends-waits}

-- what a copy keeps
abbrev keeps : Agent → Journal → Type 0
keeps agent journal = IsOnlineSoFar agent (report_of agent journal)

unended : (agent : Agent) (journal : Journal) (e : Entry) → is_step_entry e ≡ true → keeps agent (journal ++ e ∷ []) → has_end journal ≡ false
unended agent journal e is online = step-unended agent journal e is (keeps-rules agent journal e online)

awake : (agent : Agent) (journal : Journal) (e : Entry) → is_step_entry e ≡ true → keeps agent (journal ++ e ∷ []) → waits agent journal ≡ true → ⊥
awake agent journal e is online = stepping-ends-waits agent journal e is (keeps-rules agent journal e online)

-- a runner as a lead
abbrev pub mind_of : Course → Mind
mind_of course = record { agent = course.agent; bounds = (0, 0); list = course.list; waits = waits course.agent; outlet = None }

pub same-mind : (first later : Course) → later.agent ≡ first.agent → SameMind (mind_of first) (mind_of later)
same-mind first later same = record { same_agent = same; same_bounds = refl; same_waits = ap waits same; same_outlet = refl }

module _ (first later : Course) (old new : Sight) (agent : first.agent ≡ old.agent) (held : old.holds program ≡ true) (same : later.agent ≡ first.agent)
    (whole : later.list ≡ new.seen) (online : IsOnlineSoFar later.agent (report_of later.agent later.list)) (s : Stepped) (t : TurnIs old new s) where
  online-seen : keeps later.agent new.seen
  online-seen = subst (keeps later.agent) whole online

  agent-so : later.agent ≡ new.agent
  agent-so = same ∙ agent ∙ sym (turn-leads waits MayAnswer old new s t).same_agent

  pub lead-turn : TakesTurn (mind_of first) old new
  lead-turn = takes-turn waits MayAnswer old new keeps unended awake (mind_of first) s agent refl t (subst (λ g. keeps g new.seen) same online-seen)

  -- it tells that the program has ended exactly where the end stands
  pub lead-so : (led_for s ≡ led.Ended) ↔ IsTrue (has_end new.seen)
  lead-so = led-so waits MayAnswer old new keeps unended awake s held t (subst (λ g. keeps g new.seen) agent-so online-seen)
