use Rattle.std.proofs.Common.{◌≡◌, ◌<◌, ℕ, false}
use Rattle.golog_semantics.specs.Journal.{is_open}
use Rattle.golog_lead.proofs.rounds.is_over.Given as goal

-- none of the first devices is open
abbrev pub invariant-loop-device : goal.invariant-loop-device
invariant-loop-device g l = (d : ℕ) → d < l.device → is_open d (g.L.Lead.mind l.lead).list ≡ false
