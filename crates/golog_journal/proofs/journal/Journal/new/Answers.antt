use Rattle.std.proofs.Common.{◌≡◌, length, sym, ap, ◌∙◌, subst, arith}
use Rattle.golog_journal.specs.Boards.{AgentJournal}
use Rattle.golog_journal.specs.Reaching.{AreReached}
use Rattle.golog_journal.proofs.Beginning.{reached-new}
use Rattle.golog_journal.proofs.journal.Journal.new.Goals as goal

pub invariant_of-result : goal.invariant_of-result
invariant_of-result c =
    let counts = c.in_ok-counts.counts in
    let devices = c.in_ok-reached.reached.items in
    let told = c.in_ok-reached.ensures.count in
    let count : length devices ≡ length c.args.agent.now.devices = omega (arith, told) in (
      c.in_ok-ledger.ensures ∙ ap (λ (v : AgentJournal). v.entries) (sym c.in_ok-counts.ensures),
      subst (λ (v : AgentJournal). AreReached v.agent v.entries devices) (sym c.in_ok-counts.ensures)
          (reached-new c.args.agent.now devices count c.in_ok-reached.ensures.start),
    )
