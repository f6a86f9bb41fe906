use Rattle.std.proofs.Common.{◌≡◌, if◌then◌else◌, ap, ◌∙◌}
use Rattle.golog_semantics.specs.Journal.{has_end}
use Rattle.golog_journal.specs.declared.board.Next.TheVariants as next
use Rattle.golog_journal.specs.Boards.{AgentJournal}
use Rattle.golog_journal.specs.Commands.{is_resting}
use Rattle.golog_journal.proofs.journal.Journal.next_without.Goals as goal

pub returns : goal.returns
returns c =
    let v = c.args.self.now in
    let ended : c.has_end-ended.result ≡ has_end v.entries = c.has_end-ended.ensures ∙ ap (λ (w : AgentJournal). has_end w.entries) c.self.view_is in
    let rests : c.is_resting-resting.result ≡ is_resting v.agent v.entries c.args.poster c.args.taken =
    c.is_resting-resting.ensures ∙ ap (λ (w : AgentJournal). is_resting w.agent w.entries c.args.poster c.args.taken) c.self.view_is in
    c.idle_next.ensures
    ∙ ap (λ b. if b then next.Ended else next.Nothing c.is_resting-resting.result) ended
    ∙ ap (λ b. if has_end v.entries then next.Ended else next.Nothing b) rests
