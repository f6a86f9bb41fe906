use Rattle.std.proofs.Common.{length, refl, ap, ◌∙◌, arith}
use Rattle.std.specs.Prelude.{is_some}
use Rattle.golog_tree.specs.declared.agent.Agent.{Agent}
use Rattle.golog_journal.specs.Boards.{AgentJournal}
use Rattle.golog_thread_tests.proofs.begins.told_with.Goals as goal

pub begin_all-begun-requires : goal.begin_all-begun-requires
begin_all-begun-requires g c =
    let two = c.requires.two in
    let one_each = c.requires.one_each in
    record {
      well_formed = c.requires.formed;
      agent = ap (λ (j : AgentJournal). j.agent) c.in_ok-journal.ensures;
      alone = refl;
      empty = ap (λ (j : AgentJournal). j.entries) c.in_ok-journal.ensures;
      one_each = one_each;
      spelled = λ k d within. ap is_some (c.requires.empty k d within);
      fresh = λ slot within. c.requires.fresh slot (omega (arith, within, one_each, two));
    }

pub told_of_journal-told-requires : goal.told_of_journal-told-requires
told_of_journal-told-requires g c =
    let same = c.begin_all-begun.ensures.board.same_agent ∙ ap (λ (j : AgentJournal). j.agent) c.in_ok-journal.ensures in
    let many = ap (λ (a : Agent). length a.devices) same in
    let two = c.requires.two in
    omega (arith, many, two)
