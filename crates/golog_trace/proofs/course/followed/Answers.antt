use Rattle.std.proofs.Common.{◌≡◌, ◌+◌, ◌≤◌, length, Some, None, get_or, refl, sym, ap, ◌∙◌, subst, arith}
use Rattle.std.specs.Prelude.{option_and_then}
use Rattle.golog_semantics.specs.declared.journal.Entry.TheVariants.{Do}
use Rattle.golog_semantics.specs.Progress.{after_entry}
use Rattle.golog_semantics.specs.ProgFits.{fits}
use Rattle.golog_progress.proofs.Rolled.{fit-at}
use Rattle.golog_trace.specs.Followed.{followed}
use Rattle.golog_trace.proofs.Following.{behind-fits, from, from-end, from-next, main-fits}
use Rattle.golog_trace.proofs.course.followed.Goals as goal

pub loop-entry-init : goal.loop-entry-init
loop-entry-init c =
    let agent = c.args.agent.now in
    record {
      rest =
          sym (ap (λ vs. followed agent vs agent.main c.args.entries.now) c.in_ok-state.ensures.values)
          ∙ sym (ap (λ p. followed agent c.in_ok-state.state p c.args.entries.now) c.in_ok-left.ensures);
      program = ap (fits agent) c.in_ok-left.ensures ∙ main-fits agent c.requires.formed;
      sorts = c.in_ok-state.ensures.sorts;
    }

pub roll-requires-clause-entries : goal.roll-requires-clause-entries
roll-requires-clause-entries c = (fit-at c.args.agent.now c.args.entries.now c.loop-entry.entry-index (Do 0) c.requires.entries c.loop-entry-test.true, tt)

pub loop-entry-preserved : goal.loop-entry-preserved
loop-entry-preserved c =
    let agent = c.args.agent.now in
    let entries = c.args.entries.now in
    let l = c.loop-entry in
    let i = l.entry-index in
    let next = c.in-Some.next in
    let behind = sym c.in_ok-behind.ensures ∙ c.in-Some.is in
    record {
      rest =
          l.invariant.rest
          ∙ from-next agent l.state l.left entries i (Do 0) c.loop-entry-test.true
          ∙ ap (option_and_then (λ p. from agent (after_entry agent l.state (get_or entries i (Do 0))) p entries (i + 1))) behind
          ∙ sym (ap (λ vs. from agent vs next entries (i + 1)) c.roll.ensures.values);
      program = behind-fits agent c.requires.formed l.state l.left next (get_or entries i (Do 0)) l.invariant.program behind;
      sorts = c.roll.ensures.sorts;
    }

pub returns-in-None-clause-followed : goal.returns-in-None-clause-followed
returns-in-None-clause-followed c =
    let agent = c.args.agent.now in
    let entries = c.args.entries.now in
    let l = c.loop-entry in
    let i = l.entry-index in
    let behind = sym c.in_ok-behind.ensures ∙ c.in-None.is in
    sym
    (l.invariant.rest
    ∙ from-next agent l.state l.left entries i (Do 0) c.loop-entry-test.true
    ∙ ap (option_and_then (λ p. from agent (after_entry agent l.state (get_or entries i (Do 0))) p entries (i + 1))) behind)

pub returns-clause-followed : goal.returns-clause-followed
returns-clause-followed c =
    let agent = c.args.agent.now in
    let l = c.loop-entry in
    sym (l.invariant.rest ∙ from-end agent l.state l.left c.args.entries.now l.entry-index (omega (arith, c.loop-entry-test.false)))

pub returns-clause-inside : goal.returns-clause-inside
returns-clause-inside c = c.loop-entry.invariant.program
