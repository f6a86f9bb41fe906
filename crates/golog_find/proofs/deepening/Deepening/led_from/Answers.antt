use Rattle.std.proofs.Common.{◌+◌, ◌<◌, ◌≤◌, List, sym, ◌∙◌, subst, length, arith}
use Rattle.std.proofs.lemmas.List.{at_drop_all}
use Rattle.std.proofs.lemmas.List.Elements.{All-nil}
use Rattle.golog_find.specs.declared.numbered.Numbered.{Numbered}
use Rattle.golog_find.specs.Levels.{AreSearched, stored_steps}
use Rattle.golog_find.specs.Numbers.{HaveNumbers, Sees, all_meant, level_of}
use Rattle.golog_find.proofs.Batching.{batch-steps}
use Rattle.golog_find.proofs.Numbering.{all_meant-stay, goes_on-further, goes_on-same, level_with, numbers-stay}
use Rattle.golog_find.proofs.Visiting.{kept-stays}
use Rattle.golog_find.proofs.deepening.Deepening.led_from.Goals as goal

pub loop-from-init : goal.loop-from-init
loop-from-init g c =
    let nodes = c.args.nodes.now in
    let made = c.in_ok-level.ensures in
    record {
      next = (λ i. stored_steps c.args.self.now.agent.now c.args.self.now.mode c.args.self.now.room 0 (level_with (sym made.cut i) (all_meant nodes (sym made.states i))) (all_meant nodes c.args.states.now));
      level = record {
        once = c.requires.once;
        numbers = subst (HaveNumbers nodes) (sym made.states) (All-nil (λ (n : Numbered). n.left < length nodes));
        seen = subst (Sees _) (sym made.states) made.seen;
        next = made.next;
      };
      goes_on = goes_on-same nodes;
    }

pub add_batch-requires-clause-inside : goal.add_batch-requires-clause-inside
add_batch-requires-clause-inside g c =
    let count = c.len-count.ensures in
    let more = c.batch_of.ensures.inside in
    omega arith

pub add_batch-requires-clause-numbers : goal.add_batch-requires-clause-numbers
add_batch-requires-clause-numbers g c = numbers-stay c.args.nodes.now c.loop-from.nodes c.args.states.now c.loop-from.invariant.goes_on c.requires.numbers

pub add_batch-requires-clause-kept : goal.add_batch-requires-clause-kept
add_batch-requires-clause-kept g c = kept-stays c.args.nodes.now c.loop-from.nodes c.loop-from.invariant.goes_on c.args.self.now.agent.now c.args.visits.now c.requires.kept

pub add_batch-requires-clause-searched : goal.add_batch-requires-clause-searched
add_batch-requires-clause-searched g c =
    subst (AreSearched c.args.self.now.agent.now) (sym (all_meant-stay c.args.nodes.now c.loop-from.nodes c.args.states.now c.loop-from.invariant.goes_on c.requires.numbers)) c.requires.searched

pub add_batch-requires-clause-level : goal.add_batch-requires-clause-level
add_batch-requires-clause-level g c = c.loop-from.invariant.level

pub loop-from-preserved : goal.loop-from-preserved
loop-from-preserved g c =
    let agent = c.args.self.now.agent.now in
    let old = c.args.nodes.now in
    let here = c.loop-from.nodes in
    let states = c.args.states.now in
    let from = c.loop-from.from in
    let end = from + c.batch_of.result in
    let inv = c.loop-from.invariant in
    let count = c.len-count.ensures in
    let more = c.batch_of.ensures.inside in
    let ordered : from ≤ end = omega arith in
    let inside : end ≤ length states = omega arith in
    let done = c.in_ok-add_batch.ensures in
    record {
      next =
          inv.next
          ∙ batch-steps agent c.args.self.now.mode c.args.self.now.room old here states from end (level_of here c.loop-from.level) (level_of c.add_batch.new.nodes c.add_batch.new.level) inv.goes_on c.requires.numbers ordered inside done.means;
      level = done.level;
      goes_on = goes_on-further old here c.add_batch.new.nodes inv.goes_on done.goes_on;
    }

pub returns-clause-next : goal.returns-clause-next
returns-clause-next g c =
    let agent = c.args.self.now.agent.now in
    let end = level_of c.loop-from.nodes c.loop-from.level in
    sym (c.loop-from.invariant.next
    ∙ at_drop_all (λ (ns : List Numbered). stored_steps agent c.args.self.now.mode c.args.self.now.room c.loop-from.from end (all_meant c.args.nodes.now ns)) c.args.states.now c.loop-from.from (omega (arith, c.len-count.ensures, c.loop-from-test.false)))
