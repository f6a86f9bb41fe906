use Rattle.std.proofs.Common.{sym, ap, ◌∙◌}
use Rattle.golog_find.specs.Rows.{state_hash}
use Rattle.golog_find.proofs.Standing.{sees-more, with-known, with-new}
use Rattle.golog_find.proofs.level.Level.add_next.Goals as goal

pub has_next-requires-clause-seen : goal.has_next-requires-clause-seen
has_next-requires-clause-seen c = c.requires

pub has_next-requires-clause-hash : goal.has_next-requires-clause-hash
has_next-requires-clause-hash c = c.hash_of-hash.ensures ∙ ap (state_hash c.args.self.now.next.left) c.values.ensures

pub returns-then-has_next-clause-seen : goal.returns-then-has_next-clause-seen
returns-then-has_next-clause-seen c = c.requires

pub returns-then-has_next-clause-states : goal.returns-then-has_next-clause-states
returns-then-has_next-clause-states c = with-known c.args.self.now.states c.args.self.now.next (sym c.has_next.ensures ∙ c.if-has_next.true)

pub returns-clause-seen : goal.returns-clause-seen
returns-clause-seen c =
    let old = c.args.self.now in
    let hash = c.hash_of-hash.ensures ∙ ap (state_hash old.next.left) c.values.ensures in
    sees-more old.seen c.add.new.self old.states c.push.new.self old.next c.hash_of-hash.result c.len.result c.requires c.in_ok-push.ensures.ok hash c.len.ensures c.in_ok-add.ensures.ok

pub returns-clause-states : goal.returns-clause-states
returns-clause-states c =
    let old = c.args.self.now in
    c.in_ok-push.ensures.ok ∙ with-new old.states old.next (sym c.has_next.ensures ∙ c.if-has_next.false)
