use Rattle.std.proofs.Common.{true, false, refl, sym, ◌∙◌, subst, arith}
use Rattle.std.proofs.lemmas.Bool.{le-leb, lt-leb}
use Rattle.golog_tree.specs.Nest.{nest}
use Rattle.golog_semantics.specs.InSorts.{AreInSorts}
use Rattle.golog_find.specs.declared.numbered.Numbered.{Numbered}
use Rattle.golog_find.specs.Numbers.{level_of}
use Rattle.golog_find.proofs.Numbering.{added-is, added-level, cut-is, goes_on-added, goes_on-same, led-numbered, numbered_as, wanted-is}
use Rattle.golog_find.proofs.Storing.{stored-cut, stored-less, stored-more}
use Rattle.golog_find.proofs.deepening.Deepening.add.Goals as goal

pub returns-then-nest-gt-NEST_LIMIT-clause-level : goal.returns-then-nest-gt-NEST_LIMIT-clause-level
returns-then-nest-gt-NEST_LIMIT-clause-level c = record { once = c.requires.level.once; numbers = c.requires.level.numbers; seen = c.requires.level.seen; next = c.requires.level.next }

pub returns-then-nest-gt-NEST_LIMIT-clause-goes_on : goal.returns-then-nest-gt-NEST_LIMIT-clause-goes_on
returns-then-nest-gt-NEST_LIMIT-clause-goes_on c = goes_on-same c.args.nodes.now

pub returns-then-nest-gt-NEST_LIMIT-clause-means : goal.returns-then-nest-gt-NEST_LIMIT-clause-means
returns-then-nest-gt-NEST_LIMIT-clause-means c =
    let way = c.args.way.now in
    let is = c.nest.ensures in
    let deep = lt-leb (nest way.left) 2048 (omega arith) in
    let level = level_of c.args.nodes.now c.args.level.now in
    cut-is c.args.self.now.agent.now c.args.from c.args.values.now level way deep
    ∙ stored-cut c.args.self.now.agent.now c.args.self.now.mode c.args.self.now.room c.args.from c.args.values.now level way deep

pub lead-requires-clause-room : goal.lead-requires-clause-room
lead-requires-clause-room c = c.requires.level.next

pub wants-requires-clause-searched : goal.wants-requires-clause-searched
wants-requires-clause-searched c = record { program = c.requires.searched.program; blockless = c.requires.searched.blockless; sorts = c.lead.ensures.sorts }

pub returns-then-not-branch-clause-level : goal.returns-then-not-branch-clause-level
returns-then-not-branch-clause-level c = record { once = c.requires.level.once; numbers = c.requires.level.numbers; seen = c.requires.level.seen; next = c.lead.ensures.sorts }

pub returns-then-not-branch-clause-goes_on : goal.returns-then-not-branch-clause-goes_on
returns-then-not-branch-clause-goes_on c = goes_on-same c.args.nodes.now

pub returns-then-not-branch-clause-means : goal.returns-then-not-branch-clause-means
returns-then-not-branch-clause-means c =
    let agent = c.args.self.now.agent.now in
    let m = c.args.self.now.mode in
    let room = c.args.self.now.room in
    let way = c.args.way.now in
    let nodes = c.args.nodes.now in
    let level = c.args.level.now in
    let is = c.nest.ensures in
    stored-less agent m room c.args.from c.args.values.now (level_of nodes level) way (le-leb (nest way.left) 2048 (omega arith))
    (wanted-is agent m room nodes level.states c.args.from level.next.left c.args.values.now way.label way.left way.left c.lead.new.self false c.lead.ensures.reached refl
    (sym c.if-not-branch.true ∙ c.in_ok-wants.ensures))

pub add_next-requires : goal.add_next-requires
add_next-requires c = c.requires.level.seen

pub returns-clause-goes_on : goal.returns-clause-goes_on
returns-clause-goes_on c = goes_on-added c.args.nodes.now c.number.new.self c.args.way.now.left c.in_ok-number.ensures.ok

pub returns-clause-level : goal.returns-clause-level
returns-clause-level c =
    let made = c.in_ok-number.ensures in
    let done = c.in_ok-add_next.ensures in
    added-level c.args.self.now.agent.now c.args.nodes.now c.number.new.self c.args.level.now c.add_next.new.self (numbered_as c.in_ok-number.number c.lead.new.self) c.args.way.now
    (returns-clause-goes_on c) c.requires.level made.number done.states made.once done.seen
    (subst (λ (n : Numbered). AreInSorts c.args.self.now.agent.now n.state) (sym done.next) c.lead.ensures.sorts)

pub returns-clause-means : goal.returns-clause-means
returns-clause-means c =
    let agent = c.args.self.now.agent.now in
    let m = c.args.self.now.mode in
    let room = c.args.self.now.room in
    let from = c.args.from in
    let values = c.args.values.now in
    let way = c.args.way.now in
    let old = c.args.nodes.now in
    let level = c.args.level.now in
    let number = c.in_ok-number.number in
    let made = c.in_ok-number.ensures in
    let done = c.in_ok-add_next.ensures in
    let is = c.nest.ensures in
    added-is agent old c.number.new.self level c.add_next.new.self (numbered_as number c.lead.new.self) way (returns-clause-goes_on c) c.requires.level made.number done.states
    from values (le-leb (nest way.left) 2048 (omega arith)) made.once (led-numbered c.number.new.self agent from number level.next.left values way c.lead.new.self c.lead.ensures.reached made.number) done.cut
    ∙ stored-more agent m room from values (level_of old level) way
    (wanted-is agent m room old level.states from level.next.left values way.label way.left way.left c.lead.new.self true c.lead.ensures.reached refl (sym c.if-not-branch.false ∙ c.in_ok-wants.ensures))
