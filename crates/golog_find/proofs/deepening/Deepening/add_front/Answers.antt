use Rattle.std.proofs.Common.{◌≡◌, true, false, Option, sym, ap, ◌∙◌, subst}
use Rattle.std.specs.Prelude.{unwrap_or}
use Rattle.golog_tree.specs.declared.prog.Prog.{Prog}
use Rattle.golog_tree.specs.declared.prog.Prog.TheVariants.{Nil}
use Rattle.golog_semantics.specs.InSorts.{AreInSorts}
use Rattle.golog_ways.specs.Searched.{IsSearched}
use Rattle.golog_find.specs.declared.numbered.Numbered.{Numbered}
use Rattle.golog_find.specs.Numbers.{level_of}
use Rattle.golog_find.specs.Visits.{meant_front, prog_at}
use Rattle.golog_find.proofs.Numbering.{added-is, added-level, goes_on-same, led-numbered, named-at, numbered_as, wanted-is}
use Rattle.golog_find.proofs.Storing.{stored-less, stored-more}
use Rattle.golog_find.proofs.deepening.Deepening.add_front.Goals as goal

pub lead-requires-clause-room : goal.lead-requires-clause-room
lead-requires-clause-room c = c.requires.level.next

pub lead-requires-clause-effect : goal.lead-requires-clause-effect
lead-requires-clause-effect c = c.of-effect.ensures c.args.self.now.agent.now c.requires.effects

pub wants-requires-clause-searched : goal.wants-requires-clause-searched
wants-requires-clause-searched c =
    let agent = c.args.self.now.agent.now in
    let left : prog_at c.args.nodes.now c.args.front.now.left ≡ c.prog.result.now = ap (λ (o : Option Prog). unwrap_or o Nil) c.prog.ensures in
    subst (λ (p : Prog). IsSearched agent p c.lead.new.self.state) left
    (record { program = c.requires.searched.program; blockless = c.requires.searched.blockless; sorts = c.lead.ensures.sorts })

pub returns-then-not-branch-clause-level : goal.returns-then-not-branch-clause-level
returns-then-not-branch-clause-level c = record { once = c.requires.level.once; numbers = c.requires.level.numbers; seen = c.requires.level.seen; next = c.lead.ensures.sorts }

pub returns-then-not-branch-clause-means : goal.returns-then-not-branch-clause-means
returns-then-not-branch-clause-means c =
    let agent = c.args.self.now.agent.now in
    let m = c.args.self.now.mode in
    let room = c.args.self.now.room in
    let nodes = c.args.nodes.now in
    let level = c.args.level.now in
    let front = c.args.front.now in
    let way = (meant_front nodes front).way in
    let left : prog_at nodes front.left ≡ c.prog.result.now = ap (λ (o : Option Prog). unwrap_or o Nil) c.prog.ensures in
    stored-less agent m room c.args.from c.args.values.now (level_of nodes level) way (sym c.requires.front.followed ∙ c.if-not-front.false)
    (wanted-is agent m room nodes level.states c.args.from level.next.left c.args.values.now way.label c.prog.result.now way.left c.lead.new.self false c.lead.ensures.reached left
    (sym c.if-not-branch.true ∙ c.in_ok-wants.ensures))

pub add_next-requires : goal.add_next-requires
add_next-requires c = c.requires.level.seen

pub returns-clause-level : goal.returns-clause-level
returns-clause-level c =
    let agent = c.args.self.now.agent.now in
    let nodes = c.args.nodes.now in
    let front = c.args.front.now in
    let done = c.in_ok-add_next.ensures in
    added-level agent nodes nodes c.args.level.now c.add_next.new.self (numbered_as front.left c.lead.new.self) (meant_front nodes front).way
    (goes_on-same nodes) c.requires.level (named-at nodes front.left c.requires.front.number) done.states c.requires.level.once done.seen
    (subst (λ (n : Numbered). AreInSorts agent n.state) (sym done.next) c.lead.ensures.sorts)

pub returns-clause-means : goal.returns-clause-means
returns-clause-means c =
    let agent = c.args.self.now.agent.now in
    let m = c.args.self.now.mode in
    let room = c.args.self.now.room in
    let from = c.args.from in
    let values = c.args.values.now in
    let nodes = c.args.nodes.now in
    let level = c.args.level.now in
    let front = c.args.front.now in
    let way = (meant_front nodes front).way in
    let named = named-at nodes front.left c.requires.front.number in
    let done = c.in_ok-add_next.ensures in
    let left : prog_at nodes front.left ≡ c.prog.result.now = ap (λ (o : Option Prog). unwrap_or o Nil) c.prog.ensures in
    added-is agent nodes nodes level c.add_next.new.self (numbered_as front.left c.lead.new.self) way (goes_on-same nodes) c.requires.level named done.states
    from values (sym c.requires.front.followed ∙ c.if-not-front.false) c.requires.level.once
    (led-numbered nodes agent from front.left level.next.left values way c.lead.new.self c.lead.ensures.reached named) done.cut
    ∙ stored-more agent m room from values (level_of nodes level) way
    (wanted-is agent m room nodes level.states from level.next.left values way.label c.prog.result.now way.left c.lead.new.self true c.lead.ensures.reached left
    (sym c.if-not-branch.false ∙ c.in_ok-wants.ensures))
