use Rattle.std.proofs.Common.{◌≡◌, sym, ap, ◌∙◌, subst}
use Rattle.std.proofs.lemmas.Result.{IfOk-weaker, on_ok_weaker}
use Rattle.golog_find.specs.declared.level.Level.{Level as AnyLevel}
use Rattle.golog_find.specs.Levels.{AreSearched, stored_level}
use Rattle.golog_find.specs.Numbers.{GoesOn, all_meant, level_of}
use Rattle.golog_find.proofs.Numbering.{all_meant-stay, goes_on-further, numbers-stay}
use Rattle.golog_find.proofs.Visiting.{kept-stays}
use Rattle.golog_find.proofs.deepening.Deepening.next_level.Goals as goal

pub led_from-requires-clause-numbers : goal.led_from-requires-clause-numbers
led_from-requires-clause-numbers g c = numbers-stay c.args.nodes.now c.visit_all.new.nodes c.args.states.now c.in_ok-visit_all.ensures.goes_on c.requires.numbers

pub led_from-requires-clause-searched : goal.led_from-requires-clause-searched
led_from-requires-clause-searched g c =
    subst (AreSearched c.args.self.now.agent.now) (sym (all_meant-stay c.args.nodes.now c.visit_all.new.nodes c.args.states.now c.in_ok-visit_all.ensures.goes_on c.requires.numbers)) c.requires.searched

pub returns-clause-goes_on : goal.returns-clause-goes_on
returns-clause-goes_on g c =
    on_ok_weaker c.led_from.result (λ (h : GoesOn c.visit_all.new.nodes c.led_from.new.nodes). goes_on-further c.args.nodes.now c.visit_all.new.nodes c.led_from.new.nodes c.in_ok-visit_all.ensures.goes_on h) c.led_from.ensures.goes_on

pub returns-clause-kept : goal.returns-clause-kept
returns-clause-kept g c =
    on_ok_weaker c.led_from.result
    (λ (h : GoesOn c.visit_all.new.nodes c.led_from.new.nodes). kept-stays c.visit_all.new.nodes c.led_from.new.nodes h c.args.self.now.agent.now c.visit_all.new.visits c.in_ok-visit_all.ensures.kept) c.led_from.ensures.goes_on

pub returns-clause-next : goal.returns-clause-next
returns-clause-next g c =
    let old = c.args.nodes.now in
    let mid = c.visit_all.new.nodes in
    let new = c.led_from.new.nodes in
    let next = stored_level c.args.self.now.agent.now c.args.self.now.mode c.args.self.now.room in
    let stays = all_meant-stay old mid c.args.states.now c.in_ok-visit_all.ensures.goes_on c.requires.numbers in
    IfOk-weaker c.led_from.result (λ (level : AnyLevel). level_of new level ≡ next (all_meant mid c.args.states.now)) (λ (level : AnyLevel). level_of new level ≡ next (all_meant old c.args.states.now))
    (λ level e. e ∙ ap next stays) c.led_from.ensures.next
