use Rattle.std.proofs.Common.{◌≡◌, Bool, List, [], ◌∷◌, ◌++◌, map, sym, ap, ◌∙◌, subst}
use Rattle.std.specs.Prelude.{All, ◌||◌}
use Rattle.golog_find.specs.declared.numbered.Numbered.{Numbered}
use Rattle.golog_find.specs.Levels.{AreSearched, AreStored, Level, next_level, stored_level}
use Rattle.golog_find.specs.Numbers.{HaveNumbers, all_meant, looked_of}
use Rattle.golog_find.proofs.LevelsStay.{stored_level-stays}
use Rattle.golog_find.proofs.Numbering.{before-further, before-numbers}
use Rattle.golog_find.proofs.Storing.{level-stored}
use Rattle.golog_find.proofs.search.Search.deepen.Goals as goal
use Rattle.golog_find.proofs.search.Search.deepen.Goals.{then-self, else-self}

pub next_level-requires-clause-numbers : goal.next_level-requires-clause-numbers
next_level-requires-clause-numbers g c = c.requires.numbers.last

pub next_level-requires-clause-searched : goal.next_level-requires-clause-searched
next_level-requires-clause-searched g c = c.requires.searched

pub returns-clause-before : goal.returns-clause-before
returns-clause-before g c =
    let old = c.args.self.now in
    let nodes = c.next_level.new.nodes in
    let added : c.push.new.self ≡ old.before ++ old.last ∷ [] = c.in_ok-push.ensures.ok ∙ ap (λ (ns : List Numbered). old.before ++ ns ∷ []) c.replace-last.ensures.value in
    ap (map (all_meant nodes)) added
    ∙ before-further old.nodes nodes old.before old.last c.in_ok-level.ensures.goes_on c.requires.numbers.before c.requires.numbers.last

pub returns-clause-last : goal.returns-clause-last
returns-clause-last g c =
    let agent = c.args.agent.now in
    let m = c.args.mode in
    let old = c.args.self.now in
    let nodes = c.next_level.new.nodes in
    let last : all_meant nodes c.replace-last.new.dest ≡ (stored_level agent m c.args.room (looked_of old).last).states =
    ap (all_meant nodes) c.replace-last.ensures.after
    ∙ ap (λ (l : Level). l.states) c.in_ok-level.ensures.next in
    subst (AreStored agent m c.args.room (next_level agent m (looked_of old).last).states) (sym last) (level-stored agent m c.args.room (looked_of old).last).0

pub returns-clause-cut : goal.returns-clause-cut
returns-clause-cut g c =
    let agent = c.args.agent.now in
    let m = c.args.mode in
    let old = c.args.self.now in
    let next : Level = next_level agent m (looked_of old).last in
    let further : c.in_ok-level.level.cut ≡ next.cut =
    ap (λ (l : Level). l.cut) c.in_ok-level.ensures.next
    ∙ (level-stored agent m c.args.room (looked_of old).last).1 in
    elim c.if-self.branch [
      | then-self w ↦ w.self-is ∙ w.if-self.true ∙ sym (ap (λ (b : Bool). b || next.cut) w.if-self.true)
      | else-self w ↦ w.self-is ∙ further ∙ sym (ap (λ (b : Bool). b || next.cut) w.if-self.false)
    ]

pub returns-clause-searched : goal.returns-clause-searched
returns-clause-searched g c =
    let agent = c.args.agent.now in
    let m = c.args.mode in
    let old = c.args.self.now in
    let nodes = c.next_level.new.nodes in
    let last : all_meant nodes c.replace-last.new.dest ≡ (stored_level agent m c.args.room (looked_of old).last).states =
    ap (all_meant nodes) c.replace-last.ensures.after
    ∙ ap (λ (l : Level). l.states) c.in_ok-level.ensures.next in
    subst (AreSearched agent) (sym last) (stored_level-stays agent c.requires.agent m c.args.room (looked_of old).last c.requires.searched)

pub returns-clause-numbers : goal.returns-clause-numbers
returns-clause-numbers g c =
    let old = c.args.self.now in
    let nodes = c.next_level.new.nodes in
    let added : c.push.new.self ≡ old.before ++ old.last ∷ [] = c.in_ok-push.ensures.ok ∙ ap (λ (ns : List Numbered). old.before ++ ns ∷ []) c.replace-last.ensures.value in
    record {
      once = c.in_ok-level.ensures.level.once;
      before = subst (All (HaveNumbers nodes)) (sym added) (before-numbers old.nodes nodes old.before old.last c.in_ok-level.ensures.goes_on c.requires.numbers.before c.requires.numbers.last);
      last = subst (HaveNumbers nodes) (sym c.replace-last.ensures.after) c.in_ok-level.ensures.level.numbers;
    }
