use Rattle.std.proofs.Common.{◌≡◌, ◌+◌, ◌-◌, ◌<◌, List, [], ◌∷◌, ◌++◌, length, map, take, Option, Some, None, sym, ap, ◌∙◌, subst, arith, length-take, rules}
use Rattle.std.specs.Prelude.{reverse, slice_get, unwrap_or}
use Rattle.std.specs.Option.{option_map}
use Rattle.std.proofs.lemmas.List.Elements.{All-get_or, All-take}
use Rattle.std.proofs.lemmas.Option.{slice_get-map, slice_get_past}
use Rattle.golog_tree.specs.declared.prog.Label.{Label}
use Rattle.golog_tree.specs.declared.prog.Prog.{Prog}
use Rattle.golog_tree.specs.declared.prog.Prog.TheVariants.{Nil}
use Rattle.golog_tree.specs.declared.prog.Way.{Way}
use Rattle.golog_find.specs.declared.numbered.Numbered.{Numbered}
use Rattle.golog_find.specs.Levels.{Reached, run_to}
use Rattle.golog_find.specs.Numbers.{HaveNumbers, all_meant, meant}
use Rattle.golog_find.specs.Rows.{lent}
use Rattle.golog_find.proofs.Numbering.{at-place, get-at, number-at}
use Rattle.golog_find.proofs.RunsTo.{mapped-last, run_to-none, run_to-some}
use Rattle.golog_find.proofs.search.+steps_to.Goals as goal

abbrev way_of : Label → Prog → Way
way_of label left = record { label = label; left = left }

pub steps_to-requires : goal.steps_to-requires
steps_to-requires t c =
    let nodes = c.args.nodes.now in
    let before = c.args.before.now in
    let n = length before - 1 in
    let inside : n < length before = omega arith in
    let nearer : HaveNumbers nodes c.nearer-item.result =
    subst (HaveNumbers nodes) (sym c.nearer-item.is) (All-get_or (HaveNumbers nodes) before n c.nearer-item.result inside c.requires.before) in
    let earlier = All-take (HaveNumbers nodes) n before c.requires.before in
    let short : length (take n before) < length before = omega (arith, length-take {A = List Numbered}) in
    search rules

pub prog-requires : goal.prog-requires
prog-requires t c =
    let states = c.args.states.now in
    let reached = lent c.at-reached.result in
    number-at c.args.nodes.now states c.args.place reached (omega arith) (at-place states c.args.place reached c.at-reached.ensures) c.requires.states

pub returns-then-place-len : goal.returns-then-place-len
returns-then-place-len t c =
    let nodes = c.args.nodes.now in
    let states = c.args.states.now in
    let past : slice_get states c.args.place ≡ None = slice_get_past states c.args.place (omega arith) in
    let none : slice_get (all_meant nodes states) c.args.place ≡ None = slice_get-map (meant nodes) states c.args.place ∙ ap (option_map (meant nodes)) past in
    c.new-then-place-len.ensures ∙ sym (run_to-none (reverse (map (all_meant nodes) c.args.before.now)) (all_meant nodes states) c.args.place none)

pub returns : goal.returns
returns t c =
    let nodes = c.args.nodes.now in
    let states = c.args.states.now in
    let reached = lent c.at-reached.result in
    let n = length c.args.before.now - 1 in
    let count : length c.args.before.now ≡ n + 1 = omega arith in
    let nearer = c.nearer-item.result in
    let back = mapped-last (all_meant nodes) c.args.before.now n nearer nearer count c.nearer-item.is in
    let some : slice_get (all_meant nodes states) c.args.place ≡ Some (meant nodes reached) =
    get-at nodes states c.args.place reached (omega arith) (at-place states c.args.place reached c.at-reached.ensures) in
    let earlier = reverse (map (all_meant nodes) (take n c.args.before.now)) in
    let left : c.in_ok-left.left ≡ (meant nodes reached).way.left = c.in_ok-left.ensures ∙ sym (ap (λ (o : Option Prog). unwrap_or o Nil) c.prog.ensures) in
    c.in_ok-push.ensures.ok
    ∙ ap (λ (ws : List Way). ws ++ way_of reached.label c.in_ok-left.left ∷ []) c.in_ok-run.ensures
    ∙ ap (λ (p : Prog). run_to earlier (all_meant nodes nearer) reached.from ++ way_of reached.label p ∷ []) left
    ∙ sym (ap (λ (b : List (List Reached)). run_to b (all_meant nodes states) c.args.place) back
    ∙ run_to-some earlier (all_meant nodes nearer) (all_meant nodes states) c.args.place (meant nodes reached) some)
