use Rattle.std.proofs.Common.{◌≡◌, ℕ, ◌<◌, List, [], length, map, get_or, Some, refl, sym, ap, ◌∙◌, subst, arith}
use Rattle.std.specs.Prelude.{slice_get}
use Rattle.std.proofs.lemmas.Option.{slice_get_read}
use Rattle.golog_tree.specs.declared.agent.PossItem.{PossItem}
use Rattle.golog_tree.specs.declared.prog.Prog.TheVariants as prog
use Rattle.golog_semantics.specs.Truth.{arg_value, env_of}
use Rattle.golog_fronts.proofs.Acting.{action_is, closed_at}
use Rattle.golog_fronts.proofs.Closing.{act_fits-of}
use Rattle.golog_fronts.proofs.Preconditions.{act_constants, possible-next, precondition-found, precondition-none}
use Rattle.golog_fronts.proofs.laying.precondition_of.Goals as goal

pub put_args-requires : goal.put_args-requires
put_args-requires c =
    let agent = c.args.agent.now in
    let fits = act_fits-of agent (prog.Act c.args.action c.args.args.now) c.args.action c.args.args.now c.requires.closed refl in
    (action_is agent c.requires.fit c.args.action c.args.args.now fits).few

pub returns-then-item-action : goal.returns-then-item-action
returns-then-item-action c =
    let agent = c.args.agent.now in
    let args = c.args.args.now in
    let item = c.item-item.result in
    let fits = act_fits-of agent (prog.Act c.args.action args) c.args.action args c.requires.closed refl in
    let e = c.as_slice-item-items.ensures in
    let inside : c.loop-item.item-index < length agent.poss = subst (λ (xs : List PossItem). c.loop-item.item-index < length xs) e c.loop-item-test.true in
    let read : item ≡ get_or agent.poss c.loop-item.item-index item = c.item-item.is ∙ ap (λ (xs : List PossItem). get_or xs c.loop-item.item-index item) e in
    let found = slice_get_read agent.poss (length agent.poss) c.loop-item.item-index item refl inside read in
    let is = action_is agent c.requires.fit c.args.action args fits in
    precondition-found agent c.args.action args c.loop-item.item-index item found c.if-item-action.true (act_constants agent c.args.action args fits) is.few
    (closed_at agent c.requires.fit c.args.action args is c.loop-item.item-index item found c.if-item-action.true) c.loop-item.invariant c.put_args.result c.put_args.ensures

pub loop-item-preserved : goal.loop-item-preserved
loop-item-preserved c =
    let agent = c.args.agent.now in
    let args = c.args.args.now in
    let item = c.item-item.result in
    let e = c.as_slice-item-items.ensures in
    let inside : c.loop-item.item-index < length agent.poss = subst (λ (xs : List PossItem). c.loop-item.item-index < length xs) e c.loop-item-test.true in
    let read : item ≡ get_or agent.poss c.loop-item.item-index item = c.item-item.is ∙ ap (λ (xs : List PossItem). get_or xs c.loop-item.item-index item) e in
    let found = slice_get_read agent.poss (length agent.poss) c.loop-item.item-index item refl inside read in
    λ m v. c.loop-item.invariant m v ∙ possible-next agent c.args.action (map (arg_value (env_of [])) args) v m agent.poss c.loop-item.item-index item found c.if-item-action.false
