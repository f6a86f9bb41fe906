use Rattle.std.proofs.Common.{◌≡◌, ◌<◌, List, length, map, get_or, refl, sym, ap, ◌∙◌, subst}
use Rattle.std.proofs.lemmas.Option.{slice_get_read}
use Rattle.golog_tree.specs.declared.agent.PossItem.{PossItem}
use Rattle.golog_semantics.specs.Truth.{Env, arg_value, env_of}
use Rattle.golog_known.specs.Fits.{CondFitsAt}
use Rattle.golog_fronts.proofs.Acting.{action_is, poss_at}
use Rattle.golog_fronts.proofs.Closing.{act_fits-of}
use Rattle.golog_tree.specs.declared.prog.Prog.TheVariants as prog
use Rattle.golog_ways.proofs.here.Here.precondition.Goals as goal

pub arg_values-constants-requires : goal.arg_values-constants-requires
arg_values-constants-requires c =
    let agent = c.args.self.now.agent.now in
    let fits = act_fits-of agent (prog.Act c.args.action c.args.args.now) c.args.action c.args.args.now c.requires refl in
    (action_is agent c.args.self.now.fit c.args.action c.args.args.now fits).few

pub value-requires-clause-fits : goal.value-requires-clause-fits
value-requires-clause-fits c =
    let agent = c.args.self.now.agent.now in
    let args = c.args.args.now in
    let item = c.item-item.result in
    let fits = act_fits-of agent (prog.Act c.args.action args) c.args.action args c.requires refl in
    let is = action_is agent c.args.self.now.fit c.args.action args fits in
    let e = c.as_slice-item-items.ensures in
    let inside : c.loop-item.item-index < length agent.poss = subst (λ (xs : List PossItem). c.loop-item.item-index < length xs) e c.loop-item-test.true in
    let read : item ≡ get_or agent.poss c.loop-item.item-index item = c.item-item.is ∙ ap (λ (xs : List PossItem). get_or xs c.loop-item.item-index item) e in
    let found = slice_get_read agent.poss (length agent.poss) c.loop-item.item-index item refl inside read in
    let env = c.of-env.ensures ∙ ap env_of (c.arg_values-constants.ensures ∙ ap (λ (v : Env). map (arg_value v) args) c.new.ensures) in
    subst (λ (v : Env). CondFitsAt agent item.cond v) (sym env) (poss_at agent c.args.self.now.fit c.args.action args is c.loop-item.item-index item found c.if-item-action.true)
