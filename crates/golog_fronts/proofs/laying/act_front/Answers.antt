use Rattle.std.proofs.Common.{◌≡◌, ℕ, List, [], ◌∷◌, map, refl, sym, ap, ◌∙◌, subst}
use Rattle.golog_tree.specs.declared.prog.Prog.TheVariants as prog
use Rattle.golog_tree.specs.declared.prog.Label.TheVariants.{Do}
use Rattle.golog_tree.specs.Ground.{AreWithin, action_args, action_no, args_at, sizes}
use Rattle.golog_semantics.specs.Truth.{Env, arg_value}
use Rattle.golog_fronts.specs.FrontLists.{last_front}
use Rattle.golog_fronts.proofs.Acting.{action_is}
use Rattle.golog_fronts.proofs.Closing.{act_fits-of}
use Rattle.golog_fronts.proofs.Opened.{act_fronts, fronts_give}
use Rattle.golog_fronts.proofs.laying.act_front.Goals as goal

pub arg_values-constants-requires : goal.arg_values-constants-requires
arg_values-constants-requires c =
    let agent = c.args.agent.now in
    let fits = act_fits-of agent (prog.Act c.args.action c.args.args.now) c.args.action c.args.args.now c.requires.closed refl in
    (action_is agent c.requires.fit c.args.action c.args.args.now fits).few

pub action_no-number-requires-clause-action : goal.action_no-number-requires-clause-action
action_no-number-requires-clause-action c =
    let agent = c.args.agent.now in
    let fits = act_fits-of agent (prog.Act c.args.action c.args.args.now) c.args.action c.args.args.now c.requires.closed refl in
    (action_is agent c.requires.fit c.args.action c.args.args.now fits).inside

pub action_no-number-requires-clause-fits : goal.action_no-number-requires-clause-fits
action_no-number-requires-clause-fits c =
    let agent = c.args.agent.now in
    let args = c.args.args.now in
    let fits = act_fits-of agent (prog.Act c.args.action args) c.args.action args c.requires.closed refl in
    let given = c.arg_values-constants.ensures ∙ ap (λ (v : Env). map (arg_value v) args) c.new.ensures in
    subst (λ (cs : List ℕ). AreWithin (sizes agent (args_at (action_args agent) c.args.action)) cs) (sym given) (action_is agent c.requires.fit c.args.action args fits).within

pub returns : goal.returns
returns c =
    let agent = c.args.agent.now in
    let args = c.args.args.now in
    let given = c.arg_values-constants.ensures ∙ ap (λ (v : Env). map (arg_value v) args) c.new.ensures in
    let number = c.action_no-number.ensures.number ∙ ap (action_no agent c.args.action) given in
    fronts_give agent (prog.Act c.args.action args) (last_front c.in_ok-cond.cond (Do c.action_no-number.result) ∷ []) c.last.result c.last.ensures
    (act_fronts agent c.requires.fit.guarded c.args.action args c.in_ok-cond.cond c.action_no-number.result number c.in_ok-cond.ensures)
