use Rattle.std.proofs.Common.{ℕ, List, map, refl, sym, ap, ◌∙◌, subst}
use Rattle.golog_tree.specs.declared.prog.Prog.TheVariants as prog
use Rattle.golog_tree.specs.Ground.{AreWithin, action_args, action_no, args_at, sizes}
use Rattle.golog_semantics.specs.Truth.{Env, arg_value}
use Rattle.golog_fronts.proofs.Acting.{action_is}
use Rattle.golog_fronts.proofs.Closing.{act_fits-of}
use Rattle.golog_ways.proofs.MoveSteps.{act_taken, act_barred}
use Rattle.golog_ways.proofs.here.Here.act_move.Goals as goal

pub arg_values-constants-requires : goal.arg_values-constants-requires
arg_values-constants-requires c =
    let agent = c.args.self.now.agent.now in
    let fits = act_fits-of agent (prog.Act c.args.action c.args.args.now) c.args.action c.args.args.now c.requires refl in
    (action_is agent c.args.self.now.fit c.args.action c.args.args.now fits).few

pub action_no-number-requires-clause-action : goal.action_no-number-requires-clause-action
action_no-number-requires-clause-action c =
    let agent = c.args.self.now.agent.now in
    let fits = act_fits-of agent (prog.Act c.args.action c.args.args.now) c.args.action c.args.args.now c.requires refl in
    (action_is agent c.args.self.now.fit c.args.action c.args.args.now fits).inside

pub action_no-number-requires-clause-fits : goal.action_no-number-requires-clause-fits
action_no-number-requires-clause-fits c =
    let agent = c.args.self.now.agent.now in
    let args = c.args.args.now in
    let fits = act_fits-of agent (prog.Act c.args.action args) c.args.action args c.requires refl in
    let given = c.arg_values-constants.ensures ∙ ap (λ (v : Env). map (arg_value v) args) c.new.ensures in
    subst (λ (cs : List ℕ). AreWithin (sizes agent (args_at (action_args agent) c.args.action)) cs) (sym given) (action_is agent c.args.self.now.fit c.args.action args fits).within

pub returns-then-holds : goal.returns-then-holds
returns-then-holds c blocks =
    let agent = c.args.self.now.agent.now in
    let args = c.args.args.now in
    let given = c.arg_values-constants.ensures ∙ ap (λ (v : Env). map (arg_value v) args) c.new.ensures in
    act_taken agent blocks c.args.self.now.values.now c.args.self.now.fit.guarded c.args.action args c.precondition.result c.precondition.ensures (sym c.holds.ensures ∙ c.if-holds.true)
    c.action_no-number.result (c.action_no-number.ensures.number ∙ ap (action_no agent c.args.action) given)

pub returns-else-holds : goal.returns-else-holds
returns-else-holds c blocks =
    act_barred c.args.self.now.agent.now blocks c.args.self.now.values.now c.args.self.now.fit.guarded c.args.action c.args.args.now c.precondition.result c.precondition.ensures (sym c.holds.ensures ∙ c.if-holds.false)
