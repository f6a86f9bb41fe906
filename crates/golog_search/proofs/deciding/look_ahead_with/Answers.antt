use Rattle.std.proofs.Common.{Some, None, false, length, sym, ap, ◌∙◌, subst}
use Rattle.std.specs.Option.{is_some}
use Rattle.golog_semantics.proofs.Tests.{and_cases}
use Rattle.golog_search.specs.declared.decision.Decision.{Decision}
use Rattle.golog_search.specs.Decided.{IsAhead}
use Rattle.golog_search.specs.Steady.{steady}
use Rattle.golog_search.proofs.Choosing.{ends, first-at, first-lacks, lacks-at, searched-at, stepless, steps}
use Rattle.golog_search.proofs.Steadies.{first-shallow}
use Rattle.golog_fronts.proofs.WellFormedFits.{well_formed_fits}
use Rattle.golog_search.proofs.deciding.look_ahead_with.Goals as goal

pub is_final-requires-clause-program : goal.is_final-requires-clause-program
is_final-requires-clause-program g c = record { in_block = false; fits = c.requires.program }

pub first_move_with-requires-clause-fit : goal.first_move_with-requires-clause-fit
first_move_with-requires-clause-fit g c = well_formed_fits c.args.agent.now c.requires.agent

pub first_move_with-requires-clause-closed : goal.first_move_with-requires-clause-closed
first_move_with-requires-clause-closed g c = record { in_block = false; fits = c.requires.program }

pub first_move_with-requires-clause-whole : goal.first_move_with-requires-clause-whole
first_move_with-requires-clause-whole g c = ap length c.values.ensures ∙ c.requires.sorts.whole

pub first_move_with-requires-clause-ready : goal.first_move_with-requires-clause-ready
first_move_with-requires-clause-ready g c = record { searched = searched-at c.args.agent.now c.args.prog.now c.values.result.now c.args.blocks.now.state.now c.values.ensures c.requires.agent c.requires.sorts; told = c.requires.told }

pub returns-then-branch : goal.returns-then-branch
returns-then-branch g c = ends c.args.agent.now c.args.blocks.now.state.now c.args.prog.now c.args.blocks.now.bounded (sym c.in_ok-is_final.ensures.end ∙ c.if-branch.true)

pub returns-in-Ok-Some : goal.returns-in-Ok-Some
returns-in-Ok-Some g c =
    let agent = c.args.agent.now in
    let p = c.args.prog.now in
    let state = c.args.blocks.now.state.now in
    let f = first-at agent p c.values.result.now state c.values.ensures c.in-Ok-Some.field-0 (Some c.in-Ok-Some.step) c.in-Ok-Some.field-0-is c.in-Ok-Some.ensures.first in
    subst (λ (d : Decision). IsAhead agent state p c.args.blocks.now.bounded (Some d)) (sym c.stepping.ensures)
    (steps agent state p c.args.blocks.now.bounded (sym c.in_ok-is_final.ensures.end ∙ c.if-branch.false) c.in-Ok-Some.step f)

pub stepping-requires : goal.stepping-requires
stepping-requires g c shallow =
    let agent = c.args.agent.now in
    let p = c.args.prog.now in
    let state = c.args.blocks.now.state.now in
    let f = first-at agent p c.values.result.now state c.values.ensures c.in-Ok-Some.field-0 (Some c.in-Ok-Some.step) c.in-Ok-Some.field-0-is c.in-Ok-Some.ensures.first in
    let k = and_cases c.args.shallow (is_some (steady p)) (sym c.stays_shallow.ensures ∙ shallow) in
    first-shallow agent state p (k.1, c.requires.shallow k.0) c.in-Ok-Some.step f

pub returns-in-Ok-None : goal.returns-in-Ok-None
returns-in-Ok-None g c =
    let agent = c.args.agent.now in
    let p = c.args.prog.now in
    let state = c.args.blocks.now.state.now in
    stepless agent state p c.args.blocks.now.bounded (sym c.in_ok-is_final.ensures.end ∙ c.if-branch.false)
    (first-at agent p c.values.result.now state c.values.ensures c.in-Ok-None.field-0 None c.in-Ok-None.field-0-is c.in-Ok-None.ensures.first)

pub returns-in-Err-Fuel : goal.returns-in-Err-Fuel
returns-in-Err-Fuel g c =
    let agent = c.args.agent.now in
    let p = c.args.prog.now in
    let state = c.args.blocks.now.state.now in
    first-lacks agent state p c.args.blocks.now.bounded c.requires.agent.programs.guarded (sym c.in_ok-is_final.ensures.end ∙ c.if-branch.false)
    (lacks-at agent p c.values.result.now state c.values.ensures c.args.blocks.now.bounded false false (c.in-Err-Fuel.ensures.fuel.why c.in-Err-Fuel.field-0-is))
