use Rattle.std.proofs.Common.{true, false, length, sym, ap, ◌∙◌, subst}
use Rattle.golog_semantics.specs.declared.Mode.TheVariants.{May, Near}
use Rattle.golog_search.specs.declared.decision.Blocked.{Blocked}
use Rattle.golog_search.specs.declared.decision.Decision.TheVariants.{Blocked as Blocking}
use Rattle.golog_search.specs.Decided.{IsDecided}
use Rattle.golog_search.proofs.Choosing.{by-reach, lacks-at, move-at, near-end, reach-lacks, searched-at}
use Rattle.golog_fronts.proofs.WellFormedFits.{well_formed_fits}
use Rattle.golog_search.proofs.deciding.look_why.Goals as goal

pub is_final-requires-clause-program : goal.is_final-requires-clause-program
is_final-requires-clause-program g c = record { in_block = false; fits = c.requires.program }

pub reach_of-requires-clause-fit : goal.reach_of-requires-clause-fit
reach_of-requires-clause-fit g c = well_formed_fits c.args.agent.now c.requires.agent

pub reach_of-requires-clause-closed : goal.reach_of-requires-clause-closed
reach_of-requires-clause-closed g c = record { in_block = false; fits = c.requires.program }

pub reach_of-requires-clause-whole : goal.reach_of-requires-clause-whole
reach_of-requires-clause-whole g c = ap length c.values.ensures ∙ c.requires.sorts.whole

pub reach_of-requires-clause-ready : goal.reach_of-requires-clause-ready
reach_of-requires-clause-ready g c = record { searched = searched-at c.args.agent.now c.args.prog.now c.values.result.now c.args.blocks.now.state.now c.values.ensures c.requires.agent c.requires.sorts; told = c.requires.told }

pub returns-then-branch : goal.returns-then-branch
returns-then-branch g c =
    near-end c.args.agent.now c.args.blocks.now.state.now c.args.prog.now c.requires.unended c.requires.stepless c.args.blocks.now.bounded (sym c.in_ok-is_final.ensures.end ∙ c.if-branch.true)

pub returns-in-Ok : goal.returns-in-Ok
returns-in-Ok g c =
    let agent = c.args.agent.now in
    let p = c.args.prog.now in
    let state = c.args.blocks.now.state.now in
    let reach = c.in-Ok.reach in
    subst (λ (b : Blocked). IsDecided agent state p c.args.blocks.now.bounded (Blocking b)) (sym c.why.ensures)
    (by-reach agent state p c.requires.unended c.requires.stepless c.args.blocks.now.bounded (sym c.in_ok-is_final.ensures.end ∙ c.if-branch.false) reach.near reach.may
    (move-at agent p c.values.result.now state c.values.ensures Near reach.near (c.in-Ok.ensures.reach.steps Near))
    (move-at agent p c.values.result.now state c.values.ensures May reach.may (c.in-Ok.ensures.reach.steps May)))

pub returns-in-Err-Fuel : goal.returns-in-Err-Fuel
returns-in-Err-Fuel g c =
    let agent = c.args.agent.now in
    let p = c.args.prog.now in
    let state = c.args.blocks.now.state.now in
    reach-lacks agent state p c.args.blocks.now.bounded c.requires.agent.programs.guarded c.requires.unended c.requires.stepless
    (lacks-at agent p c.values.result.now state c.values.ensures c.args.blocks.now.bounded true true (c.in-Err-Fuel.ensures.fuel.why c.in-Err-Fuel.field-0-is))
