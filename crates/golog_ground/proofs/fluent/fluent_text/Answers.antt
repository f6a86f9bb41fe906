use Rattle.std.proofs.Common.{◌∙◌, sym}
use Rattle.golog_ground.proofs.Fluents.{stands, its-count, its-args, its-few, its-text}
use Rattle.golog_ground.proofs.fluent.fluent_text.Goals as goal

pub shared_ref_as_front-args : goal.shared_ref_as_front-args
shared_ref_as_front-args c =
    let ground = c.fluent_of-ground.result in
    its-count c.args.agent.now c.args.fluent ground c.fluent_of-ground.ensures c.index-as_slice-ground.result
    (stands c.args.agent.now c.as_slice.result.now ground.item c.index-as_slice-ground.result c.as_slice.ensures c.fluent_of-ground.ensures.declared c.index-as_slice-ground.is)
    c.requires.countable

pub ground_text-requires-clause-few : goal.ground_text-requires-clause-few
ground_text-requires-clause-few c =
    let ground = c.fluent_of-ground.result in
    its-few c.args.agent.now c.args.fluent ground c.fluent_of-ground.ensures c.index-as_slice-ground.result
    (stands c.args.agent.now c.as_slice.result.now ground.item c.index-as_slice-ground.result c.as_slice.ensures c.fluent_of-ground.ensures.declared c.index-as_slice-ground.is)
    c.as_slice-sorts.result.now c.as_slice-sorts.ensures c.requires.countable

pub ground_text-requires-clause-fits : goal.ground_text-requires-clause-fits
ground_text-requires-clause-fits c =
    let ground = c.fluent_of-ground.result in
    its-args c.args.agent.now c.args.fluent ground c.fluent_of-ground.ensures c.index-as_slice-ground.result
    (stands c.args.agent.now c.as_slice.result.now ground.item c.index-as_slice-ground.result c.as_slice.ensures c.fluent_of-ground.ensures.declared c.index-as_slice-ground.is)
    c.as_slice-sorts.result.now c.as_slice-sorts.ensures

pub returns : goal.returns
returns c =
    let ground = c.fluent_of-ground.result in
    c.ground_text.ensures
    ∙ sym (its-text c.args.agent.now c.args.fluent ground c.fluent_of-ground.ensures c.index-as_slice-ground.result
    (stands c.args.agent.now c.as_slice.result.now ground.item c.index-as_slice-ground.result c.as_slice.ensures c.fluent_of-ground.ensures.declared c.index-as_slice-ground.is)
    c.as_slice-sorts.result.now c.as_slice-sorts.ensures)
