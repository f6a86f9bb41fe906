-- The theory and the condition that a form spells stand in order.
use Rattle.std.proofs.Common.{◌+◌, map, Result, Ok, Err}
use Rattle.std.specs.Prelude.{IfOk}
use Rattle.golog_form.specs.declared.form.Form.{Form}
use Rattle.golog_form.specs.Shape.{place_of}
use Rattle.golog_form.specs.Places.{IsInOrder}
use Rattle.golog_tree.specs.declared.draft.DraftTheory.{DraftTheory}
use Rattle.golog_tree.specs.declared.draft.DraftFluent.{DraftFluent}
use Rattle.golog_tree.specs.declared.draft.DraftAction.{DraftAction}
use Rattle.golog_tree.specs.declared.draft_cond.DraftCond.{DraftCond}
use Rattle.golog_draft.specs.DraftPlaces.{cond_places}
use Rattle.golog_draft.specs.DraftOrder.{IsAscending, TheoryInOrder}
use Rattle.golog_theory.specs.declared.fault.TheoryFault.{TheoryFault}
use Rattle.golog_theory.specs.Reading.{Answers}
use Rattle.golog_theory.specs.Conditions.{cond_of}
use Rattle.golog_theory.specs.Items.{theory_of}
use Rattle.golog_theory.proofs.Inside.{end_of}
use Rattle.golog_theory.proofs.Ascend.{is_ascending, rise}
use Rattle.golog_theory.proofs.PlacesOfConds.{cond_of-ascend}
use Rattle.golog_theory.proofs.KeptTheory.{Fluents, Actions, Poss, Causes, Senses, Starts, theory_of-kept}

pub theory-in_order : (result : Result DraftTheory TheoryFault) (f : Form) → Answers result (theory_of f) → IsInOrder f → IfOk result TheoryInOrder
theory-in_order (Ok theory) f e order =
    let kept = theory_of-kept f order theory e in
    let fluents = (kept Fluents).rises in
    let actions = (kept Actions).rises in
    record {
      fluents = rise 0 (map (λ (item : DraftFluent). item.at) theory.fluents) (end_of f + 1) fluents;
      actions = rise 0 (map (λ (item : DraftAction). item.at) theory.actions) (end_of f + 1) actions;
      starts = (kept Starts).ascend;
      poss = (kept Poss).ascend;
      causes = (kept Causes).ascend;
      senses = (kept Senses).ascend;
    }
theory-in_order (Err fault) f e order = tt

pub condition-in_order : (result : Result DraftCond TheoryFault) (theory : DraftTheory) (f : Form) → Answers result (cond_of theory f 0) → IsInOrder f
    → IfOk result (λ cond. IsAscending (cond_places cond))
condition-in_order (Ok c) theory f e order = is_ascending (place_of f) (cond_places c) (end_of f) (cond_of-ascend theory f order 0 c e)
condition-in_order (Err fault) theory f e order = tt

pub ruleset laws = (theory-in_order, condition-in_order)
