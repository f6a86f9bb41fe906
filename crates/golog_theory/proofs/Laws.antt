-- A theory and a condition that were read keep the rules for drafts.
use Rattle.std.proofs.Common.{◌≡◌, ◌+◌, Result, Ok, Err}
use Rattle.std.specs.Prelude.{IfOk}
use Rattle.golog_form.specs.declared.form.Form.{Form}
use Rattle.golog_form.specs.Places.{IsInOrder}
use Rattle.golog_tree.specs.declared.draft.DraftTheory.{DraftTheory}
use Rattle.golog_tree.specs.declared.draft_cond.DraftCond.{DraftCond}
use Rattle.golog_draft.specs.Drafts.{TheoryKeeps, CondKeeps, theory_names}
use Rattle.golog_theory.specs.declared.fault.TheoryFault.{TheoryFault}
use Rattle.golog_theory.specs.Reading.{Answers}
use Rattle.golog_theory.specs.Conditions.{cond_of}
use Rattle.golog_theory.specs.Items.{theory_of}
use Rattle.golog_theory.proofs.KeptConds.{cond_of-yields}
use Rattle.golog_theory.proofs.Inside.{end_of}
use Rattle.golog_theory.proofs.KeptNames.{are-names}
use Rattle.golog_theory.proofs.KeptCauses.{all-keep}
use Rattle.golog_theory.proofs.KeptTheory.{Names, Sorts, Devices, Fluents, Actions, Poss, Causes, Senses, Starts, theory_of-kept}

pub theory-keeps : (form : Form) (theory : DraftTheory) → IsInOrder form → (theory_of form).outcome ≡ Ok theory → TheoryKeeps theory
theory-keeps form theory order e =
    let kept = theory_of-kept form order theory e in
    record {
      built_in = record {
        sorts = (kept Sorts).begins;
        fluents = (kept Fluents).begins;
        actions = (kept Actions).begins;
        causes = (kept Causes).begins;
        starts = (kept Starts).begins;
      };
      names = are-names (theory_names theory) (kept Names);
      few = record { sorts = (kept Sorts).few; devices = kept Devices; causes = (kept Causes).few };
      sorts = (kept Sorts).keep;
      fluents = (kept Fluents).keep;
      actions = (kept Actions).keep;
      poss = (kept Poss).keep;
      poss_once = (kept Poss).once;
      poss_vars = (kept Poss).vars;
      causes = all-keep (end_of form + 1) theory theory.causes (kept Causes).fit;
      senses = (kept Senses).keep;
      sense_vars = (kept Senses).vars;
      starts = (kept Starts).keep;
      starts_once = (kept Starts).once;
    }

pub condition-keeps : (theory : DraftTheory) (form : Form) (c : DraftCond) → (cond_of theory form 0).outcome ≡ Ok c → CondKeeps theory c
condition-keeps theory form c e = cond_of-yields theory form 0 c e

-- the same of what a reader answers
pub answer-keeps : (result : Result DraftTheory TheoryFault) (form : Form) → Answers result (theory_of form) → IsInOrder form → IfOk result TheoryKeeps
answer-keeps (Ok theory) form e order = theory-keeps form theory order e
answer-keeps (Err fault) form e order = tt

pub answer-keeps_cond : (result : Result DraftCond TheoryFault) (theory : DraftTheory) (form : Form) → Answers result (cond_of theory form 0) → IfOk result (CondKeeps theory)
answer-keeps_cond (Ok c) theory form e = condition-keeps theory form c e
answer-keeps_cond (Err fault) theory form e = tt

pub ruleset laws = (answer-keeps, answer-keeps_cond)
