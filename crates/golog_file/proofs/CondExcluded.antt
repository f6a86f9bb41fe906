-- Bytes that spell a condition are not refused, and spell no other.
use Rattle.std.proofs.Common.{◌≡◌, ℕ, List, [], sym, ◌∙◌, subst, arith, inl, inr, Ok}
use Rattle.golog_form.specs.declared.form.Form.{Form}
use Rattle.golog_tree.specs.declared.agent.Agent.{Agent}
use Rattle.golog_tree.specs.declared.cond.Cond.{Cond}
use Rattle.golog_tree.specs.declared.draft.DraftTheory.{DraftTheory}
use Rattle.golog_tree.specs.declared.draft_cond.DraftCond.{DraftCond}
use Rattle.golog_theory.specs.Conditions.{cond_of}
use Rattle.golog_check.specs.DeclaredItems.{declared_in}
use Rattle.golog_check.specs.Conditions.{cond_in}
use Rattle.golog_file.specs.Conditions.{FormSpellsCond, SpellsCond, FormRefusesCond, of_draft, of_check, RefusesCond, of_bytes, of_form}
use Rattle.golog_file.specs.Laws.{SpelledCondIsUnrefused, OneCondIsSpelled}
use Rattle.golog_file.proofs.Excluded.{one-form, unfit, unfit-rows}

module _ (theory : DraftTheory) (agent : Agent) where
  draft-same : (form : Form) (one other : DraftCond) → (cond_of theory form 0).outcome ≡ Ok one → (cond_of theory form 0).outcome ≡ Ok other → one ≡ other
  draft-same form one other e h = let k : Ok one ≡ Ok other = sym e ∙ h in cc

  form-excluded : (form : Form) (cond : Cond) → FormSpellsCond theory agent form cond → (code at : ℕ) → FormRefusesCond theory agent form code at → ⊥
  form-excluded form cond s _ _ (of_draft code at h) = unfit-rows (cond_of theory form 0) s.draft s.draft_read code at h
  form-excluded form cond s _ _ (of_check code at draft e h) =
      let same = draft-same form s.draft draft s.draft_read e in
      unfit-rows (cond_in (declared_in agent) draft []) cond (subst (λ d. (cond_in (declared_in agent) d []).outcome ≡ Ok cond) same s.checked) code at h

  excluded : (bytes : List ℕ) (cond : Cond) → SpellsCond theory agent bytes cond → (code at : ℕ) → RefusesCond theory agent bytes code at → ⊥
  excluded bytes cond s _ _ (of_bytes code at (inl long)) = let small = s.bytes_spell.small in absurd (omega (arith, long.0, small))
  excluded bytes cond s _ _ (of_bytes code at (inr first)) = unfit bytes s.form s.bytes_spell at code first.1.fits
  excluded bytes cond s _ _ (of_form code at form spelled refuses) =
      let same : s.form ≡ form = one-form bytes s.form form s.bytes_spell.spelled spelled.spelled in
      form-excluded form cond (subst (λ f. FormSpellsCond theory agent f cond) same s.form_spells) code at refuses

  form-one : (form : Form) (one other : Cond) → FormSpellsCond theory agent form one → FormSpellsCond theory agent form other → one ≡ other
  form-one form one other s t =
      let same = draft-same form s.draft t.draft s.draft_read t.draft_read in
      let checked : (cond_in (declared_in agent) t.draft []).outcome ≡ Ok one = subst (λ d. (cond_in (declared_in agent) d []).outcome ≡ Ok one) same s.checked in
      let k : Ok one ≡ Ok other = sym checked ∙ t.checked in cc

pub cond-excluded : SpelledCondIsUnrefused
cond-excluded theory agent bytes cond s code at refuses = excluded theory agent bytes cond s code at refuses

pub one-cond : OneCondIsSpelled
one-cond theory agent bytes one other s t =
    let same : s.form ≡ t.form = one-form bytes s.form t.form s.bytes_spell.spelled t.bytes_spell.spelled in
    form-one theory agent t.form one other (subst (λ f. FormSpellsCond theory agent f one) same s.form_spells) t.form_spells
