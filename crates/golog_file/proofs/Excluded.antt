-- Bytes that spell an agent are not refused.
use Rattle.std.proofs.Common.{◌≡◌, ℕ, List, length, refl, sym, ap, ◌∙◌, subst, arith, inl, inr, Result, Ok, Err}
use Rattle.golog_form.specs.declared.form.Form.{Form}
use Rattle.golog_form.specs.declared.fault.FormFault.TheVariants.{Refused as FormRefused}
use Rattle.golog_form.specs.Gives.{Fault}
use Rattle.golog_form.specs.Tokens.{tokens}
use Rattle.golog_form.specs.Parsing.{parse, start}
use Rattle.golog_form.specs.Spelling.{Spells}
use Rattle.golog_form.specs.Faults.{Fits}
use Rattle.golog_form.proofs.Least.{answer}
use Rattle.golog_form.proofs.Only.{only}
use Rattle.golog_tree.specs.declared.agent.Agent.{Agent}
use Rattle.golog_tree.specs.declared.draft.DraftTheory.{DraftTheory}
use Rattle.golog_tree.specs.declared.draft.DraftProgram.{DraftProgram}
use Rattle.golog_rows.specs.Reading.{refusal_in, Reading}
use Rattle.golog_theory.specs.Items.{theory_of}
use Rattle.golog_rows.specs.Order.{IsLeast, Fits as FitsIn}
use Rattle.golog_rows.proofs.Chain.{none-fits}
use Rattle.golog_prog.specs.Items.{program_of}
use Rattle.golog_file.specs.Spelled.{DraftSpells, DraftRefuses, FormSpells, FormRefuses, of_theory, of_program, of_draft, SpellsForm, SpellsAgent, IsFirstRefusal, of_bytes, of_form}

-- ---- forms

apart : (x : Form) (fault : Fault) (one other : Result Form Fault) → one ≡ Ok x → other ≡ Err fault → one ≡ other → ⊥
apart x fault one other h k e = cc

parsed : (bytes : List ℕ) (form : Form) → Spells bytes form → parse (length bytes) (tokens bytes) start ≡ Ok form
parsed bytes form s = go (parse (length bytes) (tokens bytes) start) refl
  where
    go : (o : Result Form Fault) → parse (length bytes) (tokens bytes) start ≡ o → parse (length bytes) (tokens bytes) start ≡ Ok form
    go (Ok x) e = let k : Ok form ≡ Ok x = only bytes (length bytes) (Ok x) e form s in e ∙ sym k
    go (Err (why, at)) e = absurd (apart form (why, at) (Ok form) (Err (why, at)) refl refl (only bytes (length bytes) (Err (FormRefused why at)) e form s))

pub one-form : (bytes : List ℕ) (one other : Form) → Spells bytes one → Spells bytes other → one ≡ other
one-form bytes one other s t = let e : Ok one ≡ Ok other = sym (parsed bytes one s) ∙ parsed bytes other t in cc

pub unfit : (bytes : List ℕ) (form : Form) → SpellsForm bytes form → (at why : ℕ) → Fits bytes at why → ⊥
unfit bytes form s = (answer bytes (Ok form) s.small (parsed bytes form s.spelled)).1

-- ---- the stages of a form that is read

-- where rows were read to a value, none fits
pub unfit-rows : {A : Type 0} (reading : Reading A) (x : A) → reading.outcome ≡ Ok x → (code at : ℕ) → IsLeast (FitsIn reading.rows) code at → ⊥
unfit-rows reading x e code at h =
    let c = h.fits in
    none-fits reading.rows (reading.agrees ∙ ap refusal_in e) code at c.0 c.1 c.2

draft-excluded : (theory : DraftTheory) (program : DraftProgram) (agent : Agent) → DraftSpells theory program agent → (code at : ℕ) → DraftRefuses theory program code at → ⊥
draft-excluded theory program agent s code at least = s.unrefused code at least.fits

pub theory-same : (form : Form) (one other : DraftTheory) → (theory_of form).outcome ≡ Ok one → (theory_of form).outcome ≡ Ok other → one ≡ other
theory-same form one other e h = let k : Ok one ≡ Ok other = sym e ∙ h in cc

program-same : (form : Form) (theory : DraftTheory) (one other : DraftProgram) → (program_of theory form).outcome ≡ Ok one → (program_of theory form).outcome ≡ Ok other → one ≡ other
program-same form theory one other e h = let k : Ok one ≡ Ok other = sym e ∙ h in cc

form-excluded : (form : Form) (agent : Agent) → FormSpells form agent → (code at : ℕ) → FormRefuses form code at → ⊥
form-excluded form agent s _ _ (of_theory code at h) = unfit-rows (theory_of form) s.theory s.read.theory_read code at h
form-excluded form agent s _ _ (of_program code at theory e h) =
    let same = theory-same form s.theory theory s.read.theory_read e in
    unfit-rows (program_of theory form) s.program (subst (λ t. (program_of t form).outcome ≡ Ok s.program) same s.read.program_read) code at h
form-excluded form agent s _ _ (of_draft code at theory program read refuses) =
    let same = theory-same form s.theory theory s.read.theory_read read.theory_read in
    let spells = subst (λ t. DraftSpells t s.program agent) same s.draft in
    let one = program-same form theory s.program program (subst (λ t. (program_of t form).outcome ≡ Ok s.program) same s.read.program_read) read.program_read in
    draft-excluded theory program agent (subst (λ p. DraftSpells theory p agent) one spells) code at refuses

pub excluded : (bytes : List ℕ) (agent : Agent) → SpellsAgent bytes agent → (code at : ℕ) → IsFirstRefusal bytes code at → ⊥
excluded bytes agent s _ _ (of_bytes code at (inl long)) = let small = s.bytes_spell.small in absurd (omega (arith, long.0, small))
excluded bytes agent s _ _ (of_bytes code at (inr first)) = unfit bytes s.form s.bytes_spell at code first.1.fits
excluded bytes agent s _ _ (of_form code at form spelled refuses) =
    let same : s.form ≡ form = one-form bytes s.form form s.bytes_spell.spelled spelled.spelled in
    form-excluded form agent (subst (λ f. FormSpells f agent) same s.form_spells) code at refuses

-- ---- one agent

form-one : (form : Form) (one other : Agent) → FormSpells form one → FormSpells form other → one ≡ other
form-one form one other s t =
    let same = theory-same form s.theory t.theory s.read.theory_read t.read.theory_read in
    let spells = subst (λ x. DraftSpells x s.program one) same s.draft in
    let programs = program-same form t.theory s.program t.program (subst (λ x. (program_of x form).outcome ≡ Ok s.program) same s.read.program_read) t.read.program_read in
    (subst (λ p. DraftSpells t.theory p one) programs spells).is ∙ sym t.draft.is

pub one-agent : (bytes : List ℕ) (one other : Agent) → SpellsAgent bytes one → SpellsAgent bytes other → one ≡ other
one-agent bytes one other s t =
    let same : s.form ≡ t.form = one-form bytes s.form t.form s.bytes_spell.spelled t.bytes_spell.spelled in
    form-one t.form one other (subst (λ f. FormSpells f one) same s.form_spells) t.form_spells
