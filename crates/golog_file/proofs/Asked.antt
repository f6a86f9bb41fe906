-- A condition that was read over the theory of a file keeps the rules over the agent of the file.
use Rattle.std.proofs.Common.{◌≡◌, subst}
use Rattle.golog_file.proofs.Signatures.{stays-kept}
use Rattle.golog_file.specs.Laws.{ReadConditionsStayKept}
use Rattle.golog_file.specs.Spelled.{DraftSpells, FormSpells}
use Rattle.golog_file.proofs.Excluded.{one-form, theory-same}

pub asked : ReadConditionsStayKept
asked bytes agent s form spelled theory read cond kept =
    let same : s.form ≡ form = one-form bytes s.form form s.bytes_spell.spelled spelled in
    let t : FormSpells form agent = subst (λ f. FormSpells f agent) same s.form_spells in
    let one : t.theory ≡ theory = theory-same form t.theory theory t.read.theory_read read in
    let draft : DraftSpells theory t.program agent = subst (λ x. DraftSpells x t.program agent) one t.draft in
    stays-kept theory t.program agent draft.is cond kept
