-- What a theory declares has the signature of the theory.
use Rattle.std.proofs.Common.{◌≡◌, ℕ, List, [], ◌∷◌, length, map, refl, ap, ◌∙◌}
use Rattle.std.proofs.lemmas.List.{length-map}
use Rattle.golog_tree.specs.declared.agent.FluentItem.{FluentItem}
use Rattle.golog_tree.specs.declared.draft.DraftTheory.{DraftTheory}
use Rattle.golog_tree.specs.declared.draft.DraftFluent.{DraftFluent}
use Rattle.golog_tree.specs.declared.draft.DraftProc.{DraftProc}
use Rattle.golog_draft.specs.Drafts.{Signature, signature}
use Rattle.golog_check.specs.CheckLaws.{signature_of}
use Rattle.golog_check.specs.DeclaredItems.{sort_item, fluent_item, declared_by}

same-arities : (items : List DraftFluent) → map (λ (i : FluentItem). length i.args) (map fluent_item items) ≡ map (λ (i : DraftFluent). length i.args) items
same-arities [] = refl
same-arities (item ∷ items) = ap (λ arities. length item.args ∷ arities) (same-arities items)

abbrev of_parts : ℕ → List ℕ → Signature
of_parts sorts arities = record { sorts = sorts; arities = arities }

pub declared-signature : (theory : DraftTheory) (procs : List DraftProc) → signature_of (declared_by theory procs) ≡ signature theory
declared-signature theory procs =
    ap (λ n. of_parts n (map (λ (i : FluentItem). length i.args) (map fluent_item theory.fluents))) (length-map theory.sorts sort_item)
    ∙ ap (of_parts (length theory.sorts)) (same-arities theory.fluents)
