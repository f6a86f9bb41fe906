-- Conditions one after another, each behind a space.
use Rattle.std.proofs.Common.{◌≡◌, ℕ, ◌≤◌, List, [], ◌∷◌, ◌++◌, length, map, take, sym, ap, ◌∙◌}
use Rattle.std.specs.Prelude.{codes}
use Rattle.std.specs.List.{flat_map}
use Rattle.std.proofs.lemmas.List.{append_assoc, take_all}
use Rattle.std.proofs.lemmas.List.Folds.{flat_map-map}
use Rattle.golog_tree.specs.declared.agent.Agent.{Agent}
use Rattle.golog_tree.specs.declared.cond.Cond.{Cond}
use Rattle.golog_semantics.specs.Text.{Text}
use Rattle.golog_print.specs.Printing.{in_list, cond_text}

abbrev pub spaced_cond : Agent → Text → Cond → Text
spaced_cond agent stem cond = 32 ∷ cond_text agent stem cond

-- what was written of a list of conditions is its text, once it is closed
pub closed-list : (agent : Agent) (stem : Text) (conds : List Cond) (old word opened text : Text) (i : ℕ)
    → opened ≡ old ++ codes "(" ++ word → text ≡ opened ++ flat_map (spaced_cond agent stem) (take i conds) → length conds ≤ i
    → text ++ 41 ∷ [] ≡ old ++ in_list (word ∷ map (cond_text agent stem) conds)
closed-list agent stem conds old word opened text i is e all =
    let written = flat_map (spaced_cond agent stem) conds in
    let whole : text ≡ (old ++ 40 ∷ word) ++ written =
    e ∙ ap (λ (cs : List Cond). opened ++ flat_map (spaced_cond agent stem) cs) (take_all i conds all) ∙ ap (λ (o : Text). o ++ written) (is ∙ append_assoc old (codes "(") word) in
    ap (λ (t : Text). t ++ 41 ∷ []) whole
    ∙ append_assoc (old ++ 40 ∷ word) written (41 ∷ [])
    ∙ append_assoc old (40 ∷ word) (written ++ 41 ∷ [])
    ∙ ap (λ (x : Text). old ++ 40 ∷ x)
    (sym (append_assoc word written (41 ∷ [])) ∙ ap (λ (x : Text). (word ++ x) ++ 41 ∷ []) (sym (flat_map-map (λ (t : Text). 32 ∷ t) (cond_text agent stem) conds)))
