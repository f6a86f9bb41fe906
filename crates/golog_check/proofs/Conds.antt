-- Conditions that are read one after another, one draft further.
use Rattle.std.proofs.Common.{◌≡◌, ℕ, ◌+◌, ◌<◌, List, [], ◌∷◌, ◌++◌, length, get_or, map, drop, ap, sym, ◌∙◌}
use Rattle.golog_tree.specs.declared.cond.Cond.{Cond}
use Rattle.golog_tree.specs.declared.draft_cond.DraftCond.{DraftCond}
use Rattle.golog_tree.specs.declared.draft_cond.DraftCond.TheVariants as draft
use Rattle.golog_tree.specs.declared.draft_cond.DraftCond.TheOpen.{And, Or}
use Rattle.golog_tree.specs.declared.draft_cond.DraftCond.TheFolds.{fold-roll-DraftCond}
use Rattle.golog_rows.specs.Reading.{◌>>=◌, each}
use Rattle.golog_check.specs.DeclaredItems.{Declared}
use Rattle.golog_check.specs.Scope.{Scope}
use Rattle.golog_check.specs.Conditions.{InScope, cond_step, cond_in}
use Rattle.golog_rows.proofs.Each.{drop-item}

pub conds-drop : (names : Declared) (scope : Scope) (done : List Cond) (drafts : List DraftCond) (i : ℕ) (c : DraftCond) → i < length drafts → c ≡ get_or drafts i c
    → each (λ (_ : List Cond) (cond : InScope). cond scope) done (map (cond_in names) (drop i drafts))
    ≡ (cond_in names c scope >>= λ x. each (λ (_ : List Cond) (cond : InScope). cond scope) (done ++ x ∷ []) (map (cond_in names) (drop (i + 1) drafts)))
conds-drop names scope done drafts i c lt is =
    ap (λ cs. each (λ (_ : List Cond) (cond : InScope). cond scope) done (map (cond_in names) cs)) (drop-item drafts i c lt is)

pub cond_in-And : (names : Declared) (cs : List DraftCond) (at : ℕ) (scope : Scope) → cond_in names (draft.And cs at) scope ≡ cond_step names (And (map (cond_in names) cs) at) scope
cond_in-And names cs at scope =
    ap (λ c. cond_in names c scope) (sym (draft.rolls-And cs at))
    ∙ ap (λ f. f scope) (fold-roll-DraftCond InScope (cond_step names) (And cs at))

pub cond_in-Or : (names : Declared) (cs : List DraftCond) (at : ℕ) (scope : Scope) → cond_in names (draft.Or cs at) scope ≡ cond_step names (Or (map (cond_in names) cs) at) scope
cond_in-Or names cs at scope =
    ap (λ c. cond_in names c scope) (sym (draft.rolls-Or cs at))
    ∙ ap (λ f. f scope) (fold-roll-DraftCond InScope (cond_step names) (Or cs at))

pub ruleset laws = (conds-drop, cond_in-And, cond_in-Or)
