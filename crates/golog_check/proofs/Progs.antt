-- Programs that are read one after another, one draft further.
use Rattle.std.proofs.Common.{◌≡◌, ℕ, ◌+◌, ◌<◌, List, [], ◌∷◌, ◌++◌, length, get_or, map, drop, ap, sym, ◌∙◌}
use Rattle.golog_tree.specs.declared.prog.Prog.{Prog}
use Rattle.golog_tree.specs.declared.draft_prog.DraftProg.{DraftProg}
use Rattle.golog_tree.specs.declared.draft_prog.DraftProg.TheVariants as draft
use Rattle.golog_tree.specs.declared.draft_prog.DraftProg.TheOpen.{Seq, Choice, Conc, Prio}
use Rattle.golog_tree.specs.declared.draft_prog.DraftProg.TheFolds.{fold-roll-DraftProg}
use Rattle.golog_rows.specs.Reading.{◌>>=◌, each}
use Rattle.golog_check.specs.DeclaredItems.{Declared}
use Rattle.golog_check.specs.Scope.{Scope}
use Rattle.golog_check.specs.Programs.{InScope, prog_step, prog_in}
use Rattle.golog_rows.proofs.Each.{drop-item}

pub progs-drop : (names : Declared) (scope : Scope) (done : List Prog) (drafts : List DraftProg) (i : ℕ) (p : DraftProg) → i < length drafts → p ≡ get_or drafts i p
    → each (λ (_ : List Prog) (part : InScope). part scope) done (map (prog_in names) (drop i drafts))
    ≡ (prog_in names p scope >>= λ x. each (λ (_ : List Prog) (part : InScope). part scope) (done ++ x ∷ []) (map (prog_in names) (drop (i + 1) drafts)))
progs-drop names scope done drafts i p lt is =
    ap (λ ps. each (λ (_ : List Prog) (part : InScope). part scope) done (map (prog_in names) ps)) (drop-item drafts i p lt is)

module _ (names : Declared) (ps : List DraftProg) (at : ℕ) (scope : Scope) where
  pub prog_in-Seq : prog_in names (draft.Seq ps at) scope ≡ prog_step names (Seq (map (prog_in names) ps) at) scope
  prog_in-Seq = ap (λ p. prog_in names p scope) (sym (draft.rolls-Seq ps at)) ∙ ap (λ f. f scope) (fold-roll-DraftProg InScope (prog_step names) (Seq ps at))

  pub prog_in-Choice : prog_in names (draft.Choice ps at) scope ≡ prog_step names (Choice (map (prog_in names) ps) at) scope
  prog_in-Choice = ap (λ p. prog_in names p scope) (sym (draft.rolls-Choice ps at)) ∙ ap (λ f. f scope) (fold-roll-DraftProg InScope (prog_step names) (Choice ps at))

  pub prog_in-Conc : prog_in names (draft.Conc ps at) scope ≡ prog_step names (Conc (map (prog_in names) ps) at) scope
  prog_in-Conc = ap (λ p. prog_in names p scope) (sym (draft.rolls-Conc ps at)) ∙ ap (λ f. f scope) (fold-roll-DraftProg InScope (prog_step names) (Conc ps at))

  pub prog_in-Prio : prog_in names (draft.Prio ps at) scope ≡ prog_step names (Prio (map (prog_in names) ps) at) scope
  prog_in-Prio = ap (λ p. prog_in names p scope) (sym (draft.rolls-Prio ps at)) ∙ ap (λ f. f scope) (fold-roll-DraftProg InScope (prog_step names) (Prio ps at))

pub ruleset laws = (progs-drop, prog_in-Seq, prog_in-Choice, prog_in-Conc, prog_in-Prio)
