-- Folds of conditions, terms and programs, a layer at a time.
use Rattle.std.proofs.Common.{◌≡◌, ℕ, Bool, false, Option}
use Rattle.golog_tree.specs.declared.agent.Agent.{Agent}
use Rattle.golog_tree.specs.declared.cond.Cond.{Cond}
use Rattle.golog_tree.specs.declared.cond.Term.{Term}
use Rattle.golog_tree.specs.declared.cond.Cond.TheOpen.{Cond-F, Term-F}
use Rattle.golog_tree.specs.declared.cond.Cond.TheViews.{roll-Cond, roll-Term}
use Rattle.golog_tree.specs.declared.cond.Cond.TheFolds.{fold-Term, fold-roll-Cond, fold-roll-Term, map-Cond, map-Term}
use Rattle.golog_tree.specs.declared.prog.Prog.{Prog}
use Rattle.golog_tree.specs.declared.prog.Way.{Way}
use Rattle.golog_tree.specs.declared.prog.Prog.TheOpen.{Prog-F}
use Rattle.golog_tree.specs.declared.prog.Prog.TheViews.{roll-Prog}
use Rattle.golog_tree.specs.declared.prog.Prog.TheFolds.{fold-Way, fold-roll-Prog, map-Prog}
use Rattle.golog_tree.specs.declared.draft_cond.DraftTerm.{DraftTerm}
use Rattle.golog_tree.specs.declared.draft_cond.DraftTerm.TheOpen.{DraftTerm-F}
use Rattle.golog_tree.specs.declared.draft_cond.DraftTerm.TheViews.{roll-DraftTerm}
use Rattle.golog_tree.specs.declared.draft_cond.DraftTerm.TheFolds.{fold-roll-DraftTerm, map-DraftTerm}
use Rattle.golog_tree.specs.declared.draft_cond.DraftCond.{DraftCond}
use Rattle.golog_tree.specs.declared.draft_cond.DraftCond.TheOpen.{DraftCond-F}
use Rattle.golog_tree.specs.declared.draft_cond.DraftCond.TheViews.{roll-DraftCond}
use Rattle.golog_tree.specs.declared.draft_cond.DraftCond.TheFolds.{fold-roll-DraftCond, map-DraftCond}
use Rattle.golog_tree.specs.declared.draft_prog.DraftProg.{DraftProg}
use Rattle.golog_tree.specs.declared.draft_prog.DraftProg.TheOpen.{DraftProg-F}
use Rattle.golog_tree.specs.declared.draft_prog.DraftProg.TheViews.{roll-DraftProg}
use Rattle.golog_tree.specs.declared.draft_prog.DraftProg.TheFolds.{fold-roll-DraftProg, map-DraftProg}
use Rattle.golog_rows.specs.Reading.{Reading}
use Rattle.golog_semantics.specs.Fits as fits
use Rattle.golog_semantics.specs.Fits.{cond_fits, term_fits}
use Rattle.golog_semantics.specs.ProgFits as placed
use Rattle.golog_semantics.specs.ProgFits.{Position, prog_fits}
use Rattle.golog_semantics.specs.Written.{Wording, written_cond_step, written_term_step, is_written_cond, written_prog_step, is_written_prog}
use Rattle.golog_draft.specs.Drafts.{Signature, term_keeps_step, term_keeps, cond_keeps_step, cond_keeps}
use Rattle.golog_check.specs.DeclaredItems.{Declared}
use Rattle.golog_check.specs.Scope.{Scope}
use Rattle.golog_check.specs.Terms.{sort_step, term_sort, as_step, term_as}
use Rattle.golog_check.specs.Conditions as conditions
use Rattle.golog_check.specs.Conditions.{cond_step, cond_in}
use Rattle.golog_check.specs.Programs as programs
use Rattle.golog_check.specs.Programs.{prog_step, prog_in}

-- what is written of a term
abbrev pub wording : Agent → Term → Wording
wording agent = fold-Term (ℕ → Bool) Wording (written_cond_step agent) (written_term_step agent)

module _ (agent : Agent) where
  pub fits-term : (l : Term-F Cond Term) → term_fits agent (roll-Term l) ≡ fits.term_step agent (map-Term Cond Term (fits.Scope → Bool) (fits.Scope → ℕ → Bool) (cond_fits agent) (term_fits agent) l)
  fits-term l = fold-roll-Term (fits.Scope → Bool) (fits.Scope → ℕ → Bool) (fits.cond_step agent) (fits.term_step agent) l

  pub fits-cond : (l : Cond-F Cond Term) → cond_fits agent (roll-Cond l) ≡ fits.cond_step agent (map-Cond Cond Term (fits.Scope → Bool) (fits.Scope → ℕ → Bool) (cond_fits agent) (term_fits agent) l)
  fits-cond l = fold-roll-Cond (fits.Scope → Bool) (fits.Scope → ℕ → Bool) (fits.cond_step agent) (fits.term_step agent) l

  pub written-term : (l : Term-F Cond Term) → wording agent (roll-Term l) ≡ written_term_step agent (map-Term Cond Term (ℕ → Bool) Wording (is_written_cond agent) (wording agent) l)
  written-term l = fold-roll-Term (ℕ → Bool) Wording (written_cond_step agent) (written_term_step agent) l

  pub written-cond : (l : Cond-F Cond Term) → is_written_cond agent (roll-Cond l) ≡ written_cond_step agent (map-Cond Cond Term (ℕ → Bool) Wording (is_written_cond agent) (wording agent) l)
  written-cond l = fold-roll-Cond (ℕ → Bool) Wording (written_cond_step agent) (written_term_step agent) l

  abbrev pub way_fits : Way → Position → Bool
  way_fits = fold-Way (Position → Bool) (Position → Bool) (placed.prog_step agent) (placed.way_step agent)

  abbrev pub way_written : Way → Bool
  way_written = fold-Way (ℕ → Bool) Bool (written_prog_step agent) (λ w. false)

  pub fits-prog : (l : Prog-F Prog Way) → prog_fits agent (roll-Prog l) ≡ placed.prog_step agent (map-Prog Prog Way (Position → Bool) (Position → Bool) (prog_fits agent) way_fits l)
  fits-prog l = fold-roll-Prog (Position → Bool) (Position → Bool) (placed.prog_step agent) (placed.way_step agent) l

  pub written-prog : (l : Prog-F Prog Way) → is_written_prog agent (roll-Prog l) ≡ written_prog_step agent (map-Prog Prog Way (ℕ → Bool) Bool (is_written_prog agent) way_written l)
  written-prog l = fold-roll-Prog (ℕ → Bool) Bool (written_prog_step agent) (λ w. false) l

module _ (declared : Signature) where
  pub keeps-term : (l : DraftTerm-F DraftTerm) → term_keeps declared (roll-DraftTerm l) ≡ term_keeps_step declared (map-DraftTerm DraftTerm Bool (term_keeps declared) l)
  keeps-term l = fold-roll-DraftTerm Bool (term_keeps_step declared) l

  pub keeps-cond : (l : DraftCond-F DraftCond) → cond_keeps declared (roll-DraftCond l) ≡ cond_keeps_step declared (map-DraftCond DraftCond (ℕ → Bool) (cond_keeps declared) l)
  keeps-cond l = fold-roll-DraftCond (ℕ → Bool) (cond_keeps_step declared) l

module _ (names : Declared) where
  pub sort-term : (scope : Scope) (l : DraftTerm-F DraftTerm) → term_sort names scope (roll-DraftTerm l) ≡ sort_step names scope (map-DraftTerm DraftTerm (Option ℕ) (term_sort names scope) l)
  sort-term scope l = fold-roll-DraftTerm (Option ℕ) (sort_step names scope) l

  pub as-term : (scope : Scope) (l : DraftTerm-F DraftTerm) → term_as names scope (roll-DraftTerm l) ≡ as_step names scope (map-DraftTerm DraftTerm (ℕ → Reading Term) (term_as names scope) l)
  as-term scope l = fold-roll-DraftTerm (ℕ → Reading Term) (as_step names scope) l

  pub in-cond : (l : DraftCond-F DraftCond) → cond_in names (roll-DraftCond l) ≡ cond_step names (map-DraftCond DraftCond conditions.InScope (cond_in names) l)
  in-cond l = fold-roll-DraftCond conditions.InScope (cond_step names) l

  pub in-prog : (l : DraftProg-F DraftProg) → prog_in names (roll-DraftProg l) ≡ prog_step names (map-DraftProg DraftProg programs.InScope (prog_in names) l)
  in-prog l = fold-roll-DraftProg programs.InScope (prog_step names) l
