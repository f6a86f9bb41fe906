use Rattle.std.proofs.Common.{◌≤◌, [], ◌∷◌, ◌++◌, length, sym, ap, ◌∙◌, subst}
use Rattle.golog_semantics.specs.InlineText.{placed_run, run_after}
use Rattle.golog_semantics.specs.Journal.{Journal, longest}
use Rattle.golog_lead.proofs.BegunRuns.{begun-push, run-room}
use Rattle.golog_lead.proofs.kept.KeptRecord.keep.Goals as goal

pub returns-clause-stands : goal.returns-clause-stands
returns-clause-stands g c =
    let agent = (g.C.UnderWay.course c.args.core.now).agent in
    let list = (g.C.UnderWay.course c.args.core.now).list in
    let e = c.args.entry in
    let run = c.args.run in
    let was = c.args.self.now in
    λ kept. record {
      entries_so =
          c.keep.ensures (subst (λ (j : Journal). length j ≤ longest) (sym kept.entries_so) c.len.ensures.most)
          ∙ ap (λ entries. entries ++ e ∷ []) kept.entries_so;
      runs_so =
          c.keep-2.ensures (run-room agent list e was.runs run kept.runs_so c.requires.room c.requires.run)
          ∙ ap (λ place. was.runs ++ placed_run place run) c.len.ensures.number
          ∙ ap (λ o. was.runs ++ placed_run (length list) o) c.requires.run
          ∙ ap (λ runs. runs ++ run_after agent list e) kept.runs_so
          ∙ sym (begun-push agent list e);
    }
