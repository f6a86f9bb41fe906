use Rattle.std.proofs.Common.{◌≡◌, List, [], ◌∷◌, map, subst}
use Rattle.std.specs.Prelude.{Result, Ok, IfOk}
use Rattle.golog_tree.specs.declared.agent.SortItem.{SortItem}
use Rattle.golog_tree.specs.declared.draft.DraftFluent.{DraftFluent}
use Rattle.golog_tree.specs.declared.draft.DraftAction.{DraftAction}
use Rattle.golog_tree.specs.declared.draft.DraftStart.{DraftStart}
use Rattle.golog_tree.specs.declared.draft.DraftPoss.{DraftPoss}
use Rattle.golog_tree.specs.declared.draft.DraftProc.{DraftProc}
use Rattle.golog_check.specs.Procs.{proc_in}
use Rattle.golog_check.specs.Check.{main_in}
use Rattle.golog_shapes.specs.Unguarded.{all_front_refusals}
use Rattle.golog_shapes.specs.DraftBlocks.{all_block_refusals}
use Rattle.golog_rows.specs.Least.{IsLeastOf}
use Rattle.golog_check.specs.Least.{refusals}
use Rattle.golog_check.specs.Checked.{IsChecked}
use Rattle.golog_check.specs.Sums.{sum_from, fluent_counted, action_counted}
use Rattle.golog_check.specs.Starts.{start_in}
use Rattle.golog_check.specs.Effects.{poss_in, cause_in, senses_in}
use Rattle.golog_check.proofs.PartLaws.{sum-least}
use Rattle.golog_check.proofs.checking.parts_of.Goals as goal

-- what is known of a value that was given
of-ok : {A E : Type 0} (result : Result A E) (value : A) (P : A → Type 0) → result ≡ Ok value → IfOk result P → P value
of-ok result value P e p = subst (λ r. IfOk r P) e p

pub returns : goal.returns
returns c =
    let theory = c.args.theory.now in
    let program = c.args.program.now in
    let names = c.args.names.now in
    let fluents = sum-least c.sum_passes-fluent_sum.result
    (sum_from c.args.sorts.now 4096 0 (map fluent_counted c.as_slice.result.now)) c.sum_passes-fluent_sum.ensures in
    let actions = sum-least c.sum_passes-action_sum.result
    (sum_from c.args.sorts.now 65536 0 (map action_counted c.as_slice-2.result.now)) c.sum_passes-action_sum.ensures in
    let items = c.in_ok-items.items in
    let states = of-ok c.both-states.result items.0
    (λ pair. (c.starts_in-starts.result ≡ Ok pair.0) × (c.poss_items_in-poss.result ≡ Ok pair.1))
    c.in_ok-items.ensures.parts.0 c.both-states.ensures.parts in
    let later = of-ok c.both-later.result items.1
    (λ pair. (c.effects_checked-effects.result ≡ Ok pair.0) × (c.programs_checked-programs.result ≡ Ok pair.1))
    c.in_ok-items.ensures.parts.1 c.both-later.ensures.parts in
    let effects = of-ok c.effects_checked-effects.result items.1.0
    (λ checked. (IsChecked checked.0 (map (cause_in names) theory.causes)) × (IsChecked checked.1 (senses_in names [] theory.senses)))
    later.0 c.effects_checked-effects.ensures in
    let programs = of-ok c.programs_checked-programs.result items.1.1
    (λ checked. (IsChecked checked.0 (map (proc_in names) program.procs)) × (IsChecked checked.1 (main_in names program.main ∷ [])))
    later.1 c.programs_checked-programs.ensures in
    record {
      fluent_sum = subst (λ (sorts : List SortItem). IsLeastOf c.sum_passes-fluent_sum.result (refusals (sum_from sorts 4096 0 (map fluent_counted theory.fluents) ∷ [])))
          c.requires.sorts
          (subst (λ (items : List DraftFluent). IsLeastOf c.sum_passes-fluent_sum.result (refusals (sum_from c.args.sorts.now 4096 0 (map fluent_counted items) ∷ [])))
          c.as_slice.ensures fluents);
      action_sum = subst (λ (sorts : List SortItem). IsLeastOf c.sum_passes-action_sum.result (refusals (sum_from sorts 65536 0 (map action_counted theory.actions) ∷ [])))
          c.requires.sorts
          (subst (λ (items : List DraftAction). IsLeastOf c.sum_passes-action_sum.result (refusals (sum_from c.args.sorts.now 65536 0 (map action_counted items) ∷ [])))
          c.as_slice-2.ensures actions);
      starts = subst (λ (items : List DraftStart). IsChecked c.in_ok-items.items.0.0 (map (start_in names) items))
          c.as_slice-5.ensures
          (of-ok c.starts_in-starts.result c.in_ok-items.items.0.0
          (λ checked. IsChecked checked (map (start_in names) c.as_slice-5.result.now))
          states.0 c.starts_in-starts.ensures);
      poss = subst (λ (items : List DraftPoss). IsChecked c.in_ok-items.items.0.1 (map (poss_in names) items))
          c.as_slice-6.ensures
          (of-ok c.poss_items_in-poss.result c.in_ok-items.items.0.1
          (λ checked. IsChecked checked (map (poss_in names) c.as_slice-6.result.now))
          states.1 c.poss_items_in-poss.ensures);
      causes = effects.0;
      senses = effects.1;
      procs = programs.0;
      fronts = subst (λ (items : List DraftProc). IsLeastOf c.in_ok-fronts.fronts (all_front_refusals items)) c.as_slice-3.ensures c.in_ok-fronts.ensures;
      blocks = subst (λ (items : List DraftProc). IsLeastOf c.in_ok-blocks.blocks (all_block_refusals items program.main.body)) c.as_slice-4.ensures c.in_ok-blocks.ensures;
      main = programs.1;
    }
