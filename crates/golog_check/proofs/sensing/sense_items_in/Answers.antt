use Rattle.std.proofs.Common.{◌≡◌, ◌+◌, Bool, [], ◌∷◌, ◌++◌, List, take, refl, sym, ap, ◌∙◌, subst}
use Rattle.std.proofs.lemmas.List.{take_more}
use Rattle.golog_tree.specs.declared.draft.DraftSense.{DraftSense}
use Rattle.golog_tree.specs.declared.agent.SenseItem.{SenseItem}
use Rattle.golog_rows.specs.Reading.{Reading}
use Rattle.golog_check.specs.Faults.{Answers}
use Rattle.golog_check.specs.Checked.{IsChecked}
use Rattle.golog_check.specs.Effects.{is_sensed, sense_by, senses_in}
use Rattle.golog_check.specs.Sensed.{TellsSensed}
use Rattle.golog_check.proofs.SensingLaws.{senses-more}
use Rattle.golog_check.proofs.sensing.sense_items_in.Goals as goal

pub loop-item-preserved : goal.loop-item-preserved
loop-item-preserved c =
    let items = c.args.items.now in
    let i = c.loop-item.item-index in
    let item = c.item-item.result in
    let names = c.args.names.now in
    let more : take (i + 1) items ≡ take i items ++ item ∷ [] = take_more items i item c.loop-item-test.true ∙ ap (λ (x : DraftSense). take i items ++ x ∷ []) (sym c.item-item.is) in
    let known : TellsSensed c.deref.result.now (take i items) = subst (λ (s : List Bool). TellsSensed s (take i items)) (sym c.deref.ensures.value) c.loop-item.invariant.sensed in
    let again : c.is_sensed-again.result ≡ is_sensed (take i items) item.action = c.is_sensed-again.ensures (take i items) known in
    let said : Answers c.sense_by.result (sense_by names (is_sensed (take i items) item.action) item) = subst (λ (b : Bool). Answers c.sense_by.result (sense_by names b item)) again c.sense_by.ensures in
    record {
      checked = subst (λ (rs : List (Reading SenseItem)). IsChecked c.add.new.self rs)
          (sym (ap (senses_in names []) more ∙ senses-more names [] (take i items) item))
          (c.in_ok-add.ensures _ _ said c.loop-item.invariant.checked);
      sensed = subst (λ (xs : List DraftSense). TellsSensed c.note.new.sensed.items xs) (sym more)
          (c.note.ensures.noted (take i items) item refl c.loop-item.invariant.sensed);
      all = c.note.ensures.all ∙ c.loop-item.invariant.all;
    }
