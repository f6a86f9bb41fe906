-- Laws of the program's turn: when it waits, and that it adds to the list and takes nothing away.
use Rattle.std.specs.Prelude.{◌≡◌, Bool, true, false, not, ◌&&◌, ◌||◌, if◌then◌else◌, IsTrue, Option, Some, None, List, [], ◌∷◌, ◌++◌, is_none, refl}
use Rattle.std.specs.Option.{option_map_or}
use Rattle.std.proofs.Common.{append-nil, sym}
use Rattle.golog_tree.specs.declared.agent.Agent.{Agent}
use Rattle.golog_semantics.specs.declared.Mode.TheVariants.{Must}
use Rattle.golog_semantics.specs.declared.search.Move.{Move}
use Rattle.golog_semantics.specs.declared.journal.Entry.TheVariants.{End}
use Rattle.golog_semantics.specs.declared.journal.Answer.{Answer}
use Rattle.golog_semantics.specs.Blocks.{moves}
use Rattle.golog_semantics.specs.Journal.{Journal, has_end, is_quiet, is_settled}
use Rattle.golog_semantics.specs.Progress.{values_after, left_after}
use Rattle.golog_semantics.specs.Answer.{answer_after}
use Rattle.golog_semantics.specs.Online.{may_step}
use Rattle.golog_semantics.specs.Inline.{entry_for, lead, step_by}
use Rattle.golog_lead.specs.Rounds.{Adds}
use Rattle.golog_lead.specs.Waiting.{takes_no_step, waits}

-- where each device is closed or at rest, the program does not wait
awake : (quiet none stuck : Bool) → quiet ≡ true → (not quiet && none && stuck) ≡ false
awake true none stuck e = refl
awake false none stuck e = cc

pub quiet_goes_on : (agent : Agent) (journal : Journal) → IsTrue (is_quiet agent journal)
    → waits agent journal ≡ false
unfolding waits
quiet_goes_on agent journal quiet =
    awake (is_quiet agent journal) (is_none (answer_after agent journal))
    (not (is_settled agent journal) || takes_no_step agent journal) quiet

-- ---- it adds to the list

adds-none : (journal : Journal) → Adds journal journal
adds-none journal = ([], sym (append-nil journal))

either-adds : (journal : Journal) (b : Bool) (x y : Journal) → Adds journal x → Adds journal y
    → Adds journal (if b then x else y)
either-adds journal true x y f g = f
either-adds journal false x y f g = g

ended-adds : (journal : Journal) (o : Option Answer) (x : Journal) → Adds journal x
    → Adds journal (option_map_or (λ a. journal ++ End a ∷ []) o x)
ended-adds journal None x f = f
ended-adds journal (Some a) x f = (End a ∷ [], refl)

chosen : (b : Bool) (x y : Journal) → b ≡ true → (if b then x else y) ≡ x
chosen true x y h = refl
chosen false x y h = absurd (cc)

module _ (agent : Agent) (journal : Journal) where
  step_by-adds : (ms : List Move) → Adds journal (step_by agent journal ms)
  step_by-adds [] = adds-none journal
  step_by-adds (m ∷ ms) =
      either-adds journal (may_step agent journal (values_after agent journal) (left_after agent journal) m.label)
      (journal ++ entry_for m.label ∷ []) journal (_, refl) (adds-none journal)

  pub lead_adds : Adds journal (lead agent journal)
  lead_adds =
      let steps = moves agent (values_after agent journal) Must (left_after agent journal) in
      let stepped = step_by agent journal steps in
      either-adds journal (has_end journal) journal
      (option_map_or (λ a. journal ++ End a ∷ []) (answer_after agent journal) stepped) (adds-none journal)
      (ended-adds journal (answer_after agent journal) stepped (step_by-adds steps))

  -- and nothing behind the end
  pub lead_stays : has_end journal ≡ true → lead agent journal ≡ journal
  lead_stays h = chosen (has_end journal) journal _ h
