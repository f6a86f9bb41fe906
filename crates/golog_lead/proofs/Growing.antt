-- What is so of a journal with one more entry.
use Rattle.std.proofs.Common.{◌≡◌, ℕ, ◌<◌, Bool, true, false, not, ◌&&◌, ◌||◌, [], ◌∷◌, ◌++◌, length, Option, Some, None, refl, sym, ap, ◌∙◌, arith}
use Rattle.std.specs.Prelude.{option_and_then, slice_get}
use Rattle.std.specs.List.{list_any}
use Rattle.std.specs.Option.{option_map_or}
use Rattle.std.proofs.lemmas.Bool.{and_parts}
use Rattle.std.proofs.lemmas.Option.{slice_get_within}
use Rattle.std.proofs.lemmas.List.Elements.{Contains-append_left, Contains-push}
use Rattle.golog_base.proofs.Bools.{or-false}
use Rattle.golog_tree.specs.declared.agent.ActionItem.{ActionItem}
use Rattle.golog_tree.specs.declared.agent.Agent.{Agent}
use Rattle.golog_tree.specs.Ground.{Ground, ground_actions}
use Rattle.golog_semantics.specs.declared.journal.Answer.{Answer}
use Rattle.golog_semantics.specs.declared.journal.Entry.{Entry}
use Rattle.golog_semantics.specs.declared.journal.Entry.TheVariants.{Do, Test, Exo, Sense, Rest, Close, End}
use Rattle.golog_semantics.specs.Journal.{Journal, action_item, commands, has_end, is_end}
use Rattle.golog_semantics.specs.OneMore.{and_then}
use Rattle.golog_semantics.specs.Online.{is_result}
use Rattle.golog_semantics.specs.Reports.{fits_entry, is_device, is_exogenous, is_value}
use Rattle.golog_semantics.specs.Ways.{is_empty}
use Rattle.golog_semantics.proofs.Grown.{entries_grow}
use Rattle.golog_progress.specs.Entries.{EntriesFit, EntryFits}
use Rattle.golog_journal.specs.Boards.{IsBoardList}
use Rattle.golog_journal.proofs.Lawful.{lawful-last, lawful-parts}
use Rattle.golog_lead.specs.Keeping.{EndsBy, ended_by}

-- before any entry
pub first-rules : (agent : Agent) → IsBoardList agent []
first-rules agent = record { lawful = refl; room = omega arith }

module _ (agent : Agent) (journal : Journal) where
  -- ---- an entry of the agent

  within : (test : ActionItem → Bool) (action : ℕ) → option_map_or test (action_item agent action) false ≡ true → action < length (ground_actions agent)
  within test action h = go (slice_get (ground_actions agent) action) refl
    where
      go : (o : Option Ground) → slice_get (ground_actions agent) action ≡ o → action < length (ground_actions agent)
      go (Some at) e = slice_get_within (ground_actions agent) action at e
      go None e = absurd (let k = sym (ap (λ o. option_map_or test (option_and_then (λ (at : Ground). slice_get agent.actions at.0) o) false) e) ∙ h in cc)

  entry-of-agent : (e : Entry) → fits_entry agent journal e ≡ true → EntryFits agent e
  entry-of-agent (Do action) h = within (λ (item : ActionItem). is_empty item.posters) action h
  entry-of-agent (Exo p action) h = within (λ (item : ActionItem). not (is_empty item.posters)) action (and_parts (is_device agent p) (is_exogenous agent action) h).1
  entry-of-agent (Sense p at f v) h =
      (and_parts (is_device agent p) (is_value agent f v) (and_parts (is_device agent p && is_value agent f v) (list_any (is_result agent journal at f) (commands agent p journal)) h).0).1
  entry-of-agent Test h = tt
  entry-of-agent (Rest p t) h = tt
  entry-of-agent (Close p r t) h = tt
  entry-of-agent (End a) h = tt

  pub next-fits : (e : Entry) → IsBoardList agent (journal ++ e ∷ []) → EntriesFit agent (e ∷ [])
  next-fits e lawful = (entry-of-agent e (lawful-parts agent journal e (lawful-last agent journal e lawful)).of_agent, tt)

  -- ---- the end

  others : (ended : Option Answer) (e : Entry) → is_end e ≡ false → EndsBy journal ended → EndsBy (and_then journal e) ended
  others None e none h = (entries_grow journal e).end ∙ ap (λ b. has_end journal || b) none ∙ or-false (has_end journal) ∙ h
  others (Some a) e none h = Contains-append_left journal (e ∷ []) (End a) h

  pub ends-after : (ended : Option Answer) (e : Entry) → EndsBy journal ended → EndsBy (and_then journal e) (ended_by ended e)
  ends-after ended (End a) h = Contains-push journal (End a)
  ends-after ended (Do a) h = others ended (Do a) refl h
  ends-after ended Test h = others ended Test refl h
  ends-after ended (Exo p a) h = others ended (Exo p a) refl h
  ends-after ended (Sense p at f v) h = others ended (Sense p at f v) refl h
  ends-after ended (Rest p t) h = others ended (Rest p t) refl h
  ends-after ended (Close p r t) h = others ended (Close p r t) refl h
