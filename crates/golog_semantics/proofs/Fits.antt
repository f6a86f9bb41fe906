-- What it says that an entry fits an agent: its things exist, and its result is of an earlier command.
use Rattle.std.proofs.Common.{◌≡◌, ℕ, suc, ◌+◌, ◌<◌, Bool, true, false, ◌==◌, if◌then◌else◌, List, [], ◌∷◌, length, refl, sym, ap, ◌∙◌, Some, None, Option, arith, add-zero}
use Rattle.std.specs.Prelude.{⊤, slice_get, option_and_then, filter_map}
use Rattle.std.specs.List.{list_any, list_all, enumerate_from, cons_option}
use Rattle.std.specs.Option.{option_map_or}
use Rattle.std.proofs.lemmas.Bool.{eqb-true}
use Rattle.golog_tree.specs.declared.agent.Agent.{Agent}
use Rattle.golog_tree.specs.declared.agent.ActionItem.{ActionItem}
use Rattle.golog_tree.specs.declared.prog.Label.{Label}
use Rattle.golog_tree.specs.declared.prog.Label.TheVariants.{Quiet, Do as Doing}
use Rattle.golog_tree.specs.Ground.{Ground, ground_actions}
use Rattle.golog_semantics.specs.declared.journal.Entry.{Entry}
use Rattle.golog_semantics.specs.declared.journal.Entry.TheVariants.{Do}
use Rattle.golog_semantics.specs.Journal.{Journal, action_item, fluent_sensed, is_carried_by, command_at, commands}
use Rattle.golog_semantics.specs.Online.{is_result}
use Rattle.golog_semantics.specs.Reports.{fits_label}
use Rattle.golog_semantics.proofs.Words.{and-left, and-right}
use Rattle.golog_semantics.proofs.ActionNames.{HasAction}

module _ (agent : Agent) where
  has-item : (p : ActionItem → Bool) (action : ℕ) (at : Ground) (o : Option ActionItem) → slice_get (ground_actions agent) action ≡ Some at
      → slice_get agent.actions at.0 ≡ o → option_map_or p o false ≡ true → HasAction agent action
  has-item p action at None e k h = absurd (cc)
  has-item p action at (Some item) e k h = record { item = item; at = at.0; args = at.1; ground = e; is = k }

  has-ground : (p : ActionItem → Bool) (action : ℕ) (o : Option Ground) → slice_get (ground_actions agent) action ≡ o
      → option_map_or p (option_and_then (λ at. slice_get agent.actions at.0) o) false ≡ true → HasAction agent action
  has-ground p action None e h = absurd (cc)
  has-ground p action (Some at) e h = has-item p action at (slice_get agent.actions at.0) e refl h

  pub has_action : (p : ActionItem → Bool) (action : ℕ) → option_map_or p (action_item agent action) false ≡ true → HasAction agent action
  has_action p action h = has-ground p action (slice_get (ground_actions agent) action) refl h

  -- a label of a test, or of an action of the agent
  abbrev pub HasLabel : Label → Type 0
  HasLabel Quiet = ⊤
  HasLabel (Doing action) = HasAction agent action

  abbrev pub HaveLabels : List Label → Type 0
  HaveLabels [] = ⊤
  HaveLabels (l ∷ ls) = HasLabel l × HaveLabels ls

  -- no run, or one of some labels of the agent
  abbrev pub HasRun : Option (List Label) → Type 0
  HasRun None = ⊤
  HasRun (Some []) = ⊥
  HasRun (Some (l ∷ ls)) = HaveLabels (l ∷ ls)

  has_label : (l : Label) → fits_label agent l ≡ true → HasLabel l
  has_label Quiet h = tt
  has_label (Doing action) h = has_action _ action h

  pub have_labels : (ls : List Label) → list_all (fits_label agent) ls ≡ true → HaveLabels ls
  have_labels [] h = tt
  have_labels (l ∷ ls) h =
      (has_label l (and-left (fits_label agent l) (list_all (fits_label agent) ls) h), have_labels ls (and-right (fits_label agent l) (list_all (fits_label agent) ls) h))

  -- the command whose result comes, in a journal whose first entry stands at this place
  pub record Answers (first : ℕ) (journal : Journal) (place fluent : ℕ) : Type 0 where
    pub at : ℕ
    pub action : ℕ
    pub place_is : place ≡ first + at
    pub inside : at < length journal
    pub is : slice_get journal at ≡ Some (Do action)
    pub senses : fluent_sensed agent action ≡ Some fluent

  later : (first : ℕ) (e : Entry) (journal : Journal) (place fluent : ℕ) → Answers (first + 1) journal place fluent → Answers first (e ∷ journal) place fluent
  later first e journal place fluent a = record {
    at = suc a.at;
    action = a.action;
    place_is = a.place_is ∙ (let k : first + 1 + a.at ≡ first + suc a.at = omega arith in k);
    inside = let k : a.at < length journal = a.inside in omega arith;
    is = a.is;
    senses = a.senses;
  }

  pub senses-it : (fluent : ℕ) (o : Option ℕ) → option_map_or (λ f. f == fluent) o false ≡ true → o ≡ Some fluent
  senses-it fluent None h = absurd (cc)
  senses-it fluent (Some f) h = ap Some (eqb-true f fluent h)

  -- at the first entry, or later
  at-first : (device first place fluent action : ℕ) (journal : Journal) (b : Bool) → is_carried_by agent device action ≡ b
      → (list_any (is_result agent journal place fluent) (filter_map (command_at agent device) (enumerate_from (first + 1) journal)) ≡ true → Answers (first + 1) journal place fluent)
      → list_any (is_result agent journal place fluent) (cons_option (if b then Some (record { place = first; action = action }) else None) (filter_map (command_at agent device) (enumerate_from (first + 1) journal))) ≡ true
      → Answers first (Do action ∷ journal) place fluent
  at-first device first place fluent action journal false e rest h = later first (Do action) journal place fluent (rest h)
  at-first device first place fluent action journal true e rest h = go (is_result agent journal place fluent (record { place = first; action = action })) refl
    where
      go : (b : Bool) → is_result agent journal place fluent (record { place = first; action = action }) ≡ b → Answers first (Do action ∷ journal) place fluent
      go true k = record {
        at = 0;
        action = action;
        place_is = sym (eqb-true first place (and-left (first == place) _ k)) ∙ sym (add-zero first);
        inside = omega arith;
        is = refl;
        senses = senses-it fluent (fluent_sensed agent action) (and-right (first == place) _ k);
      }
      go false k = later first (Do action) journal place fluent (rest (rw k at h))

  answers-from : (device first place fluent : ℕ) (journal : Journal) → list_any (is_result agent journal place fluent) (filter_map (command_at agent device) (enumerate_from first journal)) ≡ true
      → Answers first journal place fluent
  answers-from device first place fluent [] h = absurd (cc)
  answers-from device first place fluent (Do action ∷ journal) h = at-first device first place fluent action journal (is_carried_by agent device action) refl (answers-from device (first + 1) place fluent journal) h
  answers-from device first place fluent (e ∷ journal) h = later first e journal place fluent (answers-from device (first + 1) place fluent journal h)

  pub answers : (device place fluent : ℕ) (journal : Journal) → list_any (is_result agent journal place fluent) (commands agent device journal) ≡ true → Answers 0 journal place fluent
  answers device place fluent journal h = answers-from device 0 place fluent journal h
