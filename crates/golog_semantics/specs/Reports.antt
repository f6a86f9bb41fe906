-- Reports that have a text, and the report that bytes spell.
use Rattle.std.specs.Prelude.{◌≡◌, ℕ, ◌+◌, Bool, true, false, not, IsTrue, nat_lt, nat_le, ◌&&◌, is_some, IfSome, List, [], ◌∷◌, length, map, slice_get}
use Rattle.std.specs.List.{list_any, list_all}
use Rattle.std.specs.Option.{option_map_or}
use Rattle.golog_tree.specs.declared.agent.Agent.{Agent}
use Rattle.golog_tree.specs.declared.prog.Label.{Label}
use Rattle.golog_tree.specs.declared.prog.Label.TheVariants.{Quiet, Do as Doing}
use Rattle.golog_semantics.specs.declared.journal.Entry.{Entry}
use Rattle.golog_semantics.specs.declared.journal.Entry.TheVariants.{Do, Test, Exo, Sense, Rest, Close, End}
use Rattle.golog_semantics.specs.declared.journal.PlacedRun.{PlacedRun}
use Rattle.golog_semantics.specs.declared.journal.Report.{Report}
use Rattle.golog_tree.specs.Ground.{sort_size}
use Rattle.golog_semantics.specs.Values.{ground_fluents, fluent_sort}
use Rattle.golog_semantics.specs.Ways.{is_empty}
use Rattle.golog_semantics.specs.Journal.{Journal, action_item, commands}
use Rattle.golog_semantics.specs.Text.{Text, at_each}
use Rattle.golog_semantics.specs.InSorts.{AreInSorts}
use Rattle.golog_semantics.specs.Restart.{journal_text}
use Rattle.golog_semantics.specs.Online.{is_result, label_of}

-- the greatest number that a line may have
abbrev pub place_limit : ℕ
place_limit = 2097151

-- the most entries of a report
abbrev pub entry_limit : ℕ
entry_limit = 2097152

module _ (agent : Agent) where
  -- an action of the program
  abbrev pub is_own : ℕ → Bool
  is_own action = option_map_or (λ item. is_empty item.posters) (action_item agent action) false

  -- an action that devices post
  abbrev pub is_exogenous : ℕ → Bool
  is_exogenous action = option_map_or (λ item. not (is_empty item.posters)) (action_item agent action) false

  -- the number of a device
  abbrev pub is_device : ℕ → Bool
  is_device device = nat_lt device (length agent.devices)

  -- a ground fluent and a constant of its sort
  abbrev pub is_value : ℕ → ℕ → Bool
  is_value fluent value =
      nat_lt fluent (length (ground_fluents agent))
      && nat_lt value (sort_size agent (fluent_sort agent fluent))

  -- an entry speaks of the agent's things, and a result of an earlier command
  abbrev pub fits_entry : Journal → Entry → Bool
  fits_entry before (Do action) = is_own action
  fits_entry before Test = true
  fits_entry before (Exo poster action) = is_device poster && is_exogenous action
  fits_entry before (Sense poster place fluent value) =
      is_device poster && is_value fluent value
      && list_any (is_result agent before place fluent) (commands agent poster before)
  fits_entry before (Rest poster taken) = is_device poster && nat_le taken place_limit
  fits_entry before (Close poster reason taken) = is_device poster && nat_le taken place_limit
  fits_entry before (End answer) = true

  -- a label speaks of the program's actions
  abbrev pub fits_label : Label → Bool
  fits_label Quiet = true
  fits_label (Doing action) = is_own action

  -- a run has a step, and stands at one
  abbrev pub fits_run : Journal → PlacedRun → Bool
  fits_run entries run =
      not (is_empty run.labels) && list_all fits_label run.labels
      && option_map_or (λ e. is_some (label_of e)) (slice_get entries run.place) false

-- numbers that grow, from this one on
abbrev pub grow_from : ℕ → List ℕ → Bool
grow_from n [] = true
grow_from n (k ∷ ks) = nat_le n k && grow_from (k + 1) ks

-- a report that has a text
pub record IsReport (agent : Agent) (report : Report) : Type 0 where
  pub entries : IsTrue (list_all (λ fits. fits) (at_each (fits_entry agent) [] report.entries))
  pub runs : IsTrue (list_all (fits_run agent report.entries) report.runs)
  pub in_order : IsTrue (grow_from 0 (map (λ r. r.place) report.runs))
  pub in_bounds : IsTrue (nat_le (length report.entries) entry_limit)
  pub start : IfSome report.start (AreInSorts agent)

-- the bytes are the text of the report
pub record SpellsReport (agent : Agent) (bytes : Text) (report : Report) : Type 0 where
  pub fits : IsReport agent report
  pub text : bytes ≡ journal_text agent report
