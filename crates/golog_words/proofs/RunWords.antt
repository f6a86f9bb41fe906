-- What `clap` makes of the words of a `run`.
use Rattle.std.proofs.Common.{◌≡◌, ◌∙◌, ap, refl, codes, Bool, cond, true, false, List, [], ◌∷◌, Option, Some, None}
use Rattle.std.specs.Prelude.{drop, fold, if◌then◌else◌, is_some, option_and_then, option_map, slice_get}
use Rattle.clap.proofs.TakesLemmas.{leaf_takes}
use Rattle.clap.proofs.OnLiterals.{clap_on_literals}
use Rattle.clap.specs.Words.{Row, Rule, built, matches_of, takes}
use Rattle.clap.specs.Simple.{filled, help_rule}
use Rattle.clap.specs.Walk.{default_rows, nothing_held, reading_by, row_text, settled, with_default}
use Rattle.clap.specs.declared.parser.matches.ValueSource.TheVariants.{DefaultValue}
use Rattle.golog_words.specs.Commands.{Said, Text, count_in, nothing_said, run, run_in, run_of, said_by}
use Rattle.golog_words.specs.declared.said.Awaited.{Awaited}
use Rattle.golog_words.proofs.Meeting.{Meets, run_rows}
use Rattle.golog_words.proofs.Rows.{absent, added, beside, first_given, newest, no_default, present, row_with}
use Rattle.golog_words.proofs.RunWalk.{Ended, Keeps, Looks, agent_rule, devices_rule, from_rule, goes, inline_rule, rules, running, shape, standing, workers_rule}
use Rattle.golog_words.proofs.Walks.{walk_over}

abbrev help : Rule
help = filled help_rule

-- of the arguments the flag alone has a value where it was not given one
only_inline : (rows : List Row) → fold with_default rows rules ≡ with_default rows inline_rule
unfolding clap_on_literals
only_inline rows =
    ap (λ (r : List Row). with_default (with_default (with_default (with_default (with_default r devices_rule) inline_rule) from_rule) workers_rule) help) (no_default agent_rule rows refl)
    ∙ ap (λ (r : List Row). with_default (with_default (with_default (with_default r inline_rule) from_rule) workers_rule) help) (no_default devices_rule rows refl)
    ∙ no_default help (with_default (with_default (with_default rows inline_rule) from_rule) workers_rule) refl
    ∙ no_default workers_rule (with_default (with_default rows inline_rule) from_rule) refl
    ∙ no_default from_rule (with_default rows inline_rule) refl

abbrev truth : Bool → Text
truth is_set = if is_set then codes "true" else codes "false"

-- the first value of a row, and how a flag's is read
abbrev first : Option Row → Option Text
first row = option_and_then (λ (r : Row). slice_get r.values 0) row

abbrev read : Option Row → Option Text
read row = option_and_then row_text row

module _ (agent devices journal count : Option Text) (rows : List Row) where
  held_set : Looks agent devices true journal count rows → run_rows (with_default rows inline_rule) ≡ (agent, devices, Some (truth true), journal, count)
  unfolding clap_on_literals
  held_set looks =
      ap run_rows (ap (λ (b : Bool). cond b rows (default_rows (codes "inline") (reading_by inline_rule) (codes "false" ∷ []) rows))
      (present (codes "inline") _ rows looks.inline_is))
      ∙ (λ i. (
        (ap first looks.agent_is ∙ first_given agent_rule agent) i,
        (ap first looks.devices_is ∙ first_given devices_rule devices) i,
        (ap read looks.inline_is) i,
        (ap first looks.from_is ∙ first_given from_rule journal) i,
        (ap first looks.workers_is ∙ first_given workers_rule count) i,
      ))

  held_unset : Looks agent devices false journal count rows → run_rows (with_default rows inline_rule) ≡ (agent, devices, Some (truth false), journal, count)
  unfolding clap_on_literals
  held_unset looks =
      let new = row_with inline_rule DefaultValue (codes "false" ∷ []) in
      ap run_rows (ap (λ (b : Bool). cond b rows (default_rows (codes "inline") (reading_by inline_rule) (codes "false" ∷ []) rows))
      (absent (codes "inline") rows looks.inline_is) ∙ added inline_rule DefaultValue (codes "false" ∷ []) rows looks.inline_is)
      ∙ (λ i. (
        (ap first (beside (codes "agent") new rows refl ∙ looks.agent_is) ∙ first_given agent_rule agent) i,
        (ap first (beside (codes "devices") new rows refl ∙ looks.devices_is) ∙ first_given devices_rule devices) i,
        (ap read (newest (codes "inline") new rows looks.inline_is refl)) i,
        (ap first (beside (codes "from") new rows refl ∙ looks.from_is) ∙ first_given from_rule journal) i,
        (ap first (beside (codes "workers") new rows refl ∙ looks.workers_is) ∙ first_given workers_rule count) i,
      ))

  held : (is_set : Bool) → Looks agent devices is_set journal count rows
      → run_rows (with_default rows inline_rule) ≡ (agent, devices, Some (truth is_set), journal, count)
  held true looks = held_set looks
  held false looks = held_unset looks

start_keeps : Keeps None nothing_said nothing_held
unfolding clap_on_literals
start_keeps = (record { agent_is = refl; devices_is = refl; inline_is = refl; from_is = refl; workers_is = refl }, refl)

module _ (name : Text) (words : List Text) where
  -- the rows behind the words
  abbrev last : List Row
  last = (settled rules (walk_over shape (standing nothing_said nothing_held) words).held).rows

  taken : (end : Said) → Ended nothing_said nothing_held words end → takes running (name ∷ words) ≡ true
  unfolding clap_on_literals
  taken end done = leaf_takes (built running) nothing_held words refl done.takes

  found : (end : Said) → Ended nothing_said nothing_held words end
      → run_rows (matches_of running (name ∷ words)) ≡ (end.agent, end.devices, Some (truth end.is_inline), end.from, end.workers)
  unfolding clap_on_literals
  found end done = ap run_rows (only_inline last) ∙ held end.agent end.devices end.from end.workers last end.is_inline done.looks

  at : (end : Said) → Ended nothing_said nothing_held words end → (agent : Option Text) → end.agent ≡ agent
      → Meets running (name ∷ words) (option_map (λ file. run file end.devices end.is_inline end.from (option_and_then count_in end.workers)) agent)
  at end done None is = tt
  at end done (Some agent) is = (
    (end.workers, found end done ∙ ap (λ (a : Option Text). (a, end.devices, Some (truth end.is_inline), end.from, end.workers)) is, refl),
    taken end done,
  )

  closed : (end : Said) → said_by words nothing_said ≡ Some end → (awaits : Option Awaited) → end.awaits ≡ awaits
      → Meets running (name ∷ words) (if is_some awaits then None else option_map (λ file. run file end.devices end.is_inline end.from (option_and_then count_in end.workers)) end.agent)
  closed end is (Some awaited) awaits = tt
  closed end is None awaits = at end (goes words nothing_said nothing_held tt start_keeps end is awaits) end.agent refl

  all : (said : Option Said) → said_by words nothing_said ≡ said → Meets running (name ∷ words) (option_and_then run_of said)
  all None is = tt
  all (Some end) is = closed end is end.awaits refl

pub meets : (words : List Text) → Meets running words (run_in (drop 1 words))
meets [] = tt
meets (name ∷ words) = all name words (said_by words nothing_said) refl
