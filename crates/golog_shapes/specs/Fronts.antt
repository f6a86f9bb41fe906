-- What is said of the procedures of a draft round by round, by what was said of them in the round before.
use Rattle.std.specs.Prelude.{◌≡◌, ℕ, ◌+◌, min, Bool, true, false, ◌&&◌, ◌||◌, if◌then◌else◌, List, [], ◌∷◌, ◌++◌, map, slice_get, slice_index, unwrap_or}
use Rattle.std.specs.List.{flat_map, list_any, list_all}
use Rattle.golog_tree.specs.declared.draft_prog.DraftProg.{DraftProg}
use Rattle.golog_tree.specs.declared.draft_prog.DraftProg.TheOpen.{DraftProg-F, Nil, Act, Test, Seq, Choice, Pick, Star, If, While, Conc, Prio, Cstar, Call, Search}
use Rattle.golog_tree.specs.declared.draft_prog.DraftProg.TheFolds.{fold-DraftProg}
use Rattle.golog_tree.specs.declared.draft.DraftProc.{DraftProc}
use Rattle.golog_semantics.specs.FrontCalls.{greatest}
use Rattle.golog_shapes.specs.Unguarded.{leads_to, said}

-- whether a program may be final without a step, and which procedures it may call without one
pub record Fore : Type 0 where
  pub skip : Bool
  pub calls : List ℕ

-- parts in a row: one counts where all before it may be skipped
abbrev pub in_row : List Fore → Fore
in_row [] = record { skip = true; calls = [] }
in_row (p ∷ ps) = record {
  skip = p.skip && (in_row ps).skip;
  calls = p.calls ++ (if p.skip then (in_row ps).calls else []);
}

abbrev pub calls_of : List Fore → List ℕ
calls_of = flat_map (λ (p : Fore). p.calls)

abbrev pub is_none : List Fore → Bool
is_none [] = true
is_none (p ∷ ps) = false

-- parts of which one is chosen; none is the empty program
abbrev pub chosen : List Fore → Fore
chosen ps = record { skip = is_none ps || list_any (λ (p : Fore). p.skip) ps; calls = calls_of ps }

-- parts side by side
abbrev pub beside : List Fore → Fore
beside ps = record { skip = list_all (λ (p : Fore). p.skip) ps; calls = calls_of ps }

abbrev pub either : Fore → Fore → Fore
either p q = record { skip = p.skip || q.skip; calls = p.calls ++ q.calls }

-- by which procedures may be skipped; one that there is not has nothing to do
module _ (skips : List Bool) where
  abbrev pub skip_at : ℕ → Bool
  skip_at item = unwrap_or (slice_get skips item) true

  abbrev pub fore_step : DraftProg-F Fore → Fore
  fore_step (Nil at) = record { skip = true; calls = [] }
  fore_step (Act action args at) = record { skip = false; calls = [] }
  fore_step (Test c at) = record { skip = false; calls = [] }
  fore_step (Seq parts at) = in_row parts
  fore_step (Choice parts at) = chosen parts
  fore_step (Pick var sort p at) = p
  fore_step (Star p at) = record { skip = true; calls = p.calls }
  fore_step (If c p q at) = either p q
  fore_step (While c p at) = record { skip = true; calls = p.calls }
  fore_step (Conc parts at) = beside parts
  fore_step (Prio parts at) = beside parts
  fore_step (Cstar p at) = record { skip = true; calls = p.calls }
  fore_step (Call item args at) = record { skip = skip_at item; calls = item ∷ [] }
  fore_step (Search depth fuel p at) = p

  abbrev pub draft_fore : DraftProg → Fore
  draft_fore = fold-DraftProg Fore fore_step

-- it is skipped or not, and its calls follow those before
pub record IsFront (fore : Fore) (skip : Bool) (before after : List ℕ) : Type 0 where
  pub skipped : skip ≡ fore.skip
  pub called : after ≡ before ++ fore.calls

-- which procedures may be skipped
abbrev pub skip_round : List DraftProc → List Bool → List Bool
skip_round procs skips = map (λ (item : DraftProc). (draft_fore skips item.body).skip) procs

-- by which procedures have a block, or call one that has one
module _ (blocks : List Bool) where
  abbrev pub draft_has_step : DraftProg-F Bool → Bool
  draft_has_step (Nil at) = false
  draft_has_step (Act action args at) = false
  draft_has_step (Test c at) = false
  draft_has_step (Seq parts at) = list_any (λ has. has) parts
  draft_has_step (Choice parts at) = list_any (λ has. has) parts
  draft_has_step (Pick var sort p at) = p
  draft_has_step (Star p at) = p
  draft_has_step (If c p q at) = p || q
  draft_has_step (While c p at) = p
  draft_has_step (Conc parts at) = list_any (λ has. has) parts
  draft_has_step (Prio parts at) = list_any (λ has. has) parts
  draft_has_step (Cstar p at) = p
  draft_has_step (Call item args at) = said blocks item
  draft_has_step (Search depth fuel p at) = true

  -- whether a program has a block, or calls a procedure that has one
  abbrev pub draft_has : DraftProg → Bool
  draft_has = fold-DraftProg Bool draft_has_step

-- which procedures have a block, or call one that has one
abbrev pub block_round : List DraftProc → List Bool → List Bool
block_round procs blocks = map (λ (item : DraftProc). draft_has blocks item.body) procs

-- which procedures reach this one, by the calls of each
abbrev pub reach_round : List (List ℕ) → ℕ → List Bool → List Bool
reach_round calls goal said = map (leads_to goal said) calls

-- how deep a procedure nests with what it calls, or the limit where that is deeper: its own nest, and its calls
abbrev pub nest_of_calls : ℕ → List ℕ → ℕ × List ℕ → ℕ
nest_of_calls limit nests (own, calls) = min (own + greatest (map (slice_index nests) calls)) limit

abbrev pub nest_round : ℕ → List (ℕ × List ℕ) → List ℕ → List ℕ
nest_round limit items nests = map (nest_of_calls limit nests) items
