-- A program without search blocks is not heavy.
use Rattle.std.proofs.Common.{◌≡◌, ℕ, zero, suc, Bool, true, false, ◌&&◌, if◌then◌else◌, List, [], ◌∷◌, refl, ap, ◌∙◌, arith}
use Rattle.std.specs.Prelude.{not}
use Rattle.std.specs.List.{list_any}
use Rattle.golog_base.proofs.Bools.{and-false}
use Rattle.golog_tree.specs.declared.agent.Agent.{Agent}
use Rattle.golog_tree.specs.declared.prog.Prog.{Prog}
use Rattle.golog_tree.specs.declared.prog.Prog.TheOpen.{Nil, Act, Test, Seq, Choice, Pick, Star, If, While, Conc, Prio, Cstar, Call, Search, Follow}
use Rattle.golog_tree.specs.declared.prog.Prog.TheViews.{out-Prog}
use Rattle.golog_tree.specs.Ground.{sort_size}
use Rattle.golog_tree.specs.Tidy.{Layer}
use Rattle.golog_semantics.specs.declared.Mode.TheVariants.{Must}
use Rattle.golog_semantics.specs.Truth.{Values}
use Rattle.golog_semantics.specs.Program.{put_arg, body_of}
use Rattle.golog_semantics.specs.Guarded.{front}
use Rattle.golog_semantics.specs.Search.{final}
use Rattle.golog_semantics.specs.Heavy.{Reached, blocks_step, blocks_to, front_blocks, heavy, weighs}
use Rattle.golog_semantics.proofs.ByParts.{OfEach}
use Rattle.golog_semantics.proofs.NoBlocks.{blockless}
use Rattle.golog_semantics.proofs.StepsFit.{each-append, each-flat}
use Rattle.golog_semantics.proofs.StepsKeep.{InParts}
use Rattle.golog_ways.proofs.Blockless.{P, blockless_parts}

abbrev Never : Reached → Type 0
Never at = ⊥

never : (blocks : List Reached) → OfEach Never blocks → blocks ≡ []
never [] h = refl
never (at ∷ blocks) h = absurd h.0

if_none : (b : Bool) (blocks : List Reached) → OfEach Never blocks → OfEach Never (if b then blocks else [])
if_none true blocks h = h
if_none false blocks h = tt

module _ (agent : Agent) (values : Values) where
  step_none : (u : Bool → Prog → List Reached) → ((b : Bool) (q : Prog) → P agent q → OfEach Never (u b q)) → (b : Bool) (l : Layer) → InParts agent (blockless agent) l
      → OfEach Never (blocks_step agent values u b l)
  step_none u h b Nil x = tt
  step_none u h b (Act action args) x = tt
  step_none u h b (Test c) x = tt
  step_none u h b (Seq q r) x =
      each-append Never (u b q) (if (front agent q).skip then u b r else []) (h b q x.0) (if_none (front agent q).skip (u b r) (h b r x.1))
  step_none u h b (Choice q r) x = each-append Never (u b q) (u b r) (h b q x.0) (h b r x.1)
  step_none u h b (Pick y sort q) x = each-flat Never (λ c. u b (put_arg q y c)) 0 (sort_size agent sort) (λ c l. h b (put_arg q y c) (x c (omega arith)))
  step_none u h b (Star q) x = h b q x.0
  step_none u h b (If c q r) x = each-append Never (u b q) (u b r) (h b q x.0) (h b r x.1)
  step_none u h b (While c q) x = h b q x.0
  step_none u h b (Conc q r) x = each-append Never (u b q) (u b r) (h b q x.0) (h b r x.1)
  step_none u h b (Prio q r) x = each-append Never (u true q) (u b r) (h true q x.0) (h b r x.1)
  step_none u h b (Cstar q) x = h b q x.0
  step_none u h b (Call item args) x = h b (body_of agent item args) x
  step_none u h b (Search depth fuel q) x = absurd x
  step_none u h b (Follow depth fuel q rest) x = absurd x

  none_to : (n : ℕ) (b : Bool) (p : Prog) → P agent p → OfEach Never (blocks_to agent values n b p)
  none_to zero b p h = tt
  none_to (suc n) b p h = step_none (blocks_to agent values n) (none_to n) b (out-Prog p) (blockless_parts agent p h)

  pub blockless_light : (p : Prog) → P agent p → heavy agent values p ≡ false
  unfolding heavy
  blockless_light p h =
      ap (λ blocks. not (final agent values Must p) && list_any (weighs agent values p) blocks) (never (front_blocks agent values p) (none_to (front agent p).height false p h))
      ∙ and-false (not (final agent values Must p))
