-- What a step leaves of a program without search blocks has none.
use Rattle.std.proofs.Common.{◌≡◌, Bool, true, false, if◌then◌else◌, refl, sym, ◌∙◌, subst}
use Rattle.std.specs.Prelude.{◌||◌, slice_get}
use Rattle.golog_tree.specs.declared.agent.Agent.{Agent}
use Rattle.golog_tree.specs.declared.prog.Prog.{Prog}
use Rattle.golog_tree.specs.declared.prog.Prog.TheOpen.{Nil, Act, Test, Seq, Choice, Pick, Star, If, While, Conc, Prio, Cstar, Call, Search, Follow}
use Rattle.golog_tree.specs.declared.prog.Prog.TheVariants as prog
use Rattle.golog_tree.specs.declared.prog.Prog.TheViews.{out-Prog}
use Rattle.golog_tree.specs.declared.prog.Prog.TheFolds.{fold_out-Prog, fold-Way, map-Prog}
use Rattle.golog_tree.specs.declared.prog.Way.{Way}
use Rattle.golog_tree.specs.Tidy.{Layer, tidy_pair, tidy_right, tidy_seq}
use Rattle.golog_semantics.specs.declared.Mode.{Mode}
use Rattle.golog_semantics.specs.Truth.{Values}
use Rattle.golog_semantics.specs.Blocks.{block_moves, moves}
use Rattle.golog_semantics.specs.Guarded.{front}
use Rattle.golog_semantics.specs.BlockFree.{has_block, has_block_step, proc_blocks}
use Rattle.golog_semantics.proofs.ByParts as parts
use Rattle.golog_semantics.proofs.NoBlocks.{blockless, body_block, put_block}
use Rattle.golog_semantics.proofs.PlainLaws.{is_nil, left_by_nil, right_by_nil}
use Rattle.golog_semantics.proofs.StepsKeep.{InParts, Keeps, OfLefts, moves_keep}
use Rattle.golog_semantics.proofs.Tests.{neither_first, neither_second}

pub neither : (a b : Bool) → a ≡ false → b ≡ false → (a || b) ≡ false
neither a b e h = subst (λ c. (c || b) ≡ false) (sym e) h

module _ (agent : Agent) where
  abbrev pub P : Prog → Type 0
  P p = has_block agent p ≡ false

  if_block : (b : Bool) (p q : Prog) → P p → P q → P (if b then p else q)
  if_block true p q h k = h
  if_block false p q h k = k

  seq_block : (p q : Prog) → P p → P q → P (tidy_seq p q)
  seq_block p q h k =
      subst P (sym (left_by_nil prog.Seq (out-Prog p) p q))
      (if_block (is_nil p) q (prog.Seq p q) k
      (parts.fold-seq Bool Bool (has_block_step (proc_blocks agent)) (λ w. false) p q ∙ neither (has_block agent p) (has_block agent q) h k))

  pair_block : (join : Prog → Prog → Prog) → ((p q : Prog) → has_block agent (join p q) ≡ (has_block agent p || has_block agent q)) → (p q : Prog) → P p → P q → P (tidy_pair join p q)
  pair_block join j p q h k =
      subst P (sym (left_by_nil (tidy_right join (out-Prog q)) (out-Prog p) p q))
      (if_block (is_nil p) q (tidy_right join (out-Prog q) p q) k
      (subst P (sym (right_by_nil join (out-Prog q) p q))
      (if_block (is_nil q) p (join p q) h (j p q ∙ neither (has_block agent p) (has_block agent q) h k))))

  both_parts : (p q : Prog) → (has_block agent p || has_block agent q) ≡ false → P p × P q
  both_parts p q h = (neither_first (has_block agent p) (has_block agent q) h, neither_second (has_block agent p) (has_block agent q) h)

  in_parts : (l : Layer) → has_block_step (proc_blocks agent) (map-Prog Prog Way Bool Bool (has_block agent) (fold-Way Bool Bool (has_block_step (proc_blocks agent)) (λ w. false)) l) ≡ false → InParts agent (blockless agent) l
  in_parts Nil h = tt
  in_parts (Act action args) h = tt
  in_parts (Test c) h = tt
  in_parts (Seq p q) h = both_parts p q h
  in_parts (Choice p q) h = both_parts p q h
  in_parts (Pick x sort p) h = λ c l. put_block agent p x c ∙ h
  in_parts (Star p) h = (h, parts.fold-star Bool Bool (has_block_step (proc_blocks agent)) (λ w. false) p ∙ h)
  in_parts (If c p q) h = both_parts p q h
  in_parts (While c p) h = (h, parts.fold-while Bool Bool (has_block_step (proc_blocks agent)) (λ w. false) c p ∙ h)
  in_parts (Conc p q) h = both_parts p q h
  in_parts (Prio p q) h = both_parts p q h
  in_parts (Cstar p) h = (h, parts.fold-cstar Bool Bool (has_block_step (proc_blocks agent)) (λ w. false) p ∙ h)
  in_parts (Call item args) h = body_block agent item args (slice_get agent.procs item) refl h
  in_parts (Search depth fuel p) h = absurd (cc)
  in_parts (Follow depth fuel p rest) h = absurd (cc)

  pub blockless_parts : (p : Prog) → P p → InParts agent (blockless agent) (out-Prog p)
  blockless_parts p h = in_parts (out-Prog p) (sym (fold_out-Prog Bool Bool (has_block_step (proc_blocks agent)) (λ w. false) p) ∙ h)

  keeps : Keeps agent (blockless agent)
  keeps = record {
    of_nil = parts.fold-nil Bool Bool (has_block_step (proc_blocks agent)) (λ w. false);
    of_seq = seq_block;
    of_conc = pair_block prog.Conc (parts.fold-conc Bool Bool (has_block_step (proc_blocks agent)) (λ w. false));
    of_prio = pair_block prog.Prio (parts.fold-prio Bool Bool (has_block_step (proc_blocks agent)) (λ w. false));
    parts = blockless_parts;
  }

  pub lefts_blockless : (values : Values) (m : Mode) (p : Prog) → P p → OfLefts agent (blockless agent) (moves agent values m p)
  unfolding moves
  lefts_blockless values m p h = moves_keep agent (blockless agent) keeps values (block_moves agent values) (λ k depth fuel q rest x. absurd x) (front agent p).height m p h
