-- A program that holds and reaches no block has the steps that it has without blocks.
use Rattle.std.proofs.Common.{◌≡◌, ℕ, zero, suc, ◌+◌, ◌<◌, Bool, true, false, List, [], ◌∷◌, Option, Some, None, refl, sym, ◌∙◌, arith}
use Rattle.std.specs.Prelude.{not, slice_get}
use Rattle.std.specs.List.{flat_map, range_with_len}
use Rattle.golog_tree.specs.declared.agent.Agent.{Agent}
use Rattle.golog_tree.specs.declared.agent.ProcItem.{ProcItem}
use Rattle.golog_tree.specs.declared.cond.Arg.{Arg}
use Rattle.golog_tree.specs.declared.cond.Arg.TheVariants.{Const, Var}
use Rattle.golog_tree.specs.declared.prog.Prog.{Prog}
use Rattle.golog_tree.specs.declared.prog.Prog.TheOpen.{Nil, Act, Test, Seq, Choice, Pick, Star, If, While, Conc, Prio, Cstar, Call, Search, Follow}
use Rattle.golog_tree.specs.declared.prog.Prog.TheViews.{out-Prog}
use Rattle.golog_tree.specs.declared.prog.Prog.TheFolds.{fold_out-Prog, fold-Way, map-Prog}
use Rattle.golog_tree.specs.declared.prog.Way.{Way}
use Rattle.golog_tree.specs.Ground.{sort_size}
use Rattle.golog_tree.specs.Tidy.{Layer}
use Rattle.golog_semantics.specs.declared.Mode.{Mode}
use Rattle.golog_semantics.specs.declared.search.Move.{Move}
use Rattle.golog_semantics.specs.Modes.{flip}
use Rattle.golog_semantics.specs.Truth.{Values}
use Rattle.golog_semantics.specs.Program.{put_arg, put_args, body_with, body_of}
use Rattle.golog_semantics.specs.Ways.{Blocks, final_to, moves_step, moves_to}
use Rattle.golog_semantics.specs.Search.{no_blocks}
use Rattle.golog_semantics.specs.Moves.{plain_moves}
use Rattle.golog_semantics.specs.Blocks.{block_moves, moves}
use Rattle.golog_semantics.specs.Guarded.{front}
use Rattle.golog_semantics.specs.BlockFree.{block_at, has_block, has_block_step, proc_blocks}
use Rattle.golog_semantics.proofs.BlockRounds.{block_in_body}
use Rattle.golog_semantics.proofs.ByParts as parts
use Rattle.golog_semantics.proofs.FrontParts.{AtFront, Claim, GoesOn}
use Rattle.golog_semantics.proofs.PutByParts.{IgnoresPut, fold-put}
use Rattle.golog_semantics.proofs.Tests.{neither_first, neither_second}

pub not_so : (b : Bool) → not b ≡ true → b ≡ false
not_so true e = sym e
not_so false e = refl

flat_same : (f g : ℕ → List Move) (a n : ℕ) → ((c : ℕ) → c < a + n → f c ≡ g c) → flat_map f (range_with_len a n) ≡ flat_map g (range_with_len a n)
flat_same f g a zero h = refl
flat_same f g a (suc n) h = let e = h a (omega arith) in let k = flat_same f g (a + 1) n (λ c l. h c (omega arith)) in cc

module _ (agent : Agent) (values : Values) (one other : Blocks) (claim : Claim) (go : GoesOn agent claim)
    (same : (m : Mode) (depth fuel : ℕ) (p : Prog) (rest : List Way) → claim.of_block depth fuel p rest → one m depth fuel p rest ≡ other m depth fuel p rest) where
  step_same : (f : Mode → Prog → Bool) (u v : Mode → Prog → List Move) (m : Mode) → ((k : Mode) (p : Prog) → claim.of_prog p → u k p ≡ v k p) → (l : Layer) → AtFront agent claim l
      → moves_step agent values one f u m l ≡ moves_step agent values other f v m l
  step_same f u v m h Nil x = refl
  step_same f u v m h (Act action args) x = refl
  step_same f u v m h (Test c) x = refl
  step_same f u v m h (Seq p q) x = let e = h m p x.0 in let k = h m q x.1 in rw (e, k) refl
  step_same f u v m h (Choice p q) x = let e = h m p x.0 in let k = h m q x.1 in rw (e, k) refl
  step_same f u v m h (Pick y sort p) x = flat_same (λ c. u m (put_arg p y c)) (λ c. v m (put_arg p y c)) 0 (sort_size agent sort) (λ c l. h m (put_arg p y c) (x c (omega arith)))
  step_same f u v m h (Star p) x = let e = h m p x in rw e refl
  step_same f u v m h (If c p q) x = let e = h m p x.0 in let k = h m q x.1 in rw (e, k) refl
  step_same f u v m h (While c p) x = let e = h m p x in rw e refl
  step_same f u v m h (Conc p q) x = let e = h m p x.0 in let k = h m q x.1 in rw (e, k) refl
  step_same f u v m h (Prio p q) x = let e = h m p x.0 in let k = h m q x.1 in let d = h (flip m) p x.0 in rw (e, k, d) refl
  step_same f u v m h (Cstar p) x = let e = h m p x in rw e refl
  step_same f u v m h (Call item args) x = h m (body_of agent item args) x
  step_same f u v m h (Search depth fuel p) x = same m depth fuel p [] x
  step_same f u v m h (Follow depth fuel p rest) x = same m depth fuel p rest x

  pub same_steps : (n : ℕ) (m : Mode) (p : Prog) → claim.of_prog p → moves_to agent values one n m p ≡ moves_to agent values other n m p
  same_steps zero m p x = refl
  same_steps (suc n) m p x = step_same (final_to agent values n) (moves_to agent values one n) (moves_to agent values other n) m (same_steps n) (out-Prog p) (go.parts p x)

module _ (agent : Agent) where
  -- no block stands in the program or is reached from it
  abbrev pub blockless : Claim
  blockless = record { of_prog = λ p. has_block agent p ≡ false; of_block = λ depth fuel p rest. ⊥ }

  ignores : IgnoresPut Bool Bool (has_block_step (proc_blocks agent)) (λ w. false)
  ignores = record {
    act_same = λ action args put. refl;
    test_same = λ c put. refl;
    if_same = λ c put a b. refl;
    while_same = λ c put a. refl;
    call_same = λ item args put. refl;
  }

  pub put_block : (p : Prog) (x c : ℕ) → has_block agent (put_arg p x c) ≡ has_block agent p
  put_block p x c = fold-put Bool Bool (has_block_step (proc_blocks agent)) (λ w. false) ignores p (Some (x, c))

  puts_block : (args : List Arg) (p : Prog) (x : ℕ) → has_block agent (put_args p x args) ≡ has_block agent p
  puts_block [] p x = refl
  puts_block (Const c ∷ args) p x = puts_block args (put_arg p x c) (x + 1) ∙ put_block p x c
  puts_block (Var y ∷ args) p x = puts_block args p (x + 1)

  pub body_block : (item : ℕ) (args : List Arg) (o : Option ProcItem) → slice_get agent.procs item ≡ o → block_at (proc_blocks agent) item ≡ false → has_block agent (body_with o args) ≡ false
  body_block item args None e h = parts.fold-nil Bool Bool (has_block_step (proc_blocks agent)) (λ w. false)
  body_block item args (Some proc) e h = puts_block args proc.body 0 ∙ sym (block_in_body agent item proc e) ∙ h

  front_blockless : (l : Layer) → has_block_step (proc_blocks agent) (map-Prog Prog Way Bool Bool (has_block agent) (fold-Way Bool Bool (has_block_step (proc_blocks agent)) (λ w. false)) l) ≡ false → AtFront agent blockless l
  front_blockless Nil h = tt
  front_blockless (Act action args) h = tt
  front_blockless (Test c) h = tt
  front_blockless (Seq p q) h = (neither_first (has_block agent p) (has_block agent q) h, neither_second (has_block agent p) (has_block agent q) h)
  front_blockless (Choice p q) h = (neither_first (has_block agent p) (has_block agent q) h, neither_second (has_block agent p) (has_block agent q) h)
  front_blockless (Pick x sort p) h = λ c l. put_block p x c ∙ h
  front_blockless (Star p) h = h
  front_blockless (If c p q) h = (neither_first (has_block agent p) (has_block agent q) h, neither_second (has_block agent p) (has_block agent q) h)
  front_blockless (While c p) h = h
  front_blockless (Conc p q) h = (neither_first (has_block agent p) (has_block agent q) h, neither_second (has_block agent p) (has_block agent q) h)
  front_blockless (Prio p q) h = (neither_first (has_block agent p) (has_block agent q) h, neither_second (has_block agent p) (has_block agent q) h)
  front_blockless (Cstar p) h = h
  front_blockless (Call item args) h = body_block item args (slice_get agent.procs item) refl h
  front_blockless (Search depth fuel p) h = absurd (cc)
  front_blockless (Follow depth fuel p rest) h = absurd (cc)

  blockless_goes : GoesOn agent blockless
  blockless_goes = record { parts = λ p h. front_blockless (out-Prog p) (sym (fold_out-Prog Bool Bool (has_block_step (proc_blocks agent)) (λ w. false) p) ∙ h) }

  pub blockless_steps : (values : Values) (m : Mode) (p : Prog) → not (has_block agent p) ≡ true → moves agent values m p ≡ plain_moves agent values m p
  unfolding moves plain_moves
  blockless_steps values m p h =
      same_steps agent values (block_moves agent values) no_blocks blockless blockless_goes (λ k depth fuel q rest x. absurd x) (front agent p).height m p (not_so (has_block agent p) h)
