-- Programs as a world sees them: as they are, or with runs under way written as blocks.
use Rattle.std.proofs.Common.{◌≡◌, ℕ, zero, suc, ◌+◌, Bool, List, [], ◌∷◌, Some, refl, sym, ap, ◌∙◌}
use Rattle.std.specs.Prelude.{All, slice_get}
use Rattle.std.specs.List.{list_any}
use Rattle.std.proofs.lemmas.List.Elements.{All-head, All-tail}
use Rattle.golog_tree.specs.declared.agent.Agent.{Agent}
use Rattle.golog_tree.specs.declared.agent.ProcItem.{ProcItem}
use Rattle.golog_tree.specs.declared.cond.Arg.{Arg}
use Rattle.golog_tree.specs.declared.cond.Arg.TheVariants.{Const, Var}
use Rattle.golog_tree.specs.declared.cond.Cond.{Cond}
use Rattle.golog_tree.specs.declared.prog.Label.{Label}
use Rattle.golog_tree.specs.declared.prog.Prog.{Prog}
use Rattle.golog_tree.specs.declared.prog.Prog.TheOpen.{Nil, Act, Test, Seq, Choice, Pick, Star, If, While, Conc, Prio, Cstar, Call, Search, Follow}
use Rattle.golog_tree.specs.declared.prog.Prog.TheVariants as prog
use Rattle.golog_tree.specs.declared.prog.Prog.TheViews.{out-Prog}
use Rattle.golog_tree.specs.declared.prog.Prog.TheFolds.{fold_out-Prog, fold-Way, map-Prog}
use Rattle.golog_tree.specs.declared.prog.Way.{Way}
use Rattle.golog_tree.specs.Tidy.{Layer, tidy_conc, tidy_prio, tidy_seq}
use Rattle.golog_semantics.specs.declared.Mode.{Mode}
use Rattle.golog_semantics.specs.Truth.{Values, constants}
use Rattle.golog_semantics.specs.Program.{body_of, body_with, put_arg, put_args}
use Rattle.golog_semantics.specs.Ways.{final_step, final_to}
use Rattle.golog_semantics.specs.Search.{final}
use Rattle.golog_semantics.specs.Guarded.{Front, front, proc_fronts}
use Rattle.golog_semantics.specs.Plain.{IsPlain, plain, plain_step, plain_way}
use Rattle.golog_semantics.specs.Trans.{BlockSteps, Steps, trans_step}
use Rattle.golog_semantics.proofs.ByParts as parts
use Rattle.golog_semantics.proofs.PlainLaws.{front_plain, plain_conc, plain_prio, plain_put, plain_seq}

-- one level of a program, with its parts as they are seen; a run under way is seen as a block
abbrev pub viewed : (Prog → Prog) → Layer → Layer
viewed view Nil = Nil
viewed view (Act action args) = Act action args
viewed view (Test c) = Test c
viewed view (Seq p q) = Seq (view p) (view q)
viewed view (Choice p q) = Choice (view p) (view q)
viewed view (Pick x sort p) = Pick x sort (view p)
viewed view (Star p) = Star (view p)
viewed view (If c p q) = If c (view p) (view q)
viewed view (While c p) = While c (view p)
viewed view (Conc p q) = Conc (view p) (view q)
viewed view (Prio p q) = Prio (view p) (view q)
viewed view (Cstar p) = Cstar (view p)
viewed view (Call item args) = Call item args
viewed view (Search depth fuel p) = Search depth fuel (view p)
viewed view (Follow depth fuel p rest) = Search depth fuel (view p)

-- what is asked of a view
pub record View (agent : Agent) (view : Prog → Prog) : Type 1 where
  pub of_level : (world : Values) (blocks : BlockSteps) (trans : Prog → Steps) (p : Prog) (label : Label) (left : Prog)
      → trans_step agent world blocks trans (out-Prog (view p)) label left ≡ trans_step agent world blocks trans (viewed view (out-Prog p)) label left
  pub of_nil : view prog.Nil ≡ prog.Nil
  pub of_seq : (p q : Prog) → view (tidy_seq p q) ≡ tidy_seq (view p) (view q)
  pub of_conc : (p q : Prog) → view (tidy_conc p q) ≡ tidy_conc (view p) (view q)
  pub of_prio : (p q : Prog) → view (tidy_prio p q) ≡ tidy_prio (view p) (view q)
  pub of_star : (p : Prog) → view (prog.Star p) ≡ prog.Star (view p)
  pub of_while : (c : Cond) (p : Prog) → view (prog.While c p) ≡ prog.While c (view p)
  pub of_cstar : (p : Prog) → view (prog.Cstar p) ≡ prog.Cstar (view p)
  pub of_put : (p : Prog) (x c : ℕ) → view (put_arg p x c) ≡ put_arg (view p) x c
  pub of_body : (item : ℕ) (args : List Arg) → view (body_of agent item args) ≡ body_of agent item args
  pub same_end : (world : Values) (m : Mode) (p : Prog) → final agent world m (view p) ≡ final agent world m p
  pub same_front : (p : Prog) → front agent (view p) ≡ front agent p

module _ (agent : Agent) where
  level_as_is : (world : Values) (blocks : BlockSteps) (trans : Prog → Steps) (l : Layer) (label : Label) (left : Prog)
      → trans_step agent world blocks trans l label left ≡ trans_step agent world blocks trans (viewed (λ p. p) l) label left
  level_as_is world blocks trans Nil label left = refl
  level_as_is world blocks trans _ label left = refl

  -- a program as it is
  pub as_it_is : View agent (λ p. p)
  as_it_is = record {
    of_level = λ world blocks trans p label left. level_as_is world blocks trans (out-Prog p) label left;
    of_nil = refl;
    of_seq = λ p q. refl;
    of_conc = λ p q. refl;
    of_prio = λ p q. refl;
    of_star = λ p. refl;
    of_while = λ c p. refl;
    of_cstar = λ p. refl;
    of_put = λ p x c. refl;
    of_body = λ item args. refl;
    same_end = λ world m p. refl;
    same_front = λ p. refl;
  }

level_plain : (l : Layer) → out-Prog (plain_step (map-Prog Prog Way Prog Way plain (fold-Way Prog Way plain_step plain_way) l)) ≡ viewed plain l
level_plain Nil = prog.outs-Nil
level_plain (Act action args) = prog.outs-Act action args
level_plain (Test c) = prog.outs-Test c
level_plain (Seq p q) = prog.outs-Seq (plain p) (plain q)
level_plain (Choice p q) = prog.outs-Choice (plain p) (plain q)
level_plain (Pick x sort p) = prog.outs-Pick x sort (plain p)
level_plain (Star p) = prog.outs-Star (plain p)
level_plain (If c p q) = prog.outs-If c (plain p) (plain q)
level_plain (While c p) = prog.outs-While c (plain p)
level_plain (Conc p q) = prog.outs-Conc (plain p) (plain q)
level_plain (Prio p q) = prog.outs-Prio (plain p) (plain q)
level_plain (Cstar p) = prog.outs-Cstar (plain p)
level_plain (Call item args) = prog.outs-Call item args
level_plain (Search depth fuel p) = prog.outs-Search depth fuel (plain p)
level_plain (Follow depth fuel p rest) = prog.outs-Search depth fuel (plain p)

out_plain : (p : Prog) → out-Prog (plain p) ≡ viewed plain (out-Prog p)
out_plain p = ap out-Prog (fold_out-Prog Prog Way plain_step plain_way p) ∙ level_plain (out-Prog p)

any_same : (f g : ℕ → Bool) (xs : List ℕ) → ((c : ℕ) → f c ≡ g c) → list_any f xs ≡ list_any g xs
any_same f g [] e = refl
any_same f g (x ∷ xs) e = let h = e x in let k = any_same f g xs e in cc

module _ (agent : Agent) where
  module _ (world : Values) (m : Mode) where
    end_same : (f : Mode → Prog → Bool) → ((p : Prog) → f m (plain p) ≡ f m p) → (l : Layer) → final_step agent world f m (viewed plain l) ≡ final_step agent world f m l
    end_same f h Nil = refl
    end_same f h (Act action args) = refl
    end_same f h (Test c) = refl
    end_same f h (Seq p q) = let e = h p in let k = h q in cc
    end_same f h (Choice p q) = let e = h p in let k = h q in cc
    end_same f h (Pick x sort p) =
        any_same (λ c. f m (put_arg (plain p) x c)) (λ c. f m (put_arg p x c)) (constants agent sort) (λ c. ap (f m) (sym (plain_put p (Some (x, c)))) ∙ h (put_arg p x c))
    end_same f h (Star p) = refl
    end_same f h (If c p q) = let e = h p in let k = h q in cc
    end_same f h (While c p) = let e = h p in cc
    end_same f h (Conc p q) = let e = h p in let k = h q in cc
    end_same f h (Prio p q) = let e = h p in let k = h q in cc
    end_same f h (Cstar p) = refl
    end_same f h (Call item args) = refl
    end_same f h (Search depth fuel p) = h p
    end_same f h (Follow depth fuel p rest) = h p

    ends_same : (n : ℕ) (p : Prog) → final_to agent world n m (plain p) ≡ final_to agent world n m p
    ends_same zero p = refl
    ends_same (suc n) p = ap (final_step agent world (final_to agent world n) m) (out_plain p) ∙ end_same (final_to agent world n) (ends_same n) (out-Prog p)

    final_plain : (p : Prog) → final agent world m (plain p) ≡ final agent world m p
    unfolding final
    final_plain p =
        ap (λ (f : Front). final_to agent world f.height m (plain p)) (front_plain (proc_fronts agent) p) ∙ ends_same (front agent p).height p

  puts_plain : (args : List Arg) (p : Prog) (x : ℕ) → plain p ≡ p → plain (put_args p x args) ≡ put_args p x args
  puts_plain [] p x e = e
  puts_plain (Const c ∷ args) p x e = puts_plain args (put_arg p x c) (x + 1) (plain_put p (Some (x, c)) ∙ ap (λ z. put_arg z x c) e)
  puts_plain (Var y ∷ args) p x e = puts_plain args p (x + 1) e

  body_plain : (procs : List ProcItem) (item : ℕ) (args : List Arg) → All (λ (i : ProcItem). plain i.body ≡ i.body) procs → plain (body_with (slice_get procs item) args) ≡ body_with (slice_get procs item) args
  body_plain [] item args h = parts.fold-nil Prog Way plain_step plain_way
  body_plain (i ∷ procs) zero args h = puts_plain args i.body 0 (All-head (λ (i : ProcItem). plain i.body ≡ i.body) i procs h)
  body_plain (i ∷ procs) (suc item) args h = body_plain procs item args (All-tail (λ (i : ProcItem). plain i.body ≡ i.body) i procs h)

  -- a program with its runs under way written as blocks
  pub written_plainly : IsPlain agent → View agent plain
  written_plainly h = record {
    of_level = λ world blocks trans p label left. ap (λ l. trans_step agent world blocks trans l label left) (out_plain p);
    of_nil = parts.fold-nil Prog Way plain_step plain_way;
    of_seq = plain_seq;
    of_conc = plain_conc;
    of_prio = plain_prio;
    of_star = parts.fold-star Prog Way plain_step plain_way;
    of_while = parts.fold-while Prog Way plain_step plain_way;
    of_cstar = parts.fold-cstar Prog Way plain_step plain_way;
    of_put = λ p x c. plain_put p (Some (x, c));
    of_body = λ item args. body_plain agent.procs item args h.procs;
    same_end = final_plain;
    same_front = front_plain (proc_fronts agent);
  }
