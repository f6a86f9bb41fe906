-- Constants put in, construct by construct; a fold that ignores arguments and conditions is unchanged by it.
use Rattle.std.proofs.Common.{◌≡◌, ℕ, List, [], ◌∷◌, map, refl, sym, ap, ◌∙◌}
use Rattle.golog_tree.specs.declared.cond.Arg.{Arg}
use Rattle.golog_tree.specs.declared.cond.Cond.{Cond}
use Rattle.golog_tree.specs.declared.prog.Label.{Label}
use Rattle.golog_tree.specs.declared.prog.Prog.{Prog}
use Rattle.golog_tree.specs.declared.prog.Way.{Way}
use Rattle.golog_tree.specs.declared.prog.Prog.TheOpen.{Prog-F, Way-F, Act, Test, Seq, Choice, Pick, Star, If, While, Conc, Prio, Cstar, Call, Search, Follow}
use Rattle.golog_tree.specs.declared.prog.Prog.TheVariants as prog
use Rattle.golog_tree.specs.declared.prog.Prog.TheFolds.{fold-Prog, fold-Way}
use Rattle.golog_tree.specs.Substitute.{Put, within, arg_put, cond_put, prog_put, prog_step, way_put, way_step}
use Rattle.golog_tree.proofs.Substituted.{prog_put-Follow}
use Rattle.golog_semantics.proofs.ByParts as parts
use Rattle.golog_semantics.proofs.ByParts.{Cases, OfEach, by_parts}

abbrev PP : Type 0
PP = Put → Prog

abbrev PW : Type 0
PW = Put → Way

pub put-nil : (put : Put) → prog_put prog.Nil put ≡ prog.Nil
put-nil put = ap (λ (f : PP). f put) (parts.fold-nil PP PW prog_step way_step)

pub put-act : (action : ℕ) (args : List Arg) (put : Put) → prog_put (prog.Act action args) put ≡ prog.Act action (map (arg_put put) args)
put-act action args put = ap (λ (f : PP). f put) (parts.fold-act PP PW prog_step way_step action args)

pub put-test : (c : Cond) (put : Put) → prog_put (prog.Test c) put ≡ prog.Test (cond_put c put)
put-test c put = ap (λ (f : PP). f put) (parts.fold-test PP PW prog_step way_step c)

pub put-seq : (p : Prog) (q : Prog) (put : Put) → prog_put (prog.Seq p q) put ≡ prog.Seq (prog_put p put) (prog_put q put)
put-seq p q put = ap (λ (f : PP). f put) (parts.fold-seq PP PW prog_step way_step p q)

pub put-choice : (p : Prog) (q : Prog) (put : Put) → prog_put (prog.Choice p q) put ≡ prog.Choice (prog_put p put) (prog_put q put)
put-choice p q put = ap (λ (f : PP). f put) (parts.fold-choice PP PW prog_step way_step p q)

pub put-pick : (x : ℕ) (sort : ℕ) (p : Prog) (put : Put) → prog_put (prog.Pick x sort p) put ≡ prog.Pick x sort (prog_put p (within x put))
put-pick x sort p put = ap (λ (f : PP). f put) (parts.fold-pick PP PW prog_step way_step x sort p)

pub put-star : (p : Prog) (put : Put) → prog_put (prog.Star p) put ≡ prog.Star (prog_put p put)
put-star p put = ap (λ (f : PP). f put) (parts.fold-star PP PW prog_step way_step p)

pub put-if : (c : Cond) (p : Prog) (q : Prog) (put : Put) → prog_put (prog.If c p q) put ≡ prog.If (cond_put c put) (prog_put p put) (prog_put q put)
put-if c p q put = ap (λ (f : PP). f put) (parts.fold-if PP PW prog_step way_step c p q)

pub put-while : (c : Cond) (p : Prog) (put : Put) → prog_put (prog.While c p) put ≡ prog.While (cond_put c put) (prog_put p put)
put-while c p put = ap (λ (f : PP). f put) (parts.fold-while PP PW prog_step way_step c p)

pub put-conc : (p : Prog) (q : Prog) (put : Put) → prog_put (prog.Conc p q) put ≡ prog.Conc (prog_put p put) (prog_put q put)
put-conc p q put = ap (λ (f : PP). f put) (parts.fold-conc PP PW prog_step way_step p q)

pub put-prio : (p : Prog) (q : Prog) (put : Put) → prog_put (prog.Prio p q) put ≡ prog.Prio (prog_put p put) (prog_put q put)
put-prio p q put = ap (λ (f : PP). f put) (parts.fold-prio PP PW prog_step way_step p q)

pub put-cstar : (p : Prog) (put : Put) → prog_put (prog.Cstar p) put ≡ prog.Cstar (prog_put p put)
put-cstar p put = ap (λ (f : PP). f put) (parts.fold-cstar PP PW prog_step way_step p)

pub put-call : (item : ℕ) (args : List Arg) (put : Put) → prog_put (prog.Call item args) put ≡ prog.Call item (map (arg_put put) args)
put-call item args put = ap (λ (f : PP). f put) (parts.fold-call PP PW prog_step way_step item args)

pub put-search : (depth : ℕ) (fuel : ℕ) (p : Prog) (put : Put) → prog_put (prog.Search depth fuel p) put ≡ prog.Search depth fuel (prog_put p put)
put-search depth fuel p put = ap (λ (f : PP). f put) (parts.fold-search PP PW prog_step way_step depth fuel p)

pub put-follow : (depth : ℕ) (fuel : ℕ) (p : Prog) (rest : List Way) (put : Put) → prog_put (prog.Follow depth fuel p rest) put ≡ prog.Follow depth fuel (prog_put p put) (map (λ w. way_put w put) rest)
put-follow = prog_put-Follow

pub put-way : (label : Label) (left : Prog) (put : Put) → way_put (record { label = label; left = left }) put ≡ record { label = label; left = prog_put left put }
put-way label left put = ap (λ (f : PW). f put) (parts.fold-way PP PW prog_step way_step label left)

module _ (A B : Type 0) (step : Prog-F A B → A) (way_step : Way-F A B → B) where
  -- the step says the same of arguments and conditions with a constant put in
  pub record IgnoresPut : Type 0 where
    pub act_same : (action : ℕ) (args : List Arg) (put : Put) → step (Act action (map (arg_put put) args)) ≡ step (Act action args)
    pub test_same : (c : Cond) (put : Put) → step (Test (cond_put c put)) ≡ step (Test c)
    pub if_same : (c : Cond) (put : Put) (a b : A) → step (If (cond_put c put) a b) ≡ step (If c a b)
    pub while_same : (c : Cond) (put : Put) (a : A) → step (While (cond_put c put) a) ≡ step (While c a)
    pub call_same : (item : ℕ) (args : List Arg) (put : Put) → step (Call item (map (arg_put put) args)) ≡ step (Call item args)

  module _ (s : IgnoresPut) where
    abbrev of : Prog → A
    of = fold-Prog A B step way_step

    abbrev of_way : Way → B
    of_way = fold-Way A B step way_step

    abbrev Same : Prog → Type 0
    Same p = (put : Put) → of (prog_put p put) ≡ of p

    abbrev SameWay : Way → Type 0
    SameWay w = (put : Put) → of_way (way_put w put) ≡ of_way w

    each_same : (rest : List Way) (put : Put) → OfEach SameWay rest → map of_way (map (λ w. way_put w put) rest) ≡ map of_way rest
    each_same [] put h = refl
    each_same (w ∷ rest) put h = let e = h.0 put in let k = each_same rest put h.1 in cc

    cases : Cases Same SameWay
    cases = record {
      nil_case = λ put. ap of (put-nil put) ∙ parts.fold-nil A B step way_step ∙ sym (parts.fold-nil A B step way_step);
      act_case = λ action args put. ap of (put-act action args put) ∙ parts.fold-act A B step way_step action (map (arg_put put) args) ∙ s.act_same action args put ∙ sym (parts.fold-act A B step way_step action args);
      test_case = λ c put. ap of (put-test c put) ∙ parts.fold-test A B step way_step (cond_put c put) ∙ s.test_same c put ∙ sym (parts.fold-test A B step way_step c);
      seq_case = λ p q h0 h1 put. ap of (put-seq p q put) ∙ parts.fold-seq A B step way_step (prog_put p put) (prog_put q put) ∙ ap (λ z. step (Seq z (of (prog_put q put)))) (h0 put) ∙ ap (λ z. step (Seq (of p) z)) (h1 put) ∙ sym (parts.fold-seq A B step way_step p q);
      choice_case = λ p q h0 h1 put. ap of (put-choice p q put) ∙ parts.fold-choice A B step way_step (prog_put p put) (prog_put q put) ∙ ap (λ z. step (Choice z (of (prog_put q put)))) (h0 put) ∙ ap (λ z. step (Choice (of p) z)) (h1 put) ∙ sym (parts.fold-choice A B step way_step p q);
      pick_case = λ x sort p h2 put. ap of (put-pick x sort p put) ∙ parts.fold-pick A B step way_step x sort (prog_put p (within x put)) ∙ ap (λ z. step (Pick x sort z)) (h2 (within x put)) ∙ sym (parts.fold-pick A B step way_step x sort p);
      star_case = λ p h0 put. ap of (put-star p put) ∙ parts.fold-star A B step way_step (prog_put p put) ∙ ap (λ z. step (Star z)) (h0 put) ∙ sym (parts.fold-star A B step way_step p);
      if_case = λ c p q h1 h2 put. ap of (put-if c p q put) ∙ parts.fold-if A B step way_step (cond_put c put) (prog_put p put) (prog_put q put) ∙ s.if_same c put (of (prog_put p put)) (of (prog_put q put)) ∙ ap (λ z. step (If c z (of (prog_put q put)))) (h1 put) ∙ ap (λ z. step (If c (of p) z)) (h2 put) ∙ sym (parts.fold-if A B step way_step c p q);
      while_case = λ c p h1 put. ap of (put-while c p put) ∙ parts.fold-while A B step way_step (cond_put c put) (prog_put p put) ∙ s.while_same c put (of (prog_put p put)) ∙ ap (λ z. step (While c z)) (h1 put) ∙ sym (parts.fold-while A B step way_step c p);
      conc_case = λ p q h0 h1 put. ap of (put-conc p q put) ∙ parts.fold-conc A B step way_step (prog_put p put) (prog_put q put) ∙ ap (λ z. step (Conc z (of (prog_put q put)))) (h0 put) ∙ ap (λ z. step (Conc (of p) z)) (h1 put) ∙ sym (parts.fold-conc A B step way_step p q);
      prio_case = λ p q h0 h1 put. ap of (put-prio p q put) ∙ parts.fold-prio A B step way_step (prog_put p put) (prog_put q put) ∙ ap (λ z. step (Prio z (of (prog_put q put)))) (h0 put) ∙ ap (λ z. step (Prio (of p) z)) (h1 put) ∙ sym (parts.fold-prio A B step way_step p q);
      cstar_case = λ p h0 put. ap of (put-cstar p put) ∙ parts.fold-cstar A B step way_step (prog_put p put) ∙ ap (λ z. step (Cstar z)) (h0 put) ∙ sym (parts.fold-cstar A B step way_step p);
      call_case = λ item args put. ap of (put-call item args put) ∙ parts.fold-call A B step way_step item (map (arg_put put) args) ∙ s.call_same item args put ∙ sym (parts.fold-call A B step way_step item args);
      search_case = λ depth fuel p h2 put. ap of (put-search depth fuel p put) ∙ parts.fold-search A B step way_step depth fuel (prog_put p put) ∙ ap (λ z. step (Search depth fuel z)) (h2 put) ∙ sym (parts.fold-search A B step way_step depth fuel p);
      follow_case = λ depth fuel p rest h2 h3 put. ap of (put-follow depth fuel p rest put) ∙ parts.fold-follow A B step way_step depth fuel (prog_put p put) (map (λ w. way_put w put) rest) ∙ ap (λ z. step (Follow depth fuel z (map of_way (map (λ w. way_put w put) rest)))) (h2 put) ∙ ap (λ z. step (Follow depth fuel (of p) z)) (each_same rest put h3) ∙ sym (parts.fold-follow A B step way_step depth fuel p rest);
      way_case = λ label left h put.
          ap of_way (put-way label left put) ∙ parts.fold-way A B step way_step label (prog_put left put)
          ∙ ap (λ z. way_step (record { label = label; left = z })) (h put) ∙ sym (parts.fold-way A B step way_step label left);
    }

    -- the fold is the same with a constant put in
    pub fold-put : (p : Prog) → Same p
    fold-put = by_parts Same SameWay cases
