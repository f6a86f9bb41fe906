-- Putting constants in, writing runs under way as blocks, and tidying go together.
use Rattle.std.proofs.Common.{◌≡◌, Bool, true, false, if◌then◌else◌, List, map, refl, sym, ap, ◌∙◌}
use Rattle.golog_tree.specs.declared.prog.Prog.{Prog}
use Rattle.golog_tree.specs.declared.prog.Way.{Way}
use Rattle.golog_tree.specs.declared.prog.Prog.TheOpen.{Nil, Seq, Choice, Pick, Star, If, While, Conc, Prio, Cstar, Search}
use Rattle.golog_tree.specs.declared.prog.Prog.TheVariants as prog
use Rattle.golog_tree.specs.declared.prog.Prog.TheViews.{out-Prog}
use Rattle.golog_semantics.proofs.ByParts as parts
use Rattle.golog_semantics.proofs.ByParts.{OfEach}
use Rattle.golog_tree.specs.Substitute.{Put, within, arg_put, cond_put, prog_put, way_put}
use Rattle.golog_tree.specs.Tidy.{Layer, tidy_conc, tidy_left, tidy_pair, tidy_prio, tidy_right, tidy_seq}
use Rattle.golog_semantics.specs.Guarded.{Front, front_by, front_step, no_front}
use Rattle.golog_semantics.specs.Plain.{plain, plain_step, plain_way}
use Rattle.golog_semantics.proofs.PutByParts as puts

-- the empty program
abbrev pub nil_layer : Layer → Bool
nil_layer Nil = true
nil_layer _ = false

abbrev pub is_nil : Prog → Bool
is_nil p = nil_layer (out-Prog p)

pub left_by_nil : (join : Prog → Prog → Prog) (l : Layer) (p q : Prog) → tidy_left join l p q ≡ (if nil_layer l then q else join p q)
left_by_nil join Nil p q = refl
left_by_nil join _ p q = refl

pub right_by_nil : (join : Prog → Prog → Prog) (l : Layer) (p q : Prog) → tidy_right join l p q ≡ (if nil_layer l then p else join p q)
right_by_nil join Nil p q = refl
right_by_nil join _ p q = refl

abbrev free : Way → Type 0
free w = Unit {0}

abbrev NilPlain : Prog → Type 0
NilPlain p = is_nil (plain p) ≡ is_nil p

nil_plain_cases : parts.Cases NilPlain free
nil_plain_cases = record {
  nil_case = ap is_nil (parts.fold-nil Prog Way plain_step plain_way) ∙ ap nil_layer prog.outs-Nil ∙ sym (ap nil_layer prog.outs-Nil);
  act_case = λ action args. ap is_nil (parts.fold-act Prog Way plain_step plain_way action args) ∙ ap nil_layer (prog.outs-Act action args) ∙ sym (ap nil_layer (prog.outs-Act action args));
  test_case = λ c. ap is_nil (parts.fold-test Prog Way plain_step plain_way c) ∙ ap nil_layer (prog.outs-Test c) ∙ sym (ap nil_layer (prog.outs-Test c));
  seq_case = λ p q h0 h1. ap is_nil (parts.fold-seq Prog Way plain_step plain_way p q) ∙ ap nil_layer (prog.outs-Seq (plain p) (plain q)) ∙ sym (ap nil_layer (prog.outs-Seq p q));
  choice_case = λ p q h0 h1. ap is_nil (parts.fold-choice Prog Way plain_step plain_way p q) ∙ ap nil_layer (prog.outs-Choice (plain p) (plain q)) ∙ sym (ap nil_layer (prog.outs-Choice p q));
  pick_case = λ x sort p h2. ap is_nil (parts.fold-pick Prog Way plain_step plain_way x sort p) ∙ ap nil_layer (prog.outs-Pick x sort (plain p)) ∙ sym (ap nil_layer (prog.outs-Pick x sort p));
  star_case = λ p h0. ap is_nil (parts.fold-star Prog Way plain_step plain_way p) ∙ ap nil_layer (prog.outs-Star (plain p)) ∙ sym (ap nil_layer (prog.outs-Star p));
  if_case = λ c p q h1 h2. ap is_nil (parts.fold-if Prog Way plain_step plain_way c p q) ∙ ap nil_layer (prog.outs-If c (plain p) (plain q)) ∙ sym (ap nil_layer (prog.outs-If c p q));
  while_case = λ c p h1. ap is_nil (parts.fold-while Prog Way plain_step plain_way c p) ∙ ap nil_layer (prog.outs-While c (plain p)) ∙ sym (ap nil_layer (prog.outs-While c p));
  conc_case = λ p q h0 h1. ap is_nil (parts.fold-conc Prog Way plain_step plain_way p q) ∙ ap nil_layer (prog.outs-Conc (plain p) (plain q)) ∙ sym (ap nil_layer (prog.outs-Conc p q));
  prio_case = λ p q h0 h1. ap is_nil (parts.fold-prio Prog Way plain_step plain_way p q) ∙ ap nil_layer (prog.outs-Prio (plain p) (plain q)) ∙ sym (ap nil_layer (prog.outs-Prio p q));
  cstar_case = λ p h0. ap is_nil (parts.fold-cstar Prog Way plain_step plain_way p) ∙ ap nil_layer (prog.outs-Cstar (plain p)) ∙ sym (ap nil_layer (prog.outs-Cstar p));
  call_case = λ item args. ap is_nil (parts.fold-call Prog Way plain_step plain_way item args) ∙ ap nil_layer (prog.outs-Call item args) ∙ sym (ap nil_layer (prog.outs-Call item args));
  search_case = λ depth fuel p h2. ap is_nil (parts.fold-search Prog Way plain_step plain_way depth fuel p) ∙ ap nil_layer (prog.outs-Search depth fuel (plain p)) ∙ sym (ap nil_layer (prog.outs-Search depth fuel p));
  follow_case = λ depth fuel p rest h2 h3. ap is_nil (parts.fold-follow Prog Way plain_step plain_way depth fuel p rest) ∙ ap nil_layer (prog.outs-Search depth fuel (plain p)) ∙ sym (ap nil_layer (prog.outs-Follow depth fuel p rest));
  way_case = λ label left h. tt;
}

nil_plain : (p : Prog) → is_nil (plain p) ≡ is_nil p
nil_plain = parts.by_parts NilPlain free nil_plain_cases

abbrev NilPut : Prog → Type 0
NilPut p = (put : Put) → is_nil (prog_put p put) ≡ is_nil p

nil_put_cases : parts.Cases NilPut free
nil_put_cases = record {
  nil_case = λ put. ap is_nil (puts.put-nil put) ∙ ap nil_layer prog.outs-Nil ∙ sym (ap nil_layer prog.outs-Nil);
  act_case = λ action args put. ap is_nil (puts.put-act action args put) ∙ ap nil_layer (prog.outs-Act action (map (arg_put put) args)) ∙ sym (ap nil_layer (prog.outs-Act action args));
  test_case = λ c put. ap is_nil (puts.put-test c put) ∙ ap nil_layer (prog.outs-Test (cond_put c put)) ∙ sym (ap nil_layer (prog.outs-Test c));
  seq_case = λ p q h0 h1 put. ap is_nil (puts.put-seq p q put) ∙ ap nil_layer (prog.outs-Seq (prog_put p put) (prog_put q put)) ∙ sym (ap nil_layer (prog.outs-Seq p q));
  choice_case = λ p q h0 h1 put. ap is_nil (puts.put-choice p q put) ∙ ap nil_layer (prog.outs-Choice (prog_put p put) (prog_put q put)) ∙ sym (ap nil_layer (prog.outs-Choice p q));
  pick_case = λ x sort p h2 put. ap is_nil (puts.put-pick x sort p put) ∙ ap nil_layer (prog.outs-Pick x sort (prog_put p (within x put))) ∙ sym (ap nil_layer (prog.outs-Pick x sort p));
  star_case = λ p h0 put. ap is_nil (puts.put-star p put) ∙ ap nil_layer (prog.outs-Star (prog_put p put)) ∙ sym (ap nil_layer (prog.outs-Star p));
  if_case = λ c p q h1 h2 put. ap is_nil (puts.put-if c p q put) ∙ ap nil_layer (prog.outs-If (cond_put c put) (prog_put p put) (prog_put q put)) ∙ sym (ap nil_layer (prog.outs-If c p q));
  while_case = λ c p h1 put. ap is_nil (puts.put-while c p put) ∙ ap nil_layer (prog.outs-While (cond_put c put) (prog_put p put)) ∙ sym (ap nil_layer (prog.outs-While c p));
  conc_case = λ p q h0 h1 put. ap is_nil (puts.put-conc p q put) ∙ ap nil_layer (prog.outs-Conc (prog_put p put) (prog_put q put)) ∙ sym (ap nil_layer (prog.outs-Conc p q));
  prio_case = λ p q h0 h1 put. ap is_nil (puts.put-prio p q put) ∙ ap nil_layer (prog.outs-Prio (prog_put p put) (prog_put q put)) ∙ sym (ap nil_layer (prog.outs-Prio p q));
  cstar_case = λ p h0 put. ap is_nil (puts.put-cstar p put) ∙ ap nil_layer (prog.outs-Cstar (prog_put p put)) ∙ sym (ap nil_layer (prog.outs-Cstar p));
  call_case = λ item args put. ap is_nil (puts.put-call item args put) ∙ ap nil_layer (prog.outs-Call item (map (arg_put put) args)) ∙ sym (ap nil_layer (prog.outs-Call item args));
  search_case = λ depth fuel p h2 put. ap is_nil (puts.put-search depth fuel p put) ∙ ap nil_layer (prog.outs-Search depth fuel (prog_put p put)) ∙ sym (ap nil_layer (prog.outs-Search depth fuel p));
  follow_case = λ depth fuel p rest h2 h3 put. ap is_nil (puts.put-follow depth fuel p rest put) ∙ ap nil_layer (prog.outs-Follow depth fuel (prog_put p put) (map (λ w. way_put w put) rest)) ∙ sym (ap nil_layer (prog.outs-Follow depth fuel p rest));
  way_case = λ label left h. tt;
}

nil_put : (p : Prog) → NilPut p
nil_put = parts.by_parts NilPut free nil_put_cases

-- a map of programs that keeps what is empty goes along with tidying
module _ (f : Prog → Prog) (nil_same : (p : Prog) → is_nil (f p) ≡ is_nil p) where
  if_map : (b : Bool) (p q : Prog) → f (if b then p else q) ≡ (if b then f p else f q)
  if_map true p q = refl
  if_map false p q = refl

  left_map : (join : Prog → Prog → Prog) (p q r : Prog) → f (join p q) ≡ r → f (tidy_left join (out-Prog p) p q) ≡ (if is_nil (f p) then f q else r)
  left_map join p q r e =
      ap f (left_by_nil join (out-Prog p) p q) ∙ if_map (is_nil p) q (join p q) ∙ ap (λ z. if is_nil p then f q else z) e ∙ ap (λ b. if b then f q else r) (sym (nil_same p))

  right_map : (join : Prog → Prog → Prog) (p q : Prog) → f (join p q) ≡ join (f p) (f q) → f (tidy_right join (out-Prog q) p q) ≡ tidy_right join (out-Prog (f q)) (f p) (f q)
  right_map join p q e =
      ap f (right_by_nil join (out-Prog q) p q) ∙ if_map (is_nil q) p (join p q) ∙ ap (λ z. if is_nil q then f p else z) e
      ∙ ap (λ b. if b then f p else join (f p) (f q)) (sym (nil_same q)) ∙ sym (right_by_nil join (out-Prog (f q)) (f p) (f q))

  pub seq_map : (p q : Prog) → f (prog.Seq p q) ≡ prog.Seq (f p) (f q) → f (tidy_seq p q) ≡ tidy_seq (f p) (f q)
  seq_map p q e = left_map prog.Seq p q (prog.Seq (f p) (f q)) e ∙ sym (left_by_nil prog.Seq (out-Prog (f p)) (f p) (f q))

  pub pair_map : (join : Prog → Prog → Prog) (p q : Prog) → f (join p q) ≡ join (f p) (f q) → f (tidy_pair join p q) ≡ tidy_pair join (f p) (f q)
  pair_map join p q e =
      left_map (tidy_right join (out-Prog q)) p q (tidy_right join (out-Prog (f q)) (f p) (f q)) (right_map join p q e)
      ∙ sym (left_by_nil (tidy_right join (out-Prog (f q))) (out-Prog (f p)) (f p) (f q))

pub plain_seq : (p q : Prog) → plain (tidy_seq p q) ≡ tidy_seq (plain p) (plain q)
plain_seq p q = seq_map plain nil_plain p q (parts.fold-seq Prog Way plain_step plain_way p q)

pub plain_conc : (p q : Prog) → plain (tidy_conc p q) ≡ tidy_conc (plain p) (plain q)
plain_conc p q = pair_map plain nil_plain prog.Conc p q (parts.fold-conc Prog Way plain_step plain_way p q)

pub plain_prio : (p q : Prog) → plain (tidy_prio p q) ≡ tidy_prio (plain p) (plain q)
plain_prio p q = pair_map plain nil_plain prog.Prio p q (parts.fold-prio Prog Way plain_step plain_way p q)

pub put_seq : (p q : Prog) (put : Put) → prog_put (tidy_seq p q) put ≡ tidy_seq (prog_put p put) (prog_put q put)
put_seq p q put = seq_map (λ r. prog_put r put) (λ r. nil_put r put) p q (puts.put-seq p q put)

pub put_conc : (p q : Prog) (put : Put) → prog_put (tidy_conc p q) put ≡ tidy_conc (prog_put p put) (prog_put q put)
put_conc p q put = pair_map (λ r. prog_put r put) (λ r. nil_put r put) prog.Conc p q (puts.put-conc p q put)

pub put_prio : (p q : Prog) (put : Put) → prog_put (tidy_prio p q) put ≡ tidy_prio (prog_put p put) (prog_put q put)
put_prio p q put = pair_map (λ r. prog_put r put) (λ r. nil_put r put) prog.Prio p q (puts.put-prio p q put)

abbrev PlainPut : Prog → Type 0
PlainPut p = (put : Put) → plain (prog_put p put) ≡ prog_put (plain p) put

plain_put_cases : parts.Cases PlainPut free
plain_put_cases = record {
  nil_case = λ put. ap plain (puts.put-nil put) ∙ parts.fold-nil Prog Way plain_step plain_way ∙ sym (ap (λ z. prog_put z put) (parts.fold-nil Prog Way plain_step plain_way) ∙ puts.put-nil put);
  act_case = λ action args put. ap plain (puts.put-act action args put) ∙ parts.fold-act Prog Way plain_step plain_way action (map (arg_put put) args) ∙ sym (ap (λ z. prog_put z put) (parts.fold-act Prog Way plain_step plain_way action args) ∙ puts.put-act action args put);
  test_case = λ c put. ap plain (puts.put-test c put) ∙ parts.fold-test Prog Way plain_step plain_way (cond_put c put) ∙ sym (ap (λ z. prog_put z put) (parts.fold-test Prog Way plain_step plain_way c) ∙ puts.put-test c put);
  seq_case = λ p q h0 h1 put. ap plain (puts.put-seq p q put) ∙ parts.fold-seq Prog Way plain_step plain_way (prog_put p put) (prog_put q put) ∙ ap (λ z. prog.Seq z (plain (prog_put q put))) (h0 put) ∙ ap (λ z. prog.Seq (prog_put (plain p) put) z) (h1 put) ∙ sym (ap (λ z. prog_put z put) (parts.fold-seq Prog Way plain_step plain_way p q) ∙ puts.put-seq (plain p) (plain q) put);
  choice_case = λ p q h0 h1 put. ap plain (puts.put-choice p q put) ∙ parts.fold-choice Prog Way plain_step plain_way (prog_put p put) (prog_put q put) ∙ ap (λ z. prog.Choice z (plain (prog_put q put))) (h0 put) ∙ ap (λ z. prog.Choice (prog_put (plain p) put) z) (h1 put) ∙ sym (ap (λ z. prog_put z put) (parts.fold-choice Prog Way plain_step plain_way p q) ∙ puts.put-choice (plain p) (plain q) put);
  pick_case = λ x sort p h2 put. ap plain (puts.put-pick x sort p put) ∙ parts.fold-pick Prog Way plain_step plain_way x sort (prog_put p (within x put)) ∙ ap (λ z. prog.Pick x sort z) (h2 (within x put)) ∙ sym (ap (λ z. prog_put z put) (parts.fold-pick Prog Way plain_step plain_way x sort p) ∙ puts.put-pick x sort (plain p) put);
  star_case = λ p h0 put. ap plain (puts.put-star p put) ∙ parts.fold-star Prog Way plain_step plain_way (prog_put p put) ∙ ap (λ z. prog.Star z) (h0 put) ∙ sym (ap (λ z. prog_put z put) (parts.fold-star Prog Way plain_step plain_way p) ∙ puts.put-star (plain p) put);
  if_case = λ c p q h1 h2 put. ap plain (puts.put-if c p q put) ∙ parts.fold-if Prog Way plain_step plain_way (cond_put c put) (prog_put p put) (prog_put q put) ∙ ap (λ z. prog.If (cond_put c put) z (plain (prog_put q put))) (h1 put) ∙ ap (λ z. prog.If (cond_put c put) (prog_put (plain p) put) z) (h2 put) ∙ sym (ap (λ z. prog_put z put) (parts.fold-if Prog Way plain_step plain_way c p q) ∙ puts.put-if c (plain p) (plain q) put);
  while_case = λ c p h1 put. ap plain (puts.put-while c p put) ∙ parts.fold-while Prog Way plain_step plain_way (cond_put c put) (prog_put p put) ∙ ap (λ z. prog.While (cond_put c put) z) (h1 put) ∙ sym (ap (λ z. prog_put z put) (parts.fold-while Prog Way plain_step plain_way c p) ∙ puts.put-while c (plain p) put);
  conc_case = λ p q h0 h1 put. ap plain (puts.put-conc p q put) ∙ parts.fold-conc Prog Way plain_step plain_way (prog_put p put) (prog_put q put) ∙ ap (λ z. prog.Conc z (plain (prog_put q put))) (h0 put) ∙ ap (λ z. prog.Conc (prog_put (plain p) put) z) (h1 put) ∙ sym (ap (λ z. prog_put z put) (parts.fold-conc Prog Way plain_step plain_way p q) ∙ puts.put-conc (plain p) (plain q) put);
  prio_case = λ p q h0 h1 put. ap plain (puts.put-prio p q put) ∙ parts.fold-prio Prog Way plain_step plain_way (prog_put p put) (prog_put q put) ∙ ap (λ z. prog.Prio z (plain (prog_put q put))) (h0 put) ∙ ap (λ z. prog.Prio (prog_put (plain p) put) z) (h1 put) ∙ sym (ap (λ z. prog_put z put) (parts.fold-prio Prog Way plain_step plain_way p q) ∙ puts.put-prio (plain p) (plain q) put);
  cstar_case = λ p h0 put. ap plain (puts.put-cstar p put) ∙ parts.fold-cstar Prog Way plain_step plain_way (prog_put p put) ∙ ap (λ z. prog.Cstar z) (h0 put) ∙ sym (ap (λ z. prog_put z put) (parts.fold-cstar Prog Way plain_step plain_way p) ∙ puts.put-cstar (plain p) put);
  call_case = λ item args put. ap plain (puts.put-call item args put) ∙ parts.fold-call Prog Way plain_step plain_way item (map (arg_put put) args) ∙ sym (ap (λ z. prog_put z put) (parts.fold-call Prog Way plain_step plain_way item args) ∙ puts.put-call item args put);
  search_case = λ depth fuel p h2 put. ap plain (puts.put-search depth fuel p put) ∙ parts.fold-search Prog Way plain_step plain_way depth fuel (prog_put p put) ∙ ap (λ z. prog.Search depth fuel z) (h2 put) ∙ sym (ap (λ z. prog_put z put) (parts.fold-search Prog Way plain_step plain_way depth fuel p) ∙ puts.put-search depth fuel (plain p) put);
  follow_case = λ depth fuel p rest h2 h3 put. ap plain (puts.put-follow depth fuel p rest put) ∙ parts.fold-follow Prog Way plain_step plain_way depth fuel (prog_put p put) (map (λ w. way_put w put) rest) ∙ ap (λ z. prog.Search depth fuel z) (h2 put) ∙ sym (ap (λ z. prog_put z put) (parts.fold-follow Prog Way plain_step plain_way depth fuel p rest) ∙ puts.put-search depth fuel (plain p) put);
  way_case = λ label left h. tt;
}

pub plain_put : (p : Prog) → PlainPut p
plain_put = parts.by_parts PlainPut free plain_put_cases

module _ (procs : List Front) where
  abbrev FrontPlain : Prog → Type 0
  FrontPlain p = front_by procs (plain p) ≡ front_by procs p

  front_plain_cases : parts.Cases FrontPlain free
  front_plain_cases = record {
    nil_case = ap (front_by procs) (parts.fold-nil Prog Way plain_step plain_way) ∙ parts.fold-nil Front Front (front_step procs) (λ w. no_front) ∙ sym (parts.fold-nil Front Front (front_step procs) (λ w. no_front));
    act_case = λ action args. ap (front_by procs) (parts.fold-act Prog Way plain_step plain_way action args) ∙ parts.fold-act Front Front (front_step procs) (λ w. no_front) action args ∙ sym (parts.fold-act Front Front (front_step procs) (λ w. no_front) action args);
    test_case = λ c. ap (front_by procs) (parts.fold-test Prog Way plain_step plain_way c) ∙ parts.fold-test Front Front (front_step procs) (λ w. no_front) c ∙ sym (parts.fold-test Front Front (front_step procs) (λ w. no_front) c);
    seq_case = λ p q h0 h1. ap (front_by procs) (parts.fold-seq Prog Way plain_step plain_way p q) ∙ parts.fold-seq Front Front (front_step procs) (λ w. no_front) (plain p) (plain q) ∙ ap (λ z. front_step procs (Seq z (front_by procs (plain q)))) h0 ∙ ap (λ z. front_step procs (Seq (front_by procs p) z)) h1 ∙ sym (parts.fold-seq Front Front (front_step procs) (λ w. no_front) p q);
    choice_case = λ p q h0 h1. ap (front_by procs) (parts.fold-choice Prog Way plain_step plain_way p q) ∙ parts.fold-choice Front Front (front_step procs) (λ w. no_front) (plain p) (plain q) ∙ ap (λ z. front_step procs (Choice z (front_by procs (plain q)))) h0 ∙ ap (λ z. front_step procs (Choice (front_by procs p) z)) h1 ∙ sym (parts.fold-choice Front Front (front_step procs) (λ w. no_front) p q);
    pick_case = λ x sort p h2. ap (front_by procs) (parts.fold-pick Prog Way plain_step plain_way x sort p) ∙ parts.fold-pick Front Front (front_step procs) (λ w. no_front) x sort (plain p) ∙ ap (λ z. front_step procs (Pick x sort z)) h2 ∙ sym (parts.fold-pick Front Front (front_step procs) (λ w. no_front) x sort p);
    star_case = λ p h0. ap (front_by procs) (parts.fold-star Prog Way plain_step plain_way p) ∙ parts.fold-star Front Front (front_step procs) (λ w. no_front) (plain p) ∙ ap (λ z. front_step procs (Star z)) h0 ∙ sym (parts.fold-star Front Front (front_step procs) (λ w. no_front) p);
    if_case = λ c p q h1 h2. ap (front_by procs) (parts.fold-if Prog Way plain_step plain_way c p q) ∙ parts.fold-if Front Front (front_step procs) (λ w. no_front) c (plain p) (plain q) ∙ ap (λ z. front_step procs (If c z (front_by procs (plain q)))) h1 ∙ ap (λ z. front_step procs (If c (front_by procs p) z)) h2 ∙ sym (parts.fold-if Front Front (front_step procs) (λ w. no_front) c p q);
    while_case = λ c p h1. ap (front_by procs) (parts.fold-while Prog Way plain_step plain_way c p) ∙ parts.fold-while Front Front (front_step procs) (λ w. no_front) c (plain p) ∙ ap (λ z. front_step procs (While c z)) h1 ∙ sym (parts.fold-while Front Front (front_step procs) (λ w. no_front) c p);
    conc_case = λ p q h0 h1. ap (front_by procs) (parts.fold-conc Prog Way plain_step plain_way p q) ∙ parts.fold-conc Front Front (front_step procs) (λ w. no_front) (plain p) (plain q) ∙ ap (λ z. front_step procs (Conc z (front_by procs (plain q)))) h0 ∙ ap (λ z. front_step procs (Conc (front_by procs p) z)) h1 ∙ sym (parts.fold-conc Front Front (front_step procs) (λ w. no_front) p q);
    prio_case = λ p q h0 h1. ap (front_by procs) (parts.fold-prio Prog Way plain_step plain_way p q) ∙ parts.fold-prio Front Front (front_step procs) (λ w. no_front) (plain p) (plain q) ∙ ap (λ z. front_step procs (Prio z (front_by procs (plain q)))) h0 ∙ ap (λ z. front_step procs (Prio (front_by procs p) z)) h1 ∙ sym (parts.fold-prio Front Front (front_step procs) (λ w. no_front) p q);
    cstar_case = λ p h0. ap (front_by procs) (parts.fold-cstar Prog Way plain_step plain_way p) ∙ parts.fold-cstar Front Front (front_step procs) (λ w. no_front) (plain p) ∙ ap (λ z. front_step procs (Cstar z)) h0 ∙ sym (parts.fold-cstar Front Front (front_step procs) (λ w. no_front) p);
    call_case = λ item args. ap (front_by procs) (parts.fold-call Prog Way plain_step plain_way item args) ∙ parts.fold-call Front Front (front_step procs) (λ w. no_front) item args ∙ sym (parts.fold-call Front Front (front_step procs) (λ w. no_front) item args);
    search_case = λ depth fuel p h2. ap (front_by procs) (parts.fold-search Prog Way plain_step plain_way depth fuel p) ∙ parts.fold-search Front Front (front_step procs) (λ w. no_front) depth fuel (plain p) ∙ ap (λ z. front_step procs (Search depth fuel z)) h2 ∙ sym (parts.fold-search Front Front (front_step procs) (λ w. no_front) depth fuel p);
    follow_case = λ depth fuel p rest h2 h3. ap (front_by procs) (parts.fold-follow Prog Way plain_step plain_way depth fuel p rest) ∙ parts.fold-search Front Front (front_step procs) (λ w. no_front) depth fuel (plain p) ∙ ap (λ z. front_step procs (Search depth fuel z)) h2 ∙ sym (parts.fold-follow Front Front (front_step procs) (λ w. no_front) depth fuel p rest);
    way_case = λ label left h. tt;
  }

  pub front_plain : (p : Prog) → front_by procs (plain p) ≡ front_by procs p
  front_plain = parts.by_parts FrontPlain free front_plain_cases
