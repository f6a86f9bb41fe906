-- What a step leaves of a tidy program is tidy.
use Rattle.std.proofs.Common.{◌≡◌, ℕ, zero, suc, ◌+◌, Bool, true, false, ◌&&◌, if◌then◌else◌, List, [], ◌∷◌, map, Some, refl, sym, ap, ◌∙◌, subst}
use Rattle.std.specs.Prelude.{not, Contains, slice_get}
use Rattle.std.specs.List.{list_all}
use Rattle.golog_tree.specs.declared.agent.Agent.{Agent}
use Rattle.golog_tree.specs.declared.agent.ProcItem.{ProcItem}
use Rattle.golog_tree.specs.declared.cond.Arg.{Arg}
use Rattle.golog_tree.specs.declared.cond.Arg.TheVariants.{Const, Var}
use Rattle.golog_tree.specs.declared.prog.Prog.{Prog}
use Rattle.golog_tree.specs.declared.prog.Prog.TheOpen.{Nil, Act, Test, Seq, Choice, Pick, Star, If, While, Conc, Prio, Cstar, Call, Search, Follow}
use Rattle.golog_tree.specs.declared.prog.Prog.TheVariants as prog
use Rattle.golog_tree.specs.declared.prog.Prog.TheViews.{out-Prog}
use Rattle.golog_tree.specs.declared.prog.Prog.TheFolds.{fold_out-Prog, fold-Way, map-Prog}
use Rattle.golog_tree.specs.declared.prog.Way.{Way}
use Rattle.golog_tree.specs.Tidy.{Layer, tidy_pair, tidy_right, tidy_seq}
use Rattle.golog_semantics.specs.declared.Mode.{Mode}
use Rattle.golog_semantics.specs.declared.search.Move.{Move}
use Rattle.golog_semantics.specs.Truth.{Values}
use Rattle.golog_semantics.specs.Program.{put_arg, put_args, body_with}
use Rattle.golog_semantics.specs.Blocks.{moves}
use Rattle.golog_laws.specs.Tidied.{Tidied, is_tidy, tidied, tidied_step, tidy_parts}
use Rattle.golog_semantics.proofs.BlocksFit.{each-contains}
use Rattle.golog_laws.proofs.BlocksKeep.{along_runs, steps_keep}
use Rattle.golog_semantics.proofs.ByParts as parts
use Rattle.golog_semantics.proofs.ByParts.{OfEach}
use Rattle.golog_semantics.proofs.PlainLaws.{is_nil, left_by_nil, nil_layer, right_by_nil}
use Rattle.golog_semantics.proofs.PutByParts.{IgnoresPut, fold-put}
use Rattle.golog_semantics.proofs.StepsKeep.{InParts, Keeps}
use Rattle.golog_semantics.proofs.Tests.{and_both, and_cases}

abbrev P : Prog → Type 0
P p = is_tidy p ≡ true

abbrev of_tidied : Tidied → Bool
of_tidied t = t.tidy

abbrev tidied_way : Way → Tidied
tidied_way = fold-Way Tidied Tidied tidied_step (λ w. w.left)

empty_layer : (l : Layer) → (tidied_step (map-Prog Prog Way Tidied Tidied tidied tidied_way l)).empty ≡ nil_layer l
empty_layer Nil = refl
empty_layer _ = refl

empty_nil : (p : Prog) → (tidied p).empty ≡ is_nil p
empty_nil p = ap (λ (t : Tidied). t.empty) (fold_out-Prog Tidied Tidied tidied_step (λ w. w.left) p) ∙ empty_layer (out-Prog p)

if_tidy : (b : Bool) (p q : Prog) → P p → (b ≡ false → P q) → P (if b then p else q)
if_tidy true p q h k = h
if_tidy false p q h k = k refl

not_empty : (p : Prog) → is_nil p ≡ false → not (tidied p).empty ≡ true
not_empty p e = ap not (empty_nil p ∙ e)

seq_tidy : (p q : Prog) → P p → P q → P (tidy_seq p q)
seq_tidy p q h k =
    subst P (sym (left_by_nil prog.Seq (out-Prog p) p q))
    (if_tidy (is_nil p) q (prog.Seq p q) k
    (λ e. ap of_tidied (parts.fold-seq Tidied Tidied tidied_step (λ w. w.left) p q)
    ∙ and_both (not (tidied p).empty && is_tidy p) (is_tidy q) (and_both (not (tidied p).empty) (is_tidy p) (not_empty p e) h) k))

parts_tidy : (p q : Prog) → is_nil p ≡ false → is_nil q ≡ false → P p → P q → tidy_parts (tidied p) (tidied q) ≡ true
parts_tidy p q e f h k =
    and_both ((not (tidied p).empty && not (tidied q).empty) && is_tidy p) (is_tidy q)
    (and_both (not (tidied p).empty && not (tidied q).empty) (is_tidy p) (and_both (not (tidied p).empty) (not (tidied q).empty) (not_empty p e) (not_empty q f)) h) k

pair_tidy : (join : Prog → Prog → Prog) → ((p q : Prog) → is_tidy (join p q) ≡ tidy_parts (tidied p) (tidied q)) → (p q : Prog) → P p → P q → P (tidy_pair join p q)
pair_tidy join j p q h k =
    subst P (sym (left_by_nil (tidy_right join (out-Prog q)) (out-Prog p) p q))
    (if_tidy (is_nil p) q (tidy_right join (out-Prog q) p q) k
    (λ e. subst P (sym (right_by_nil join (out-Prog q) p q)) (if_tidy (is_nil q) p (join p q) h (λ f. j p q ∙ parts_tidy p q e f h k))))

ignores : IgnoresPut Tidied Tidied tidied_step (λ w. w.left)
ignores = record { act_same = λ action args put. refl; test_same = λ c put. refl; if_same = λ c put a b. refl; while_same = λ c put a. refl; call_same = λ item args put. refl }

tidy_put : (p : Prog) (x c : ℕ) → is_tidy (put_arg p x c) ≡ is_tidy p
tidy_put p x c = ap of_tidied (fold-put Tidied Tidied tidied_step (λ w. w.left) ignores p (Some (x, c)))

tidy_puts : (args : List Arg) (p : Prog) (x : ℕ) → is_tidy (put_args p x args) ≡ is_tidy p
tidy_puts [] p x = refl
tidy_puts (Const c ∷ args) p x = tidy_puts args (put_arg p x c) (x + 1) ∙ tidy_put p x c
tidy_puts (Var y ∷ args) p x = tidy_puts args p (x + 1)

tidy_body : (procs : List ProcItem) (item : ℕ) (args : List Arg) → list_all (λ (i : ProcItem). is_tidy i.body) procs ≡ true → P (body_with (slice_get procs item) args)
tidy_body [] item args h = ap of_tidied (parts.fold-nil Tidied Tidied tidied_step (λ w. w.left))
tidy_body (i ∷ procs) zero args h = tidy_puts args i.body 0 ∙ (and_cases (is_tidy i.body) (list_all (λ (j : ProcItem). is_tidy j.body) procs) h).0
tidy_body (i ∷ procs) (suc item) args h = tidy_body procs item args (and_cases (is_tidy i.body) (list_all (λ (j : ProcItem). is_tidy j.body) procs) h).1

way_tidy : (w : Way) → (tidied_way w).tidy ≡ is_tidy w.left
way_tidy w = ap of_tidied (parts.fold-way Tidied Tidied tidied_step (λ v. v.left) w.label w.left)

rest_parts : (rest : List Way) → list_all (λ (t : Tidied). t.tidy) (map tidied_way rest) ≡ true → OfEach (λ (w : Way). P w.left) rest
rest_parts [] h = tt
rest_parts (w ∷ rest) h =
    let k = and_cases (tidied_way w).tidy (list_all (λ (t : Tidied). t.tidy) (map tidied_way rest)) h in
    (sym (way_tidy w) ∙ k.0, rest_parts rest k.1)

rest_whole : (rest : List Way) → OfEach (λ (w : Way). P w.left) rest → list_all (λ (t : Tidied). t.tidy) (map tidied_way rest) ≡ true
rest_whole [] h = refl
rest_whole (w ∷ rest) h = and_both (tidied_way w).tidy (list_all (λ (t : Tidied). t.tidy) (map tidied_way rest)) (way_tidy w ∙ h.0) (rest_whole rest h.1)

follow_tidy : (depth fuel : ℕ) (p : Prog) (rest : List Way) → P p → OfEach (λ (w : Way). P w.left) rest → P (prog.Follow depth fuel p rest)
follow_tidy depth fuel p rest h k =
    ap of_tidied (parts.fold-follow Tidied Tidied tidied_step (λ w. w.left) depth fuel p rest)
    ∙ and_both (is_tidy p) (list_all (λ (t : Tidied). t.tidy) (map tidied_way rest)) h (rest_whole rest k)

module _ (agent : Agent) (bodies : list_all (λ (i : ProcItem). is_tidy i.body) agent.procs ≡ true) where
  pair_parts : (p q : Prog) → tidy_parts (tidied p) (tidied q) ≡ true → P p × P q
  pair_parts p q h =
      let k = and_cases ((not (tidied p).empty && not (tidied q).empty) && is_tidy p) (is_tidy q) h in
      let j = and_cases (not (tidied p).empty && not (tidied q).empty) (is_tidy p) k.0 in
      (j.1, k.1)

  in_parts : (l : Layer) → (tidied_step (map-Prog Prog Way Tidied Tidied tidied tidied_way l)).tidy ≡ true → InParts agent (along_runs agent P) l
  in_parts Nil h = tt
  in_parts (Act action args) h = tt
  in_parts (Test c) h = tt
  in_parts (Seq p q) h =
      let k = and_cases (not (tidied p).empty && is_tidy p) (is_tidy q) h in
      ((and_cases (not (tidied p).empty) (is_tidy p) k.0).1, k.1)
  in_parts (Choice p q) h = and_cases (is_tidy p) (is_tidy q) h
  in_parts (Pick x sort p) h = λ c l. tidy_put p x c ∙ h
  in_parts (Star p) h = (h, ap of_tidied (parts.fold-star Tidied Tidied tidied_step (λ w. w.left) p) ∙ h)
  in_parts (If c p q) h = and_cases (is_tidy p) (is_tidy q) h
  in_parts (While c p) h = (h, ap of_tidied (parts.fold-while Tidied Tidied tidied_step (λ w. w.left) c p) ∙ h)
  in_parts (Conc p q) h = pair_parts p q h
  in_parts (Prio p q) h = pair_parts p q h
  in_parts (Cstar p) h = (h, ap of_tidied (parts.fold-cstar Tidied Tidied tidied_step (λ w. w.left) p) ∙ h)
  in_parts (Call item args) h = tidy_body agent.procs item args bodies
  in_parts (Search depth fuel p) h = (h, tt)
  in_parts (Follow depth fuel p rest) h =
      let k = and_cases (is_tidy p) (list_all (λ (t : Tidied). t.tidy) (map tidied_way rest)) h in
      (k.0, rest_parts rest k.1)

  keeps : Keeps agent (along_runs agent P)
  keeps = record {
    of_nil = ap of_tidied (parts.fold-nil Tidied Tidied tidied_step (λ w. w.left));
    of_seq = seq_tidy;
    of_conc = pair_tidy prog.Conc (λ p q. ap of_tidied (parts.fold-conc Tidied Tidied tidied_step (λ w. w.left) p q));
    of_prio = pair_tidy prog.Prio (λ p q. ap of_tidied (parts.fold-prio Tidied Tidied tidied_step (λ w. w.left) p q));
    parts = λ p h. in_parts (out-Prog p) (sym (ap of_tidied (fold_out-Prog Tidied Tidied tidied_step (λ w. w.left) p)) ∙ h);
  }

  pub lefts_tidy : (values : Values) (m : Mode) (p : Prog) → P p → (step : Move) → Contains (moves agent values m p) step → P step.left
  lefts_tidy values m p h step c = each-contains (λ (k : Move). P k.left) (moves agent values m p) step (steps_keep agent P keeps follow_tidy values m p h) c
