-- Runs under way in a program and in its parts.
use Rattle.std.proofs.Common.{◌≡◌, ℕ, zero, suc, ◌+◌, true, ◌&&◌, List, [], ◌∷◌, length, map, Some, refl, sym, ap, ◌∙◌, arith}
use Rattle.std.specs.Prelude.{nat_le, slice_get}
use Rattle.std.specs.List.{list_all}
use Rattle.std.proofs.lemmas.List.{length-map}
use Rattle.golog_tree.specs.declared.agent.Agent.{Agent}
use Rattle.golog_tree.specs.declared.agent.ProcItem.{ProcItem}
use Rattle.golog_tree.specs.declared.cond.Arg.{Arg}
use Rattle.golog_tree.specs.declared.cond.Arg.TheVariants.{Const, Var}
use Rattle.golog_tree.specs.declared.prog.Prog.{Prog}
use Rattle.golog_tree.specs.declared.prog.Way.{Way}
use Rattle.golog_tree.specs.declared.prog.Prog.TheOpen.{Prog-F, Nil, Act, Test, Seq, Choice, Pick, Star, If, While, Conc, Prio, Cstar, Call, Search, Follow}
use Rattle.golog_tree.specs.declared.prog.Prog.TheViews.{out-Prog}
use Rattle.golog_tree.specs.declared.prog.Prog.TheFolds.{fold_out-Prog, fold-Way, map-Prog}
use Rattle.golog_tree.specs.Nest.{nest, nest_step}
use Rattle.golog_tree.specs.Tidy.{Layer}
use Rattle.golog_semantics.specs.Program.{put_arg, put_args, body_with}
use Rattle.golog_semantics.specs.Search.{is_followed, nest_limit}
use Rattle.golog_certain.specs.FollowedRuns.{Ran, found_step, ran, ran_step, run_within, runs_within}
use Rattle.golog_semantics.proofs.ByParts as parts
use Rattle.golog_semantics.proofs.ByParts.{OfEach}
use Rattle.golog_semantics.proofs.FoldsRelated.{Leaf, free, Answers, WayAnswers, folds_related, ones, twos}
use Rattle.golog_semantics.proofs.FrontParts.{AtFront, Claim, GoesOn}
use Rattle.golog_semantics.proofs.PutByParts.{IgnoresPut, fold-put}
use Rattle.golog_semantics.proofs.Tests.{and_cases}

abbrev SameNest : Ran → ℕ → Leaf → Type 0
SameNest r n u = r.nest ≡ n

abbrev Y : Type 0
Y = Prog-F (Answers Ran ℕ Leaf Ran ℕ Leaf SameNest free) (WayAnswers Ran ℕ Leaf Ran ℕ Leaf SameNest free)

nest_step-same : (y : Y) → SameNest (ran_step (ones Ran ℕ Leaf Ran ℕ Leaf SameNest free y)) (nest_step (twos Ran ℕ Leaf Ran ℕ Leaf SameNest free y)) tt
nest_step-same Nil = refl
nest_step-same (Act action args) = refl
nest_step-same (Test c) = refl
nest_step-same (Seq p q) = let h = p.related in let k = q.related in cc
nest_step-same (Choice p q) = let h = p.related in let k = q.related in cc
nest_step-same (Pick x sort p) = let h = p.related in cc
nest_step-same (Star p) = let h = p.related in cc
nest_step-same (If c p q) = let h = p.related in let k = q.related in cc
nest_step-same (While c p) = let h = p.related in cc
nest_step-same (Conc p q) = let h = p.related in let k = q.related in cc
nest_step-same (Prio p q) = let h = p.related in let k = q.related in cc
nest_step-same (Cstar p) = let h = p.related in cc
nest_step-same (Call item args) = refl
nest_step-same (Search depth fuel p) = let h = p.related in cc
nest_step-same (Follow depth fuel p rest) = let h = p.related in cc

pub ran-nest : (p : Prog) → (ran p).nest ≡ nest p
ran-nest =
    folds_related Ran ℕ Leaf Ran ℕ Leaf SameNest free ran_step (λ w. w.left) nest_step (λ w. 0) (λ y. tt) (λ w. tt)
    (record { of_layer = nest_step-same; of_way = λ a b c label h. tt })

ignores : IgnoresPut Ran Ran ran_step (λ w. w.left)
ignores = record { act_same = λ action args put. refl; test_same = λ c put. refl; if_same = λ c put a b. refl; while_same = λ c put a. refl; call_same = λ item args put. refl }

pub within_put : (p : Prog) (x c : ℕ) → runs_within (put_arg p x c) ≡ runs_within p
within_put p x c = ap (λ (r : Ran). r.found) (fold-put Ran Ran ran_step (λ w. w.left) ignores p (Some (x, c)))

within_puts : (args : List Arg) (p : Prog) (x : ℕ) → runs_within (put_args p x args) ≡ runs_within p
within_puts [] p x = refl
within_puts (Const c ∷ args) p x = within_puts args (put_arg p x c) (x + 1) ∙ within_put p x c
within_puts (Var y ∷ args) p x = within_puts args p (x + 1)

pub within_body-of : (procs : List ProcItem) (item : ℕ) (args : List Arg) → list_all (λ (i : ProcItem). runs_within i.body) procs ≡ true → runs_within (body_with (slice_get procs item) args) ≡ true
within_body-of [] item args h = ap (λ (r : Ran). r.found) (parts.fold-nil Ran Ran ran_step (λ w. w.left))
within_body-of (i ∷ procs) zero args h = within_puts args i.body 0 ∙ (and_cases (runs_within i.body) (list_all (λ (j : ProcItem). runs_within j.body) procs) h).0
within_body-of (i ∷ procs) (suc item) args h = within_body-of procs item args (and_cases (runs_within i.body) (list_all (λ (j : ProcItem). runs_within j.body) procs) h).1

-- the rest of a run is no longer than the depth, and each way in it may be followed
pub record RestWithin (depth : ℕ) (rest : List Way) : Type 0 where
  pub short : nat_le (length rest) depth ≡ true
  pub followed : OfEach (λ w. is_followed w ≡ true) rest
  pub lefts : OfEach (λ (w : Way). runs_within w.left ≡ true) rest

abbrev pub ran_way : Way → Ran
ran_way = fold-Way Ran Ran ran_step (λ w. w.left)

pub way_ran : (w : Way) → ran_way w ≡ ran w.left
way_ran w = parts.fold-way Ran Ran ran_step (λ w. w.left) w.label w.left

pub rest_parts : (rest : List Way) → list_all (λ (r : Ran). nat_le r.nest nest_limit && r.found) (map ran_way rest) ≡ true
    → OfEach (λ w. is_followed w ≡ true) rest × OfEach (λ (w : Way). runs_within w.left ≡ true) rest
rest_parts [] h = (tt, tt)
rest_parts (w ∷ rest) h =
    let k = and_cases (nat_le (ran_way w).nest nest_limit && (ran_way w).found) (list_all (λ (r : Ran). nat_le r.nest nest_limit && r.found) (map ran_way rest)) h in
    let j = and_cases (nat_le (ran_way w).nest nest_limit) (ran_way w).found k.0 in
    let more = rest_parts rest k.1 in
    ((sym (ap (λ n. nat_le n nest_limit) (ap (λ (r : Ran). r.nest) (way_ran w) ∙ ran-nest w.left)) ∙ j.0, more.0), (sym (ap (λ (r : Ran). r.found) (way_ran w)) ∙ j.1, more.1))

pub rest_within : (depth : ℕ) (rest : List Way) → run_within depth (map ran_way rest) ≡ true → RestWithin depth rest
rest_within depth rest h =
    let k = and_cases (nat_le (length (map ran_way rest)) depth) (list_all (λ (r : Ran). nat_le r.nest nest_limit && r.found) (map ran_way rest)) h in
    let j = rest_parts rest k.1 in
    record { short = ap (λ n. nat_le n depth) (sym (length-map rest ran_way)) ∙ k.0; followed = j.0; lefts = j.1 }

-- what is said of programs and blocks whose runs may be found
abbrev pub ran_within : Claim
ran_within = record { of_prog = λ p. runs_within p ≡ true; of_block = λ depth fuel p rest. RestWithin depth rest }

module _ (agent : Agent) (bodies : list_all (λ (i : ProcItem). runs_within i.body) agent.procs ≡ true) where
  pub no_rest : (depth : ℕ) → RestWithin depth []
  no_rest depth = record { short = grind arith; followed = tt; lefts = tt }

  front_within : (l : Layer) → found_step (map-Prog Prog Way Ran Ran ran ran_way l) ≡ true → AtFront agent ran_within l
  front_within Nil h = tt
  front_within (Act action args) h = tt
  front_within (Test c) h = tt
  front_within (Seq p q) h = and_cases (runs_within p) (runs_within q) h
  front_within (Choice p q) h = and_cases (runs_within p) (runs_within q) h
  front_within (Pick x sort p) h = λ c l. within_put p x c ∙ h
  front_within (Star p) h = h
  front_within (If c p q) h = and_cases (runs_within p) (runs_within q) h
  front_within (While c p) h = h
  front_within (Conc p q) h = and_cases (runs_within p) (runs_within q) h
  front_within (Prio p q) h = and_cases (runs_within p) (runs_within q) h
  front_within (Cstar p) h = h
  front_within (Call item args) h = within_body-of agent.procs item args bodies
  front_within (Search depth fuel p) h = no_rest depth
  front_within (Follow depth fuel p rest) h = rest_within depth rest (and_cases (runs_within p) (run_within depth (map ran_way rest)) h).1

  pub within_goes : GoesOn agent ran_within
  within_goes = record { parts = λ p h. front_within (out-Prog p) (sym (ap (λ (r : Ran). r.found) (fold_out-Prog Ran Ran ran_step (λ w. w.left) p)) ∙ h) }
