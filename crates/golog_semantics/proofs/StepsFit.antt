-- What a step leaves of a program that fits, fits.
use Rattle.std.proofs.Common.{◌≡◌, ℕ, zero, suc, ◌+◌, ◌<◌, Bool, true, false, ◌&&◌, List, [], ◌∷◌, ◌++◌, map, Option, Some, None, refl, sym, ap, ◌∙◌, arith}
use Rattle.std.specs.Prelude.{slice_get}
use Rattle.std.specs.List.{flat_map, list_all, range_with_len}
use Rattle.std.specs.Option.{option_map_or}
use Rattle.golog_tree.specs.declared.agent.Agent.{Agent}
use Rattle.golog_tree.specs.declared.agent.ActionItem.{ActionItem}
use Rattle.golog_tree.specs.declared.cond.Arg.{Arg}
use Rattle.golog_tree.specs.declared.prog.Label.TheVariants.{Quiet, Do}
use Rattle.golog_tree.specs.declared.prog.Prog.{Prog}
use Rattle.golog_tree.specs.declared.prog.Prog.TheOpen.{Nil, Act, Test, Seq, Choice, Pick, Star, If, While, Conc, Prio, Cstar, Call, Search, Follow}
use Rattle.golog_tree.specs.declared.prog.Prog.TheVariants as prog
use Rattle.golog_tree.specs.declared.prog.Prog.TheViews.{out-Prog}
use Rattle.golog_tree.specs.declared.prog.Prog.TheFolds.{fold_out-Prog, map-Prog}
use Rattle.golog_tree.specs.declared.prog.Way.{Way}
use Rattle.golog_tree.specs.Ground.{action_no, sort_size}
use Rattle.golog_tree.specs.Tidy.{Layer, tidy_conc, tidy_left, tidy_pair, tidy_prio, tidy_right, tidy_seq}
use Rattle.golog_semantics.specs.declared.Mode.{Mode}
use Rattle.golog_semantics.specs.declared.search.Move.{Move}
use Rattle.golog_semantics.specs.Modes.{flip}
use Rattle.golog_semantics.specs.Truth.{Values, arg_value, env_of}
use Rattle.golog_semantics.specs.Values.{is_possible}
use Rattle.golog_semantics.specs.Program.{put_arg, body_of}
use Rattle.golog_semantics.specs.Ways.{Blocks, final_to, is_empty, is_not, is_so, left_in, moves_step, moves_to, only_if, plain_move}
use Rattle.golog_semantics.specs.Reports.{fits_label, is_own}
use Rattle.golog_semantics.specs.Fits.{args_fit, binder_fits, bound, cond_fits, nothing_bound}
use Rattle.golog_semantics.specs.ProgFits.{Position, block_fits, prog_fits, prog_step, way_step}
use Rattle.golog_semantics.specs.FitLaws.{ProcsFit}
use Rattle.golog_semantics.proofs.ActionNumbers.{action_item-no}
use Rattle.golog_semantics.proofs.ByParts as parts
use Rattle.golog_semantics.proofs.ByParts.{OfEach}
use Rattle.golog_semantics.proofs.ClosedFits.{Closed, body_closed, put_closed}
use Rattle.golog_semantics.proofs.ProgPut.{at_scope, way_fits}
use Rattle.golog_semantics.proofs.Tests.{and_both, and_cases}

pub each-append : {A : Type 0} (P : A → Type 0) (xs ys : List A) → OfEach P xs → OfEach P ys → OfEach P (xs ++ ys)
each-append P [] ys h k = k
each-append P (x ∷ xs) ys h k = (h.0, each-append P xs ys h.1 k)

pub each-flat : {A : Type 0} (P : A → Type 0) (f : ℕ → List A) (a n : ℕ) → ((c : ℕ) → c < a + n → OfEach P (f c)) → OfEach P (flat_map f (range_with_len a n))
each-flat P f a zero h = tt
each-flat P f a (suc n) h = each-append P (f a) (flat_map f (range_with_len (a + 1) n)) (h a (omega arith)) (each-flat P f (a + 1) n (λ c l. h c (omega arith)))

pub tidy_left-keeps : (P : Prog → Type 0) (join : Prog → Prog → Prog) (l : Layer) (p q : Prog) → P q → P (join p q) → P (tidy_left join l p q)
tidy_left-keeps P join Nil p q h k = h
tidy_left-keeps P join _ p q h k = k

pub tidy_right-keeps : (P : Prog → Type 0) (join : Prog → Prog → Prog) (l : Layer) (p q : Prog) → P p → P (join p q) → P (tidy_right join l p q)
tidy_right-keeps P join Nil p q h k = h
tidy_right-keeps P join _ p q h k = k

module _ (agent : Agent) (b : Bool) where
  abbrev A : Type 0
  A = Position → Bool

  abbrev here : Position
  here = at_scope nothing_bound b

  -- a step of the agent, whose left fits
  pub record StepFits (move : Move) : Type 0 where
    pub left_fits : Closed agent b move.left
    pub label_fits : fits_label agent move.label ≡ true
    pub run_fits : option_map_or (list_all (fits_label agent)) move.run true ≡ true

  abbrev pub AllFit : List Move → Type 0
  AllFit moves = OfEach StepFits moves

  left_in-fits : (context : Prog → Prog) → ((p : Prog) → Closed agent b p → Closed agent b (context p)) → (moves : List Move) → AllFit moves → AllFit (left_in context moves)
  left_in-fits context h [] k = tt
  left_in-fits context h (m ∷ moves) k = (record { left_fits = h m.left k.0.left_fits; label_fits = k.0.label_fits; run_fits = k.0.run_fits }, left_in-fits context h moves k.1)

  only_if-fits : (c : Bool) (moves : List Move) → AllFit moves → AllFit (only_if c moves)
  only_if-fits true moves h = h
  only_if-fits false moves h = tt

  seq_closed : (p q : Prog) → Closed agent b p → Closed agent b q → Closed agent b (prog.Seq p q)
  seq_closed p q h k = ap (λ (f : A). f here) (parts.fold-seq A A (prog_step agent) (way_step agent) p q) ∙ and_both (prog_fits agent p here) (prog_fits agent q here) h k

  conc_closed : (p q : Prog) → Closed agent b p → Closed agent b q → Closed agent b (prog.Conc p q)
  conc_closed p q h k = ap (λ (f : A). f here) (parts.fold-conc A A (prog_step agent) (way_step agent) p q) ∙ and_both (prog_fits agent p here) (prog_fits agent q here) h k

  prio_closed : (p q : Prog) → Closed agent b p → Closed agent b q → Closed agent b (prog.Prio p q)
  prio_closed p q h k = ap (λ (f : A). f here) (parts.fold-prio A A (prog_step agent) (way_step agent) p q) ∙ and_both (prog_fits agent p here) (prog_fits agent q here) h k

  nil_closed : Closed agent b prog.Nil
  nil_closed = ap (λ (f : A). f here) (parts.fold-nil A A (prog_step agent) (way_step agent))

  tidy_seq-closed : (p q : Prog) → Closed agent b p → Closed agent b q → Closed agent b (tidy_seq p q)
  tidy_seq-closed p q h k = tidy_left-keeps (Closed agent b) prog.Seq (out-Prog p) p q k (seq_closed p q h k)

  tidy_pair-closed : (join : Prog → Prog → Prog) → ((p q : Prog) → Closed agent b p → Closed agent b q → Closed agent b (join p q)) → (p q : Prog) → Closed agent b p → Closed agent b q → Closed agent b (tidy_pair join p q)
  tidy_pair-closed join j p q h k =
      tidy_left-keeps (Closed agent b) (tidy_right join (out-Prog q)) (out-Prog p) p q k (tidy_right-keeps (Closed agent b) join (out-Prog q) p q h (j p q h k))

  act_label : (action : ℕ) (args : List Arg) (o : Option ActionItem) → slice_get agent.actions action ≡ o
      → option_map_or (λ (item : ActionItem). is_empty item.posters && args_fit agent nothing_bound item.args args) o false ≡ true
      → is_own agent (action_no agent action (map (arg_value (env_of [])) args)) ≡ true
  act_label action args None e h = absurd (cc)
  act_label action args (Some item) e h =
      let k = and_cases (is_empty item.posters) (args_fit agent nothing_bound item.args args) h in
      ap (λ o. option_map_or (λ (i : ActionItem). is_empty i.posters) o false) (action_item-no agent action item args e k.1) ∙ k.0

  module _ (p : ProcsFit agent) (values : Values) (blocks : Blocks) where
    -- the steps of a block that fits are steps that fit
    abbrev pub BlocksFit : Type 0
    BlocksFit = (m : Mode) (depth fuel : ℕ) (body : Prog) (rest : List Way) → block_fits here depth fuel ≡ true → Closed agent true body
        → list_all (λ w. way_fits agent w (at_scope nothing_bound true)) rest ≡ true → AllFit (blocks m depth fuel body rest)

    module _ (blocks_fit : BlocksFit) where
      -- one level of a program fits
      abbrev LayerFits : Layer → Type 0
      LayerFits l = prog_step agent (map-Prog Prog Way A A (prog_fits agent) (way_fits agent) l) here ≡ true

      rest_fits : (rest : List Way) → list_all (λ (w : A). w (at_scope nothing_bound true)) (map (way_fits agent) rest) ≡ true → list_all (λ w. way_fits agent w (at_scope nothing_bound true)) rest ≡ true
      rest_fits [] h = h
      rest_fits (w ∷ rest) h =
          let k = and_cases (way_fits agent w (at_scope nothing_bound true)) (list_all (λ (v : A). v (at_scope nothing_bound true)) (map (way_fits agent) rest)) h in
          and_both (way_fits agent w (at_scope nothing_bound true)) (list_all (λ v. way_fits agent v (at_scope nothing_bound true)) rest) k.0 (rest_fits rest k.1)

      step_fits : (f : Mode → Prog → Bool) (u : Mode → Prog → List Move) (m : Mode) → ((k : Mode) (q : Prog) → Closed agent b q → AllFit (u k q))
          → (l : Layer) → LayerFits l → AllFit (moves_step agent values blocks f u m l)
      step_fits f u m h Nil e = tt
      step_fits f u m h (Act action args) e =
          only_if-fits (is_possible agent values m action (map (arg_value (env_of [])) args)) (plain_move (Do (action_no agent action (map (arg_value (env_of [])) args))) prog.Nil ∷ [])
          (record { left_fits = nil_closed; label_fits = act_label action args (slice_get agent.actions action) refl e; run_fits = refl }, tt)
      step_fits f u m h (Test c) e = only_if-fits (is_so agent values m c) (plain_move Quiet prog.Nil ∷ []) (record { left_fits = nil_closed; label_fits = refl; run_fits = refl }, tt)
      step_fits f u m h (Seq q r) e =
          let k = and_cases (prog_fits agent q here) (prog_fits agent r here) e in
          each-append StepFits (left_in (λ l. tidy_seq l r) (u m q)) (only_if (f m q) (u m r))
          (left_in-fits (λ l. tidy_seq l r) (λ l c. tidy_seq-closed l r c k.1) (u m q) (h m q k.0)) (only_if-fits (f m q) (u m r) (h m r k.1))
      step_fits f u m h (Choice q r) e =
          let k = and_cases (prog_fits agent q here) (prog_fits agent r here) e in
          each-append StepFits (u m q) (u m r) (h m q k.0) (h m r k.1)
      step_fits f u m h (Pick x sort q) e =
          let k = and_cases (binder_fits agent x sort) (prog_fits agent q (at_scope (bound nothing_bound x sort) b)) e in
          each-flat StepFits (λ c. u m (put_arg q x c)) 0 (sort_size agent sort) (λ c l. h m (put_arg q x c) (put_closed agent b q x sort c k.1 (omega arith)))
      step_fits f u m h (Star q) e =
          left_in-fits (λ l. tidy_seq l (prog.Star q)) (λ l c. tidy_seq-closed l (prog.Star q) c (ap (λ (g : A). g here) (parts.fold-star A A (prog_step agent) (way_step agent) q) ∙ e)) (u m q) (h m q e)
      step_fits f u m h (If c q r) e =
          let k = and_cases (cond_fits agent c nothing_bound && prog_fits agent q here) (prog_fits agent r here) e in
          let j = and_cases (cond_fits agent c nothing_bound) (prog_fits agent q here) k.0 in
          each-append StepFits (only_if (is_so agent values m c) (u m q)) (only_if (is_not agent values m c) (u m r))
          (only_if-fits (is_so agent values m c) (u m q) (h m q j.1)) (only_if-fits (is_not agent values m c) (u m r) (h m r k.1))
      step_fits f u m h (While c q) e =
          let k = and_cases (cond_fits agent c nothing_bound) (prog_fits agent q here) e in
          only_if-fits (is_so agent values m c) (left_in (λ l. tidy_seq l (prog.While c q)) (u m q))
          (left_in-fits (λ l. tidy_seq l (prog.While c q)) (λ l d. tidy_seq-closed l (prog.While c q) d (ap (λ (g : A). g here) (parts.fold-while A A (prog_step agent) (way_step agent) c q) ∙ e)) (u m q) (h m q k.1))
      step_fits f u m h (Conc q r) e =
          let k = and_cases (prog_fits agent q here) (prog_fits agent r here) e in
          each-append StepFits (left_in (λ l. tidy_conc l r) (u m q)) (left_in (λ l. tidy_conc q l) (u m r))
          (left_in-fits (λ l. tidy_conc l r) (λ l c. tidy_pair-closed prog.Conc conc_closed l r c k.1) (u m q) (h m q k.0))
          (left_in-fits (λ l. tidy_conc q l) (λ l c. tidy_pair-closed prog.Conc conc_closed q l k.0 c) (u m r) (h m r k.1))
      step_fits f u m h (Prio q r) e =
          let k = and_cases (prog_fits agent q here) (prog_fits agent r here) e in
          each-append StepFits (left_in (λ l. tidy_prio l r) (u m q)) (only_if (is_empty (u (flip m) q)) (left_in (λ l. tidy_prio q l) (u m r)))
          (left_in-fits (λ l. tidy_prio l r) (λ l c. tidy_pair-closed prog.Prio prio_closed l r c k.1) (u m q) (h m q k.0))
          (only_if-fits (is_empty (u (flip m) q)) (left_in (λ l. tidy_prio q l) (u m r)) (left_in-fits (λ l. tidy_prio q l) (λ l c. tidy_pair-closed prog.Prio prio_closed q l k.0 c) (u m r) (h m r k.1)))
      step_fits f u m h (Cstar q) e =
          left_in-fits (λ l. tidy_conc l (prog.Cstar q))
          (λ l c. tidy_pair-closed prog.Conc conc_closed l (prog.Cstar q) c (ap (λ (g : A). g here) (parts.fold-cstar A A (prog_step agent) (way_step agent) q) ∙ e)) (u m q) (h m q e)
      step_fits f u m h (Call item args) e = h m (body_of agent item args) (body_closed agent p b item args e)
      step_fits f u m h (Search depth fuel q) e =
          let k = and_cases (block_fits here depth fuel) (prog_fits agent q (at_scope nothing_bound true)) e in
          blocks_fit m depth fuel q [] k.0 k.1 refl
      step_fits f u m h (Follow depth fuel q rest) e =
          let k = and_cases (block_fits here depth fuel && prog_fits agent q (at_scope nothing_bound true)) (list_all (λ (v : A). v (at_scope nothing_bound true)) (map (way_fits agent) rest)) e in
          let j = and_cases (block_fits here depth fuel) (prog_fits agent q (at_scope nothing_bound true)) k.0 in
          blocks_fit m depth fuel q rest j.0 j.1 (rest_fits rest k.1)

      pub moves_to-fit : (n : ℕ) (m : Mode) (q : Prog) → Closed agent b q → AllFit (moves_to agent values blocks n m q)
      moves_to-fit zero m q e = tt
      moves_to-fit (suc n) m q e =
          step_fits (final_to agent values n) (moves_to agent values blocks n) m (moves_to-fit n) (out-Prog q)
          (sym (ap (λ (f : A). f here) (fold_out-Prog A A (prog_step agent) (way_step agent) q)) ∙ e)
