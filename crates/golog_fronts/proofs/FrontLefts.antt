-- What fronts leave fits where the program does: of one front, of lists put together, and of the parts of a program.
use Rattle.std.proofs.Common.{◌≡◌, ℕ, ◌<◌, Bool, true, false, ◌&&◌, List, [], ◌∷◌, ◌++◌, map, Option, Some, None, refl, sym, ap, ◌∙◌}
use Rattle.std.specs.Prelude.{All, slice_get}
use Rattle.std.specs.Option.{option_map_or}
use Rattle.std.proofs.lemmas.List.Elements.{All-cons, All-nil}
use Rattle.std.proofs.lemmas.List.Folds.{list_all-append, list_all-map}
use Rattle.golog_tree.specs.declared.agent.Agent.{Agent}
use Rattle.golog_tree.specs.declared.agent.ActionItem.{ActionItem}
use Rattle.golog_tree.specs.declared.cond.Arg.{Arg}
use Rattle.golog_tree.specs.declared.cond.Cond.{Cond}
use Rattle.golog_tree.specs.declared.prog.Prog.{Prog}
use Rattle.golog_tree.specs.declared.prog.Prog.TheVariants as prog
use Rattle.golog_tree.specs.declared.prog.Prog.TheViews.{out-Prog}
use Rattle.golog_tree.specs.Ground.{action_no, sort_size}
use Rattle.golog_tree.specs.Tidy.{tidy_conc, tidy_pair, tidy_prio, tidy_right, tidy_seq}
use Rattle.golog_semantics.specs.Truth.{arg_value, env_of}
use Rattle.golog_semantics.specs.Program.{body_of, put_arg}
use Rattle.golog_semantics.specs.Ways.{is_empty}
use Rattle.golog_semantics.specs.Reports.{fits_label, is_own}
use Rattle.golog_semantics.specs.Fits.{args_fit, binder_fits, bound, cond_fits, nothing_bound}
use Rattle.golog_semantics.specs.ProgFits.{Position, prog_fits, prog_step, way_step}
use Rattle.golog_semantics.specs.FitLaws.{ProcsFit}
use Rattle.golog_semantics.proofs.ActionNumbers.{action_item-no}
use Rattle.golog_semantics.proofs.ByParts as parts
use Rattle.golog_semantics.proofs.ClosedFits.{body_closed, put_closed}
use Rattle.golog_semantics.proofs.ProgPut.{at_scope}
use Rattle.golog_semantics.proofs.StepsFit.{tidy_left-keeps, tidy_right-keeps}
use Rattle.golog_semantics.proofs.Tests.{and_both, and_cases}
use Rattle.golog_fronts.specs.declared.front_lists.Front.{Front}
use Rattle.golog_fronts.specs.Closed.{IsClosed}
use Rattle.golog_fronts.specs.FrontLists.{front_in, front_where, guarded, guarded_of, leaves_fitting, lefts_fit}
use Rattle.golog_fronts.specs.Lefts.{LeavesClosed, fits_in}
use Rattle.golog_fronts.proofs.LeftsClosed.{Fits, leaves}

module _ (agent : Agent) (b : Bool) where
  abbrev A : Type 0
  A = Position → Bool

  abbrev here : Position
  here = at_scope nothing_bound b

  -- the program fits there
  abbrev Here : Prog → Type 0
  Here p = Fits agent p b

  abbrev at : A → Bool
  at f = f here

  -- the parts of a program that fits
  pub seq-parts : (p q : Prog) → Here (prog.Seq p q) → Here p × Here q
  seq-parts p q h = and_cases (fits_in agent b p) (fits_in agent b q) (sym (ap at (parts.fold-seq A A (prog_step agent) (way_step agent) p q)) ∙ h)

  pub choice-parts : (p q : Prog) → Here (prog.Choice p q) → Here p × Here q
  choice-parts p q h = and_cases (fits_in agent b p) (fits_in agent b q) (sym (ap at (parts.fold-choice A A (prog_step agent) (way_step agent) p q)) ∙ h)

  pub conc-parts : (p q : Prog) → Here (prog.Conc p q) → Here p × Here q
  conc-parts p q h = and_cases (fits_in agent b p) (fits_in agent b q) (sym (ap at (parts.fold-conc A A (prog_step agent) (way_step agent) p q)) ∙ h)

  pub prio-parts : (p q : Prog) → Here (prog.Prio p q) → Here p × Here q
  prio-parts p q h = and_cases (fits_in agent b p) (fits_in agent b q) (sym (ap at (parts.fold-prio A A (prog_step agent) (way_step agent) p q)) ∙ h)

  pub if-parts : (c : Cond) (p q : Prog) → Here (prog.If c p q) → Here p × Here q
  if-parts c p q h =
      let k = and_cases (cond_fits agent c nothing_bound && fits_in agent b p) (fits_in agent b q) (sym (ap at (parts.fold-if A A (prog_step agent) (way_step agent) c p q)) ∙ h) in
      ((and_cases (cond_fits agent c nothing_bound) (fits_in agent b p) k.0).1, k.1)

  pub while-part : (c : Cond) (p : Prog) → Here (prog.While c p) → Here p
  while-part c p h = (and_cases (cond_fits agent c nothing_bound) (fits_in agent b p) (sym (ap at (parts.fold-while A A (prog_step agent) (way_step agent) c p)) ∙ h)).1

  pub star-part : (p : Prog) → Here (prog.Star p) → Here p
  star-part p h = sym (ap at (parts.fold-star A A (prog_step agent) (way_step agent) p)) ∙ h

  pub cstar-part : (p : Prog) → Here (prog.Cstar p) → Here p
  cstar-part p h = sym (ap at (parts.fold-cstar A A (prog_step agent) (way_step agent) p)) ∙ h

  pub pick-part : (x sort : ℕ) (p : Prog) → Here (prog.Pick x sort p) → (c : ℕ) → c < sort_size agent sort → Here (put_arg p x c)
  pick-part x sort p h c l =
      let k = and_cases (binder_fits agent x sort) (prog_fits agent p (at_scope (bound nothing_bound x sort) b)) (sym (ap at (parts.fold-pick A A (prog_step agent) (way_step agent) x sort p)) ∙ h) in
      put_closed agent b p x sort c k.1 l

  pub call-part : ProcsFit agent → (item : ℕ) (args : List Arg) → Here (prog.Call item args) → Here (body_of agent item args)
  call-part procs item args h = body_closed agent procs b item args (sym (ap at (parts.fold-call A A (prog_step agent) (way_step agent) item args)) ∙ h)

  own-action : (action : ℕ) (args : List Arg) (o : Option ActionItem) → slice_get agent.actions action ≡ o
      → option_map_or (λ (item : ActionItem). is_empty item.posters && args_fit agent nothing_bound item.args args) o false ≡ true
      → is_own agent (action_no agent action (map (arg_value (env_of [])) args)) ≡ true
  own-action action args None e h = absurd (cc)
  own-action action args (Some item) e h =
      let k = and_cases (is_empty item.posters) (args_fit agent nothing_bound item.args args) h in
      ap (λ o. option_map_or (λ (i : ActionItem). is_empty i.posters) o false) (action_item-no agent action item args e k.1) ∙ k.0

  pub act-own : (action : ℕ) (args : List Arg) (number : ℕ) → number ≡ action_no agent action (map (arg_value (env_of [])) args) → Here (prog.Act action args) → is_own agent number ≡ true
  act-own action args number e h =
      ap (is_own agent) e
      ∙ own-action action args (slice_get agent.actions action) refl (sym (ap at (parts.fold-act A A (prog_step agent) (way_step agent) action args)) ∙ h)

  -- programs put together without empty parts
  pub nil-fits : Here prog.Nil
  nil-fits = ap at (parts.fold-nil A A (prog_step agent) (way_step agent))

  both-fit : (p q : Prog) → Here p → Here q → (fits_in agent b p && fits_in agent b q) ≡ true
  both-fit p q h k = and_both (fits_in agent b p) (fits_in agent b q) h k

  pub seq-fits : (p q : Prog) → Here p → Here q → Here (tidy_seq p q)
  seq-fits p q h k = tidy_left-keeps Here prog.Seq (out-Prog p) p q k (ap at (parts.fold-seq A A (prog_step agent) (way_step agent) p q) ∙ both-fit p q h k)

  pair-fits : (join : Prog → Prog → Prog) (p q : Prog) → Here p → Here q → Here (join p q) → Here (tidy_pair join p q)
  pair-fits join p q h k j = tidy_left-keeps Here (tidy_right join (out-Prog q)) (out-Prog p) p q k (tidy_right-keeps Here join (out-Prog q) p q h j)

  pub conc-fits : (p q : Prog) → Here p → Here q → Here (tidy_conc p q)
  conc-fits p q h k = pair-fits prog.Conc p q h k (ap at (parts.fold-conc A A (prog_step agent) (way_step agent) p q) ∙ both-fit p q h k)

  pub prio-fits : (p q : Prog) → Here p → Here q → Here (tidy_prio p q)
  prio-fits p q h k = pair-fits prog.Prio p q h k (ap at (parts.fold-prio A A (prog_step agent) (way_step agent) p q) ∙ both-fit p q h k)

  -- lists of fronts
  pub lefts-one : (f : Front) → fits_label agent f.label ≡ true → Here f.left → lefts_fit agent b (f ∷ []) ≡ true
  lefts-one f h k = and_both (leaves_fitting agent b f) true (and_both (fits_label agent f.label) (fits_in agent b f.left) h k) refl

  pub lefts-both : (fs hs : List Front) → lefts_fit agent b fs ≡ true → lefts_fit agent b hs ≡ true → lefts_fit agent b (fs ++ hs) ≡ true
  lefts-both fs hs h k = list_all-append (leaves_fitting agent b) fs hs ∙ and_both (lefts_fit agent b fs) (lefts_fit agent b hs) h k

  pub lefts-in : (context : Prog → Prog) → ((l : Prog) → Here l → Here (context l)) → (fs : List Front) → lefts_fit agent b fs ≡ true → lefts_fit agent b (map (front_in context) fs) ≡ true
  lefts-in context h [] k = refl
  lefts-in context h (f ∷ fs) k =
      let l = and_cases (leaves_fitting agent b f) (lefts_fit agent b fs) k in
      let j = and_cases (fits_label agent f.label) (fits_in agent b f.left) l.0 in
      and_both (leaves_fitting agent b (front_in context f)) (lefts_fit agent b (map (front_in context) fs))
      (and_both (fits_label agent f.label) (fits_in agent b (context f.left)) j.0 (h f.left j.1)) (lefts-in context h fs l.1)

  pub lefts-where : (c : Cond) (fs : List Front) → lefts_fit agent b fs ≡ true → lefts_fit agent b (map (front_where c) fs) ≡ true
  lefts-where c fs h = list_all-map (leaves_fitting agent b) (front_where c) fs ∙ h

module _ (agent : Agent) (p : Prog) (c : IsClosed agent p) where
  -- each front of a list leaves what fits where the program does
  pub all-leave : (fs : List Front) → ((b : Bool) → Fits agent p b → lefts_fit agent b fs ≡ true) → All (λ f. LeavesClosed agent p f.way) (guarded fs)
  all-leave [] h = All-nil (λ f. LeavesClosed agent p f.way)
  all-leave (f ∷ fs) h =
      let whole = λ (b : Bool) (k : Fits agent p b). and_cases (leaves_fitting agent b f) (lefts_fit agent b fs) (h b k) in
      let one = λ (b : Bool) (k : Fits agent p b). and_cases (fits_label agent f.label) (fits_in agent b f.left) (whole b k).0 in
      All-cons (λ g. LeavesClosed agent p g.way) (guarded_of f) (guarded fs)
      (leaves agent p c (guarded_of f).way (λ b k. record { label_fits = (one b k).0; left_fits = (one b k).1 }))
      (all-leave fs (λ b k. (whole b k).1))
