-- A program within a search block has no run under way, and stays within the block along steps.
use Rattle.std.proofs.Common.{◌≡◌, Bool, true, ◌&&◌, refl, sym, ap, ◌∙◌}
use Rattle.std.specs.Prelude.{Contains, not}
use Rattle.golog_tree.specs.declared.agent.Agent.{Agent}
use Rattle.golog_tree.specs.declared.prog.Prog.{Prog}
use Rattle.golog_tree.specs.declared.prog.Prog.TheVariants as prog
use Rattle.golog_tree.specs.declared.prog.Way.{Way}
use Rattle.golog_semantics.specs.declared.Mode.{Mode}
use Rattle.golog_semantics.specs.declared.search.Move.{Move}
use Rattle.golog_semantics.specs.Truth.{Values}
use Rattle.golog_semantics.specs.Search.{no_blocks}
use Rattle.golog_semantics.specs.Moves.{plain_moves}
use Rattle.golog_semantics.specs.Guarded.{front}
use Rattle.golog_semantics.specs.Fits.{binder_fits, cond_fits, nothing_bound}
use Rattle.golog_semantics.specs.Plain.{plain, plain_step, plain_way}
use Rattle.golog_semantics.specs.ProgFits.{Position, block_fits, depth_limit, fuel_limit, is_between, prog_fits, prog_step, way_step, within_binder, within_block}
use Rattle.golog_semantics.specs.FitLaws.{ProcsFit}
use Rattle.golog_semantics.proofs.BlocksFit.{each-contains}
use Rattle.golog_semantics.proofs.ByParts as parts
use Rattle.golog_semantics.proofs.ClosedFits.{Closed}
use Rattle.golog_semantics.proofs.ProgPut.{at_scope}
use Rattle.golog_semantics.proofs.StepsFit.{StepFits, moves_to-fit}
use Rattle.golog_semantics.proofs.Tests.{and_cases}

module _ (agent : Agent) where
  abbrev A : Type 0
  A = Position → Bool

  abbrev IsPlainWithin : Prog → Type 0
  IsPlainWithin p = (at : Position) → at.in_block ≡ true → prog_fits agent p at ≡ true → plain p ≡ p

  -- no block stands there
  no_block : (at : Position) (depth fuel : _) → at.in_block ≡ true → block_fits at depth fuel ≡ true → ⊥
  no_block at depth fuel i h =
      let k = and_cases (not at.in_block && is_between 1 depth_limit depth) (is_between 1 fuel_limit fuel) h in
      let j = (and_cases (not at.in_block) (is_between 1 depth_limit depth) k.0).0 in
      let f = ap not i in
      cc

  both-plain : (make : Prog → Prog → Prog) (p q : Prog) → IsPlainWithin p → IsPlainWithin q → (at : Position) → at.in_block ≡ true
      → (prog_fits agent p at && prog_fits agent q at) ≡ true → make (plain p) (plain q) ≡ make p q
  both-plain make p q f g at i h =
      let k = and_cases (prog_fits agent p at) (prog_fits agent q at) h in
      ap (λ z. make z (plain q)) (f at i k.0) ∙ ap (λ z. make p z) (g at i k.1)

  cases : parts.Cases IsPlainWithin (λ w. Unit {0})
  cases = record {
    nil_case = λ at i h. parts.fold-nil Prog Way plain_step plain_way;
    act_case = λ action args at i h. parts.fold-act Prog Way plain_step plain_way action args;
    test_case = λ c at i h. parts.fold-test Prog Way plain_step plain_way c;
    seq_case = λ p q f g at i h.
        parts.fold-seq Prog Way plain_step plain_way p q
        ∙ both-plain (λ p q. prog.Seq p q) p q f g at i (sym (ap (λ (s : A). s at) (parts.fold-seq A A (prog_step agent) (way_step agent) p q)) ∙ h);
    choice_case = λ p q f g at i h.
        parts.fold-choice Prog Way plain_step plain_way p q
        ∙ both-plain (λ p q. prog.Choice p q) p q f g at i (sym (ap (λ (s : A). s at) (parts.fold-choice A A (prog_step agent) (way_step agent) p q)) ∙ h);
    pick_case = λ x sort p f at i h.
        let k = and_cases (binder_fits agent x sort) (prog_fits agent p (within_binder at x sort)) (sym (ap (λ (s : A). s at) (parts.fold-pick A A (prog_step agent) (way_step agent) x sort p)) ∙ h) in
        parts.fold-pick Prog Way plain_step plain_way x sort p ∙ ap (λ z. prog.Pick x sort z) (f (within_binder at x sort) i k.1);
    star_case = λ p f at i h.
        parts.fold-star Prog Way plain_step plain_way p
        ∙ ap (λ z. prog.Star z) (f at i (sym (ap (λ (s : A). s at) (parts.fold-star A A (prog_step agent) (way_step agent) p)) ∙ h));
    if_case = λ c p q f g at i h.
        let k = and_cases (cond_fits agent c at.scope && prog_fits agent p at) (prog_fits agent q at) (sym (ap (λ (s : A). s at) (parts.fold-if A A (prog_step agent) (way_step agent) c p q)) ∙ h) in
        let j = and_cases (cond_fits agent c at.scope) (prog_fits agent p at) k.0 in
        parts.fold-if Prog Way plain_step plain_way c p q ∙ ap (λ z. prog.If c z (plain q)) (f at i j.1) ∙ ap (λ z. prog.If c p z) (g at i k.1);
    while_case = λ c p f at i h.
        let k = and_cases (cond_fits agent c at.scope) (prog_fits agent p at) (sym (ap (λ (s : A). s at) (parts.fold-while A A (prog_step agent) (way_step agent) c p)) ∙ h) in
        parts.fold-while Prog Way plain_step plain_way c p ∙ ap (λ z. prog.While c z) (f at i k.1);
    conc_case = λ p q f g at i h.
        parts.fold-conc Prog Way plain_step plain_way p q
        ∙ both-plain (λ p q. prog.Conc p q) p q f g at i (sym (ap (λ (s : A). s at) (parts.fold-conc A A (prog_step agent) (way_step agent) p q)) ∙ h);
    prio_case = λ p q f g at i h.
        parts.fold-prio Prog Way plain_step plain_way p q
        ∙ both-plain (λ p q. prog.Prio p q) p q f g at i (sym (ap (λ (s : A). s at) (parts.fold-prio A A (prog_step agent) (way_step agent) p q)) ∙ h);
    cstar_case = λ p f at i h.
        parts.fold-cstar Prog Way plain_step plain_way p
        ∙ ap (λ z. prog.Cstar z) (f at i (sym (ap (λ (s : A). s at) (parts.fold-cstar A A (prog_step agent) (way_step agent) p)) ∙ h));
    call_case = λ item args at i h. parts.fold-call Prog Way plain_step plain_way item args;
    search_case = λ depth fuel p f at i h.
        let k = and_cases (block_fits at depth fuel) (prog_fits agent p (within_block at)) (sym (ap (λ (s : A). s at) (parts.fold-search A A (prog_step agent) (way_step agent) depth fuel p)) ∙ h) in
        absurd (no_block at depth fuel i k.0);
    follow_case = λ depth fuel p rest f g at i h.
        let k = and_cases (block_fits at depth fuel && prog_fits agent p (within_block at)) _ (sym (ap (λ (s : A). s at) (parts.fold-follow A A (prog_step agent) (way_step agent) depth fuel p rest)) ∙ h) in
        absurd (no_block at depth fuel i (and_cases (block_fits at depth fuel) (prog_fits agent p (within_block at)) k.0).0);
    way_case = λ label left h. tt;
  }

  pub bodies_plain : (p : Prog) (at : Position) → at.in_block ≡ true → prog_fits agent p at ≡ true → plain p ≡ p
  bodies_plain = parts.by_parts IsPlainWithin (λ w. Unit {0}) cases

  pub body_plain : (p : Prog) → Closed agent true p → plain p ≡ p
  body_plain p h = bodies_plain p (at_scope nothing_bound true) refl h

  pub bodies_stay : ProcsFit agent → (values : Values) (m : Mode) (p : Prog) → Closed agent true p → (step : Move) → Contains (plain_moves agent values m p) step → Closed agent true step.left
  unfolding plain_moves
  bodies_stay f values m p h step c =
      (each-contains (StepFits agent true) (plain_moves agent values m p) step
      (moves_to-fit agent true f values no_blocks (λ k depth fuel body rest x y z. tt) (front agent p).height m p h) c).left_fits
