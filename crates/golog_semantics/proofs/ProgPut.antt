-- Programs still fit where a constant of its sort is put in for a variable.
use Rattle.std.proofs.Common.{◌≡◌, ℕ, Bool, true, false, ◌&&◌, List, [], ◌∷◌, map, refl, sym, ap, ◌∙◌}
use Rattle.std.specs.Prelude.{not, slice_get}
use Rattle.std.specs.List.{list_all}
use Rattle.std.specs.Option.{option_map_or}
use Rattle.golog_tree.specs.declared.agent.Agent.{Agent}
use Rattle.golog_tree.specs.declared.agent.ActionItem.{ActionItem}
use Rattle.golog_tree.specs.declared.agent.ProcItem.{ProcItem}
use Rattle.golog_tree.specs.declared.cond.Arg.{Arg}
use Rattle.golog_tree.specs.declared.prog.Prog.{Prog}
use Rattle.golog_tree.specs.declared.prog.Way.{Way}
use Rattle.golog_tree.specs.declared.prog.Prog.TheFolds.{fold-Way}
use Rattle.golog_tree.specs.Substitute.{Put, within, arg_put, cond_put, prog_put, way_put}
use Rattle.golog_semantics.specs.Ways.{is_empty}
use Rattle.golog_semantics.specs.Reports.{fits_label}
use Rattle.golog_semantics.specs.BlockFree.{block_at, proc_blocks}
use Rattle.golog_semantics.specs.Fits.{Scope, bound, nothing_bound, args_fit, binder_fits, cond_fits}
use Rattle.golog_semantics.specs.ProgFits.{Position, act_fits, block_fits, call_fits, prog_fits, prog_step, way_step}
use Rattle.golog_semantics.proofs.ByParts as parts
use Rattle.golog_semantics.proofs.ByParts.{OfEach}
use Rattle.golog_semantics.proofs.PutByParts as puts
use Rattle.golog_semantics.proofs.ScopePut.{Puts, args_put_fit, cond_put_fits, option_more, puts_bound}
use Rattle.golog_semantics.proofs.Tests.{and_more}

abbrev pub at_scope : Scope → Bool → Position
at_scope scope in_block = record { scope = scope; in_block = in_block }

-- with nothing bound, outside of blocks and inside one
abbrev pub outside : Position
outside = at_scope nothing_bound false

abbrev pub inside : Position
inside = at_scope nothing_bound true

module _ (agent : Agent) where
  abbrev A : Type 0
  A = Position → Bool

  abbrev pub way_fits : Way → Position → Bool
  way_fits = fold-Way A A (prog_step agent) (way_step agent)

  abbrev PutProg : Prog → Type 0
  PutProg p = (put : Put) (one other : Scope) (b : Bool) → Puts agent put one other → prog_fits agent p (at_scope one b) ≡ true → prog_fits agent (prog_put p put) (at_scope other b) ≡ true

  abbrev PutWay : Way → Type 0
  PutWay w = (put : Put) (one other : Scope) (b : Bool) → Puts agent put one other → way_fits w (at_scope one b) ≡ true → way_fits (way_put w put) (at_scope other b) ≡ true

  act_put : (put : Put) (one other : Scope) (b : Bool) → Puts agent put one other → (action : ℕ) (args : List Arg) → act_fits agent (at_scope one b) action args ≡ true
      → act_fits agent (at_scope other b) action (map (arg_put put) args) ≡ true
  act_put put one other b p action args =
      option_more agent (λ (item : ActionItem). is_empty item.posters && args_fit agent one item.args args) (λ (item : ActionItem). is_empty item.posters && args_fit agent other item.args (map (arg_put put) args))
      (λ item. and_more (is_empty item.posters) (is_empty item.posters) (args_fit agent one item.args args) (args_fit agent other item.args (map (arg_put put) args)) (λ e. e) (args_put_fit agent put one other p item.args args))
      (slice_get agent.actions action)

  call_put : (put : Put) (one other : Scope) (b : Bool) → Puts agent put one other → (item : ℕ) (args : List Arg) → call_fits agent (at_scope one b) item args ≡ true
      → call_fits agent (at_scope other b) item (map (arg_put put) args) ≡ true
  call_put put one other b p item args =
      and_more (option_map_or (λ (proc : ProcItem). args_fit agent one proc.params args) (slice_get agent.procs item) false) (option_map_or (λ (proc : ProcItem). args_fit agent other proc.params (map (arg_put put) args)) (slice_get agent.procs item) false)
      (not (b && block_at (proc_blocks agent) item)) (not (b && block_at (proc_blocks agent) item))
      (option_more agent (λ (proc : ProcItem). args_fit agent one proc.params args) (λ (proc : ProcItem). args_fit agent other proc.params (map (arg_put put) args)) (λ proc. args_put_fit agent put one other p proc.params args) (slice_get agent.procs item))
      (λ e. e)

  ways_put : (rest : List Way) (put : Put) (one other : Scope) → Puts agent put one other → OfEach PutWay rest → list_all (λ w. w (at_scope one true)) (map way_fits rest) ≡ true
      → list_all (λ w. w (at_scope other true)) (map way_fits (map (λ w. way_put w put) rest)) ≡ true
  ways_put [] put one other p h e = e
  ways_put (w ∷ rest) put one other p h e =
      and_more (way_fits w (at_scope one true)) (way_fits (way_put w put) (at_scope other true)) (list_all (λ v. v (at_scope one true)) (map way_fits rest)) (list_all (λ v. v (at_scope other true)) (map way_fits (map (λ v. way_put v put) rest)))
      (h.0 put one other true p) (ways_put rest put one other p h.1) e

  cases : parts.Cases PutProg PutWay
  cases = record {
    nil_case = λ put one other b ps e.
        ap (λ z. prog_fits agent z (at_scope other b)) (puts.put-nil put) ∙ ap (λ (f : A). f (at_scope other b)) (parts.fold-nil A A (prog_step agent) (way_step agent))
        ∙ refl;
    act_case = λ action args put one other b ps e.
        ap (λ z. prog_fits agent z (at_scope other b)) (puts.put-act action args put) ∙ ap (λ (f : A). f (at_scope other b)) (parts.fold-act A A (prog_step agent) (way_step agent) action (map (arg_put put) args))
        ∙ act_put put one other b ps action args (sym (ap (λ (f : A). f (at_scope one b)) (parts.fold-act A A (prog_step agent) (way_step agent) action args)) ∙ e);
    test_case = λ c put one other b ps e.
        ap (λ z. prog_fits agent z (at_scope other b)) (puts.put-test c put) ∙ ap (λ (f : A). f (at_scope other b)) (parts.fold-test A A (prog_step agent) (way_step agent) (cond_put c put))
        ∙ cond_put_fits agent c put one other ps (sym (ap (λ (f : A). f (at_scope one b)) (parts.fold-test A A (prog_step agent) (way_step agent) c)) ∙ e);
    seq_case = λ p q h0 h1 put one other b ps e.
        ap (λ z. prog_fits agent z (at_scope other b)) (puts.put-seq p q put) ∙ ap (λ (f : A). f (at_scope other b)) (parts.fold-seq A A (prog_step agent) (way_step agent) (prog_put p put) (prog_put q put))
        ∙ and_more (prog_fits agent p (at_scope one b)) (prog_fits agent (prog_put p put) (at_scope other b)) (prog_fits agent q (at_scope one b)) (prog_fits agent (prog_put q put) (at_scope other b)) (h0 put one other b ps) (h1 put one other b ps) (sym (ap (λ (f : A). f (at_scope one b)) (parts.fold-seq A A (prog_step agent) (way_step agent) p q)) ∙ e);
    choice_case = λ p q h0 h1 put one other b ps e.
        ap (λ z. prog_fits agent z (at_scope other b)) (puts.put-choice p q put) ∙ ap (λ (f : A). f (at_scope other b)) (parts.fold-choice A A (prog_step agent) (way_step agent) (prog_put p put) (prog_put q put))
        ∙ and_more (prog_fits agent p (at_scope one b)) (prog_fits agent (prog_put p put) (at_scope other b)) (prog_fits agent q (at_scope one b)) (prog_fits agent (prog_put q put) (at_scope other b)) (h0 put one other b ps) (h1 put one other b ps) (sym (ap (λ (f : A). f (at_scope one b)) (parts.fold-choice A A (prog_step agent) (way_step agent) p q)) ∙ e);
    pick_case = λ x sort p h2 put one other b ps e.
        ap (λ z. prog_fits agent z (at_scope other b)) (puts.put-pick x sort p put) ∙ ap (λ (f : A). f (at_scope other b)) (parts.fold-pick A A (prog_step agent) (way_step agent) x sort (prog_put p (within x put)))
        ∙ and_more (binder_fits agent x sort) (binder_fits agent x sort) (prog_fits agent p (at_scope (bound one x sort) b)) (prog_fits agent (prog_put p (within x put)) (at_scope (bound other x sort) b)) (λ k. k) (h2 (within x put) (bound one x sort) (bound other x sort) b (puts_bound agent put one other ps x sort)) (sym (ap (λ (f : A). f (at_scope one b)) (parts.fold-pick A A (prog_step agent) (way_step agent) x sort p)) ∙ e);
    star_case = λ p h0 put one other b ps e.
        ap (λ z. prog_fits agent z (at_scope other b)) (puts.put-star p put) ∙ ap (λ (f : A). f (at_scope other b)) (parts.fold-star A A (prog_step agent) (way_step agent) (prog_put p put))
        ∙ h0 put one other b ps (sym (ap (λ (f : A). f (at_scope one b)) (parts.fold-star A A (prog_step agent) (way_step agent) p)) ∙ e);
    if_case = λ c p q h1 h2 put one other b ps e.
        ap (λ z. prog_fits agent z (at_scope other b)) (puts.put-if c p q put) ∙ ap (λ (f : A). f (at_scope other b)) (parts.fold-if A A (prog_step agent) (way_step agent) (cond_put c put) (prog_put p put) (prog_put q put))
        ∙ and_more (cond_fits agent c one && (prog_fits agent p (at_scope one b))) (cond_fits agent (cond_put c put) other && (prog_fits agent (prog_put p put) (at_scope other b))) (prog_fits agent q (at_scope one b)) (prog_fits agent (prog_put q put) (at_scope other b)) (and_more (cond_fits agent c one) (cond_fits agent (cond_put c put) other) (prog_fits agent p (at_scope one b)) (prog_fits agent (prog_put p put) (at_scope other b)) (cond_put_fits agent c put one other ps) (h1 put one other b ps)) (h2 put one other b ps) (sym (ap (λ (f : A). f (at_scope one b)) (parts.fold-if A A (prog_step agent) (way_step agent) c p q)) ∙ e);
    while_case = λ c p h1 put one other b ps e.
        ap (λ z. prog_fits agent z (at_scope other b)) (puts.put-while c p put) ∙ ap (λ (f : A). f (at_scope other b)) (parts.fold-while A A (prog_step agent) (way_step agent) (cond_put c put) (prog_put p put))
        ∙ and_more (cond_fits agent c one) (cond_fits agent (cond_put c put) other) (prog_fits agent p (at_scope one b)) (prog_fits agent (prog_put p put) (at_scope other b)) (cond_put_fits agent c put one other ps) (h1 put one other b ps) (sym (ap (λ (f : A). f (at_scope one b)) (parts.fold-while A A (prog_step agent) (way_step agent) c p)) ∙ e);
    conc_case = λ p q h0 h1 put one other b ps e.
        ap (λ z. prog_fits agent z (at_scope other b)) (puts.put-conc p q put) ∙ ap (λ (f : A). f (at_scope other b)) (parts.fold-conc A A (prog_step agent) (way_step agent) (prog_put p put) (prog_put q put))
        ∙ and_more (prog_fits agent p (at_scope one b)) (prog_fits agent (prog_put p put) (at_scope other b)) (prog_fits agent q (at_scope one b)) (prog_fits agent (prog_put q put) (at_scope other b)) (h0 put one other b ps) (h1 put one other b ps) (sym (ap (λ (f : A). f (at_scope one b)) (parts.fold-conc A A (prog_step agent) (way_step agent) p q)) ∙ e);
    prio_case = λ p q h0 h1 put one other b ps e.
        ap (λ z. prog_fits agent z (at_scope other b)) (puts.put-prio p q put) ∙ ap (λ (f : A). f (at_scope other b)) (parts.fold-prio A A (prog_step agent) (way_step agent) (prog_put p put) (prog_put q put))
        ∙ and_more (prog_fits agent p (at_scope one b)) (prog_fits agent (prog_put p put) (at_scope other b)) (prog_fits agent q (at_scope one b)) (prog_fits agent (prog_put q put) (at_scope other b)) (h0 put one other b ps) (h1 put one other b ps) (sym (ap (λ (f : A). f (at_scope one b)) (parts.fold-prio A A (prog_step agent) (way_step agent) p q)) ∙ e);
    cstar_case = λ p h0 put one other b ps e.
        ap (λ z. prog_fits agent z (at_scope other b)) (puts.put-cstar p put) ∙ ap (λ (f : A). f (at_scope other b)) (parts.fold-cstar A A (prog_step agent) (way_step agent) (prog_put p put))
        ∙ h0 put one other b ps (sym (ap (λ (f : A). f (at_scope one b)) (parts.fold-cstar A A (prog_step agent) (way_step agent) p)) ∙ e);
    call_case = λ item args put one other b ps e.
        ap (λ z. prog_fits agent z (at_scope other b)) (puts.put-call item args put) ∙ ap (λ (f : A). f (at_scope other b)) (parts.fold-call A A (prog_step agent) (way_step agent) item (map (arg_put put) args))
        ∙ call_put put one other b ps item args (sym (ap (λ (f : A). f (at_scope one b)) (parts.fold-call A A (prog_step agent) (way_step agent) item args)) ∙ e);
    search_case = λ depth fuel p h2 put one other b ps e.
        ap (λ z. prog_fits agent z (at_scope other b)) (puts.put-search depth fuel p put) ∙ ap (λ (f : A). f (at_scope other b)) (parts.fold-search A A (prog_step agent) (way_step agent) depth fuel (prog_put p put))
        ∙ and_more (block_fits (at_scope one b) depth fuel) (block_fits (at_scope other b) depth fuel) (prog_fits agent p (at_scope one true)) (prog_fits agent (prog_put p put) (at_scope other true)) (λ k. k) (h2 put one other true ps) (sym (ap (λ (f : A). f (at_scope one b)) (parts.fold-search A A (prog_step agent) (way_step agent) depth fuel p)) ∙ e);
    follow_case = λ depth fuel p rest h2 h3 put one other b ps e.
        ap (λ z. prog_fits agent z (at_scope other b)) (puts.put-follow depth fuel p rest put) ∙ ap (λ (f : A). f (at_scope other b)) (parts.fold-follow A A (prog_step agent) (way_step agent) depth fuel (prog_put p put) (map (λ w. way_put w put) rest))
        ∙ and_more (block_fits (at_scope one b) depth fuel && (prog_fits agent p (at_scope one true))) (block_fits (at_scope other b) depth fuel && (prog_fits agent (prog_put p put) (at_scope other true))) (list_all (λ w. w (at_scope one true)) (map way_fits rest)) (list_all (λ w. w (at_scope other true)) (map way_fits (map (λ w. way_put w put) rest))) (and_more (block_fits (at_scope one b) depth fuel) (block_fits (at_scope other b) depth fuel) (prog_fits agent p (at_scope one true)) (prog_fits agent (prog_put p put) (at_scope other true)) (λ k. k) (h2 put one other true ps)) (ways_put rest put one other ps h3) (sym (ap (λ (f : A). f (at_scope one b)) (parts.fold-follow A A (prog_step agent) (way_step agent) depth fuel p rest)) ∙ e);
    way_case = λ label left h put one other b ps e.
        ap (λ z. way_fits z (at_scope other b)) (puts.put-way label left put) ∙ ap (λ (f : A). f (at_scope other b)) (parts.fold-way A A (prog_step agent) (way_step agent) label (prog_put left put))
        ∙ and_more (fits_label agent label) (fits_label agent label) (prog_fits agent left (at_scope one b)) (prog_fits agent (prog_put left put) (at_scope other b)) (λ k. k) (h put one other b ps)
        (sym (ap (λ (f : A). f (at_scope one b)) (parts.fold-way A A (prog_step agent) (way_step agent) label left)) ∙ e);
  }

  pub prog_put_fits : (p : Prog) → PutProg p
  prog_put_fits = parts.by_parts PutProg PutWay cases
