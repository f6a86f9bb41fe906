-- A program that a file can say has no run under way.
use Rattle.std.proofs.Common.{◌≡◌, ℕ, ◌+◌, Bool, true, false, ◌&&◌, ◌==◌, List, [], ◌∷◌, sym, ap, ◌∙◌}
use Rattle.std.specs.Prelude.{length, nat_le}
use Rattle.std.specs.List.{list_all}
use Rattle.golog_tree.specs.declared.agent.Agent.{Agent}
use Rattle.golog_tree.specs.declared.agent.ProcItem.{ProcItem}
use Rattle.golog_tree.specs.declared.prog.Prog.{Prog}
use Rattle.golog_tree.specs.declared.prog.Way.{Way}
use Rattle.golog_tree.specs.declared.prog.Prog.TheVariants as prog
use Rattle.golog_semantics.proofs.ByParts as parts
use Rattle.golog_semantics.proofs.ByParts.{OfEach}
use Rattle.golog_certain.specs.FollowedRuns.{Ran, ran_step, runs_within}
use Rattle.golog_semantics.specs.Plain.{plain, plain_step, plain_way, IsPlain}
use Rattle.golog_semantics.specs.Written.{is_written_cond, is_written_prog, written_prog_step}
use Rattle.golog_semantics.specs.ProgFits.{outermost, prog_fits}
use Rattle.golog_semantics.specs.Fits.{bound_from}
use Rattle.golog_semantics.specs.WellFormed.{WellFormed, are_sorts, proc_fits}
use Rattle.std.proofs.lemmas.List.Elements.{All-nil, All-cons}
use Rattle.std.specs.Prelude.{All}
use Rattle.golog_semantics.proofs.Tests.{and_both, and_cases, and_more}

-- no run is under way in the program
pub record HasNoRun (p : Prog) : Type 0 where
  pub within : runs_within p ≡ true
  pub is_plain : plain p ≡ p

module _ (agent : Agent) where
  abbrev A : Type 0
  A = ℕ → Bool

  abbrev WhereWritten : Prog → Type 0
  WhereWritten p = (n : ℕ) → is_written_prog agent p n ≡ true → HasNoRun p

  cases : parts.Cases WhereWritten (λ w. Unit {0})
  cases = record {
    nil_case = λ n e. record { within = ap (λ (r : Ran). r.found) (parts.fold-nil Ran Ran ran_step (λ w. w.left)); is_plain = parts.fold-nil Prog Way plain_step plain_way };
    act_case = λ action args n e. record { within = ap (λ (r : Ran). r.found) (parts.fold-act Ran Ran ran_step (λ w. w.left) action args); is_plain = parts.fold-act Prog Way plain_step plain_way action args };
    test_case = λ c n e. record { within = ap (λ (r : Ran). r.found) (parts.fold-test Ran Ran ran_step (λ w. w.left) c); is_plain = parts.fold-test Prog Way plain_step plain_way c };
    seq_case = λ p q h0 h1 n e. let k = and_cases (is_written_prog agent p n) (is_written_prog agent q n) (sym (ap (λ (f : A). f n) (parts.fold-seq A Bool (written_prog_step agent) (λ w. false) p q)) ∙ e) in let a = h0 n k.0 in let b = h1 n k.1 in record { within = ap (λ (r : Ran). r.found) (parts.fold-seq Ran Ran ran_step (λ w. w.left) p q) ∙ and_both (runs_within p) (runs_within q) a.within b.within; is_plain = parts.fold-seq Prog Way plain_step plain_way p q ∙ ap (λ z. prog.Seq z (plain q)) a.is_plain ∙ ap (λ z. prog.Seq p z) b.is_plain };
    choice_case = λ p q h0 h1 n e. let k = and_cases (is_written_prog agent p n) (is_written_prog agent q n) (sym (ap (λ (f : A). f n) (parts.fold-choice A Bool (written_prog_step agent) (λ w. false) p q)) ∙ e) in let a = h0 n k.0 in let b = h1 n k.1 in record { within = ap (λ (r : Ran). r.found) (parts.fold-choice Ran Ran ran_step (λ w. w.left) p q) ∙ and_both (runs_within p) (runs_within q) a.within b.within; is_plain = parts.fold-choice Prog Way plain_step plain_way p q ∙ ap (λ z. prog.Choice z (plain q)) a.is_plain ∙ ap (λ z. prog.Choice p z) b.is_plain };
    pick_case = λ x sort p h2 n e. let k = and_cases (x == n) (is_written_prog agent p (n + 1)) (sym (ap (λ (f : A). f n) (parts.fold-pick A Bool (written_prog_step agent) (λ w. false) x sort p)) ∙ e) in let a = h2 (n + 1) k.1 in record { within = ap (λ (r : Ran). r.found) (parts.fold-pick Ran Ran ran_step (λ w. w.left) x sort p) ∙ a.within; is_plain = parts.fold-pick Prog Way plain_step plain_way x sort p ∙ ap (λ z. prog.Pick x sort z) a.is_plain };
    star_case = λ p h0 n e. let a = h0 n (sym (ap (λ (f : A). f n) (parts.fold-star A Bool (written_prog_step agent) (λ w. false) p)) ∙ e) in record { within = ap (λ (r : Ran). r.found) (parts.fold-star Ran Ran ran_step (λ w. w.left) p) ∙ a.within; is_plain = parts.fold-star Prog Way plain_step plain_way p ∙ ap (λ z. prog.Star z) a.is_plain };
    if_case = λ c p q h1 h2 n e. let k = and_cases (is_written_cond agent c n && (is_written_prog agent p n)) (is_written_prog agent q n) (sym (ap (λ (f : A). f n) (parts.fold-if A Bool (written_prog_step agent) (λ w. false) c p q)) ∙ e) in let j = and_cases (is_written_cond agent c n) (is_written_prog agent p n) k.0 in let a = h1 n j.1 in let b = h2 n k.1 in record { within = ap (λ (r : Ran). r.found) (parts.fold-if Ran Ran ran_step (λ w. w.left) c p q) ∙ and_both (runs_within p) (runs_within q) a.within b.within; is_plain = parts.fold-if Prog Way plain_step plain_way c p q ∙ ap (λ z. prog.If c z (plain q)) a.is_plain ∙ ap (λ z. prog.If c p z) b.is_plain };
    while_case = λ c p h1 n e. let k = and_cases (is_written_cond agent c n) (is_written_prog agent p n) (sym (ap (λ (f : A). f n) (parts.fold-while A Bool (written_prog_step agent) (λ w. false) c p)) ∙ e) in let a = h1 n k.1 in record { within = ap (λ (r : Ran). r.found) (parts.fold-while Ran Ran ran_step (λ w. w.left) c p) ∙ a.within; is_plain = parts.fold-while Prog Way plain_step plain_way c p ∙ ap (λ z. prog.While c z) a.is_plain };
    conc_case = λ p q h0 h1 n e. let k = and_cases (is_written_prog agent p n) (is_written_prog agent q n) (sym (ap (λ (f : A). f n) (parts.fold-conc A Bool (written_prog_step agent) (λ w. false) p q)) ∙ e) in let a = h0 n k.0 in let b = h1 n k.1 in record { within = ap (λ (r : Ran). r.found) (parts.fold-conc Ran Ran ran_step (λ w. w.left) p q) ∙ and_both (runs_within p) (runs_within q) a.within b.within; is_plain = parts.fold-conc Prog Way plain_step plain_way p q ∙ ap (λ z. prog.Conc z (plain q)) a.is_plain ∙ ap (λ z. prog.Conc p z) b.is_plain };
    prio_case = λ p q h0 h1 n e. let k = and_cases (is_written_prog agent p n) (is_written_prog agent q n) (sym (ap (λ (f : A). f n) (parts.fold-prio A Bool (written_prog_step agent) (λ w. false) p q)) ∙ e) in let a = h0 n k.0 in let b = h1 n k.1 in record { within = ap (λ (r : Ran). r.found) (parts.fold-prio Ran Ran ran_step (λ w. w.left) p q) ∙ and_both (runs_within p) (runs_within q) a.within b.within; is_plain = parts.fold-prio Prog Way plain_step plain_way p q ∙ ap (λ z. prog.Prio z (plain q)) a.is_plain ∙ ap (λ z. prog.Prio p z) b.is_plain };
    cstar_case = λ p h0 n e. let a = h0 n (sym (ap (λ (f : A). f n) (parts.fold-cstar A Bool (written_prog_step agent) (λ w. false) p)) ∙ e) in record { within = ap (λ (r : Ran). r.found) (parts.fold-cstar Ran Ran ran_step (λ w. w.left) p) ∙ a.within; is_plain = parts.fold-cstar Prog Way plain_step plain_way p ∙ ap (λ z. prog.Cstar z) a.is_plain };
    call_case = λ item args n e. record { within = ap (λ (r : Ran). r.found) (parts.fold-call Ran Ran ran_step (λ w. w.left) item args); is_plain = parts.fold-call Prog Way plain_step plain_way item args };
    search_case = λ depth fuel p h2 n e. let a = h2 n (sym (ap (λ (f : A). f n) (parts.fold-search A Bool (written_prog_step agent) (λ w. false) depth fuel p)) ∙ e) in record { within = ap (λ (r : Ran). r.found) (parts.fold-search Ran Ran ran_step (λ w. w.left) depth fuel p) ∙ a.within; is_plain = parts.fold-search Prog Way plain_step plain_way depth fuel p ∙ ap (λ z. prog.Search depth fuel z) a.is_plain };
    follow_case = λ depth fuel p rest h2 h3 n e. absurd (let k = (sym (ap (λ (f : A). f n) (parts.fold-follow A Bool (written_prog_step agent) (λ w. false) depth fuel p rest)) ∙ e) in cc);
    way_case = λ label left h. tt;
  }

  pub written_has_no_run : (p : Prog) (n : ℕ) → is_written_prog agent p n ≡ true → HasNoRun p
  written_has_no_run = parts.by_parts WhereWritten (λ w. Unit {0}) cases

  of_proc : (item : ProcItem) → proc_fits agent item ≡ true → HasNoRun item.body
  of_proc item h =
      written_has_no_run item.body (length item.params)
      (and_cases ((are_sorts agent item.params && nat_le (length item.params) 3) && prog_fits agent item.body (record outermost { scope = bound_from 0 item.params })) (is_written_prog agent item.body (length item.params)) h).1

  procs_within : (items : List ProcItem) → list_all (proc_fits agent) items ≡ true → list_all (λ (i : ProcItem). runs_within i.body) items ≡ true
  procs_within [] h = h
  procs_within (item ∷ items) h = and_more (proc_fits agent item) (runs_within item.body) (list_all (proc_fits agent) items) (list_all (λ (i : ProcItem). runs_within i.body) items) (λ k. (of_proc item k).within) (procs_within items) h

  procs_plain : (items : List ProcItem) → list_all (proc_fits agent) items ≡ true → All (λ (i : ProcItem). plain i.body ≡ i.body) items
  procs_plain [] h = All-nil (λ (i : ProcItem). plain i.body ≡ i.body)
  procs_plain (item ∷ items) h =
      let k = and_cases (proc_fits agent item) (list_all (proc_fits agent) items) h in
      All-cons (λ (i : ProcItem). plain i.body ≡ i.body) item items (of_proc item k.0).is_plain (procs_plain items k.1)

  pub well_formed_plain : WellFormed agent → IsPlain agent
  well_formed_plain w = record { procs = procs_plain agent.procs w.programs.procs; main = (written_has_no_run agent.main 0 w.programs.main_written).is_plain }

  pub well_formed_within : WellFormed agent → list_all (λ (i : ProcItem). runs_within i.body) agent.procs ≡ true
  well_formed_within w = procs_within agent.procs w.programs.procs

  pub main_within : WellFormed agent → runs_within agent.main ≡ true
  main_within w = (written_has_no_run agent.main 0 w.programs.main_written).within
