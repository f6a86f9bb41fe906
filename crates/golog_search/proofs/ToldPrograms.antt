-- What is told of the runs in a program, by its parts.
use Rattle.std.proofs.Common.{◌≡◌, ℕ, List, [], ◌++◌, map, ap, ◌∙◌, refl}
use Rattle.golog_tree.specs.declared.agent.Agent.{Agent}
use Rattle.golog_tree.specs.declared.prog.Prog.{Prog}
use Rattle.golog_tree.specs.declared.prog.Prog.TheOpen.{Prog-F, Way-F, Seq, Conc, Prio, Follow}
use Rattle.golog_tree.specs.declared.prog.Prog.TheVariants as prog
use Rattle.golog_tree.specs.declared.prog.Prog.TheFolds.{fold-Prog, fold-Way}
use Rattle.golog_tree.specs.declared.prog.Prog.TheViews.{out-Prog}
use Rattle.golog_tree.specs.declared.prog.Way.{Way}
use Rattle.golog_semantics.specs.Truth.{Values}
use Rattle.golog_semantics.proofs.ByParts as parts
use Rattle.golog_search.specs.declared.told.Told.{Told}
use Rattle.golog_search.specs.Told.{told_at, told_in, told_step}

-- no run is under way in the program, unless within its parts
pub record HasNoRun (p : Prog) : Type 0 where
  pub seq : (a b : Prog) → p ≡ prog.Seq a b → ⊥
  pub conc : (a b : Prog) → p ≡ prog.Conc a b → ⊥
  pub prio : (a b : Prog) → p ≡ prog.Prio a b → ⊥
  pub follow : (depth fuel : ℕ) (a : Prog) (rest : List Way) → p ≡ prog.Follow depth fuel a rest → ⊥

module _ (agent : Agent) (values : Values) where
  abbrev Tells : Type 0
  Tells = Prog → List Told

  abbrev step : Prog-F Tells ℕ → Tells
  step l p = told_step agent values l (out-Prog p)

  abbrev ways : Way-F Tells ℕ → ℕ
  ways w = 0

  abbrev told : Tells
  told = told_in agent values

  abbrev by : Prog → Tells → List Told
  by p f = f p

  pub in-seq : (p q : Prog) → told (prog.Seq p q) ≡ told p
  in-seq p q =
      ap (by (prog.Seq p q)) (parts.fold-seq Tells ℕ step ways p q)
      ∙ ap (told_step agent values (Seq (fold-Prog Tells ℕ step ways p) (fold-Prog Tells ℕ step ways q))) (prog.outs-Seq p q)

  pub in-conc : (p q : Prog) → told (prog.Conc p q) ≡ told p ++ told q
  in-conc p q =
      ap (by (prog.Conc p q)) (parts.fold-conc Tells ℕ step ways p q)
      ∙ ap (told_step agent values (Conc (fold-Prog Tells ℕ step ways p) (fold-Prog Tells ℕ step ways q))) (prog.outs-Conc p q)

  pub in-prio : (p q : Prog) → told (prog.Prio p q) ≡ told p ++ told q
  in-prio p q =
      ap (by (prog.Prio p q)) (parts.fold-prio Tells ℕ step ways p q)
      ∙ ap (told_step agent values (Prio (fold-Prog Tells ℕ step ways p) (fold-Prog Tells ℕ step ways q))) (prog.outs-Prio p q)

  pub in-follow : (depth fuel : ℕ) (p : Prog) (rest : List Way) → told (prog.Follow depth fuel p rest) ≡ told_at agent values p rest
  in-follow depth fuel p rest =
      ap (by (prog.Follow depth fuel p rest)) (parts.fold-follow Tells ℕ step ways depth fuel p rest)
      ∙ ap (told_step agent values (Follow depth fuel (fold-Prog Tells ℕ step ways p) (map (fold-Way Tells ℕ step ways) rest))) (prog.outs-Follow depth fuel p rest)

  abbrev Silent : Prog → Type 0
  Silent p = HasNoRun p → told p ≡ []

  none : parts.Cases Silent (λ w. Unit {0})
  none = record {
    nil_case = λ h. ap (by prog.Nil) (parts.fold-nil Tells ℕ step ways);
    act_case = λ action args h. ap (by (prog.Act action args)) (parts.fold-act Tells ℕ step ways action args);
    test_case = λ c h. ap (by (prog.Test c)) (parts.fold-test Tells ℕ step ways c);
    seq_case = λ p q a b h. absurd (h.seq p q refl);
    choice_case = λ p q a b h. ap (by (prog.Choice p q)) (parts.fold-choice Tells ℕ step ways p q);
    pick_case = λ x sort p a h. ap (by (prog.Pick x sort p)) (parts.fold-pick Tells ℕ step ways x sort p);
    star_case = λ p a h. ap (by (prog.Star p)) (parts.fold-star Tells ℕ step ways p);
    if_case = λ c p q a b h. ap (by (prog.If c p q)) (parts.fold-if Tells ℕ step ways c p q);
    while_case = λ c p a h. ap (by (prog.While c p)) (parts.fold-while Tells ℕ step ways c p);
    conc_case = λ p q a b h. absurd (h.conc p q refl);
    prio_case = λ p q a b h. absurd (h.prio p q refl);
    cstar_case = λ p a h. ap (by (prog.Cstar p)) (parts.fold-cstar Tells ℕ step ways p);
    call_case = λ item args h. ap (by (prog.Call item args)) (parts.fold-call Tells ℕ step ways item args);
    search_case = λ depth fuel p a h. ap (by (prog.Search depth fuel p)) (parts.fold-search Tells ℕ step ways depth fuel p);
    follow_case = λ depth fuel p rest a w h. absurd (h.follow depth fuel p rest refl);
    way_case = λ label left h. tt;
  }

  -- nothing is told of any other program
  pub in-none : (p : Prog) → HasNoRun p → told p ≡ []
  in-none = parts.by_parts Silent (λ w. Unit {0}) none
