-- How sure it is that a program may end, by its parts.
use Rattle.std.proofs.Common.{◌≡◌, ℕ, Bool, true, false, ◌&&◌, ◌||◌, List, [], refl, sym, ap, ◌∙◌, subst}
use Rattle.std.specs.Prelude.{not}
use Rattle.golog_tree.specs.declared.agent.Agent.{Agent}
use Rattle.golog_tree.specs.declared.cond.Arg.{Arg}
use Rattle.golog_tree.specs.declared.cond.Cond.{Cond}
use Rattle.golog_tree.specs.declared.cond.Truth.{Truth}
use Rattle.golog_tree.specs.declared.cond.Truth.TheVariants.{Yes, No, Unknown}
use Rattle.golog_tree.specs.declared.prog.Prog.{Prog}
use Rattle.golog_tree.specs.declared.prog.Way.{Way}
use Rattle.golog_tree.specs.declared.prog.Prog.TheOpen.{Nil, Act, Test, Seq, Choice, Star, If, While, Conc, Prio, Cstar, Call, Search, Follow}
use Rattle.golog_tree.specs.declared.prog.Prog.TheVariants as prog
use Rattle.golog_tree.specs.declared.prog.Prog.TheViews.{out-Prog}
use Rattle.golog_tree.specs.Tidy.{Layer}
use Rattle.golog_semantics.specs.declared.Mode.{Mode}
use Rattle.golog_semantics.specs.declared.Mode.TheVariants.{Must, May, Near}
use Rattle.golog_semantics.specs.Modes.{holds}
use Rattle.golog_semantics.specs.Truth.{Values, both, either, env_of, not_of, truth_of}
use Rattle.golog_semantics.specs.Program.{body_of}
use Rattle.golog_semantics.specs.Search.{final}
use Rattle.golog_semantics.specs.Ways.{final_step}
use Rattle.golog_semantics.specs.Guarded.{IsGuarded, front}
use Rattle.golog_semantics.proofs.FrontLaws.{holds-both, holds-either, holds-yes, holds-no}
use Rattle.golog_semantics.proofs.Unfolded.{final-skips}
use Rattle.golog_fronts.specs.Ends.{EndsAs, EndsAsBoth, EndsAsOr}
use Rattle.golog_ways.proofs.Holding.{is-No}
use Rattle.golog_fronts.proofs.Steps.{final-by}

-- what is so far as sure as it can get stays so
abbrev pub IsSettled : Truth → Truth → Bool
IsSettled s t = (not (holds May t) || holds May s) && (not (holds Must t) || holds Must s)

settled : (s t : Truth) → IsSettled s t ≡ true → (m : Mode) → holds m t ≡ true → holds m s ≡ true
settled Yes t e m h = holds-yes m
settled No Yes e m h = absurd (cc)
settled No No e m h = h
settled No Unknown e m h = absurd (cc)
settled Unknown Yes e m h = absurd (cc)
settled Unknown No e Must h = absurd (cc)
settled Unknown No e May h = absurd (cc)
settled Unknown No e Near h = absurd (cc)
settled Unknown Unknown e m h = h

pub absorbed : (a c b : Bool) → (c ≡ true → a ≡ true) → a ≡ (a || (c && b))
absorbed true c b f = refl
absorbed false true b f = absurd (cc (f refl))
absorbed false false b f = refl

module _ (agent : Agent) (values : Values) where
  -- where the first can't end, the second doesn't count
  pub both_none : (p q : Prog) (o : Truth) → holds May o ≡ false → EndsAs agent values p o → EndsAsBoth agent values p q o
  both_none p q o b h = record { ends = λ m. none m (final agent values m p) (h.ends m) }
    where
      none : (m : Mode) (f : Bool) → holds m o ≡ f → holds m o ≡ (f && final agent values m q)
      none m true e = absurd (let k = ap (holds m) (is-No o b) ∙ holds-no m in cc)
      none m false e = e

  -- what may not be skipped can't end
  pub barred_ends : IsGuarded agent → (p : Prog) → (front agent p).skip ≡ false → EndsAs agent values p No
  barred_ends g p s = record { ends = λ m. holds-no m ∙ sym (never m (final agent values m p) refl) }
    where
      never : (m : Mode) (b : Bool) → final agent values m p ≡ b → final agent values m p ≡ false
      never m true e = let k = final-skips agent values g m p e in absurd (cc (k, s))
      never m false e = e

module _ {agent : Agent} {values : Values} where
  pub ends_as : {r q : Prog} {t : Truth} → r ≡ q → EndsAs agent values q t → EndsAs agent values r t
  ends_as {r} {q} {t} e h = subst (λ (z : Prog). EndsAs agent values z t) (sym e) h

  pub or_settled : {s t : Truth} {p : Prog} → IsSettled s t ≡ true → EndsAsOr agent values s t p s
  or_settled {s} {t} {p} e = record { ends = λ m. absorbed (holds m s) (holds m t) (final agent values m p) (settled s t e m) }

  pub or_more : {s t o r : Truth} {p : Prog} → r ≡ either s (both t o) → EndsAs agent values p o → EndsAsOr agent values s t p r
  or_more {s} {t} {o} {r} {p} is h = record {
    ends = λ m.
        let e = h.ends m in
        ap (holds m) is ∙ holds-either m s (both t o) ∙ ap (λ b. holds m s || b) (holds-both m t o ∙ (rw e refl));
  }

  pub both_more : {p q : Prog} {o k r : Truth} → r ≡ both o k → EndsAs agent values p o → EndsAs agent values q k → EndsAsBoth agent values p q r
  both_more {p} {q} {o} {k} {r} is h j = record { ends = λ m. let e = h.ends m in let f = j.ends m in ap (holds m) is ∙ holds-both m o k ∙ (rw (e, f) refl) }

module _ {agent : Agent} {values : Values} {r : Prog} (g : IsGuarded agent) where
  -- by the level of the program
  by_level : (l : Layer) (t : Truth) → out-Prog r ≡ l → ((m : Mode) → holds m t ≡ final_step agent values (final agent values) m l) → EndsAs agent values r t
  by_level l t e h = record { ends = λ m. h m ∙ sym (final-by agent values g m r l e) }

  pub nil_ends : r ≡ prog.Nil → EndsAs agent values r Yes
  nil_ends e = by_level Nil Yes (ap out-Prog e ∙ prog.outs-Nil) holds-yes

  pub act_ends : (action : ℕ) (args : List Arg) → r ≡ prog.Act action args → EndsAs agent values r No
  act_ends action args e = by_level (Act action args) No (ap out-Prog e ∙ prog.outs-Act action args) holds-no

  pub test_ends : (c : Cond) → r ≡ prog.Test c → EndsAs agent values r No
  test_ends c e = by_level (Test c) No (ap out-Prog e ∙ prog.outs-Test c) holds-no

  pub star_ends : (p : Prog) → r ≡ prog.Star p → EndsAs agent values r Yes
  star_ends p e = by_level (Star p) Yes (ap out-Prog e ∙ prog.outs-Star p) holds-yes

  pub cstar_ends : (p : Prog) → r ≡ prog.Cstar p → EndsAs agent values r Yes
  cstar_ends p e = by_level (Cstar p) Yes (ap out-Prog e ∙ prog.outs-Cstar p) holds-yes

  pub seq_ends : {p q : Prog} {t : Truth} → r ≡ prog.Seq p q → EndsAsBoth agent values p q t → EndsAs agent values r t
  seq_ends {p} {q} {t} e h = by_level (Seq p q) t (ap out-Prog e ∙ prog.outs-Seq p q) h.ends

  pub conc_ends : {p q : Prog} {t : Truth} → r ≡ prog.Conc p q → EndsAsBoth agent values p q t → EndsAs agent values r t
  conc_ends {p} {q} {t} e h = by_level (Conc p q) t (ap out-Prog e ∙ prog.outs-Conc p q) h.ends

  pub prio_ends : {p q : Prog} {t : Truth} → r ≡ prog.Prio p q → EndsAsBoth agent values p q t → EndsAs agent values r t
  prio_ends {p} {q} {t} e h = by_level (Prio p q) t (ap out-Prog e ∙ prog.outs-Prio p q) h.ends

  pub choice_ends : {p q : Prog} {o t : Truth} → r ≡ prog.Choice p q → EndsAs agent values p o → EndsAsOr agent values o Yes q t → EndsAs agent values r t
  choice_ends {p} {q} {o} {t} e one h =
      by_level (Choice p q) t (ap out-Prog e ∙ prog.outs-Choice p q) (λ m. let k = one.ends m in let y = holds-yes m in h.ends m ∙ (rw (k, y) refl))

  pub if_ends : (c : Cond) {p q : Prog} {t n o s : Truth} → r ≡ prog.If c p q → t ≡ truth_of agent values c (env_of []) → n ≡ not_of t → EndsAsOr agent values No t p o → EndsAsOr agent values o n q s → EndsAs agent values r s
  if_ends c {p} {q} {t} {n} {o} {s} e k i one h =
      by_level (If c p q) s (ap out-Prog e ∙ prog.outs-If c p q) (λ m. let a = one.ends m in let z = holds-no m in h.ends m ∙ (rw (a, z, i, k) refl))

  pub while_ends : (c : Cond) {p : Prog} {t n s : Truth} → r ≡ prog.While c p → t ≡ truth_of agent values c (env_of []) → n ≡ not_of t → EndsAsOr agent values n Yes p s → EndsAs agent values r s
  while_ends c {p} {t} {n} {s} e k i h =
      by_level (While c p) s (ap out-Prog e ∙ prog.outs-While c p) (λ m. let y = holds-yes m in h.ends m ∙ (rw (y, i, k) refl))

  pub search_ends : {p : Prog} {t : Truth} (depth fuel : ℕ) → r ≡ prog.Search depth fuel p → EndsAs agent values p t → EndsAs agent values r t
  search_ends {p} {t} depth fuel e h = by_level (Search depth fuel p) t (ap out-Prog e ∙ prog.outs-Search depth fuel p) h.ends

  pub follow_ends : {p : Prog} {t : Truth} (depth fuel : ℕ) (rest : List Way) → r ≡ prog.Follow depth fuel p rest → EndsAs agent values p t → EndsAs agent values r t
  follow_ends {p} {t} depth fuel rest e h = by_level (Follow depth fuel p rest) t (ap out-Prog e ∙ prog.outs-Follow depth fuel p rest) h.ends

  pub call_ends : {body : Prog} {t : Truth} (item : ℕ) (args : List Arg) → r ≡ prog.Call item args → body ≡ body_of agent item args → EndsAs agent values body t → EndsAs agent values r t
  call_ends {body} {t} item args e k h =
      by_level (Call item args) t (ap out-Prog e ∙ prog.outs-Call item args) (λ m. h.ends m ∙ ap (final agent values m) k)
