-- Conditions, preconditions and ends in a world and where less is known.
use Rattle.std.proofs.Common.{◌≡◌, ℕ, zero, suc, Bool, true, ◌&&◌, ◌==◌, List, [], ◌∷◌, refl, ap}
use Rattle.golog_tree.specs.declared.agent.Agent.{Agent}
use Rattle.golog_tree.specs.declared.agent.PossItem.{PossItem}
use Rattle.golog_tree.specs.declared.cond.Cond.{Cond}
use Rattle.golog_tree.specs.declared.cond.Truth.{Truth}
use Rattle.golog_tree.specs.declared.cond.Truth.TheVariants.{Yes, No, Unknown}
use Rattle.golog_tree.specs.declared.prog.Prog.{Prog}
use Rattle.golog_tree.specs.declared.prog.Prog.TheOpen.{Nil, Act, Test, Seq, Choice, Pick, Star, If, While, Conc, Prio, Cstar, Call, Search, Follow}
use Rattle.golog_tree.specs.declared.prog.Prog.TheViews.{out-Prog}
use Rattle.golog_tree.specs.Tidy.{Layer}
use Rattle.golog_semantics.specs.declared.Mode.{Mode}
use Rattle.golog_semantics.specs.declared.Mode.TheVariants.{Must, May}
use Rattle.golog_semantics.specs.Modes.{holds}
use Rattle.golog_semantics.specs.Truth.{Env, Values, constants, env_of, not_of, truth_of}
use Rattle.golog_semantics.specs.Values.{is_possible, possible_by}
use Rattle.golog_semantics.specs.Program.{put_arg, body_of}
use Rattle.golog_semantics.specs.Ways.{final_to, final_step, is_so, is_not}
use Rattle.golog_semantics.specs.Search.{final}
use Rattle.golog_semantics.specs.Certain.{KnownIsSo}
use Rattle.golog_semantics.proofs.Tests.{and_more, any_more, if_more, or_more}

-- what holds at the first values in the first mode holds at the second in the second
pub record Follows (agent : Agent) (one : Values) (a : Mode) (other : Values) (b : Mode) : Type 0 where
  pub so : (c : Cond) (env : Env) → holds a (truth_of agent one c env) ≡ true → holds b (truth_of agent other c env) ≡ true
  pub not_so : (c : Cond) (env : Env) → holds a (not_of (truth_of agent one c env)) ≡ true → holds b (not_of (truth_of agent other c env)) ≡ true

must_yes : (t : Truth) → holds Must t ≡ true → t ≡ Yes
must_yes Yes e = refl
must_yes No e = absurd (cc)
must_yes Unknown e = absurd (cc)

must_no : (t : Truth) → holds Must (not_of t) ≡ true → t ≡ No
must_no Yes e = absurd (cc)
must_no No e = refl
must_no Unknown e = absurd (cc)

may_unless_no : (t u : Truth) → (t ≡ No → u ≡ No) → u ≡ Yes → holds May t ≡ true
may_unless_no Yes u h e = refl
may_unless_no No u h e = absurd (let k = h refl in cc)
may_unless_no Unknown u h e = refl

may_unless_yes : (t u : Truth) → (t ≡ Yes → u ≡ Yes) → u ≡ No → holds May (not_of t) ≡ true
may_unless_yes Yes u h e = absurd (let k = h refl in cc)
may_unless_yes No u h e = refl
may_unless_yes Unknown u h e = refl

pub certain_follows : (agent : Agent) (values world : Values) → KnownIsSo agent values world → Follows agent values Must world Must
certain_follows agent values world k = record {
  so = λ c env e. ap (holds Must) (k.yes c env (must_yes (truth_of agent values c env) e));
  not_so = λ c env e. ap (λ t. holds Must (not_of t)) (k.no c env (must_no (truth_of agent values c env) e));
}

pub possible_follows : (agent : Agent) (values world : Values) → KnownIsSo agent values world → Follows agent world Must values May
possible_follows agent values world k = record {
  so = λ c env e. may_unless_no (truth_of agent values c env) (truth_of agent world c env) (k.no c env) (must_yes (truth_of agent world c env) e);
  not_so = λ c env e. may_unless_yes (truth_of agent values c env) (truth_of agent world c env) (k.yes c env) (must_no (truth_of agent world c env) e);
}

module _ (agent : Agent) (one : Values) (a : Mode) (other : Values) (b : Mode) (w : Follows agent one a other b) where
  possible-follows : (action : ℕ) (args : List ℕ) (items : List PossItem) → possible_by agent one a action args items ≡ true → possible_by agent other b action args items ≡ true
  possible-follows action args [] e = refl
  possible-follows action args (item ∷ items) e =
      if_more (item.action == action) (possible_by agent one a action args items) (possible_by agent other b action args items)
      (holds a (truth_of agent one item.cond (env_of args))) (holds b (truth_of agent other item.cond (env_of args)))
      (w.so item.cond (env_of args)) (possible-follows action args items) e

  pub is_possible-follows : (action : ℕ) (args : List ℕ) → is_possible agent one a action args ≡ true → is_possible agent other b action args ≡ true
  is_possible-follows action args e = possible-follows action args agent.poss e

  final_step-follows : (f g : Mode → Prog → Bool) → ((p : Prog) → f a p ≡ true → g b p ≡ true) → (l : Layer) → final_step agent one f a l ≡ true → final_step agent other g b l ≡ true
  final_step-follows f g h Nil e = refl
  final_step-follows f g h (Act action args) e = e
  final_step-follows f g h (Test c) e = e
  final_step-follows f g h (Seq p q) e = and_more (f a p) (g b p) (f a q) (g b q) (h p) (h q) e
  final_step-follows f g h (Choice p q) e = or_more (f a p) (g b p) (f a q) (g b q) (h p) (h q) e
  final_step-follows f g h (Pick x sort p) e = any_more (λ c. f a (put_arg p x c)) (λ c. g b (put_arg p x c)) (λ c. h (put_arg p x c)) (constants agent sort) e
  final_step-follows f g h (Star p) e = refl
  final_step-follows f g h (If c p q) e =
      or_more (is_so agent one a c && f a p) (is_so agent other b c && g b p) (is_not agent one a c && f a q) (is_not agent other b c && g b q)
      (and_more (is_so agent one a c) (is_so agent other b c) (f a p) (g b p) (w.so c (env_of [])) (h p))
      (and_more (is_not agent one a c) (is_not agent other b c) (f a q) (g b q) (w.not_so c (env_of [])) (h q)) e
  final_step-follows f g h (While c p) e = or_more (is_not agent one a c) (is_not agent other b c) (f a p) (g b p) (w.not_so c (env_of [])) (h p) e
  final_step-follows f g h (Conc p q) e = and_more (f a p) (g b p) (f a q) (g b q) (h p) (h q) e
  final_step-follows f g h (Prio p q) e = and_more (f a p) (g b p) (f a q) (g b q) (h p) (h q) e
  final_step-follows f g h (Cstar p) e = refl
  final_step-follows f g h (Call item args) e = h (body_of agent item args) e
  final_step-follows f g h (Search d fu p) e = h p e
  final_step-follows f g h (Follow d fu p rest) e = h p e

  final_to-follows : (n : ℕ) (p : Prog) → final_to agent one n a p ≡ true → final_to agent other n b p ≡ true
  final_to-follows zero p e = e
  final_to-follows (suc n) p e = final_step-follows (final_to agent one n) (final_to agent other n) (final_to-follows n) (out-Prog p) e

  pub final-follows : (p : Prog) → final agent one a p ≡ true → final agent other b p ≡ true
  unfolding final
  final-follows p e = final_to-follows _ p e
