-- What holds in Must holds in Near, and Near and May agree: conditions, preconditions and Final.
use Rattle.std.proofs.Common.{◌≡◌, ℕ, zero, suc, Bool, true, false, ◌&&◌, ◌==◌, List, [], ◌∷◌, refl, sym, ◌∙◌}
use Rattle.golog_tree.specs.declared.agent.Agent.{Agent}
use Rattle.golog_tree.specs.declared.agent.PossItem.{PossItem}
use Rattle.golog_tree.specs.declared.cond.Truth.{Truth}
use Rattle.golog_tree.specs.declared.cond.Truth.TheVariants.{Yes, No, Unknown}
use Rattle.golog_tree.specs.declared.prog.Prog.{Prog}
use Rattle.golog_tree.specs.declared.prog.Prog.TheOpen.{Nil, Act, Test, Seq, Choice, Pick, Star, If, While, Conc, Prio, Cstar, Call, Search, Follow}
use Rattle.golog_tree.specs.declared.prog.Prog.TheViews.{out-Prog}
use Rattle.golog_tree.specs.Tidy.{Layer}
use Rattle.golog_semantics.specs.declared.Mode.{Mode}
use Rattle.golog_semantics.specs.declared.Mode.TheVariants.{Must, May, Near}
use Rattle.golog_semantics.specs.Modes.{holds}
use Rattle.golog_semantics.specs.Truth.{Values, constants, env_of, not_of, truth_of}
use Rattle.golog_semantics.specs.Values.{is_possible, possible_by}
use Rattle.golog_semantics.specs.Program.{put_arg, body_of}
use Rattle.golog_semantics.specs.Ways.{final_to, final_step, is_so, is_not}
use Rattle.golog_semantics.specs.Search.{final}
use Rattle.golog_semantics.proofs.Tests.{and_more, any_more, if_more, or_more}

-- what holds in the first mode holds in the second
pub record Weaker (a b : Mode) : Type 0 where
  pub holds_too : (t : Truth) → holds a t ≡ true → holds b t ≡ true

must_near-holds : (t : Truth) → holds Must t ≡ true → holds Near t ≡ true
must_near-holds Yes e = refl
must_near-holds No e = e
must_near-holds Unknown e = refl

near_may-holds : (t : Truth) → holds Near t ≡ holds May t
near_may-holds Yes = refl
near_may-holds No = refl
near_may-holds Unknown = refl

pub must_near : Weaker Must Near
must_near = record { holds_too = must_near-holds }

pub near_may : Weaker Near May
near_may = record { holds_too = λ t e. sym (near_may-holds t) ∙ e }

pub may_near : Weaker May Near
may_near = record { holds_too = λ t e. near_may-holds t ∙ e }

pub weaker-trans : (a b c : Mode) → Weaker a b → Weaker b c → Weaker a c
weaker-trans a b c h k = record { holds_too = λ t e. k.holds_too t (h.holds_too t e) }

module _ (agent : Agent) (values : Values) (a b : Mode) (w : Weaker a b) where
  possible-more : (action : ℕ) (args : List ℕ) (items : List PossItem) → possible_by agent values a action args items ≡ true → possible_by agent values b action args items ≡ true
  possible-more action args [] e = refl
  possible-more action args (item ∷ items) e =
      if_more (item.action == action) (possible_by agent values a action args items) (possible_by agent values b action args items)
      (holds a (truth_of agent values item.cond (env_of args))) (holds b (truth_of agent values item.cond (env_of args)))
      (w.holds_too (truth_of agent values item.cond (env_of args))) (possible-more action args items) e

  pub is_possible-more : (action : ℕ) (args : List ℕ) → is_possible agent values a action args ≡ true → is_possible agent values b action args ≡ true
  is_possible-more action args e = possible-more action args agent.poss e

  final_step-more : (f : Mode → Prog → Bool) → ((p : Prog) → f a p ≡ true → f b p ≡ true) → (l : Layer) → final_step agent values f a l ≡ true → final_step agent values f b l ≡ true
  final_step-more f h Nil e = refl
  final_step-more f h (Act action args) e = e
  final_step-more f h (Test c) e = e
  final_step-more f h (Seq p q) e = and_more (f a p) (f b p) (f a q) (f b q) (h p) (h q) e
  final_step-more f h (Choice p q) e = or_more (f a p) (f b p) (f a q) (f b q) (h p) (h q) e
  final_step-more f h (Pick x sort p) e = any_more (λ c. f a (put_arg p x c)) (λ c. f b (put_arg p x c)) (λ c. h (put_arg p x c)) (constants agent sort) e
  final_step-more f h (Star p) e = refl
  final_step-more f h (If c p q) e =
      or_more (is_so agent values a c && f a p) (is_so agent values b c && f b p) (is_not agent values a c && f a q) (is_not agent values b c && f b q)
      (and_more (is_so agent values a c) (is_so agent values b c) (f a p) (f b p) (w.holds_too (truth_of agent values c (env_of []))) (h p))
      (and_more (is_not agent values a c) (is_not agent values b c) (f a q) (f b q) (w.holds_too (not_of (truth_of agent values c (env_of [])))) (h q)) e
  final_step-more f h (While c p) e = or_more (is_not agent values a c) (is_not agent values b c) (f a p) (f b p) (w.holds_too (not_of (truth_of agent values c (env_of [])))) (h p) e
  final_step-more f h (Conc p q) e = and_more (f a p) (f b p) (f a q) (f b q) (h p) (h q) e
  final_step-more f h (Prio p q) e = and_more (f a p) (f b p) (f a q) (f b q) (h p) (h q) e
  final_step-more f h (Cstar p) e = refl
  final_step-more f h (Call item args) e = h (body_of agent item args) e
  final_step-more f h (Search d fu p) e = h p e
  final_step-more f h (Follow d fu p rest) e = h p e

  pub final_to-more : (n : ℕ) (p : Prog) → final_to agent values n a p ≡ true → final_to agent values n b p ≡ true
  final_to-more zero p e = e
  final_to-more (suc n) p e = final_step-more (final_to agent values n) (final_to-more n) (out-Prog p) e

  pub final-more : (p : Prog) → final agent values a p ≡ true → final agent values b p ≡ true
  unfolding final
  final-more p e = final_to-more _ p e

both_same : (b c : Bool) → (b ≡ true → c ≡ true) → (c ≡ true → b ≡ true) → b ≡ c
both_same true true h k = refl
both_same true false h k = sym (h refl)
both_same false true h k = k refl
both_same false false h k = refl

pub final-may_near : (agent : Agent) (values : Values) (p : Prog) → final agent values May p ≡ final agent values Near p
final-may_near agent values p = both_same (final agent values May p) (final agent values Near p) (final-more agent values May Near may_near p) (final-more agent values Near May near_may p)
