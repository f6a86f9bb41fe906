-- What is kept of programs stays so while more programs have numbers.
use Rattle.std.proofs.Common.{◌≡◌, ℕ, zero, suc, ◌<◌, true, List, [], ◌∷◌, ◌++◌, ◌+◌, length, take, Option, refl, sym, ap, ◌∙◌, subst, get_or, arith}
use Rattle.std.specs.Prelude.{All, unwrap_or}
use Rattle.std.proofs.lemmas.List.{take_more}
use Rattle.std.proofs.lemmas.List.Elements.{All-cons, All-get_or, All-head, All-nil, All-push, All-tail, All-weaker}
use Rattle.golog_tree.specs.declared.agent.Agent.{Agent}
use Rattle.golog_tree.specs.declared.prog.Prog.{Prog}
use Rattle.golog_tree.specs.declared.prog.Prog.TheVariants.{Nil}
use Rattle.golog_semantics.specs.Fits.{cond_fits, nothing_bound}
use Rattle.golog_semantics.specs.Fronts.{AreFronts, Guarded}
use Rattle.golog_semantics.specs.Reports.{fits_label}
use Rattle.golog_semantics.specs.Search.{is_followed}
use Rattle.golog_semantics.proofs.Tests.{and_cases}
use Rattle.golog_fronts.specs.declared.front_lists.Front.{Front}
use Rattle.golog_fronts.specs.FrontLists.{are_closed, guarded, guarded_of}
use Rattle.golog_fronts.specs.Lefts.{LeavesClosed}
use Rattle.golog_memo.specs.Numbered.{AreOnce}
use Rattle.golog_find.specs.declared.level.Level.{Level as AnyLevel}
use Rattle.golog_ways.specs.declared.expand.NumberedFront.{NumberedFront}
use Rattle.golog_ways.specs.Open.{AreChecked}
use Rattle.golog_find.specs.declared.visits.Opened.{Opened}
use Rattle.golog_find.specs.declared.visits.Visits.{Visits}
use Rattle.golog_find.specs.Numbers.{GoesOn, IsLevel, level_of}
use Rattle.golog_find.specs.Visits.{AreFrontsOf, AreKept, AreOpenedFronts, IsEndCheck, IsFrontOf, IsNumberedFront, IsOfAgent, IsOpened, meant_front, meant_fronts, prog_at}
use Rattle.golog_find.proofs.LevelParts.{map-append}
use Rattle.golog_find.proofs.Numbering.{all_meant-stay, at-mapped, level_with, numbers-stay}

-- a front by the program that it leaves
abbrev standing : NumberedFront → Option Prog → Guarded
standing f prog = record { cond = f.cond; way = record { label = f.label; left = unwrap_or prog Nil } }

module _ (progs more : List Prog) (h : GoesOn progs more) where
  front-stays : (f : NumberedFront) → f.left < length progs → meant_front more f ≡ meant_front progs f
  front-stays f l = ap (standing f) (h.same f.left l)

  pub numbered-stays : (f : NumberedFront) → IsNumberedFront progs f → IsNumberedFront more f
  numbered-stays f k =
      let longer = h.longer in
      let number = k.number in
      record { number = omega arith; followed = k.followed ∙ ap (λ (g : Guarded). is_followed g.way) (sym (front-stays f k.number)) }

  pub fronts-stay : (fs : List NumberedFront) → All (IsNumberedFront progs) fs → meant_fronts more fs ≡ meant_fronts progs fs
  fronts-stay [] k = refl
  fronts-stay (f ∷ fs) k =
      let one = front-stays f (All-head (IsNumberedFront progs) f fs k).number in
      let rest = fronts-stay fs (All-tail (IsNumberedFront progs) f fs k) in
      (λ i. one i ∷ rest i)

  pub all_numbered-stay : (fs : List NumberedFront) → All (IsNumberedFront progs) fs → All (IsNumberedFront more) fs
  all_numbered-stay fs k = All-weaker (IsNumberedFront progs) (IsNumberedFront more) numbered-stays fs k

  pub prog-stays : (number : ℕ) → number < length progs → prog_at progs number ≡ prog_at more number
  prog-stays number l = ap (λ (q : Option Prog). unwrap_or q Nil) (sym (h.same number l))

  pub opened-stays : (agent : Agent) (o : Opened) → IsOpened agent progs o → IsOpened agent more o
  opened-stays agent o k =
      let longer = h.longer in
      let inside = k.inside in
      let same = fronts-stay o.fronts k.fronts.numbered in
      let prog = prog-stays o.prog k.inside in
      record {
        inside = omega arith;
        fronts = record {
          numbered = all_numbered-stay o.fronts k.fronts.numbered;
          agents = subst (All (IsOfAgent agent)) (sym same) k.fronts.agents;
          fronts = subst (λ (gs : List Guarded). AreFronts agent (prog_at more o.prog) gs) (sym same) (subst (λ (p : Prog). AreFronts agent p (meant_fronts progs o.fronts)) prog k.fronts.fronts);
          checked = k.fronts.checked;
        };
        end = subst (λ (p : Prog). IsEndCheck agent p o.end) prog k.end;
      }

  pub all_opened-stay : (agent : Agent) (os : List Opened) → All (IsOpened agent progs) os → All (IsOpened agent more) os
  all_opened-stay agent os k = All-weaker (IsOpened agent progs) (IsOpened agent more) (opened-stays agent) os k

  pub kept-stays : (agent : Agent) (visits : Visits) → AreKept agent progs visits → AreKept agent more visits
  kept-stays agent visits k = record { opened = all_opened-stay agent visits.opened k.opened; placed = k.placed; effects = k.effects }

  -- a level by the programs that have numbers now
  pub level-stays : (agent : Agent) (level : AnyLevel) → AreOnce more → IsLevel agent progs level → IsLevel agent more level
  level-stays agent level once k = record { once = once; numbers = numbers-stay progs more level.states h k.numbers; seen = k.seen; next = k.next }

  pub level_of-stays : (agent : Agent) (level : AnyLevel) → IsLevel agent progs level → level_of more level ≡ level_of progs level
  level_of-stays agent level k = ap (level_with level.cut) (all_meant-stay progs more level.states h k.numbers)

  -- one more front
  pub fronts-more : (gs : List Guarded) (g : Guarded) (ns : List NumberedFront) (n : NumberedFront) → AreFrontsOf progs gs ns → IsFrontOf more g n → AreFrontsOf more (gs ++ g ∷ []) (ns ++ n ∷ [])
  fronts-more gs g ns n k j =
      let before : meant_fronts more ns ≡ gs = fronts-stay ns k.numbered ∙ k.same in
      record {
        numbered = All-push (IsNumberedFront more) ns n (all_numbered-stay ns k.numbered) j.numbered;
        same = map-append (meant_front more) ns (n ∷ []) ∙ (λ i. before i ++ j.same i ∷ []);
      }

  -- one more program whose steps are kept
  pub kept-more : (agent : Agent) (os new : List Opened) (o : Opened) → All (IsOpened agent progs) os → IsOpened agent more o → new ≡ os ++ o ∷ [] → All (IsOpened agent more) new
  kept-more agent os new o k j e = subst (All (IsOpened agent more)) (sym e) (All-push (IsOpened agent more) os o (all_opened-stay agent os k) j)

-- the fronts up to the next one
pub guarded-next : (fs : List Front) (i : ℕ) (f : Front) → i < length fs → f ≡ get_or fs i f → guarded (take (i + 1) fs) ≡ guarded (take i fs) ++ guarded_of f ∷ []
guarded-next fs i f l e =
    ap guarded (take_more fs i f l) ∙ map-append guarded_of (take i fs) (get_or fs i f ∷ []) ∙ ap (λ (g : Front). guarded (take i fs) ++ guarded_of g ∷ []) (sym e)

-- the front at a place is one of the program's
pub front-fits : (progs : List Prog) (agent : Agent) (fs : List NumberedFront) (i : ℕ) (f : NumberedFront) → i < length fs → f ≡ get_or fs i f
    → All (IsNumberedFront progs) fs → All (IsOfAgent agent) (meant_fronts progs fs) → IsNumberedFront progs f × IsOfAgent agent (meant_front progs f)
front-fits progs agent fs i f l e k j = (
  subst (IsNumberedFront progs) (sym e) (All-get_or (IsNumberedFront progs) fs i f l k),
  subst (λ (x : NumberedFront). IsOfAgent agent (meant_front progs x)) (sym e) (at-mapped (IsOfAgent agent) (meant_front progs) fs i f l j),
)

-- the steps of a program are the agent's
pub of_agent : (agent : Agent) (p : Prog) (fs : List Front) → are_closed agent fs ≡ true → All (λ (g : Guarded). LeavesClosed agent p g.way) (guarded fs) → All (IsOfAgent agent) (guarded fs)
of_agent agent p [] c l = All-nil (IsOfAgent agent)
of_agent agent p (f ∷ fs) c l =
    let k = and_cases (cond_fits agent f.cond nothing_bound) (are_closed agent fs) c in
    All-cons (IsOfAgent agent) (guarded_of f) (guarded fs)
    (record { closed = k.0; label = (All-head (λ (g : Guarded). LeavesClosed agent p g.way) (guarded_of f) (guarded fs) l).label })
    (of_agent agent p fs k.1 (All-tail (λ (g : Guarded). LeavesClosed agent p g.way) (guarded_of f) (guarded fs) l))

-- such fronts by numbers
pub opened-fronts : (agent : Agent) (progs : List Prog) (p q : Prog) (fs : List Front) (ns : List NumberedFront) → AreFrontsOf progs (guarded fs) ns → AreFronts agent p (guarded fs)
    → are_closed agent fs ≡ true → All (λ (g : Guarded). LeavesClosed agent p g.way) (guarded fs) → p ≡ q → AreChecked agent ns → AreOpenedFronts agent progs q ns
opened-fronts agent progs p q fs ns by ways closed lefts e checked = record {
  numbered = by.numbered;
  agents = subst (All (IsOfAgent agent)) (sym by.same) (of_agent agent p fs closed lefts);
  fronts = subst (λ (gs : List Guarded). AreFronts agent q gs) (sym by.same) (subst (λ (r : Prog). AreFronts agent r (guarded fs)) e ways);
  checked = checked;
}

-- the condition of the front at a place has no free variable
pub closed-at : (agent : Agent) (fs : List Front) (i : ℕ) (f : Front) → i < length fs → f ≡ get_or fs i f → are_closed agent fs ≡ true → cond_fits agent f.cond nothing_bound ≡ true
closed-at agent [] i f l e c = absurd (omega arith)
closed-at agent (g ∷ fs) zero f l e c =
    ap (λ (x : Front). cond_fits agent x.cond nothing_bound) e ∙ (and_cases (cond_fits agent g.cond nothing_bound) (are_closed agent fs) c).0
closed-at agent (g ∷ fs) (suc i) f l e c = closed-at agent fs i f (omega arith) e (and_cases (cond_fits agent g.cond nothing_bound) (are_closed agent fs) c).1

-- the actions of kept steps are the agent's
pub labels-fit : (agent : Agent) (progs : List Prog) (fs : List NumberedFront) → All (IsOfAgent agent) (meant_fronts progs fs) → All (λ (f : NumberedFront). fits_label agent f.label ≡ true) fs
labels-fit agent progs [] h = All-nil (λ (f : NumberedFront). fits_label agent f.label ≡ true)
labels-fit agent progs (f ∷ fs) h =
    All-cons (λ (g : NumberedFront). fits_label agent g.label ≡ true) f fs (All-head (IsOfAgent agent) (meant_front progs f) (meant_fronts progs fs) h).label
    (labels-fit agent progs fs (All-tail (IsOfAgent agent) (meant_front progs f) (meant_fronts progs fs) h))
