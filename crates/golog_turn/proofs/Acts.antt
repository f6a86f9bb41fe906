-- What an op does at the object that a served seat holds.
use Rattle.std.proofs.Common.{◌≡◌, ℕ, List, [], ◌∷◌, ◌++◌, ◌≤◌, length, get_or, refl, sym, ap, ◌∙◌, append-nil, append_assoc}
use Rattle.atomic_table.specs.Table.{Me, rest}
use Rattle.golog_turn.specs.declared.view.View.{View}
use Rattle.golog_turn.specs.Parties.{own, AreOf, GoesOn}
use Rattle.golog_turn.specs.Acts.{MayAct, Applied}
use Rattle.golog_turn.specs.Turns.{view}
use Rattle.golog_turn.specs.Steps.{IsServed}
use Rattle.golog_turn.proofs.Parties.{own-append, own_all}

module _ {E O : Type 0} (list : O → List E) where
  -- the object in a served seat's hand stands for what was seen
  pub stands : (ticket : ℕ) (me : Me O (View E)) (held : O) → IsServed list ticket [] me → me.1 ≡ (0, held) ∷ rest me.1 → list held ≡ me.0.seen
  stands ticket me held served is =
      let o = served.1 in
      let carried : me.1 ≡ (0, o) ∷ [] = ap (λ (m : Me O (View E)). m.1) served.4 in
      ap list (ap (λ (l : List (ℕ × O)). (get_or l 0 (0, o)).1) (sym is ∙ carried)) ∙ (served.3 ∙ append-nil me.0.seen)

  pub goes_on_whole : (party : E → ℕ) (ticket : ℕ) (me : Me O (View E)) (held : O) → IsServed list ticket [] me → me.1 ≡ (0, held) ∷ rest me.1 → GoesOn party (list held) me.0.seen me.0.parties
  goes_on_whole party ticket me held served is = ([], stands ticket me held served is ∙ sym (append-nil me.0.seen), refl)

  -- the object has changed in the seat's hand
  pub holds_after : (ticket : ℕ) (me : Me O (View E)) (before after : O) (added : List E) → IsServed list ticket [] me → me.1 ≡ (0, before) ∷ rest me.1 → list after ≡ list before ++ added
      → IsServed list ticket added (me.0, (0, after) ∷ rest me.1)
  holds_after ticket me before after added served held grown =
      let now = served.4 in (
        served.0,
        after,
        served.2,
        grown ∙ ap (λ l. l ++ added) (stands ticket me before served held),
        λ i. (ap (λ (m : Me O (View E)). m.0) now i, (0, after) ∷ rest (ap (λ (m : Me O (View E)). m.1) now i)),
      )

  -- what is announced has been seen
  pub announced : (ticket : ℕ) (me n : Me O (View E)) (added : List E) → IsServed list ticket added me → ((o : O) → me.1 ≡ (0, o) ∷ [] → n ≡ (view me.0.turn (list o) me.0.parties, me.1)) → (n.0.seen ≡ me.0.seen ++ added) × (n.0.parties ≡ me.0.parties) × IsServed list ticket [] n
  announced ticket me n added served tells =
      let o = served.1 in
      let now = tells o (ap (λ (m : Me O (View E)). m.1) served.4) in
      let turn = ap (λ (m : Me O (View E)). m.0.turn) served.4 in
      let carried = ap (λ (m : Me O (View E)). m.1) served.4 in
      let seen_now : n.0.seen ≡ list o = ap (λ (m : Me O (View E)). m.0.seen) now in
      let parties_now : n.0.parties ≡ me.0.parties = ap (λ (m : Me O (View E)). m.0.parties) now in (
        seen_now ∙ served.3,
        parties_now,
        (served.0, o, served.2, sym seen_now ∙ sym (append-nil n.0.seen), now ∙ (λ i. (view (turn i) (sym seen_now i) (sym parties_now i), carried i))),
      )

module _ {E : Type 0} (party : E → ℕ) where
  goes_further : (before middle after : List E) (ps : List ℕ) → GoesOn party middle before ps → GoesOn party after middle ps → GoesOn party after before ps
  goes_further before middle after ps a b =
      (a.0 ++ b.0, b.1 ∙ ap (λ l. l ++ b.0) a.1 ∙ append_assoc before a.0 b.0, own-append party ps a.0 b.0 ∙ (λ i. a.2 i ++ b.2 i))

  module _ {Op Reply O : Type 0} (list : O → List E) (answers : List E → Op → Reply → List E → Type 0) where
    -- the op is applied at the very point that was seen
    pub acts : (before : List E) (ps : List ℕ) (op : Op) (reply : Reply) (added after : List E) (o : O) → list o ≡ before → after ≡ before ++ added → length added ≤ 1 → answers before op reply added → AreOf party ps added
        → Applied list party answers before ps op reply after
    acts before ps op reply added after o stands grown few answer are = record {
      point = before;
      stands = (o, stands);
      goes_on = ([], sym (append-nil before), refl);
      added = added;
      few = few;
      ends = grown;
      answered = answer;
      mine = ap (own party ps) grown ∙ own-append party ps before added ∙ ap (λ l. own party ps before ++ l) (own_all party ps added are);
    }

    -- others had their turns before
    pub acts_later : (before middle : List E) (ps : List ℕ) (op : Op) (reply : Reply) (after : List E) → GoesOn party middle before ps → Applied list party answers middle ps op reply after
        → Applied list party answers before ps op reply after
    acts_later before middle ps op reply after goes applied =
        let same : own party ps middle ≡ own party ps before = ap (own party ps) goes.1 ∙ own-append party ps before goes.0 ∙ ap (λ l. own party ps before ++ l) goes.2 ∙ append-nil (own party ps before) in record {
          point = applied.point;
          stands = applied.stands;
          goes_on = goes_further before middle applied.point ps goes applied.goes_on;
          added = applied.added;
          few = applied.few;
          ends = applied.ends;
          answered = applied.answered;
          mine = applied.mine ∙ ap (λ l. l ++ applied.added) same;
        }

    -- what may be done wherever the history goes on to may be done once it has gone on
    pub may_act_later : (allows : List E → Op → Type 0) (before middle : List E) (ps : List ℕ) (op : Op) → GoesOn party middle before ps → MayAct list party allows answers before ps op → MayAct list party allows answers middle ps op
    may_act_later allows before middle ps op goes may o on = may o (goes_further before middle (list o) ps goes on)
