-- What both sides come to that began with nothing.
use Rattle.std.proofs.Common.{◌≡◌, ◌≤◌, ℕ, Bool, true, false, not, [], length, refl, sym, ap, ◌∙◌, subst}
use Rattle.golog_tree.specs.declared.agent.Agent.{Agent}
use Rattle.golog_semantics.specs.Journal.{Journal, has_end, is_open, longest}
use Rattle.golog_journal.specs.Boards.{IsBoardList}
use Rattle.golog_journal.specs.Leading.{Mind, SameMind}
use Rattle.golog_team.specs.declared.side.Side.{Side}
use Rattle.golog_team.specs.Notes.{Notes}
use Rattle.golog_team.specs.Steps.{Station, station, seen_at}
use Rattle.golog_team.specs.Linked.{IsLinked}
use Rattle.golog_team.specs.Rounds.{Rounds}
use Rattle.golog_team.specs.Wires.{View}
use Rattle.golog_team.specs.Standing.{station_of, HasRun}
use Rattle.golog_team.specs.Played.{nothing_done, AreInTurn, IsFinished, HavePlayed}
use Rattle.golog_team.proofs.Pairs.{all-seen}

not-so : (b : Bool) → not b ≡ true → b ≡ false
not-so true h = absurd (cc)
not-so false h = refl

linked-by : (a a' o o' : Agent) (n n' : ℕ) (w w' : Journal → Bool) (notes : Notes) (j j' : Journal) → a ≡ a' → o ≡ o' → n ≡ n' → w ≡ w' → j ≡ j'
    → IsLinked a o n w notes j → IsLinked a' o' n' w' notes j'
linked-by a a' o o' n n' w w' notes j j' as' os ns ws js l =
    subst (λ x. IsLinked x o' n' w' notes j') as'
    (subst (λ x. IsLinked a x n' w' notes j') os
    (subst (λ x. IsLinked a o x w' notes j') ns
    (subst (λ x. IsLinked a o n x notes j') ws
    (subst (λ x. IsLinked a o n w notes x) js l))))

rounds-by : (a a' o o' : Agent) (n n' : ℕ) (w their : Journal → Bool) (s s' t t' x y : Station) → a ≡ a' → o ≡ o' → n ≡ n' → s ≡ s' → t ≡ t'
    → Rounds a o n w their s t x y → Rounds a' o' n' w their s' t' x y
rounds-by a a' o o' n n' w their s s' t t' x y as' os ns ss ts r =
    subst (λ z. Rounds z o' n' w their s' t' x y) as'
    (subst (λ z. Rounds a z n' w their s' t' x y) os
    (subst (λ z. Rounds a o z w their s' t' x y) ns
    (subst (λ z. Rounds a o n w their z t' x y) ss
    (subst (λ z. Rounds a o n w their s z x y) ts r))))

-- what a side is of
pub record IsOf {L W : Type 0} (mind : L → Mind) (view : W → View) (s : Side L W) (agent other : Agent) (side : ℕ) : Type 0 where
  pub agent_is : s.agent.now ≡ agent
  pub other_is : s.other.now ≡ other
  pub side_is : s.side ≡ side
  pub new : station_of mind view s ≡ nothing_done

module _ {L W : Type 0} (mind : L → Mind) (view : W → View) (stands : L → Type 0) (agent other : Agent) (side : ℕ) (s new : Side L W)
    (of_agents : IsOf mind view s agent other side) (run : HasRun mind view stands s new) where
  its-list : IsBoardList agent (mind new.lead).list
  its-list =
      subst (λ a. IsBoardList a (mind new.lead).list) (run.gone.same.same_agent ∙ of_agents.agent_is)
      (subst (IsBoardList new.agent.now) (sym run.whole) run.gone.is_side.keeps.lawful)

  its-length : length (mind new.lead).list ≤ longest
  its-length = subst (λ (j : Journal). length j ≤ longest) (sym run.whole) run.short

  its-end : IsFinished (mind new.lead).list
  its-end = (ap has_end run.whole ∙ run.gone.over.finished, ap (is_open 0) run.whole ∙ run.gone.over.shut)

  its-link : (notes : Notes) → IsLinked s.agent.now s.other.now s.side (mind s.lead).waits notes new.journal.entries
      → IsLinked agent other side (mind s.lead).waits notes (mind new.lead).list
  its-link notes =
      linked-by s.agent.now agent s.other.now other s.side side (mind s.lead).waits (mind s.lead).waits notes new.journal.entries (mind new.lead).list
      of_agents.agent_is of_agents.other_is of_agents.side_is refl (sym run.whole)

module _ {L M W : Type 0} (mind : L → Mind) (their_mind : M → Mind) (view : W → View) (stands : L → Type 0) (their_stands : M → Type 0) (first second : Agent)
    (one new : Side L W) (other their_new : Side M W) (one_of : IsOf mind view one first second 0) (other_of : IsOf their_mind view other second first 1)
    (run : HasRun mind view stands one new) (their_run : HasRun their_mind view their_stands other their_new)
    (met : (view their_new.wire).seen ≡ (view new.wire).seen) where
  pub have-played : (beside : Bool)
      → IsLinked one.agent.now one.other.now one.side (mind one.lead).waits (view new.wire).seen new.journal.entries
      × IsLinked other.agent.now other.other.now other.side (their_mind other.lead).waits (view their_new.wire).seen their_new.journal.entries
      → (beside ≡ false → Rounds one.agent.now one.other.now one.side (mind one.lead).waits (their_mind other.lead).waits (station_of mind view one)
      (station_of their_mind view other) (station_of mind view new) (station_of their_mind view their_new))
      → HavePlayed first second (not beside) (mind one.lead) (mind new.lead) (their_mind other.lead) (their_mind their_new.lead)
  have-played beside linked turns = record {
    notes = (view new.wire).seen;
    same = (run.gone.same.same_mind, their_run.gone.same.same_mind);
    lawful = (its-list mind view stands first second 0 one new one_of run, its-list their_mind view their_stands second first 1 other their_new other_of their_run);
    short = (its-length mind view stands first second 0 one new one_of run, its-length their_mind view their_stands second first 1 other their_new other_of their_run);
    finished = (its-end mind view stands first second 0 one new one_of run, its-end their_mind view their_stands second first 1 other their_new other_of their_run);
    linked = its-link mind view stands first second 0 one new one_of run (view new.wire).seen linked.0;
    their_linked = its-link their_mind view their_stands second first 1 other their_new other_of their_run (view new.wire).seen
        (subst (λ l. IsLinked other.agent.now other.other.now other.side (their_mind other.lead).waits l their_new.journal.entries) met linked.1);
    turns = λ h. record {
      one = station_of mind view new;
      other = station_of their_mind view their_new;
      rounds =
          rounds-by one.agent.now first one.other.now second one.side 0 (mind one.lead).waits (their_mind other.lead).waits
          (station_of mind view one) nothing_done (station_of their_mind view other) nothing_done (station_of mind view new) (station_of their_mind view their_new)
          one_of.agent_is one_of.other_is one_of.side_is one_of.new other_of.new (turns (not-so beside h));
      journals = (sym run.whole, sym their_run.whole);
      notes_are = (all-seen mind view new, all-seen their_mind view their_new ∙ met);
    };
  }
