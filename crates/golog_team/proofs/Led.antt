-- What calls of a journal to which no one else adds leave.
use Rattle.std.proofs.Common.{◌≡◌, ◌≢◌, ℕ, ◌+◌, ◌≤◌, Bool, true, false, not, ◌&&◌, ◌||◌, if◌then◌else◌, Option, Some, None, List, [], ◌∷◌, ◌++◌, length, length-append, refl, sym, ap, ◌∙◌, subst, arith, ◌⊎◌, inl, inr}
use Rattle.std.specs.Prelude.{IsTrue, slice_get, option_map}
use Rattle.std.specs.List.{list_all}
use Rattle.std.proofs.lemmas.Bool.{and_parts}
use Rattle.std.proofs.lemmas.List.{append-nil, append_cancel_left}
use Rattle.golog_tree.specs.declared.agent.Agent.{Agent}
use Rattle.golog_semantics.specs.declared.journal.Entry.{Entry}
use Rattle.golog_semantics.specs.declared.journal.Entry.TheVariants.{End}
use Rattle.golog_semantics.specs.declared.journal.Item.{Item}
use Rattle.golog_semantics.specs.declared.journal.Answer.{Answer}
use Rattle.golog_semantics.specs.Journal.{Journal, Command, commands, has_end, is_end}
use Rattle.golog_semantics.specs.Posts.{posted_entry}
use Rattle.golog_journal.specs.declared.board.Next.{Next}
use Rattle.golog_journal.specs.declared.board.Next.TheVariants.{Command as Commanded, Nothing, Ended}
use Rattle.golog_journal.specs.declared.board.Posted.{Posted}
use Rattle.golog_journal.specs.Boards.{AgentJournal, IsBoardList, journal_with}
use Rattle.golog_journal.specs.Commands.{is_resting, next_by, NextIs}
use Rattle.golog_journal.specs.Growing.{Sight, Called}
use Rattle.golog_journal.specs.Leading.{Mind, is_of_program, may_come, Leads, Watches, TakesTurn, AddsEndAtMost}
use Rattle.golog_journal.specs.Posting.{PostIs}
use Rattle.golog_team.specs.Sides.{HasAdded, HasLed}

-- a journal, as the board of one
abbrev pub alone_sight : AgentJournal → Sight
alone_sight journal = record { agent = journal.agent; seen = journal.entries; alone = true; holds = λ p. true }

module _ (old new : AgentJournal) where
  pub posted-alone : (i : Item) (taken : ℕ) (reply : Posted) → Called (λ point. PostIs old.agent point 0 taken i reply) (alone_sight old) (alone_sight new)
      → new ≡ journal_with old (posted_entry old.agent old.entries 0 taken i)
  posted-alone i taken reply c = λ x. record { agent = c.agent x; entries = entries x }
    where
      entries : new.entries ≡ old.entries ++ posted_entry old.agent old.entries 0 taken i ∷ []
      entries =
          c.grows ∙ ap (λ l. (old.entries ++ c.others) ++ l) c.answered.one
          ∙ ap (λ o. (old.entries ++ o) ++ posted_entry old.agent (old.entries ++ o) 0 taken i ∷ []) (c.are_others.none refl)
          ∙ ap (λ l. l ++ posted_entry old.agent l 0 taken i ∷ []) (append-nil old.entries)

  pub asked-alone : (taken : ℕ) (told : Next) → Called (λ point. NextIs old.agent point 0 taken told) (alone_sight old) (alone_sight new)
      → (new ≡ old) × (told ≡ next_by old.agent old.entries 0 taken (slice_get (commands old.agent 0 old.entries) taken))
  asked-alone taken told c = (
    (λ x. record { agent = c.agent x; entries = entries x }),
    c.answered.told ∙ ap (λ l. next_by old.agent l 0 taken (slice_get (commands old.agent 0 l) taken)) front,
  )
    where
      front : old.entries ++ c.others ≡ old.entries
      front = ap (λ o. old.entries ++ o) (c.are_others.none refl) ∙ append-nil old.entries

      entries : new.entries ≡ old.entries
      entries = c.grows ∙ ap (λ l. (old.entries ++ c.others) ++ l) c.answered.none ∙ append-nil (old.entries ++ c.others) ∙ front

-- nothing was added
pub gathered-same : (old new : AgentJournal) → Watches (alone_sight old) (alone_sight new) → new ≡ old
gathered-same old new w = λ x. record { agent = w.leads.same_agent x; entries = w.alone_same refl x }

module _ (agent : Agent) (journal : Journal) (taken : ℕ) where
  action_of : Option Command → Option ℕ
  action_of o = option_map (λ c. c.action) o

  pub next-command : (o : Option Command) (place action : ℕ) (asked : Bool) → Commanded place action asked ≡ next_by agent journal 0 taken o
      → Some action ≡ option_map (λ (c : Command). c.action) o
  next-command (Some c) place action asked h = let e : action ≡ c.action = cc in ap (λ a. Some a) e
  next-command None place action asked h = go (has_end journal) h
    where
      go : (e : Bool) → Commanded place action asked ≡ (if e then Ended else Nothing (is_resting agent journal 0 taken)) → Some action ≡ None
      go true h = absurd (cc)
      go false h = absurd (cc)

  pub next-none : (o : Option Command) (told : Next) → told ≡ next_by agent journal 0 taken o → ((place action : ℕ) (asked : Bool) → told ≢ Commanded place action asked)
      → None ≡ option_map (λ (c : Command). c.action) o
  next-none (Some c) told h other = absurd (other _ _ _ h)
  next-none None told h other = refl

-- the program's turn
module _ (mind : Mind) (old new : AgentJournal) (goes : has_end old.entries ≡ false) (leads : Leads (alone_sight old) (alone_sight new))
    (turn : TakesTurn mind (alone_sight old) (alone_sight new)) (lawful : IsBoardList old.agent new.entries) where
  own : (e : Entry) → may_come (alone_sight old) e ≡ true → is_of_program e ≡ true
  own e h = by (is_of_program e) h
    where
      by : (b : Bool) → (b || false) ≡ true → b ≡ true
      by true h = refl
      by false h = absurd (cc)

  nothing-more : new.entries ≡ old.entries → HasLed old.agent mind.waits old.entries new.entries
  nothing-more same = go (mind.waits old.entries) refl
    where
      go : (b : Bool) → mind.waits old.entries ≡ b → HasLed old.agent mind.waits old.entries new.entries
      go true is = inr (same, is)
      go false is = absurd (turn.goes refl goes is same)

  one-more : (e : Entry) → new.entries ≡ old.entries ++ e ∷ [] → is_of_program e ≡ true → HasLed old.agent mind.waits old.entries new.entries
  one-more e is of_program = inl (record {
    e = e;
    is = is;
    of_program = of_program;
    lawful = subst (IsBoardList old.agent) is lawful;
    waiting = λ w. by (turn.rests refl goes w);
  })
    where
      by : AddsEndAtMost old.entries new.entries → is_end e ≡ true
      by (inl same) = absurd (
          let a = ap (λ (l : Journal). length l) (sym is ∙ same) in
          let b = length-append old.entries (e ∷ []) in
          omega (arith, a, b))
      by (inr end) =
          let t = append_cancel_left old.entries (e ∷ []) (End end.0 ∷ []) (sym is ∙ end.1) in
          let u : e ≡ End end.0 = cc in
          ap is_end u

  pub has-led : HasLed old.agent mind.waits old.entries new.entries
  has-led = go leads.since leads.grows leads.may_come
    where
      go : (since : Journal) → new.entries ≡ old.entries ++ since → list_all (may_come (alone_sight old)) since ≡ true → HasLed old.agent mind.waits old.entries new.entries
      go [] is all = nothing-more (is ∙ append-nil old.entries)
      go (e ∷ []) is all = one-more e is (own e (and_parts (may_come (alone_sight old) e) true all).0)
      go (e ∷ f ∷ since) is all = absurd (
          let a = ap (λ (l : Journal). length l) is in
          let b = length-append old.entries (e ∷ f ∷ since) in
          let c = turn.one refl in
          omega (arith, a, b, c))
