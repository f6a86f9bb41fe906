-- What is kept of a program under way, with one more entry.
use Rattle.std.proofs.Common.{◌≡◌, ℕ, true, not, ◌&&◌, List, [], ◌∷◌, ◌++◌, length, Option, None, refl, sym, ap, ◌∙◌, subst}
use Rattle.std.specs.Prelude.{unwrap_or, nat_lt}
use Rattle.std.proofs.lemmas.Bool.{and_parts}
use Rattle.golog_tree.specs.declared.agent.Agent.{Agent}
use Rattle.golog_tree.specs.declared.prog.Prog.{Prog}
use Rattle.golog_tree.specs.declared.prog.Label.TheVariants.{Do as Doing}
use Rattle.golog_semantics.specs.declared.journal.Entry.{Entry}
use Rattle.golog_semantics.specs.declared.journal.Entry.TheVariants.{Do}
use Rattle.golog_semantics.specs.declared.journal.Answer.{Answer}
use Rattle.golog_semantics.specs.declared.Mode.TheVariants.{Must}
use Rattle.golog_semantics.specs.Search.{final}
use Rattle.golog_semantics.specs.Journal.{Journal, count, is_settled, limit}
use Rattle.golog_semantics.specs.Progress.{values_after, left_after}
use Rattle.golog_semantics.specs.WellFormed.{WellFormed}
use Rattle.golog_semantics.specs.Online.{IsOnlineSoFar, first_fault, is_first, keeps_step}
use Rattle.golog_semantics.specs.InlineText.{report_of}
use Rattle.golog_semantics.specs.Blocks.{moves}
use Rattle.golog_semantics.proofs.Grown.{progress_grows}
use Rattle.golog_semantics.proofs.LeftFits.{left_after-fits}
use Rattle.golog_semantics.proofs.NoFaults.{so_far-no-fault}
use Rattle.golog_semantics.proofs.OnlineSorts.{online_stays}
use Rattle.golog_progress.specs.Entries.{EntriesFit}
use Rattle.golog_journal.specs.Boards.{AgentJournal, IsBoardList}
use Rattle.golog_journal.proofs.Serving.{well_formed_serves}
use Rattle.golog_agent.specs.Configuration.{Configuration, IsSound, configuration_after, with_entry}
use Rattle.golog_lead.specs.Keeping.{KeepsRules, ended_by}
use Rattle.golog_agent.specs.Keeping.{IsUnderWay, KeepsUp, held_by}
use Rattle.golog_agent.specs.declared.held.Held.{Held}
use Rattle.golog_lead.specs.Courses.{Course}
use Rattle.golog_agent.proofs.Awaiting.{awaits-after}
use Rattle.golog_agent.proofs.StepsKept.{keeps_its_step}
use Rattle.golog_lead.proofs.BegunRuns.{online-grows}
use Rattle.golog_lead.proofs.Growing.{ends-after, first-rules, next-fits}
use Rattle.golog_lead.proofs.Taking.{seen_as}

module _ (agent : Agent) (journal : Journal) where
  -- ---- the configuration

  module _ (known : Configuration) (so : known ≡ configuration_after agent journal) where
    pub entries-fit : (e : Entry) → IsBoardList agent (journal ++ e ∷ []) → EntriesFit known.agent (e ∷ [])
    entries-fit e lawful =
        subst (λ (k : Configuration). EntriesFit k.agent (e ∷ [])) (sym so) (next-fits agent journal e lawful)

    pub sound : IsUnderWay agent journal → IsSound known
    sound u =
        subst IsSound (sym so)
        (record {
          formed = u.formed;
          sorted = online_stays agent u.formed (report_of agent journal) u.online;
          fitting = left_after-fits agent u.formed journal;
        })

  abbrev known_as : List ℕ → Prog → Configuration
  known_as values left = record { agent = agent; values = values; left = left }

  known-then : (e : Entry) (known : Configuration) (new : Option Prog) → known ≡ configuration_after agent journal
      → left_after agent (journal ++ e ∷ []) ≡ unwrap_or new (left_after agent journal)
      → with_entry known e new ≡ configuration_after agent (journal ++ e ∷ [])
  known-then e known new so is =
      ap (λ k. with_entry k e new) so
      ∙ ap (λ values. known_as values (unwrap_or new (left_after agent journal))) (sym (progress_grows agent journal e).values)
      ∙ ap (known_as (values_after agent (journal ++ e ∷ []))) (sym is)

  -- ---- a step

  settled-step : (values : List ℕ) (p : Prog) (action : ℕ) → keeps_step agent journal values p (Do action) ≡ true → is_settled agent journal ≡ true
  settled-step values p action h =
      let four = and_parts (is_settled agent journal && not (final agent values Must p) && nat_lt (count journal) limit) (is_first agent journal (Doing action) (moves agent values Must p)) h in
      let three = and_parts (is_settled agent journal && not (final agent values Must p)) (nat_lt (count journal) limit) four.0 in
      (and_parts (is_settled agent journal) (not (final agent values Must p)) three.0).0

  pub keeps-up : (e : Entry) (known : Configuration) (new : Option Prog) (awaited : Option Held) (ended : Option Answer) → KeepsUp agent journal known awaited ended
      → IsBoardList agent (journal ++ e ∷ []) → KeepsRules agent journal e → left_after agent (journal ++ e ∷ []) ≡ unwrap_or new (left_after agent journal)
      → KeepsUp agent (journal ++ e ∷ []) (with_entry known e new) (held_by agent (length journal) awaited e) (ended_by ended e)
  keeps-up e known new awaited ended k lawful h is =
      let u = k.under_way in
      record {
        under_way = record {
          formed = u.formed;
          lawful = lawful;
          online = online-grows agent journal e u.online h;
        };
        known_so = known-then e known new k.known_so is;
        awaits = awaits-after agent journal awaited e (well_formed_serves agent u.formed) u.lawful
            (λ action same. settled-step (values_after agent journal) (left_after agent journal) action
            (subst (λ x. keeps_step agent journal (values_after agent journal) (left_after agent journal) x ≡ true) same (keeps_its_step agent journal e h))) k.awaits;
        ends = ends-after agent journal ended e k.ends;
      }

-- the same of equal values
pub kept-as : (j k : AgentJournal) (c d : Configuration) (a b : Option Held) (e f : Option Answer) → k ≡ j → d ≡ c → b ≡ a → f ≡ e
    → KeepsUp j.agent j.entries c a e → KeepsUp k.agent k.entries d b f
kept-as j k c d a b e f kj dc ba fe h =
    subst (λ (x : AgentJournal). KeepsUp x.agent x.entries d b f) (sym kj)
    (subst (λ x. KeepsUp j.agent j.entries x b f) (sym dc)
    (subst (λ x. KeepsUp j.agent j.entries c x f) (sym ba)
    (subst (λ x. KeepsUp j.agent j.entries c a x) (sym fe) h)))

pub lawful-inside : (agent : Agent) (list : Journal) (value : Course) (e : Entry) → seen_as agent list ≡ value → IsBoardList value.agent (value.list ++ e ∷ []) → IsBoardList agent (list ++ e ∷ [])
lawful-inside agent list value e is lawful = subst (λ (v : Course). IsBoardList v.agent (v.list ++ e ∷ [])) (sym is) lawful

-- all that is kept, after one more entry
pub kept-then : (held after : AgentJournal) (value : Course) (e : Entry) (known later : Configuration) (given : Option Prog) (awaited next : Option Held) (ended last : Option Answer)
    → seen_as held.agent held.entries ≡ value → KeepsUp held.agent held.entries known awaited ended → IsBoardList value.agent (value.list ++ e ∷ [])
    → KeepsRules value.agent value.list e → left_after value.agent (value.list ++ e ∷ []) ≡ unwrap_or given (left_after value.agent value.list)
    → after ≡ record { agent = held.agent; entries = held.entries ++ e ∷ [] } → later ≡ with_entry known e given → next ≡ held_by held.agent (length held.entries) awaited e → last ≡ ended_by ended e
    → KeepsUp after.agent after.entries later next last
kept-then held after value e known later given awaited next ended last is k lawful online goes ja ka aa ea =
    kept-as (record { agent = held.agent; entries = held.entries ++ e ∷ [] }) after (with_entry known e given) later (held_by held.agent (length held.entries) awaited e) next (ended_by ended e) last
    ja ka aa ea
    (keeps-up held.agent held.entries e known given awaited ended k (lawful-inside held.agent held.entries value e is lawful)
    (subst (λ (v : Course). KeepsRules v.agent v.list e) (sym is) online)
    (subst (λ (v : Course). left_after v.agent (v.list ++ e ∷ []) ≡ unwrap_or given (left_after v.agent v.list)) (sym is) goes))

-- the same, where the configuration is
pub kept-same : (agent : Agent) (list : Journal) (known later : Configuration) (awaited : Option Held) (ended : Option Answer) → later ≡ known
    → KeepsUp agent list known awaited ended → KeepsUp agent list later awaited ended
kept-same agent list known later awaited ended same h = subst (λ k. KeepsUp agent list k awaited ended) (sym same) h

-- ---- before any entry

first-online : (agent : Agent) → IsOnlineSoFar agent (report_of agent [])
unfolding first_fault
first-online agent = so_far-no-fault agent (report_of agent []) refl

pub kept-first : (agent : Agent) (journal : AgentJournal) (known : Configuration) → WellFormed agent
    → journal ≡ record { agent = agent; entries = [] } → known ≡ configuration_after agent [] → KeepsUp journal.agent journal.entries known None None
kept-first agent journal known formed empty k =
    kept-as (record { agent = agent; entries = [] }) journal (configuration_after agent []) known None None None None empty k refl refl
    (record {
      under_way = record { formed = formed; lawful = first-rules agent; online = first-online agent };
      known_so = refl;
      awaits = λ d. refl;
      ends = refl;
    })
