-- What is known of a journal is so of what contracts see of it.
use Rattle.std.proofs.Common.{◌≡◌, ℕ, false, ◌&&◌, Option, Some, None, [], ◌∷◌, ◌++◌, refl, sym, ap, ◌∙◌, subst}
use Rattle.std.specs.Prelude.{nat_lt, is_some}
use Rattle.std.specs.Option.{option_map_or}
use Rattle.golog_tree.specs.declared.agent.Agent.{Agent}
use Rattle.golog_tree.specs.Ground.{sort_size}
use Rattle.golog_semantics.specs.Values.{fluent_sort}
use Rattle.golog_semantics.specs.Journal.{Journal, fluent_sensed}
use Rattle.golog_semantics.specs.declared.journal.Entry.{Entry}
use Rattle.golog_journal.specs.declared.facts.ActionFact.{ActionFact}
use Rattle.golog_journal.specs.Boards.{AgentJournal, IsBoardList}
use Rattle.golog_journal.specs.Facts.{IsFactOf}

-- an agent and its entries
abbrev pub seen_as : Agent → Journal → AgentJournal
seen_as agent entries = record { agent = agent; entries = entries }

-- a list with one more entry, as contracts see it
pub lawful-inside : (agent : Agent) (entries : Journal) (value : AgentJournal) (e : Entry) → seen_as agent entries ≡ value
    → IsBoardList value.agent (value.entries ++ e ∷ []) → IsBoardList agent (entries ++ e ∷ [])
lawful-inside agent entries value e is lawful = subst (λ (v : AgentJournal). IsBoardList v.agent (v.entries ++ e ∷ [])) (sym is) lawful

pub grown : (agent : Agent) (entries new : Journal) (value : AgentJournal) (e : Entry) → seen_as agent entries ≡ value
    → new ≡ entries ++ e ∷ [] → seen_as agent new ≡ seen_as value.agent (value.entries ++ e ∷ [])
grown agent entries new value e is more =
    ap (seen_as agent) more ∙ ap (λ (v : AgentJournal). seen_as v.agent (v.entries ++ e ∷ [])) is

-- a value fits where it is below the number of values that is kept
pub value-fits : (agent : Agent) (action value : ℕ) (fact : ActionFact) → IsFactOf agent action fact
    → (is_some fact.sensed && nat_lt value fact.values)
    ≡ option_map_or (λ fluent. nat_lt value (sort_size agent (fluent_sort agent fluent))) (fluent_sensed agent action) false
value-fits agent action value fact is = go (fluent_sensed agent action) refl
  where
    go : (o : Option ℕ) → fluent_sensed agent action ≡ o
        → (is_some fact.sensed && nat_lt value fact.values)
        ≡ option_map_or (λ fluent. nat_lt value (sort_size agent (fluent_sort agent fluent))) o false
    go None none = ap (λ p. is_some p && nat_lt value fact.values) (is.sensed ∙ none)
    go (Some fluent) some =
        ap (λ p. is_some p && nat_lt value fact.values) (is.sensed ∙ some) ∙ ap (nat_lt value) (is.values fluent some)
