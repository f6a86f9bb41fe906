-- Constants of a sort of an agent.
use Rattle.std.proofs.Common.{◌≡◌, ℕ, ◌<◌, Some, None, Option, [], subst, arith, ℤ}
use Rattle.std.specs.Prelude.{slice_get}
use Rattle.std.specs.Option.{option_map_or}
use Rattle.golog_tree.specs.declared.agent.Agent.{Agent}
use Rattle.golog_tree.specs.declared.agent.SortItem.{SortItem}
use Rattle.golog_tree.specs.declared.agent.SortItem.TheVariants.{Range, Listed}
use Rattle.golog_tree.specs.Ground.{item_size, size_at}
use Rattle.golog_semantics.specs.Text.{Text, constant_in}
use Rattle.golog_semantics.specs.WellFormed.{WellFormed}
use Rattle.golog_semantics.proofs.WellNamed.{constants_apart}
use Rattle.golog_ground.specs.Texts.{IsTheOne, IsUnmarked, WritesConstant, WritesConstantOf, WritesInRange, HasOwnNames}
use Rattle.golog_ground.proofs.Answers.{none-fits}

pub own-names : (agent : Agent) → WellFormed agent → (sort : ℕ) (item : SortItem) → slice_get agent.sorts sort ≡ Some item → HasOwnNames item
own-names agent fits sort (Range name low high) e = tt
own-names agent fits sort (Listed name constants) e = constants_apart agent fits sort name constants e

pub of-range : (name : Text) (a low b high : ℤ) (bytes : Text) (answer : Option ℕ) → a ≡ low → b ≡ high
    → IsTheOne answer (WritesInRange a b bytes) → IsTheOne answer (WritesConstantOf (Range name low high) bytes)
of-range name a low b high bytes answer e k h =
    subst (λ x. IsTheOne answer (WritesInRange low x bytes)) k (subst (λ x. IsTheOne answer (WritesInRange x b bytes)) e h)

abbrev WritesAt : Option SortItem → Text → ℕ → Type 0
WritesAt o bytes v = (v < size_at o) × (option_map_or (λ item. constant_in item v) o [] ≡ bytes)

pub of-agent : (agent : Agent) (sort : ℕ) (item : SortItem) (bytes : Text) (answer : Option ℕ) → Some item ≡ slice_get agent.sorts sort
    → IsTheOne answer (WritesConstantOf item bytes) → IsTheOne answer (WritesConstant agent sort bytes)
of-agent agent sort item bytes answer e h = subst (λ o. IsTheOne answer (WritesAt o bytes)) e h

pub unmarked-of-agent : (agent : Agent) (sort : ℕ) (item : SortItem) → Some item ≡ slice_get agent.sorts sort
    → ((v : ℕ) → v < item_size item → IsUnmarked (constant_in item v))
    → (v : ℕ) → v < size_at (slice_get agent.sorts sort) → IsUnmarked (option_map_or (λ item. constant_in item v) (slice_get agent.sorts sort) [])
unmarked-of-agent agent sort item e h =
    subst (λ o. (v : ℕ) → v < size_at o → IsUnmarked (option_map_or (λ item. constant_in item v) o [])) e h

pub no-sort : (agent : Agent) (sort : ℕ) (bytes : Text) → None ≡ slice_get agent.sorts sort → IsTheOne None (WritesConstant agent sort bytes)
no-sort agent sort bytes e =
    subst (λ o. IsTheOne None (WritesAt o bytes)) e (none-fits (WritesAt None bytes) (λ v w. omega (arith, w.0)))

pub unmarked-no-sort : (agent : Agent) (sort : ℕ) → None ≡ slice_get agent.sorts sort
    → (v : ℕ) → v < size_at (slice_get agent.sorts sort) → IsUnmarked (option_map_or (λ item. constant_in item v) (slice_get agent.sorts sort) [])
unmarked-no-sort agent sort e =
    subst (λ o. (v : ℕ) → v < size_at o → IsUnmarked (option_map_or (λ item. constant_in item v) o [])) e (λ v h. absurd (omega arith))
