-- What texts of constants and ground actions are read as.
use Rattle.std.specs.Prelude.{◌≡◌, ◌↔◌, ℕ, ℤ, pos, ◌+ℤ◌, ◌-ℤ◌, ◌<◌, Bool, not, ◌==◌, ◌||◌, IsTrue, Option, Some, List, [], ◌∷◌, ◌++◌, FitsSigned, ⊤}
use Rattle.std.specs.Int.{w32}
use Rattle.std.specs.List.{list_all}
use Rattle.std.specs.Fmt.{signed_decimal}
use Rattle.golog_tree.specs.declared.agent.Agent.{Agent}
use Rattle.golog_tree.specs.declared.agent.SortItem.{SortItem}
use Rattle.golog_tree.specs.declared.agent.SortItem.TheVariants.{Range, Listed}
use Rattle.golog_tree.specs.Ground.{to_count, item_size, sort_size, ground_count, action_args, AreWithin, sizes}
use Rattle.golog_semantics.specs.Text.{Text, constant_in, constant_text, args_text, action_text}
use Rattle.golog_semantics.specs.ReportLaws.{AreDistinctNames}

-- the answer is the one that fits, and None where none does
abbrev pub IsTheOne : {A : Type 0} → Option A → (A → Type 0) → Type 0
IsTheOne {A} answer Fits = (one : A) → (answer ≡ Some one) ↔ Fits one

-- `(`, `)` or `,`
abbrev pub is_mark : ℕ → Bool
is_mark byte = (byte == 40) || (byte == 41) || (byte == 44)

-- neither a bracket nor a comma
abbrev pub IsUnmarked : Text → Type 0
IsUnmarked text = IsTrue (list_all (λ byte. not (is_mark byte)) text)

-- the bytes write a number of 32 bits
abbrev pub WritesNumber : Text → ℤ → Type 0
WritesNumber bytes number = FitsSigned w32 number × (signed_decimal number ≡ bytes)

-- how many whole numbers there are from one to another
abbrev pub size_of_range : ℤ → ℤ → ℕ
size_of_range low high = to_count (high -ℤ low +ℤ pos 1)

-- the bytes write the number at this position, of those from `low` to `high`
abbrev pub WritesInRange : ℤ → ℤ → Text → ℕ → Type 0
WritesInRange low high bytes value =
    (value < size_of_range low high) × (signed_decimal (low +ℤ pos value) ≡ bytes)

-- the names of a sort, where it has some, are different
abbrev pub HasOwnNames : SortItem → Type 0
HasOwnNames (Range name low high) = ⊤
HasOwnNames (Listed name constants) = AreDistinctNames constants

-- the bytes write the constant at this position in the sort
abbrev pub WritesConstantOf : SortItem → Text → ℕ → Type 0
WritesConstantOf item bytes value = (value < item_size item) × (constant_in item value ≡ bytes)

-- the bytes write the constant at this position in the sort of this number
abbrev pub WritesConstant : Agent → ℕ → Text → ℕ → Type 0
WritesConstant agent sort bytes value =
    (value < sort_size agent sort) × (constant_text agent sort value ≡ bytes)

-- arguments of these sorts, the first behind the opening byte and each other behind a comma, and a
-- closing bracket
abbrev pub enclosed : Agent → ℕ → List ℕ → List ℕ → Text
enclosed agent opening [] args = 41 ∷ []
enclosed agent opening (sort ∷ sorts) [] = 41 ∷ []
enclosed agent opening (sort ∷ sorts) (arg ∷ args) =
    opening ∷ constant_text agent sort arg ++ enclosed agent 44 sorts args

-- the bytes write such arguments
abbrev pub WritesEnclosed : Agent → ℕ → List ℕ → Text → List ℕ → Type 0
WritesEnclosed agent opening sorts bytes args =
    AreWithin (sizes agent sorts) args × (enclosed agent opening sorts args ≡ bytes)

-- the bytes write arguments of these sorts in brackets
abbrev pub WritesArgs : Agent → List ℕ → Text → List ℕ → Type 0
WritesArgs agent sorts bytes args = AreWithin (sizes agent sorts) args × (args_text agent sorts args ≡ bytes)

-- the texts of a sort's constants have no brackets and no commas
abbrev pub AreUnmarked : Agent → ℕ → Type 0
AreUnmarked agent sort =
    (value : ℕ) → value < sort_size agent sort → IsUnmarked (constant_text agent sort value)

-- the bytes write the ground action of this number
abbrev pub WritesAction : Agent → Text → ℕ → Type 0
WritesAction agent bytes action =
    (action < ground_count agent (action_args agent)) × (action_text agent action ≡ bytes)
