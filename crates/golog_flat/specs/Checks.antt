-- Conditions in which ground fluents stand by their places, and what they say of values.
use Rattle.std.specs.Prelude.{◌≡◌, ℕ, Bool, true, false, IsTrue, ◌==◌, nat_lt, List, [], length, slice_index}
use Rattle.std.specs.List.{list_all}
use Rattle.golog_tree.specs.declared.agent.Agent.{Agent}
use Rattle.golog_tree.specs.declared.cond.Cond.{Cond}
use Rattle.golog_tree.specs.declared.cond.Truth.{Truth}
use Rattle.golog_tree.specs.declared.cond.Truth.TheVariants.{Yes, No, Unknown}
use Rattle.golog_tree.specs.Ground.{ground_fluents}
use Rattle.golog_semantics.specs.Fits.{cond_fits, nothing_bound}
use Rattle.golog_semantics.specs.Truth.{Values, and_of, comparison_of, env_of, not_of, or_of, truth, truth_of}
use Rattle.golog_flat.specs.declared.check.Check.{Check}
use Rattle.golog_flat.specs.declared.check.Check.TheOpen.{Check-F, Known, Is, IsNot, Equals, Differs, Order, Both, Either, Other}
use Rattle.golog_flat.specs.declared.check.Check.TheFolds.{fold-Check}

-- what is unknown holds or not, as said
abbrev pub holds_by : Bool → Truth → Bool
holds_by lenient Yes = true
holds_by lenient No = false
holds_by lenient Unknown = lenient

-- what is so, or its negation
abbrev pub turned : Bool → Truth → Truth
turned true t = not_of t
turned false t = t

-- the one value is above the other, or below it
abbrev pub ordered : Bool → ℕ → ℕ → Truth
ordered true one other = comparison_of nat_lt other one
ordered false one other = comparison_of nat_lt one other

-- the truth of a check at values, given that of its parts
abbrev pub check_step : Agent → Values → Check-F Truth → Truth
check_step agent values (Known plain) = truth plain
check_step agent values (Is place) = comparison_of nat_lt 0 (slice_index values place)
check_step agent values (IsNot place) = not_of (comparison_of nat_lt 0 (slice_index values place))
check_step agent values (Equals place value) = comparison_of (λ a b. a == b) (slice_index values place) value
check_step agent values (Differs place value) =
    not_of (comparison_of (λ a b. a == b) (slice_index values place) value)
check_step agent values (Order place value above negated) =
    turned negated (ordered above (slice_index values place) value)
check_step agent values (Both parts) = and_of parts
check_step agent values (Either parts) = or_of parts
check_step agent values (Other c) = truth_of agent values c (env_of [])

-- the truth of a check at values
abbrev pub check_truth : Agent → Values → Check → Truth
check_truth agent values = fold-Check Truth (check_step agent values)

-- the number of a ground fluent
abbrev pub is_place : Agent → ℕ → Bool
is_place agent place = nat_lt place (length (ground_fluents agent))

-- a check stays inside the agent's numbers and sorts, given that its parts do
abbrev pub fits_step : Agent → Check-F Bool → Bool
fits_step agent (Known plain) = true
fits_step agent (Is place) = is_place agent place
fits_step agent (IsNot place) = is_place agent place
fits_step agent (Equals place value) = is_place agent place
fits_step agent (Differs place value) = is_place agent place
fits_step agent (Order place value above negated) = is_place agent place
fits_step agent (Both parts) = list_all (λ fits. fits) parts
fits_step agent (Either parts) = list_all (λ fits. fits) parts
fits_step agent (Other c) = cond_fits agent c nothing_bound

-- a check of ground fluents of the agent, and of conditions of it with no free variable
abbrev pub check_fits : Agent → Check → Bool
check_fits agent = fold-Check Bool (fits_step agent)

-- the check is of the agent, and at all values it is as true as this says
pub record Tells (agent : Agent) (told : Values → Truth) (check : Check) : Type 0 where
  pub fits : IsTrue (check_fits agent check)
  pub same : (values : Values) → check_truth agent values check ≡ told values

-- at all values the check is as true as the condition
abbrev pub IsCheckOf : Agent → Cond → Check → Type 0
IsCheckOf agent c = Tells agent (λ values. truth_of agent values c (env_of []))
