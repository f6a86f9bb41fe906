-- The calls of an object in memory that are to fail.
use Rattle.std.specs.Prelude.{ℕ, ◌+◌, ◌-◌, ◌^◌, ◌==◌, min, Bool, List}
use Rattle.std.specs.List.{list_any}
use Rattle.golog_base.specs.declared.failures.Failures.{Failures}

-- those of these numbers, no call being made yet
abbrev pub uncalled : List ℕ → Failures
uncalled numbers = record { numbers = numbers; calls = 0 }

-- whether the next call is to fail
abbrev pub fails_next : Failures → Bool
fails_next failures = list_any (λ number. number == failures.calls) failures.numbers

-- one call more is counted; the greatest u64 stands for itself and all above
abbrev pub after_call : Failures → Failures
after_call failures = record { numbers = failures.numbers; calls = min (failures.calls + 1) (2 ^ 64 - 1) }
