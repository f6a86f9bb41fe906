-- From the words of a run, of which it is all one how many workers they ask for, to the order of a run; and from those of
-- a plan to its order.
use Rattle.std.proofs.Common.{◌≡◌, ℕ, Bool, true, false, true≢false, Option, Some, Bor, sym, subst}
use Rattle.std.specs.Prelude.{option_map}
use Rattle.golog_words.specs.Answers.{command_of}
use Rattle.golog_words.specs.Commands.{CommandLine, PlanFits, Text, plan, run}
use Rattle.golog_words.specs.declared.order.Order.{Order}
use Rattle.golog_words.specs.declared.order.Order.TheVariants.{Plan, Run}
use Rattle.golog_commands.specs.Outcome.{is_threaded}

module _ (P : Option CommandLine → Type 0) (order : Order) (agent : Bor Text) (named from : Option (Bor Text)) (workers : Option ℕ) where
  -- it is so of the words with any number
  abbrev pub OfRun : Bool → Type 0
  OfRun inline = (count : Option ℕ) → P (Some (run agent.now (option_map (λ name. name.now) named) inline (option_map (λ name. name.now) from) count))

  of-run : (inline : Bool) → order ≡ Run agent named inline from workers → OfRun inline → P (Some (command_of order))
  of-run inline is so = subst (λ (o : Order). P (Some (command_of o))) (sym is) (so workers)

  pub of-threads : order ≡ Run agent named false from workers → OfRun false → P (Some (command_of order))
  of-threads is so = of-run false is so

  pub of-rounds : (inline : Bool) → order ≡ Run agent named inline from workers → is_threaded (command_of order) ≡ false → OfRun true
      → P (Some (command_of order))
  of-rounds true is way so = of-run true is so
  of-rounds false is way so = absurd (true≢false (subst (λ (o : Order). is_threaded (command_of o) ≡ false) is way))

module _ (order : Order) (depth fuel : ℕ) (agent : Bor Text) (named : Option (Bor Text)) (inline : Bool) (is : order ≡ Plan depth fuel agent named inline) where
  -- its depth and its fuel are in their bounds
  pub plan-fits : PlanFits (command_of order) → PlanFits (command_of (Plan depth fuel agent named inline))
  plan-fits fits = subst (λ (o : Order). PlanFits (command_of o)) is fits

  module _ (P : Option CommandLine → Type 0) where
    abbrev pub OfPlan : Bool → Type 0
    OfPlan way = P (Some (plan depth fuel agent.now (option_map (λ name. name.now) named) way))

    -- one that needs no threads
    pub of-plan-rounds : is_threaded (command_of order) ≡ false → OfPlan true → P (Some (command_of order))
    of-plan-rounds way so = by inline is
      where
        by : (b : Bool) → order ≡ Plan depth fuel agent named b → P (Some (command_of order))
        by true e = subst (λ (o : Order). P (Some (command_of o))) (sym e) so
        by false e = absurd (true≢false (subst (λ (o : Order). is_threaded (command_of o) ≡ false) e way))
