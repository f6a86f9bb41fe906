-- Whether each device is closed or at rest, and whether results are still to come, by the tallies.
use Rattle.std.proofs.Common.{◌≡◌, ℕ, suc, ◌+◌, ◌<◌, Bool, false, not, ◌&&◌, ◌||◌, ◌==◌, List, [], ◌∷◌, length, get_or, refl, ap, ◌∙◌, arith}
use Rattle.std.specs.Prelude.{nat_lt}
use Rattle.std.specs.List.{list_all, list_any, range_with_len}
use Rattle.std.proofs.lemmas.Bool.{lt-ltb}
use Rattle.std.specs.Option.{option_map_or}
use Rattle.golog_tree.specs.declared.agent.Agent.{Agent}
use Rattle.golog_semantics.specs.Journal.{Journal, Command, commands, outstanding_commands, is_at_rest, is_open, is_quiet, is_rest_after, lacks_result, lacks_results, may_be_answered, last_of, entries_by}
use Rattle.golog_semantics.specs.Ways.{is_empty}
use Rattle.golog_journal.specs.declared.standing.Standing.{Standing}
use Rattle.golog_journal.specs.Tallies.{IsTally, AreTallies}
use Rattle.golog_journal.specs.Quiet.{is_quiet_by, lacks_by, may_be_answered_by}
use Rattle.golog_journal.proofs.CommandsKept.{resting-of}

all_of : (f : Standing → Bool) (g : ℕ → Bool) (ts : List Standing) (a : ℕ) → ((k : ℕ) (d : Standing) → k < length ts → f (get_or ts k d) ≡ g (a + k))
    → list_all f ts ≡ list_all g (range_with_len a (length ts))
all_of f g [] a h = refl
all_of f g (t ∷ ts) a h =
    let first : f t ≡ g a = h 0 t (omega arith) ∙ ap g (omega arith) in
    let others = all_of f g ts (a + 1) (λ k d below. h (suc k) d (omega (arith, below)) ∙ ap g (omega arith)) in
    ap (λ b. b && list_all f ts) first ∙ ap (λ b. g a && b) others

any_of : (f : Standing → Bool) (g : ℕ → Bool) (ts : List Standing) (a : ℕ) → ((k : ℕ) (d : Standing) → k < length ts → f (get_or ts k d) ≡ g (a + k))
    → list_any f ts ≡ list_any g (range_with_len a (length ts))
any_of f g [] a h = refl
any_of f g (t ∷ ts) a h =
    let first : f t ≡ g a = h 0 t (omega arith) ∙ ap g (omega arith) in
    let others = any_of f g ts (a + 1) (λ k d below. h (suc k) d (omega (arith, below)) ∙ ap g (omega arith)) in
    ap (λ b. b || list_any f ts) first ∙ ap (λ b. g a || b) others

some_if : (cs : List Command) → nat_lt 0 (length cs) ≡ not (is_empty cs)
some_if [] = refl
some_if (c ∷ cs) = lt-ltb 0 (length (c ∷ cs)) (omega arith)

module _ (agent : Agent) (journal : Journal) where
  one_quiet : (d : ℕ) (t : Standing) → IsTally agent journal d t → is_quiet_by t ≡ (not (is_open d journal) || is_at_rest agent journal d)
  one_quiet d t is =
      ap (λ b. not b || option_map_or (λ rested. rested == t.commands) t.rested false) is.has_open
      ∙ ap (λ o. not (is_open d journal) || option_map_or (λ rested. rested == t.commands) o false) is.has_rested
      ∙ ap (λ b. not (is_open d journal) || b) (resting-of t.commands (last_of (entries_by d journal)))
      ∙ ap (λ n. not (is_open d journal) || option_map_or (is_rest_after n) (last_of (entries_by d journal)) false) is.has_commands

  pub quiet_by : (ts : List Standing) → AreTallies agent journal ts → list_all is_quiet_by ts ≡ is_quiet agent journal
  quiet_by ts are =
      all_of is_quiet_by (λ d. not (is_open d journal) || is_at_rest agent journal d) ts 0 (λ k d below. one_quiet k (get_or ts k d) (are.each k d below) ∙ ap (λ n. not (is_open n journal) || is_at_rest agent journal n) (omega arith))
      ∙ ap (λ n. list_all (λ d. not (is_open d journal) || is_at_rest agent journal d) (range_with_len 0 n)) are.one_each

  one_lacks : (d : ℕ) (t : Standing) → IsTally agent journal d t → lacks_by t ≡ lacks_result agent journal d
  one_lacks d t is = ap (nat_lt 0) is.has_outstanding ∙ some_if (outstanding_commands agent d journal)

  pub lacks_all_by : (ts : List Standing) → AreTallies agent journal ts → list_any lacks_by ts ≡ lacks_results agent journal
  lacks_all_by ts are =
      any_of lacks_by (lacks_result agent journal) ts 0 (λ k d below. one_lacks k (get_or ts k d) (are.each k d below) ∙ ap (lacks_result agent journal) (omega arith))
      ∙ ap (λ n. list_any (lacks_result agent journal) (range_with_len 0 n)) are.one_each

  one_may : (d : ℕ) (t : Standing) → IsTally agent journal d t → may_be_answered_by t ≡ (is_open d journal && lacks_result agent journal d)
  one_may d t is = ap (λ b. b && lacks_by t) is.has_open ∙ ap (λ b. is_open d journal && b) (one_lacks d t is)

  pub may_be_by : (ts : List Standing) → AreTallies agent journal ts → list_any may_be_answered_by ts ≡ may_be_answered agent journal
  may_be_by ts are =
      any_of may_be_answered_by (λ d. is_open d journal && lacks_result agent journal d) ts 0
      (λ k d below. one_may k (get_or ts k d) (are.each k d below) ∙ ap (λ n. is_open n journal && lacks_result agent journal n) (omega arith))
      ∙ ap (λ n. list_any (λ d. is_open d journal && lacks_result agent journal d) (range_with_len 0 n)) are.one_each
