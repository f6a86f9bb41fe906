-- The names that an agent declares, kind by kind, and the first number that passes a test.
use Rattle.std.proofs.Common.{◌≡◌, ℕ, suc, ◌+◌, ◌-◌, ◌<◌, Bool, true, false, ◌||◌, List, [], ◌∷◌, ◌++◌, map, Option, Some, refl, ap, ◌∙◌, arith}
use Rattle.std.specs.Prelude.{if◌then◌else◌, find, unwrap_or}
use Rattle.std.specs.List.{list_any, flat_map, range_with_len}
use Rattle.std.proofs.lemmas.List.Folds.{list_any-append}
use Rattle.std.proofs.lemmas.List.Concat.{flat_map-cons}
use Rattle.golog_tree.specs.declared.agent.Agent.{Agent}
use Rattle.golog_tree.specs.declared.agent.SortItem.{SortItem}
use Rattle.golog_tree.specs.declared.agent.FluentItem.{FluentItem}
use Rattle.golog_tree.specs.declared.agent.ActionItem.{ActionItem}
use Rattle.golog_tree.specs.declared.agent.ProcItem.{ProcItem}
use Rattle.golog_semantics.specs.BuiltIn.{sort_names, declared_names}
use Rattle.golog_semantics.specs.Text.{Text}
use Rattle.golog_print.specs.Printing.{first_passing}

any-flat_map : {X Y : Type 0} (p : Y → Bool) (f : X → List Y) (xs : List X) → list_any p (flat_map f xs) ≡ list_any (λ x. list_any p (f x)) xs
any-flat_map p f [] = refl
any-flat_map p f (x ∷ xs) =
    ap (list_any p) (flat_map-cons f x xs) ∙ list_any-append p (f x) (flat_map f xs) ∙ ap (λ b. list_any p (f x) || b) (any-flat_map p f xs)

any-map : {X Y : Type 0} (p : Y → Bool) (f : X → Y) (xs : List X) → list_any p (map f xs) ≡ list_any (λ x. p (f x)) xs
any-map p f [] = refl
any-map p f (x ∷ xs) = ap (λ b. p (f x) || b) (any-map p f xs)

-- whether a declared name passes the test
pub any-declared : (p : Text → Bool) (agent : Agent) → list_any p (declared_names agent)
    ≡ ((((list_any (λ (item : SortItem). list_any p (sort_names item)) agent.sorts
    || list_any p agent.devices)
    || list_any (λ (item : FluentItem). p item.name) agent.fluents)
    || list_any (λ (item : ActionItem). p item.name) agent.actions)
    || list_any (λ (proc : ProcItem). p proc.name) agent.procs)
any-declared p agent =
    let sorts = flat_map sort_names agent.sorts in
    let fluents = map (λ (item : FluentItem). item.name) agent.fluents in
    let actions = map (λ (item : ActionItem). item.name) agent.actions in
    let procs = map (λ (proc : ProcItem). proc.name) agent.procs in
    list_any-append p (((sorts ++ agent.devices) ++ fluents) ++ actions) procs
    ∙ rw (
      list_any-append p ((sorts ++ agent.devices) ++ fluents) actions,
      list_any-append p (sorts ++ agent.devices) fluents,
      list_any-append p sorts agent.devices,
      any-flat_map p sort_names agent.sorts,
      any-map p (λ (item : FluentItem). item.name) agent.fluents,
      any-map p (λ (item : ActionItem). item.name) agent.actions,
      any-map p (λ (proc : ProcItem). proc.name) agent.procs,
    ) refl

pub ruleset laws = (any-declared)

one-first : (test : ℕ → Bool) (i k : ℕ) → first_passing test i (suc k) ≡ if test i then i else first_passing test (i + 1) k
unfolding first_passing
one-first test i k = go (test i) (find test (range_with_len (i + 1) k))
  where
    go : (b : Bool) (o : Option ℕ) → unwrap_or (if b then Some i else o) 0 ≡ if b then i else unwrap_or o 0
    go true o = refl
    go false o = refl

pub first_passing-next : (test : ℕ → Bool) (i n : ℕ) → i < n → first_passing test i (n - i) ≡ if test i then i else first_passing test (i + 1) (n - (i + 1))
first_passing-next test i n lt =
    let more : n - i ≡ suc (n - (i + 1)) = omega arith in
    ap (first_passing test i) more ∙ one-first test i (n - (i + 1))

pub first_passing-none : (test : ℕ → Bool) (i : ℕ) → first_passing test i 0 ≡ 0
unfolding first_passing
first_passing-none test i = refl

pub ruleset stem_laws = (first_passing-next, first_passing-none)
