-- The parts of a draft together.
use Rattle.std.proofs.Common.{◌≡◌, ℕ, ◌+◌, List, [], ◌∷◌, ◌++◌, map, Option, Some, None, Result, Ok, Err, refl, sym, ap, subst, ◌∙◌}
use Rattle.std.specs.Prelude.{IfOk, MatchOption}
use Rattle.std.specs.List.{range_with_len}
use Rattle.golog_rows.specs.Reading.{Reading}
use Rattle.golog_tree.specs.declared.agent.Agent.{Agent}
use Rattle.golog_tree.specs.declared.agent.SortItem.{SortItem}
use Rattle.golog_tree.specs.declared.agent.FluentItem.{FluentItem}
use Rattle.golog_tree.specs.declared.agent.ActionItem.{ActionItem}
use Rattle.golog_tree.specs.declared.agent.PossItem.{PossItem}
use Rattle.golog_tree.specs.declared.agent.CauseItem.{CauseItem}
use Rattle.golog_tree.specs.declared.agent.SenseItem.{SenseItem}
use Rattle.golog_tree.specs.declared.draft.DraftTheory.{DraftTheory}
use Rattle.golog_tree.specs.declared.draft.DraftProgram.{DraftProgram}
use Rattle.golog_tree.specs.Ground.{Ground, all_from, args_of, fluent_args, ground_fluents, numbered, product, sizes}
use Rattle.golog_rows.specs.declared.least.Refusal.{Refusal}
use Rattle.golog_check.specs.declared.starts.Start.{Start}
use Rattle.golog_check.specs.declared.checking.Parts.{Parts}
use Rattle.golog_draft.specs.DraftPlaces.{sort_place}
use Rattle.golog_check.specs.DeclaredItems.{Declared, sort_item, fluent_item, action_item, param_sorts}
use Rattle.golog_check.specs.Sums.{fluent_sum, action_sum}
use Rattle.golog_check.specs.Starts.{start_in, start_value}
use Rattle.golog_check.specs.Effects.{poss_in, cause_in, senses_in}
use Rattle.golog_tree.specs.declared.agent.ProcItem.{ProcItem}
use Rattle.golog_check.specs.Procs.{proc_in}
use Rattle.golog_shapes.specs.Unguarded.{all_front_refusals}
use Rattle.golog_shapes.specs.DraftBlocks.{all_block_refusals}
use Rattle.golog_check.specs.Check.{bare, main_in, main_of, names_of, refusals_in, agent_of}
use Rattle.golog_check.specs.Parts.{AreParts}
use Rattle.golog_rows.specs.Order.{IsLeast}
use Rattle.golog_rows.specs.Least.{CodeAt, IsAmong, IsLeastOf}
use Rattle.golog_check.specs.Least.{refusal_of, refusals, given}
use Rattle.golog_rows.proofs.LeastLaws.{alone}

pub sum-least : (found : Option Refusal) (reading : Reading (Unit {0}))
    → MatchOption found (reading.outcome ≡ Ok tt) (λ (r : Refusal). reading.outcome ≡ Err (r.code, r.at))
    → IsLeastOf found (refusals (reading ∷ []))
sum-least None reading h = ap (λ o. refusal_of o ++ []) h
sum-least (Some r) reading h =
    subst (λ (rs : List CodeAt). IsLeast (IsAmong rs) r.code r.at) (sym (ap (λ o. refusal_of o ++ []) h)) (alone r.code r.at)

-- what is so of what each of two calls gave is so of both together
pub both-so : {A B E : Type 0} (one : Result A E) (other : Result B E) (r : Result (A × B) E) (P : A → Type 0) (Q : B → Type 0)
    → IfOk r (λ pair. (one ≡ Ok pair.0) × (other ≡ Ok pair.1)) → IfOk one P → IfOk other Q → IfOk r (λ pair. (P pair.0) × (Q pair.1))
both-so one other (Ok pair) P Q is p q = (subst (λ r. IfOk r P) is.0 p, subst (λ r. IfOk r Q) is.1 q)
both-so one other (Err e) P Q is p q = tt

-- what a theory and its procedures declare
pub names-are : (theory : DraftTheory) (program : DraftProgram) (sorts : List SortItem) (places : List ℕ)
    (fluents : List FluentItem) (actions : List ActionItem) (params : List (List ℕ)) → sorts ≡ map sort_item theory.sorts
    → places ≡ map sort_place theory.sorts → fluents ≡ map fluent_item theory.fluents
    → actions ≡ map action_item theory.actions → params ≡ map param_sorts program.procs
    → ◌≡◌ {A = Declared} (record { sorts = sorts; places = places; fluents = fluents; actions = actions; params = params })
    (names_of theory program)
names-are theory program sorts places fluents actions params s p f a n = cc

pub none-before : {A : Type 0} (xs ys : List A) → xs ++ ys ≡ [] → xs ≡ []
none-before [] ys h = refl
none-before (x ∷ xs) ys h = absurd (cc)

pub none-behind : {A : Type 0} (xs ys : List A) → xs ++ ys ≡ [] → ys ≡ []
none-behind [] ys h = h
none-behind (x ∷ xs) ys h = absurd (cc)

sum-ok : (o : Result (Unit {0}) CodeAt) → refusal_of o ++ [] ≡ [] → o ≡ Ok tt
sum-ok (Ok x) h = refl
sum-ok (Err refusal) h = absurd (cc)

-- the parts of a draft of which nothing is refused
pub record NoneRefused (theory : DraftTheory) (program : DraftProgram) : Type 0 where
  pub fluents : (fluent_sum theory).outcome ≡ Ok tt
  pub actions : (action_sum theory).outcome ≡ Ok tt
  pub procs : refusals (map (proc_in (names_of theory program)) program.procs) ≡ []
  pub fronts : all_front_refusals program.procs ≡ []
  pub blocks : all_block_refusals program.procs program.main.body ≡ []
  pub main : refusals (main_in (names_of theory program) program.main ∷ []) ≡ []

pub none-refused : (theory : DraftTheory) (program : DraftProgram) → refusals_in (names_of theory program) theory program ≡ []
    → NoneRefused theory program
none-refused theory program h =
    let names = names_of theory program in
    let main = refusals (main_in names program.main ∷ []) in
    let blocks = all_block_refusals program.procs program.main.body in
    let fronts = all_front_refusals program.procs in
    let procs = refusals (map (proc_in names) program.procs) in
    let before_main = none-before _ main h in
    let before_blocks = none-before _ blocks before_main in
    let before_fronts = none-before _ fronts before_blocks in
    let senses = none-before _ procs before_fronts in
    let causes = none-before _ (refusals (senses_in names [] theory.senses)) senses in
    let poss = none-before _ (refusals (map (cause_in names) theory.causes)) causes in
    let starts = none-before _ (refusals (map (poss_in names) theory.poss)) poss in
    let sums = none-before (refusals (fluent_sum theory ∷ []) ++ refusals (action_sum theory ∷ []))
    (refusals (map (start_in names) theory.starts)) starts in
    record {
      fluents = sum-ok (fluent_sum theory).outcome (none-before (refusals (fluent_sum theory ∷ [])) (refusals (action_sum theory ∷ [])) sums);
      actions = sum-ok (action_sum theory).outcome (none-behind (refusals (fluent_sum theory ∷ [])) (refusals (action_sum theory ∷ [])) sums);
      procs = none-behind _ procs before_fronts;
      fronts = none-behind _ fronts before_blocks;
      blocks = none-behind _ blocks before_main;
      main = none-behind _ main h;
    }

-- numbering the ground things changes none of them
all-numbered : (agent : Agent) (items : List (List ℕ)) (item : ℕ) → all_from (numbered agent) item items ≡ all_from agent item items
all-numbered agent [] item = refl
all-numbered agent (sorts ∷ items) item =
    ap (λ rest. map (λ place. (item, args_of (sizes agent sorts) place)) (range_with_len 0 (product (sizes agent sorts))) ++ rest) (all-numbered agent items (item + 1))

-- the agent of the parts
pub agent-is : (theory : DraftTheory) (program : DraftProgram) (agent : Agent) (parts : Parts) → agent ≡ bare theory
    → AreParts parts (names_of theory program) theory program
    → ◌≡◌ {A = Agent} (record (numbered agent) {
      poss = parts.poss.items;
      causes = parts.causes.items;
      senses = parts.senses.items;
      starts = map (start_value parts.starts.items) (ground_fluents (numbered agent));
      procs = parts.procs.items;
      main = main_of (main_in (names_of theory program) program.main).outcome;
    }) (agent_of theory program)
agent-is theory program agent parts is are =
    let names = names_of theory program in
    let main = main_of (main_in names program.main).outcome in
    let made : Agent → List PossItem → List CauseItem → List SenseItem → List Start → List ProcItem → Agent =
    λ a p c s st ps. record (numbered a) { poss = p; causes = c; senses = s; starts = map (start_value st) (ground_fluents (numbered a)); procs = ps; main = main } in
    let poss = given (map (poss_in names) theory.poss) in
    let causes = given (map (cause_in names) theory.causes) in
    let senses = given (senses_in names [] theory.senses) in
    let starts = given (map (start_in names) theory.starts) in
    ap (λ a. made a parts.poss.items parts.causes.items parts.senses.items parts.starts.items parts.procs.items) is
    ∙ ap (λ p. made (bare theory) p parts.causes.items parts.senses.items parts.starts.items parts.procs.items) are.poss.items
    ∙ ap (λ c. made (bare theory) poss c parts.senses.items parts.starts.items parts.procs.items) are.causes.items
    ∙ ap (λ s. made (bare theory) poss causes s parts.starts.items parts.procs.items) are.senses.items
    ∙ ap (λ st. made (bare theory) poss causes senses st parts.procs.items) are.starts.items
    ∙ ap (λ ps. made (bare theory) poss causes senses starts ps) are.procs.items
    ∙ ap (λ (all : List Ground). record (numbered (bare theory)) {
      poss = poss;
      causes = causes;
      senses = senses;
      starts = map (start_value starts) all;
      procs = given (map (proc_in names) program.procs);
      main = main;
    }) (all-numbered (bare theory) (fluent_args (bare theory)) 0)
