-- The laws of what `check` refuses: the parts of a draft together.
use Rattle.std.proofs.Common.{◌≡◌, ℕ, List, [], ◌∷◌, map, refl, sym, ap, ◌∙◌, subst, arith}
use Rattle.golog_tree.specs.declared.agent.Agent.{Agent}
use Rattle.golog_tree.specs.declared.agent.SortItem.{SortItem}
use Rattle.golog_tree.specs.declared.agent.FluentItem.{FluentItem}
use Rattle.golog_tree.specs.declared.agent.ActionItem.{ActionItem}
use Rattle.golog_tree.specs.declared.draft.DraftTheory.{DraftTheory}
use Rattle.golog_tree.specs.declared.draft.DraftProgram.{DraftProgram}
use Rattle.golog_tree.specs.Ground.{Ground, item_size, fluent_args, action_args, ground_fluents, all_from, firsts_of}
use Rattle.golog_rows.specs.Least.{CodeAt, IsAmong}
use Rattle.golog_semantics.specs.WellFormed.{WellFormed, poss_fits, cause_fits}
use Rattle.golog_draft.specs.Drafts.{TheoryKeeps, ProgramKeeps, draft_poss_keeps, draft_cause_keeps}
use Rattle.golog_check.specs.declared.starts.Start.{Start}
use Rattle.golog_check.specs.DeclaredItems.{Declared}
use Rattle.golog_check.specs.Starts.{start_in, start_value}
use Rattle.golog_check.specs.Effects.{poss_in, cause_in, senses_in}
use Rattle.golog_check.specs.Procs.{proc_in}
use Rattle.golog_shapes.specs.Unguarded.{all_front_refusals}
use Rattle.golog_shapes.specs.DraftBlocks.{all_block_refusals}
use Rattle.golog_check.specs.Least.{refusals}
use Rattle.golog_check.specs.CheckLaws.{HasItems}
use Rattle.golog_check.specs.Check.{bare, main_in, names_of, starts_of, all_refusals, agent_of}
use Rattle.golog_check.proofs.PartLaws.{none-before, none-behind}
use Rattle.golog_refusals.specs.SaysAgent.{poss_says, cause_says, Says}
use Rattle.golog_refusals.specs.RefusalLaws.{RefusedSaysNone, GivenIsSaid, SaidIsGiven}
use Rattle.golog_refusals.proofs.CondsSaid.{has-own}
use Rattle.golog_refusals.proofs.BlocksNone.{none-both}
use Rattle.golog_refusals.proofs.ItemsSaid.{Give, all-taken, all-of}
use Rattle.golog_refusals.proofs.SumsSaid.{fluents-none, actions-none}
use Rattle.golog_refusals.proofs.StartsSaid.{starts-taken, starts-said}
use Rattle.golog_refusals.proofs.ActionsSaid.{poss-taken, poss-said, senses-taken, senses-said}
use Rattle.golog_refusals.proofs.CausesSaid.{cause-taken, cause-said}
use Rattle.golog_refusals.proofs.ProcsSaid.{AreTaken, programs-taken, procs-said, main-said}
use Rattle.golog_refusals.proofs.SameGround.{same-ground, same-firsts}

-- the sorts of the arguments of fluents, and of actions
abbrev args_of_fluents : List FluentItem → List (List ℕ)
args_of_fluents items = map (λ (item : FluentItem). item.args) items

abbrev args_of_actions : List ActionItem → List (List ℕ)
args_of_actions items = map (λ (item : ActionItem). item.args) items

module _ (theory : DraftTheory) (program : DraftProgram) (keeps : TheoryKeeps theory)
    (also : ProgramKeeps theory program) where
  abbrev names : Declared
  names = names_of theory program

  module _ (agent : Agent) (says : Says theory program agent) (fit : WellFormed agent) where
    has-items : HasItems agent (names_of theory program)
    has-items = has-own agent names says.declared.sorts says.declared.fluents fit

    -- the items of each kind are taken for the agent's
    starts-are : Give (map (start_in (names_of theory program)) theory.starts) says.starts.items
    starts-are = starts-taken theory program keeps also says.starts.items says.starts.said

    poss-are : Give (map (poss_in (names_of theory program)) theory.poss) agent.poss
    poss-are =
        all-taken (poss_in names) (poss_says names) (draft_poss_keeps theory) (poss_fits agent)
        (λ item y keep h said. poss-taken agent names has-items item y h said)
        theory.poss agent.poss keeps.poss fit.actions_fit.poss says.actions.poss

    causes-are : Give (map (cause_in (names_of theory program)) theory.causes) agent.causes
    causes-are =
        all-taken (cause_in names) (cause_says names) (draft_cause_keeps theory) (cause_fits agent)
        (λ item y keep h said. cause-taken names agent has-items item y h said)
        theory.causes agent.causes keeps.causes fit.actions_fit.causes says.actions.causes

    senses-are : Give (senses_in (names_of theory program) [] theory.senses) agent.senses
    senses-are =
        senses-taken agent names has-items says.declared.actions theory.senses agent.senses fit.actions_fit.senses
        says.actions.senses fit.actions_fit.senses_once

    programs-are : AreTaken theory program agent
    programs-are = programs-taken theory program agent has-items fit.programs says.procs says.main

    -- nothing is refused of a draft that says a well-formed agent
    none : all_refusals theory program ≡ []
    none =
        let p = programs-are in
        none-both _ _ (none-both _ _ (none-both _ _
        (none-both _ _ (none-both _ _ (none-both _ _ (none-both _ _ (none-both _ _
        (none-both _ _ (fluents-none theory agent says.declared fit.countable) (actions-none theory agent says.declared fit.countable))
        starts-are.0) poss-are.0) causes-are.0) senses-are.0) p.procs.0) p.fronts) p.blocks) p.main

    -- the ground fluents are those of what the theory declares, and so are the start values
    ground-are : ground_fluents agent ≡ ground_fluents (bare theory)
    ground-are =
        same-ground agent (bare theory) says.declared.sorts (fluent_args agent) 0
        ∙ ap (λ (items : List FluentItem). all_from (bare theory) 0 (args_of_fluents items)) says.declared.fluents

    values-are : agent.starts ≡ (agent_of theory program).starts
    values-are =
        says.starts.values
        ∙ ap (λ (items : List Start). map (start_value items) (ground_fluents agent)) (sym starts-are.1)
        ∙ ap (λ (all : List Ground). map (start_value (starts_of theory names)) all) ground-are

    -- the sizes of sorts, and the numbers of the first ground things
    sizes-are : agent.firsts.sizes ≡ (agent_of theory program).firsts.sizes
    sizes-are = fit.countable.sizes ∙ ap (λ (sorts : List SortItem). map item_size sorts) says.declared.sorts

    fluents-are : agent.firsts.fluents ≡ (agent_of theory program).firsts.fluents
    fluents-are =
        fit.countable.first_fluents
        ∙ same-firsts agent (bare theory) says.declared.sorts (fluent_args agent)
        ∙ ap (λ (items : List FluentItem). firsts_of (bare theory) (args_of_fluents items)) says.declared.fluents

    actions-are : agent.firsts.actions ≡ (agent_of theory program).firsts.actions
    actions-are =
        fit.countable.first_actions
        ∙ same-firsts agent (bare theory) says.declared.sorts (action_args agent)
        ∙ ap (λ (items : List ActionItem). firsts_of (bare theory) (args_of_actions items)) says.declared.actions

    -- the agent that is said is the one that is given, part by part
    same : agent ≡ agent_of theory program
    same =
        let poss = sym poss-are.1 in
        let causes = sym causes-are.1 in
        let senses = sym senses-are.1 in
        let procs = sym programs-are.procs.1 in
        let main = sym programs-are.main_given in
        λ i. record {
          sorts = says.declared.sorts i;
          fluents = says.declared.fluents i;
          actions = says.declared.actions i;
          firsts = record { sizes = sizes-are i; fluents = fluents-are i; actions = actions-are i };
          devices = says.declared.devices i;
          poss = poss i;
          causes = causes i;
          senses = senses i;
          starts = values-are i;
          procs = procs i;
          main = main i;
        }

  -- what is given of a draft of which nothing is refused is said
  given-said : all_refusals theory program ≡ [] → Says theory program (agent_of theory program)
  given-said h =
      let starts = refusals (map (start_in names) theory.starts) in
      let poss = refusals (map (poss_in names) theory.poss) in
      let causes = refusals (map (cause_in names) theory.causes) in
      let senses = refusals (senses_in names [] theory.senses) in
      let procs = refusals (map (proc_in names) program.procs) in
      let fronts = all_front_refusals program.procs in
      let blocks = all_block_refusals program.procs program.main.body in
      let to_blocks = none-before _ (refusals (main_in names program.main ∷ [])) h in
      let to_senses = none-before _ procs (none-before _ fronts (none-before _ blocks to_blocks)) in
      let to_causes = none-before _ senses to_senses in
      let to_poss = none-before _ causes to_causes in
      let to_starts = none-before _ poss to_poss in
      record {
        declared = record { sorts = refl; fluents = refl; actions = refl; devices = refl };
        actions = record {
          poss = all-of (poss_in names) (poss_says names) (draft_poss_keeps theory)
              (poss-said theory program keeps also) theory.poss keeps.poss (none-behind _ poss to_poss);
          causes = all-of (cause_in names) (cause_says names) (draft_cause_keeps theory)
              (cause-said theory program keeps also) theory.causes keeps.causes (none-behind _ causes to_causes);
          senses = senses-said theory program keeps also [] theory.senses keeps.senses (none-behind _ senses to_senses);
        };
        starts = record {
          items = starts_of theory names;
          said = starts-said theory program keeps also (none-behind _ starts to_starts);
          values = refl;
        };
        procs = procs-said theory program also h;
        main = main-said theory program also h;
      }

-- A draft with a refusal says no well-formed agent.
pub refused-says-none : RefusedSaysNone
refused-says-none theory program keeps also code at among agent says fit =
    let h = subst (λ (rs : List CodeAt). IsAmong rs code at) (none theory program keeps also agent says fit) among in
    omega (arith, h.1)

-- The agent that is given is one that the draft says.
pub given-is-said : GivenIsSaid
given-is-said theory program keeps also h = given-said theory program keeps also h

-- A draft says no other well-formed agent.
pub said-is-given : SaidIsGiven
said-is-given theory program keeps also agent says fit = same theory program keeps also agent says fit
