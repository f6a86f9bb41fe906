-- The arguments of an action set its variables.
use Rattle.std.proofs.Common.{◌≡◌, ℕ, ◌+◌, ◌-◌, ◌<◌, List, ◌++◌, length, sym, ◌∙◌, subst, zero-add}
use Rattle.std.specs.Prelude.{replicate, slice_index}
use Rattle.golog_tree.specs.declared.agent.Agent.{Agent}
use Rattle.golog_tree.specs.Ground.{AreWithin, sizes, sort_size}
use Rattle.golog_semantics.specs.Truth.{env_of}
use Rattle.golog_semantics.specs.Fits.{bound_from}
use Rattle.golog_semantics.proofs.CausesKeep.{bound-at, index-left}
use Rattle.golog_known.specs.Fits.{Sets}
use Rattle.golog_known.specs.Laws.{ConditionsFitAtArguments, TermsFitAtArguments}

module _ (agent : Agent) where
  pub set_by : (sorts args : List ℕ) → AreWithin (sizes agent sorts) args → Sets agent (bound_from 0 sorts) (env_of args)
  unfolding env_of
  set_by sorts args w = record {
    value = λ x sort h.
        let b = bound-at agent 0 sorts args x sort w h in
        let same : x ≡ b.at = b.is ∙ zero-add b.at in
        subst (λ k. slice_index (args ++ replicate (32 - length args) 0) k < sort_size agent sort) (sym same)
        (subst (λ v. v < sort_size agent sort) (sym (index-left args (replicate (32 - length args) 0) b.at b.inside)) b.below);
  }

pub conditions_fit : ConditionsFitAtArguments
conditions_fit agent cond sorts args fits within = record { scope = bound_from 0 sorts; fits = fits; set = set_by agent sorts args within }

pub terms_fit : TermsFitAtArguments
terms_fit agent term sorts args sort fits within = record { scope = bound_from 0 sorts; sort = sort; fits = fits; set = set_by agent sorts args within }
