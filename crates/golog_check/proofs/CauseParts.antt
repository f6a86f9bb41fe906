-- The readings of which an effect is made, one behind another.
use Rattle.std.proofs.Common.{◌≡◌, List, [], Ok}
use Rattle.golog_tree.specs.declared.agent.CauseItem.{CauseItem}
use Rattle.golog_tree.specs.declared.cond.Arg.{Arg}
use Rattle.golog_tree.specs.declared.cond.Cond.{Cond}
use Rattle.golog_tree.specs.declared.cond.Term.{Term}
use Rattle.golog_tree.specs.declared.draft.DraftCause.{DraftCause}
use Rattle.golog_rows.specs.Reading.{Reading, gives, ◌>>=◌}
use Rattle.golog_check.specs.declared.heads.Head.{Head}
use Rattle.golog_check.specs.DeclaredItems.{Declared}
use Rattle.golog_check.specs.Sorts.{fluent_sorts, action_sorts}
use Rattle.golog_check.specs.Terms.{term_in}
use Rattle.golog_check.specs.Conditions.{cond_in}
use Rattle.golog_check.specs.Starts.{own_sort}
use Rattle.golog_check.specs.Heads.{head_from}
use Rattle.golog_check.specs.Effects.{head_within, cause_in}
use Rattle.golog_check.proofs.Readings.{both, ok-same}

abbrev pub cause_of : DraftCause → List Arg → List Arg → Term → Cond → CauseItem
cause_of item action_args fluent_args term cond = record {
  action = item.action;
  action_args = action_args;
  fluent = item.fluent;
  fluent_args = fluent_args;
  term = term;
  cond = cond;
}

module _ (names : Declared) (item : DraftCause) where
  abbrev pub made : Head → Head → Term → Cond → Reading CauseItem
  made action fluent term cond = gives (cause_of item action.args fluent.args term cond)

  abbrev pub with_term : Head → Head → Term → Reading CauseItem
  with_term action fluent term = cond_in names item.cond fluent.scope >>= λ (c : Cond). made action fluent term c

  abbrev pub with_heads : Head → Head → Reading CauseItem
  with_heads action fluent =
      term_in names fluent.scope (own_sort names item.fluent) item.term >>= λ (t : Term). with_term action fluent t

  abbrev pub fluent_head : Head → Reading Head
  fluent_head action = head_from names (head_within action.scope) (fluent_sorts names item.fluent) item.fluent_args

  abbrev pub with_action : Head → Reading CauseItem
  with_action action = fluent_head action >>= λ (f : Head). with_heads action f

  abbrev pub action_head : Reading Head
  action_head = head_from names (head_within []) (action_sorts names item.action) item.action_args

  -- an effect that was not refused, part by part
  pub record IsCause (y : CauseItem) : Type 0 where
    pub action : Head
    pub fluent : Head
    pub term : Term
    pub cond : Cond
    pub action_read : action_head.outcome ≡ Ok action
    pub fluent_read : (fluent_head action).outcome ≡ Ok fluent
    pub term_read : (term_in names fluent.scope (own_sort names item.fluent) item.term).outcome ≡ Ok term
    pub cond_read : (cond_in names item.cond fluent.scope).outcome ≡ Ok cond
    pub is : ◌≡◌ {A = CauseItem} (cause_of item action.args fluent.args term cond) y

  pub cause-is : (y : CauseItem) → (cause_in names item).outcome ≡ Ok y → IsCause y
  unfolding cause_in
  cause-is y h =
      let a = both action_head with_action y h in
      let f = both (fluent_head a.value) (with_heads a.value) y a.other in
      let t = both (term_in names f.value.scope (own_sort names item.fluent) item.term) (with_term a.value f.value) y f.other in
      let c = both (cond_in names item.cond f.value.scope) (made a.value f.value t.value) y t.other in
      record {
        action = a.value;
        fluent = f.value;
        term = t.value;
        cond = c.value;
        action_read = a.one;
        fluent_read = f.one;
        term_read = t.one;
        cond_read = c.one;
        is = ok-same (cause_of item a.value.args f.value.args t.value c.value) y c.other;
      }
