-- Different ground actions have different texts, whatever follows.
use Rattle.std.proofs.Common.{◌≡◌, ℕ, zero, suc, ◌<◌, true, List, [], ◌∷◌, ◌++◌, map, refl, sym, ap, ◌∙◌, subst, Some}
use Rattle.std.specs.Prelude.{slice_get, option_map, option_and_then, unwrap_or, codes}
use Rattle.std.specs.List.{flat_map, zip}
use Rattle.std.proofs.lemmas.List.{append_assoc}
use Rattle.std.proofs.lemmas.Option.{slice_get-map}
use Rattle.golog_base.specs.Names.{is_name}
use Rattle.golog_tree.specs.declared.agent.Agent.{Agent}
use Rattle.golog_tree.specs.declared.agent.ActionItem.{ActionItem}
use Rattle.golog_tree.specs.Ground.{action_no, AreWithin, args_at, ground_actions, sizes, sort_size}
use Rattle.golog_semantics.specs.Text.{Text, constant_text, in_brackets, args_text, ground_text, action_text}
use Rattle.golog_semantics.specs.ReportLaws.{TellsApart}
use Rattle.golog_semantics.proofs.Words.{Stops, word_split, name-word}
use Rattle.golog_semantics.proofs.GroundNumbers.{action_is, some-same}
use Rattle.golog_semantics.proofs.Names.{Tells, constant_tells}

pub stops_brackets : (texts : List Text) (s : Text) → Stops s → Stops (in_brackets texts ++ s)
stops_brackets [] s h = h
stops_brackets (x ∷ xs) s h = refl

pub args_at-map : (items : List ActionItem) (at : ℕ) (item : ActionItem) → slice_get items at ≡ Some item → args_at (map (λ i. i.args) items) at ≡ item.args
args_at-map [] at item e = absurd (cc)
args_at-map (i ∷ items) zero item e = ap (λ i. i.args) (some-same i item e)
args_at-map (i ∷ items) (suc at) item e = args_at-map items at item e

module _ (agent : Agent) where
  -- an action that the agent has, with its item and its arguments
  pub record HasAction (action : ℕ) : Type 0 where
    pub item : ActionItem
    pub at : ℕ
    pub args : List ℕ
    pub ground : slice_get (ground_actions agent) action ≡ Some (at, args)
    pub is : slice_get agent.actions at ≡ Some item

module _ (agent : Agent) (apart : TellsApart agent) where
  -- the texts of arguments of these sorts
  abbrev texts : List ℕ → List ℕ → List Text
  texts sorts args = map (λ at. constant_text agent at.0 at.1) (zip sorts args)

  -- the arguments after the first, each behind a comma
  abbrev behind_commas : List ℕ → List ℕ → Text
  behind_commas sorts args = flat_map (λ y. codes "," ++ y) (texts sorts args)

  stops_commas : (sorts args : List ℕ) (s : Text) → Stops (behind_commas sorts args ++ 41 ∷ s)
  stops_commas [] args s = refl
  stops_commas (x ∷ sorts) [] s = refl
  stops_commas (x ∷ sorts) (a ∷ args) s = refl

  -- the first argument, and then those after it
  first_tells : (x : ℕ) (sorts : List ℕ) (a b : ℕ) (cs ds : List ℕ) (s t : Text) → a < sort_size agent x → b < sort_size agent x
      → (behind_commas sorts cs ++ 41 ∷ s ≡ behind_commas sorts ds ++ 41 ∷ t → (cs ≡ ds) × (s ≡ t))
      → (constant_text agent x a ++ behind_commas sorts cs) ++ 41 ∷ s ≡ (constant_text agent x b ++ behind_commas sorts ds) ++ 41 ∷ t
      → (a ∷ cs ≡ b ∷ ds) × (s ≡ t)
  first_tells x sorts a b cs ds s t h k later e =
      let one = constant_tells agent apart x a b (behind_commas sorts cs ++ 41 ∷ s) (behind_commas sorts ds ++ 41 ∷ t) h k
      (stops_commas sorts cs s) (stops_commas sorts ds t)
      (sym (append_assoc (constant_text agent x a) (behind_commas sorts cs) (41 ∷ s)) ∙ e ∙ append_assoc (constant_text agent x b) (behind_commas sorts ds) (41 ∷ t)) in
      let rest = later one.1 in
      (λ i. one.0 i ∷ rest.0 i, rest.1)

  commas_tell : (sorts cs ds : List ℕ) (s t : Text) → AreWithin (sizes agent sorts) cs → AreWithin (sizes agent sorts) ds
      → behind_commas sorts cs ++ 41 ∷ s ≡ behind_commas sorts ds ++ 41 ∷ t → (cs ≡ ds) × (s ≡ t)
  commas_tell [] [] [] s t h k e = (refl, cc)
  commas_tell [] [] (b ∷ ds) s t h k e = elim k [ ]
  commas_tell [] (a ∷ cs) ds s t h k e = elim h [ ]
  commas_tell (x ∷ sorts) [] ds s t h k e = elim h [ ]
  commas_tell (x ∷ sorts) (a ∷ cs) [] s t h k e = elim k [ ]
  commas_tell (x ∷ sorts) (a ∷ cs) (b ∷ ds) s t h k e = first_tells x sorts a b cs ds s t h.0 k.0 (commas_tell sorts cs ds s t h.1 k.1) (cc)

  args_tell : (sorts cs bs : List ℕ) (s t : Text) → AreWithin (sizes agent sorts) cs → AreWithin (sizes agent sorts) bs
      → args_text agent sorts cs ++ s ≡ args_text agent sorts bs ++ t → (cs ≡ bs) × (s ≡ t)
  args_tell [] [] [] s t h k e = (refl, e)
  args_tell [] [] (b ∷ bs) s t h k e = elim k [ ]
  args_tell [] (a ∷ cs) bs s t h k e = elim h [ ]
  args_tell (x ∷ sorts) [] bs s t h k e = elim h [ ]
  args_tell (x ∷ sorts) (a ∷ cs) [] s t h k e = elim k [ ]
  args_tell (x ∷ sorts) (a ∷ cs) (b ∷ bs) s t h k e =
      let inner : ((constant_text agent x a ++ behind_commas sorts cs) ++ codes ")") ++ s ≡ ((constant_text agent x b ++ behind_commas sorts bs) ++ codes ")") ++ t = cc in
      first_tells x sorts a b cs bs s t h.0 k.0 (commas_tell sorts cs bs s t h.1 k.1)
      (sym (append_assoc (constant_text agent x a ++ behind_commas sorts cs) (codes ")") s) ∙ inner ∙ append_assoc (constant_text agent x b ++ behind_commas sorts bs) (codes ")") t)

  pub action_text-is : (action : ℕ) (has : HasAction agent action) → action_text agent action ≡ has.item.name ++ args_text agent has.item.args has.args
  action_text-is action has =
      ap (λ o. unwrap_or (option_and_then (λ at. option_map (λ item. ground_text agent item at) (slice_get agent.actions at.0)) o) []) has.ground
      ∙ ap (λ o. unwrap_or (option_map (λ item. ground_text agent item (has.at, has.args)) o) []) has.is

  args-fit : (action : ℕ) (has : HasAction agent action) → AreWithin (sizes agent has.item.args) has.args
  args-fit action has = subst (λ sorts. AreWithin (sizes agent sorts) has.args) (args_at-map agent.actions has.at has.item has.is) (action_is agent action has.at has.args has.ground).within

  -- the same item and the same arguments are the same action
  same-action : (one other : ℕ) (a : HasAction agent one) (b : HasAction agent other) → a.at ≡ b.at → a.args ≡ b.args → one ≡ other
  same-action one other a b e k =
      sym (action_is agent one a.at a.args a.ground).number
      ∙ (λ i. action_no agent (e i) (k i))
      ∙ (action_is agent other b.at b.args b.ground).number

  at-name : (x : ℕ) (c : HasAction agent x) → slice_get (map (λ i. i.name) agent.actions) c.at ≡ Some c.item.name
  at-name x c = slice_get-map (λ i. i.name) agent.actions c.at ∙ ap (option_map (λ i. i.name)) c.is

  pub is-named : (x : ℕ) (c : HasAction agent x) → is_name c.item.name ≡ true
  is-named x c = apart.actions.named c.at c.item.name (at-name x c)

  pub action_tells : Tells (action_text agent) (HasAction agent) Stops
  action_tells one other s t a b h k e =
      let names = word_split a.item.name b.item.name (args_text agent a.item.args a.args ++ s) (args_text agent b.item.args b.args ++ t)
      (name-word a.item.name (is-named one a)) (name-word b.item.name (is-named other b)) (stops_brackets (texts a.item.args a.args) s h) (stops_brackets (texts b.item.args b.args) t k)
      (sym (append_assoc a.item.name (args_text agent a.item.args a.args) s) ∙ ap (λ x. x ++ s) (sym (action_text-is one a)) ∙ e
      ∙ ap (λ x. x ++ t) (action_text-is other b) ∙ append_assoc b.item.name (args_text agent b.item.args b.args) t) in
      let same = same-at names.0 in
      let item : a.item ≡ b.item = some-same a.item b.item (sym a.is ∙ ap (slice_get agent.actions) same ∙ b.is) in
      let rest = args_tell a.item.args a.args b.args s t (args-fit one a) (subst (λ i. AreWithin (sizes agent i.args) b.args) (sym item) (args-fit other b))
      (subst (λ i. args_text agent a.item.args a.args ++ s ≡ args_text agent i.args b.args ++ t) (sym item) names.1) in
      (same-action one other a b same rest.0, rest.1)
    where
      same-at : a.item.name ≡ b.item.name → a.at ≡ b.at
      same-at f = apart.actions.distinct a.at b.at a.item.name (at-name one a) (at-name other b ∙ ap Some (sym f))
