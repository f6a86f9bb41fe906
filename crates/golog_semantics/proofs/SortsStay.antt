-- Values stay in the sorts of their fluents along a journal.
use Rattle.std.proofs.Common.{◌≡◌, ℕ, zero, suc, ◌+◌, ◌<◌, Bool, true, false, ◌||◌, ◌==◌, if◌then◌else◌, List, [], ◌∷◌, length, map, refl, sym, ap, ◌∙◌, subst, Some, None, Option, arith, inl, inr, zero-add, add-zero}
use Rattle.std.specs.Prelude.{fold, nat_lt, slice_get, slice_index, slice_set}
use Rattle.std.specs.List.{enumerate_from}
use Rattle.std.proofs.lemmas.List.{length-map, get_or-set_same, get_or-set_other}
use Rattle.std.proofs.lemmas.Bool.{eqb-true, eq-eqb, ltb-true}
use Rattle.std.proofs.lemmas.List.FromFn.{length-enumerate_from}
use Rattle.std.proofs.Math.ListN.{length-set}
use Rattle.golog_tree.specs.declared.agent.Agent.{Agent}
use Rattle.golog_tree.specs.declared.agent.CauseItem.{CauseItem}
use Rattle.golog_tree.specs.declared.cond.Truth.{Truth}
use Rattle.golog_tree.specs.declared.cond.Truth.TheVariants.{Yes, No, Unknown}
use Rattle.golog_tree.specs.Ground.{Ground, sort_size, ground_actions, ground_fluents}
use Rattle.golog_semantics.specs.declared.journal.Entry.{Entry}
use Rattle.golog_semantics.specs.declared.journal.Entry.TheVariants.{Do, Test, Exo, Sense, Rest, Close, End}
use Rattle.golog_semantics.specs.Truth.{Values, unknown, chosen}
use Rattle.golog_semantics.specs.Values.{fluent_sort, cause_for, value_caused, value_by_causes, after_if, after_do}
use Rattle.golog_semantics.specs.Journal.{Journal}
use Rattle.golog_semantics.specs.Progress.{after_entry}
use Rattle.golog_semantics.specs.Reports.{is_value}
use Rattle.golog_semantics.specs.InSorts.{IsOf, AreInSorts}
use Rattle.golog_semantics.specs.SortLaws.{KeepsSorts, ResultsFit, SortsStay}
use Rattle.golog_semantics.proofs.Words.{and-left, and-right}
use Rattle.golog_semantics.proofs.GroundNumbers.{some-same}
use Rattle.golog_semantics.proofs.Among.{Among, contains-among}

-- an element below the length
pub record HasAt {A : Type 0} (xs : List A) (k : ℕ) : Type 0 where
  pub item : A
  pub is : slice_get xs k ≡ Some item

pub has_at : {A : Type 0} (xs : List A) (k : ℕ) → k < length xs → HasAt xs k
has_at [] k h = absurd (omega arith)
has_at (x ∷ xs) zero h = record { item = x; is = refl }
has_at (x ∷ xs) (suc k) h = let r = has_at xs k (omega arith) in record { item = r.item; is = r.is }

pub mapped-at : {A : Type 0} (g : ℕ × A → ℕ) (n : ℕ) (xs : List A) (k : ℕ) (x : A) → slice_get xs k ≡ Some x → slice_index (map g (enumerate_from n xs)) k ≡ g (n + k, x)
mapped-at g n [] k x e = absurd (cc)
mapped-at g n (y ∷ xs) zero x e = ap (λ m. g (m, y)) (sym (add-zero n)) ∙ ap (λ z. g (n + 0, z)) (some-same y x e)
mapped-at g n (y ∷ xs) (suc k) x e = mapped-at g (n + 1) xs k x e ∙ ap (λ m. g (m, x)) (let h : n + 1 + k ≡ n + suc k = omega arith in h)

pub or-left : (a b : Bool) → a ≡ true → (a || b) ≡ true
or-left true b h = refl
or-left false b h = cc

module _ (agent : Agent) where
  pub unknown-of : (sort : ℕ) → IsOf agent sort unknown
  unknown-of sort = or-right (nat_lt unknown (sort_size agent sort)) (unknown == unknown) refl
    where
      or-right : (a b : Bool) → b ≡ true → (a || b) ≡ true
      or-right true b h = refl
      or-right false b h = h

  pub chosen-of : (sort : ℕ) (t : Truth) (a b : ℕ) → IsOf agent sort a → IsOf agent sort b → IsOf agent sort (chosen t a b)
  chosen-of sort Yes a b h k = h
  chosen-of sort No a b h k = k
  chosen-of sort Unknown a b h k = go (a == b)
    where
      go : (c : Bool) → IsOf agent sort (if c then a else unknown)
      go true = h
      go false = unknown-of sort

  -- a result of its fluent keeps the values in their sorts
  pub set-sorts : (values : Values) → AreInSorts agent values → (fluent value : ℕ) → is_value agent fluent value ≡ true → AreInSorts agent (slice_set values fluent value)
  set-sorts values sorts fluent value h = record {
    whole = length-set values fluent value ∙ sorts.whole;
    sorted = λ f below. at f (f == fluent) refl (sorts.sorted f (omega (arith, length-set values fluent value)));
  }
    where
      fits : IsOf agent (fluent_sort agent fluent) value
      fits = or-left (nat_lt value (sort_size agent (fluent_sort agent fluent))) (value == unknown) (and-right (nat_lt fluent (length (ground_fluents agent))) (nat_lt value (sort_size agent (fluent_sort agent fluent))) h)

      there : fluent < length values
      there = let k : fluent < length (ground_fluents agent) = ltb-true fluent (length (ground_fluents agent)) (and-left (nat_lt fluent (length (ground_fluents agent))) (nat_lt value (sort_size agent (fluent_sort agent fluent))) h) in subst (λ n. fluent < n) (sym sorts.whole) k

      at : (f : ℕ) (b : Bool) → (f == fluent) ≡ b → IsOf agent (fluent_sort agent f) (slice_index values f) → IsOf agent (fluent_sort agent f) (slice_index (slice_set values fluent value) f)
      at f true e old =
          let same : f ≡ fluent = eqb-true f fluent e in
          subst (λ g. IsOf agent (fluent_sort agent g) (slice_index (slice_set values fluent value) g)) (sym same)
          (subst (IsOf agent (fluent_sort agent fluent)) (sym (get_or-set_same values fluent value 0 there)) fits)
      at f false e old =
          subst (IsOf agent (fluent_sort agent f)) (sym (get_or-set_other values fluent f value 0 (λ same. let k : (f == fluent) ≡ true = eq-eqb f fluent same in cc))) old

  module _ (keeps : (cause : CauseItem) → Among agent.causes cause → KeepsSorts agent cause) where
    module _ (values : Values) (sorts : AreInSorts agent values) (action : ℕ) (at : Ground) (ours : slice_get (ground_actions agent) action ≡ Some at) (f : ℕ) (fluent : Ground) (is : slice_get (ground_fluents agent) f ≡ Some fluent) where
      caused-of : (cause : CauseItem) → Among agent.causes cause → (o : Option (List ℕ)) → cause_for cause at fluent ≡ o → (later : ℕ) → IsOf agent (fluent_sort agent f) later → IsOf agent (fluent_sort agent f) (value_caused agent values cause o later)
      caused-of cause among None e later h = h
      caused-of cause among (Some found) e later h = chosen-of (fluent_sort agent f) _ _ _ (keeps cause among values sorts action at ours f fluent is found e) h

      ruled-of : (causes : List CauseItem) → ((c : CauseItem) → Among causes c → Among agent.causes c) → (old : ℕ) → IsOf agent (fluent_sort agent f) old → IsOf agent (fluent_sort agent f) (value_by_causes agent values causes at fluent old)
      ruled-of [] among old h = h
      ruled-of (c ∷ causes) among old h = caused-of c (among c (inl refl)) (cause_for c at fluent) refl _ (ruled-of causes (λ d k. among d (inr k)) old h)

    after_if-sorts : (values : Values) → AreInSorts agent values → (action : ℕ) (o : Option Ground) → slice_get (ground_actions agent) action ≡ o → AreInSorts agent (after_if agent values o)
    after_if-sorts values sorts action None e = sorts
    after_if-sorts values sorts action (Some at) e = record {
      whole = count;
      sorted = λ f h.
          let r = has_at (ground_fluents agent) f (subst (λ n. f < n) count h) in
          subst (IsOf agent (fluent_sort agent f)) (sym (mapped-at (λ g. value_by_causes agent values agent.causes at g.1 (slice_index values g.0)) 0 (ground_fluents agent) f r.item r.is))
          (subst (λ n. IsOf agent (fluent_sort agent f) (value_by_causes agent values agent.causes at r.item (slice_index values n))) (sym (zero-add f))
          (ruled-of values sorts action at e f r.item r.is agent.causes (λ c k. k) (slice_index values f) (sorts.sorted f (subst (λ n. f < n) (sym sorts.whole) (subst (λ n. f < n) count h)))));
    }
      where
        count : length (after_if agent values (Some at)) ≡ length (ground_fluents agent)
        count = length-map (enumerate_from 0 (ground_fluents agent)) _ ∙ length-enumerate_from 0 (ground_fluents agent)

    pub after_do-sorts : (values : Values) → AreInSorts agent values → (action : ℕ) → AreInSorts agent (after_do agent values action)
    after_do-sorts values sorts action = after_if-sorts values sorts action (slice_get (ground_actions agent) action) refl

    entry-sorts : (values : Values) → AreInSorts agent values → (e : Entry) (entries : Journal) → ResultsFit agent (e ∷ entries) → AreInSorts agent (after_entry agent values e) × ResultsFit agent entries
    entry-sorts values sorts (Do action) entries r = (after_do-sorts values sorts action, r)
    entry-sorts values sorts Test entries r = (sorts, r)
    entry-sorts values sorts (Exo poster action) entries r = (after_do-sorts values sorts action, r)
    entry-sorts values sorts (Sense poster place fluent value) entries r = (set-sorts values sorts fluent value r.0, r.1)
    entry-sorts values sorts (Rest poster taken) entries r = (sorts, r)
    entry-sorts values sorts (Close poster reason taken) entries r = (sorts, r)
    entry-sorts values sorts (End answer) entries r = (sorts, r)

    journal-sorts : (values : Values) → AreInSorts agent values → (journal : Journal) → ResultsFit agent journal → AreInSorts agent (fold (after_entry agent) values journal)
    journal-sorts values sorts [] r = sorts
    journal-sorts values sorts (e ∷ journal) r = let s = entry-sorts values sorts e journal r in journal-sorts (after_entry agent values e) s.0 journal s.1

pub sorts_stay : SortsStay
sorts_stay agent keeps starts journal results = journal-sorts agent (λ c k. keeps c (contains-among agent.causes c k)) agent.starts starts journal results
