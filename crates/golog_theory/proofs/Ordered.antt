-- The rows of every item stand in order, within the places of the item, and so do those of a theory.
use Rattle.std.proofs.Common.{ℕ, ◌+◌, ◌*◌, ◌<◌, Bool, true, false, not, List, [], ◌∷◌, ◌++◌, length, Option, Some, None, Result, refl, arith}
use Rattle.std.specs.Prelude.{if◌then◌else◌, codes}
use Rattle.golog_base.specs.Names.{is_name}
use Rattle.golog_form.specs.declared.form.Form.{Form}
use Rattle.golog_form.specs.Shape.{place_of}
use Rattle.golog_form.specs.Places.{IsInOrder}
use Rattle.golog_tree.specs.declared.draft.DraftTheory.{DraftTheory}
use Rattle.golog_tree.specs.declared.draft.DraftSort.{DraftSort}
use Rattle.golog_tree.specs.declared.draft.DraftSort.TheVariants.{Range, Listed}
use Rattle.golog_tree.specs.declared.draft.DraftFluent.{DraftFluent}
use Rattle.golog_tree.specs.declared.draft.DraftStart.{DraftStart}
use Rattle.golog_tree.specs.declared.draft.DraftStart.TheVariants.{One}
use Rattle.golog_tree.specs.declared.draft.DraftDevice.{DraftDevice}
use Rattle.golog_tree.specs.declared.draft.DraftAction.{DraftAction}
use Rattle.golog_tree.specs.declared.draft.DraftPoss.{DraftPoss}
use Rattle.golog_tree.specs.declared.draft.DraftCause.{DraftCause}
use Rattle.golog_tree.specs.declared.draft.DraftSense.{DraftSense}
use Rattle.golog_tree.specs.declared.draft_cond.DraftArg.{DraftArg}
use Rattle.golog_tree.specs.declared.draft_cond.DraftArg.TheVariants.{Word, Number}
use Rattle.golog_tree.specs.declared.draft_cond.DraftCond.{DraftCond}
use Rattle.golog_tree.specs.declared.draft_cond.DraftCond.TheVariants.{Truth}
use Rattle.golog_theory.specs.declared.fault.TheoryFault.{TheoryFault}
use Rattle.golog_theory.specs.declared.names.Actions.TheVariants.{OfProgram, All}
use Rattle.golog_theory.specs.declared.fluents.FluentItem.{FluentItem}
use Rattle.golog_theory.specs.declared.effects.Effect.{Effect}
use Rattle.golog_theory.specs.Reading.{Reading, Answers, gives, refused, row, ◌>>=◌, found, each, code_at}
use Rattle.golog_theory.specs.Names.{same, is_constant, device_no}
use Rattle.golog_base.specs.Numbers.{is_number}
use Rattle.golog_theory.specs.Parts.{word, parts, short_name, new_name, sort_of, number_of, arg_of}
use Rattle.golog_theory.specs.Heads.{head_word, arguments, fluent_named, fluent_called, action_called, schema_of}
use Rattle.golog_theory.specs.Sorts.{range_of, constant_of, listed_of, range_by, sort_by, sort_item}
use Rattle.golog_theory.specs.Fluents.{sorts_of, constant_arg, start_value, fluent_of, fluent_item, constants_of, ground_of, start_item}
use Rattle.golog_theory.specs.Actions.{device_item, device_of, action_of, action_item, exo_item}
use Rattle.golog_theory.specs.Terms.{term_of}
use Rattle.golog_theory.specs.Conditions.{cond_of}
use Rattle.golog_theory.specs.Effects.{poss_item, variable_count, effect_of, cause_of, causes_item, sense_of, senses_item}
use Rattle.golog_theory.specs.Keywords.{item_keyword}
use Rattle.golog_theory.specs.declared.keyword.ItemKeyword.{ItemKeyword}
use Rattle.golog_theory.specs.declared.keyword.ItemKeyword.TheVariants.{Sort, Device, Fluent, Start, Action, Exo, Poss, Causes, Senses, Proc, Main}
use Rattle.golog_theory.specs.Items.{built_in, with_fluent, fluent_read, read_as, read_by, item_read, items_read, theory_of}
use Rattle.golog_theory.specs.Order.{StandIn, TablesAreOrdered, IsLeastRow}
use Rattle.golog_rows.proofs.Chain.{key, Chain, chain-high, Spans, then-chain, then-spans, gives-spans, if-chain, chain-ordered, chain-within, least_row}
use Rattle.golog_theory.proofs.Theory.{first_row}
use Rattle.golog_theory.proofs.Inside.{end_of, Between, stands, arguments-between}
use Rattle.golog_theory.proofs.Tables.{Covers, row-chain, two-rows, found-covers, each-covers, between-le, short_name-behind, named-covers, new_name-covers, sort_of-covers, number_of-covers, called-covers, fluent_called-covers, action_called-covers, schema_of-covers}
use Rattle.golog_theory.proofs.Nested.{within, refused-covers, first-spans, last-spans, term_of-covers, cond_of-covers}

module _ (theory : DraftTheory) where
  range_of-spans : (at : ℕ) (name low high : Form) (from to : ℕ) → at < from → Between from (name ∷ low ∷ high ∷ []) to
      → Spans at to (range_of theory at name low high)
  unfolding range_of
  range_of-spans at name low high from to lt b =
      two-rows (64 * at) (64 * from) (64 * to) 25 26 at _ refl (omega arith) (omega arith)
      (first-spans from name (low ∷ high ∷ []) to (new_name theory name) (λ name. number_of low >>= λ low. number_of high >>= λ high. gives (Range name low high at)) b
      (new_name-covers theory name b.1)
      (λ name. first-spans (end_of _) low (high ∷ []) to (number_of low) (λ low. number_of high >>= λ high. gives (Range name low high at)) b.2 (number_of-covers low b.2.1)
      (λ low'. last-spans (end_of low) high to (number_of high) (λ high. Range name low' high at) b.2.2 (number_of-covers high b.2.2.1))))

  constant_of-covers : (own : List ℕ) (before : List (List ℕ)) (f : Form) → IsInOrder f → Covers f (constant_of theory own before f)
  unfolding constant_of
  constant_of-covers own before f order = named-covers f order

  listed_of-spans : (at : ℕ) (name : Form) (constants : List Form) (from to : ℕ) → at < from → Between from (name ∷ constants) to
      → Spans at to (listed_of theory at name constants)
  unfolding listed_of
  listed_of-spans at name constants from to lt b =
      row-chain (64 * at) (64 * from) (64 * to) 25 at _ refl (omega arith) (omega arith)
      (first-spans from name constants to (new_name theory name) (λ own. each (constant_of theory own) [] constants >>= λ names. gives (Listed own names at)) b
      (new_name-covers theory name b.1)
      (λ own. gives-spans (end_of name) to (each (constant_of theory own) [] constants) (λ names. Listed own names at)
      (each-covers (constant_of theory own) (constant_of-covers own) [] (end_of name) constants to b.2)))

  range_by-spans : (at : ℕ) (name low : Form) (fs : List Form) (from to : ℕ) → at < from → Between from (name ∷ low ∷ fs) to
      → Spans at to (range_by theory at name low fs)
  range_by-spans at name low [] from to lt b = refused-covers DraftSort at to 20 (omega (arith, between-le from (name ∷ low ∷ []) to b)) (omega arith) (omega arith)
  range_by-spans at name low (high ∷ []) from to lt b = range_of-spans at name low high from to lt b
  range_by-spans at name low (high ∷ other ∷ fs) from to lt b =
      refused-covers DraftSort at to 20 (omega (arith, between-le from (name ∷ low ∷ high ∷ other ∷ fs) to b)) (omega arith) (omega arith)

  sort_by-spans : (at : ℕ) (name : Form) (fs : List Form) (from to : ℕ) → at < from → Between from (name ∷ fs) to → Spans at to (sort_by theory at name fs)
  sort_by-spans at name [] from to lt b = refused-covers DraftSort at to 20 (omega (arith, between-le from (name ∷ []) to b)) (omega arith) (omega arith)
  sort_by-spans at name (f ∷ fs) from to lt b =
      if-chain (64 * at) (64 * to) (is_number (word f)) (range_by theory at name f fs) (listed_of theory at name (f ∷ fs))
      (range_by-spans at name f fs from to lt b) (listed_of-spans at name (f ∷ fs) from to lt b)

  sort_item-spans : (at : ℕ) (fs : List Form) (to : ℕ) → at < to → Between (at + 1) fs to → Spans at to (sort_item theory at fs)
  unfolding sort_item
  sort_item-spans at [] to lt b = refused-covers DraftSort at to 20 lt (omega arith) (omega arith)
  sort_item-spans at (name ∷ fs) to lt b = sort_by-spans at name fs (at + 1) to (omega arith) b

  -- a refusal of an item at its place
  none : (A : Type 0) (at to : ℕ) → at < to → Spans at to (refused {A = A} 20 at)
  none A at to lt = refused-covers A at to 20 lt (omega arith) (omega arith)

  sorts_of-covers : (f : Form) → IsInOrder f → Covers f (sorts_of theory f)
  unfolding sorts_of
  sorts_of-covers f order =
      let s = stands f order in
      let at = place_of f in
      let to = end_of f in
      let size = s.size in
      two-rows (64 * at) (64 * (at + 1)) (64 * to) 20 25 at _ refl (omega arith) (omega arith)
      (each-covers (λ (_ : List ℕ). sort_of theory) (λ _. sort_of-covers theory) [] (at + 1) (parts f) to s.inner)

  constant_by-covers : (f : Form) (is_word fits : Bool) → IsInOrder f
      → Covers f (if is_word
      then row fits 23 (place_of f) (if is_word then short_name f >>= (λ word. gives (Word word (place_of f))) else number_of f >>= (λ number. gives (Number number (place_of f))))
      else if is_word then short_name f >>= (λ word. gives (Word word (place_of f))) else number_of f >>= (λ number. gives (Number number (place_of f))))
  constant_by-covers f true fits order =
      let size = (stands f order).size in
      row-chain (64 * place_of f) (key (place_of f) 25) (64 * end_of f) 23 (place_of f) _ refl (omega arith) (omega arith)
      (then-chain (key (place_of f) 25) (64 * end_of f) (64 * end_of f) (short_name f) (λ word. gives (Word word (place_of f))) (omega arith) (short_name-behind f size) (λ name. omega arith))
  constant_by-covers f false fits order =
      gives-spans (place_of f) (end_of f) (number_of f) (λ number. Number number (place_of f)) (number_of-covers f order)

  pub constant_arg-covers : (f : Form) → IsInOrder f → Covers f (constant_arg theory f)
  unfolding constant_arg arg_of
  constant_arg-covers f order = constant_by-covers f (is_name (word f)) (not (is_constant theory (word f))) order

  start_value-covers : (f : Form) → IsInOrder f → Covers f (start_value theory f)
  unfolding start_value
  start_value-covers f order =
      let size = (stands f order).size in
      if-chain (64 * place_of f) (64 * end_of f) (same (word f) (codes "unknown")) (gives None) (constant_arg theory f >>= (λ arg. gives (Some arg)))
      (omega arith) (gives-spans (place_of f) (end_of f) (constant_arg theory f) (λ arg. Some arg) (constant_arg-covers f order))

  -- a fluent that is declared, up to its sort
  fluent_of-spans : (at : ℕ) (name sorts sort : Form) (from : ℕ) → Between from (name ∷ sorts ∷ sort ∷ []) (end_of sort)
      → Spans from (end_of sort) (fluent_of theory at name sorts sort)
  unfolding fluent_of
  fluent_of-spans at name sorts sort from b =
      let to = end_of sort in
      first-spans from name (sorts ∷ sort ∷ []) to (new_name theory name)
      (λ name. sorts_of theory sorts >>= λ args. sort_of theory sort >>= λ sort. gives (record { name = name; args = args; sort = sort; at = at })) b
      (new_name-covers theory name b.1)
      (λ name'. first-spans (end_of name) sorts (sort ∷ []) to (sorts_of theory sorts)
      (λ args. sort_of theory sort >>= λ sort. gives (record { name = name'; args = args; sort = sort; at = at })) b.2 (sorts_of-covers sorts b.2.1)
      (λ args'. last-spans (end_of sorts) sort to (sort_of theory sort) (λ sort. record { name = name'; args = args'; sort = sort; at = at }) b.2.2
      (sort_of-covers theory sort b.2.2.1)))

  fluent_item-spans : (at : ℕ) (fs : List Form) (to : ℕ) → at < to → Between (at + 1) fs to → Spans at to (fluent_item theory at fs)
  unfolding fluent_item
  fluent_item-spans at [] to lt b = none FluentItem at to lt
  fluent_item-spans at (name ∷ []) to lt b = none FluentItem at to lt
  fluent_item-spans at (name ∷ sorts ∷ []) to lt b = none FluentItem at to lt
  fluent_item-spans at (name ∷ sorts ∷ sort ∷ []) to lt b =
      then-spans at (end_of sort) to (fluent_of theory at name sorts sort) (λ fluent. gives (record { fluent = fluent; value = None })) b.2.2.2
      (fluent_of-spans at name sorts sort at (omega (arith, b.0), b.1, (b.2.0, b.2.1, (b.2.2.0, b.2.2.1, omega arith))))
      (λ fluent. omega (arith, b.2.2.2))
  fluent_item-spans at (name ∷ sorts ∷ sort ∷ value ∷ []) to lt b =
      let size = (stands value b.2.2.2.1).size in
      then-spans at (end_of sort) to (fluent_of theory at name sorts sort) (λ fluent. start_value theory value >>= λ value. gives (record { fluent = fluent; value = value }))
      (between-le (end_of sort) (value ∷ []) to b.2.2.2)
      (fluent_of-spans at name sorts sort at (omega (arith, b.0), b.1, (b.2.0, b.2.1, (b.2.2.0, b.2.2.1, omega arith))))
      (λ fluent'. last-spans (end_of sort) value to (start_value theory value) (λ value. record { fluent = fluent'; value = value }) b.2.2.2
      (start_value-covers value b.2.2.2.1))
  fluent_item-spans at (name ∷ sorts ∷ sort ∷ value ∷ other ∷ fs) to lt b = none FluentItem at to lt

  constants_of-spans : (from : ℕ) (fs : List Form) (to : ℕ) → Between from fs to → Spans from to (constants_of theory fs)
  unfolding constants_of
  constants_of-spans from fs to b = each-covers (λ (_ : List DraftArg). constant_arg theory) (λ _. constant_arg-covers) [] from fs to b

  ground_of-covers : (f : Form) → IsInOrder f → Covers f (ground_of theory f)
  unfolding ground_of
  ground_of-covers f order =
      called-covers f (fluent_named theory (head_word f)) (constants_of theory) (λ item args. record { item = item; args = args }) order constants_of-spans

  start_item-spans : (at : ℕ) (fs : List Form) (to : ℕ) → at < to → Between (at + 1) fs to → Spans at to (start_item theory at fs)
  unfolding start_item
  start_item-spans at [] to lt b = none DraftStart at to lt
  start_item-spans at (fluent ∷ []) to lt b = none DraftStart at to lt
  start_item-spans at (fluent ∷ value ∷ []) to lt b =
      row-chain (64 * at) (64 * (at + 1)) (64 * to) 21 at _ refl (omega arith) (omega arith)
      (first-spans (at + 1) fluent (value ∷ []) to (ground_of theory fluent) (λ called. start_value theory value >>= λ value. gives (One called.item called.args value at)) b
      (ground_of-covers fluent b.1)
      (λ called. last-spans (end_of fluent) value to (start_value theory value) (λ value. One called.item called.args value at) b.2 (start_value-covers value b.2.1)))
  start_item-spans at (fluent ∷ value ∷ other ∷ fs) to lt b = none DraftStart at to lt

  device_item-spans : (at : ℕ) (fs : List Form) (to : ℕ) → at < to → Between (at + 1) fs to → Spans at to (device_item theory at fs)
  unfolding device_item
  device_item-spans at [] to lt b = none DraftDevice at to lt
  device_item-spans at (name ∷ []) to lt b =
      row-chain (64 * at) (64 * (at + 1)) (64 * to) 25 at _ refl (omega arith) (omega arith)
      (last-spans (at + 1) name to (new_name theory name) (λ name. record { name = name; at = at }) b (new_name-covers theory name b.1))
  device_item-spans at (name ∷ other ∷ fs) to lt b = none DraftDevice at to lt

  device_of-covers : (f : Form) → IsInOrder f → Covers f (device_of theory f)
  unfolding device_of
  device_of-covers f order = found-covers 23 f (device_no theory (word f)) refl order

  action_of-spans : (at : ℕ) (name sorts : Form) (from : ℕ) → Between from (name ∷ sorts ∷ []) (end_of sorts) → Spans from (end_of sorts) (action_of theory at name sorts)
  unfolding action_of
  action_of-spans at name sorts from b =
      first-spans from name (sorts ∷ []) (end_of sorts) (new_name theory name)
      (λ name. sorts_of theory sorts >>= λ args. gives (record { name = name; args = args; device = None; posters = []; at = at })) b
      (new_name-covers theory name b.1)
      (λ name'. last-spans (end_of name) sorts (end_of sorts) (sorts_of theory sorts) (λ args. record { name = name'; args = args; device = None; posters = []; at = at }) b.2
      (sorts_of-covers sorts b.2.1))

  action_item-spans : (at : ℕ) (fs : List Form) (to : ℕ) → at < to → Between (at + 1) fs to → Spans at to (action_item theory at fs)
  unfolding action_item
  action_item-spans at [] to lt b = none DraftAction at to lt
  action_item-spans at (name ∷ []) to lt b = none DraftAction at to lt
  action_item-spans at (name ∷ sorts ∷ []) to lt b =
      chain-high (64 * at) (64 * end_of sorts) (64 * to) (action_of theory at name sorts).rows (omega (arith, b.2.2))
      (action_of-spans at name sorts at (omega (arith, b.0), b.1, (b.2.0, b.2.1, omega arith)))
  action_item-spans at (name ∷ sorts ∷ device ∷ []) to lt b =
      then-spans at (end_of sorts) to (action_of theory at name sorts) (λ action. device_of theory device >>= λ device. gives (record action { device = Some device }))
      (between-le (end_of sorts) (device ∷ []) to b.2.2)
      (action_of-spans at name sorts at (omega (arith, b.0), b.1, (b.2.0, b.2.1, omega arith)))
      (λ action. last-spans (end_of sorts) device to (device_of theory device) (λ device. record action { device = Some device }) b.2.2 (device_of-covers device b.2.2.1))
  action_item-spans at (name ∷ sorts ∷ device ∷ other ∷ fs) to lt b = none DraftAction at to lt

  exo_item-spans : (at : ℕ) (fs : List Form) (to : ℕ) → at < to → Between (at + 1) fs to → Spans at to (exo_item theory at fs)
  unfolding exo_item
  exo_item-spans at [] to lt b = none DraftAction at to lt
  exo_item-spans at (name ∷ []) to lt b = none DraftAction at to lt
  exo_item-spans at (name ∷ sorts ∷ []) to lt b = none DraftAction at to lt
  exo_item-spans at (name ∷ sorts ∷ device ∷ devices) to lt b =
      then-spans at (end_of sorts) to (action_of theory at name sorts)
      (λ action. each (λ (_ : List ℕ). device_of theory) [] (device ∷ devices) >>= λ posters. gives (record action { posters = posters }))
      (between-le (end_of sorts) (device ∷ devices) to b.2.2)
      (action_of-spans at name sorts at (omega (arith, b.0), b.1, (b.2.0, b.2.1, omega arith)))
      (λ action. gives-spans (end_of sorts) to (each (λ (_ : List ℕ). device_of theory) [] (device ∷ devices)) (λ posters. record action { posters = posters })
      (each-covers (λ (_ : List ℕ). device_of theory) (λ _. device_of-covers) [] (end_of sorts) (device ∷ devices) to b.2.2))

  poss_item-spans : (at : ℕ) (fs : List Form) (to : ℕ) → at < to → Between (at + 1) fs to → Spans at to (poss_item theory at fs)
  unfolding poss_item
  poss_item-spans at [] to lt b = none DraftPoss at to lt
  poss_item-spans at (schema ∷ []) to lt b = none DraftPoss at to lt
  poss_item-spans at (schema ∷ cond ∷ []) to lt b =
      row-chain (64 * at) (64 * (at + 1)) (64 * to) 21 at _ refl (omega arith) (omega arith)
      (first-spans (at + 1) schema (cond ∷ []) to (schema_of theory OfProgram schema)
      (λ schema. cond_of theory cond (length schema.vars) >>= λ cond. gives (record { action = schema.action; vars = schema.vars; cond = cond; at = at })) b
      (schema_of-covers theory OfProgram schema b.1)
      (λ schema'. last-spans (end_of schema) cond to (cond_of theory cond (length schema'.vars)) (λ cond. record { action = schema'.action; vars = schema'.vars; cond = cond; at = at }) b.2
      (cond_of-covers theory cond b.2.1 (length schema'.vars))))
  poss_item-spans at (schema ∷ cond ∷ other ∷ fs) to lt b = none DraftPoss at to lt

  effect_of-spans : (action fluent term : Form) (from : ℕ) → Between from (action ∷ fluent ∷ term ∷ []) (end_of term) → Spans from (end_of term) (effect_of theory action fluent term)
  unfolding effect_of
  effect_of-spans action fluent term from b =
      let to = end_of term in
      first-spans from action (fluent ∷ term ∷ []) to (action_called theory action)
      (λ action. fluent_called theory fluent >>= λ fluent. term_of theory term >>= λ term. gives (record { action = action; fluent = fluent; term = term })) b
      (action_called-covers theory action b.1)
      (λ action'. first-spans (end_of action) fluent (term ∷ []) to (fluent_called theory fluent)
      (λ fluent. term_of theory term >>= λ term. gives (record { action = action'; fluent = fluent; term = term })) b.2 (fluent_called-covers theory fluent b.2.1)
      (λ fluent'. last-spans (end_of fluent) term to (term_of theory term) (λ term. record { action = action'; fluent = fluent'; term = term }) b.2.2 (term_of-covers theory term b.2.2.1)))

  causes_item-spans : (at : ℕ) (fs : List Form) (to : ℕ) → at < to → Between (at + 1) fs to → Spans at to (causes_item theory at fs)
  unfolding causes_item
  causes_item-spans at [] to lt b = none DraftCause at to lt
  causes_item-spans at (action ∷ []) to lt b = none DraftCause at to lt
  causes_item-spans at (action ∷ fluent ∷ []) to lt b = none DraftCause at to lt
  causes_item-spans at (action ∷ fluent ∷ term ∷ []) to lt b =
      row-chain (64 * at) (64 * (at + 1)) (64 * to) 25 at _ refl (omega arith) (omega arith)
      (then-spans (at + 1) (end_of term) to (effect_of theory action fluent term) (λ effect. gives (cause_of at effect (Truth true at))) b.2.2.2
      (effect_of-spans action fluent term (at + 1) (b.0, b.1, (b.2.0, b.2.1, (b.2.2.0, b.2.2.1, omega arith))))
      (λ effect. omega (arith, b.2.2.2)))
  causes_item-spans at (action ∷ fluent ∷ term ∷ cond ∷ []) to lt b =
      row-chain (64 * at) (64 * (at + 1)) (64 * to) 25 at _ refl (omega arith) (omega arith)
      (then-spans (at + 1) (end_of term) to (effect_of theory action fluent term)
      (λ effect. cond_of theory cond (variable_count theory effect) >>= λ cond. gives (cause_of at effect cond))
      (between-le (end_of term) (cond ∷ []) to b.2.2.2)
      (effect_of-spans action fluent term (at + 1) (b.0, b.1, (b.2.0, b.2.1, (b.2.2.0, b.2.2.1, omega arith))))
      (λ effect. last-spans (end_of term) cond to (cond_of theory cond (variable_count theory effect)) (λ cond. cause_of at effect cond) b.2.2.2
      (cond_of-covers theory cond b.2.2.2.1 (variable_count theory effect))))
  causes_item-spans at (action ∷ fluent ∷ term ∷ cond ∷ other ∷ fs) to lt b = none DraftCause at to lt

  sense_of-spans : (from at : ℕ) (later : Bool) (schema fluent : Form) (to : ℕ) → Between from (schema ∷ fluent ∷ []) to
      → Spans from to (sense_of theory at later schema fluent)
  sense_of-spans from at later schema fluent to b =
      first-spans from schema (fluent ∷ []) to (schema_of theory All schema)
      (λ schema. fluent_called theory fluent >>= λ fluent. gives (record { action = schema.action; vars = schema.vars; fluent = fluent.item; args = fluent.args; later = later; at = at })) b
      (schema_of-covers theory All schema b.1)
      (λ schema'. last-spans (end_of schema) fluent to (fluent_called theory fluent)
      (λ fluent. record { action = schema'.action; vars = schema'.vars; fluent = fluent.item; args = fluent.args; later = later; at = at }) b.2 (fluent_called-covers theory fluent b.2.1))

  senses_item-spans : (at : ℕ) (fs : List Form) (to : ℕ) → at < to → Between (at + 1) fs to → Spans at to (senses_item theory at fs)
  unfolding senses_item
  senses_item-spans at [] to lt b = none DraftSense at to lt
  senses_item-spans at (schema ∷ []) to lt b = none DraftSense at to lt
  senses_item-spans at (schema ∷ fluent ∷ []) to lt b = sense_of-spans at at false schema fluent to (omega (arith, b.0), b.1, b.2)
  senses_item-spans at (schema ∷ fluent ∷ late ∷ []) to lt b =
      row-chain (64 * at) (64 * (at + 1)) (64 * to) 20 at _ refl (omega arith) (omega arith)
      (sense_of-spans (at + 1) at true schema fluent to (b.0, b.1, (b.2.0, b.2.1, between-le (end_of fluent) (late ∷ []) to b.2.2)))
  senses_item-spans at (schema ∷ fluent ∷ late ∷ other ∷ fs) to lt b = none DraftSense at to lt

  read_as-spans : (at : ℕ) (keyword : ItemKeyword) (fs : List Form) (to : ℕ) → at < to → Between (at + 1) fs to → Spans at to (read_as theory at keyword fs)
  unfolding read_as fluent_read
  read_as-spans at Sort fs to lt b =
      gives-spans at to (sort_item theory at fs) (λ item. record theory { sorts = theory.sorts ++ item ∷ [] }) (sort_item-spans at fs to lt b)
  read_as-spans at Device fs to lt b =
      gives-spans at to (device_item theory at fs) (λ item. record theory { devices = theory.devices ++ item ∷ [] }) (device_item-spans at fs to lt b)
  read_as-spans at Fluent fs to lt b =
      gives-spans at to (fluent_item theory at fs) (λ item. with_fluent theory item at) (fluent_item-spans at fs to lt b)
  read_as-spans at Start fs to lt b =
      gives-spans at to (start_item theory at fs) (λ item. record theory { starts = theory.starts ++ item ∷ [] }) (start_item-spans at fs to lt b)
  read_as-spans at Action fs to lt b =
      gives-spans at to (action_item theory at fs) (λ item. record theory { actions = theory.actions ++ item ∷ [] }) (action_item-spans at fs to lt b)
  read_as-spans at Exo fs to lt b =
      gives-spans at to (exo_item theory at fs) (λ item. record theory { actions = theory.actions ++ item ∷ [] }) (exo_item-spans at fs to lt b)
  read_as-spans at Poss fs to lt b =
      gives-spans at to (poss_item theory at fs) (λ item. record theory { poss = theory.poss ++ item ∷ [] }) (poss_item-spans at fs to lt b)
  read_as-spans at Causes fs to lt b =
      gives-spans at to (causes_item theory at fs) (λ item. record theory { causes = theory.causes ++ item ∷ [] }) (causes_item-spans at fs to lt b)
  read_as-spans at Senses fs to lt b =
      gives-spans at to (senses_item theory at fs) (λ item. record theory { senses = theory.senses ++ item ∷ [] }) (senses_item-spans at fs to lt b)
  read_as-spans at Proc fs to lt b = omega arith
  read_as-spans at Main fs to lt b = omega arith

  read_by-spans : (at : ℕ) (keyword : Option ItemKeyword) (fs : List Form) (to : ℕ) → at < to → Between (at + 1) fs to → Spans at to (read_by theory at keyword fs)
  read_by-spans at None fs to lt b = none DraftTheory at to lt
  read_by-spans at (Some keyword) fs to lt b = read_as-spans at keyword fs to lt b

  pub item_read-covers : (f : Form) → IsInOrder f → Covers f (item_read theory f)
  item_read-covers f order =
      read_by-spans (place_of f) (item_keyword (head_word f)) (arguments f) (end_of f) (stands f order).size (arguments-between f order)

pub items_read-spans : (theory : DraftTheory) (from : ℕ) (fs : List Form) (to : ℕ) → Between from fs to → Spans from to (items_read theory fs)
items_read-spans theory from [] to b = omega (arith, b)
items_read-spans theory from (f ∷ fs) to b =
    first-spans from f fs to (item_read theory f) (λ next. items_read next fs) b (item_read-covers theory f b.1)
    (λ next. items_read-spans next (end_of f) fs to b.2)

pub theory_of-covers : (f : Form) → IsInOrder f → Covers f (theory_of f)
unfolding theory_of
theory_of-covers f order =
    let size = (stands f order).size in
    row-chain (64 * place_of f) (64 * (place_of f + 1)) (64 * end_of f) 20 (place_of f) _ refl (omega arith) (omega arith)
    (items_read-spans built_in (place_of f + 1) (arguments f) (end_of f) (arguments-between f order))

stand : {A : Type 0} (f : Form) (reading : Reading A) → Covers f reading → StandIn f reading.rows
stand f reading c = record {
  ordered = chain-ordered (64 * place_of f) (64 * end_of f) reading.rows c;
  within = chain-within (place_of f) (end_of f) (64 * place_of f) reading.rows (omega arith) c;
}

pub tables-ordered : (f : Form) → IsInOrder f → TablesAreOrdered f
tables-ordered f order = record {
  items = λ theory. stand f (item_read theory f) (item_read-covers theory f order);
  conditions = λ theory scope. stand f (cond_of theory f scope) (cond_of-covers theory f order scope);
  theories = stand f (theory_of f) (theory_of-covers f order);
}

-- so the answer of a reader is the least row that fits
pub theory-least : (result : Result DraftTheory TheoryFault) (f : Form) → Answers result (theory_of f) → IsInOrder f → IsLeastRow result (theory_of f).rows
theory-least result f e order = least_row code_at result (theory_of f).rows (tables-ordered f order).theories.ordered (first_row result (theory_of f) e)

pub condition-least : (result : Result DraftCond TheoryFault) (theory : DraftTheory) (f : Form) → Answers result (cond_of theory f 0) → IsInOrder f
    → IsLeastRow result (cond_of theory f 0).rows
condition-least result theory f e order =
    least_row code_at result (cond_of theory f 0).rows ((tables-ordered f order).conditions theory 0).ordered (first_row result (cond_of theory f 0) e)

pub ruleset laws = (theory-least, condition-least)
