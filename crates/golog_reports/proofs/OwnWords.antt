-- The words of an agent's things have their forms, and name just these things.
use Rattle.std.proofs.Common.{◌≡◌, ℕ, zero, suc, ◌+◌, ◌<◌, ◌≤◌, ◌^◌, Bool, true, false, not, cond, ◌&&◌, ◌||◌, ◌==◌, ℤ, pos, negsuc, Option, Some, None, List, [], ◌∷◌, ◌++◌, length, map, refl, sym, ap, ◌∙◌, subst, arith, append-nil}
use Rattle.std.specs.Prelude.{codes, bytes_eq, position, nat_lt, slice_get, slice_index_or, unwrap_or, option_map, option_and_then, is_some, ◌+ℤ◌, ◌≤ℤ◌, if◌then◌else◌}
use Rattle.std.specs.Fmt.{signed_decimal}
use Rattle.std.specs.Int.Signed.{mag}
use Rattle.std.specs.Cmp.Lexicographic.{same_text}
use Rattle.std.specs.List.{AllByRecursion, list_all, position_or_len, prefix_len, zip, flat_map, join_with_byte}
use Rattle.std.specs.Option.{option_map_or}
use Rattle.std.proofs.lemmas.Bool.{lt-ltb, or_left, or_right}
use Rattle.std.proofs.lemmas.Int.{ints}
use Rattle.std.proofs.lemmas.List.{append_assoc}
use Rattle.std.proofs.lemmas.Option.{slice_get_within, same_Some}
use Rattle.golog_base.specs.Names.{is_name, continues_name}
use Rattle.golog_base.specs.Numbers.{is_number}
use Rattle.golog_tree.specs.declared.agent.Agent.{Agent}
use Rattle.golog_tree.specs.declared.agent.SortItem.{SortItem}
use Rattle.golog_tree.specs.declared.agent.SortItem.TheVariants.{Range, Listed}
use Rattle.golog_tree.specs.declared.prog.Label.{Label}
use Rattle.golog_tree.specs.declared.prog.Label.TheVariants.{Quiet, Do as Doing}
use Rattle.golog_tree.specs.Ground.{AreWithin, action_args, ground_actions, ground_count, item_size, size_at, sizes, sort_size}
use Rattle.golog_tree.proofs.Numbers.{length-all_from}
use Rattle.golog_semantics.specs.ReportLaws.{TellsApart}
use Rattle.golog_semantics.specs.Reports.{fits_label, is_own, is_exogenous}
use Rattle.golog_semantics.specs.Text.{Text, action_text, constant_in, constant_text, device_text, in_brackets, label_text}
use Rattle.golog_semantics.specs.WellFormed.{WellFormed}
use Rattle.golog_semantics.specs.Ways.{is_empty}
use Rattle.golog_semantics.proofs.ActionNames.{HasAction, action_tells, action_text-is, args_at-map, is-named}
use Rattle.golog_semantics.proofs.Fits.{has_action}
use Rattle.golog_semantics.proofs.GroundNumbers.{action_is}
use Rattle.golog_semantics.proofs.Levels.{same_values-same}
use Rattle.golog_semantics.proofs.Names.{constant_tells}
use Rattle.golog_semantics.proofs.SortsStay.{has_at}
use Rattle.golog_semantics.proofs.Words.{IsWord, and-both, and-left, and-right}
use Rattle.golog_reports.specs.Forms.{cut, parts, is_action, is_closed, is_constant, is_label, is_run, is_step}
use Rattle.golog_reports.specs.Reads.{action_named, constant_named, device_named, first_named, is_agents_constant, label_named, labels_named, own_action, posted_action, run_named}
use Rattle.golog_reports.specs.Said.{if_so}
use Rattle.golog_reports.proofs.Decimals.{signed-number}
use Rattle.golog_reports.proofs.EntryBodies.{run_words, step_text}
use Rattle.golog_reports.proofs.FirstNamed.{any-below, the_one_named}
use Rattle.golog_reports.proofs.FitEntries.{RunFits}
use Rattle.golog_reports.proofs.Marks.{Lacks, lacks, marked, cut-marked, parts-joined, all-joined}
use Rattle.golog_reports.proofs.SaidBack.{passed}
use Rattle.golog_reports.proofs.WordBytes.{constant-word, name-lacks, constant-lacks, action-lacks}

-- where an element passes and no other does, it is the one found
module _ {A : Type 0} (test : A → Bool) where
  first-place : (xs : List A) (i : ℕ) (x : A) → slice_get xs i ≡ Some x → test x ≡ true → ((k : ℕ) (y : A) → slice_get xs k ≡ Some y → test y ≡ true → k ≡ i)
      → position_or_len test xs ≡ i
  first-place [] i x e h one = absurd (cc)
  first-place (y ∷ xs) zero x e h one =
      ap (λ b. cond (not b) (1 + prefix_len (λ z. not (test z)) xs) 0) (ap test (same_Some y x e) ∙ h)
  first-place (y ∷ xs) (suc i) x e h one =
      ap (λ b. cond (not b) (1 + prefix_len (λ z. not (test z)) xs) 0) (go (test y) refl)
      ∙ omega (arith, first-place xs i x e h (λ k z there passes. omega (arith, one (suc k) z there passes)))
    where
      go : (b : Bool) → test y ≡ b → test y ≡ false
      go false e = e
      go true e = absurd (omega (arith, one 0 y refl e))

  pub position-is : (xs : List A) (i : ℕ) (x : A) → slice_get xs i ≡ Some x → test x ≡ true → ((k : ℕ) (y : A) → slice_get xs k ≡ Some y → test y ≡ true → k ≡ i)
      → position test xs ≡ Some i
  position-is xs i x e h one =
      let at = first-place xs i x e h one in
      (λ j. cond (nat_lt (at j) (length xs)) (Some (at j)) None)
      ∙ ap (λ b. cond b (Some i) None) (lt-ltb i (length xs) (slice_get_within xs i x e))

-- where texts differ, a text names its own thing
pub first-named-back : (count : ℕ) (text_of : ℕ → Text) → ((a b : ℕ) → a < count → b < count → text_of a ≡ text_of b → a ≡ b) → (n : ℕ) → n < count
    → first_named count text_of (text_of n) ≡ Some n
first-named-back count text_of same n less =
    sym (the_one_named count text_of (text_of n) (Some n) (λ m. (
      λ e. let k : n ≡ m = same_Some n m e in (omega (arith, less, k), ap text_of (sym k)),
      λ w. ap Some (same n m less w.0 (sym w.1)),
    )))

-- what is joined by a mark, and by a mark and a text behind it
pub joined-is : {X : Type 0} (mark : ℕ) (f : X → Text) (x : X) (xs : List X) → f x ++ flat_map (λ y. mark ∷ f y) xs ≡ join_with_byte mark (map f (x ∷ xs))
joined-is mark f x [] = append-nil (f x)
joined-is mark f x (y ∷ xs) = ap (λ t. f x ++ mark ∷ t) (joined-is mark f y xs)

pub stands-at : {A : Type 0} (xs : List A) (k : ℕ) (x d : A) → slice_get xs k ≡ Some x → slice_index_or xs k d ≡ x
stands-at [] k x d e = absurd (cc)
stands-at (y ∷ xs) zero x d e = same_Some y x e
stands-at (y ∷ xs) (suc k) x d e = stands-at xs k x d e

between : (z : ℤ) → negsuc (2 ^ 32) ≤ℤ z → z ≤ℤ pos (2 ^ 32) → mag z < 2 ^ 63
between (pos n) h k = omega (arith, ints)
between (negsuc n) h k = omega (arith, ints)

near : (low : ℤ) (v : ℕ) → mag low < 2 ^ 31 → v ≤ 255 → mag (low +ℤ pos v) < 2 ^ 63
near (pos n) v h k = between (pos n +ℤ pos v) (omega (arith, ints)) (omega (arith, ints))
near (negsuc n) v h k = between (negsuc n +ℤ pos v) (omega (arith, ints)) (omega (arith, ints))

-- constants with commas between them
constants-lack : (texts : List Text) → list_all is_constant texts ≡ true → AllByRecursion (Lacks 44) texts
constants-lack [] h = tt
constants-lack (t ∷ ts) h =
    (constant-lacks 44 refl t (and-left (is_constant t) (list_all is_constant ts) h), constants-lack ts (and-right (is_constant t) (list_all is_constant ts) h))

-- a byte of constants that are joined
abbrev inside : ℕ → Bool
inside byte = continues_name byte || byte == 44

word-inside : (text : Text) → IsWord text → list_all inside text ≡ true
word-inside [] w = refl
word-inside (b ∷ bs) w =
    and-both (inside b) (list_all inside bs) (or_left (continues_name b) (b == 44) (and-left (continues_name b) (list_all continues_name bs) w)) (word-inside bs (and-right (continues_name b) (list_all continues_name bs) w))

constants-inside : (texts : List Text) → list_all is_constant texts ≡ true → AllByRecursion (λ text. list_all inside text ≡ true) texts
constants-inside [] h = tt
constants-inside (t ∷ ts) h =
    (word-inside t (constant-word t (and-left (is_constant t) (list_all is_constant ts) h)), constants-inside ts (and-right (is_constant t) (list_all is_constant ts) h))

constants-joined : (texts : List Text) → list_all is_constant texts ≡ true → Lacks 41 (join_with_byte 44 texts)
constants-joined texts h = lacks inside 41 refl (join_with_byte 44 texts) (all-joined inside 44 refl texts (constants-inside texts h))

closed-form : (text : Text) (texts : List Text) → list_all is_constant (text ∷ texts) ≡ true → is_closed (join_with_byte 44 (text ∷ texts) ++ 41 ∷ []) ≡ true
unfolding is_closed
closed-form text texts h =
    let all = join_with_byte 44 (text ∷ texts) in
    let lack = constants-lack (text ∷ texts) h in
    ap (λ (c : Text × Option Text). option_map_or is_empty c.1 false && list_all is_constant (parts 44 c.0)) (cut-marked 41 all (Some []) (constants-joined (text ∷ texts) h))
    ∙ ap (list_all is_constant) (parts-joined 44 text texts lack.0 lack.1) ∙ h

action-at : (name : Text) (rest : Option Text) → is_name name ≡ true → option_map_or is_closed rest true ≡ true → is_action (name ++ marked 40 rest) ≡ true
unfolding is_action
action-at name rest h k =
    ap (λ (c : Text × Option Text). is_name c.0 && option_map_or is_closed c.1 true) (cut-marked 40 name rest (name-lacks 40 refl name h))
    ∙ and-both (is_name name) (option_map_or is_closed rest true) h k

pub action-form : (name : Text) (texts : List Text) → is_name name ≡ true → list_all is_constant texts ≡ true → is_action (name ++ in_brackets texts) ≡ true
action-form name [] h k = action-at name None h refl
action-form name (text ∷ texts) h k =
    ap (λ t. is_action (name ++ 40 ∷ (t ++ 41 ∷ []))) (joined-is 44 (λ a. a) text texts ∙ ap (join_with_byte 44) (whole (text ∷ texts)))
    ∙ action-at name (Some (join_with_byte 44 (text ∷ texts) ++ 41 ∷ [])) h (closed-form text texts k)
  where
    whole : (ts : List Text) → map (λ (a : Text). a) ts ≡ ts
    whole [] = refl
    whole (t ∷ ts) = ap (λ us. t ∷ us) (whole ts)

module _ (agent : Agent) where
  pub has-below : (action : ℕ) → action < ground_count agent (action_args agent) → HasAction agent action
  has-below action less =
      let g = has_at (ground_actions agent) action (omega (arith, less, length-all_from agent (action_args agent) 0)) in
      let inside = (action_is agent action g.item.0 g.item.1 g.is).inside in
      let i = has_at agent.actions g.item.0 inside in
      record { item = i.item; at = g.item.0; args = g.item.1; ground = g.is; is = i.is }

  pub below-has : (action : ℕ) → HasAction agent action → action < ground_count agent (action_args agent)
  below-has action has =
      let inside = slice_get_within (ground_actions agent) action (has.at, has.args) has.ground in
      omega (arith, inside, length-all_from agent (action_args agent) 0)

  module _ (well : WellFormed agent) (apart : TellsApart agent) where
    -- constants
    constant-at : (sort v : ℕ) (o : Option SortItem) → slice_get agent.sorts sort ≡ o → v < size_at o → is_constant (option_map_or (λ item. constant_in item v) o []) ≡ true
    constant-at sort v None e less = absurd (omega (arith, less))
    constant-at sort v (Some (Range name low high)) e less =
        let fits = apart.constants sort (Range name low high) e in
        let few : item_size (Range name low high) ≤ 255 = subst (λ item. item_size item ≤ 255) (stands-at agent.sorts sort (Range name low high) (Range name low high) e)
        (well.countable.sorts sort (Range name low high) (slice_get_within agent.sorts sort (Range name low high) e)) in
        or_right (is_name (signed_decimal (low +ℤ pos v))) (is_number (signed_decimal (low +ℤ pos v))) (signed-number (low +ℤ pos v) (near low v fits.0.sfits (omega (arith, less, few))))
    constant-at sort v (Some (Listed name constants)) e less =
        let r = has_at constants v less in
        ap (λ o. is_constant (unwrap_or o [])) r.is ∙ or_left (is_name r.item) (is_number r.item) ((apart.constants sort (Listed name constants) e).named v r.item r.is)

    pub constant-form : (sort v : ℕ) → v < sort_size agent sort → is_constant (constant_text agent sort v) ≡ true
    constant-form sort v less = constant-at sort v (slice_get agent.sorts sort) refl less

    pub constant-back : (sort v : ℕ) → v < sort_size agent sort → constant_named agent sort (constant_text agent sort v) ≡ Some v
    constant-back sort v less =
        first-named-back (sort_size agent sort) (constant_text agent sort)
        (λ a b h k e. (constant_tells agent apart sort a b [] [] h k tt tt (ap (λ t. t ++ []) e)).0) v less

    inside-sorts : (sort v : ℕ) (o : Option SortItem) → slice_get agent.sorts sort ≡ o → v < size_at o → sort < length agent.sorts
    inside-sorts sort v None e less = absurd (omega (arith, less))
    inside-sorts sort v (Some item) e less = slice_get_within agent.sorts sort item e

    pub agents-constant : (sort v : ℕ) → v < sort_size agent sort → is_agents_constant agent (constant_text agent sort v) ≡ true
    unfolding is_agents_constant
    agents-constant sort v less =
        any-below (λ s. is_some (constant_named agent s (constant_text agent sort v))) (length agent.sorts) sort
        (inside-sorts sort v (slice_get agent.sorts sort) refl less) (ap is_some (constant-back sort v less))

    -- devices
    pub device-form : (device : ℕ) → device < length agent.devices → is_name (device_text agent device) ≡ true
    device-form device less =
        let r = has_at agent.devices device less in
        ap (λ o. is_name (unwrap_or o [])) r.is ∙ apart.devices.named device r.item r.is

    pub device-back : (device : ℕ) → device < length agent.devices → device_named agent (device_text agent device) ≡ Some device
    device-back device less =
        let r = has_at agent.devices device less in
        ap (λ o. device_named agent (unwrap_or o [])) r.is
        ∙ position-is (λ name. bytes_eq name r.item) agent.devices device r.item r.is (same_values-same r.item)
        (λ k y there same. apart.devices.distinct k device r.item (there ∙ ap Some (same_text y r.item (sym same))) r.is)

    -- actions
    pub args-form : (sorts args : List ℕ) → AreWithin (sizes agent sorts) args → list_all is_constant (map (λ at. constant_text agent at.0 at.1) (zip sorts args)) ≡ true
    args-form [] [] within = refl
    args-form [] (a ∷ args) within = absurd within
    args-form (sort ∷ sorts) [] within = absurd within
    args-form (sort ∷ sorts) (a ∷ args) within =
        and-both (is_constant (constant_text agent sort a)) (list_all is_constant (map (λ at. constant_text agent at.0 at.1) (zip sorts args))) (constant-form sort a within.0) (args-form sorts args within.1)

    pub action-is-form : (action : ℕ) → HasAction agent action → is_action (action_text agent action) ≡ true
    action-is-form action has =
        let within = subst (λ sorts. AreWithin (sizes agent sorts) has.args) (args_at-map agent.actions has.at has.item has.is) (action_is agent action has.at has.args has.ground).within in
        ap is_action (action_text-is agent apart action has)
        ∙ action-form has.item.name (map (λ at. constant_text agent at.0 at.1) (zip has.item.args has.args)) (is-named agent apart action has) (args-form has.item.args has.args within)

    pub action-back : (action : ℕ) → HasAction agent action → action_named agent (action_text agent action) ≡ Some action
    action-back action has =
        first-named-back (ground_count agent (action_args agent)) (action_text agent)
        (λ a b h k e. (action_tells agent apart a b [] [] (has-below a h) (has-below b k) tt tt (ap (λ t. t ++ []) e)).0) action (below-has action has)

    pub own-back : (action : ℕ) → is_own agent action ≡ true → own_action agent (action_text agent action) ≡ Some action
    unfolding own_action
    own-back action h =
        ap (option_and_then (λ a. if_so (is_own agent a) (Some a))) (action-back action (has_action agent _ action h)) ∙ passed (is_own agent action) (Some action) h

    pub posted-back : (action : ℕ) → is_exogenous agent action ≡ true → posted_action agent (action_text agent action) ≡ Some action
    unfolding posted_action
    posted-back action h =
        ap (option_and_then (λ a. if_so (is_exogenous agent a) (Some a))) (action-back action (has_action agent _ action h)) ∙ passed (is_exogenous agent action) (Some action) h

    -- labels
    label-form : (label : Label) → fits_label agent label ≡ true → is_label (label_text agent label) ≡ true
    label-form Quiet h = refl
    label-form (Doing action) h = or_right (bytes_eq (action_text agent action) (codes "-")) (is_action (action_text agent action)) (action-is-form action (has_action agent _ action h))

    label-lacks : (label : Label) → fits_label agent label ≡ true → Lacks 59 (label_text agent label)
    label-lacks Quiet h = refl
    label-lacks (Doing action) h = action-lacks 59 refl (action_text agent action) (action-is-form action (has_action agent _ action h))

    no-dash : (text : Text) → is_action text ≡ true → bytes_eq text (codes "-") ≡ false
    unfolding is_action cut
    no-dash text h = go (bytes_eq text (codes "-")) refl
      where
        go : (b : Bool) → bytes_eq text (codes "-") ≡ b → bytes_eq text (codes "-") ≡ false
        go false e = e
        go true e = absurd (let wrong : is_action (codes "-") ≡ true = ap is_action (sym (same_text text (codes "-") (sym e))) ∙ h in cc)

    label-back : (label : Label) → fits_label agent label ≡ true → label_named agent (label_text agent label) ≡ Some label
    unfolding label_named
    label-back Quiet h = refl
    label-back (Doing action) h =
        ap (λ b. if b then Some Quiet else option_map Doing (own_action agent (action_text agent action))) (no-dash (action_text agent action) (action-is-form action (has_action agent _ action h)))
        ∙ ap (option_map Doing) (own-back action h)

    labels-back : (before labels : List Label) → list_all (fits_label agent) labels ≡ true → labels_named agent before (map (step_text agent) labels) ≡ Some (before ++ labels)
    labels-back before [] h = ap Some (sym (append-nil before))
    labels-back before (label ∷ labels) h =
        ap (option_and_then (λ l. labels_named agent (before ++ l ∷ []) (map (step_text agent) labels))) (label-back label (and-left (fits_label agent label) (list_all (fits_label agent) labels) h))
        ∙ labels-back (before ++ label ∷ []) labels (and-right (fits_label agent label) (list_all (fits_label agent) labels) h)
        ∙ ap Some (append_assoc before (label ∷ []) labels)

    steps-lack : (labels : List Label) → list_all (fits_label agent) labels ≡ true → AllByRecursion (Lacks 59) (map (step_text agent) labels)
    steps-lack [] h = tt
    steps-lack (label ∷ labels) h =
        (label-lacks label (and-left (fits_label agent label) (list_all (fits_label agent) labels) h), steps-lack labels (and-right (fits_label agent label) (list_all (fits_label agent) labels) h))

    steps-form : (labels : List Label) → list_all (fits_label agent) labels ≡ true → list_all is_step (map (step_text agent) labels) ≡ true
    steps-form [] h = refl
    steps-form (label ∷ labels) h =
        and-both (is_label (label_text agent label)) (list_all is_step (map (step_text agent) labels)) (label-form label (and-left (fits_label agent label) (list_all (fits_label agent) labels) h))
        (steps-form labels (and-right (fits_label agent label) (list_all (fits_label agent) labels) h))

    run-parts : (label : Label) (labels : List Label) → list_all (fits_label agent) (label ∷ labels) ≡ true → parts 59 (run_words agent (label ∷ labels)) ≡ map (step_text agent) (label ∷ labels)
    run-parts label labels h =
        let lack = steps-lack (label ∷ labels) h in
        ap (parts 59) (joined-is 59 (step_text agent) label labels) ∙ parts-joined 59 (step_text agent label) (map (step_text agent) labels) lack.0 lack.1

    pub run-form : (run : Option (List Label)) → RunFits agent run → option_map_or is_run (option_map (run_words agent) run) true ≡ true
    unfolding is_run
    run-form None h = refl
    run-form (Some []) h = absurd (cc)
    run-form (Some (label ∷ labels)) h = ap (list_all is_step) (run-parts label labels h) ∙ steps-form (label ∷ labels) h

    pub run-named-back : (run : Option (List Label)) → RunFits agent run → run_named agent (option_map (run_words agent) run) ≡ Some run
    unfolding run_named
    run-named-back None h = refl
    run-named-back (Some []) h = absurd (cc)
    run-named-back (Some (label ∷ labels)) h =
        ap (λ ts. option_map Some (labels_named agent [] ts)) (run-parts label labels h)
        ∙ ap (option_map Some) (labels-back [] (label ∷ labels) h)
