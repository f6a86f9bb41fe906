-- Conditions put together hold where their parts do, and lists of guarded steps with them.
use Rattle.std.specs.Prelude.{◌≡◌, ℕ, Bool, true, false, ◌&&◌, ◌||◌, if◌then◌else◌, List, [], ◌∷◌, ◌++◌, map, filter}
use Rattle.std.specs.List.{list_any}
use Rattle.std.proofs.Common.{refl, sym, ap, ◌∙◌}
use Rattle.golog_tree.specs.declared.agent.Agent.{Agent}
use Rattle.golog_tree.specs.declared.cond.Truth.{Truth}
use Rattle.golog_tree.specs.declared.cond.Truth.TheVariants.{Yes, No, Unknown}
use Rattle.golog_tree.specs.declared.cond.Cond.{Cond}
use Rattle.golog_tree.specs.declared.cond.Cond.TheVariants as cond
use Rattle.golog_tree.specs.declared.prog.Way.{Way}
use Rattle.golog_tree.proofs.Substituted.{map-map}
use Rattle.golog_semantics.specs.declared.Mode.{Mode}
use Rattle.golog_semantics.specs.declared.Mode.TheVariants.{Must, May, Near}
use Rattle.golog_semantics.specs.Modes.{holds, flip}
use Rattle.golog_semantics.specs.Truth.{Env, Values, both, either, not_of, and_of, or_of, truth_of, cond_step, term_step, env_of}
use Rattle.golog_semantics.specs.Ways.{is_so, is_empty}
use Rattle.golog_semantics.specs.Fronts.{Guarded, open_ways}
use Rattle.golog_semantics.proofs.CondByParts as conds

unless : Bool → Bool
unless true = false
unless false = true

-- a negation holds in a mode where the condition does not in the flipped one
pub holds-not : (m : Mode) (t : Truth) → holds m (not_of t) ≡ (if holds (flip m) t then false else true)
holds-not Must Yes = refl
holds-not May Yes = refl
holds-not Near Yes = refl
holds-not _ _ = refl

pub holds-both : (m : Mode) (a b : Truth) → holds m (both a b) ≡ (holds m a && holds m b)
holds-both Must Unknown Yes = refl
holds-both May Unknown Yes = refl
holds-both Near Unknown Yes = refl
holds-both _ _ _ = refl

pub holds-either : (m : Mode) (a b : Truth) → holds m (either a b) ≡ (holds m a || holds m b)
holds-either Must No Yes = refl
holds-either Must Unknown Yes = refl
holds-either May No Yes = refl
holds-either May Unknown Yes = refl
holds-either Near No Yes = refl
holds-either Near Unknown Yes = refl
holds-either _ _ _ = refl

pub holds-no : (m : Mode) → holds m No ≡ false
holds-no Must = refl
holds-no May = refl
holds-no Near = refl

pub holds-yes : (m : Mode) → holds m Yes ≡ true
holds-yes Must = refl
holds-yes May = refl
holds-yes Near = refl

module _ (agent : Agent) (values : Values) (m : Mode) where
  truths : List Cond → List Truth
  truths cs = map (λ c. truth_of agent values c (env_of [])) cs

  holds-or : (cs : List Cond) (k : Mode) → holds k (or_of (map (λ c. truth_of agent values c (env_of [])) cs)) ≡ list_any (λ c. is_so agent values k c) cs
  holds-or [] k = holds-no k
  holds-or (c ∷ cs) k =
      holds-either k (truth_of agent values c (env_of [])) (or_of (map (λ d. truth_of agent values d (env_of [])) cs))
      ∙ ap (λ b. is_so agent values k c || b) (holds-or cs k)

  truth-or : (cs : List Cond) → truth_of agent values (cond.Or cs) (env_of []) ≡ or_of (map (λ c. truth_of agent values c (env_of [])) cs)
  truth-or cs =
      ap (λ (f : Env → Truth). f (env_of [])) (conds.fold-or (Env → Truth) (Env → ℕ) (cond_step agent values) (term_step agent values) cs)
      ∙ ap or_of (map-map (truth_of agent values) (λ c. c (env_of [])) cs)

  truth-and : (cs : List Cond) → truth_of agent values (cond.And cs) (env_of []) ≡ and_of (map (λ c. truth_of agent values c (env_of [])) cs)
  truth-and cs =
      ap (λ (f : Env → Truth). f (env_of [])) (conds.fold-and (Env → Truth) (Env → ℕ) (cond_step agent values) (term_step agent values) cs)
      ∙ ap and_of (map-map (truth_of agent values) (λ c. c (env_of [])) cs)

  truth-not : (c : Cond) → truth_of agent values (cond.Not c) (env_of []) ≡ not_of (truth_of agent values c (env_of []))
  truth-not c =
      ap (λ (f : Env → Truth). f (env_of [])) (conds.fold-not (Env → Truth) (Env → ℕ) (cond_step agent values) (term_step agent values) c)

  -- the condition that none of these holds
  abbrev pub none_of : List Cond → Cond
  none_of cs = cond.Not (cond.Or cs)

  so-none : (cs : List Cond) → is_so agent values m (none_of cs) ≡ (if list_any (λ c. is_so agent values (flip m) c) cs then false else true)
  so-none cs =
      ap (holds m) (truth-not (cond.Or cs) ∙ ap not_of (truth-or cs))
      ∙ holds-not m (or_of (map (λ c. truth_of agent values c (env_of [])) cs))
      ∙ ap (λ b. if b then false else true) (holds-or cs (flip m))

  both_yes : (t : Truth) → both t Yes ≡ t
  both_yes Yes = refl
  both_yes No = refl
  both_yes Unknown = refl

  so-and : (c d : Cond) → is_so agent values m (cond.And (c ∷ d ∷ [])) ≡ (is_so agent values m c && is_so agent values m d)
  so-and c d =
      ap (holds m) (truth-and (c ∷ d ∷ []) ∙ ap (both (truth_of agent values c (env_of []))) (both_yes (truth_of agent values d (env_of []))))
      ∙ holds-both m (truth_of agent values c (env_of [])) (truth_of agent values d (env_of []))

  -- a guard put before each condition, and each step changed
  abbrev pub guard : Cond → (Way → Way) → Guarded → Guarded
  guard c f g = record { cond = cond.And (c ∷ g.cond ∷ []); way = f g.way }

  step-one : (b d : Bool) (w : Way) (rest vs : List Way) → rest ≡ (if b then vs else [])
      → (if b && d then w ∷ rest else rest) ≡ (if b then (if d then w ∷ vs else vs) else [])
  step-one true true w rest vs e = ap (λ r. w ∷ r) e
  step-one true false w rest vs e = e
  step-one false d w rest vs e = e

  take_if : (b : Bool) (g : Guarded) (gs : List Guarded) → map (λ f. f.way) (if b then g ∷ gs else gs) ≡ (if b then g.way ∷ map (λ f. f.way) gs else map (λ f. f.way) gs)
  take_if true g gs = refl
  take_if false g gs = refl

  map_if : (f : Way → Way) (b : Bool) (w : Way) (ws : List Way) → map f (if b then w ∷ ws else ws) ≡ (if b then f w ∷ map f ws else map f ws)
  map_if f true w ws = refl
  map_if f false w ws = refl

  if_none : (b : Bool) → let n : List Way = [] in (if b then n else n) ≡ n
  if_none true = refl
  if_none false = refl

  append_if : (b : Bool) (w : Way) (us vs : List Way) → (if b then w ∷ (us ++ vs) else us ++ vs) ≡ (if b then w ∷ us else us) ++ vs
  append_if true w us vs = refl
  append_if false w us vs = refl

  or_open : (b x : Bool) (w : Way) (ws : List Way) → x ≡ (if is_empty ws then false else true) → (b || x) ≡ (if is_empty (if b then w ∷ ws else ws) then false else true)
  or_open true x w ws e = refl
  or_open false x w ws e = e

  twice : (b : Bool) (ws : List Way) → (if (if (if b then false else true) then false else true) then ws else []) ≡ (if b then ws else [])
  twice true ws = refl
  twice false ws = refl

  open-cons : (k : Mode) (g : Guarded) (gs : List Guarded) → open_ways agent values k (g ∷ gs) ≡ (if is_so agent values k g.cond then g.way ∷ open_ways agent values k gs else open_ways agent values k gs)
  open-cons k g gs = take_if (is_so agent values k g.cond) g (filter (λ f. is_so agent values k f.cond) gs)

  -- under a guard, the steps are those there were where the guard holds
  pub open-guarded : (c : Cond) (f : Way → Way) (gs : List Guarded)
      → open_ways agent values m (map (guard c f) gs) ≡ (if is_so agent values m c then map f (open_ways agent values m gs) else [])
  open-guarded c f [] = sym (if_none (is_so agent values m c))
  open-guarded c f (g ∷ gs) =
      open-cons m (guard c f g) (map (guard c f) gs)
      ∙ ap (λ b. if b then f g.way ∷ open_ways agent values m (map (guard c f) gs) else open_ways agent values m (map (guard c f) gs)) (so-and c g.cond)
      ∙ step-one (is_so agent values m c) (is_so agent values m g.cond) (f g.way) (open_ways agent values m (map (guard c f) gs)) (map f (open_ways agent values m gs)) (open-guarded c f gs)
      ∙ ap (λ ws. if is_so agent values m c then ws else []) (sym (map_if f (is_so agent values m g.cond) g.way (open_ways agent values m gs)) ∙ ap (map f) (sym (open-cons m g gs)))

  any_open : (k : Mode) (gs : List Guarded) → list_any (λ d. is_so agent values k d) (map (λ g. g.cond) gs) ≡ (if is_empty (open_ways agent values k gs) then false else true)
  any_open k [] = refl
  any_open k (g ∷ gs) =
      or_open (is_so agent values k g.cond) (list_any (λ d. is_so agent values k d) (map (λ e. e.cond) gs)) g.way (open_ways agent values k gs) (any_open k gs)
      ∙ ap (λ ws. if is_empty ws then false else true) (sym (open-cons k g gs))

  pub open-append : (gs hs : List Guarded) → open_ways agent values m (gs ++ hs) ≡ open_ways agent values m gs ++ open_ways agent values m hs
  open-append [] hs = refl
  open-append (g ∷ gs) hs =
      open-cons m g (gs ++ hs)
      ∙ ap (λ ws. if is_so agent values m g.cond then g.way ∷ ws else ws) (open-append gs hs)
      ∙ append_if (is_so agent values m g.cond) g.way (open_ways agent values m gs) (open_ways agent values m hs)
      ∙ ap (λ ws. ws ++ open_ways agent values m hs) (sym (open-cons m g gs))

  -- the lower part of a `prio`: its steps where the higher part has none in the flipped mode
  pub open-lower : (f : Way → Way) (high low : List Guarded)
      → open_ways agent values m (map (guard (none_of (map (λ g. g.cond) high)) f) low) ≡ (if is_empty (open_ways agent values (flip m) high) then map f (open_ways agent values m low) else [])
  open-lower f high low =
      open-guarded (none_of (map (λ g. g.cond) high)) f low
      ∙ ap (λ b. if b then map f (open_ways agent values m low) else []) (so-none (map (λ g. g.cond) high) ∙ ap (λ b. if b then false else true) (any_open (flip m) high))
      ∙ twice (is_empty (open_ways agent values (flip m) high)) (map f (open_ways agent values m low))
