-- What is told of a draft itself is what is told of its shape.
use Rattle.std.proofs.Common.{◌≡◌, ℕ, zero, suc, ◌+◌, Bool, true, false, ◌&&◌, ◌||◌, if◌then◌else◌, List, [], ◌∷◌, ◌++◌, map, Option, Some, None, refl, sym, ap, subst, ◌∙◌}
use Rattle.std.specs.Prelude.{max, slice_get, unwrap_or}
use Rattle.std.specs.List.{list_any}
use Rattle.std.specs.Option.{option_map_or}
use Rattle.std.proofs.lemmas.List.{append-nil}
use Rattle.golog_tree.specs.declared.draft_prog.DraftProg.{DraftProg}
use Rattle.golog_tree.specs.declared.draft_prog.DraftProg.TheOpen as draft
use Rattle.golog_tree.specs.declared.draft_prog.DraftProg.TheOpen.{DraftProg-F}
use Rattle.golog_tree.specs.declared.draft_prog.DraftProg.TheViews.{roll-DraftProg}
use Rattle.golog_tree.specs.declared.draft_prog.DraftProg.TheFolds.{fold-DraftProg, fold-roll-DraftProg, ind-DraftProg, map-DraftProg}
use Rattle.golog_tree.specs.declared.prog.Prog.{Prog}
use Rattle.golog_tree.specs.declared.prog.Prog.TheVariants as prog
use Rattle.golog_tree.specs.declared.prog.Prog.TheFolds.{fold-Prog}
use Rattle.golog_tree.specs.declared.prog.Prog.TheOpen.{Prog-F, Way-F, Nil, Act, Test, Seq, Choice, Pick, Star, If, While, Conc, Prio, Cstar, Call, Search}
use Rattle.golog_tree.specs.Ground.{to_count}
use Rattle.golog_tree.specs.Nest.{nest, nest_step}
use Rattle.golog_semantics.specs.BlockFree.{has_block_by, has_block_step}
use Rattle.golog_semantics.specs.Guarded.{Front, front_at, no_front}
use Rattle.golog_semantics.specs.FrontCalls.{Calling, calling, calling_step}
use Rattle.golog_tree.specs.declared.join.Join.{Join}
use Rattle.golog_tree.specs.declared.join.Join.TheVariants.{Seq as InSeq, Choice as InChoice, Conc as InConc, Prio as InPrio}
use Rattle.golog_shapes.specs.DraftNest.{parts_nest, draft_nest_step, draft_nest}
use Rattle.golog_shapes.specs.Nested.{nested}
use Rattle.golog_shapes.specs.Shapes.{no_cond, shape, shape_step}
use Rattle.golog_shapes.specs.Unguarded.{said}
use Rattle.golog_shapes.specs.Fronts.{Fore, in_row, chosen, beside, skip_at, fore_step, draft_fore, draft_has_step, draft_has}
use Rattle.golog_shapes.proofs.Shaped.{by-layer, join_step, nest_by, nested-by}

-- a fold of a fold
module _ {A B : Type 0} (f : A → B) (s : DraftProg-F A → A) (t : DraftProg-F B → B)
    (step : (l : DraftProg-F A) → f (s l) ≡ t (map-DraftProg A B f l)) where
  abbrev inner : DraftProg → A
  inner = fold-DraftProg A s

  abbrev outer : DraftProg → B
  outer = fold-DraftProg B t

  abbrev Fused : DraftProg → Type 0
  Fused d = f (inner d) ≡ outer d

  abbrev One : Type 0
  One = (d : DraftProg) × Fused d

  abbrev drafts_of : DraftProg-F One → DraftProg-F DraftProg
  drafts_of y = map-DraftProg One DraftProg (λ d. d.0) y

  all-fused : (ds : List One) → map f (map inner (map (λ d. d.0) ds)) ≡ map outer (map (λ d. d.0) ds)
  all-fused [] = refl
  all-fused (d ∷ ds) = ap (λ b. b ∷ map f (map inner (map (λ d. d.0) ds))) d.1 ∙ ap (λ bs. outer d.0 ∷ bs) (all-fused ds)

  layer-fused : (y : DraftProg-F One) → map-DraftProg A B f (map-DraftProg DraftProg A inner (drafts_of y)) ≡ map-DraftProg DraftProg B outer (drafts_of y)
  layer-fused (draft.Nil at) = refl
  layer-fused (draft.Act action args at) = refl
  layer-fused (draft.Test c at) = refl
  layer-fused (draft.Seq ds at) = ap (λ (bs : List B). draft.Seq bs at) (all-fused ds)
  layer-fused (draft.Choice ds at) = ap (λ (bs : List B). draft.Choice bs at) (all-fused ds)
  layer-fused (draft.Pick word sort d at) = ap (λ (b : B). draft.Pick word sort b at) d.1
  layer-fused (draft.Star d at) = ap (λ (b : B). draft.Star b at) d.1
  layer-fused (draft.If c d e at) = ap (λ (b : B). draft.If c b (f (inner e.0)) at) d.1 ∙ ap (λ (b : B). draft.If c (outer d.0) b at) e.1
  layer-fused (draft.While c d at) = ap (λ (b : B). draft.While c b at) d.1
  layer-fused (draft.Conc ds at) = ap (λ (bs : List B). draft.Conc bs at) (all-fused ds)
  layer-fused (draft.Prio ds at) = ap (λ (bs : List B). draft.Prio bs at) (all-fused ds)
  layer-fused (draft.Cstar d at) = ap (λ (b : B). draft.Cstar b at) d.1
  layer-fused (draft.Call item args at) = refl
  layer-fused (draft.Search depth fuel d at) = ap (λ (b : B). draft.Search depth fuel b at) d.1

  rolled-fused : (y : DraftProg-F One) → Fused (roll-DraftProg (drafts_of y))
  rolled-fused y =
      ap f (fold-roll-DraftProg A s (drafts_of y)) ∙ step (map-DraftProg DraftProg A inner (drafts_of y))
      ∙ ap t (layer-fused y) ∙ sym (fold-roll-DraftProg B t (drafts_of y))

  pub fused : (d : DraftProg) → Fused d
  fused = ind-DraftProg Fused (λ x y is. subst (λ l. Fused (roll-DraftProg l)) is (rolled-fused y))

-- a fold of shapes, as one of drafts
module _ (A : Type 0) (step : Prog-F A A → A) (way : Way-F A A → A) where
  abbrev of_shape : Prog → A
  of_shape = fold-Prog A A step way

  -- what is told of parts that are joined, where it is told of one, and of one beside others
  nest-told : {B : Type 0} (f : A → B) (told : List B → B) (join : Join) → f (step Nil) ≡ told [] → ((x : A) → f x ≡ told (f x ∷ []))
      → ((x others : A) (y : B) (ys : List B) → f others ≡ told (y ∷ ys) → f (join_step A step way join x others) ≡ told (f x ∷ y ∷ ys))
      → (xs : List A) → f (nest_by A step way join xs) ≡ told (map f xs)
  nest-told f told join none one more [] = none
  nest-told f told join none one more (x ∷ []) = one x
  nest-told f told join none one more (x ∷ y ∷ xs) =
      more x (nest_by A step way join (y ∷ xs)) (f y) (map f xs) (nest-told f told join none one more (y ∷ xs))

  abbrev pub shape_by : DraftProg-F A → A
  shape_by (draft.Nil at) = step Nil
  shape_by (draft.Act action args at) = step (Act action [])
  shape_by (draft.Test c at) = step (Test no_cond)
  shape_by (draft.Seq parts at) = nest_by A step way InSeq parts
  shape_by (draft.Choice parts at) = nest_by A step way InChoice parts
  shape_by (draft.Pick word sort p at) = step (Pick 0 sort p)
  shape_by (draft.Star p at) = step (Star p)
  shape_by (draft.If c p q at) = step (If no_cond p q)
  shape_by (draft.While c p at) = step (While no_cond p)
  shape_by (draft.Conc parts at) = nest_by A step way InConc parts
  shape_by (draft.Prio parts at) = nest_by A step way InPrio parts
  shape_by (draft.Cstar p at) = step (Cstar p)
  shape_by (draft.Call item args at) = step (Call item [])
  shape_by (draft.Search depth fuel p at) = step (Search (to_count depth) (to_count fuel) p)

  shape-layer : (l : DraftProg-F Prog) → of_shape (shape_step l) ≡ shape_by (map-DraftProg Prog A of_shape l)
  shape-layer (draft.Nil at) = by-layer A step way Nil prog.Nil prog.rolls-Nil
  shape-layer (draft.Act action args at) = by-layer A step way (Act action []) (prog.Act action []) (prog.rolls-Act action [])
  shape-layer (draft.Test c at) = by-layer A step way (Test no_cond) (prog.Test no_cond) (prog.rolls-Test no_cond)
  shape-layer (draft.Seq parts at) = nested-by A step way InSeq parts
  shape-layer (draft.Choice parts at) = nested-by A step way InChoice parts
  shape-layer (draft.Pick word sort p at) = by-layer A step way (Pick 0 sort p) (prog.Pick 0 sort p) (prog.rolls-Pick 0 sort p)
  shape-layer (draft.Star p at) = by-layer A step way (Star p) (prog.Star p) (prog.rolls-Star p)
  shape-layer (draft.If c p q at) = by-layer A step way (If no_cond p q) (prog.If no_cond p q) (prog.rolls-If no_cond p q)
  shape-layer (draft.While c p at) = by-layer A step way (While no_cond p) (prog.While no_cond p) (prog.rolls-While no_cond p)
  shape-layer (draft.Conc parts at) = nested-by A step way InConc parts
  shape-layer (draft.Prio parts at) = nested-by A step way InPrio parts
  shape-layer (draft.Cstar p at) = by-layer A step way (Cstar p) (prog.Cstar p) (prog.rolls-Cstar p)
  shape-layer (draft.Call item args at) = by-layer A step way (Call item []) (prog.Call item []) (prog.rolls-Call item [])
  shape-layer (draft.Search depth fuel p at) =
      by-layer A step way (Search (to_count depth) (to_count fuel) p) (prog.Search (to_count depth) (to_count fuel) p) (prog.rolls-Search (to_count depth) (to_count fuel) p)

  shape-folds : (d : DraftProg) → of_shape (shape d) ≡ fold-DraftProg A shape_by d
  shape-folds = fused of_shape shape_step shape_by shape-layer

  -- and one of what that gives
  pub shape-told : {B : Type 0} (f : A → B) (t : DraftProg-F B → B) → ((l : DraftProg-F A) → f (shape_by l) ≡ t (map-DraftProg A B f l))
      → (d : DraftProg) → f (of_shape (shape d)) ≡ fold-DraftProg B t d
  shape-told f t told d = ap f (shape-folds d) ∙ fused f shape_by t told d

or-none : (b : Bool) → b ≡ (b || false)
or-none true = refl
or-none false = refl

and-all : (b : Bool) → b ≡ (b && true)
and-all true = refl
and-all false = refl

-- the nest of a program
nest-more : (join : Join) (n others m : ℕ) (ms : List ℕ) → others ≡ parts_nest (m ∷ ms) → join_step ℕ nest_step (λ w. 0) join n others ≡ parts_nest (n ∷ m ∷ ms)
nest-more InSeq n others m ms e = ap (λ k. 1 + max n k) e
nest-more _ n others m ms e = ap (λ k. 1 + max n k) e

nest-parts : (join : Join) (ns : List ℕ) → nest_by ℕ nest_step (λ w. 0) join ns ≡ parts_nest (map (λ n. n) ns)
nest-parts join = nest-told ℕ nest_step (λ w. 0) (λ n. n) parts_nest join refl (λ n. refl) (nest-more join)

nest-layer : (l : DraftProg-F ℕ) → shape_by ℕ nest_step (λ w. 0) l ≡ draft_nest_step (map-DraftProg ℕ ℕ (λ n. n) l)
nest-layer (draft.Nil at) = refl
nest-layer (draft.Act action args at) = refl
nest-layer (draft.Test c at) = refl
nest-layer (draft.Seq parts at) = nest-parts InSeq parts
nest-layer (draft.Choice parts at) = nest-parts InChoice parts
nest-layer (draft.Pick word sort p at) = refl
nest-layer (draft.Star p at) = refl
nest-layer (draft.If c p q at) = refl
nest-layer (draft.While c p at) = refl
nest-layer (draft.Conc parts at) = nest-parts InConc parts
nest-layer (draft.Prio parts at) = nest-parts InPrio parts
nest-layer (draft.Cstar p at) = refl
nest-layer (draft.Call item args at) = refl
nest-layer (draft.Search depth fuel p at) = refl

pub nest-same : (d : DraftProg) → nest (shape d) ≡ draft_nest d
nest-same = shape-told ℕ nest_step (λ w. 0) (λ n. n) draft_nest_step nest-layer

-- whether a program has a block
pub said-block : (o : Option Bool) → option_map_or (λ has. has) o false ≡ unwrap_or o false
said-block None = refl
said-block (Some has) = refl

module _ (bs : List Bool) where
  has-more : (join : Join) (x others y : Bool) (ys : List Bool) → others ≡ list_any (λ has. has) (y ∷ ys)
      → join_step Bool (has_block_step bs) (λ w. false) join x others ≡ list_any (λ has. has) (x ∷ y ∷ ys)
  has-more InSeq x others y ys e = ap (λ r. x || r) e
  has-more _ x others y ys e = ap (λ r. x || r) e

  has-parts : (join : Join) (xs : List Bool) → nest_by Bool (has_block_step bs) (λ w. false) join xs ≡ list_any (λ has. has) (map (λ has. has) xs)
  has-parts join = nest-told Bool (has_block_step bs) (λ w. false) (λ has. has) (list_any (λ has. has)) join refl or-none (has-more join)

  has-layer : (l : DraftProg-F Bool) → shape_by Bool (has_block_step bs) (λ w. false) l ≡ draft_has_step bs (map-DraftProg Bool Bool (λ has. has) l)
  has-layer (draft.Nil at) = refl
  has-layer (draft.Act action args at) = refl
  has-layer (draft.Test c at) = refl
  has-layer (draft.Seq parts at) = has-parts InSeq parts
  has-layer (draft.Choice parts at) = has-parts InChoice parts
  has-layer (draft.Pick word sort p at) = refl
  has-layer (draft.Star p at) = refl
  has-layer (draft.If c p q at) = refl
  has-layer (draft.While c p at) = refl
  has-layer (draft.Conc parts at) = has-parts InConc parts
  has-layer (draft.Prio parts at) = has-parts InPrio parts
  has-layer (draft.Cstar p at) = refl
  has-layer (draft.Call item args at) = said-block (slice_get bs item)
  has-layer (draft.Search depth fuel p at) = refl

  pub has-same : (d : DraftProg) → has_block_by bs (shape d) ≡ draft_has bs d
  has-same = shape-told Bool (has_block_step bs) (λ w. false) (λ has. has) (draft_has_step bs) has-layer

-- a procedure that is skipped or not, however high its front
abbrev pub front_where : Bool → Front
front_where skip = record { skip = skip; height = 0 }

abbrev pub fore_of : Calling → Fore
fore_of c = record { skip = c.front.skip; calls = c.calls }

skip-where : (skips : List Bool) (item : ℕ) → (front_at (map front_where skips) item).skip ≡ skip_at skips item
skip-where [] item = refl
skip-where (skip ∷ skips) zero = refl
skip-where (skip ∷ skips) (suc item) = skip-where skips item

abbrev fore : Bool → List ℕ → Fore
fore skip calls = record { skip = skip; calls = calls }

row-one : (skip : Bool) (calls : List ℕ) → fore skip calls ≡ fore (skip && true) (calls ++ (if skip then [] else []))
row-one true calls = ap (fore true) (sym (append-nil calls))
row-one false calls = ap (fore false) (sym (append-nil calls))

any-one : (skip : Bool) (calls : List ℕ) → fore skip calls ≡ fore (skip || false) (calls ++ [])
any-one skip calls = ap (λ s. fore s calls) (or-none skip) ∙ ap (fore (skip || false)) (sym (append-nil calls))

all-one : (skip : Bool) (calls : List ℕ) → fore skip calls ≡ fore (skip && true) (calls ++ [])
all-one skip calls = ap (λ s. fore s calls) (and-all skip) ∙ ap (fore (skip && true)) (sym (append-nil calls))

module _ (skips : List Bool) where
  abbrev by : Prog-F Calling Calling → Calling
  by = calling_step (map front_where skips)

  abbrev no_way : Way-F Calling Calling → Calling
  no_way w = record { front = no_front; calls = [] }

  row-same : (cs : List Calling) → fore_of (nest_by Calling by no_way InSeq cs) ≡ in_row (map fore_of cs)
  row-same = nest-told Calling by no_way fore_of in_row InSeq refl (λ c. row-one c.front.skip c.calls)
      (λ c others d ds e. ap (λ (p : Fore). fore (c.front.skip && p.skip) (c.calls ++ (if c.front.skip then p.calls else []))) e)

  chosen-same : (cs : List Calling) → fore_of (nest_by Calling by no_way InChoice cs) ≡ chosen (map fore_of cs)
  chosen-same = nest-told Calling by no_way fore_of chosen InChoice refl (λ c. any-one c.front.skip c.calls)
      (λ c others d ds e. ap (λ (p : Fore). fore (c.front.skip || p.skip) (c.calls ++ p.calls)) e)

  conc-same : (cs : List Calling) → fore_of (nest_by Calling by no_way InConc cs) ≡ beside (map fore_of cs)
  conc-same = nest-told Calling by no_way fore_of beside InConc refl (λ c. all-one c.front.skip c.calls)
      (λ c others d ds e. ap (λ (p : Fore). fore (c.front.skip && p.skip) (c.calls ++ p.calls)) e)

  prio-same : (cs : List Calling) → fore_of (nest_by Calling by no_way InPrio cs) ≡ beside (map fore_of cs)
  prio-same = nest-told Calling by no_way fore_of beside InPrio refl (λ c. all-one c.front.skip c.calls)
      (λ c others d ds e. ap (λ (p : Fore). fore (c.front.skip && p.skip) (c.calls ++ p.calls)) e)

  fore-layer : (l : DraftProg-F Calling) → fore_of (shape_by Calling by no_way l) ≡ fore_step skips (map-DraftProg Calling Fore fore_of l)
  fore-layer (draft.Nil at) = refl
  fore-layer (draft.Act action args at) = refl
  fore-layer (draft.Test c at) = refl
  fore-layer (draft.Seq parts at) = row-same parts
  fore-layer (draft.Choice parts at) = chosen-same parts
  fore-layer (draft.Pick word sort p at) = refl
  fore-layer (draft.Star p at) = refl
  fore-layer (draft.If c p q at) = refl
  fore-layer (draft.While c p at) = refl
  fore-layer (draft.Conc parts at) = conc-same parts
  fore-layer (draft.Prio parts at) = prio-same parts
  fore-layer (draft.Cstar p at) = refl
  fore-layer (draft.Call item args at) = ap (λ skip. fore skip (item ∷ [])) (skip-where skips item)
  fore-layer (draft.Search depth fuel p at) = refl

  pub fore-same : (d : DraftProg) → fore_of (calling (map front_where skips) (shape d)) ≡ draft_fore skips d
  fore-same = shape-told Calling by no_way fore_of (fore_step skips) fore-layer
