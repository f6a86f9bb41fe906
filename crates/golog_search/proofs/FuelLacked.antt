-- Where fuel is lacked for the first step of a program, or for its steps in any mode, some block at its front weighs.
use Rattle.std.proofs.Common.{◌≡◌, ℕ, zero, suc, Bool, true, false, ◌&&◌, ◌||◌, if◌then◌else◌, List, [], ◌∷◌, ◌++◌, ◌⊎◌, inl, inr, refl, ap, ◌∙◌}
use Rattle.std.specs.Prelude.{not}
use Rattle.std.specs.List.{list_any}
use Rattle.std.proofs.lemmas.List.Folds.{list_any-append}
use Rattle.golog_base.proofs.Bools.{or-true}
use Rattle.golog_tree.specs.declared.agent.Agent.{Agent}
use Rattle.golog_tree.specs.declared.prog.Prog.{Prog}
use Rattle.golog_tree.specs.declared.prog.Way.{Way}
use Rattle.golog_tree.specs.declared.prog.Prog.TheOpen.{Nil, Act, Test, Seq, Choice, Pick, Star, If, While, Conc, Prio, Cstar, Call, Search, Follow}
use Rattle.golog_tree.specs.declared.prog.Prog.TheViews.{out-Prog}
use Rattle.golog_tree.specs.Tidy.{Layer}
use Rattle.golog_semantics.specs.declared.Mode.{Mode}
use Rattle.golog_semantics.specs.declared.Mode.TheVariants.{Must, Near}
use Rattle.golog_semantics.specs.declared.search.Block.{Block}
use Rattle.golog_semantics.specs.Truth.{Values, constants}
use Rattle.golog_semantics.specs.Program.{put_arg, body_of}
use Rattle.golog_semantics.specs.Guarded.{front, IsGuarded}
use Rattle.golog_semantics.specs.Blocks.{is_kept}
use Rattle.golog_semantics.specs.Heavy.{Reached, blocks_step, is_above, block_reached}
use Rattle.golog_semantics.proofs.Tests.{and_cases}
use Rattle.golog_ways.specs.Lacking.{Wants, lacks_step, lacks_to, wants_at}
use Rattle.golog_search.specs.BlockSteps.{wants_more}
use Rattle.golog_search.specs.Weighing.{blocks_at, weighs_by}
use Rattle.golog_search.proofs.FrontBlocksUnfold.{front_blocks-out}
use Rattle.golog_search.proofs.Weighs.{any-flat}

pub or_cases : (a b : Bool) → (a || b) ≡ true → (a ≡ true) ⊎ (b ≡ true)
or_cases true b e = inl refl
or_cases false b e = inr e

-- what each that passes tells is told where one passes
any_told : {A : Type 0} (f k : A → Bool) (b : Bool) (xs : List A) → ((x : A) → f x ≡ true → (b ≡ true) × (k x ≡ true)) → list_any f xs ≡ true → (b ≡ true) × (list_any k xs ≡ true)
any_told f k b [] each h = absurd (cc)
any_told f k b (x ∷ xs) each h = elim (or_cases (f x) (list_any f xs) h) [
  | inl e ↦ let d = each x e in (d.0, ap (λ c. c || list_any k xs) d.1)
  | inr e ↦ let d = any_told f k b xs each e in (d.0, ap (λ c. k x || c) d.1 ∙ or-true (k x))
]

-- a block that wants more, by what is so of it
record Wanting (kept bounded above : Bool) : Type 0 where
  anew : kept ≡ false
  bound : bounded ≡ true
  weighs : above ≡ true

in_near : (near above stepless_or_higher : Bool) → (near ≡ true → stepless_or_higher ≡ true) → (near && above) ≡ true → (above && stepless_or_higher) ≡ true
in_near true true s h e = h refl
in_near true false s h e = absurd (cc)
in_near false above s h e = absurd (cc)

wanting : (kept bounded must may near s : Bool) → (near ≡ true → s ≡ true)
    → ((not kept && (bounded && must)) || (near && (not kept && (bounded && may)))) ≡ true → Wanting kept bounded (must || (may && s))
wanting true bounded must may true s h e = absurd (cc)
wanting true bounded must may false s h e = absurd (cc)
wanting false false must may true s h e = absurd (cc)
wanting false false must may false s h e = absurd (cc)
wanting false true true may near s h e = record { anew = refl; bound = refl; weighs = refl }
wanting false true false may near s h e = record { anew = refl; bound = refl; weighs = in_near near may s h e }

module _ (bounded : Bool) (agent : Agent) (values : Values) (stepless : Bool) where
  -- the blocks whose searches want more
  abbrev pub wants : Mode → Wants
  wants m depth fuel body rest = wants_more bounded agent values m (record { depth = depth; fuel = fuel; body = body }) rest

  abbrev test : Reached → Bool
  test = weighs_by agent values stepless

  -- searches are bounded, and one of these weighs
  abbrev Told : List Reached → Type 0
  Told blocks = (bounded ≡ true) × (list_any test blocks ≡ true)

  told_left : (us vs : List Reached) → Told us → Told (us ++ vs)
  told_left us vs h = (h.0, list_any-append test us vs ∙ ap (λ b. b || list_any test vs) h.1)

  told_right : (us vs : List Reached) → Told vs → Told (us ++ vs)
  told_right us vs h = (h.0, list_any-append test us vs ∙ ap (λ b. list_any test us || b) h.1 ∙ or-true (list_any test us))

  told_if : (b : Bool) (us : List Reached) → b ≡ true → Told us → Told (if b then us else [])
  told_if b us e h = (h.0, ap (λ c. list_any test (if c then us else [])) e ∙ h.1)

  -- where blocks are asked in Near, they weigh for it
  abbrev Asks : Bool → Bool → Type 0
  Asks near higher = near ≡ true → (stepless || higher) ≡ true

  told_block : (near higher : Bool) → Asks near higher → (depth fuel : ℕ) (body : Prog) (rest : List Way) → wants_at wants near depth fuel body rest ≡ true
      → (is_kept agent values body rest ≡ false) × Told (block_reached depth fuel body higher)
  told_block near higher asks depth fuel body rest e =
      let block : Block = record { depth = depth; fuel = fuel; body = body } in
      let w = wanting (is_kept agent values body rest) bounded (is_above agent values Must block) (is_above agent values Near block) near (stepless || higher) asks e in
      (w.anew, (w.bound, ap (λ b. b || false) w.weighs))

  module _ (g : IsGuarded agent) where
    -- what is to be shown of programs, looking so deep
    abbrev Deep : ℕ → Type 0
    Deep n = (near higher : Bool) → Asks near higher → (p : Prog) → lacks_to agent wants n near p ≡ true → Told (blocks_at agent values higher p)

    in_layer : (n : ℕ) → Deep n → (near higher : Bool) → Asks near higher → (l : Layer) → lacks_step agent wants (lacks_to agent wants n) near l ≡ true
        → Told (blocks_step agent values (blocks_at agent values) higher l)
    in_layer n deep near higher asks Nil h = absurd (cc)
    in_layer n deep near higher asks (Act action args) h = absurd (cc)
    in_layer n deep near higher asks (Test c) h = absurd (cc)
    in_layer n deep near higher asks (Seq p q) h = elim (or_cases (lacks_to agent wants n near p) ((front agent p).skip && lacks_to agent wants n near q) h) [
      | inl e ↦ told_left (blocks_at agent values higher p) (if (front agent p).skip then blocks_at agent values higher q else []) (deep near higher asks p e)
      | inr e ↦ let k = and_cases (front agent p).skip (lacks_to agent wants n near q) e in
          told_right (blocks_at agent values higher p) (if (front agent p).skip then blocks_at agent values higher q else [])
          (told_if (front agent p).skip (blocks_at agent values higher q) k.0 (deep near higher asks q k.1))
    ]
    in_layer n deep near higher asks (Choice p q) h = elim (or_cases (lacks_to agent wants n near p) (lacks_to agent wants n near q) h) [
      | inl e ↦ told_left (blocks_at agent values higher p) (blocks_at agent values higher q) (deep near higher asks p e)
      | inr e ↦ told_right (blocks_at agent values higher p) (blocks_at agent values higher q) (deep near higher asks q e)
    ]
    in_layer n deep near higher asks (Pick x sort p) h =
        let k = any_told (λ c. lacks_to agent wants n near (put_arg p x c)) (λ c. list_any test (blocks_at agent values higher (put_arg p x c))) bounded (constants agent sort)
        (λ c e. deep near higher asks (put_arg p x c) e) h in
        (k.0, any-flat test (λ c. blocks_at agent values higher (put_arg p x c)) (constants agent sort) ∙ k.1)
    in_layer n deep near higher asks (Star p) h = deep near higher asks p h
    in_layer n deep near higher asks (If c p q) h = elim (or_cases (lacks_to agent wants n near p) (lacks_to agent wants n near q) h) [
      | inl e ↦ told_left (blocks_at agent values higher p) (blocks_at agent values higher q) (deep near higher asks p e)
      | inr e ↦ told_right (blocks_at agent values higher p) (blocks_at agent values higher q) (deep near higher asks q e)
    ]
    in_layer n deep near higher asks (While c p) h = deep near higher asks p h
    in_layer n deep near higher asks (Conc p q) h = elim (or_cases (lacks_to agent wants n near p) (lacks_to agent wants n near q) h) [
      | inl e ↦ told_left (blocks_at agent values higher p) (blocks_at agent values higher q) (deep near higher asks p e)
      | inr e ↦ told_right (blocks_at agent values higher p) (blocks_at agent values higher q) (deep near higher asks q e)
    ]
    in_layer n deep near higher asks (Prio p q) h = elim (or_cases (lacks_to agent wants n true p) (lacks_to agent wants n near q) h) [
      | inl e ↦ told_left (blocks_at agent values true p) (blocks_at agent values higher q) (deep true true (λ _. or-true stepless) p e)
      | inr e ↦ told_right (blocks_at agent values true p) (blocks_at agent values higher q) (deep near higher asks q e)
    ]
    in_layer n deep near higher asks (Cstar p) h = deep near higher asks p h
    in_layer n deep near higher asks (Call item args) h = deep near higher asks (body_of agent item args) h
    in_layer n deep near higher asks (Search depth fuel p) h = (told_block near higher asks depth fuel p [] h).1
    in_layer n deep near higher asks (Follow depth fuel p rest) h =
        let k = told_block near higher asks depth fuel p rest h in
        (k.1.0, ap (λ b. list_any test (if b then [] else block_reached depth fuel p higher)) k.0 ∙ k.1.1)

    -- searches that want more are bounded, and some block at the front of the program weighs
    pub lacks-told : (n : ℕ) (near higher : Bool) → Asks near higher → (p : Prog) → lacks_to agent wants n near p ≡ true → Told (blocks_at agent values higher p)
    lacks-told zero near higher asks p h = absurd (cc)
    lacks-told (suc n) near higher asks p h =
        let k = in_layer n (lacks-told n) near higher asks (out-Prog p) h in
        (k.0, ap (list_any test) (front_blocks-out agent values g higher p) ∙ k.1)
