-- What a program begins with, by its parts.
use Rattle.std.proofs.Common.{◌≡◌, ℕ, ◌+◌, ◌*◌, ◌<◌, max, Bool, true, false, ◌&&◌, ◌||◌, if◌then◌else◌, List, [], Option, Some, None, refl, sym, ap, ◌∙◌, arith}
use Rattle.std.specs.Prelude.{slice_get}
use Rattle.golog_tree.specs.declared.agent.Agent.{Agent}
use Rattle.golog_tree.specs.declared.cond.Arg.{Arg}
use Rattle.golog_tree.specs.declared.cond.Cond.{Cond}
use Rattle.golog_tree.specs.declared.prog.Prog.{Prog}
use Rattle.golog_tree.specs.declared.prog.Way.{Way}
use Rattle.golog_tree.specs.declared.prog.Prog.TheOpen.{Nil, Act, Test, Seq, Choice, Pick, Star, If, While, Conc, Prio, Cstar, Call, Search, Follow}
use Rattle.golog_tree.specs.declared.prog.Prog.TheVariants as prog
use Rattle.golog_tree.specs.declared.prog.Prog.TheViews.{out-Prog}
use Rattle.golog_tree.specs.declared.agent.ProcItem.{ProcItem}
use Rattle.golog_semantics.specs.declared.Mode.TheVariants.{Must}
use Rattle.golog_semantics.specs.Program.{body_with}
use Rattle.golog_semantics.specs.Guarded.{Front, front, front_at, leaf, proc_fronts, IsGuarded}
use Rattle.golog_semantics.proofs.Settled.{bodies}
use Rattle.golog_semantics.proofs.Parts.{front-at}
use Rattle.golog_fronts.specs.declared.blocks.Fore.{Fore}
use Rattle.golog_fronts.specs.Fore.{IsFore, IsCallFore}
use Rattle.golog_fronts.specs.FrontBlock.{Fronted, front_blocks, has_front_block}
use Rattle.golog_fronts.proofs.FrontBlocks.{block_in_body, block_in_none, front-alike, fronted-by}

and_eq : (a b c d : Bool) → a ≡ c → b ≡ d → (a && b) ≡ (c && d)
and_eq a b c d e k = ap (λ z. z && b) e ∙ ap (λ z. c && z) k

or_eq : (a b c d : Bool) → a ≡ c → b ≡ d → (a || b) ≡ (c || d)
or_eq a b c d e k = ap (λ z. z || b) e ∙ ap (λ z. c || z) k

-- the second counts where the first is skipped
through : (a s b : Bool) → s ≡ true → (a || b) ≡ (a || (s && b))
through a s b e = rw e refl

barred : (a s b : Bool) → s ≡ false → a ≡ (a || (s && b))
barred true s b e = refl
barred false s b e = rw e refl

module _ (agent : Agent) where
  abbrev skip_of : Front → Bool
  skip_of f = f.skip

  abbrev block_of : Fronted → Bool
  block_of f = f.block

  pub nil_fore : (r : Prog) (f : Fore) → r ≡ prog.Nil → f.skip ≡ true → f.block ≡ false → IsFore agent r f
  nil_fore r f e s b = let is : out-Prog r ≡ Nil = ap out-Prog e ∙ prog.outs-Nil in record {
    skip = s ∙ sym (ap skip_of (front-at agent r Nil is));
    block = b ∙ sym (ap block_of (fronted-by agent r Nil is));
  }

  pub act_fore : (r : Prog) (action : ℕ) (args : List Arg) (f : Fore) → r ≡ prog.Act action args → f.skip ≡ false → f.block ≡ false → IsFore agent r f
  act_fore r action args f e s b = let is : out-Prog r ≡ Act action args = ap out-Prog e ∙ prog.outs-Act action args in record {
    skip = s ∙ sym (ap skip_of (front-at agent r (Act action args) is));
    block = b ∙ sym (ap block_of (fronted-by agent r (Act action args) is));
  }

  pub test_fore : (r : Prog) (c : Cond) (f : Fore) → r ≡ prog.Test c → f.skip ≡ false → f.block ≡ false → IsFore agent r f
  test_fore r c f e s b = let is : out-Prog r ≡ Test c = ap out-Prog e ∙ prog.outs-Test c in record {
    skip = s ∙ sym (ap skip_of (front-at agent r (Test c) is));
    block = b ∙ sym (ap block_of (fronted-by agent r (Test c) is));
  }

  module _ (r p q : Prog) (f g h : Fore) (one : IsFore agent p f) (other : IsFore agent q g) where
    skips_both : h.skip ≡ (f.skip && g.skip) → h.skip ≡ ((front agent p).skip && (front agent q).skip)
    skips_both s = s ∙ and_eq f.skip g.skip (front agent p).skip (front agent q).skip one.skip other.skip

    skips_one : h.skip ≡ (f.skip || g.skip) → h.skip ≡ ((front agent p).skip || (front agent q).skip)
    skips_one s = s ∙ or_eq f.skip g.skip (front agent p).skip (front agent q).skip one.skip other.skip

    blocks_one : h.block ≡ (f.block || g.block) → h.block ≡ (has_front_block agent p || has_front_block agent q)
    blocks_one b = b ∙ or_eq f.block g.block (has_front_block agent p) (has_front_block agent q) one.block other.block

    pub choice_fore : r ≡ prog.Choice p q → h.skip ≡ (f.skip || g.skip) → h.block ≡ (f.block || g.block) → IsFore agent r h
    choice_fore e s b = let is : out-Prog r ≡ Choice p q = ap out-Prog e ∙ prog.outs-Choice p q in record {
      skip = skips_one s ∙ sym (ap skip_of (front-at agent r (Choice p q) is));
      block = blocks_one b ∙ sym (ap block_of (fronted-by agent r (Choice p q) is));
    }

    pub if_fore : (c : Cond) → r ≡ prog.If c p q → h.skip ≡ (f.skip || g.skip) → h.block ≡ (f.block || g.block) → IsFore agent r h
    if_fore c e s b = let is : out-Prog r ≡ If c p q = ap out-Prog e ∙ prog.outs-If c p q in record {
      skip = skips_one s ∙ sym (ap skip_of (front-at agent r (If c p q) is));
      block = blocks_one b ∙ sym (ap block_of (fronted-by agent r (If c p q) is));
    }

    pub conc_fore : r ≡ prog.Conc p q → h.skip ≡ (f.skip && g.skip) → h.block ≡ (f.block || g.block) → IsFore agent r h
    conc_fore e s b = let is : out-Prog r ≡ Conc p q = ap out-Prog e ∙ prog.outs-Conc p q in record {
      skip = skips_both s ∙ sym (ap skip_of (front-at agent r (Conc p q) is));
      block = blocks_one b ∙ sym (ap block_of (fronted-by agent r (Conc p q) is));
    }

    pub prio_fore : r ≡ prog.Prio p q → h.skip ≡ (f.skip && g.skip) → h.block ≡ (f.block || g.block) → IsFore agent r h
    prio_fore e s b = let is : out-Prog r ≡ Prio p q = ap out-Prog e ∙ prog.outs-Prio p q in record {
      skip = skips_both s ∙ sym (ap skip_of (front-at agent r (Prio p q) is));
      block = blocks_one b ∙ sym (ap block_of (fronted-by agent r (Prio p q) is));
    }

    -- where the first part may be skipped, both stand at the front
    pub seq_fore : r ≡ prog.Seq p q → f.skip ≡ true → h.skip ≡ (f.skip && g.skip) → h.block ≡ (f.block || g.block) → IsFore agent r h
    seq_fore e first s b =
        let is : out-Prog r ≡ Seq p q = ap out-Prog e ∙ prog.outs-Seq p q in
        let t = ap skip_of (front-alike agent (front_blocks agent) p) ∙ sym one.skip ∙ first in
        record {
          skip = skips_both s ∙ sym (ap skip_of (front-at agent r (Seq p q) is));
          block = blocks_one b ∙ through (has_front_block agent p) _ (has_front_block agent q) t ∙ sym (ap block_of (fronted-by agent r (Seq p q) is));
        }

  -- where it may not, it stands there alone
  pub seq_barred : (p q : Prog) (f : Fore) → IsFore agent p f → f.skip ≡ false → IsFore agent (prog.Seq p q) f
  seq_barred p q f one first =
      let is = prog.outs-Seq p q in
      let s : (front agent p).skip ≡ false = sym one.skip ∙ first in
      let t = ap skip_of (front-alike agent (front_blocks agent) p) ∙ s in
      record {
        skip = first ∙ sym (ap skip_of (front-at agent (prog.Seq p q) (Seq p q) is) ∙ ap (λ z. z && (front agent q).skip) s);
        block = one.block ∙ barred (has_front_block agent p) _ (has_front_block agent q) t ∙ sym (ap block_of (fronted-by agent (prog.Seq p q) (Seq p q) is));
      }

  module _ (r p : Prog) (f h : Fore) (part : IsFore agent p f) where
    pub pick_fore : (x sort : ℕ) → r ≡ prog.Pick x sort p → h.skip ≡ f.skip → h.block ≡ f.block → IsFore agent r h
    pick_fore x sort e s b = let is : out-Prog r ≡ Pick x sort p = ap out-Prog e ∙ prog.outs-Pick x sort p in record {
      skip = s ∙ part.skip ∙ sym (ap skip_of (front-at agent r (Pick x sort p) is));
      block = b ∙ part.block ∙ sym (ap block_of (fronted-by agent r (Pick x sort p) is));
    }

    pub star_fore : r ≡ prog.Star p → h.skip ≡ true → h.block ≡ f.block → IsFore agent r h
    star_fore e s b = let is : out-Prog r ≡ Star p = ap out-Prog e ∙ prog.outs-Star p in record {
      skip = s ∙ sym (ap skip_of (front-at agent r (Star p) is));
      block = b ∙ part.block ∙ sym (ap block_of (fronted-by agent r (Star p) is));
    }

    pub cstar_fore : r ≡ prog.Cstar p → h.skip ≡ true → h.block ≡ f.block → IsFore agent r h
    cstar_fore e s b = let is : out-Prog r ≡ Cstar p = ap out-Prog e ∙ prog.outs-Cstar p in record {
      skip = s ∙ sym (ap skip_of (front-at agent r (Cstar p) is));
      block = b ∙ part.block ∙ sym (ap block_of (fronted-by agent r (Cstar p) is));
    }

    pub while_fore : (c : Cond) → r ≡ prog.While c p → h.skip ≡ true → h.block ≡ f.block → IsFore agent r h
    while_fore c e s b = let is : out-Prog r ≡ While c p = ap out-Prog e ∙ prog.outs-While c p in record {
      skip = s ∙ sym (ap skip_of (front-at agent r (While c p) is));
      block = b ∙ part.block ∙ sym (ap block_of (fronted-by agent r (While c p) is));
    }

    pub search_fore : (depth fuel : ℕ) → r ≡ prog.Search depth fuel p → h.skip ≡ f.skip → h.block ≡ true → IsFore agent r h
    search_fore depth fuel e s b = let is : out-Prog r ≡ Search depth fuel p = ap out-Prog e ∙ prog.outs-Search depth fuel p in record {
      skip = s ∙ part.skip ∙ sym (ap skip_of (front-at agent r (Search depth fuel p) is));
      block = b ∙ sym (ap block_of (fronted-by agent r (Search depth fuel p) is));
    }

    pub follow_fore : (depth fuel : ℕ) (rest : List Way) → r ≡ prog.Follow depth fuel p rest → h.skip ≡ f.skip → h.block ≡ true → IsFore agent r h
    follow_fore depth fuel rest e s b = let is : out-Prog r ≡ Follow depth fuel p rest = ap out-Prog e ∙ prog.outs-Follow depth fuel p rest in record {
      skip = s ∙ part.skip ∙ sym (ap skip_of (front-at agent r (Follow depth fuel p rest) is));
      block = b ∙ sym (ap block_of (fronted-by agent r (Follow depth fuel p rest) is));
    }

  pub call_fore : (r : Prog) (item : ℕ) (args : List Arg) (f : Fore) → r ≡ prog.Call item args → IsCallFore agent item f → IsFore agent r f
  call_fore r item args f e h = let is : out-Prog r ≡ Call item args = ap out-Prog e ∙ prog.outs-Call item args in record {
    skip = h.skip ∙ sym (ap skip_of (front-at agent r (Call item args) is));
    block = h.block ∙ sym (ap block_of (fronted-by agent r (Call item args) is));
  }

  abbrev height : Prog → ℕ
  height p = (front agent p).height

  abbrev height_of : Front → ℕ
  height_of f = f.height

  -- a walk comes down to the parts at the front
  pub choice_low : (r p q : Prog) → r ≡ prog.Choice p q → 2 + 3 * max (height p) (height q) < 1 + 3 * height r
  choice_low r p q e = let h = ap height_of (front-at agent r (Choice p q) (ap out-Prog e ∙ prog.outs-Choice p q)) in omega arith

  pub if_low : (c : Cond) (r p q : Prog) → r ≡ prog.If c p q → 2 + 3 * max (height p) (height q) < 1 + 3 * height r
  if_low c r p q e = let h = ap height_of (front-at agent r (If c p q) (ap out-Prog e ∙ prog.outs-If c p q)) in omega arith

  pub conc_low : (r p q : Prog) → r ≡ prog.Conc p q → 2 + 3 * max (height p) (height q) < 1 + 3 * height r
  conc_low r p q e = let h = ap height_of (front-at agent r (Conc p q) (ap out-Prog e ∙ prog.outs-Conc p q)) in omega arith

  pub prio_low : (r p q : Prog) → r ≡ prog.Prio p q → 2 + 3 * max (height p) (height q) < 1 + 3 * height r
  prio_low r p q e = let h = ap height_of (front-at agent r (Prio p q) (ap out-Prog e ∙ prog.outs-Prio p q)) in omega arith

  pub pick_low : (x sort : ℕ) (r p : Prog) → r ≡ prog.Pick x sort p → 1 + 3 * height p < 1 + 3 * height r
  pick_low x sort r p e = let h = ap height_of (front-at agent r (Pick x sort p) (ap out-Prog e ∙ prog.outs-Pick x sort p)) in omega arith

  pub star_low : (r p : Prog) → r ≡ prog.Star p → 1 + 3 * height p < 1 + 3 * height r
  star_low r p e = let h = ap height_of (front-at agent r (Star p) (ap out-Prog e ∙ prog.outs-Star p)) in omega arith

  pub cstar_low : (r p : Prog) → r ≡ prog.Cstar p → 1 + 3 * height p < 1 + 3 * height r
  cstar_low r p e = let h = ap height_of (front-at agent r (Cstar p) (ap out-Prog e ∙ prog.outs-Cstar p)) in omega arith

  pub while_low : (c : Cond) (r p : Prog) → r ≡ prog.While c p → 1 + 3 * height p < 1 + 3 * height r
  while_low c r p e = let h = ap height_of (front-at agent r (While c p) (ap out-Prog e ∙ prog.outs-While c p)) in omega arith

  pub search_low : (depth fuel : ℕ) (r p : Prog) → r ≡ prog.Search depth fuel p → 1 + 3 * height p < 1 + 3 * height r
  search_low depth fuel r p e = let h = ap height_of (front-at agent r (Search depth fuel p) (ap out-Prog e ∙ prog.outs-Search depth fuel p)) in omega arith

  pub follow_low : (depth fuel : ℕ) (rest : List Way) (r p : Prog) → r ≡ prog.Follow depth fuel p rest → 1 + 3 * height p < 1 + 3 * height r
  follow_low depth fuel rest r p e = let h = ap height_of (front-at agent r (Follow depth fuel p rest) (ap out-Prog e ∙ prog.outs-Follow depth fuel p rest)) in omega arith

  pub call_low : (r : Prog) (item : ℕ) (args : List Arg) → r ≡ prog.Call item args → 2 + 3 * (front_at (proc_fronts agent) item).height < 1 + 3 * height r
  call_low r item args e = let h = ap height_of (front-at agent r (Call item args) (ap out-Prog e ∙ prog.outs-Call item args)) in omega arith

  pub seq_low : (p q : Prog) → 1 + 3 * height p < 3 * height (prog.Seq p q)
  seq_low p q =
      let h : height (prog.Seq p q) ≡ 1 + max (height p) (if (front agent p).skip then height q else 0) = ap height_of (front-at agent (prog.Seq p q) (Seq p q) (prog.outs-Seq p q)) in
      omega arith

  pub second_low : (p q : Prog) → (front agent p).skip ≡ true → 1 + 3 * height q < 3 * height (prog.Seq p q)
  second_low p q s =
      let h : height (prog.Seq p q) ≡ 1 + max (height p) (if (front agent p).skip then height q else 0) = ap height_of (front-at agent (prog.Seq p q) (Seq p q) (prog.outs-Seq p q)) in
      let d : height (prog.Seq p q) ≡ 1 + max (height p) (height q) = h ∙ (rw s refl) in
      omega arith

  -- a procedure begins with its body
  pub front_in_body : IsGuarded agent → (item : ℕ) (proc : ProcItem) → slice_get agent.procs item ≡ Some proc → front agent proc.body ≡ front_at (proc_fronts agent) item
  front_in_body g item proc e = ap (λ (o : Option ProcItem). front agent (body_with o [])) (sym e) ∙ (bodies agent [] Must g).front_is item []

  front_in_none : IsGuarded agent → (item : ℕ) → slice_get agent.procs item ≡ None → front_at (proc_fronts agent) item ≡ leaf true
  front_in_none g item e =
      sym ((bodies agent [] Must g).front_is item []) ∙ ap (λ (o : Option ProcItem). front agent (body_with o [])) e
      ∙ front-at agent prog.Nil Nil prog.outs-Nil

  pub body_fore : IsGuarded agent → (item : ℕ) (proc : ProcItem) (f : Fore) → slice_get agent.procs item ≡ Some proc → IsFore agent proc.body f → IsCallFore agent item f
  body_fore g item proc f e h = record {
    skip = h.skip ∙ ap skip_of (front_in_body g item proc e);
    block = h.block ∙ sym (block_in_body agent item proc e);
  }

  pub none_fore : IsGuarded agent → (item : ℕ) (f : Fore) → slice_get agent.procs item ≡ None → f.skip ≡ true → f.block ≡ false → IsCallFore agent item f
  none_fore g item f e s b = record {
    skip = s ∙ sym (ap skip_of (front_in_none g item e));
    block = b ∙ sym (block_in_none agent item e);
  }
