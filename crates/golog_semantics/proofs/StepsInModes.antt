-- The steps in one mode among those in another.
use Rattle.std.proofs.Common.{◌≡◌, ℕ, true, ◌||◌, List, [], refl, sym, ap, ◌∙◌}
use Rattle.std.specs.Prelude.{⊤, not, filter}
use Rattle.golog_tree.specs.declared.agent.Agent.{Agent}
use Rattle.golog_tree.specs.declared.prog.Prog.{Prog}
use Rattle.golog_tree.specs.declared.prog.Prog.TheOpen.{Nil, Act, Test, Seq, Choice, Pick, Star, If, While, Conc, Prio, Cstar, Call, Search, Follow}
use Rattle.golog_tree.specs.declared.prog.Prog.TheViews.{out-Prog}
use Rattle.golog_tree.specs.declared.prog.Prog.TheVariants as prog
use Rattle.golog_tree.specs.declared.prog.Way.{Way}
use Rattle.golog_tree.specs.Tidy.{Layer}
use Rattle.golog_semantics.specs.declared.Mode.TheVariants.{Must, May, Near}
use Rattle.golog_semantics.specs.declared.search.Move.{Move}
use Rattle.golog_semantics.specs.Truth.{Values}
use Rattle.golog_semantics.specs.Values.{after}
use Rattle.golog_semantics.specs.Ways.{is_empty, moves_to, plain_move}
use Rattle.golog_semantics.specs.Search.{no_blocks, is_followed, plain_ways}
use Rattle.golog_semantics.specs.Moves.{plain_moves}
use Rattle.golog_semantics.specs.Blocks.{begins_run, block_moves, leaves_unseen, may_succeed, moves}
use Rattle.golog_semantics.specs.Guarded.{front}
use Rattle.golog_semantics.specs.Sublist.{IsSublist}
use Rattle.golog_semantics.specs.ModeLaws.{EndsAreOrdered, PlainStepsAreOrdered}
use Rattle.golog_semantics.proofs.FrontParts.{AtFront, Claim, GoesOn, anything}
use Rattle.golog_semantics.proofs.ModesOrdered.{final-may_near, final-more, may_near, must_near, near_may}
use Rattle.golog_semantics.proofs.StepsOrdered.{Order, like_more, must_near_more}
use Rattle.golog_semantics.proofs.Sublists.{sublist-refl, sublist-append, sublist-map, sublist-empty, sublist-both, sublist-filter}
use Rattle.golog_semantics.proofs.Tests.{or_first}

pub sublist_order : Order IsSublist
sublist_order = record {
  none = λ us. tt;
  same = sublist-refl;
  joined = sublist-append;
  within = λ context us vs h. sublist-map (λ (m : Move). record { label = m.label; left = context m.left; run = m.run }) us vs h;
  empties = sublist-empty;
}

-- any block
abbrev pub any_block : Claim
any_block = anything (λ depth fuel p rest. ⊤)

any_front : (agent : Agent) (l : Layer) → AtFront agent any_block l
any_front agent Nil = tt
any_front agent (Act action args) = tt
any_front agent (Test c) = tt
any_front agent (Seq p q) = (tt, tt)
any_front agent (Choice p q) = (tt, tt)
any_front agent (Pick x sort p) = λ c l. tt
any_front agent (Star p) = tt
any_front agent (If c p q) = (tt, tt)
any_front agent (While c p) = tt
any_front agent (Conc p q) = (tt, tt)
any_front agent (Prio p q) = (tt, tt)
any_front agent (Cstar p) = tt
any_front agent (Call item args) = tt
any_front agent (Search depth fuel p) = tt
any_front agent (Follow depth fuel p rest) = tt

pub any_goes : (agent : Agent) → GoesOn agent any_block
any_goes agent = record { parts = λ p h. any_front agent (out-Prog p) }

module _ (agent : Agent) (values : Values) where
  plain-near_may : (n : ℕ) (p : Prog) → IsSublist (moves_to agent values no_blocks n Near p) (moves_to agent values no_blocks n May p)
  plain-near_may n p = like_more IsSublist sublist_order agent values no_blocks any_block (any_goes agent) Near May near_may refl (λ depth fuel q rest h. tt) n p tt

  plain-may_near : (n : ℕ) (p : Prog) → IsSublist (moves_to agent values no_blocks n May p) (moves_to agent values no_blocks n Near p)
  plain-may_near n p = like_more IsSublist sublist_order agent values no_blocks any_block (any_goes agent) May Near may_near refl (λ depth fuel q rest h. tt) n p tt

  plain-same : (n : ℕ) (p : Prog) → moves_to agent values no_blocks n Near p ≡ moves_to agent values no_blocks n May p
  plain-same n p = sublist-both (moves_to agent values no_blocks n Near p) (moves_to agent values no_blocks n May p) (plain-near_may n p) (plain-may_near n p)

  pub plain-must_near : (n : ℕ) (p : Prog) → IsSublist (moves_to agent values no_blocks n Must p) (moves_to agent values no_blocks n Near p)
  plain-must_near n p =
      must_near_more IsSublist sublist_order agent values no_blocks any_block (any_goes agent)
      (λ k q h e. ap is_empty (plain-same k q) ∙ e) (λ depth fuel q rest h. tt) n p tt

  pub plain_steps-ordered : (p : Prog) → PlainStepsAreOrdered agent values p
  unfolding plain_moves
  plain_steps-ordered p = record { certain_are_near = plain-must_near (front agent p).height p; near_are_possible = plain-same (front agent p).height p }

  pub ends-ordered : (p : Prog) → EndsAreOrdered agent values p
  ends-ordered p = record { certain_is_near = final-more agent values Must Near must_near p; near_is_possible = sym (final-may_near agent values p) }

  -- the near steps of a block are possible ones
  pub blocks-near_may : (depth fuel : ℕ) (body : Prog) (rest : List Way) → IsSublist (block_moves agent values Near depth fuel body rest) (block_moves agent values May depth fuel body rest)
  blocks-near_may depth fuel body rest =
      sublist-map (λ (w : Way). plain_move w.label (prog.Follow depth fuel w.left []))
      (filter (begins_run agent values depth) (plain_ways agent values Near body)) (filter (may_succeed agent values depth) (plain_ways agent values Near body))
      (sublist-filter (begins_run agent values depth) (may_succeed agent values depth)
      (λ w e. or_first (begins_run agent values depth w || not (is_followed w)) (leaves_unseen agent depth w (after agent values w.label)) (or_first (begins_run agent values depth w) (not (is_followed w)) e))
      (plain_ways agent values Near body))

  pub steps-near_may : (n : ℕ) (p : Prog) → IsSublist (moves_to agent values (block_moves agent values) n Near p) (moves_to agent values (block_moves agent values) n May p)
  steps-near_may n p =
      like_more IsSublist sublist_order agent values (block_moves agent values) any_block (any_goes agent) Near May near_may refl
      (λ depth fuel q rest h. blocks-near_may depth fuel q rest) n p tt

  pub near_steps-possible : (p : Prog) → IsSublist (moves agent values Near p) (moves agent values May p)
  unfolding moves
  near_steps-possible p = steps-near_may (front agent p).height p

  pub no_possible_no_near : (p : Prog) → is_empty (moves agent values May p) ≡ true → is_empty (moves agent values Near p) ≡ true
  no_possible_no_near p h = sublist-empty (moves agent values Near p) (moves agent values May p) (near_steps-possible p) h
