-- The certain steps of any program are steps of each world, and these may be taken, search blocks included.
use Rattle.std.proofs.Common.{◌≡◌, ℕ, true, [], map, sym, ap, ◌∙◌, subst}
use Rattle.std.specs.Prelude.{Contains}
use Rattle.golog_tree.specs.declared.agent.Agent.{Agent}
use Rattle.golog_tree.specs.declared.prog.Label.{Label}
use Rattle.golog_tree.specs.declared.prog.Prog.{Prog}
use Rattle.golog_tree.specs.declared.prog.Prog.TheVariants as prog
use Rattle.golog_tree.specs.declared.prog.Way.{Way}
use Rattle.golog_semantics.specs.declared.Mode.TheVariants.{Must, May}
use Rattle.golog_semantics.specs.Truth.{Values}
use Rattle.golog_semantics.specs.Ways.{way_of}
use Rattle.golog_semantics.specs.Search.{Run, moves_with}
use Rattle.golog_semantics.specs.Blocks.{block_moves, moves, ways}
use Rattle.golog_semantics.specs.Guarded.{IsGuarded}
use Rattle.golog_semantics.specs.Certain.{CertainIsTrans, KnownIsSo, MayLeave, TransIsPossible}
use Rattle.golog_semantics.specs.Plain.{plain, plain_step, plain_way}
use Rattle.golog_semantics.specs.ProgFits.{fits}
use Rattle.golog_semantics.specs.Trans.{PlainTrans, TransW, block_trans, trans_with}
use Rattle.golog_semantics.specs.WellFormed.{WellFormed}
use Rattle.golog_semantics.specs.World.{Refines}
use Rattle.golog_semantics.proofs.Among.{among-contains, among-map, contains-among, map-among}
use Rattle.golog_semantics.proofs.ByParts as parts
use Rattle.golog_semantics.proofs.ClosedFits.{Closed}
use Rattle.golog_semantics.proofs.LeftFits.{procs_fit}
use Rattle.golog_certain.proofs.BodiesPlain.{bodies_stay, body_plain}
use Rattle.golog_certain.proofs.FittingParts.{fitting, fitting_goes}
use Rattle.golog_semantics.proofs.Known.{known_is_so}
use Rattle.golog_certain.proofs.PlainSteps.{plain_steps_so}
use Rattle.golog_certain.proofs.Viewed.{View, written_plainly}
use Rattle.golog_certain.proofs.WorldRuns.{block_so}
use Rattle.golog_certain.proofs.WorldSearch.{block_possible}
use Rattle.golog_certain.proofs.WorldSteps.{BlocksAreSo, certain_end, certain_so, possible_end, possible_so}
use Rattle.golog_certain.proofs.WrittenLaws.{well_formed_plain}

module _ (agent : Agent) (w : WellFormed agent) where
  abbrev g : IsGuarded agent
  g = w.programs.guarded

  abbrev v : View agent plain
  v = written_plainly agent (well_formed_plain agent w)

  module _ (values world : Values) (r : Refines values world) where
    abbrev known : KnownIsSo agent values world
    known = known_is_so agent values world r

    -- what a step of the world leaves of a body stands within a block
    body_stays : (body : Prog) → Closed agent true body → (label : Label) (left : Prog) → PlainTrans agent world body label left → Closed agent true left
    body_stays body h label left t =
        let s = (plain_steps_so agent g values world r body).possible label left t in
        subst (Closed agent true) s.left_same (bodies_stay agent (procs_fit agent w) values May body h s.step s.among)

    -- what is left of a block, as a block that follows no run
    follow_plain : (depth fuel : ℕ) (left : Prog) (rest : Run) → Closed agent true left → plain (prog.Follow depth fuel left rest) ≡ prog.Search depth fuel left
    follow_plain depth fuel left rest h = parts.fold-follow Prog Way plain_step plain_way depth fuel left rest ∙ ap (prog.Search depth fuel) (body_plain agent left h)

    blocks_so : BlocksAreSo agent g values world known plain v (fitting agent) (block_moves agent values) (block_trans agent world)
    blocks_so = record {
      certain = λ depth fuel body rest x move a.
          let b = block_so agent g values world r depth fuel body rest move (contains-among (block_moves agent values Must depth fuel body rest) move a) in (
            b.next,
            (subst (λ z. PlainTrans agent world z move.label b.next) (sym (body_plain agent body x.1)) b.taken, b.leads),
            ap plain b.left_is ∙ follow_plain depth fuel b.next b.rest (body_stays body x.1 move.label b.next b.taken),
          );
      possible = λ depth fuel body rest x label left k.
          let t = subst (λ z. PlainTrans agent world z label k.0) (body_plain agent body x.1) k.1.0 in
          let s = block_possible agent g values world r depth fuel x.0 body rest label k.0 t k.1.1 in
          record {
            step = s.step;
            among = among-contains (block_moves agent values May depth fuel body rest) s.step s.among;
            label_same = s.label_same;
            left_same = ap plain s.left_same ∙ follow_plain depth fuel k.0 [] (body_stays body x.1 label k.0 t) ∙ sym k.2;
          };
    }

    certain_way : (p : Prog) → fits agent p ≡ true → (way : Way) → Contains (ways agent values Must p) way → TransW agent world (plain p) way.label (plain way.left)
    unfolding moves TransW
    certain_way p h way c =
        let us = moves_with agent (block_moves agent values) values Must p in
        let m = among-map way_of us way (among-contains (map way_of us) way c) in
        subst (λ (z : Way). trans_with agent world (block_trans agent world) (plain p) z.label (plain z.left)) m.1.1
        (certain_so agent g values world known plain v (fitting agent) (block_moves agent values) (block_trans agent world) blocks_so (fitting_goes agent (procs_fit agent w)) p h m.0 m.1.0)

    possible_way : (p : Prog) → fits agent p ≡ true → (label : Label) (left : Prog) → TransW agent world (plain p) label left → MayLeave agent values world p label left
    unfolding moves TransW
    possible_way p h label left t =
        let us = moves_with agent (block_moves agent values) values May p in
        let o = possible_so agent g values world known plain v (fitting agent) (block_moves agent values) (block_trans agent world) blocks_so (fitting_goes agent (procs_fit agent w)) p h label left t in
        record {
          way = way_of o.step;
          among = contains-among (map way_of us) (way_of o.step) (map-among way_of us o.step o.among);
          label_same = o.label_same;
          left_same = o.left_same;
        }

    pub certain_is_trans : (p : Prog) → fits agent p ≡ true → CertainIsTrans agent values world p
    certain_is_trans p h = record {
      steps = certain_way p h;
      ends = certain_end agent g values world known plain v (fitting agent) (block_moves agent values) (block_trans agent world) blocks_so (fitting_goes agent (procs_fit agent w)) p;
    }

    pub trans_is_possible : (p : Prog) → fits agent p ≡ true → TransIsPossible agent values world p
    trans_is_possible p h = record {
      steps = possible_way p h;
      ends = possible_end agent g values world known plain v (fitting agent) (block_moves agent values) (block_trans agent world) blocks_so (fitting_goes agent (procs_fit agent w)) p;
    }
