-- Putting a constant in changes neither whether a program is skipped nor its height.
use Rattle.std.proofs.Common.{◌≡◌, List, refl}
use Rattle.golog_tree.specs.declared.prog.Prog.{Prog}
use Rattle.golog_tree.specs.Substitute.{Put, prog_put}
use Rattle.golog_semantics.specs.Guarded.{Front, front_by, front_step, no_front}
use Rattle.golog_semantics.proofs.PutByParts.{IgnoresPut, fold-put}

module _ (procs : List Front) where
  ignores : IgnoresPut Front Front (front_step procs) (λ w. no_front)
  ignores = record {
    act_same = λ action args put. refl;
    test_same = λ c put. refl;
    if_same = λ c put a b. refl;
    while_same = λ c put a. refl;
    call_same = λ item args put. refl;
  }

  pub front-put : (p : Prog) (put : Put) → front_by procs (prog_put p put) ≡ front_by procs p
  front-put = fold-put Front Front (front_step procs) (λ w. no_front) ignores
