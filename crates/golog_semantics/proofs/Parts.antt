-- The front of a program, by its parts.
use Rattle.std.proofs.Common.{◌≡◌, ℕ, [], ap, ◌∙◌}
use Rattle.golog_tree.specs.declared.agent.Agent.{Agent}
use Rattle.golog_tree.specs.declared.prog.Prog.{Prog}
use Rattle.golog_tree.specs.declared.prog.Way.{Way}
use Rattle.golog_tree.specs.declared.prog.Prog.TheOpen.{Prog-F}
use Rattle.golog_tree.specs.declared.prog.Prog.TheViews.{out-Prog}
use Rattle.golog_tree.specs.declared.prog.Prog.TheFolds.{fold-Way, map-Prog}
use Rattle.golog_tree.specs.Tidy.{Layer}
use Rattle.golog_semantics.specs.declared.Mode.TheVariants.{Must}
use Rattle.golog_semantics.specs.Program.{put_arg}
use Rattle.golog_semantics.specs.Guarded.{Front, front, front_step, no_front, proc_fronts}
use Rattle.golog_semantics.proofs.Settled.{front-out, put-same}

abbrev fronts_in : Agent → Layer → Prog-F Front Front
fronts_in agent l = map-Prog Prog Way Front Front (front agent) (fold-Way Front Front (front_step (proc_fronts agent)) (λ w. no_front)) l

pub front-at : (agent : Agent) (p : Prog) (l : Layer) → out-Prog p ≡ l → front agent p ≡ front_step (proc_fronts agent) (fronts_in agent l)
front-at agent p l e = front-out agent [] Must p ∙ ap (λ k. front_step (proc_fronts agent) (fronts_in agent k)) e

pub front-put_arg : (agent : Agent) (p : Prog) (x c : ℕ) → front agent (put_arg p x c) ≡ front agent p
front-put_arg agent p x c = put-same agent [] Must p x c
