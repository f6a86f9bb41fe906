use Rattle.std.proofs.Common.{rules, ◌≡◌, ◌+◌, ◌≤◌, length, map, sym, arith}
use Rattle.std.proofs.lemmas.List.{take_all}
use Rattle.std.proofs.lemmas.Result.{IfOk-weaker}
use Rattle.golog_par.specs.Parts.{IsJoined}
use Rattle.golog_par.proofs.Joining.{joined-whole, part_of_rest}
use Rattle.golog_par.proofs.chunks.+fn-in_parts-join+arg3+in_parts.Goals as goal

pub work-requires : goal.work-requires
work-requires g t c =
    c.requires.accepts c.args.items 0 (length c.args.items.now) (sym (take_all (length c.args.items.now) c.args.items.now (omega arith)))

pub join-done-requires-after_bounds : goal.join-done-requires-after_bounds
join-done-requires-after_bounds g t c κs within =
    let kept = c.requires.accepts in (
      kept c.split_at.result.0 0 c.args.size c.split_at.ensures.front,
      (
        search rules,
        (
          (λ a h. h),
          (
            (λ a h. h),
            (
              (λ a h. h),
              (
                (λ a h. h),
                (
                  (
                    search rules,
                    search rules,
                    search rules,
                    c.requires.size,
                    λ part from many is. kept part (c.args.size + from) many (part_of_rest c.args.size c.args.items.now c.split_at.result.1.now part.now from many c.split_at.ensures.back is),
                  ),
                  search rules,
                ),
              ),
            ),
          ),
        ),
      ),
    )

pub returns : goal.returns
returns g t c gives post =
    IfOk-weaker c.joined.result (IsJoined _ _) (λ all. all ≡ map gives c.args.items.now)
    (λ all is. joined-whole gives _ _ c.args.size c.args.items.now _ _ all c.split_at.ensures.front c.split_at.ensures.back
    (post _ _ c.join-done.ensures.first) (c.join-done.ensures.second gives post) is)
    c.joined.ensures
