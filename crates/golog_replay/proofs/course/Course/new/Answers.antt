use Rattle.golog_replay.proofs.course.Course.new.Goals as goal

pub returns : goal.returns
returns c = record {
  formed = c.requires;
  standing = c.in_ok-standing.ensures;
  values_so = c.in_ok-state.ensures.values;
  sorts = c.in_ok-state.ensures.sorts;
  left_so = c.in_ok-left.ensures;
}
