use Rattle.golog_check.proofs.checking.least.Goals as goal

pub returns : goal.returns
returns c = λ names theory program parts.
    let sums = c.least_of-sums.ensures _ _ parts.fluent_sum parts.action_sum in
    let starts = c.least_of-starts.ensures _ _ sums parts.starts.least in
    let poss = c.least_of-poss.ensures _ _ starts parts.poss.least in
    let causes = c.least_of-causes.ensures _ _ poss parts.causes.least in
    let senses = c.least_of-senses.ensures _ _ causes parts.senses.least in
    let procs = c.least_of-procs.ensures _ _ senses parts.procs.least in
    let fronts = c.least_of-fronts.ensures _ _ procs parts.fronts in
    let blocks = c.least_of-blocks.ensures _ _ fronts parts.blocks in
    c.least_of.ensures _ _ blocks parts.main.least
