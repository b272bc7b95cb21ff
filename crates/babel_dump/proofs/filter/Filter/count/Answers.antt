use Rattle.std.proofs.Common.{arith}
use Rattle.babel_dump.proofs.FilterLaws.{fits}
use Rattle.babel_dump.proofs.filter.Filter.count.Goals as goal

pub overflow_add-count : goal.overflow_add-count
overflow_add-count c =
    let before = c.loop-key.invariant in
    omega (arith, before.counted, fits c.args.self.now _ c.loop-key.yielded _ _ _ before.whole c.in-Some.ensures.steps before.few)
