-- What is held alike is passed over.
use Rattle.std.proofs.Common.{ap, arith, length, sym, ◌∙◌}
use Rattle.babel_canon.proofs.DifferingRows.{alike_passed}
use Rattle.babel_canon.proofs.JoinedRows.{kept_first, kept_later}
use Rattle.babel_canon.proofs.differing_routes.RouteDifferencesIterator.next.Goals as goal

pub returns-then-differ-clause-steps : goal.returns-then-differ-clause-steps
returns-then-differ-clause-steps c = sym c.loop-key.invariant ∙ kept_first _ _ _ c.in-Some.ensures (sym c.differ.ensures ∙ c.if-differ.true)

pub returns-then-differ-clause-goes : goal.returns-then-differ-clause-goes
returns-then-differ-clause-goes c =
    let fewer = ap length (returns-then-differ-clause-steps c) in
    record { on = λ finite. (tt, tt, omega (arith, fewer)); keeps = tt; rests = λ finite. tt }

pub loop-key-preserved : goal.loop-key-preserved
loop-key-preserved c = kept_later _ _ _ c.in-Some.ensures (sym c.differ.ensures ∙ c.if-differ.false) ∙ c.loop-key.invariant

pub loop-key-init : goal.loop-key-init
loop-key-init c = alike_passed _ _ _ _ c.pass_alike.ensures.0 c.pass_alike.ensures.1 c.pass_alike.ensures.2
