use Rattle.std.proofs.Common.{rules}
use Rattle.babel_dump.proofs.AskedLaws.{other_family}
use Rattle.babel_dump.proofs.asked_pairs.pair.Goals as goal

pub returns-else-eq-clause-none : goal.returns-else-eq-clause-none
returns-else-eq-clause-none c =
    other_family c.args.dst.now c.args.src.now c.in_ok-dst.dst c.in_ok-src.src c.in_ok-dst.ensures.some.1 c.in_ok-src.ensures.some.1 (λ same. search rules)
