use Rattle.std.proofs.Common.{◌≡◌, false, true}
use Rattle.babel_dump.proofs.AnySourceLaws.{later, not_here}
use Rattle.babel_dump.proofs.any_source.source_to_tell.Goals as goal

pub loop-key-preserved : goal.loop-key-preserved
loop-key-preserved c =
    let next = c.in-Some.ensures.steps in record {
      all = λ has. not_here _ _ _ _ next (λ is. let both : false ≡ true = c.if-is_source_specific.ensures.1 is in absurd cc) (c.loop-key.invariant.all has);
      among = λ has. c.loop-key.invariant.among (later _ _ _ _ next has);
    }
