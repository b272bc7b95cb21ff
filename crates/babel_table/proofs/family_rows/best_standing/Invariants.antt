-- The best row of those so far.
use Rattle.std.proofs.Common.{take}
use Rattle.babel_table.specs.Compact.{address_in}
use Rattle.babel_table.proofs.StandingLaws.{IsBestSaid}
use Rattle.babel_table.proofs.family_rows.best_standing.Given as goal

abbrev pub invariant-loop-key : goal.invariant-loop-key
invariant-loop-key g l =
    IsBestSaid l.wipes (take l.key-index l.rows) (address_in g.W.Word.family (g.W.Word.number l.dst)) (address_in g.W.Word.family (g.W.Word.number l.src)) l.best
