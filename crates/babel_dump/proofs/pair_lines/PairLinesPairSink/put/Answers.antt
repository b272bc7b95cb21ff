-- The line of the pair, if it is kept, comes after those of the earlier ones.
use Rattle.std.proofs.Common.{refl}
use Rattle.std.proofs.lemmas.Result.{on_err_weaker, on_ok_weaker}
use Rattle.babel_dump.proofs.PairLineLaws.{err_front, ok_front, one_more_line, stopped_at_line}
use Rattle.babel_dump.proofs.pair_lines.PairLinesPairSink.put.Goals as goal

pub returns-clause-ok : goal.returns-clause-ok
returns-clause-ok g c =
    on_ok_weaker c.write_kept.result
    (λ took start pairs so. one_more_line g.W.ByteOut.state start c.args.self.now _ pairs (c.args.key, c.args.held) refl so refl refl refl refl took)
    (ok_front _ _ _ c.write_kept.result c.write_kept.ensures.front)

pub returns-clause-err : goal.returns-clause-err
returns-clause-err g c =
    on_err_weaker c.write_kept.result
    (λ broke start pairs so. stopped_at_line g.W.ByteOut.state start c.args.self.now _ pairs (c.args.key, c.args.held) refl so broke)
    (err_front _ _ _ c.write_kept.result c.write_kept.ensures.front)
