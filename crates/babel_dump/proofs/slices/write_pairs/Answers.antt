-- What was written by way of the sink was written by the writer, which the sink was still lent.
use Rattle.std.proofs.Common.{rules}
use Rattle.std.proofs.lemmas.Result.{on_err_weaker, on_ok_weaker}
use Rattle.babel_dump.proofs.PairLineLaws.{broke_lines, by_result, wrote_lines}
use Rattle.babel_dump.proofs.slices.write_pairs.Goals as goal

pub returns : goal.returns
returns g c =
    let state = g.W.ByteOut.state in
    let new = c.put.new.out in
    let all = c.args.pairs in
    by_result _ _ c.put.result
    (on_ok_weaker c.put.result (λ put. wrote_lines state _ new all _ _ put c.requires.empty (search rules) (search rules)) c.put.ensures.ok)
    (on_err_weaker c.put.result (λ stops. broke_lines state _ new all _ stops c.requires.empty (search rules)) c.put.ensures.err)
