-- What the sink has is what the one between has, which is still lent the same.
use Rattle.std.proofs.Common.{rules}
use Rattle.std.proofs.lemmas.Result.{on_err_weaker, on_ok_weaker}
use Rattle.babel_canon.proofs.SinkLaws.{unpacked_put, unpacked_stops}
use Rattle.babel_canon.proofs.pairs.CanonicalPairs.put.Goals as goal

pub returns-clause-ok : goal.returns-clause-ok
returns-clause-ok g c =
    let grids = c.self.inside.grids in
    on_ok_weaker c.put_boxes.result
    (λ put. unpacked_put g.S.PairSink.has g.S.PairSink.has c.self.inside.values grids.v4.boxes grids.v6.boxes c.args.self _ _ _ _ c.self.view_is (search rules) put) c.put_boxes.ensures.ok

pub returns-clause-err : goal.returns-clause-err
returns-clause-err g c =
    let grids = c.self.inside.grids in
    on_err_weaker c.put_boxes.result (λ stops.
    unpacked_stops g.S.PairSink.has g.S.PairSink.stopped c.self.inside.values grids.v4.boxes grids.v6.boxes c.args.self _ _ _ _ c.self.view_is (search rules) stops) c.put_boxes.ensures.err
