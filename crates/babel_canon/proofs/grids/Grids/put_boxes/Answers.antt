-- The boxes of IPv4 are the first of all of them.
use Rattle.std.proofs.Common.{◌++◌, map, subst}
use Rattle.std.proofs.lemmas.Result.{err_from_is_err_and}
use Rattle.babel_prefix.specs.declared.family.Family.{Family}
use Rattle.babel_prefix.specs.declared.family.Family.TheVariants.{V4, V6}
use Rattle.babel_trie.specs.Nested.{entry_at}
use Rattle.babel_trie.specs.Sinks.{StopsAmong}
use Rattle.babel_trie.proofs.PutLaws.{stops_early, stops_late}
use Rattle.babel_canon.proofs.grids.Grids.put_boxes.Goals as goal

pub returns-in_err-put_boxes-clause-err : goal.returns-in_err-put_boxes-clause-err
returns-in_err-put_boxes-clause-err g c =
    let v4 = c.args.self.v4.boxes in
    let exit = err_from_is_err_and c.from_residual.result c.from_residual.ensures.1 in
    rw exit.1 (λ start rows has.
    let Stopped = g.S.Sink.stopped start c.put_boxes.new.out in
    stops_early Stopped rows (map (entry_at V4) v4) (map (entry_at V6) c.args.self.v6.boxes)
    (subst (λ (f : Family). StopsAmong Stopped rows (map (entry_at f) v4)) c.requires.v4 (c.in_err-put_boxes.ensures.err start rows has)))

pub returns-in_err-put_boxes-2-clause-err : goal.returns-in_err-put_boxes-2-clause-err
returns-in_err-put_boxes-2-clause-err g c =
    let v4 = c.args.self.v4.boxes in
    let v6 = c.args.self.v6.boxes in
    let exit = err_from_is_err_and c.from_residual-in_err-put_boxes-2.result c.from_residual-in_err-put_boxes-2.ensures.1 in
    rw exit.1 (λ start rows has.
    let Stopped = g.S.Sink.stopped start c.put_boxes-2.new.out in
    let earlier = rows ++ map (entry_at V4) v4 in
    stops_late Stopped rows (map (entry_at V4) v4) (map (entry_at V6) v6)
    (subst (λ (f : Family). StopsAmong Stopped earlier (map (entry_at f) v6)) c.requires.v6
    (c.in_err-put_boxes-2.ensures.err start earlier
    (subst (λ (f : Family). g.S.Sink.has start c.put_boxes.new.out (rows ++ map (entry_at f) v4)) c.requires.v4 (c.in_ok-put_boxes.ensures.ok start rows has)))))
