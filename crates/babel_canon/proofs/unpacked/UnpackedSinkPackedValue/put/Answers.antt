-- The pair of the row comes after those of the earlier ones.
use Rattle.std.proofs.Common.{◌≡◌, refl, rules}
use Rattle.std.proofs.lemmas.Result.{on_err_weaker, on_ok_weaker}
use Rattle.babel_tlv.specs.Pair.{Pair}
use Rattle.babel_canon.specs.Sinks.{numbered_pair}
use Rattle.babel_canon.proofs.SinkLaws.{unpacked_more}
use Rattle.babel_canon.proofs.unpacked.UnpackedSinkPackedValue.put.Goals as goal

pub returns-clause-ok : goal.returns-clause-ok
returns-clause-ok g c =
    let pair : Pair = (c.unwrap-key.result, c.value.result) in
    let is : pair ≡ numbered_pair c.args.self.now.values.now.list.items c.args.row = search rules in
    on_ok_weaker c.put.result (λ more start rows so. unpacked_more g.S.PairSink.has g.S.PairSink.has start.values.now.list.items
    c.args.self.now.values.now.list.items start.out c.args.self.now.out _ rows c.args.row pair refl is more so) c.put.ensures.ok

pub returns-clause-err : goal.returns-clause-err
returns-clause-err g c =
    let pair : Pair = (c.unwrap-key.result, c.value.result) in
    let is : pair ≡ numbered_pair c.args.self.now.values.now.list.items c.args.row = search rules in
    on_err_weaker c.put.result (λ more start rows so. unpacked_more g.S.PairSink.has g.S.PairSink.stopped start.values.now.list.items
    c.args.self.now.values.now.list.items start.out c.args.self.now.out _ rows c.args.row pair refl is more so) c.put.ensures.err
