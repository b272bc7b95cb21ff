use Rattle.std.proofs.Common.{◌≡◌, false, rules}
use Rattle.std.proofs.lemmas.Result.{err_from_is_err_and}
use Rattle.babel_dump.specs.Given.{read_from}
use Rattle.babel_dump.proofs.FedTables.{stream_fed, stream_refused}
use Rattle.babel_dump.proofs.input.read_fed.Goals as goal

pub returns-in_err-feed_all : goal.returns-in_err-feed_all
returns-in_err-feed_all g c =
    let reader = read_from (g.R.ByteIn.state c.args.reader.now) (g.R.ByteIn.state c.feed_all.new.reader) c.args.reading.now in
    let stream : c.args.reading.now.is_capture ≡ false = search rules in
    let exit = err_from_is_err_and c.from_residual-in_err-feed_all.result c.from_residual-in_err-feed_all.ensures.1 in
    rw exit.1 (stream_refused reader c.feed_all.new.feeder stream _ _ exit.2 c.in_err-feed_all.ensures.gathered)

pub returns : goal.returns
returns g c =
    let reader = read_from (g.R.ByteIn.state c.args.reader.now) (g.R.ByteIn.state c.feed_all.new.reader) c.args.reading.now in
    let stream : c.args.reading.now.is_capture ≡ false = search rules in
    let fed = c.in_ok-feed_all.ensures in
    stream_fed reader c.feed_all.new.feeder stream fed.same.0 fed.same.1 fed.same.2 fed.gathered
