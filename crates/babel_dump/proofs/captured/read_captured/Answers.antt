-- What the feeder heard is the dump; or what feeding answered is the fault.
use Rattle.std.proofs.Common.{rules, ◌∙◌, sym, Ok, Err}
use Rattle.std.proofs.lemmas.Result.{err_from_is_err_and}
use Rattle.babel_dump.specs.Given.{read_from}
use Rattle.babel_dump.proofs.CapturedTables.{fed_from, no_room, not_ended, not_fed, refused, was_fed}
use Rattle.babel_dump.proofs.captured.read_captured.Goals as goal

pub returns : goal.returns
returns g c =
    let reader = read_from (g.R.ByteIn.state c.args.reader.now) (g.R.ByteIn.state c.feed_all-fed.new.reader) c.args.reading.now in
    let packets = c.in_ok-packets.ensures in
    let fed = c.in_ok-fed.ensures in
    let is = fed_from reader c.in_ok-packets.packets c.feed_all-fed.new.sink c.feed_all-fed.new.capture (Ok tt) c.of_capture-how.result c.capture_for-capture.result.progress.gathering.wanted
    c.of_capture-how.ensures (c.capture_for-capture.ensures.wanted ∙ c.wanted.ensures) c.requires.capture fed.limit fed.wanted
    (record { heard = packets.heard; limits = packets.made.0; mode = packets.made.1; sender = packets.made.2; factor = packets.factor }) fed.took fed.gathered in
    was_fed reader c.in_ok-packets.packets c.feed_all-fed.new.sink c.feed_all-fed.new.capture c.end_of.new.capture c.end_of.ensures.same.0 c.end_of.ensures.same.1 c.in_ok-fed_by.field-0 c.in_ok-notes.notes is c.in_ok-notes.ensures.ok c.in_ok-fed_by.ensures.feeder
    (search rules) c.in_ok-fed_by.ensures.left_out c.in_ok-fed_by.ensures.notes c.in_ok-fed_by.ensures.noted

pub returns-in-Some : goal.returns-in-Some
returns-in-Some g c =
    let reader = read_from (g.R.ByteIn.state c.args.reader.now) (g.R.ByteIn.state c.feed_all-fed.new.reader) c.args.reading.now in
    let packets = c.in_ok-packets.ensures in
    let fed = c.feed_all-fed.ensures in
    let is = fed_from reader c.in_ok-packets.packets c.feed_all-fed.new.sink c.feed_all-fed.new.capture c.feed_all-fed.result c.of_capture-how.result
    c.capture_for-capture.result.progress.gathering.wanted c.of_capture-how.ensures (c.capture_for-capture.ensures.wanted ∙ c.wanted.ensures) c.requires.capture fed.limit fed.wanted
    (record { heard = packets.heard; limits = packets.made.0; mode = packets.made.1; sender = packets.made.2; factor = packets.factor }) fed.took fed.gathered in
    refused reader c.in_ok-packets.packets c.feed_all-fed.new.sink c.feed_all-fed.new.capture c.dump_refused.new.capture c.feed_all-fed.result c.in-Some.fault c.dump_refused.result is
    (sym c.fault.ensures ∙ c.in-Some.is) c.dump_refused.ensures

pub returns-in_err-fed : goal.returns-in_err-fed
returns-in_err-fed g c =
    let reader = read_from (g.R.ByteIn.state c.args.reader.now) (g.R.ByteIn.state c.feed_all-fed.new.reader) c.args.reading.now in
    let packets = c.in_ok-packets.ensures in
    let fed = c.in_err-fed.ensures in
    let exit = err_from_is_err_and c.from_residual-in_err-fed.result c.from_residual-in_err-fed.ensures.1 in
    let is = fed_from reader c.in_ok-packets.packets c.feed_all-fed.new.sink c.feed_all-fed.new.capture (Err c.in_err-fed.field-0.0) c.of_capture-how.result
    c.capture_for-capture.result.progress.gathering.wanted c.of_capture-how.ensures (c.capture_for-capture.ensures.wanted ∙ c.wanted.ensures) c.requires.capture fed.limit fed.wanted
    (record { heard = packets.heard; limits = packets.made.0; mode = packets.made.1; sender = packets.made.2; factor = packets.factor }) fed.took fed.gathered in
    rw exit.1 (not_fed reader c.in_ok-packets.packets c.feed_all-fed.new.sink c.feed_all-fed.new.capture c.in_err-fed.field-0.0 _ exit.2 is)

pub returns-in_err-notes : goal.returns-in_err-notes
returns-in_err-notes g c =
    let reader = read_from (g.R.ByteIn.state c.args.reader.now) (g.R.ByteIn.state c.feed_all-fed.new.reader) c.args.reading.now in
    let packets = c.in_ok-packets.ensures in
    let fed = c.in_ok-fed.ensures in
    let exit = err_from_is_err_and c.from_residual-in_err-notes.result c.from_residual-in_err-notes.ensures.1 in
    let is = fed_from reader c.in_ok-packets.packets c.feed_all-fed.new.sink c.feed_all-fed.new.capture (Ok tt) c.of_capture-how.result c.capture_for-capture.result.progress.gathering.wanted
    c.of_capture-how.ensures (c.capture_for-capture.ensures.wanted ∙ c.wanted.ensures) c.requires.capture fed.limit fed.wanted
    (record { heard = packets.heard; limits = packets.made.0; mode = packets.made.1; sender = packets.made.2; factor = packets.factor }) fed.took fed.gathered in
    rw (exit.1, exit.2) (not_ended reader c.in_ok-packets.packets c.feed_all-fed.new.sink c.feed_all-fed.new.capture c.end_of.new.capture c.in_err-notes.field-0.0 is c.in_err-notes.ensures.err)

pub returns-in_err-fed_by : goal.returns-in_err-fed_by
returns-in_err-fed_by g c =
    let reader = read_from (g.R.ByteIn.state c.args.reader.now) (g.R.ByteIn.state c.feed_all-fed.new.reader) c.args.reading.now in
    let packets = c.in_ok-packets.ensures in
    let fed = c.in_ok-fed.ensures in
    let exit = err_from_is_err_and c.from_residual-in_err-fed_by.result c.from_residual-in_err-fed_by.ensures.1 in
    let is = fed_from reader c.in_ok-packets.packets c.feed_all-fed.new.sink c.feed_all-fed.new.capture (Ok tt) c.of_capture-how.result c.capture_for-capture.result.progress.gathering.wanted
    c.of_capture-how.ensures (c.capture_for-capture.ensures.wanted ∙ c.wanted.ensures) c.requires.capture fed.limit fed.wanted
    (record { heard = packets.heard; limits = packets.made.0; mode = packets.made.1; sender = packets.made.2; factor = packets.factor }) fed.took fed.gathered in
    rw exit.1 (no_room reader c.in_ok-packets.packets c.feed_all-fed.new.sink c.feed_all-fed.new.capture exit.0 exit.2 is)
