-- All that was read is of the packets that the sink took, and each fault has its cause.
use Rattle.std.proofs.Common.{refl, rules, ◌≡◌, false, true}
use Rattle.std.proofs.lemmas.Result.{err_from_is_err_and}
use Rattle.babel_capture.specs.Blocks.{sightings_to_end}
use Rattle.babel_dump.specs.CaptureGiven.{made_in}
use Rattle.babel_dump.specs.CaptureRun.{CaptureCause, IsNoFault}
use Rattle.babel_dump.specs.Device.{InputState}
use Rattle.babel_dump.specs.EachSender.{each_from}
use Rattle.babel_dump.specs.SelectHeard.{SelectingCause}
use Rattle.babel_dump.specs.declared.input_fault.InputFault.{InputFault}
use Rattle.babel_dump.specs.declared.input_fault.InputFault.TheVariants as input_faults
use Rattle.babel_dump.specs.declared.select_job.Select.{Select}
use Rattle.babel_dump.proofs.SelectHeard.{gave_selecting}
use Rattle.babel_dump.proofs.WholePackets.{whole_made}
use Rattle.babel_dump.proofs.selection_read.SelectionRead.of.Goals as goal

-- of what a capture is refused for, that a datagram was left out is not, since it is read so
refused : (select : Select) (old new : InputState) (fault : InputFault) → CaptureCause (each_from select.each old new) IsNoFault fault → SelectingCause select (each_from select.each old new) fault
refused select old new (input_faults.Dump fault) cause = cause
refused select old new (input_faults.Ignored tlv ignores_4) cause = cause
refused select old new (input_faults.Capture fault) cause = cause
refused select old new (input_faults.LeftOut datagram) cause = absurd (let bad : false ≡ true = cause.strict in cc)
refused select old new input_faults.NoUpdates cause = cause
refused select old new (input_faults.SeveralInterfaces interfaces) cause = cause
refused select old new (input_faults.NoPackets absence) cause = absurd cause
refused select old new input_faults.Read cause = cause

pub returns-clause-gave : goal.returns-clause-gave
returns-clause-gave g c =
    let read = rw (c.capture_reading-how.ensures, c.everyone.ensures) at c.in_ok-read.ensures.made in
    let is = read.gave.given.is_read.is_read in
    let made = made_in read.gave.given in
    let sound : c.has_failed.result ≡ false = search rules in
    gave_selecting c.args.select.now _ c.new-selecting.result c.read_capture-read.new.sink _ read.gave read.moment_is
    (whole_made c.in_ok-read.read.gathered.wanted (sightings_to_end is.blocks) made is.gathered.taken.are_made) read.took
    c.new-selecting.ensures.select c.new-selecting.ensures.each c.new-selecting.ensures.tables c.new-selecting.ensures.ihus c.new-selecting.ensures.sources
    (c.has_failed.ensures.tables sound) (c.has_failed.ensures.links sound) (c.has_failed.ensures.updates sound)
    c.in_ok-refuse_left_out.ensures.none c.in_ok-refuse_silent.ensures.none refl refl refl

pub returns-in_err-read-clause-cause : goal.returns-in_err-read-clause-cause
returns-in_err-read-clause-cause g c =
    let exit = err_from_is_err_and c.from_residual.result c.from_residual.ensures.1 in
    let cause = rw (c.capture_reading-how.ensures, c.everyone.ensures) at c.in_err-read.ensures.cause in
    rw (exit.1, exit.2) (refused c.args.select.now (g.R.ByteIn.state c.args.reader.now) (g.R.ByteIn.state c.read_capture-read.new.reader) c.in_err-read.field-0.0 cause)

pub returns-in_err-refuse_left_out-clause-cause : goal.returns-in_err-refuse_left_out-clause-cause
returns-in_err-refuse_left_out-clause-cause g c =
    let exit = err_from_is_err_and c.from_residual-in_err-refuse_left_out.result c.from_residual-in_err-refuse_left_out.ensures.1 in
    let read = rw (c.capture_reading-how.ensures, c.everyone.ensures) at c.in_ok-read.ensures.made in
    let first = c.in_err-refuse_left_out.ensures.first in
    rw (exit.1, exit.2, first.3) (first.0, (c.in_ok-read.read.gathered, c.in_ok-read.read.cut, read.gave.given, first.2))

pub returns-in_err-refuse_silent-clause-cause : goal.returns-in_err-refuse_silent-clause-cause
returns-in_err-refuse_silent-clause-cause g c =
    let exit = err_from_is_err_and c.from_residual-in_err-refuse_silent.result c.from_residual-in_err-refuse_silent.ensures.1 in
    let read = rw (c.capture_reading-how.ensures, c.everyone.ensures) at c.in_ok-read.ensures.made in
    let first = c.in_err-refuse_silent.ensures.first in
    rw (exit.1, exit.2, first.2) (c.in_ok-read.read.gathered, c.in_ok-read.read.cut, read.gave.given, first.0)
