-- The tables are those of the packets that were read, and each fault has its cause.
use Rattle.std.proofs.Common.{◌≡◌, ◌∙◌, None, Some, false, rules, subst, sym, true}
use Rattle.std.proofs.lemmas.Result.{err_from_is_err_and}
use Rattle.babel_capture.specs.Blocks.{sightings_to_end}
use Rattle.babel_capture.specs.Counts.{Counts}
use Rattle.babel_dump.specs.CaptureGiven.{made_in}
use Rattle.babel_dump.specs.CaptureRun.{CaptureCause, IsNoFault}
use Rattle.babel_dump.specs.Device.{InputState}
use Rattle.babel_dump.specs.LeftOut.{first_unmissed}
use Rattle.babel_dump.specs.EachSender.{SendersCause, each_from}
use Rattle.babel_dump.specs.declared.input_fault.InputFault.{InputFault}
use Rattle.babel_dump.specs.declared.input_fault.InputFault.TheVariants as input_faults
use Rattle.babel_dump.specs.declared.each_sender.EachSender.{EachSender}
use Rattle.babel_dump.proofs.OwnTables.{own_all}
use Rattle.babel_dump.proofs.WholePackets.{whole_made}
use Rattle.babel_dump.proofs.each_sender.EachSender.gather.Goals as goal
use Rattle.babel_dump.proofs.each_sender.EachSender.gather.Goals.{in_default-via-in-Some+else-self, in_default-via-in_default}

not_both : true ≡ false → ⊥
not_both is = let bad : true ≡ false = is in cc

-- of what a capture is refused for, that a datagram was left out is not, since it is read so
refused : (each : EachSender) (old new : InputState) (fault : InputFault) → CaptureCause (each_from each old new) IsNoFault fault → SendersCause each (each_from each old new) fault
refused each old new (input_faults.Dump fault) cause = cause
refused each old new (input_faults.Ignored tlv ignores_4) cause = cause
refused each old new (input_faults.Capture fault) cause = cause
refused each old new (input_faults.LeftOut datagram) cause = absurd (let bad : false ≡ true = cause.strict in cc)
refused each old new input_faults.NoUpdates cause = cause
refused each old new (input_faults.SeveralInterfaces interfaces) cause = cause
refused each old new (input_faults.NoPackets absence) cause = cause
refused each old new input_faults.Read cause = cause

pub returns-in_default : goal.returns-in_default
returns-in_default g c =
    let read = rw (c.capture_reading-how.ensures, c.everyone.ensures) at c.in_ok-read.ensures.made in
    let is = read.gave.given.is_read.is_read in
    let made = made_in read.gave.given in
    record {
      made = record {
        gave = read.gave;
        strict = λ strict. subst (λ (r : Counts). first_unmissed c.args.self.now.accept_missing r ≡ None) c.report.ensures (sym c.first_unmissed.ensures ∙ elim c.in_default.branch [
          | in_default-via-in-Some+else-self w ↦ absurd (not_both (sym strict ∙ w.if-self.false))
          | in_default-via-in_default w ↦ search rules
        ]);
        moment_is = read.moment_is;
        whole = whole_made c.in_ok-read.read.gathered.wanted (sightings_to_end is.blocks) made is.gathered.taken.are_made;
        are_own = own_all c.args.self.now c.new-senders.result c.read_capture-read.new.sink made c.new-senders.ensures.each c.new-senders.ensures.none read.took c.if-senders.false;
      };
      cause = tt;
      called = search rules;
    }

pub returns-in-Some : goal.returns-in-Some
returns-in-Some g c =
    let read = rw (c.capture_reading-how.ensures, c.everyone.ensures) at c.in_ok-read.ensures.made in
    record {
      made = tt;
      cause = (
        c.if-self.true,
        (
          c.in_ok-read.read.gathered,
          c.in_ok-read.read.cut,
          read.gave.given,
          subst (λ (r : Counts). first_unmissed c.args.self.now.accept_missing r ≡ Some c.in-Some.datagram) c.report.ensures (sym c.first_unmissed.ensures ∙ c.in-Some.is),
        ),
      );
      called = search rules;
    }

pub returns-in_err-read : goal.returns-in_err-read
returns-in_err-read g c =
    let exit = err_from_is_err_and c.from_residual.result c.from_residual.ensures.1 in
    let cause = rw (c.capture_reading-how.ensures, c.everyone.ensures) at c.in_err-read.ensures.cause in
    record {
      made = search rules;
      cause = rw (exit.1, exit.2) (refused c.args.self.now (g.R.ByteIn.state c.args.reader.now) (g.R.ByteIn.state c.read_capture-read.new.reader) c.in_err-read.field-0.0 cause);
      called = search rules;
    }
