-- What readers gave, as dumps. No RFC speaks of readers: these are this project's own.
use Rattle.std.specs.Prelude.{ℕ, ◌≡◌, ◌≢◌, ◌^◌, max, Bool, false, true, List, length}
use Rattle.std.specs.Prelude.{Option, None, Some}
use Rattle.babel_prefix.specs.Address.{Address}
use Rattle.babel_capture.specs.Capture.{IsReadToCut}
use Rattle.babel_capture.specs.Counts.{Made}
use Rattle.babel_capture.specs.Gathering.{Gathering}
use Rattle.babel_capture.specs.declared.wanted.Wanted.{Wanted}
use Rattle.babel_capture.specs.declared.window.Window.TheVariants as windows
use Rattle.babel_tlv.specs.declared.fault.Fault.{Fault}
use Rattle.babel_tlv.specs.declared.fault.Fault.TheVariants as faults
use Rattle.babel_tlv.specs.declared.mode.Mode.{Mode}
use Rattle.babel_table.specs.declared.feeder.TheConstants.{USUAL_SEED}
use Rattle.babel_table.specs.Bounds.{Bounds}
use Rattle.babel_table.specs.Moments.{IsTableAt, dump_of as dump_heard}
use Rattle.babel_table.specs.TableOf.{IsTableOf}
use Rattle.babel_table.specs.DumpFault.{DumpFault, HasNoFault}
use Rattle.babel_table.specs.Rows.{Routes}
use Rattle.babel_dump.specs.CaptureGiven.{BeginsWith, CaptureInput, GaveCapture, capture_from}
use Rattle.babel_dump.specs.CaptureGiven.{IsAccepted, extent_of, made_in, moment_in}
use Rattle.babel_dump.specs.Device.{Gave, GaveOctets, InputState}
use Rattle.babel_dump.specs.LeftOut.{first_left_out}
use Rattle.babel_dump.specs.Packets.{packets_made}
use Rattle.babel_dump.specs.Strict.{IsNotReadWhole, IsReadWhole}
use Rattle.babel_dump.specs.declared.capture_reading.CaptureReading.{CaptureReading}
use Rattle.babel_dump.specs.declared.input.Expired.{Expired}
use Rattle.babel_dump.specs.declared.input_fault.InputFault.{InputFault}
use Rattle.babel_dump.specs.declared.left_out.LeftOutDatagram.{LeftOutDatagram}
use Rattle.babel_dump.specs.declared.reading.Reading.{Reading}

-- a reader, before a run and after it
pub record Reads : Type 0 where
  pub old : InputState
  pub new : InputState

abbrev pub reads : InputState → InputState → Reads
reads old new = record { old = old; new = new }

-- a reader of a dump that is read so, or of a capture that has it, before a run and after it
pub record Input : Type 0 where
  pub reading : Reading
  pub old : InputState
  pub new : InputState

abbrev pub read_from : InputState → InputState → Reading → Input
read_from old new reading = record { reading = reading; old = old; new = new }

abbrev pub dump_of : Reads → Reading → Input
dump_of reader reading = read_from reader.old reader.new reading

-- a dump whose TLVs may be ignored
abbrev pub usual_reading : Bounds → Mode → Address → Reading
usual_reading limits mode sender = record {
  limits = limits;
  mode = mode;
  sender = sender;
  is_capture = false;
  seed = USUAL_SEED;
  place = None;
  window = windows.Whole;
  time_option = None;
  expiry = None;
  accept_cut = false;
  accept_missing = false;
  strict = false;
}

-- a reader of such a dump, which is no capture
abbrev pub input : Bounds → Mode → Address → InputState → InputState → Input
input limits mode sender old new = read_from old new (usual_reading limits mode sender)

-- the reader gave these octets, all that it had, and met its end
abbrev pub GaveAll : Input → List ℕ → Type 0
GaveAll reader = GaveOctets reader.old reader.new

-- a capture may have 2^30 octets, or as many as its dump if that is more
abbrev pub capture_limit : ℕ → ℕ
capture_limit dump = max (2 ^ 30) dump

-- how a capture is read for the dump in it, and whose packets of it are that: those of its sender,
-- at its place if one is named
abbrev pub capture_reading_of : Reading → CaptureReading
capture_reading_of reading = record {
  limit = capture_limit reading.limits.bytes;
  window = reading.window;
  accept_cut = reading.accept_cut;
  accept_missing = reading.accept_missing;
  strict = reading.strict;
}

abbrev pub wanted_by : Reading → Wanted
wanted_by reading = record {
  sender = Some reading.sender;
  place = reading.place;
  are_listed = true;
  accepts_missing = reading.accept_missing;
}

-- a reader of a dump, as one of a capture that has it
abbrev pub capture_with : Input → CaptureInput
capture_with reader = capture_from reader.old reader.new (capture_reading_of reader.reading)
    (wanted_by reader.reading)

-- what is left out of a table: what was not said again within so many ten-millionths of its
-- Interval at this moment, where that is asked and there is a moment
abbrev pub expired : (factor moment : Option ℕ) → Option Expired
expired (Some factor) (Some moment) = Some (record { factor = factor; moment = moment })
expired factor moment = None

-- the table of these packets, each with its time, without what is left out of it
abbrev pub IsTableRead : Option Expired → Reading → (packets : List (ℕ × List ℕ)) → Routes → Type 0
IsTableRead None reading packets =
    IsTableOf reading.limits reading.mode reading.sender (dump_heard packets)
IsTableRead (Some at) reading packets =
    IsTableAt reading.limits reading.mode reading.sender packets at.factor at.moment

-- What is read as a dump: its octets, the first datagram that was left out of them, and what is
-- left out of its table.
pub record Dump : Type 0 where
  pub octets : List ℕ
  pub left_out : Option LeftOutDatagram
  pub at : Option Expired

-- the octets that a reader gave, all that it had, are the dump, with this table
pub record IsStream (reader : Input) (dump : Dump) (table : Routes) : Type 0 where
  pub gave : GaveAll reader dump.octets
  pub none_left_out : dump.left_out ≡ None
  pub whole : dump.at ≡ None
  pub is_table :
      IsTableOf reader.reading.limits reader.reading.mode reader.reading.sender dump.octets table

-- They are a capture, in which the sender's packets are the dump, and it sent at one place. The
-- table is that of these packets with their times, at the moment up to which the capture was read.
pub record IsCaptured (reader : Input) (dump : Dump) (table : Routes) : Type 0 where
  pub gathering : Gathering
  pub cut : Option ℕ
  pub gave : GaveCapture (capture_with reader) gathering cut
  pub one_place : length gathering.senders ≡ 1
  pub octets_are : dump.octets ≡ dump_heard (packets_made (made_in gave))
  pub left_out_is : dump.left_out ≡ first_left_out gathering.report
  pub at_is : dump.at ≡ expired reader.reading.expiry (moment_in gave)
  pub is_table : IsTableRead dump.at reader.reading (packets_made (made_in gave)) table

-- of whichever the octets are
abbrev pub IsDump : (is_capture : Bool) → Input → Dump → Routes → Type 0
IsDump false = IsStream
IsDump true = IsCaptured

-- the reader gave a dump, which has no fault, and this is the table of that dump, without what is
-- left out of it
pub record GaveDump (reader : Input) (table : Routes) : Type 0 where
  pub dump : Dump
  pub is_dump : IsDump reader.reading.is_capture reader dump table
  pub accepted :
      HasNoFault reader.reading.limits reader.reading.mode reader.reading.sender dump.octets

-- the reader gave such a dump, of which nothing was left unread if it is read strictly
pub record GaveTable (reader : Input) (table : Routes) : Type 0 where
  pub given : GaveDump reader table
  pub strict : reader.reading.strict ≡ true → IsReadWhole given.dump.left_out table.report

-- the reader gave such a dump, which is read strictly and refused with this fault
pub record GaveUnread (reader : Input) (fault : InputFault) : Type 0 where
  pub table : Routes
  pub given : GaveDump reader table
  pub strict : reader.reading.strict ≡ true
  pub unread : IsNotReadWhole given.dump.left_out table.report fault

-- only a whole dump has the fault: octets may mend it, or it is about what all octets say
abbrev pub IsOfWhole : Fault → Type 0
IsOfWhole (faults.Truncated at) = Unit {0}
IsOfWhole faults.TooManyPairs = Unit {0}
IsOfWhole fault = ⊥

-- The fault is that of the octets that the reader gave: of all that it had, where only a whole dump
-- has it. That canonical pairs are too many is no fault of octets.
pub record IsFaultOfStream (reader : Input) (fault : Fault) : Type 0 where
  pub given : List ℕ
  pub gave : Gave reader.old reader.new given
  pub refused :
      DumpFault reader.reading.limits reader.reading.mode reader.reading.sender given fault
  pub whole : IsOfWhole fault → GaveAll reader given
  pub not_pairs : fault ≢ faults.TooManyPairs

-- the fault is that of packets of the sender, end to end, which are those of the blocks of a
-- capture with which the octets begin
pub record IsFaultInCapture (reading : Reading) (octets : List ℕ) (fault : Fault) : Type 0 where
  pub made : List Made
  pub begins : BeginsWith (capture_reading_of reading) (wanted_by reading) octets made
  pub refused : DumpFault reading.limits reading.mode reading.sender
      (dump_heard (packets_made made)) fault
  pub not_whole : ¬ IsOfWhole fault

-- where the octets are a capture, the sender is at one place in it
abbrev pub IsAtOnePlace : Reading → List ℕ → Type 0
IsAtOnePlace reading octets =
    (gathering : Gathering) (cut : Option ℕ)
    → IsReadToCut (extent_of (capture_reading_of reading)) octets gathering cut
    → gathering.wanted ≡ wanted_by reading → IsAccepted reading.accept_cut cut
    → length gathering.senders ≡ 1

-- it is that of the octets that the reader gave; and of all that it had this holds
pub record IsFaultOfCaptured (reader : Input) (fault : Fault) : Type 0 where
  pub given : List ℕ
  pub gave : Gave reader.old reader.new given
  pub is_fault : IsFaultInCapture reader.reading given fault
  pub at_one : (octets : List ℕ) → reader.old.left ≡ Some octets
      → IsAtOnePlace reader.reading octets

abbrev pub IsFaultOfInput : (is_capture : Bool) → Input → Fault → Type 0
IsFaultOfInput false = IsFaultOfStream
IsFaultOfInput true = IsFaultOfCaptured

abbrev pub IsFaultOfGiven : Input → Fault → Type 0
IsFaultOfGiven reader = IsFaultOfInput reader.reading.is_capture reader
