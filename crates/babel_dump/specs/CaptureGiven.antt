-- What readers gave, as captures. No RFC speaks of readers: these are this project's own.
use Rattle.std.specs.Prelude.{ℕ, Bool, true, false, ◌≡◌, ◌⊎◌, if◌then◌else◌, List, ◌++◌, length}
use Rattle.std.specs.Prelude.{Option, None, Some}
use Rattle.babel_capture.specs.Blocks.{AreBlocks, BlockAt, IsPartial, context_behind, octets_of}
use Rattle.babel_capture.specs.Blocks.{sightings_of, sightings_to_end, start}
use Rattle.babel_capture.specs.Capture.{EndsLost, EndsShort, HasRead, IsReadToCut, State}
use Rattle.babel_capture.specs.Counts.{Made}
use Rattle.babel_capture.specs.Gathering.{AreMade, Gathering}
use Rattle.babel_capture.specs.Passage.{Sighting}
use Rattle.babel_capture.specs.Reading.{HasTaken, Stops}
use Rattle.babel_capture.specs.Window.{Extent, moment_up_to}
use Rattle.babel_capture.specs.declared.fault.Fault.{Fault}
use Rattle.babel_capture.specs.declared.fault.Fault.TheVariants as faults
use Rattle.babel_capture.specs.declared.timing.Timing.{Timing}
use Rattle.babel_capture.specs.declared.wanted.Wanted.{Wanted}
use Rattle.babel_dump.specs.Device.{Gave, GaveOctets, InputState}
use Rattle.babel_dump.specs.LeftOut.{LeavesNoneOut, first_left_out}
use Rattle.babel_dump.specs.declared.capture_input.CaptureRead.{CaptureRead}
use Rattle.babel_dump.specs.declared.capture_reading.CaptureReading.{CaptureReading}
use Rattle.babel_dump.specs.declared.left_out.LeftOutDatagram.{LeftOutDatagram}

-- a reader of a capture that is read so, of which these datagrams are wanted, before a run and
-- after it
pub record CaptureInput : Type 0 where
  pub reading : CaptureReading
  pub wanted : Wanted
  pub old : InputState
  pub new : InputState

abbrev pub capture_from : InputState → InputState → CaptureReading → Wanted → CaptureInput
capture_from old new reading wanted =
    record { reading = reading; wanted = wanted; old = old; new = new }

-- the reader gave these octets, all that it had, and met its end
abbrev pub GaveWhole : CaptureInput → List ℕ → Type 0
GaveWhole reader = GaveOctets reader.old reader.new

-- how much of the capture is read
abbrev pub extent_of : CaptureReading → Extent
extent_of reading =
    record { octets = reading.limit; window = reading.window; to_cut = reading.accept_cut }

-- a capture that was read to its end is not cut short there, unless that is accepted
abbrev pub IsAccepted : (accept_cut : Bool) → (cut : Option ℕ) → Type 0
IsAccepted accept_cut cut = accept_cut ≡ false → cut ≡ None

-- The reader gave a capture, all that it had, and this is what the packets of it give, of the
-- wanted datagrams. Where a cut is accepted, its last block may be cut short, or its end may be a
-- record without octets, and this is where.
pub record GaveCapture (reader : CaptureInput) (gathering : Gathering) (cut : Option ℕ) :
    Type 0 where
  pub octets : List ℕ
  pub gave : GaveWhole reader octets
  pub is_read : IsReadToCut (extent_of reader.reading) octets gathering cut
  pub accepted : IsAccepted reader.reading.accept_cut cut
  pub wanted : gathering.wanted ≡ reader.wanted

-- what is made of its packets, and the moment up to which they were read: none where one has no time
abbrev pub made_in : {reader : CaptureInput} {gathering : Gathering} {cut : Option ℕ}
    → GaveCapture reader gathering cut → List Made
made_in gave = gave.is_read.is_read.gathered.made

abbrev pub moment_of : Extent → List BlockAt → Timing → Option ℕ
moment_of extent blocks timing =
    if timing.has_untimed then None
    else moment_up_to extent.window (context_behind (start extent) blocks).start timing.latest

abbrev pub moment_in : {reader : CaptureInput} {gathering : Gathering} {cut : Option ℕ}
    → GaveCapture reader gathering cut → Option ℕ
moment_in {reader} {gathering} gave =
    moment_of (extent_of reader.reading) gave.is_read.is_read.blocks gathering.report.timing

-- ---- what a sink took

-- a sink took these packets
abbrev pub Took : {S : Type 0} → (has : S → S → List Made → Type 0) → (old new : S) → List Made
    → Type 0
Took {S} has old new made =
    (first : S) (before : List Made) → has first old before → has first new (before ++ made)

-- the octets begin with blocks of a capture, and this is made of what is seen at their packets, of
-- the first of it
pub record BeginsWith (reading : CaptureReading) (wanted : Wanted) (octets : List ℕ)
    (made : List Made) : Type 0 where
  pub blocks : List BlockAt
  pub rest : List ℕ
  pub whole : octets ≡ octets_of blocks ++ rest
  pub are_blocks : AreBlocks (start (extent_of reading)) 0 blocks
  pub front : List Sighting
  pub back : List Sighting
  pub parts : sightings_of blocks ≡ front ++ back
  pub are_made : AreMade wanted front made

-- the octets are blocks of a capture and then less than one, and this is made of what is seen at their
-- packets and at their end, of the first of it
pub record IsMadeToEnd (reading : CaptureReading) (wanted : Wanted) (octets : List ℕ)
    (made : List Made) : Type 0 where
  pub blocks : List BlockAt
  pub rest : List ℕ
  pub whole : octets ≡ octets_of blocks ++ rest
  pub are_blocks : AreBlocks (start (extent_of reading)) 0 blocks
  pub partial : IsPartial (context_behind (start (extent_of reading)) blocks)
      (length (octets_of blocks)) rest
  pub front : List Sighting
  pub back : List Sighting
  pub parts : sightings_to_end blocks ≡ front ++ back
  pub are_made : AreMade wanted front made

-- the packets of blocks with which the octets begin that the reader gave
pub record TookSome {S : Type 0} (has : S → S → List Made → Type 0) (old new : S)
    (reader : CaptureInput) : Type 0 where
  pub given : List ℕ
  pub gave : Gave reader.old reader.new given
  pub made : List Made
  pub begins : BeginsWith reader.reading reader.wanted given made
  pub took : Took has old new made

-- the reader gave such a capture, of which no wanted datagram was left out if it is read strictly
pub record GaveSound (reader : CaptureInput) (gathering : Gathering) (cut : Option ℕ) : Type 0 where
  pub given : GaveCapture reader gathering cut
  pub strict : reader.reading.strict ≡ true → LeavesNoneOut gathering.report

-- the reader gave such a capture, which is read strictly, and this datagram is the first that was
-- left out
pub record GaveLeftOut (reader : CaptureInput) (datagram : LeftOutDatagram) : Type 0 where
  pub gathering : Gathering
  pub cut : Option ℕ
  pub given : GaveCapture reader gathering cut
  pub strict : reader.reading.strict ≡ true
  pub first : first_left_out gathering.report ≡ Some datagram

-- the octets, all that the reader had, end before the first block is whole; or, where no cut is
-- accepted, within a later one
pub record EndsTooSoon (reader : CaptureInput) (octets : List ℕ) (fault : Fault) : Type 0 where
  pub all : GaveWhole reader octets
  pub short : EndsShort (extent_of reader.reading) reader.wanted octets fault
  pub not_accepted : reader.reading.accept_cut ≡ true → fault ≡ faults.NotCapture

-- the octets, all that the reader had, end where fragments of a datagram are missing, which is
-- refused
pub record EndsIncomplete (reader : CaptureInput) (octets : List ℕ) (fault : Fault) : Type 0 where
  pub all : GaveWhole reader octets
  pub lost : EndsLost (extent_of reader.reading) reader.wanted octets fault

-- the fault is that of the octets that the reader gave, however they go on; or they end too soon, or
-- where fragments are missing
pub record IsFaultOfCapture (reader : CaptureInput) (fault : Fault) : Type 0 where
  pub given : List ℕ
  pub gave : Gave reader.old reader.new given
  pub refused :
      Stops (extent_of reader.reading) reader.wanted given fault
      ⊎ EndsTooSoon reader given fault
      ⊎ EndsIncomplete reader given fault

-- what a reader of captures was fed is what the device gave, all that it had, and a sink took the
-- packets of it
pub record IsFedWhole {S : Type 0} (has : S → S → List Made → Type 0) (old new : S)
    (capture : State) (reader : CaptureInput) : Type 0 where
  pub given : List ℕ
  pub fed : HasRead capture given
  pub gave : GaveWhole reader given
  pub taken : HasTaken capture.limit capture.progress capture.pending given
  pub took : Took has old new taken.leads.gathered.made

-- what was read of a capture, and a sink took the packets of it
pub record GaveRead {S : Type 0} (has : S → S → List Made → Type 0) (old new : S)
    (reader : CaptureInput) (read : CaptureRead) : Type 0 where
  pub gave : GaveSound reader read.gathered read.cut
  pub moment_is : read.moment ≡ moment_in gave.given
  pub took : Took has old new (made_in gave.given)
