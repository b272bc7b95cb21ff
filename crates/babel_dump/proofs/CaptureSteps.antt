-- What comes of the octets of a capture: one thing, or one fault.
use Rattle.std.proofs.Common.{◌≡◌, refl, ℕ, List, [], ◌++◌, append-nil, Option, None, Some, Result, Ok, Err, ap, sym, ◌∙◌, inl, subst}
use Rattle.babel_capture.proofs.OneCapture.{cut_capture_is_one, same_blocks}
use Rattle.babel_capture.specs.Blocks.{BlockAt}
use Rattle.babel_capture.specs.Capture.{IsReadToCut}
use Rattle.babel_capture.specs.Counts.{Made}
use Rattle.babel_capture.specs.Gathering.{Gathering}
use Rattle.babel_capture.specs.declared.wanted.Wanted.{Wanted}
use Rattle.babel_dump.proofs.FirstLeftOut.{none_is_first_left_out}
use Rattle.babel_dump.proofs.Steps.{Always, always_one, Checked, checked_one, IsOne, Then, then_one}
use Rattle.babel_dump.specs.CaptureGiven.{CaptureInput, extent_of, GaveCapture, GaveSound, made_in, moment_in, moment_of}
use Rattle.babel_dump.specs.CaptureRun.{CaptureCause}
use Rattle.babel_dump.specs.LeftOut.{first_left_out, LeavesNoneOut}
use Rattle.babel_dump.specs.OneOutcome.{IsOfDump}
use Rattle.babel_dump.specs.declared.capture_reading.CaptureReading.{CaptureReading}
use Rattle.babel_dump.specs.declared.input_fault.InputFault.TheVariants as input_faults
use Rattle.babel_dump.specs.declared.input_fault.InputFault.{InputFault}
use Rattle.babel_dump.specs.declared.interfaces.Interfaces.{Interfaces}
use Rattle.babel_dump.specs.declared.left_out.LeftOutDatagram.{LeftOutDatagram}
use Rattle.std.specs.Io.KnownBytes.{Consumes, IsAtEnd}

-- the octets that a reader gave are the first of those that it had
pub begins : (old new : Option (List ℕ)) (had given : List ℕ) → old ≡ Some had → Consumes old new given → (rest : List ℕ) × (had ≡ given ++ rest)
begins None new had given has gave = absurd cc
begins (Some xs) None had given has gave = absurd gave
begins (Some xs) (Some ys) had given has gave = (ys, cc)

-- at its end they are all
pub all_of : (old new : Option (List ℕ)) (had given : List ℕ) → old ≡ Some had → Consumes old new given → IsAtEnd new → given ≡ had
all_of None new had given has gave end = absurd cc
all_of (Some xs) None had given has gave end = absurd gave
all_of (Some xs) (Some ys) had given has gave end =
    let joined : xs ≡ given ++ [] = rw end at gave in
    let whole = append-nil given in
    cc

-- what is read of a capture: what its packets give, where it is cut, what is made of each, and the moment up to which they were read
pub record Read : Type 0 where
  pub gathering : Gathering
  pub cut : Option ℕ
  pub made : List Made
  pub moment : Option ℕ

-- the octets are a capture of which this is read
pub record IsReadOf (reading : CaptureReading) (wanted : Wanted) (octets : List ℕ) (read : Read) : Type 0 where
  pub is_read : IsReadToCut (extent_of reading) octets read.gathering read.cut
  pub wanted_is : read.gathering.wanted ≡ wanted
  pub made_is : read.made ≡ is_read.is_read.gathered.made
  pub moment_is : read.moment ≡ moment_of (extent_of reading) is_read.is_read.blocks read.gathering.report.timing

one_read : (one two : Read) → one.gathering ≡ two.gathering → one.cut ≡ two.cut → one.made ≡ two.made → one.moment ≡ two.moment → one ≡ two
one_read one two gathering cut made moment =
    let of : Gathering → Option ℕ → List Made → Option ℕ → Read = λ g c m t. record { gathering = g; cut = c; made = m; moment = t } in
    let same : of one.gathering one.cut one.made one.moment ≡ of two.gathering two.cut two.made two.moment = cc in same

pub read_one : (reading : CaptureReading) (wanted : Wanted) (octets : List ℕ) (one two : Read) → IsReadOf reading wanted octets one → IsReadOf reading wanted octets two → one ≡ two
read_one reading wanted octets one two is is_too =
    let (gatherings, cuts, made) =
    cut_capture_is_one (extent_of reading) octets one.gathering two.gathering one.cut two.cut is.is_read is_too.is_read (is.wanted_is ∙ sym is_too.wanted_is) in
    let blocks = (same_blocks (extent_of reading) octets one.gathering two.gathering one.cut two.cut is.is_read is_too.is_read).0 in
    let moments : one.moment ≡ two.moment =
    is.moment_is ∙ ap (λ (bs : List BlockAt). moment_of (extent_of reading) bs one.gathering.report.timing) blocks
    ∙ ap (λ (g : Gathering). moment_of (extent_of reading) is_too.is_read.is_read.blocks g.report.timing) gatherings ∙ sym is_too.moment_is in
    one_read one two gatherings cuts (is.made_is ∙ made ∙ sym is_too.made_is) moments

-- where it is read strictly, the first datagram that was left out is its fault
abbrev pub IsLeftOut : Read → InputFault → Type 0
IsLeftOut read fault = (datagram : LeftOutDatagram) × (fault ≡ input_faults.LeftOut datagram) × (first_left_out read.gathering.report ≡ Some datagram)

abbrev pub CaptureComes : CaptureReading → Wanted → List ℕ → Result Read InputFault → Type 0
CaptureComes reading wanted octets = Then (Always (IsReadOf reading wanted octets)) (λ read. Checked read reading.strict (LeavesNoneOut read.gathering.report) (IsLeftOut read))

left_one : (read : Read) (fault too : InputFault) → IsLeftOut read fault → IsLeftOut read too → fault ≡ too
left_one read fault too (datagram, is, first) (other, is_too, first_too) = let same : Some datagram ≡ Some other = sym first ∙ first_too in cc

none_left : (read : Read) (fault : InputFault) → LeavesNoneOut read.gathering.report → IsLeftOut read fault → ⊥
none_left read fault none (datagram, is, first) = let never : None ≡ Some datagram = sym (none_is_first_left_out read.gathering.report none) ∙ first in absurd cc

pub capture_one : (reading : CaptureReading) (wanted : Wanted) (octets : List ℕ) → IsOne (CaptureComes reading wanted octets)
capture_one reading wanted octets = then_one (always_one (read_one reading wanted octets)) (λ read. checked_one read reading.strict (none_left read) (left_one read))

-- what a reader gave of it
abbrev pub read_of : {reader : CaptureInput} {gathering : Gathering} {cut : Option ℕ} → GaveCapture reader gathering cut → Read
read_of {reader} {gathering} {cut} gave = record { gathering = gathering; cut = cut; made = made_in gave; moment = moment_in gave }

pub is_read_of : (reader : CaptureInput) (octets : List ℕ) (gathering : Gathering) (cut : Option ℕ) → reader.old.left ≡ Some octets → (gave : GaveCapture reader gathering cut)
    → IsReadOf reader.reading reader.wanted octets (read_of gave)
is_read_of reader octets gathering cut has gave =
    subst (λ (o : List ℕ). IsReadOf reader.reading reader.wanted o (read_of gave)) (all_of reader.old.left reader.new.left octets gave.octets has gave.gave.gave gave.gave.all)
    (record { is_read = gave.is_read; wanted_is = gave.wanted; made_is = refl; moment_is = refl })

pub gathering_comes : (reader : CaptureInput) (octets : List ℕ) (gathering : Gathering) (cut : Option ℕ) → reader.old.left ≡ Some octets → (gave : GaveSound reader gathering cut)
    → CaptureComes reader.reading reader.wanted octets (Ok (read_of gave.given))
gathering_comes reader octets gathering cut has gave = inl (read_of gave.given, is_read_of reader octets gathering cut has gave.given, (refl, gave.strict))

-- of the faults of a capture this is that of what was left out
pub capture_fault : (reader : CaptureInput) (octets : List ℕ) (Several : Interfaces → Type 0) (fault : InputFault) → reader.old.left ≡ Some octets
    → IsOfDump fault → CaptureCause reader Several fault → CaptureComes reader.reading reader.wanted octets (Err fault)
capture_fault reader octets Several (input_faults.Dump fault) has is memory = absurd (is memory)
capture_fault reader octets Several (input_faults.Ignored tlv ignores_4) has is cause = absurd cause
capture_fault reader octets Several (input_faults.Capture fault) has is cause = absurd is
capture_fault reader octets Several (input_faults.LeftOut datagram) has is cause =
    inl (read_of cause.given, is_read_of reader octets cause.gathering cause.cut has cause.given, (cause.strict, (datagram, refl, cause.first)))
capture_fault reader octets Several input_faults.NoUpdates has is cause = absurd cause
capture_fault reader octets Several (input_faults.SeveralInterfaces interfaces) has is cause = absurd is
capture_fault reader octets Several (input_faults.NoPackets absence) has is cause = absurd is
capture_fault reader octets Several input_faults.Read has is cause = absurd is
