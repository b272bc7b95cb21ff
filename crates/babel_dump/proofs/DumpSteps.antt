-- What comes of the octets of a dump, or of a capture that has it, and of a text of pairs: one thing, or one fault.
use Rattle.std.proofs.Common.{◌≡◌, ◌≢◌, ◌≤◌, ◌<◌, ◌⊎◌, refl, ℕ, Bool, true, false, List, ◌++◌, length, length-append, append_assoc, Option, None, Some, Result, Ok, Err}
use Rattle.std.proofs.Common.{arith, ap, sym, ◌∙◌, inl, inr, subst}
use Rattle.babel_capture.specs.Blocks.{octets_of}
use Rattle.babel_dump.proofs.AskedLaws.{first_wrong_one, not_wrong}
use Rattle.babel_dump.proofs.CaptureBegins.{dump_made, either_begins, read_begins, whole_begins}
use Rattle.babel_dump.proofs.CaptureSteps.{all_of, begins, is_read_of, IsReadOf, Read, read_of, read_one}
use Rattle.babel_dump.proofs.OneMoment.{table_at_is_one}
use Rattle.babel_dump.proofs.Steps.{Checked, checked_one, IsOne, Then, then_one}
use Rattle.babel_dump.proofs.StrictLaws.{not_whole_one, whole_or_not}
use Rattle.babel_dump.specs.AskedPairs.{AskFor, IsFirstWrong, lines_of}
use Rattle.babel_dump.specs.CaptureGiven.{IsAccepted}
use Rattle.babel_dump.specs.Command.{IsFaultWith, IsOfMemory}
use Rattle.babel_dump.specs.Each.{GavePairsOf, RefusesPairs}
use Rattle.babel_dump.specs.Given.{capture_reading_of, capture_with, Dump, expired, GaveAll, GaveDump, GaveTable, GaveUnread, Input, IsDump, IsFaultInCapture, IsFaultOfGiven, IsFaultOfInput}
use Rattle.babel_dump.specs.Given.{IsOfWhole, IsTableRead, wanted_by}
use Rattle.babel_dump.specs.LeftOut.{first_left_out}
use Rattle.babel_dump.specs.Octets.{HasTable}
use Rattle.babel_dump.specs.OneOutcome.{IsFaultOfOctets, IsOfDump, IsOfOctets}
use Rattle.babel_dump.specs.Packets.{packets_made}
use Rattle.babel_dump.specs.Run.{InputCause}
use Rattle.babel_dump.specs.Strict.{IsNotReadWhole, IsReadWhole}
use Rattle.babel_dump.specs.declared.addr_pair.AddrPair.{AddrPair}
use Rattle.babel_dump.specs.declared.input.Expired.{Expired}
use Rattle.babel_dump.specs.declared.input_fault.InputFault.TheVariants as input_faults
use Rattle.babel_dump.specs.declared.input_fault.InputFault.{InputFault}
use Rattle.babel_dump.specs.declared.left_out.LeftOutDatagram.{LeftOutDatagram}
use Rattle.babel_dump.specs.declared.pairs_fault.PairsFault.TheVariants as pairs_faults
use Rattle.babel_dump.specs.declared.reading.Reading.{Reading}
use Rattle.babel_dump.specs.declared.run_fault.RunFault.TheVariants as run_faults
use Rattle.babel_dump.specs.declared.run_fault.RunFault.{RunFault}
use Rattle.babel_table.proofs.OutcomeLaws.{fault_is_one, fault_stays, table_is_one}
use Rattle.babel_table.specs.DumpFault.{DumpFault, HasNoFault, IsTruncated}
use Rattle.babel_table.specs.Moments.{dump_of}
use Rattle.babel_table.specs.Rows.{Routes}
use Rattle.babel_tlv.specs.declared.fault.Fault.TheVariants as faults
use Rattle.babel_tlv.specs.declared.fault.Fault.{Fault}

gave_all : (reader : Input) (octets given : List ℕ) → reader.old.left ≡ Some octets → GaveAll reader given → given ≡ octets
gave_all reader octets given has gave = all_of reader.old.left reader.new.left octets given has gave.gave gave.all

-- what holds of a fault's octets holds of all, or more octets do not mend it
whole_or_stays : (fault : Fault) → IsOfWhole fault ⊎ (¬ IsTruncated fault)
whole_or_stays (faults.Truncated at) = inl tt
whole_or_stays (faults.BadMagic at) = inr (λ no. no)
whole_or_stays (faults.BadVersion at) = inr (λ no. no)
whole_or_stays (faults.TlvPastEnd at) = inr (λ no. no)
whole_or_stays (faults.EncodingSetsRouterId at) = inr (λ no. no)
whole_or_stays (faults.TooManyRoutes at) = inr (λ no. no)
whole_or_stays faults.TooLong = inr (λ no. no)
whole_or_stays faults.TooManyPairs = inl tt
whole_or_stays faults.Memory = inr (λ no. no)

-- ---- a fault in a capture

-- it stays where what is made of the capture goes on
stays_in : (reading : Reading) (octets dump : List ℕ) (fault : Fault) (is : IsFaultInCapture reading octets fault) → (more : List ℕ) × (dump ≡ dump_made is.made ++ more)
    → DumpFault reading.limits reading.mode reading.sender dump fault
stays_in reading octets dump fault is on = elim (whole_or_stays fault) [
  | inl whole ↦ absurd (is.not_whole whole)
  | inr stays ↦ rw on.1 (fault_stays _ _ _ (dump_made is.made) on.0 fault is.refused stays)
]

fault_in_one : (reading : Reading) (octets : List ℕ) (fault too : Fault) → IsFaultInCapture reading octets fault → IsFaultInCapture reading octets too → fault ≡ too
fault_in_one reading octets fault too is is_too = elim (either_begins (capture_reading_of reading) (wanted_by reading) octets is.made is_too.made is.begins is_too.begins) [
  | inl on ↦ fault_is_one reading.limits reading.mode reading.sender (dump_made is.made) fault too is.refused (stays_in reading octets (dump_made is.made) too is_too on)
  | inr on ↦ fault_is_one reading.limits reading.mode reading.sender (dump_made is_too.made) fault too (stays_in reading octets (dump_made is_too.made) fault is on) is_too.refused
]

-- what is read of a capture to its end
module _ (reading : Reading) (octets : List ℕ) (read : Read) (is : IsReadOf (capture_reading_of reading) (wanted_by reading) octets read) where
  -- and has no fault
  no_fault_in : HasNoFault reading.limits reading.mode reading.sender (dump_made read.made) → (fault : Fault) → IsFaultInCapture reading octets fault → ⊥
  no_fault_in accepted fault has =
      let whole = read_begins (capture_reading_of reading) (wanted_by reading) octets read.gathering read.cut is.wanted_is is.is_read in
      let on = whole_begins (capture_reading_of reading) (wanted_by reading) octets whole.first has.made whole.begins has.begins whole.partial whole.all in
      accepted fault (stays_in reading octets (dump_made read.made) fault has (on.0, ap dump_made is.made_is ∙ ap dump_of whole.packets ∙ on.1))

-- ---- what is read as a dump

-- the first datagram that was left out, and the table
pub record Source : Type 0 where
  pub left_out : Option LeftOutDatagram
  pub table : Routes

-- the octets are a capture that has the dump
pub record IsSourceIn (reading : Reading) (octets : List ℕ) (source : Source) : Type 0 where
  pub read : Read
  pub is_read : IsReadOf (capture_reading_of reading) (wanted_by reading) octets read
  pub one_place : length read.gathering.senders ≡ 1
  pub accepted : HasNoFault reading.limits reading.mode reading.sender (dump_made read.made)
  pub left_out_is : source.left_out ≡ first_left_out read.gathering.report
  pub is_table : IsTableRead (expired reading.expiry read.moment) reading (packets_made read.made) source.table

-- they are one in which the sender is not at one place, and the datagram is the first that was left out
pub record IsLeftOutOf (reading : Reading) (octets : List ℕ) (datagram : LeftOutDatagram) : Type 0 where
  pub read : Read
  pub is_read : IsReadOf (capture_reading_of reading) (wanted_by reading) octets read
  pub accepted : IsAccepted reading.accept_cut read.cut
  pub not_one : length read.gathering.senders ≢ 1
  pub first : first_left_out read.gathering.report ≡ Some datagram

abbrev pub SourceComes : (is_capture : Bool) → Reading → List ℕ → Result Source InputFault → Type 0
SourceComes false reading octets (Ok source) = HasTable reading octets source.table × (source.left_out ≡ None)
SourceComes true reading octets (Ok source) = IsSourceIn reading octets source
SourceComes is_capture reading octets (Err (input_faults.Dump fault)) = IsFaultOfOctets is_capture reading octets fault
SourceComes true reading octets (Err (input_faults.LeftOut datagram)) = IsLeftOutOf reading octets datagram
SourceComes is_capture reading octets (Err fault) = ⊥

one_source : (one two : Source) → one.left_out ≡ two.left_out → one.table ≡ two.table → one ≡ two
one_source one two left_out table =
    let of : Option LeftOutDatagram → Routes → Source = λ l t. record { left_out = l; table = t } in
    let same : of one.left_out one.table ≡ of two.left_out two.table = cc in same

table_read_one : (at : Option Expired) (reading : Reading) (packets : List (ℕ × List ℕ)) (table other : Routes) → IsTableRead at reading packets table → IsTableRead at reading packets other
    → table ≡ other
table_read_one None reading packets table other is is_too = table_is_one _ _ _ _ table other is is_too
table_read_one (Some at) reading packets table other is is_too = table_at_is_one _ _ _ packets at.factor at.moment table other is is_too

source_same : (is_capture : Bool) (reading : Reading) (octets : List ℕ) (one two : Source) → SourceComes is_capture reading octets (Ok one) → SourceComes is_capture reading octets (Ok two)
    → one ≡ two
source_same false reading octets one two (is, none) (is_too, none_too) = one_source one two (none ∙ sym none_too) (table_is_one _ _ _ octets one.table two.table is.is_table is_too.is_table)
source_same true reading octets one two is is_too =
    let reads = read_one _ _ octets is_too.read is.read is_too.is_read is.is_read in
    one_source one two (is.left_out_is ∙ ap (λ (r : Read). first_left_out r.gathering.report) (sym reads) ∙ sym is_too.left_out_is)
    (table_read_one (expired reading.expiry is.read.moment) reading (packets_made is.read.made) one.table two.table is.is_table
    (subst (λ (r : Read). IsTableRead (expired reading.expiry r.moment) reading (packets_made r.made) two.table) reads is_too.is_table))

source_fault : (is_capture : Bool) (reading : Reading) (octets : List ℕ) (source : Source) (fault : InputFault) → SourceComes is_capture reading octets (Ok source)
    → SourceComes is_capture reading octets (Err fault) → ⊥
source_fault false reading octets source (input_faults.Dump fault) is has = is.0.accepted fault has
source_fault true reading octets source (input_faults.Dump fault) is has = no_fault_in reading octets is.read is.is_read is.accepted fault has.0
source_fault true reading octets source (input_faults.LeftOut datagram) is left =
    left.not_one (ap (λ (r : Read). length r.gathering.senders) (read_one _ _ octets left.read is.read left.is_read is.is_read) ∙ is.one_place)
source_fault is_capture reading octets source fault is never = never

-- a fault of the dump is none of a sender who is not at one place
not_both : (reading : Reading) (octets : List ℕ) (fault : Fault) (datagram : LeftOutDatagram) → IsFaultOfOctets true reading octets fault → IsLeftOutOf reading octets datagram → ⊥
not_both reading octets fault datagram has left = left.not_one (has.1 left.read.gathering left.read.cut left.is_read.is_read left.is_read.wanted_is left.accepted)

faults_one : (is_capture : Bool) (reading : Reading) (octets : List ℕ) (fault too : InputFault) → SourceComes is_capture reading octets (Err fault)
    → SourceComes is_capture reading octets (Err too) → fault ≡ too
faults_one false reading octets (input_faults.Dump own) (input_faults.Dump fault) has has_too = ap (λ (f : Fault). input_faults.Dump f) (fault_is_one _ _ _ octets own fault has has_too)
faults_one true reading octets (input_faults.Dump own) (input_faults.Dump fault) has has_too = ap (λ (f : Fault). input_faults.Dump f) (fault_in_one reading octets own fault has.0 has_too.0)
faults_one true reading octets (input_faults.Dump own) (input_faults.LeftOut datagram) has left = absurd (not_both reading octets own datagram has left)
faults_one true reading octets (input_faults.LeftOut datagram) (input_faults.Dump own) left has = absurd (not_both reading octets own datagram has left)
faults_one true reading octets (input_faults.LeftOut datagram) (input_faults.LeftOut other) left left_too =
    let same : Some datagram ≡ Some other =
    sym left.first ∙ ap (λ (r : Read). first_left_out r.gathering.report) (read_one _ _ octets left.read left_too.read left.is_read left_too.is_read) ∙ left_too.first in
    cc
faults_one is_capture reading octets (input_faults.Dump own) too has never = absurd never
faults_one true reading octets (input_faults.LeftOut datagram) too left never = absurd never
faults_one is_capture reading octets fault too never comes = absurd never

source_one : (is_capture : Bool) (reading : Reading) (octets : List ℕ) → IsOne (SourceComes is_capture reading octets)
source_one is_capture reading octets (Ok one) (Ok two) is is_too = source_same is_capture reading octets one two is is_too
source_one is_capture reading octets (Ok one) (Err fault) is comes = source_fault is_capture reading octets one fault is comes
source_one is_capture reading octets (Err fault) (Ok two) comes is = source_fault is_capture reading octets two fault is comes
source_one is_capture reading octets (Err fault) (Err too) comes comes_too = faults_one is_capture reading octets fault too comes comes_too

-- and of one that is read strictly nothing was left unread
abbrev pub DumpComes : Reading → List ℕ → Result Routes InputFault → Type 0
DumpComes reading octets = Then (SourceComes reading.is_capture reading octets)
    (λ source. Checked source.table reading.strict (IsReadWhole source.left_out source.table.report) (IsNotReadWhole source.left_out source.table.report))

pub dump_one : (reading : Reading) (octets : List ℕ) → IsOne (DumpComes reading octets)
dump_one reading octets = then_one (source_one reading.is_capture reading octets) (λ source. checked_one source.table reading.strict (whole_or_not source.left_out source.table.report)
    (not_whole_one source.left_out source.table.report))

-- ---- what a reader gave as a dump

module _ (reader : Input) (octets : List ℕ) (has : reader.old.left ≡ Some octets) where
  abbrev source_of : Dump → Routes → Source
  source_of dump table = record { left_out = dump.left_out; table = table }

  is_source : (is_capture : Bool) (dump : Dump) (table : Routes) → IsDump is_capture reader dump table
      → HasNoFault reader.reading.limits reader.reading.mode reader.reading.sender dump.octets → SourceComes is_capture reader.reading octets (Ok (source_of dump table))
  is_source false dump table is accepted =
      let same = gave_all reader octets dump.octets has is.gave in
      (record { accepted = rw same at accepted; is_table = rw same at is.is_table }, is.none_left_out)
  is_source true dump table is accepted = record {
    read = read_of is.gave;
    is_read = is_read_of (capture_with reader) octets is.gathering is.cut has is.gave;
    one_place = is.one_place;
    accepted = rw is.octets_are at accepted;
    left_out_is = is.left_out_is;
    is_table = rw is.at_is at is.is_table;
  }

  source_comes : (table : Routes) (given : GaveDump reader table) → SourceComes reader.reading.is_capture reader.reading octets (Ok (source_of given.dump table))
  source_comes table given = is_source reader.reading.is_capture given.dump table given.is_dump given.accepted

  pub table_comes : (table : Routes) → GaveTable reader table → DumpComes reader.reading octets (Ok table)
  table_comes table gave = inl (source_of gave.given.dump table, source_comes table gave.given, (refl, gave.strict))

  unread_comes : (fault : InputFault) → GaveUnread reader fault → DumpComes reader.reading octets (Err fault)
  unread_comes fault gave = inl (source_of gave.given.dump gave.table, source_comes gave.table gave.given, (gave.strict, gave.unread))

  fault_of_all : (is_capture : Bool) (fault : Fault) → IsFaultOfInput is_capture reader fault → IsFaultOfOctets is_capture reader.reading octets fault
  fault_of_all false fault is = elim (whole_or_stays fault) [
    | inl whole ↦ rw (gave_all reader octets is.given has (is.whole whole)) at is.refused
    | inr stays ↦
        let more = begins reader.old.left reader.new.left octets is.given has is.gave in
        rw more.1 (fault_stays _ _ _ is.given more.0 fault is.refused stays)
  ]
  fault_of_all true fault is =
      let more = begins reader.old.left reader.new.left octets is.given has is.gave in
      let own = is.is_fault in (
        record {
          made = own.made;
          begins = record {
            blocks = own.begins.blocks;
            rest = own.begins.rest ++ more.0;
            whole = more.1 ∙ ap (λ (front : List ℕ). front ++ more.0) own.begins.whole ∙ append_assoc (octets_of own.begins.blocks) own.begins.rest more.0;
            are_blocks = own.begins.are_blocks;
            front = own.begins.front;
            back = own.begins.back;
            parts = own.begins.parts;
            are_made = own.begins.are_made;
          };
          refused = own.refused;
          not_whole = own.not_whole;
        },
        is.at_one octets has,
      )

  -- it comes of the octets
  comes_itself : (fault : InputFault) → SourceComes reader.reading.is_capture reader.reading octets (Err fault) → DumpComes reader.reading octets (Err fault)
  comes_itself fault comes = inr (fault, comes, refl)

  fault_comes : (fault : Fault) → IsFaultOfGiven reader fault → DumpComes reader.reading octets (Err (input_faults.Dump fault))
  fault_comes fault given = comes_itself (input_faults.Dump fault) (fault_of_all reader.reading.is_capture fault given)

  left_comes : (datagram : LeftOutDatagram) → reader.reading.is_capture ≡ true → IsLeftOutOf reader.reading octets datagram → DumpComes reader.reading octets (Err (input_faults.LeftOut datagram))
  left_comes datagram is_capture left =
      comes_itself (input_faults.LeftOut datagram) (subst (λ (k : Bool). SourceComes k reader.reading octets (Err (input_faults.LeftOut datagram))) (sym is_capture) left)

  -- the dump comes to the fault; or it is its own, and has this cause
  own_cause : (Cause : Fault → Type 0) (fault : InputFault) → IsOfDump fault → InputCause reader Cause fault
      → DumpComes reader.reading octets (Err fault) ⊎ ((own : Fault) × (fault ≡ input_faults.Dump own) × Cause own)
  own_cause Cause (input_faults.Dump fault) is cause = inr (fault, refl, cause is)
  own_cause Cause (input_faults.Ignored tlv ignores_4) is (inl unread) = inl (unread_comes (input_faults.Ignored tlv ignores_4) unread)
  own_cause Cause (input_faults.Ignored tlv ignores_4) is (inr (is_capture, never)) = absurd never
  own_cause Cause (input_faults.Capture fault) is cause = absurd is
  own_cause Cause (input_faults.LeftOut datagram) is (inl unread) = inl (unread_comes (input_faults.LeftOut datagram) unread)
  own_cause Cause (input_faults.LeftOut datagram) is (inr (is_capture, (gave, not_one))) =
      inl (left_comes datagram is_capture
      (record { read = read_of gave.given; is_read = is_read_of (capture_with reader) octets gave.gathering gave.cut has gave.given; accepted = gave.given.accepted; not_one = not_one; first = gave.first }))
  own_cause Cause input_faults.NoUpdates is (inl unread) = inl (unread_comes input_faults.NoUpdates unread)
  own_cause Cause input_faults.NoUpdates is (inr (is_capture, never)) = absurd never
  own_cause Cause (input_faults.SeveralInterfaces interfaces) is cause = absurd is
  own_cause Cause (input_faults.NoPackets absence) is cause = absurd is
  own_cause Cause input_faults.Read is cause = absurd is

  pub dump_fault : (fault : InputFault) → IsOfDump fault → InputCause reader (IsFaultOfGiven reader) fault → DumpComes reader.reading octets (Err fault)
  dump_fault fault is cause = elim (own_cause (IsFaultOfGiven reader) fault is cause) [
    | inl comes ↦ comes
    | inr (own, same, given) ↦ rw same (fault_comes own given)
  ]

  -- the dump comes to the fault, or its table has too many pairs
  pub table_fault : (Many : Routes → Type 0) (fault : InputFault) → IsOfDump fault → InputCause reader (IsFaultWith reader Many) fault
      → DumpComes reader.reading octets (Err fault) ⊎ ((table : Routes) × DumpComes reader.reading octets (Ok table) × (fault ≡ input_faults.Dump faults.TooManyPairs) × Many table)
  table_fault Many fault is cause = elim (own_cause (IsFaultWith reader Many) fault is cause) [
    | inl comes ↦ inl comes
    | inr (own, same, inl given) ↦ inl (rw same (fault_comes own given))
    | inr (own, same, inr (many, gave)) ↦ inr (gave.table, table_comes gave.table gave.gave, same ∙ ap (λ (f : Fault). input_faults.Dump f) many, gave.holds)
  ]

-- ---- a text of pairs

-- a text asks for these pairs, and is no longer than a dump may be
pub record AreAskedBy (reading : Reading) (text : List ℕ) (pairs : List AddrPair) : Type 0 where
  pub in_limit : length text ≤ reading.limits.bytes
  pub asked : AskFor (lines_of text) pairs

pub asked_by : (reader : Input) (text : List ℕ) (pairs : List AddrPair) → reader.old.left ≡ Some text → GavePairsOf reader pairs → AreAskedBy reader.reading text pairs
asked_by reader text pairs has gave =
    let same = gave_all reader text gave.text has gave.gave.gave in record { in_limit = rw same at gave.gave.in_limit; asked = rw same at gave.asked }

-- it asks for some, or this is its fault
abbrev pub PairsCome : Reading → List ℕ → Result (Unit {0}) RunFault → Type 0
PairsCome reading text (Ok is) = (asked : List AddrPair) × AreAskedBy reading text asked
PairsCome reading text (Err fault) =
    ((line : ℕ) × (fault ≡ run_faults.Pairs (pairs_faults.NotAPair line)) × (length text ≤ reading.limits.bytes) × IsFirstWrong (lines_of text) line)
    ⊎ ((fault ≡ run_faults.Pairs pairs_faults.TooLong) × (reading.limits.bytes < length text))

pub pairs_one : (reading : Reading) (text : List ℕ) → IsOne (PairsCome reading text)
pairs_one reading text (Ok a) (Ok b) is is_too = refl
pairs_one reading text (Ok a) (Err fault) (asked, are) (inl (line, is, few, wrong)) = absurd (not_wrong (lines_of text) asked line are.asked wrong)
pairs_one reading text (Ok a) (Err fault) (asked, are) (inr (is, over)) = let few = are.in_limit in absurd (omega (arith, few, over))
pairs_one reading text (Err fault) (Ok a) (inl (line, is, few, wrong)) (asked, are) = absurd (not_wrong (lines_of text) asked line are.asked wrong)
pairs_one reading text (Err fault) (Ok a) (inr (is, over)) (asked, are) = let few = are.in_limit in absurd (omega (arith, few, over))
pairs_one reading text (Err fault) (Err too) (inl (line, is, few, wrong)) (inl (line_too, is_too, few_too, wrong_too)) =
    let lines = first_wrong_one (lines_of text) line line_too wrong wrong_too in cc
pairs_one reading text (Err fault) (Err too) (inl (line, is, few, wrong)) (inr (is_too, over)) = absurd (omega (arith, few, over))
pairs_one reading text (Err fault) (Err too) (inr (is, over)) (inl (line, is_too, few, wrong)) = absurd (omega (arith, few, over))
pairs_one reading text (Err fault) (Err too) (inr (is, over)) (inr (is_too, over_too)) = cc

-- out of memory is no fault of octets
pub not_of_octets : (fault : RunFault) → IsOfMemory fault → IsOfOctets fault → ⊥
not_of_octets fault memory is = subst IsOfOctets memory is refl

pub pairs_fault : (reader : Input) (text : List ℕ) (fault : RunFault) → reader.old.left ≡ Some text → IsOfOctets fault → RefusesPairs reader fault
    → PairsCome reader.reading text (Err fault)
pairs_fault reader text (run_faults.Pairs (pairs_faults.NotAPair line)) has is wrong =
    let same = gave_all reader text wrong.text has wrong.gave.gave in inl (line, refl, rw same at wrong.gave.in_limit, rw same at wrong.wrong)
pairs_fault reader text (run_faults.Pairs pairs_faults.TooLong) has is many =
    let whole = begins reader.old.left reader.new.left text many.octets has many.gave in
    let long : length text ≡ length (many.octets ++ whole.0) = ap (λ (t : List ℕ). length t) whole.1 in
    inr (refl, omega (arith, many.over, long, length-append many.octets whole.0))
pairs_fault reader text (run_faults.Pairs pairs_faults.Read) has is refuses = absurd is
pairs_fault reader text (run_faults.Input side fault) has is memory = absurd (not_of_octets (run_faults.Input side fault) memory is)
pairs_fault reader text run_faults.Write has is memory = absurd is
