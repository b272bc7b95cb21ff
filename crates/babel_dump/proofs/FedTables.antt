-- What a feeder holds of what was read has the table, or the fault, of that.
use Rattle.std.specs.Prelude.{if◌then◌else◌, Result, Ok, Err, OnOk}
use Rattle.std.proofs.Common.{◌≡◌, ◌≢◌, refl, sym, ap, subst, ◌∙◌, ℕ, Bool, true, false, List, ◌++◌, length, Option, None, Some, IfSome}
use Rattle.babel_prefix.specs.Address.{Address}
use Rattle.babel_capture.proofs.OneCapture.{cut_capture_is_one}
use Rattle.babel_capture.specs.Counts.{Made}
use Rattle.babel_dump.specs.Packets.{packets_made}
use Rattle.babel_capture.specs.Gathering.{Gathering}
use Rattle.babel_tlv.specs.declared.fault.Fault.{Fault}
use Rattle.babel_tlv.specs.declared.fault.Fault.TheVariants as faults
use Rattle.babel_table.specs.Answers.{IsAnswerOf}
use Rattle.babel_table.specs.Counts.{Counts}
use Rattle.babel_table.specs.DumpFault.{DumpFault, HasNoFault}
use Rattle.babel_table.specs.Feeding.{HasHeard, HasRead, Progress}
use Rattle.babel_table.specs.Moments.{IsTableAt, dump_of}
use Rattle.babel_table.specs.Rows.{Routes}
use Rattle.babel_table.specs.TableOf.{IsTableOf}
use Rattle.babel_table.specs.declared.answer.Answer.{Answer}
use Rattle.babel_dump.specs.CaptureGiven.{BeginsWith, CaptureInput, GaveCapture, extent_of, made_in, moment_in}
use Rattle.babel_dump.specs.Device.{Gave}
use Rattle.babel_dump.specs.ExtractLaws.{IsOfFraming}
use Rattle.babel_dump.specs.Fed.{IsFed, IsFedSo}
use Rattle.babel_dump.specs.Given.{Dump, GaveDump, GaveTable, Input, IsAtOnePlace, IsDump, IsFaultOfCaptured, IsFaultOfGiven, IsFaultOfInput, IsFaultOfStream, IsOfWhole, IsTableRead, capture_reading_of, capture_with, expired, wanted_by}
use Rattle.babel_dump.specs.Parts.{Gathered, GaveAnswer, IsFedAll}
use Rattle.babel_dump.specs.Run.{Called, InputCause, calls_of, capture_calls, stream_calls}
use Rattle.babel_dump.specs.Strict.{IsNotReadWhole, IsReadWhole}
use Rattle.babel_dump.specs.declared.input.Expired.{Expired}
use Rattle.babel_dump.specs.declared.input.Fed.{Fed}
use Rattle.babel_dump.specs.declared.input_fault.InputFault.{InputFault}
use Rattle.babel_dump.specs.declared.left_out.LeftOutDatagram.{LeftOutDatagram}
use Rattle.babel_dump.specs.declared.reading.Reading.{Reading}
use Rattle.babel_dump.proofs.WholePackets.{dump_framed, whole_dump, whole_made}
use Rattle.babel_dump.proofs.CaptureBegins.{ReadBegins, read_begins}
use Rattle.babel_dump.proofs.CaptureSteps.{is_read_of}
use Rattle.babel_dump.proofs.Feeders.{not_pairs}
use Rattle.babel_dump.proofs.StrictLaws.{unread_cause}

-- ---- its octets

-- what a feeder was fed
abbrev pub fed_octets : (reader : Input) (fed : Fed) (is_capture : Bool) → IsFedSo is_capture reader fed → List ℕ
fed_octets reader fed false is = is.octets
fed_octets reader fed true is = dump_of (packets_made (made_in is.gave))

pub fed_read : (reader : Input) (fed : Fed) (is_capture : Bool) (is : IsFedSo is_capture reader fed) → HasRead fed.feeder (fed_octets reader fed is_capture is)
fed_read reader fed false is = is.read
fed_read reader fed true is = is.heard.read

-- ---- its table

-- the table, or the answers, of what was read leave out what that leaves out
abbrev pub HasTable : Input → Fed → Routes → Type 0
HasTable reader fed table = (given : GaveDump reader table) × (given.dump.left_out ≡ fed.left_out)

abbrev TableSo : Bool → Input → Fed → Routes → Type 0
TableSo is_capture reader fed table = (dump : Dump) × IsDump is_capture reader dump table
    × HasNoFault reader.reading.limits reader.reading.mode reader.reading.sender dump.octets × (dump.left_out ≡ fed.left_out)

abbrev IsTableOn : Progress → List ℕ → Routes → Type 0
IsTableOn f octets table = HasNoFault f.limits f.mode f.sender octets × IsTableOf f.limits f.mode f.sender octets table

abbrev IsTableThen : Progress → Option Expired → Routes → Type 0
IsTableThen f expired table = (at : Expired) → expired ≡ Some at → (given : List (ℕ × List ℕ)) → HasHeard f given
    → HasNoFault f.limits f.mode f.sender (dump_of given) × IsTableAt f.limits f.mode f.sender given f.factor at.moment table

abbrev factor_in : Option Expired → Option ℕ
factor_in None = None
factor_in (Some e) = Some e.factor

asked_factor : (factor moment : Option ℕ) (at : Expired) → expired factor moment ≡ Some at → factor ≡ Some at.factor
asked_factor (Some factor) (Some moment) at is = ap factor_in is
asked_factor (Some factor) None at is = absurd (let bad : None ≡ Some at = is in cc)
asked_factor None moment at is = absurd (let bad : None ≡ Some at = is in cc)

module _ (reader : Input) (fed : Fed) (table : Routes) (limits : fed.feeder.limits ≡ reader.reading.limits) (mode : fed.feeder.mode ≡ reader.reading.mode)
    (sender : fed.feeder.sender ≡ reader.reading.sender) (timed : IsTableThen fed.feeder fed.expired table) where
  table_at : (packets : List (ℕ × List ℕ)) → HasHeard fed.feeder packets → (fed.expired ≡ None → IsTableOn fed.feeder (dump_of packets) table) → (moment : Option ℕ)
      → fed.expired ≡ expired reader.reading.expiry moment → IfSome reader.reading.expiry (λ factor. fed.feeder.factor ≡ factor) → (at : Option Expired) → fed.expired ≡ at
      → HasNoFault reader.reading.limits reader.reading.mode reader.reading.sender (dump_of packets) × IsTableRead at reader.reading packets table
  table_at packets heard whole moment expired_is factor None is = rw (← limits, ← mode, ← sender) (whole is)
  table_at packets heard whole moment expired_is factor (Some at) is =
      let asked = asked_factor reader.reading.expiry moment at (sym expired_is ∙ is) in
      let same : fed.feeder.factor ≡ at.factor = subst (λ (e : Option ℕ). IfSome e (λ factor. fed.feeder.factor ≡ factor)) asked factor in
      rw (← limits, ← mode, ← sender, ← same) (timed at is packets heard)

  table_so : (is_capture : Bool) (is : IsFedSo is_capture reader fed) → (fed.expired ≡ None → IsTableOn fed.feeder (fed_octets reader fed is_capture is) table) → TableSo is_capture reader fed table
  table_so false is whole =
      let told : HasNoFault reader.reading.limits reader.reading.mode reader.reading.sender is.octets
      × IsTableOf reader.reading.limits reader.reading.mode reader.reading.sender is.octets table = rw (← limits, ← mode, ← sender) (whole is.whole) in (
        record { octets = is.octets; left_out = None; at = None },
        record { gave = is.gave; none_left_out = refl; whole = refl; is_table = told.1 },
        told.0,
        sym is.none_left_out,
      )
  table_so true is whole =
      let packets = packets_made (made_in is.gave) in
      let told = table_at packets is.heard whole (moment_in is.gave) is.expired_is is.factor fed.expired refl in (
        record { octets = dump_of packets; left_out = fed.left_out; at = fed.expired },
        record {
          gathering = is.gathering;
          cut = is.cut;
          gave = is.gave;
          one_place = is.one_place;
          octets_are = refl;
          left_out_is = is.left_out_is;
          at_is = is.expired_is;
          is_table = told.1;
        },
        told.0,
        refl,
      )

table_by : (reader : Input) (fed : Fed) (table : Routes) (is : IsFed reader fed) → IsTableThen fed.feeder fed.expired table
    → (fed.expired ≡ None → IsTableOn fed.feeder (fed_octets reader fed reader.reading.is_capture is.is_fed) table) → HasTable reader fed table
table_by reader fed table is timed whole =
    let so = table_so reader fed table is.limits is.mode is.sender timed reader.reading.is_capture is.is_fed whole in
    (record { dump = so.0; is_dump = so.1; accepted = so.2 }, so.3)

-- at a moment
abbrev pub IsTimed : Progress → Routes → (moment : ℕ) → Type 0
IsTimed f table moment = (given : List (ℕ × List ℕ)) → HasHeard f given
    → HasNoFault f.limits f.mode f.sender (dump_of given) × IsTableAt f.limits f.mode f.sender given f.factor moment table

pub timed_table : (reader : Input) (fed : Fed) (table : Routes) (moment : ℕ) (at : Expired) → fed.expired ≡ Some at → at.moment ≡ moment
    → ((given : List (ℕ × List ℕ)) → HasHeard fed.feeder given → HasNoFault fed.feeder.limits fed.feeder.mode fed.feeder.sender (dump_of given)
    × IsTableAt fed.feeder.limits fed.feeder.mode fed.feeder.sender given fed.feeder.factor moment table) → IsFed reader fed → HasTable reader fed table
timed_table reader fed table moment at here same timed is = table_by reader fed table is then_so (λ none. absurd (let bad : None ≡ Some at = sym none ∙ here in cc))
  where
    then_so : IsTableThen fed.feeder fed.expired table
    then_so other is_other given heard =
        let one : Some at ≡ Some other = sym here ∙ is_other in
        let moments : moment ≡ other.moment = sym same ∙ (let at_is : at ≡ other = cc in ap (λ (e : Expired). e.moment) at_is) in
        subst (λ (m : ℕ). HasNoFault fed.feeder.limits fed.feeder.mode fed.feeder.sender (dump_of given)
        × IsTableAt fed.feeder.limits fed.feeder.mode fed.feeder.sender given fed.feeder.factor m table) moments (timed given heard)

none_then : (f : Progress) (table : Routes) (expired : Option Expired) → expired ≡ None → IsTableThen f expired table
none_then f table expired none at is = absurd (let bad : None ≡ Some at = sym none ∙ is in cc)

-- nothing is left out
pub whole_table : (reader : Input) (fed : Fed) (table : Routes) → fed.expired ≡ None
    → ((octets : List ℕ) → HasRead fed.feeder octets → HasNoFault fed.feeder.limits fed.feeder.mode fed.feeder.sender octets
    × IsTableOf fed.feeder.limits fed.feeder.mode fed.feeder.sender octets table) → IsFed reader fed → HasTable reader fed table
whole_table reader fed table none whole is =
    table_by reader fed table is (none_then fed.feeder table fed.expired none) (λ _. whole (fed_octets reader fed reader.reading.is_capture is.is_fed) (fed_read reader fed reader.reading.is_capture is.is_fed))

-- and this is what it answers
pub whole_answer : (reader : Input) (fed : Fed) (dst src : Address) (answer : Answer) → fed.expired ≡ None
    → ((octets : List ℕ) → HasRead fed.feeder octets → HasNoFault fed.feeder.limits fed.feeder.mode fed.feeder.sender octets
    × IsAnswerOf fed.feeder.limits fed.feeder.mode fed.feeder.sender octets dst src answer) → IsFed reader fed → GaveAnswer (HasTable reader fed) dst src answer
whole_answer reader fed dst src answer none answered is =
    let told = answered (fed_octets reader fed reader.reading.is_capture is.is_fed) (fed_read reader fed reader.reading.is_capture is.is_fed) in
    let table = told.1.table in
    record {
      table = table;
      gave = table_by reader fed table is (none_then fed.feeder table fed.expired none) (λ _. (told.0, told.1.is_table));
      row = told.1.row;
      report = told.1.report;
    }

-- ---- its fault

framing_of : (fault : Fault) → IsOfWhole fault → fault ≢ faults.TooManyPairs → IsOfFraming fault
framing_of (faults.Truncated at) whole not_pairs = tt
framing_of (faults.BadMagic at) whole not_pairs = absurd whole
framing_of (faults.BadVersion at) whole not_pairs = absurd whole
framing_of (faults.TlvPastEnd at) whole not_pairs = absurd whole
framing_of (faults.EncodingSetsRouterId at) whole not_pairs = absurd whole
framing_of (faults.TooManyRoutes at) whole not_pairs = absurd whole
framing_of faults.TooLong whole not_pairs = absurd whole
framing_of faults.TooManyPairs whole not_pairs = absurd (not_pairs refl)
framing_of faults.Memory whole not_pairs = absurd whole

-- that of packets which are whole
pub captured_fault : (reader : Input) (given : List ℕ) (made : List Made) (fault : Fault) → Gave reader.old reader.new given
    → BeginsWith (capture_reading_of reader.reading) (wanted_by reader.reading) given made
    → DumpFault reader.reading.limits reader.reading.mode reader.reading.sender (dump_of (packets_made made)) fault
    → ((octets : List ℕ) → reader.old.left ≡ Some octets → IsAtOnePlace reader.reading octets) → IsFaultOfCaptured reader fault
captured_fault reader given made fault gave begins is_fault at_one =
    let packets = packets_made made in
    let whole = whole_made (wanted_by reader.reading) begins.front made begins.are_made in
    record {
      given = given;
      gave = gave;
      is_fault = record {
        made = made;
        begins = begins;
        refused = is_fault;
        not_whole = λ of_whole. dump_framed reader.reading.limits reader.reading.mode reader.reading.sender (dump_of packets) (whole_dump packets whole) fault is_fault
            (framing_of fault of_whole (not_pairs reader (dump_of packets) fault is_fault));
      };
      at_one = at_one;
    }

-- a capture that has the dump has no other reading
at_one_in : (reader : Input) (gathering : Gathering) (cut : Option ℕ) → GaveCapture (capture_with reader) gathering cut → length gathering.senders ≡ 1
    → (octets : List ℕ) → reader.old.left ≡ Some octets → IsAtOnePlace reader.reading octets
at_one_in reader gathering cut gave one octets has again cut_too is wanted accepted =
    let same = cut_capture_is_one (extent_of (capture_reading_of reader.reading)) octets again gathering cut_too cut is (is_read_of (capture_with reader) octets gathering cut has gave).is_read
    (wanted ∙ sym gave.wanted) in
    ap (λ (g : Gathering). length g.senders) same.0 ∙ one

begins_with : (reader : CaptureInput) (gathering : Gathering) (cut : Option ℕ) (gave : GaveCapture reader gathering cut) → ReadBegins reader.reading reader.wanted gave.octets (made_in gave)
begins_with reader gathering cut gave = read_begins reader.reading reader.wanted gave.octets gathering cut gave.wanted gave.is_read

fault_so : (reader : Input) (fed : Fed) (fault : Fault) (is_capture : Bool) (is : IsFedSo is_capture reader fed)
    → DumpFault reader.reading.limits reader.reading.mode reader.reading.sender (fed_octets reader fed is_capture is) fault → IsFaultOfInput is_capture reader fault
fault_so reader fed fault false is is_fault =
    record { given = is.octets; gave = is.gave.gave; refused = is_fault; whole = λ _. is.gave; not_pairs = not_pairs reader is.octets fault is_fault }
fault_so reader fed fault true is is_fault =
    let whole = begins_with (capture_with reader) is.gathering is.cut is.gave in
    captured_fault reader is.gave.octets whole.first fault is.gave.gave.gave whole.begins
    (subst (λ (packets : List (ℕ × List ℕ)). DumpFault reader.reading.limits reader.reading.mode reader.reading.sender (dump_of packets) fault) whole.packets is_fault)
    (at_one_in reader is.gathering is.cut is.gave is.one_place)

so_limited : (fed : Fed) (reading : Reading) (octets : List ℕ) (fault : Fault) → fed.feeder.limits ≡ reading.limits → fed.feeder.mode ≡ reading.mode → fed.feeder.sender ≡ reading.sender
    → DumpFault fed.feeder.limits fed.feeder.mode fed.feeder.sender octets fault → DumpFault reading.limits reading.mode reading.sender octets fault
so_limited fed reading octets fault limits mode sender is = rw (← limits, ← mode, ← sender) is

pub fed_fault : (reader : Input) (fed : Fed) (fault : Fault)
    → ((octets : List ℕ) → HasRead fed.feeder octets → DumpFault fed.feeder.limits fed.feeder.mode fed.feeder.sender octets fault) → IsFed reader fed → IsFaultOfGiven reader fault
fed_fault reader fed fault of_fed is =
    let octets = fed_octets reader fed reader.reading.is_capture is.is_fed in
    let told : DumpFault reader.reading.limits reader.reading.mode reader.reading.sender octets fault =
    so_limited fed reader.reading octets fault is.limits is.mode is.sender (of_fed octets (fed_read reader fed reader.reading.is_capture is.is_fed)) in
    fault_so reader fed fault reader.reading.is_capture is.is_fed told

-- ---- what reading answers

-- of a stream
module _ (reader : Input) (f : Progress) (stream : reader.reading.is_capture ≡ false) where
  abbrev FedAll : Result (Unit {0}) InputFault → Type 0
  FedAll = Gathered (stream_calls reader) (InputCause reader (IsFaultOfStream reader)) (λ _. IsFedAll f reader)

  called_so : (fed : Result (Unit {0}) InputFault) (result : Result Fed InputFault) → FedAll fed → OnOk result (reader.new.failures ≡ reader.old.failures) → Called (calls_of reader) result
  called_so fed result is no_failure = subst (λ (k : Bool). Called (if k then capture_calls (capture_with reader) else stream_calls reader) result) (sym stream)
      (record { no_failure = no_failure; reads = is.called.reads; failures = is.called.failures; ends = is.called.ends })

  pub stream_refused : (refusal fault : InputFault) → fault ≡ refusal → FedAll (Err refusal)
      → Gathered (calls_of reader) (InputCause reader (IsFaultOfGiven reader)) (IsFed reader) (let r : Result Fed InputFault = Err fault in r)
  stream_refused refusal fault same is = record {
    made = tt;
    cause = subst (λ (k : Bool). InputCause reader (IsFaultOfInput k reader) fault) (sym stream) (subst (InputCause reader (IsFaultOfStream reader)) (sym same) is.cause);
    called = called_so (Err refusal) (Err fault) is tt;
  }

  pub stream_fed : f.limits ≡ reader.reading.limits → f.mode ≡ reader.reading.mode → f.sender ≡ reader.reading.sender → FedAll (Ok tt)
      → Gathered (calls_of reader) (InputCause reader (IsFaultOfGiven reader)) (IsFed reader)
      (let r : Result Fed InputFault = Ok (record { feeder = f; expired = None; left_out = None; notes = None }) in r)
  stream_fed limits mode sender is =
      let fed : Fed = record { feeder = f; expired = None; left_out = None; notes = None } in
      let all = is.made in
      record {
        made = record {
          limits = limits;
          mode = mode;
          sender = sender;
          is_fed = subst (λ (k : Bool). IsFedSo k reader fed) (sym stream) (record { octets = all.given; gave = all.gave; read = all.fed; none_left_out = refl; whole = refl });
          notes = stream;
        };
        cause = tt;
        called = called_so (Ok tt) (Ok fed) is is.called.no_failure;
      }

module _ (reader : Input) (fed : Fed) (table : Routes) (has : HasTable reader fed table) where
  -- nothing of it was left unread
  pub gave_table : (reader.reading.strict ≡ true → IsReadWhole fed.left_out table.report) → GaveTable reader table
  gave_table whole = record { given = has.0; strict = λ strict. subst (λ (l : Option LeftOutDatagram). IsReadWhole l table.report) (sym has.1) (whole strict) }

  -- or something was
  pub gave_unread : (Refuses : Fault → Type 0) (fault : InputFault) → reader.reading.strict ≡ true → IsNotReadWhole fed.left_out table.report fault → InputCause reader Refuses fault
  gave_unread Refuses fault strict is = unread_cause reader Refuses table fault has.0 strict (subst (λ (l : Option LeftOutDatagram). IsNotReadWhole l table.report fault) (sym has.1) is)

-- and this is what it answers
pub gave_answer : (reader : Input) (fed : Fed) (dst src : Address) (answer : Answer) → GaveAnswer (HasTable reader fed) dst src answer
    → (reader.reading.strict ≡ true → IsReadWhole fed.left_out answer.report) → GaveAnswer (GaveTable reader) dst src answer
gave_answer reader fed dst src answer is whole = record {
  table = is.table;
  gave = gave_table reader fed is.table is.gave (λ strict. subst (IsReadWhole fed.left_out) is.report (whole strict));
  row = is.row;
  report = is.report;
}

pub unread_answer : (reader : Input) (fed : Fed) (dst src : Address) (answer : Answer) (Refuses : Fault → Type 0) (fault : InputFault) → GaveAnswer (HasTable reader fed) dst src answer
    → reader.reading.strict ≡ true → IsNotReadWhole fed.left_out answer.report fault → InputCause reader Refuses fault
unread_answer reader fed dst src answer Refuses fault is strict unread =
    gave_unread reader fed is.table is.gave Refuses fault strict (subst (λ (r : Counts). IsNotReadWhole fed.left_out r fault) is.report unread)
