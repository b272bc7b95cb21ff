-- What is read of a capture for the dump of a sender in it.
use Rattle.std.proofs.Common.{◌≡◌, ◌≢◌, arith, refl, sym, ap, subst, ◌∙◌, ℕ, Bool, true, false, if◌then◌else◌, List, [], ◌++◌, append-nil, length, Option, None, Some, IfSome, inl, inr}
use Rattle.std.specs.Prelude.{◌⊎◌, Result, Ok, Err, OnOk}
use Rattle.std.specs.Option.{is_some}
use Rattle.std.specs.Result.{IsErrAnd, IsOkAnd}
use Rattle.babel_capture.specs.Blocks.{context_behind, sightings_of, start}
use Rattle.babel_capture.specs.Capture.{EndsLost, EndsShort, HasRead, IsReadToCut, State, moment_read}
use Rattle.babel_capture.specs.Context.{Before}
use Rattle.babel_capture.specs.Counts.{Made}
use Rattle.babel_capture.specs.Gathering.{Gathering}
use Rattle.babel_capture.specs.Reading.{HasTaken, Stops}
use Rattle.babel_capture.specs.Tallies.{Senders, senders_listed}
use Rattle.babel_capture.specs.Window.{Extent}
use Rattle.babel_capture.specs.declared.fault.Fault.{Fault as CaptureFault}
use Rattle.babel_capture.specs.declared.fault.Fault.TheVariants as capture_faults
use Rattle.babel_capture.specs.declared.wanted.Wanted.{Wanted}
use Rattle.babel_capture.specs.declared.timing.Timing.{Timing}
use Rattle.babel_capture.proofs.OneFault.{cut_is_the_fault, none_lost_to_cut, none_stops_to_cut}
use Rattle.babel_capture.proofs.StreamLaws.{stops-more}
use Rattle.babel_tlv.specs.declared.fault.Fault.{Fault}
use Rattle.babel_tlv.specs.declared.fault.Fault.TheVariants as faults
use Rattle.babel_table.specs.DumpFault.{DumpFault}
use Rattle.babel_table.specs.Feeding.{HasHeard, HasReadTo}
use Rattle.babel_table.specs.Moments.{dump_of}
use Rattle.babel_dump.specs.CaptureGiven.{CaptureInput, EndsIncomplete, EndsTooSoon, GaveCapture, IsAccepted, IsFaultOfCapture, IsFedWhole, Took, TookSome, capture_from, extent_of, made_in, moment_in}
use Rattle.babel_dump.specs.CaptureRun.{FeedCause}
use Rattle.babel_dump.specs.Device.{Gave}
use Rattle.babel_dump.specs.Fed.{AreNotes, AreWhole, EndsRefused, EndsWith, FeedsOn, IsEnded, IsFed, IsFedSo, IsToldAfter}
use Rattle.babel_dump.specs.Given.{Input, IsAtOnePlace, IsFaultOfGiven, IsFaultOfInput, capture_reading_of, capture_with, expired, wanted_by}
use Rattle.babel_dump.specs.LeftOut.{first_left_out}
use Rattle.babel_dump.specs.Packets.{packets_made}
use Rattle.babel_dump.specs.Parts.{Gathered}
use Rattle.babel_dump.specs.Run.{Called, InputCause, calls_of, capture_calls, input_status, stream_calls}
use Rattle.babel_dump.specs.declared.capture_reading.CaptureReading.{CaptureReading}
use Rattle.babel_dump.specs.declared.capture_notes.CaptureNotes.{CaptureNotes}
use Rattle.babel_dump.specs.declared.input.Fed.{Fed}
use Rattle.babel_dump.specs.declared.input_fault.InputFault.{InputFault}
use Rattle.babel_dump.specs.declared.input_fault.InputFault.TheVariants as input_faults
use Rattle.babel_dump.specs.declared.packet_feeder.PacketFeeder.{PacketFeeder}
use Rattle.babel_dump.proofs.CaptureEnds.{listed_on, packets_on}
use Rattle.babel_dump.proofs.CaptureFeeding.{IsReadFrom}
use Rattle.babel_dump.proofs.CaptureReads.{given_fault, moment_by}
use Rattle.babel_dump.proofs.CaptureSteps.{all_of, begins}
use Rattle.babel_dump.proofs.FedTables.{captured_fault}
use Rattle.babel_dump.proofs.WholePackets.{whole_made}
use Rattle.babel_dump.proofs.FollowLaws.{same_made}

-- ---- what the feeder heard

feeds_none : (packets : PacketFeeder) → FeedsOn packets packets []
feeds_none packets =
    record { limits = refl; mode = refl; sender = refl; factor = refl; heard = λ given whole heard. subst (HasHeard packets.feeder) (sym (append-nil given)) heard }

-- the feeder is that of a dump which is read so
pub record IsFor (reader : Input) (packets : PacketFeeder) : Type 0 where
  pub heard : HasHeard packets.feeder []
  pub limits : packets.feeder.limits ≡ reader.reading.limits
  pub mode : packets.feeder.mode ≡ reader.reading.mode
  pub sender : packets.feeder.sender ≡ reader.reading.sender
  pub factor : IfSome reader.reading.expiry (λ factor. packets.feeder.factor ≡ factor)

-- and heard these packets
pub record HasTakenAll (reader : Input) (packets : PacketFeeder) (made : List Made) : Type 0 where
  pub heard : HasHeard packets.feeder (packets_made made)
  pub limits : packets.feeder.limits ≡ reader.reading.limits
  pub mode : packets.feeder.mode ≡ reader.reading.mode
  pub sender : packets.feeder.sender ≡ reader.reading.sender
  pub factor : IfSome reader.reading.expiry (λ factor. packets.feeder.factor ≡ factor)

-- all that the reader had is no capture, or one in which the sender is at one place
abbrev pub IsAtOne : Input → Type 0
IsAtOne reader = (octets : List ℕ) → reader.old.left ≡ Some octets → IsAtOnePlace reader.reading octets

module _ (reader : Input) (first now : PacketFeeder) (for : IsFor reader first) where
  heard_made : (made : List Made) → Took FeedsOn first now made → AreWhole (packets_made made) → HasTakenAll reader now made
  heard_made made took whole =
      let on : FeedsOn first now made = took first [] (feeds_none first) in
      record {
        heard = on.heard [] whole for.heard;
        limits = on.limits ∙ for.limits;
        mode = on.mode ∙ for.mode;
        sender = on.sender ∙ for.sender;
        factor = subst (λ (n : ℕ). IfSome reader.reading.expiry (λ factor. n ≡ factor)) (sym on.factor) for.factor;
      }

  -- it has a fault
  pub dump_fault : TookSome FeedsOn first now (capture_with reader) → reader.reading.is_capture ≡ true → (fault : Fault) → now.feeder.fault ≡ Some fault → fault ≢ faults.Memory
      → IsAtOne reader → IsFaultOfGiven reader fault
  dump_fault some capture fault is not_memory at_one =
      let all = heard_made some.made some.took (whole_made (wanted_by reader.reading) some.begins.front some.made some.begins.are_made) in
      let fed = dump_of (packets_made some.made) in
      let failed = subst (λ (f : Option Fault). HasReadTo now.feeder f fed) is all.heard.read in
      let refused : DumpFault now.feeder.limits now.feeder.mode now.feeder.sender fed fault = elim failed [
        | inl (memory, needs) ↦ absurd (not_memory memory)
        | inr (lasting, is_fault) ↦ subst (λ (octets : List ℕ). DumpFault now.feeder.limits now.feeder.mode now.feeder.sender octets fault) (append-nil fed) (is_fault [])
      ] in
      let told : DumpFault reader.reading.limits reader.reading.mode reader.reading.sender fed fault = rw (← all.limits, ← all.mode, ← all.sender) refused in
      subst (λ (k : Bool). IsFaultOfInput k reader fault) (sym capture) (captured_fault reader some.given some.made fault some.gave some.begins told at_one)

-- ---- why there is no dump

-- the capture was not read to its end
pub refused_cause : (reader : Input) (Refuses : Fault → Type 0) → reader.reading.is_capture ≡ true → (fault : InputFault) → FeedCause (capture_with reader) fault → InputCause reader Refuses fault
refused_cause reader Refuses capture (input_faults.Dump fault) cause = absurd cause
refused_cause reader Refuses capture (input_faults.Ignored tlv ignores_4) cause = absurd cause
refused_cause reader Refuses capture (input_faults.Capture fault) cause = inr (capture, cause)
refused_cause reader Refuses capture (input_faults.LeftOut datagram) cause = absurd cause
refused_cause reader Refuses capture input_faults.NoUpdates cause = absurd cause
refused_cause reader Refuses capture (input_faults.SeveralInterfaces interfaces) cause = absurd cause
refused_cause reader Refuses capture (input_faults.NoPackets absence) cause = absurd cause
refused_cause reader Refuses capture input_faults.Read cause = cause

-- a capture that is refused is none that can be read
not_too_soon : (accept_cut : Bool) (cut : Option ℕ) (fault : CaptureFault) (at : ℕ) → IsAccepted accept_cut cut → (accept_cut ≡ true → fault ≡ capture_faults.NotCapture)
    → cut ≡ Some at → fault ≡ capture_faults.CutShort at → ⊥
not_too_soon false cut fault at accepted soon is short = absurd (let never : None ≡ Some at = sym (accepted refl) ∙ is in cc)
not_too_soon true cut fault at accepted soon is short = absurd (let never : capture_faults.NotCapture ≡ capture_faults.CutShort at = sym (soon refl) ∙ short in cc)

module _ (reader : Input) (fault : CaptureFault) (octets : List ℕ) (has : reader.old.left ≡ Some octets) (gathering : Gathering) (cut : Option ℕ)
    (read : IsReadToCut (extent_of (capture_reading_of reader.reading)) octets gathering cut) (wanted : gathering.wanted ≡ wanted_by reader.reading)
    (accepted : IsAccepted reader.reading.accept_cut cut) where
  abbrev extent : Extent
  extent = extent_of (capture_reading_of reader.reading)

  not_stopped : (given : List ℕ) → Gave reader.old reader.new given → Stops extent (wanted_by reader.reading) given fault → ⊥
  not_stopped given gave stops =
      let more = begins reader.old.left reader.new.left octets given has gave in
      let all : Stops extent (wanted_by reader.reading) octets fault = rw more.1 (stops-more extent (wanted_by reader.reading) given more.0 fault stops) in
      none_stops_to_cut extent octets gathering cut fault read (subst (λ (w : Wanted). Stops extent w octets fault) (sym wanted) all)

  not_short : (given : List ℕ) → EndsTooSoon (capture_with reader) given fault → ⊥
  not_short given soon =
      let whole = all_of reader.old.left reader.new.left octets given has soon.all.gave soon.all.all in
      let short : EndsShort extent gathering.wanted octets fault =
      subst (λ (w : Wanted). EndsShort extent w octets fault) (sym wanted) (subst (λ (o : List ℕ). EndsShort extent (wanted_by reader.reading) o fault) whole soon.short) in
      let at = cut_is_the_fault extent octets gathering cut read fault (inr (inl short)) in
      not_too_soon reader.reading.accept_cut cut fault at.0 accepted soon.not_accepted at.1 at.2

  not_lost : (given : List ℕ) → EndsIncomplete (capture_with reader) given fault → ⊥
  not_lost given ends =
      let whole = all_of reader.old.left reader.new.left octets given has ends.all.gave ends.all.all in
      none_lost_to_cut extent octets gathering cut fault read
      (subst (λ (w : Wanted). EndsLost extent w octets fault) (sym wanted) (subst (λ (o : List ℕ). EndsLost extent (wanted_by reader.reading) o fault) whole ends.lost))

  not_read : IsFaultOfCapture (capture_with reader) fault → ⊥
  not_read is = elim is.refused [
    | inl stops ↦ not_stopped is.given is.gave stops
    | inr (inl soon) ↦ not_short is.given soon
    | inr (inr ends) ↦ not_lost is.given ends
  ]

refused_at_one : (reader : Input) (refusal : InputFault) → FeedCause (capture_with reader) refusal → input_status refusal ≡ 3 → IsAtOne reader
refused_at_one reader (input_faults.Capture fault) cause status = λ octets has gathering cut read wanted accepted.
    absurd (not_read reader fault octets has gathering cut read wanted accepted
    (cause (λ memory. let never : 5 ≡ 3 = subst (λ (f : CaptureFault). input_status (input_faults.Capture f) ≡ 3) memory status in omega arith)))
refused_at_one reader input_faults.Read cause status = absurd (let never : 4 ≡ 3 = status in omega arith)
refused_at_one reader refusal cause status = absurd cause

-- what was read of it, and ended
module _ (reader : Input) (first now : PacketFeeder) (f ended : State) (from : IsReadFrom f (capture_reading_of reader.reading) (wanted_by reader.reading))
    (all : IsFedWhole FeedsOn first now f (capture_with reader)) where
  abbrev gave : (cut : Option ℕ) → IsEnded reader.reading f ended all.given cut → GaveCapture (capture_with reader) ended.progress.gathering cut
  gave cut ends = record {
    octets = all.given;
    gave = all.gave;
    is_read = subst (λ (e : Extent). IsReadToCut e all.given ended.progress.gathering cut) from.limit ends.is_read;
    accepted = ends.accepted;
    wanted = ends.wanted ∙ from.wanted;
  }

  -- it is refused at its end
  pub ends_cause : (Refuses : Fault → Type 0) → reader.reading.is_capture ≡ true → (fault : InputFault)
      → ((fed : List ℕ) → HasRead f fed → EndsRefused reader.reading f ended fed fault) → InputCause reader Refuses fault
  ends_cause Refuses capture (input_faults.Dump fault) is = λ not_memory. absurd (not_memory (is all.given all.fed).not_one)
  ends_cause Refuses capture (input_faults.Ignored tlv ignores_4) is = absurd (is all.given all.fed).not_one
  ends_cause Refuses capture (input_faults.Capture fault) is =
      inr (capture, λ not_memory. given_fault FeedsOn first now (capture_with reader) f from all fault (λ fed read. (is fed read).1) (λ fed read. (is fed read).0 not_memory))
  ends_cause Refuses capture (input_faults.LeftOut datagram) is =
      let left = is all.given all.fed in
      inr (capture, (record { gathering = ended.progress.gathering; cut = left.0; given = gave left.0 left.1; strict = left.2; first = left.3 }, left.4))
  ends_cause Refuses capture input_faults.NoUpdates is = absurd (is all.given all.fed).not_one
  ends_cause Refuses capture (input_faults.SeveralInterfaces interfaces) is =
      let there = is all.given all.fed in
      inr (
        capture,
        record {
          gathering = ended.progress.gathering;
          cut = there.cut;
          gave = record { given = gave there.cut there.ended; strict = there.strict };
          one_wanted = refl;
          several = there.not_one.0;
          are = there.not_one.1;
        },
      )
  ends_cause Refuses capture (input_faults.NoPackets absence) is =
      let there = is all.given all.fed in
      inr (capture, (ended.progress.gathering, there.cut, gave there.cut there.ended, there.not_one))
  ends_cause Refuses capture input_faults.Read is = absurd (is all.given all.fed).not_one

  -- it was fed so, at the extent that was asked for
  record IsFedAt (extent : Extent) : Type 0 where
    taken : HasTaken extent f.progress f.pending all.given
    took : Took FeedsOn first now taken.leads.gathered.made

  -- it has the dump
  pub is_fed : reader.reading.is_capture ≡ true → IsFor reader first → ended.limit ≡ f.limit → ended.progress.context ≡ f.progress.context → (notes : CaptureNotes)
      → EndsWith reader.reading f ended all.given notes → (fed : Fed) → fed.feeder ≡ now.feeder → fed.expired ≡ expired reader.reading.expiry (moment_read ended)
      → fed.left_out ≡ first_left_out notes.report → IfSome fed.notes (λ said. (said.report ≡ notes.report) × (said.cut ≡ notes.cut)) → is_some fed.notes ≡ true → IsFed reader fed
  is_fed capture for limit context notes ends fed feeder_is expired_is left_out_is noted some_notes =
      let extent : Extent = extent_of (capture_reading_of reader.reading) in
      let at : IsFedAt extent = subst IsFedAt from.limit (record { taken = all.taken; took = all.took }) in
      let given = gave notes.cut ends.ended in
      let timing : Timing = ended.progress.gathering.report.timing in
      let same = same_made extent all.given f.progress f.pending ended.progress.gathering notes.cut ends.ended.wanted at.taken given.is_read in
      let was = at.taken.leads.gathered.made in
      let packets : packets_made (made_in given) ≡ packets_made was = ap packets_made same.made ∙ packets_on was same.later same.uncounted in
      let moment : moment_read ended ≡ moment_in given =
      ap (λ (e : Extent). moment_by e ended.progress.context timing) (limit ∙ from.limit)
      ∙ ap (λ (b : Before). moment_by extent b timing) (context ∙ at.taken.leads.context ∙ ap (context_behind (start extent)) (sym same.blocks)) in
      let heard = heard_made reader first now for was at.took (whole_made f.progress.gathering.wanted (sightings_of at.taken.leads.blocks) was at.taken.leads.gathered.taken.are_made) in
      record {
        limits = ap (λ p. p.limits) feeder_is ∙ heard.limits;
        mode = ap (λ p. p.mode) feeder_is ∙ heard.mode;
        sender = ap (λ p. p.sender) feeder_is ∙ heard.sender;
        is_fed = subst (λ (k : Bool). IsFedSo k reader fed) (sym capture) (record {
          gathering = ended.progress.gathering;
          cut = notes.cut;
          gave = given;
          one_place = ends.one_place;
          heard = subst (λ p. HasHeard p (packets_made (made_in given))) (sym feeder_is) (subst (λ (ps : List (ℕ × List ℕ)). HasHeard now.feeder ps) (sym packets) heard.heard);
          factor = subst (λ p. IfSome reader.reading.expiry (λ factor. p.factor ≡ factor)) (sym feeder_is) heard.factor;
          left_out_is = left_out_is ∙ ap first_left_out ends.report_is;
          expired_is = expired_is ∙ ap (expired reader.reading.expiry) moment;
        });
        notes = noted_so fed.notes some_notes noted;
      }
    where
      noted_so : (said : Option CaptureNotes) → is_some said ≡ true → IfSome said (λ n. (n.report ≡ notes.report) × (n.cut ≡ notes.cut)) → AreNotes reader said
      noted_so None none is = absurd (let bad : false ≡ true = none in cc)
      noted_so (Some n) there (report, cut) = (ended.progress.gathering, notes.cut, gave notes.cut ends.ended, report ∙ ends.report_is, cut)

-- ---- what reading answers

-- the capture that is read is that of the dump
pub input_is : (reader : Input) (how : CaptureReading) (whose : Wanted) → how ≡ capture_reading_of reader.reading → whose ≡ wanted_by reader.reading
    → capture_from reader.old reader.new how whose ≡ capture_with reader
input_is reader how whose how_is whose_is =
    ap (λ (h : CaptureReading). capture_from reader.old reader.new h whose) how_is ∙ ap (capture_from reader.old reader.new (capture_reading_of reader.reading)) whose_is

-- what feeding it answered, which a sink took
pub record FedFrom (reader : Input) (first now : PacketFeeder) (f : State) (result : Result (Unit {0}) InputFault) : Type 0 where
  pub capture : reader.reading.is_capture ≡ true
  pub from : IsReadFrom f (capture_reading_of reader.reading) (wanted_by reader.reading)
  pub for : IsFor reader first
  pub some : TookSome FeedsOn first now (capture_with reader)
  pub gathered : Gathered (capture_calls (capture_with reader)) (FeedCause (capture_with reader)) (λ _. IsFedWhole FeedsOn first now f (capture_with reader)) result

pub fed_from : (reader : Input) (first now : PacketFeeder) (f : State) (result : Result (Unit {0}) InputFault) (how : CaptureReading) (whose : Wanted)
    → how ≡ capture_reading_of reader.reading → whose ≡ wanted_by reader.reading → reader.reading.is_capture ≡ true → f.limit ≡ extent_of how → f.progress.gathering.wanted ≡ whose
    → IsFor reader first → TookSome FeedsOn first now (capture_from reader.old reader.new how whose)
    → Gathered (capture_calls (capture_from reader.old reader.new how whose)) (FeedCause (capture_from reader.old reader.new how whose))
    (λ _. IsFedWhole FeedsOn first now f (capture_from reader.old reader.new how whose)) result
    → FedFrom reader first now f result
fed_from reader first now f result how whose how_is whose_is capture limit wanted for some gathered =
    let same = input_is reader how whose how_is whose_is in
    record {
      capture = capture;
      from = record { limit = limit ∙ ap extent_of how_is; wanted = wanted ∙ whose_is };
      for = for;
      some = subst (TookSome FeedsOn first now) same some;
      gathered = subst (λ (input : CaptureInput). Gathered (capture_calls input) (FeedCause input) (λ _. IsFedWhole FeedsOn first now f input) result) same gathered;
    }

module _ (reader : Input) (first now : PacketFeeder) (f : State) where
  -- it was called as often
  called_so : {T : Type 0} (fed : Result (Unit {0}) InputFault) (result : Result T InputFault) → FedFrom reader first now f fed
      → OnOk result (reader.new.failures ≡ reader.old.failures) → Called (calls_of reader) result
  called_so {T} fed result is no_failure = subst (λ (k : Bool). Called (if k then capture_calls (capture_with reader) else stream_calls reader) result) (sym is.capture) (record {
    no_failure = no_failure;
    reads = is.gathered.called.reads;
    failures = is.gathered.called.failures;
    ends = is.gathered.called.ends;
  })

  answered_err : (fed : Result (Unit {0}) InputFault) (fault : InputFault) → FedFrom reader first now f fed → InputCause reader (IsFaultOfGiven reader) fault
      → Gathered {T = Fed} (calls_of reader) (InputCause reader (IsFaultOfGiven reader)) (IsFed reader) (Err fault)
  answered_err fed fault is cause = record { made = tt; cause = cause; called = called_so fed (Err fault) is tt }

  -- a fault of the packets is told only of a sender at one place
  told_at_one : (fed : Result (Unit {0}) InputFault) → FedFrom reader first now f fed → IsToldAfter fed f → IsAtOne reader
  told_at_one (Ok done) is told = λ octets has gathering cut read wanted accepted.
      let all = is.gathered.made in
      let whole = all_of reader.old.left reader.new.left octets all.given has all.gave.gave all.gave.all in
      let again : IsReadToCut f.limit all.given gathering cut =
      subst (λ (e : Extent). IsReadToCut e all.given gathering cut) (sym is.from.limit)
      (subst (λ (o : List ℕ). IsReadToCut (extent_of (capture_reading_of reader.reading)) o gathering cut) (sym whole) read) in
      let same = same_made f.limit all.given f.progress f.pending gathering cut (wanted ∙ sym is.from.wanted) all.taken again in
      ap (λ (s : Senders). length s) (again.is_read.gathered.senders ∙ ap (senders_listed gathering.wanted.are_listed) same.made
      ∙ ap (λ (w : Wanted). senders_listed w.are_listed (all.taken.leads.gathered.made ++ same.later)) (wanted ∙ sym is.from.wanted)
      ∙ listed_on f.progress.gathering.wanted.are_listed all.taken.leads.gathered.made same.later same.uncounted ∙ sym all.taken.leads.gathered.senders) ∙ told all.given all.fed
  told_at_one (Err refusal) is told = refused_at_one reader refusal is.gathered.cause told

  -- the packets have a fault, or the capture is refused
  why_refused : (ended : State) (fed : Result (Unit {0}) InputFault) (fault : Fault) (result : InputFault) → FedFrom reader first now f fed → now.feeder.fault ≡ Some fault
      → ((result ≡ input_faults.Dump fault) × (fault ≢ faults.Memory → IsToldAfter fed f)) ⊎ (IsErrAnd fed (λ refusal. result ≡ refusal))
      ⊎ (IsOkAnd fed (λ _. (octets : List ℕ) → HasRead f octets → EndsRefused reader.reading f ended octets result)) → InputCause reader (IsFaultOfGiven reader) result
  why_refused ended fed fault result is kept (inl (dump, told)) =
      subst (InputCause reader (IsFaultOfGiven reader)) (sym dump)
      (λ not_memory. dump_fault reader first now is.for is.some is.capture fault kept not_memory (told_at_one fed is (told not_memory)))
  why_refused ended (Err refusal) fault result is kept (inr (inl same)) =
      subst (InputCause reader (IsFaultOfGiven reader)) (sym same) (refused_cause reader (IsFaultOfGiven reader) is.capture refusal is.gathered.cause)
  why_refused ended (Ok done) fault result is kept (inr (inl none)) = absurd none
  why_refused ended (Ok done) fault result is kept (inr (inr ends)) =
      ends_cause reader first now f ended is.from is.gathered.made (IsFaultOfGiven reader) is.capture result ends
  why_refused ended (Err refusal) fault result is kept (inr (inr none)) = absurd none

  pub refused : (ended : State) (fed : Result (Unit {0}) InputFault) (fault : Fault) (result : InputFault) → FedFrom reader first now f fed → now.feeder.fault ≡ Some fault
      → ((result ≡ input_faults.Dump fault) × (fault ≢ faults.Memory → IsToldAfter fed f)) ⊎ (IsErrAnd fed (λ refusal. result ≡ refusal))
      ⊎ (IsOkAnd fed (λ _. (octets : List ℕ) → HasRead f octets → EndsRefused reader.reading f ended octets result))
      → Gathered {T = Fed} (calls_of reader) (InputCause reader (IsFaultOfGiven reader)) (IsFed reader) (Err result)
  refused ended fed fault result is kept why = answered_err fed result is (why_refused ended fed fault result is kept why)

  pub not_fed : (refusal fault : InputFault) → fault ≡ refusal → FedFrom reader first now f (Err refusal)
      → Gathered {T = Fed} (calls_of reader) (InputCause reader (IsFaultOfGiven reader)) (IsFed reader) (Err fault)
  not_fed refusal fault same is =
      answered_err (Err refusal) fault is (subst (InputCause reader (IsFaultOfGiven reader)) (sym same) (refused_cause reader (IsFaultOfGiven reader) is.capture refusal is.gathered.cause))

  pub not_ended : (ended : State) (fault : InputFault) → FedFrom reader first now f (Ok tt) → ((fed : List ℕ) → HasRead f fed → EndsRefused reader.reading f ended fed fault)
      → Gathered {T = Fed} (calls_of reader) (InputCause reader (IsFaultOfGiven reader)) (IsFed reader) (Err fault)
  not_ended ended fault is ends = answered_err (Ok tt) fault is (ends_cause reader first now f ended is.from is.gathered.made (IsFaultOfGiven reader) is.capture fault ends)

  pub no_room : (fault : InputFault) → fault ≡ input_faults.Dump faults.Memory → FedFrom reader first now f (Ok tt)
      → Gathered {T = Fed} (calls_of reader) (InputCause reader (IsFaultOfGiven reader)) (IsFed reader) (Err fault)
  no_room fault memory is = answered_err (Ok tt) fault is (subst (InputCause reader (IsFaultOfGiven reader)) (sym memory) (λ not. absurd (not refl)))

  pub was_fed : (ended : State) → ended.limit ≡ f.limit → ended.progress.context ≡ f.progress.context → (fed : Fed) (notes : CaptureNotes) → FedFrom reader first now f (Ok tt) → ((octets : List ℕ) → HasRead f octets → EndsWith reader.reading f ended octets notes)
      → fed.feeder ≡ now.feeder → fed.expired ≡ expired reader.reading.expiry (moment_read ended) → fed.left_out ≡ first_left_out notes.report
      → IfSome fed.notes (λ said. (said.report ≡ notes.report) × (said.cut ≡ notes.cut)) → is_some fed.notes ≡ true
      → Gathered {T = Fed} (calls_of reader) (InputCause reader (IsFaultOfGiven reader)) (IsFed reader) (Ok fed)
  was_fed ended limit context fed notes is ends feeder_is expired_is left_out_is noted some_notes =
      let all = is.gathered.made in
      record {
        made = is_fed reader first now f ended is.from all is.capture is.for limit context notes (ends all.given all.fed) fed feeder_is expired_is left_out_is noted some_notes;
        cause = tt;
        called = called_so (Ok tt) (Ok fed) is is.gathered.called.no_failure;
      }
