-- What was read of a capture that a reader gave, all of it, and was fed.
use Rattle.std.proofs.Common.{◌≡◌, ℕ, Bool, true, false, if◌then◌else◌, List, ◌++◌, length, Option, None, Some, ap, sym, subst, ◌∙◌, inl, inr, refl}
use Rattle.std.specs.Prelude.{◌⊎◌}
use Rattle.std.proofs.lemmas.Bool.{false≢true}
use Rattle.babel_capture.specs.Blocks.{IsPartial, context_behind, start}
use Rattle.babel_capture.specs.Capture.{CaptureFault, EndsLost, EndsShort, HasRead, HasReadTo, IsReadToCut, State, moment_read}
use Rattle.babel_capture.specs.Context.{Before}
use Rattle.babel_capture.specs.Counts.{Made}
use Rattle.babel_capture.specs.Gathering.{Gathering, IsRefused}
use Rattle.babel_capture.specs.Passage.{missing_in}
use Rattle.babel_capture.specs.Reading.{HasTaken}
use Rattle.babel_capture.specs.Sinking.{EndMore, Sinks}
use Rattle.babel_capture.specs.Window.{Extent, moment_up_to}
use Rattle.babel_capture.specs.declared.fault.Fault.{Fault}
use Rattle.babel_capture.specs.declared.fault.Fault.TheVariants as faults
use Rattle.babel_capture.specs.declared.timing.Timing.{Timing}
use Rattle.babel_capture.specs.declared.wanted.Wanted.{Wanted}
use Rattle.babel_capture.proofs.StreamLaws.{lost-here}
use Rattle.babel_dump.specs.CaptureGiven.{CaptureInput, EndsIncomplete, EndsTooSoon, GaveCapture, GaveRead, GaveSound, IsAccepted, IsFaultOfCapture, IsFedWhole, Took, extent_of, made_in, moment_in}
use Rattle.babel_dump.specs.CaptureRun.{CaptureCause, FeedCause}
use Rattle.babel_dump.specs.LeftOut.{LeavesNoneOut}
use Rattle.babel_dump.specs.declared.capture_input.CaptureRead.{CaptureRead}
use Rattle.babel_dump.specs.declared.input_fault.InputFault.{InputFault}
use Rattle.babel_dump.specs.declared.input_fault.InputFault.TheVariants as input_faults
use Rattle.babel_dump.specs.declared.interfaces.Interfaces.{Interfaces}
use Rattle.babel_dump.proofs.CaptureFeeding.{IsReadFrom, took_more}
use Rattle.babel_dump.proofs.FollowLaws.{same_made}

-- why it was not read to its end
pub feed_cause : (reader : CaptureInput) (Several : Interfaces → Type 0) (fault : InputFault) → FeedCause reader fault → CaptureCause reader Several fault
feed_cause reader Several input_faults.Read cause = cause
feed_cause reader Several (input_faults.Capture fault) cause = cause
feed_cause reader Several fault cause = absurd cause

-- up to a place where it is cut short is a fault of it
pub cut_short : (limit : Extent) (octets : List ℕ) (gathering : Gathering) (at : ℕ) → IsReadToCut limit octets gathering (Some at) → EndsShort limit gathering.wanted octets (faults.CutShort at)
cut_short limit octets gathering at is = record {
  blocks = is.is_read.blocks;
  rest = is.rest;
  made = is.is_read.gathered.made;
  whole = is.whole ∙ ap (λ (front : List ℕ). front ++ is.rest) is.is_read.whole;
  are_blocks = is.is_read.are_blocks;
  taken = is.is_read.gathered.taken;
  partial = subst (λ (front : List ℕ). IsPartial (context_behind (start limit) is.is_read.blocks) (length front) is.rest) is.is_read.whole is.partial;
  short = elim is.where_cut [
    | inl none ↦ absurd (let bad : Some at ≡ None = none.1 in cc)
    | inr some ↦ inr (is.is_read.started, some.0, let place : at ≡ length is.read = cc in ap faults.CutShort (place ∙ ap length is.is_read.whole))
  ];
}

-- the moment up to which packets were read
abbrev pub moment_by : Extent → Before → Timing → Option ℕ
moment_by extent behind timing = if timing.has_untimed then None else moment_up_to extent.window behind.start timing.latest

-- fragments that are missing at its end refuse it
pub lost_of : (state : State) (fault : Fault) → state.fault ≡ None → IsRefused state.progress.gathering.wanted state.progress.gathering.senders (missing_in state.progress.known.unfinished) fault
    → (fed : List ℕ) → HasRead state fed → EndsLost state.limit state.progress.gathering.wanted fed fault
lost_of state fault none refuses fed read =
    lost-here state.limit state.progress state.pending fed (subst (λ (f : Option Fault). HasReadTo state f fed) none read) fault refuses

module _ {S : Type 0} (has : S → S → List Made → Type 0) (first now last : S) (reader : CaptureInput) (f ended : State) (from : IsReadFrom f reader.reading reader.wanted)
    (all : IsFedWhole has first now f reader) (limit : ended.limit ≡ f.limit) (context : ended.progress.context ≡ f.progress.context)
    (wanted : ended.progress.gathering.wanted ≡ f.progress.gathering.wanted) where
  -- the octets are a capture, whose last block may be cut short where that is accepted
  pub given_capture : (cut : Option ℕ) → ((fed : List ℕ) → HasRead f fed → IsReadToCut f.limit fed ended.progress.gathering cut)
      → IsAccepted reader.reading.accept_cut cut → GaveCapture reader ended.progress.gathering cut
  given_capture cut read accepted = record {
    octets = all.given;
    gave = all.gave;
    is_read = subst (λ (e : Extent). IsReadToCut e all.given ended.progress.gathering cut) from.limit (read all.given all.fed);
    accepted = accepted;
    wanted = wanted ∙ from.wanted;
  }

  -- it was fed so, at the extent that was asked for, and the sink took what is seen at its end, too
  record IsEndedAt (cut : Option ℕ) (extent : Extent) : Type 0 where
    pub taken : HasTaken extent f.progress f.pending all.given
    pub is_read : IsReadToCut extent all.given ended.progress.gathering cut
    pub took : Took has first last is_read.is_read.gathered.made

  ended_at : (cut : Option ℕ) → Sinks has now last (EndMore f.progress f.pending ended.progress.gathering cut) → IsEndedAt cut (extent_of reader.reading)
  ended_at cut sunk =
      let ends = sunk.are_read f.limit all.given all.taken in
      subst (IsEndedAt cut) from.limit (record {
        taken = all.taken;
        is_read = ends.0;
        took = subst (Took has first last) (sym ends.1) (took_more has first now last all.taken.leads.gathered.made sunk.more all.took sunk.took);
      })

  -- and this was read of it
  record IsReadSo (moment cut : Option ℕ) (gathering : Gathering) : Type 0 where
    pub gave : GaveSound reader gathering cut
    pub moment_is : moment ≡ moment_in gave.given
    pub took : Took has first last (made_in gave.given)

  read_so : (moment cut : Option ℕ) → Sinks has now last (EndMore f.progress f.pending ended.progress.gathering cut) → IsAccepted reader.reading.accept_cut cut
      → (reader.reading.strict ≡ true → LeavesNoneOut ended.progress.gathering.report) → moment ≡ moment_read ended → IsReadSo moment cut ended.progress.gathering
  read_so moment cut sunk accepted strict is =
      let extent : Extent = extent_of reader.reading in
      let at = ended_at cut sunk in
      let same = same_made extent all.given f.progress f.pending ended.progress.gathering cut wanted at.taken at.is_read in
      let timing : Timing = ended.progress.gathering.report.timing in
      let behind : ended.progress.context ≡ context_behind (start extent) at.is_read.is_read.blocks =
      context ∙ at.taken.leads.context ∙ ap (context_behind (start extent)) (sym same.blocks) in
      record {
        gave = record { given = record { octets = all.given; gave = all.gave; is_read = at.is_read; accepted = accepted; wanted = wanted ∙ from.wanted }; strict = strict };
        moment_is = is ∙ ap (λ (e : Extent). moment_by e ended.progress.context timing) (limit ∙ from.limit) ∙ ap (λ (b : Before). moment_by extent b timing) behind;
        took = at.took;
      }

  pub given_read : (read : CaptureRead) → Sinks has now last (EndMore f.progress f.pending ended.progress.gathering read.cut) → read.gathered ≡ ended.progress.gathering
      → IsAccepted reader.reading.accept_cut read.cut → (reader.reading.strict ≡ true → LeavesNoneOut ended.progress.gathering.report) → read.moment ≡ moment_read ended
      → GaveRead has first last reader read
  given_read read sunk gathered accepted strict moment =
      let so = subst (IsReadSo read.moment read.cut) (sym gathered) (read_so read.moment read.cut sunk accepted strict moment) in
      record { gave = so.gave; moment_is = so.moment_is; took = so.took }

  -- it is cut short, and that is not accepted
  pub given_cut : (at : ℕ) (fault : Fault) → ((fed : List ℕ) → HasRead f fed → IsReadToCut f.limit fed ended.progress.gathering (Some at))
      → reader.reading.accept_cut ≡ false → fault ≡ faults.CutShort at → IsFaultOfCapture reader fault
  given_cut at fault read_to not_accepted is_short =
      let extent : Extent = extent_of reader.reading in
      let gathering : Gathering = ended.progress.gathering in
      let is : IsReadToCut extent all.given gathering (Some at) = subst (λ (e : Extent). IsReadToCut e all.given gathering (Some at)) from.limit (read_to all.given all.fed) in
      let short : EndsShort extent reader.wanted all.given (faults.CutShort at) =
      subst (λ (w : Wanted). EndsShort extent w all.given (faults.CutShort at)) (wanted ∙ from.wanted) (cut_short extent all.given gathering at is) in
      record {
        given = all.given;
        gave = all.gave.gave;
        refused = inr (inl (record {
          all = all.gave;
          short = subst (EndsShort extent reader.wanted all.given) (sym is_short) short;
          not_accepted = λ accepted. absurd (false≢true (sym not_accepted ∙ accepted));
        }));
      }

module _ {S : Type 0} (has : S → S → List Made → Type 0) (first now : S) (reader : CaptureInput) (f : State) (from : IsReadFrom f reader.reading reader.wanted)
    (all : IsFedWhole has first now f reader) where
  -- the octets have a fault
  pub given_fault : (fault : Fault) → ((fed : List ℕ) → HasRead f fed → reader.reading.accept_cut ≡ true → (fault ≡ faults.NotCapture)
      ⊎ EndsLost f.limit f.progress.gathering.wanted fed fault)
      → ((fed : List ℕ) → HasRead f fed → CaptureFault f.limit f.progress.gathering.wanted fed fault) → IsFaultOfCapture reader fault
  given_fault fault not_accepted refused = record { given = all.given; gave = all.gave.gave; refused = elim is [ inl stops ↦ inl stops | inr (inl short) ↦ inr (ends_short short) | inr (inr lost) ↦ inr (inr (ends_lost lost)) ] }
    where
      is : CaptureFault (extent_of reader.reading) reader.wanted all.given fault
      is = rw (← from.limit, ← from.wanted) (refused all.given all.fed)

      ends_lost : EndsLost (extent_of reader.reading) reader.wanted all.given fault → EndsIncomplete reader all.given fault
      ends_lost lost = record { all = all.gave; lost = lost }

      lost_here : EndsLost f.limit f.progress.gathering.wanted all.given fault → EndsIncomplete reader all.given fault
      lost_here lost = ends_lost (rw (← from.limit, ← from.wanted) lost)

      by : EndsShort (extent_of reader.reading) reader.wanted all.given fault → (accepted : Bool) → reader.reading.accept_cut ≡ accepted
          → EndsTooSoon reader all.given fault ⊎ EndsIncomplete reader all.given fault
      by short false not = inl (record { all = all.gave; short = short; not_accepted = λ accepted. absurd (false≢true (sym not ∙ accepted)) })
      by short true accepted = elim (not_accepted all.given all.fed accepted) [
        | inl none ↦ inl (record { all = all.gave; short = short; not_accepted = λ _. none })
        | inr lost ↦ inr (lost_here lost)
      ]

      ends_short : EndsShort (extent_of reader.reading) reader.wanted all.given fault → EndsTooSoon reader all.given fault ⊎ EndsIncomplete reader all.given fault
      ends_short short = by short reader.reading.accept_cut refl
