-- Why a run of `events` fails, from its parts.
use Rattle.std.proofs.Common.{◌≡◌, ◌≢◌, ℕ, ◌<◌, Bool, true, false, List, [], ◌∷◌, ◌++◌, length, map, Option, None, Some, Result, Ok, Err, refl, sym, ap, subst, ◌∙◌, inl, inr, append-nil, append_assoc}
use Rattle.std.specs.Prelude.{IfErr, IfOk, IsErrAnd, OnOk, ◌⊎◌}
use Rattle.babel_capture.specs.Capture.{CaptureFault, EndsLost, EndsShort, HasRead, HasReadTo, IsReadToCut, State}
use Rattle.babel_capture.specs.Blocks.{IsPartial, context_behind, passage_of, sightings_of, sightings_to_end, start}
use Rattle.babel_capture.specs.Context.{Before}
use Rattle.babel_capture.specs.Counts.{Counts, Made}
use Rattle.babel_capture.specs.Gathering.{AreMade, Gathering, IsRefused as IsRefusedAtEnd}
use Rattle.babel_capture.specs.Passage.{Passage, Sighting, missing_in}
use Rattle.babel_capture.specs.Reading.{HasTaken, Progress, Stops}
use Rattle.babel_capture.specs.Sinking.{EndMore, FeedMore, GatherSome, Sinks, StopMore, StopsBehind}
use Rattle.babel_capture.specs.Window.{Extent}
use Rattle.babel_capture.specs.declared.fault.Fault.{Fault}
use Rattle.babel_capture.specs.declared.fault.Fault.TheVariants as capture_faults
use Rattle.babel_capture.specs.declared.tallies.Origin.{Origin}
use Rattle.babel_capture.specs.declared.wanted.Wanted.{Wanted}
use Rattle.babel_tlv.specs.declared.fault.Fault.TheVariants as faults
use Rattle.babel_timeline.specs.declared.telling.Telling.{Telling}
use Rattle.babel_dump.specs.CaptureGiven.{BeginsWith, CaptureInput, EndsIncomplete, EndsTooSoon, GaveCapture, IsFaultOfCapture, IsMadeToEnd}
use Rattle.babel_dump.specs.Device.{Gave, InputState, OutputState}
use Rattle.babel_dump.specs.EventsCause.{EventsCause, Fails, GaveNobody, GaveRefused, HasNobody, HasUnread, InputFails, IsBackwards, IsRefused, IsTooLate, IsUnreadIn, IsWhole, RefusesOctets, RefusesOneOf, RefusesPiece, RefusesRecord, RefusesToEnd, RefusesWhole, TellsFault, events_input, nameless, reading_by}
use Rattle.babel_dump.specs.EventsRun.{followed_by, followed_extent}
use Rattle.babel_dump.specs.Followed.{Follows, HasFollowed, HasHeardFollowed, HasStopped, IsFollowed, IsFollowedToEnd, IsHeardOf, trouble_of}
use Rattle.babel_dump.specs.FollowedSenders.{followed as followed_in, with_packets}
use Rattle.babel_dump.specs.HeardSenders.{heard_of, heard_told}
use Rattle.babel_dump.specs.LeftOut.{first_left_out}
use Rattle.babel_dump.specs.Run.{Output, output}
use Rattle.babel_dump.specs.Trouble.{is_empty_window}
use Rattle.babel_dump.specs.declared.events.Followed.{Followed}
use Rattle.babel_dump.specs.declared.events_job.Events.{Events}
use Rattle.babel_dump.specs.declared.events_outcome.HeardSender.{HeardSender}
use Rattle.babel_dump.specs.declared.follower.Follower.{Follower}
use Rattle.babel_dump.specs.declared.hearing.Unheard.TheVariants as unheard
use Rattle.babel_dump.specs.declared.input_fault.InputFault.{InputFault}
use Rattle.babel_dump.specs.declared.input_fault.InputFault.TheVariants as input_faults
use Rattle.babel_dump.specs.declared.left_out.LeftOutDatagram.{LeftOutDatagram}
use Rattle.babel_dump.specs.declared.run_fault.RunFault.TheVariants as run_faults
use Rattle.babel_dump.specs.declared.run_fault.Side.TheVariants as sides
use Rattle.babel_dump.specs.declared.speaker.Speaker.{Speaker}
use Rattle.babel_dump.specs.declared.stop.Stop.{Stop}
use Rattle.babel_dump.specs.declared.stop.Stop.TheVariants as stops
use Rattle.babel_dump.specs.declared.trouble.Trouble.{Trouble}
use Rattle.babel_dump.specs.declared.trouble.Trouble.TheVariants as troubles
use Rattle.babel_dump.proofs.CaptureReads.{cut_short, lost_of}
use Rattle.babel_dump.proofs.Devices.{gave_more}
use Rattle.babel_dump.proofs.FollowRuns.{IsFollowedSoFar}
use Rattle.babel_dump.proofs.HeardLaws.{heard_senders}
use Rattle.babel_dump.proofs.TakeLaws.{follows_none}

-- what holds of the error with which a `?` exits
pub err_exit : {T E : Type 0} {Q P : E → Type 0} (r : Result T E) → IsErrAnd r Q → ((y : E) → Q y → P y) → IfErr r P
err_exit (Ok x) is holds = tt
err_exit (Err y) is holds = holds y is

pub if_err_so : {T E : Type 0} {P Q : E → Type 0} (r : Result T E) → ((y : E) → P y → Q y) → IfErr r P → IfErr r Q
if_err_so (Ok x) leads holds = tt
if_err_so (Err y) leads holds = leads y holds

-- what holds of what is answered
pub if_ok_at : {T E : Type 0} (P : T → Type 0) (r : Result T E) (x : T) → r ≡ Ok x → IfOk r P → P x
if_ok_at P r x is holds = subst (λ s. IfOk s P) is holds

-- ---- a cause is one of a larger part

module _ (events : Events) (R S : Fault → Type 0) (N M U V W X : Type 0) (P Q : Trouble → Type 0) (refused : (fault : Fault) → R fault → S fault) (none : N → M) (unread : U → V) (unwritten : W → X)
    (told : (trouble : Trouble) → P trouble → Q trouble) where
  input_fails : (fault : InputFault) → InputFails events R N U P fault → InputFails events S M V Q fault
  input_fails input_faults.Read fails = unread fails
  input_fails (input_faults.Capture fault) fails = λ not_memory. refused fault (fails not_memory)
  input_fails (input_faults.NoPackets absence) fails = (fails.0, none fails.1)
  input_fails (input_faults.Dump fault) fails = fails
  input_fails (input_faults.LeftOut datagram) fails = told (troubles.Fault (run_faults.Input sides.First (input_faults.LeftOut datagram))) fails
  input_fails fault fails = absurd fails

  pub fails_so : (trouble : Trouble) → Fails events R N U W P trouble → Fails events S M V X Q trouble
  fails_so (troubles.Fault (run_faults.Input sides.First fault)) fails = input_fails fault fails
  fails_so (troubles.Fault run_faults.Write) fails = unwritten fails
  fails_so (troubles.Backwards since until) fails =
      elim fails [ inl empty ↦ inl (empty.0, refused (capture_faults.EmptyWindow empty.0) empty.1) | inr is ↦ inr (told (troubles.Backwards since until) is) ]
  fails_so (troubles.Sender side origin name fault) fails = told (troubles.Sender side origin name fault) fails
  fails_so trouble fails = absurd fails

module _ (events : Events) (R : Fault → Type 0) (N U W : Type 0) (P : Trouble → Type 0) where
  pub of_memory : (trouble : Trouble) → trouble ≡ troubles.Fault (run_faults.Input sides.First (input_faults.Dump faults.Memory)) → Fails events R N U W P trouble
  of_memory trouble is = subst (Fails events R N U W P) (sym is) refl

  pub of_write : (trouble : Trouble) → trouble ≡ troubles.Fault run_faults.Write → W → Fails events R N U W P trouble
  of_write trouble is failed = subst (Fails events R N U W P) (sym is) failed

  pub of_backwards : (trouble : Trouble) → IsBackwards trouble → P trouble → Fails events R N U W P trouble
  of_backwards (troubles.Backwards since until) is told = inr told
  of_backwards trouble is told = absurd is

  empty_window : (fault : InputFault) (trouble : Trouble) → IsBackwards trouble → is_empty_window fault ≡ true → InputFails events R N U P fault → Fails events R N U W P trouble
  empty_window (input_faults.Capture (capture_faults.EmptyWindow at)) (troubles.Backwards since until) is empty fails = inl (at, fails (λ memory. absurd cc))
  empty_window (input_faults.Capture (capture_faults.EmptyWindow at)) trouble is empty fails = absurd is
  empty_window fault trouble is empty fails = absurd cc

  pub of_fault : (fault : InputFault) (trouble : Trouble) → TellsFault sides.First fault trouble → InputFails events R N U P fault → Fails events R N U W P trouble
  of_fault fault trouble tells fails = by (is_empty_window fault) refl
    where
      by : (b : Bool) → is_empty_window fault ≡ b → Fails events R N U W P trouble
      by true is = empty_window fault trouble (tells.0 is) is fails
      by false is = subst (Fails events R N U W P) (sym (tells.1 is)) fails

  -- the name of a sender counts for nothing
  module _ (unnamed : (trouble : Trouble) → P trouble → P (nameless trouble)) (named : (trouble : Trouble) → P (nameless trouble) → P trouble) where
    without_name : (trouble : Trouble) → Fails events R N U W P trouble → Fails events R N U W P (nameless trouble)
    without_name (troubles.Sender side origin name fault) fails = unnamed (troubles.Sender side origin name fault) fails
    without_name trouble fails = fails

    with_name : (trouble : Trouble) → Fails events R N U W P (nameless trouble) → Fails events R N U W P trouble
    with_name (troubles.Sender side origin name fault) fails = named (troubles.Sender side origin name fault) fails
    with_name trouble fails = fails

    pub named_so : (old new : Trouble) → nameless new ≡ nameless old → Fails events R N U W P old → Fails events R N U W P new
    named_so old new same fails = with_name new (subst (Fails events R N U W P) (sym same) (without_name old fails))

-- ---- the parts of a run

-- the capture that is followed was fed these octets
pub fed_so : (events : Events) (fed : List ℕ) (told : List (Telling Speaker)) (followed : Followed) → IsFollowed events fed told followed → HasRead followed.capture fed
fed_so events fed told followed is =
    subst (λ (fault : Option Fault). HasReadTo followed.capture fault fed) (sym is.no_fault)
    (subst (λ (e : Extent). HasTaken e followed.capture.progress followed.capture.pending fed) (sym is.limit) is.read)

-- it is read as is asked for
as_asked : (events : Events) (fed : List ℕ) (told : List (Telling Speaker)) (followed : Followed) (fault : Fault) → IsFollowed events fed told followed
    → CaptureFault followed.capture.limit followed.capture.progress.gathering.wanted fed fault → CaptureFault (followed_extent events) (followed_by events) fed fault
as_asked events fed told followed fault is refused =
    subst (λ (w : Wanted). CaptureFault (followed_extent events) w fed fault) is.wanted
    (subst (λ (e : Extent). CaptureFault e followed.capture.progress.gathering.wanted fed fault) is.limit refused)

lost_as_asked : (events : Events) (fed : List ℕ) (told : List (Telling Speaker)) (followed : Followed) (fault : Fault) → IsFollowed events fed told followed
    → EndsLost followed.capture.limit followed.capture.progress.gathering.wanted fed fault → EndsLost (followed_extent events) (followed_by events) fed fault
lost_as_asked events fed told followed fault is lost =
    subst (λ (w : Wanted). EndsLost (followed_extent events) w fed fault) is.wanted
    (subst (λ (e : Extent). EndsLost e followed.capture.progress.gathering.wanted fed fault) is.limit lost)

-- a piece more has a fault
pub piece_refused : (events : Events) (fed piece : List ℕ) (told : List (Telling Speaker)) (followed : Followed) (new : State) (fault : Fault) → IsFollowed events fed told followed
    → ((octets : List ℕ) → HasRead followed.capture octets → HasRead new (octets ++ piece))
    → (new.limit ≡ followed.capture.limit) × (new.progress.gathering.wanted ≡ followed.capture.progress.gathering.wanted) → new.fault ≡ Some fault
    → fault ≢ capture_faults.Memory → RefusesPiece events (fed ++ piece) fault
piece_refused events fed piece told followed new fault is read same kept not_memory =
    let here = read fed (fed_so events fed told followed is) in
    let stops : Stops new.limit new.progress.gathering.wanted (fed ++ piece) fault =
    elim (subst (λ (f : Option Fault). HasReadTo new f (fed ++ piece)) kept here) [ inl memory ↦ absurd (not_memory memory) | inr stops ↦ stops ] in
    subst (λ (w : Wanted). Stops (followed_extent events) w (fed ++ piece) fault) (same.1 ∙ is.wanted)
    (subst (λ (e : Extent). Stops e new.progress.gathering.wanted (fed ++ piece) fault) (same.0 ∙ is.limit) stops)

-- the capture is cut short, and that is not accepted
pub cut_refused : (events : Events) (fed : List ℕ) (told : List (Telling Speaker)) (old : Followed) (ended : State) (at : ℕ) → IsFollowed events fed told old
    → ((octets : List ℕ) → HasRead old.capture octets → IsReadToCut old.capture.limit octets ended.progress.gathering (Some at))
    → ended.progress.gathering.wanted ≡ old.capture.progress.gathering.wanted → events.accept_cut ≡ false → RefusesWhole events fed (capture_faults.CutShort at)
cut_refused events fed told old ended at is read wanted not_accepted = (
  as_asked events fed told old (capture_faults.CutShort at) is
      (subst (λ (w : Wanted). CaptureFault old.capture.limit w fed (capture_faults.CutShort at)) wanted
      (inr (inl (cut_short old.capture.limit fed ended.progress.gathering at (read fed (fed_so events fed told old is)))))),
  λ accepted. absurd (let bad : true ≡ false = sym accepted ∙ not_accepted in cc),
)

-- it is none, or fragments are missing at its end
pub whole_refused : (events : Events) (fed : List ℕ) (told : List (Telling Speaker)) (followed : Followed) (fault : Fault) → IsFollowed events fed told followed → fault ≢ capture_faults.Memory
    → (fault ≡ capture_faults.NotCapture)
    ⊎ IsRefusedAtEnd followed.capture.progress.gathering.wanted followed.capture.progress.gathering.senders (missing_in followed.capture.progress.known.unfinished) fault
    → (fault ≢ capture_faults.Memory → (octets : List ℕ) → HasRead followed.capture octets
    → CaptureFault followed.capture.limit followed.capture.progress.gathering.wanted octets fault) → RefusesWhole events fed fault
whole_refused events fed told followed fault is not_memory why refused = (
  as_asked events fed told followed fault is (refused not_memory fed (fed_so events fed told followed is)),
  λ _. elim why [
    | inl none ↦ inl none
    | inr lost ↦
        inr (lost_as_asked events fed told followed fault is (lost_of followed.capture fault is.no_fault lost fed (fed_so events fed told followed is)))
  ],
)

of_nobody : (followed : Followed) (origins : List Origin) → map (heard_of followed) origins ≡ [] → origins ≡ []
of_nobody followed [] none = refl
of_nobody followed (origin ∷ origins) none = absurd cc

-- it was ended, and is read whole
abbrev pub is_whole : (events : Events) (fed : List ℕ) (told : List (Telling Speaker)) (cut : Option ℕ) (followed : Followed) → IsFollowedToEnd events fed told cut followed
    → IsWhole events fed followed.capture.progress.gathering
is_whole events fed told cut followed is = record { cut = cut; is_read = is.is_read; accepted = is.accepted; wanted = is.wanted }

-- ---- a record that is refused

pub begins_more : (events : Events) (octets : List ℕ) (progress : Progress) (pending : List ℕ) (made : List Made) → progress.gathering.wanted ≡ followed_by events
    → (now : HasTaken (followed_extent events) progress pending octets) → now.leads.gathered.made ≡ made → BeginsWith (reading_by events) (followed_by events) octets made
begins_more events octets progress pending made wanted now is = record {
  blocks = now.leads.blocks;
  rest = now.rest;
  whole = now.whole ∙ ap (λ (t : List ℕ). t ++ now.rest) now.leads.whole;
  are_blocks = now.leads.are_blocks;
  front = sightings_of now.leads.blocks;
  back = [];
  parts = sym (append-nil (sightings_of now.leads.blocks));
  are_made = subst (AreMade (followed_by events) (sightings_of now.leads.blocks)) is
      (subst (λ (w : Wanted). AreMade w (sightings_of now.leads.blocks) now.leads.gathered.made) wanted now.leads.gathered.taken.are_made);
}

pub begins_behind : (events : Events) (octets : List ℕ) (wanted : Wanted) (made : List Made) → wanted ≡ followed_by events → StopsBehind (followed_extent events) wanted octets made
    → BeginsWith (reading_by events) (followed_by events) octets made
begins_behind events octets wanted made is behind = record {
  blocks = behind.blocks;
  rest = behind.rest;
  whole = behind.whole;
  are_blocks = behind.are_blocks;
  front = behind.front;
  back = behind.back;
  parts = behind.parts;
  are_made = subst (λ (w : Wanted). AreMade w behind.front made) is behind.taken.are_made;
}

-- at the end of a capture
made_to_end : (events : Events) (octets : List ℕ) (gathering : Gathering) (cut : Option ℕ) (made : List Made) → gathering.wanted ≡ followed_by events
    → (is : IsReadToCut (followed_extent events) octets gathering cut) → is.is_read.gathered.made ≡ made → IsMadeToEnd (reading_by events) (followed_by events) octets made
made_to_end events octets gathering cut made wanted is same =
    let read = is.is_read in
    let all = sightings_to_end read.blocks in
    record {
      blocks = read.blocks;
      rest = is.rest;
      whole = is.whole ∙ ap (λ (t : List ℕ). t ++ is.rest) read.whole;
      are_blocks = read.are_blocks;
      partial = subst (λ (t : List ℕ). IsPartial (context_behind (start (followed_extent events)) read.blocks) (length t) is.rest) read.whole is.partial;
      front = all;
      back = [];
      parts = sym (append-nil all);
      are_made = subst (AreMade (followed_by events) all) same (subst (λ (w : Wanted). AreMade w all read.gathered.made) wanted read.gathered.taken.are_made);
    }

some_to_end : (events : Events) (octets : List ℕ) (progress : Progress) (pending : List ℕ) (more : List Made) → progress.gathering.wanted ≡ followed_by events
    → (was : HasTaken (followed_extent events) progress pending octets) → GatherSome progress.gathering (missing_in progress.known.unfinished) more
    → IsMadeToEnd (reading_by events) (followed_by events) octets (was.leads.gathered.made ++ more)
some_to_end events octets progress pending more wanted was some =
    let blocks = was.leads.blocks in
    let seen = sightings_of blocks in
    let at_end = some seen was.leads.gathered in
    let known : missing_in progress.known.unfinished ≡ missing_in (passage_of blocks).known.unfinished = ap (λ (p : Passage). missing_in p.known.unfinished) was.leads.passage in
    record {
      blocks = blocks;
      rest = was.rest;
      whole = was.whole ∙ ap (λ (t : List ℕ). t ++ was.rest) was.leads.whole;
      are_blocks = was.leads.are_blocks;
      partial = subst (λ (n : ℕ). IsPartial (context_behind (start (followed_extent events)) blocks) n was.rest) (was.leads.place ∙ ap length was.leads.whole)
          (subst (λ (c : Before). IsPartial c progress.at was.rest) was.leads.context was.partial);
      front = seen ++ at_end.0;
      back = at_end.1;
      parts = ap (λ (s : List Sighting). seen ++ s) (sym known ∙ at_end.2) ∙ sym (append_assoc seen at_end.0 at_end.1);
      are_made = subst (λ (w : Wanted). AreMade w (seen ++ at_end.0) (was.leads.gathered.made ++ more)) wanted at_end.3.are_made;
    }

-- it is one of a piece, which was fed whole or up to a fault, or one at the end
module _ (events : Events) (fed : List ℕ) (told : List (Telling Speaker)) (old : Followed) (is : IsFollowed events fed told old) (follower : Follower) (stop : Stop)
    (stopped : follower.fault ≡ Some stop) (not_memory : stop ≢ stops.Unheard unheard.Memory) where
  abbrev was_made : List Made
  was_made = is.read.leads.gathered.made

  refused_one : (more : List Made) → ((start : Follower) (made : List Made) → Follows start old.follower made → Follows start follower (made ++ more))
      → RefusesOneOf events (was_made ++ more) (trouble_of stop)
  refused_one more took =
      let follows = took old.follower [] (follows_none old.follower) in
      let was = subst (λ (e : Events). HasHeardFollowed e was_made told old.follower) (sym is.events_are) is.has_heard in
      let has = subst (λ (e : Events). HasStopped e (was_made ++ more) stop (told ++ follower.told.items)) is.events_are (follows.2 stop stopped is.sound was_made told was) in
      record { front = has.front; one = has.one; back = has.back; are = has.are; refused = has.refused not_memory }

  pub record_in_piece : {T E : Type 0} (piece : List ℕ) (new : State) (result : Result T E)
      → OnOk result (Sinks Follows old.follower follower (FeedMore old.capture.progress old.capture.pending new.progress new.pending piece))
      → IfErr result (λ _. Sinks Follows old.follower follower (StopMore old.capture.progress old.capture.pending piece))
      → new.progress.gathering.wanted ≡ old.capture.progress.gathering.wanted → RefusesRecord events (fed ++ piece) (trouble_of stop)
  record_in_piece piece new (Ok done) sunk behind wanted =
      let read = sunk.are_read (followed_extent events) fed is.read in
      let made = was_made ++ sunk.more in
      (made, begins_more events (fed ++ piece) new.progress new.pending made (wanted ∙ is.wanted) read.0 read.1, refused_one sunk.more sunk.took)
  record_in_piece piece new (Err fault) sunk behind wanted =
      let made = was_made ++ behind.more in
      (made, begins_behind events (fed ++ piece) old.capture.progress.gathering.wanted made is.wanted (behind.are_read (followed_extent events) fed is.read), refused_one behind.more behind.took)

  pub record_at_end : {E : Type 0} (new : State) (result : Result (Option ℕ) E)
      → IfOk result (λ cut. Sinks Follows old.follower follower (EndMore old.capture.progress old.capture.pending new.progress.gathering cut))
      → IfErr result (λ _. Sinks Follows old.follower follower (GatherSome old.capture.progress.gathering (missing_in old.capture.progress.known.unfinished)))
      → new.progress.gathering.wanted ≡ old.capture.progress.gathering.wanted → RefusesToEnd events fed (trouble_of stop)
  record_at_end new (Ok cut) sunk behind wanted =
      let read = sunk.are_read (followed_extent events) fed is.read in
      let made = was_made ++ sunk.more in
      (made, made_to_end events fed new.progress.gathering cut made (wanted ∙ is.wanted) read.0 read.1, refused_one sunk.more sunk.took)
  record_at_end new (Err fault) sunk behind wanted = (
    was_made ++ behind.more,
    some_to_end events fed old.capture.progress old.capture.pending behind.more is.wanted is.read behind.are_read,
    refused_one behind.more behind.took,
  )

-- one moment is later than another one
pub too_late : (events : Events) (octets : List ℕ) (trouble : Trouble) → IsBackwards trouble × IsTooLate events → RefusesOctets events octets trouble
too_late events octets (troubles.Backwards since until) (is, late) = late
too_late events octets trouble (is, late) = absurd is

-- what is told of why no more is heard
pub of_stop : (events : Events) (R : Fault → Type 0) (N U W : Type 0) (P : Trouble → Type 0) (stop : Stop) (trouble : Trouble) → trouble ≡ trouble_of stop
    → (stop ≢ stops.Unheard unheard.Memory → P (trouble_of stop)) → Fails events R N U W P trouble
of_stop events R N U W P stop trouble is refused = subst (Fails events R N U W P) (sym is) (by stop refused)
  where
    by : (stop : Stop) → (stop ≢ stops.Unheard unheard.Memory → P (trouble_of stop)) → Fails events R N U W P (trouble_of stop)
    by (stops.Unheard unheard.Memory) refused = refl
    by (stops.Unheard (unheard.Sender origin fault)) refused = refused (λ same. absurd cc)
    by (stops.LeftOut datagram) refused = refused (λ same. absurd cc)
    by (stops.Ignored origin tlv ignores_4) refused = refused (λ same. absurd cc)

-- of octets it is told of a record
pub of_octets : (events : Events) (octets : List ℕ) (stop : Stop) → RefusesRecord events octets (trouble_of stop) → RefusesOctets events octets (trouble_of stop)
of_octets events octets (stops.Unheard unheard.Memory) refused = refused
of_octets events octets (stops.Unheard (unheard.Sender origin fault)) refused = refused
of_octets events octets (stops.LeftOut datagram) refused = refused
of_octets events octets (stops.Ignored origin tlv ignores_4) refused = refused

-- ---- what is not read whole

module _ (events : Events) (fed : List ℕ) (told : List (Telling Speaker)) (cut : Option ℕ) (followed : Followed) (is : IsFollowedToEnd events fed told cut followed)
    (senders : List HeardSender) (are : map heard_told senders ≡ map (heard_of followed) (with_packets followed.follower.senders.senders.entries)) where
  abbrev whole : IsWhole events fed followed.capture.progress.gathering
  whole = is_whole events fed told cut followed is

  pub has_unread : (trouble : Trouble) → events.strict ≡ true → IsUnreadIn followed.capture.progress.gathering.report senders trouble → HasUnread events fed trouble
  has_unread trouble strict unread =
      let made = is.is_read.is_read.gathered.made in
      let heard = heard_senders events (followed_in made) followed
      (λ speaker. subst (λ (m : List Made). IsHeardOf events m followed.follower.hearing.teller.heard.entries speaker) is.has_heard.1.are_made (is.has_heard.1.heard speaker)) senders
      (with_packets followed.follower.senders.senders.entries) are in
      inl (followed.capture.progress.gathering, whole, record { strict = strict; senders = senders; are = heard.0 ∙ ap with_packets is.has_heard.0; heard = heard.1; unread = unread })

  pub has_nobody : senders ≡ [] → HasNobody events fed
  has_nobody none =
      let nobody = of_nobody followed (with_packets followed.follower.senders.senders.entries) (sym are ∙ ap (map heard_told) none) in
      (followed.capture.progress.gathering, whole, ap with_packets (sym is.has_heard.0) ∙ nobody)

pub of_unread : (events : Events) (R : Fault → Type 0) (N U W : Type 0) (P : Trouble → Type 0) (counts : Counts) (senders : List HeardSender) (trouble : Trouble) → IsUnreadIn counts senders trouble
    → P trouble → Fails events R N U W P trouble
of_unread events R N U W P counts senders (troubles.Sender side origin name fault) unread told = told
of_unread events R N U W P counts senders (troubles.Fault (run_faults.Input sides.First (input_faults.LeftOut datagram))) unread told = told
of_unread events R N U W P counts senders trouble unread told = absurd unread

-- the first datagram that was left out
pub left_out_of : (counts : Counts) (senders : List HeardSender) (fault : InputFault) (datagram : LeftOutDatagram) (trouble : Trouble) → TellsFault sides.First fault trouble
    → first_left_out counts ≡ Some datagram → fault ≡ input_faults.LeftOut datagram → IsUnreadIn counts senders trouble
left_out_of counts senders fault datagram trouble tells first is =
    let told = subst (λ (f : InputFault). TellsFault sides.First f trouble) is tells in
    subst (IsUnreadIn counts senders) (sym (told.1 refl)) first

-- ---- whatever the name of its interface

unnamed_record : (events : Events) (front : List Made) (one : Made) (trouble : Trouble) → IsRefused events front one trouble → IsRefused events front one (nameless trouble)
unnamed_record events front one (troubles.Sender side origin name (input_faults.Dump fault)) refused = refused
unnamed_record events front one (troubles.Sender side origin name (input_faults.Ignored tlv ignores_4)) refused = refused
unnamed_record events front one (troubles.Sender side origin name fault) refused = absurd refused
unnamed_record events front one trouble refused = refused

unnamed_one : (events : Events) (made : List Made) (trouble : Trouble) → RefusesOneOf events made trouble → RefusesOneOf events made (nameless trouble)
unnamed_one events made trouble refused =
    record { front = refused.front; one = refused.one; back = refused.back; are = refused.are; refused = unnamed_record events refused.front refused.one trouble refused.refused }

unnamed_refused : (events : Events) (reader : CaptureInput) (trouble : Trouble) → GaveRefused events reader trouble → GaveRefused events reader (nameless trouble)
unnamed_refused events reader (troubles.Sender side origin name fault) (inl (given, gave, (made, begins, refused))) =
    inl (given, gave, (made, begins, unnamed_one events made (troubles.Sender side origin name fault) refused))
unnamed_refused events reader (troubles.Sender side origin name fault) (inr (inl (gathering, cut, gave, unread))) =
    inr (inl (gathering, cut, gave, record { strict = unread.strict; senders = unread.senders; are = unread.are; heard = unread.heard; unread = unread.unread }))
unnamed_refused events reader (troubles.Sender side origin name fault) (inr (inr (given, gave, (made, ends, refused)))) =
    inr (inr (given, gave, (made, ends, unnamed_one events made (troubles.Sender side origin name fault) refused)))
unnamed_refused events reader trouble refused = refused

named_record : (events : Events) (front : List Made) (one : Made) (trouble : Trouble) → IsRefused events front one (nameless trouble) → IsRefused events front one trouble
named_record events front one (troubles.Sender side origin name (input_faults.Dump fault)) refused = refused
named_record events front one (troubles.Sender side origin name (input_faults.Ignored tlv ignores_4)) refused = refused
named_record events front one (troubles.Sender side origin name fault) refused = absurd refused
named_record events front one trouble refused = refused

named_one : (events : Events) (made : List Made) (trouble : Trouble) → RefusesOneOf events made (nameless trouble) → RefusesOneOf events made trouble
named_one events made trouble refused =
    record { front = refused.front; one = refused.one; back = refused.back; are = refused.are; refused = named_record events refused.front refused.one trouble refused.refused }

named_refused : (events : Events) (reader : CaptureInput) (trouble : Trouble) → GaveRefused events reader (nameless trouble) → GaveRefused events reader trouble
named_refused events reader (troubles.Sender side origin name fault) (inl (given, gave, (made, begins, refused))) =
    inl (given, gave, (made, begins, named_one events made (troubles.Sender side origin name fault) refused))
named_refused events reader (troubles.Sender side origin name fault) (inr (inl (gathering, cut, gave, unread))) =
    inr (inl (gathering, cut, gave, record { strict = unread.strict; senders = unread.senders; are = unread.are; heard = unread.heard; unread = unread.unread }))
named_refused events reader (troubles.Sender side origin name fault) (inr (inr (given, gave, (made, ends, refused)))) =
    inr (inr (given, gave, (made, ends, named_one events made (troubles.Sender side origin name fault) refused)))
named_refused events reader trouble refused = refused

-- nothing was read or written yet, or memory ran out
pub cause_of_none : (events : Events) (old new : InputState) (writer : Output) (trouble : Trouble) → Fails events (λ _. ⊥) ⊥ ⊥ ⊥ (λ _. ⊥) trouble → EventsCause events old new writer trouble
cause_of_none events old new writer trouble fails =
    fails_so events (λ _. ⊥) (IsFaultOfCapture (events_input events old new)) ⊥ (GaveNobody (events_input events old new)) ⊥ (old.failures < new.failures) ⊥ (writer.old.failures < writer.new.failures) (λ _. ⊥)
    (GaveRefused events (events_input events old new)) (λ fault none. absurd none) (λ none. absurd none) (λ none. absurd none) (λ none. absurd none) (λ told none. absurd none) trouble fails

pub cause_of_memory : (events : Events) (old new : InputState) (writer : Output) (trouble : Trouble) → trouble ≡ troubles.Fault (run_faults.Input sides.First (input_faults.Dump faults.Memory))
    → EventsCause events old new writer trouble
cause_of_memory events old new writer trouble is =
    of_memory events (IsFaultOfCapture (events_input events old new)) (GaveNobody (events_input events old new)) (old.failures < new.failures) (writer.old.failures < writer.new.failures)
    (GaveRefused events (events_input events old new)) trouble is

pub cause_named : (events : Events) (old new : InputState) (writer : Output) (before after : Trouble) → nameless after ≡ nameless before → EventsCause events old new writer before
    → EventsCause events old new writer after
cause_named events old new writer before after same cause =
    named_so events (IsFaultOfCapture (events_input events old new)) (GaveNobody (events_input events old new)) (old.failures < new.failures) (writer.old.failures < writer.new.failures)
    (GaveRefused events (events_input events old new)) (unnamed_refused events (events_input events old new)) (named_refused events (events_input events old new)) before after same cause

-- ---- a run

-- a read failed, after others
pub at_read : (events : Events) (old new : InputState) (writer : Output) (trouble : Trouble) → TellsFault sides.First input_faults.Read trouble → old.failures < new.failures
    → EventsCause events old new writer trouble
at_read events old new writer trouble tells failed =
    of_fault events (IsFaultOfCapture (events_input events old new)) (GaveNobody (events_input events old new)) (old.failures < new.failures) (writer.old.failures < writer.new.failures)
    (GaveRefused events (events_input events old new)) input_faults.Read trouble tells failed

-- a piece was not taken
pub at_piece : (events : Events) (old mid new : InputState) (u v w : OutputState) (turns : ℕ) (followed : Followed) (piece : List ℕ) (trouble : Trouble) → IsFollowedSoFar events old mid (output u v) turns followed
    → Gave mid new piece → v.failures ≡ u.failures
    → ((fed : List ℕ) (told : List (Telling Speaker)) → IsFollowed events fed told followed → Fails events (RefusesPiece events (fed ++ piece)) ⊥ ⊥ (v.failures < w.failures) (RefusesOctets events (fed ++ piece)) trouble)
    → EventsCause events old new (output u w) trouble
at_piece events old mid new u v w turns followed piece trouble so_far gave same fails =
    let given = gave_more old mid new so_far.octets piece so_far.gave gave in
    fails_so events (RefusesPiece events (so_far.octets ++ piece)) (IsFaultOfCapture (events_input events old new)) ⊥ (GaveNobody (events_input events old new)) ⊥ (old.failures < new.failures)
    (v.failures < w.failures) (u.failures < w.failures) (RefusesOctets events (so_far.octets ++ piece)) (GaveRefused events (events_input events old new))
    (λ fault stops. record { given = so_far.octets ++ piece; gave = given; refused = inl stops })
    (λ none. absurd none) (λ none. absurd none) (λ failed. subst (λ (n : ℕ). n < w.failures) same failed) (λ told refused. inl (so_far.octets ++ piece, given, refused)) trouble
    (fails so_far.octets so_far.goes.more so_far.goes.is_followed)

-- it was followed to its end, and did not end well
pub at_end : (events : Events) (old new : InputState) (u v w : OutputState) (followed : Followed) (trouble : Trouble) → HasFollowed events old new (output u v) followed
    → v.failures ≡ u.failures
    → ((fed : List ℕ) (told : List (Telling Speaker)) → IsFollowed events fed told followed → Fails events (RefusesWhole events fed) (HasNobody events fed) ⊥ (v.failures < w.failures) (HasUnread events fed) trouble)
    → EventsCause events old new (output u w) trouble
at_end events old new u v w followed trouble has same fails =
    fails_so events (RefusesWhole events has.octets) (IsFaultOfCapture (events_input events old new)) (HasNobody events has.octets) (GaveNobody (events_input events old new)) ⊥ (old.failures < new.failures)
    (v.failures < w.failures) (u.failures < w.failures) (HasUnread events has.octets) (GaveRefused events (events_input events old new))
    (λ fault whole. record { given = has.octets; gave = has.gave.gave; refused = ends_so fault whole.0 whole.1 })
    (λ none. (none.0, none.1.cut, gave_whole none.0 none.1, none.2))
    (λ none. absurd none) (λ failed. subst (λ (n : ℕ). n < w.failures) same failed)
    (λ told unread. elim unread [
      | inl is ↦ inr (inl (is.0, is.1.cut, gave_whole is.0 is.1, is.2))
      | inr refused ↦ inr (inr (has.octets, has.gave, refused))
    ]) trouble (fails has.octets has.goes.more has.goes.is_followed)
  where
    reader : CaptureInput
    reader = events_input events old new

    gave_whole : (gathering : Gathering) (whole : IsWhole events has.octets gathering) → GaveCapture reader gathering whole.cut
    gave_whole gathering whole = record { octets = has.octets; gave = has.gave; is_read = whole.is_read; accepted = whole.accepted; wanted = whole.wanted }

    short_so : (fault : Fault) (accepted : Bool) → events.accept_cut ≡ accepted → EndsShort (followed_extent events) (followed_by events) has.octets fault
        → (events.accept_cut ≡ true → (fault ≡ capture_faults.NotCapture) ⊎ EndsLost (followed_extent events) (followed_by events) has.octets fault)
        → EndsTooSoon reader has.octets fault ⊎ EndsIncomplete reader has.octets fault
    short_so fault false not short soon =
        inl (record { all = has.gave; short = short; not_accepted = λ accepted. absurd (let bad : true ≡ false = sym accepted ∙ not in cc) })
    short_so fault true accepted short soon = elim (soon accepted) [
      | inl none ↦ inl (record { all = has.gave; short = short; not_accepted = λ _. none })
      | inr lost ↦ inr (record { all = has.gave; lost = lost })
    ]

    ends_so : (fault : Fault) → CaptureFault (followed_extent events) (followed_by events) has.octets fault
        → (events.accept_cut ≡ true → (fault ≡ capture_faults.NotCapture) ⊎ EndsLost (followed_extent events) (followed_by events) has.octets fault)
        → Stops (followed_extent events) (followed_by events) has.octets fault ⊎ EndsTooSoon reader has.octets fault ⊎ EndsIncomplete reader has.octets fault
    ends_so fault (inl stops) soon = inl stops
    ends_so fault (inr (inl short)) soon = inr (short_so fault events.accept_cut refl short soon)
    ends_so fault (inr (inr lost)) soon = inr (inr (record { all = has.gave; lost = lost }))
