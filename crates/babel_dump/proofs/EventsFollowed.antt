-- What a teller tells in a run of events, and how far a capture was followed.
use Rattle.std.proofs.Common.{◌≡◌, ℕ, Bool, true, List, [], Option, None, refl, sym, ap, subst, ◌∙◌}
use Rattle.std.specs.Prelude.{Result, Ok, Err, OnOk}
use Rattle.std.specs.declared.cmp.Ordering.{Ordering}
use Rattle.babel_capture.specs.declared.fault.Fault.{Fault}
use Rattle.babel_capture.specs.declared.tallies.Origin.{Origin}
use Rattle.babel_capture.specs.Capture.{HasRead, HasReadTo}
use Rattle.babel_capture.specs.Counts.{Made}
use Rattle.babel_capture.specs.Reading.{HasTaken}
use Rattle.babel_capture.specs.Window.{Extent}
use Rattle.babel_dump.proofs.CaptureFeeding.{unread}
use Rattle.babel_dump.proofs.EventsRuns.{of_none}
use Rattle.babel_tlv.specs.declared.start.Start.{Start}
use Rattle.babel_tlv.specs.Context.{first_context}
use Rattle.babel_tlv.specs.declared.view.View.{View}
use Rattle.babel_table.specs.Moments.{Stamp, told_from}
use Rattle.babel_timeline.specs.declared.teller.Teller.{Teller}
use Rattle.babel_timeline.specs.declared.telling.Telling.{Telling}
use Rattle.babel_timeline.specs.Rows.{Rows}
use Rattle.babel_timeline.specs.Silence.{Watching}
use Rattle.babel_timeline.specs.SilencesTold.{TellsCounts, TellsSilences, hellos_heard, watches}
use Rattle.babel_timeline.specs.Telling.{AskedFor, Hears, TellsEnds, of_rows, said_of}
use Rattle.babel_timeline.specs.Hearing.{CountsPacket}
use Rattle.babel_dump.specs.EventsRun.{asked_by, followed_by, followed_extent, speaker_at}
use Rattle.babel_dump.specs.Followed.{HasHeard, HasHeardFollowed, HearsPacket, IsFollowed, KnowsOthers, Suits}
use Rattle.babel_dump.specs.Speakers.{speaker_cmp}
use Rattle.babel_dump.specs.declared.events.Followed.{Followed}
use Rattle.babel_dump.specs.declared.events_job.Events.{Events}
use Rattle.babel_dump.specs.declared.speaker.Speaker.{Speaker}

pub under : {T E : Type 0} (A B : Type 0) (r : Result T E) → (A → OnOk r B) → OnOk r (A → B)
under A B (Ok t) f = f
under A B (Err e) f = tt

pub both_ok : {T E : Type 0} (P Q : Type 0) (r : Result T E) → OnOk r P → OnOk r Q → OnOk r (P × Q)
both_ok P Q (Ok t) p q = (p, q)
both_ok P Q (Err e) p q = tt

pub same_rows : (P : Rows Speaker → Type 0) (old new : Teller Speaker) → new ≡ old → P old.timeline.rows → P new.timeline.rows
same_rows P old new same p = subst (λ (t : Teller Speaker). P t.timeline.rows) (sym same) p

pub suits_still : (old new : Teller Speaker) (events : Events) → (new.timeline.factor ≡ old.timeline.factor) × (new.interest ≡ old.interest) → new.timeline.limit ≡ old.timeline.limit → Suits events old
    → Suits events new
suits_still old new events same limit suits = record {
  factor = same.0 ∙ suits.factor;
  limit = limit ∙ suits.limit;
  view = ap (λ i. i.view) same.1 ∙ suits.view;
  asked = ap (λ i. i.asked) same.1 ∙ suits.asked;
}

module _ (cmp : Speaker → Speaker → Ordering) (order : cmp ≡ speaker_cmp) (events : Events) (teller : Teller Speaker) (suits : Suits events teller) where
  watching_so : watches events.expiry (asked_by events) ≡ true → watches teller.timeline.factor teller.interest.asked ≡ true
  watching_so watching = ap (λ (f : Option ℕ). watches f teller.interest.asked) suits.factor ∙ ap (watches events.expiry) suits.asked ∙ watching

  pub silences_so : (more : List (Speaker × Stamp)) (time : ℕ) (old new : List (Telling Speaker)) (now : Watching Speaker)
      → (watches teller.timeline.factor teller.interest.asked ≡ true → TellsSilences cmp more time old new teller.watch now)
      → watches events.expiry (asked_by events) ≡ true → TellsSilences speaker_cmp more time old new teller.watch now
  silences_so more time old new now silences watching =
      subst (λ (k : Speaker → Speaker → Ordering). TellsSilences k more time old new teller.watch now) order (silences (watching_so watching))

  pub counts_told_so : (before told : List (Telling Speaker)) → (watches teller.timeline.factor teller.interest.asked ≡ true → TellsCounts cmp teller.timeline.factor teller.timeline.rows before told)
      → watches events.expiry (asked_by events) ≡ true → TellsCounts speaker_cmp events.expiry teller.timeline.rows before told
  counts_told_so before told counts watching =
      subst (λ (f : Option ℕ). TellsCounts speaker_cmp f teller.timeline.rows before told) suits.factor
      (subst (λ (k : Speaker → Speaker → Ordering). TellsCounts k teller.timeline.factor teller.timeline.rows before told) order (counts (watching_so watching)))

  pub hears_packet : (origin : Origin) (via : Bool) → via ≡ events.limits.via_v6 → (time at : ℕ) (packet : List ℕ) (new : Teller Speaker) (before told : List (Telling Speaker))
      → (new.timeline.factor ≡ teller.timeline.factor) × (new.interest ≡ teller.interest) → new.timeline.limit ≡ teller.timeline.limit
      → Hears cmp teller.timeline.factor teller.interest.asked teller.interest.view (speaker_at origin)
      (record { sender = origin.sender; via_v6 = via }) time at packet teller.timeline.rows new.timeline.rows
      (of_rows teller.interest.asked before) (of_rows teller.interest.asked told)
      → CountsPacket cmp (speaker_at origin) (record { sender = origin.sender; via_v6 = via }) packet teller.heard.entries new.heard.entries
      → (watches teller.timeline.factor teller.interest.asked ≡ true → TellsSilences cmp (hellos_heard (speaker_at origin) time packet) time before told teller.watch new.watch)
      → (watches teller.timeline.factor teller.interest.asked ≡ true → TellsCounts cmp teller.timeline.factor teller.timeline.rows before told)
      → HearsPacket events origin time packet teller new before told
  hears_packet origin via via_is time at packet new before told same limit hears counts silences counted =
      let begin : Bool → Start = λ v. record { sender = origin.sender; via_v6 = v } in
      let rows = teller.timeline.rows in
      let after = new.timeline.rows in
      let with_via = subst (λ (v : Bool). Hears cmp teller.timeline.factor teller.interest.asked teller.interest.view (speaker_at origin) (begin v) time at packet rows after (of_rows teller.interest.asked before) (of_rows teller.interest.asked told)) via_is hears in
      let one = subst (λ (k : Speaker → Speaker → Ordering). Hears k teller.timeline.factor teller.interest.asked teller.interest.view (speaker_at origin) (begin events.limits.via_v6) time at packet rows after (of_rows teller.interest.asked before) (of_rows teller.interest.asked told)) order with_via in
      let two = subst (λ (f : Option ℕ). Hears speaker_cmp f teller.interest.asked teller.interest.view (speaker_at origin) (begin events.limits.via_v6) time at packet rows after (of_rows teller.interest.asked before) (of_rows teller.interest.asked told)) suits.factor one in
      let three = subst (λ (a : AskedFor). Hears speaker_cmp events.expiry a teller.interest.view (speaker_at origin) (begin events.limits.via_v6) time at packet rows after (of_rows a before) (of_rows a told)) suits.asked two in
      let is = subst (λ (v : View). Hears speaker_cmp events.expiry (asked_by events) v (speaker_at origin) (begin events.limits.via_v6) time at packet rows after (of_rows (asked_by events) before) (of_rows (asked_by events) told)) suits.view three in
      record {
        suits = suits_still teller new events same limit suits;
        said = said_of (asked_by events) events.view (speaker_at origin) (told_from time (first_context (begin events.limits.via_v6)) is.tlvs);
        is_said = record { at = at; tlvs = is.tlvs; rest = is.rest; whole = is.whole; placed = is.placed; is = refl };
        tells = is.tells;
        counts = subst (λ (k : Speaker → Speaker → Ordering). CountsPacket k (speaker_at origin) (begin events.limits.via_v6) packet teller.heard.entries new.heard.entries) order
            (subst (λ (v : Bool). CountsPacket cmp (speaker_at origin) (begin v) packet teller.heard.entries new.heard.entries) via_is counts);
        silences = silences_so (hellos_heard (speaker_at origin) time packet) time before told new.watch silences;
        counts_rows = counts_told_so before told counted;
      }

  pub ends_tell_so : (until : ℕ) (rows after : Rows Speaker) (new : List (Telling Speaker))
      → TellsEnds cmp teller.timeline.factor teller.interest.asked until rows after (of_rows teller.interest.asked []) (of_rows teller.interest.asked new)
      → TellsEnds speaker_cmp events.expiry (asked_by events) until rows after [] (of_rows (asked_by events) new)
  ends_tell_so until rows after new ends =
      let one = subst (λ (k : Speaker → Speaker → Ordering). TellsEnds k teller.timeline.factor teller.interest.asked until rows after (of_rows teller.interest.asked []) (of_rows teller.interest.asked new)) order ends in
      let two = subst (λ (f : Option ℕ). TellsEnds speaker_cmp f teller.interest.asked until rows after (of_rows teller.interest.asked []) (of_rows teller.interest.asked new)) suits.factor one in
      let three = subst (λ (a : AskedFor). TellsEnds speaker_cmp events.expiry a until rows after (of_rows a []) (of_rows a new)) suits.asked two in
      subst (λ (t : List (Telling Speaker)). TellsEnds speaker_cmp events.expiry (asked_by events) until rows after t (of_rows (asked_by events) new)) (of_none (asked_by events)) three

-- nothing was read
pub followed_none : (events : Events) (followed : Followed) → HasRead followed.capture [] → followed.capture.limit ≡ followed_extent events
    → followed.capture.progress.gathering.wanted ≡ followed_by events → followed.capture.fault ≡ None → followed.follower.events.now ≡ events
    → followed.follower.senders.senders.entries ≡ [] → HasHeard events [] [] followed.follower.hearing → KnowsOthers events [] followed.follower.other_sources
    → followed.follower.told.items ≡ [] → followed.follower.fault ≡ None → IsFollowed events [] [] followed
followed_none events followed read limit wanted fault events_are nobody heard others told sound =
    let taken : HasTaken followed.capture.limit followed.capture.progress followed.capture.pending [] = subst (λ (f : Option Fault). HasReadTo followed.capture f []) fault read in
    let begun = subst (λ (e : Extent). HasTaken e followed.capture.progress followed.capture.pending []) limit taken in
    let none : begun.leads.gathered.made ≡ [] = unread _ followed.capture.progress followed.capture.pending begun in
    record {
      read = begun;
      no_fault = fault;
      limit = limit;
      wanted = wanted;
      events_are = events_are;
      sound = sound;
      has_heard = subst (λ (m : List Made). HasHeardFollowed events m [] followed.follower) (sym none)
          (nobody, subst (λ (t : List (Telling Speaker)). HasHeard events [] t followed.follower.hearing) (sym told) heard, others);
    }
