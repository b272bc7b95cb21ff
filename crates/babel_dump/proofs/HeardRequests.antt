-- What a record requests, and what of it is to be written.
use Rattle.std.proofs.Common.{◌≡◌, ℕ, Bool, true, false, not, ◌&&◌, cond, List, [], ◌∷◌, ◌++◌, map, filter, Option, None, Some, refl, sym, ap, subst, append_assoc, ◌∙◌}
use Rattle.std.specs.BTreeSet.{BTreeSet, contains}
use Rattle.std.proofs.lemmas.List.{append-nil}
use Rattle.std.proofs.lemmas.List.Elements.{filter-append}
use Rattle.babel_prefix.specs.Address.{Address}
use Rattle.babel_capture.specs.declared.tallies.Origin.{Origin}
use Rattle.babel_capture.specs.declared.sink.BabelPacket.{BabelPacket}
use Rattle.babel_capture.specs.declared.sink.Record.{Record}
use Rattle.babel_capture.specs.Counts.{Made}
use Rattle.babel_capture.specs.Findings.{Found, found, left, passed, refused, untold}
use Rattle.babel_capture.specs.Sinking.{IsPacketOf, IsTold, packet_said}
use Rattle.babel_capture.specs.Times.{time_of}
use Rattle.babel_tlv.specs.declared.request.Request.{Request}
use Rattle.babel_timeline.specs.declared.telling.Telling.{Telling}
use Rattle.babel_timeline.specs.declared.telling.Telling.TheVariants as tellings
use Rattle.babel_timeline.specs.RequestsTold.{body_of, requests_in, requests_told, unicast}
use Rattle.babel_dump.specs.EventText.{speaker_of}
use Rattle.babel_dump.specs.EventText.{time_of as time_told}
use Rattle.babel_dump.specs.EventsRun.{is_from, requests_asked, requests_found, requests_made, speaker_at, told_from}
use Rattle.babel_dump.specs.Followed.{unlost_by}
use Rattle.babel_dump.specs.Speakers.{speaker_cmp}
use Rattle.babel_dump.specs.declared.events_job.Events.{Events}
use Rattle.babel_dump.specs.declared.speaker.Speaker.{Speaker}
use Rattle.babel_dump.proofs.EventsRuns.{Tellings}

-- of what is alike all is kept, or nothing
all_or_none : (keeps : Telling Speaker → Bool) (all : Bool) (told : Request → Telling Speaker) → ((request : Request) → keeps (told request) ≡ all) → (requests : List Request)
    → filter keeps (map told requests) ≡ cond all (map told requests) []
all_or_none keeps true told same [] = refl
all_or_none keeps false told same [] = refl
all_or_none keeps true told same (request ∷ requests) = rw (same request) (ap (λ (t : Tellings). told request ∷ t) (all_or_none keeps true told same requests))
all_or_none keeps false told same (request ∷ requests) = rw (same request) (all_or_none keeps false told same requests)

-- of a packet all is to be written, or nothing
asked_is : (events : Events) (lost : BTreeSet Speaker) (since : Option ℕ) (time : ℕ) (origin : Origin) (destination : Address) (packet : List ℕ)
    → unlost_by lost (told_from since (requests_asked events time origin destination packet))
    ≡ cond (events.requests && is_from since time && not (contains speaker_cmp lost (speaker_at origin))) (requests_told events.limits.via_v6 (speaker_at origin) (unicast destination) time packet) []
asked_is events lost since time origin destination packet = by events.requests
  where
    one : Request → Telling Speaker
    one request = tellings.Request time (speaker_at origin) (unicast destination) request

    requests : List Request
    requests = requests_in events.limits.via_v6 (body_of packet)

    kept : Bool
    kept = not (contains speaker_cmp lost (speaker_at origin))

    late : (from : Bool) → unlost_by lost (cond from (map one requests) []) ≡ cond (from && kept) (map one requests) []
    late true = all_or_none (λ (t : Telling Speaker). not (contains speaker_cmp lost (speaker_of t))) kept one (λ request. refl) requests
    late false = refl

    by : (asked : Bool) → unlost_by lost (told_from since (cond asked (map one requests) [])) ≡ cond (asked && is_from since time && kept) (map one requests) []
    by true = ap (unlost_by lost) (all_or_none (λ (t : Telling Speaker). is_from since (time_told t)) (is_from since time) one (λ request. refl) requests) ∙ late (is_from since time)
    by false = refl

pub asked_so : (events : Events) (lost : BTreeSet Speaker) (since : Option ℕ) (time : ℕ) (origin : Origin) (destination : Address) (packet : List ℕ) (tells : Bool)
    → tells ≡ (events.requests && is_from since time && not (contains speaker_cmp lost (speaker_at origin))) → (b : Bool) → tells ≡ b → (told now : Tellings)
    → now ≡ told ++ cond b (requests_told events.limits.via_v6 (speaker_at origin) (unicast destination) time packet) []
    → now ≡ told ++ unlost_by lost (told_from since (requests_asked events time origin destination packet))
asked_so events lost since time origin destination packet tells is b so told now put =
    put ∙ ap (λ (b : Bool). told ++ cond b (requests_told events.limits.via_v6 (speaker_at origin) (unicast destination) time packet) []) (sym so ∙ is)
    ∙ ap (λ (t : Tellings). told ++ t) (sym (asked_is events lost since time origin destination packet))

-- first the one, then the other
pub told_both : (lost mid_lost : BTreeSet Speaker) → mid_lost ≡ lost → (old mid now first second : Tellings) → mid ≡ old ++ unlost_by lost first
    → now ≡ mid ++ unlost_by mid_lost second → now ≡ old ++ unlost_by lost (first ++ second)
told_both lost mid_lost same old mid now first second was is =
    is ∙ ap (λ (l : BTreeSet Speaker). mid ++ unlost_by l second) same ∙ ap (λ (t : Tellings). t ++ unlost_by lost second) was
    ∙ append_assoc old (unlost_by lost first) (unlost_by lost second)
    ∙ ap (λ (t : Tellings). old ++ t) (sym (filter-append (λ (one : Telling Speaker). not (contains speaker_cmp lost (speaker_of one))) first second))

found_of : (events : Events) (time : ℕ) (what : Found) (packet : BabelPacket) → IsPacketOf what (Some packet)
    → requests_found events (Some time) what ≡ requests_asked events time packet.origin packet.destination.now packet.octets.now
found_of events time (found place ends octets has_trailer) packet is =
    let own : Origin = record { place = place; sender = ends.sender } in
    let some : Some own ≡ Some packet.origin = is.0 in
    let same : own ≡ packet.origin = cc in
    let sent : Some ends.destination ≡ Some packet.destination.now = is.2 in
    let to : ends.destination ≡ packet.destination.now = cc in
    ap (λ (o : Origin). requests_asked events time o ends.destination octets) same ∙ ap (λ (d : Address). requests_asked events time packet.origin d octets) to
    ∙ ap (requests_asked events time packet.origin packet.destination.now) is.1
found_of events time passed packet is = absurd (let bad = is.0 in cc)
found_of events time untold packet is = absurd (let bad = is.0 in cc)
found_of events time (left reason missed) packet is = absurd (let bad = is.0 in cc)
found_of events time (refused lack) packet is = absurd (let bad = is.0 in cc)

none_found : (events : Events) (time : Option ℕ) (what : Found) → IsPacketOf what None → requests_found events time what ≡ []
none_found events None what is = refl
none_found events (Some time) (found place ends octets has_trailer) is = absurd (let bad = is.0 in cc)
none_found events (Some time) passed is = refl
none_found events (Some time) untold is = refl
none_found events (Some time) (left reason missed) is = refl
none_found events (Some time) (refused lack) is = refl

-- the record has a time, and a packet, which is told
pub requests_of : (events : Events) (one : Made) (told : Record) (time : ℕ) (packet : BabelPacket) → IsTold one told → told.time ≡ Some time → packet_said told.said ≡ Some packet
    → requests_made events one ≡ requests_asked events time packet.origin packet.destination.now packet.octets.now
requests_of events one told time packet is timed some =
    ap (λ (t : Option ℕ). requests_found events t one.what) (sym is.time ∙ timed) ∙ found_of events time one.what packet (subst (IsPacketOf one.what) some is.packet)

-- it has none, or no time
pub requests_untimed : (events : Events) (one : Made) (told : Record) → IsTold one told → told.time ≡ None → requests_made events one ≡ []
requests_untimed events one told is none = ap (λ (t : Option ℕ). requests_found events t one.what) (sym is.time ∙ none)

pub requests_none : (events : Events) (one : Made) (told : Record) → IsTold one told → packet_said told.said ≡ None → requests_made events one ≡ []
requests_none events one told is none = none_found events (time_of one.came) one.what (subst (IsPacketOf one.what) none is.packet)

-- with nothing that is requested, what was told stays
pub told_still : (lost : BTreeSet Speaker) (since : Option ℕ) (told requests : Tellings) → requests ≡ [] → told ≡ told ++ unlost_by lost (told_from since requests)
told_still lost since told requests none = sym (append-nil told) ∙ ap (λ (t : Tellings). told ++ unlost_by lost (told_from since t)) (sym none)
