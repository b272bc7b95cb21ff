-- How far a capture is followed with more of it, and what it gives at its end.
use Rattle.std.proofs.Common.{◌≡◌, ℕ, ◌≤◌, List, [], ◌++◌, map, refl, sym, ap, subst, ◌∙◌, append_assoc, append-nil, Option, None, Some}
use Rattle.std.specs.Prelude.{Bool, true, false, not, ◌&&◌, IfSome, if◌then◌else◌, Result, Ok, Err, OnOk}
use Rattle.std.specs.List.{AllByRecursion}
use Rattle.std.specs.Map.{keys_of}
use Rattle.std.specs.declared.cmp.Ordering.{Ordering}
use Rattle.babel_capture.specs.Blocks.{context_behind, start}
use Rattle.babel_capture.specs.Capture.{IsReadToCut, State}
use Rattle.babel_capture.specs.Capture.{moment_read as moment_of}
use Rattle.babel_capture.specs.Context.{Before}
use Rattle.babel_capture.specs.Counts.{Made}
use Rattle.babel_capture.specs.Gathering.{Gathering}
use Rattle.babel_capture.specs.Reading.{HasTaken}
use Rattle.babel_capture.specs.Sinking.{EndMore, FeedMore, Sinks}
use Rattle.babel_capture.specs.Window.{Extent, moment_up_to}
use Rattle.babel_timeline.specs.declared.teller.Teller.{Teller}
use Rattle.babel_timeline.specs.declared.telling.Telling.{Telling}
use Rattle.babel_timeline.specs.Rows.{AllLast, Rows}
use Rattle.babel_dump.specs.CaptureRun.{IsOutcomeOf}
use Rattle.babel_dump.specs.EventsRun.{AreReadWhole, CountsRoutes, HaveTold, IsHeardSender, NotesSome, Opens, OpensBy, Step, TellsSilent, WroteLines, followed_by, followed_extent, have_come, heard_status, last_time, made_in, moment_read, since_in, told_from, told_in, unlost, written_in}
use Rattle.babel_dump.specs.Followed.{Ends, EndsAt, EndsBy, Follows, HasHeard, HasHeardFollowed, IsFollowed, IsFollowedToEnd, KnowsOthers, Suits, TellsFrom, unlost_by}
use Rattle.babel_dump.specs.FollowedSenders.{followed, senders_followed, with_packets}
use Rattle.babel_dump.specs.HeardSenders.{heard_of, heard_told}
use Rattle.babel_dump.specs.Run.{Output}
use Rattle.babel_dump.specs.Speakers.{speaker_cmp}
use Rattle.babel_dump.specs.declared.events.Followed.{Followed}
use Rattle.babel_dump.specs.declared.events_job.Events.{Events}
use Rattle.babel_dump.specs.declared.events_outcome.EventsOutcome.{EventsOutcome}
use Rattle.babel_dump.specs.declared.events_outcome.HeardSender.{HeardSender}
use Rattle.babel_dump.specs.declared.other_sources.OtherSources.{OtherSources}
use Rattle.babel_dump.specs.declared.speaker.Speaker.{Speaker}
use Rattle.babel_dump.specs.declared.followed_senders.FollowedSenders.{FollowedSenders}
use Rattle.babel_dump.specs.declared.follower.Follower.{Follower}
use Rattle.babel_dump.specs.declared.hearing.Hearing.{Hearing}
use Rattle.babel_dump.proofs.EventsRuns.{told_so, told_until}
use Rattle.babel_dump.proofs.HeardLaws.{heard_senders}
use Rattle.babel_dump.proofs.HeardOthers.{notes_until}
use Rattle.babel_dump.proofs.HeardRecords.{unlost_is}
use Rattle.babel_dump.proofs.SilentRuns.{counts_none, counts_so, silent_until}
use Rattle.babel_dump.proofs.FollowLaws.{same_made}

abbrev Tellings : Type 0
Tellings = List (Telling Speaker)

-- ---- more of it

-- no records
pub follows_none : (follower : Follower) → Follows follower follower []
follows_none follower = (
  refl,
  λ sound. (sound, λ before written heard. subst (λ (m : List Made). HasHeardFollowed follower.events.now m written follower) (sym (append-nil before)) heard),
  λ stop stopped sound. absurd (let bad : None ≡ Some stop = sym sound ∙ stopped in cc),
)

-- how far a capture was followed, where this is all that was told
record IsFollowedBy (events : Events) (fed : List ℕ) (all : Tellings) (capture : State) (senders : FollowedSenders) (others : Option OtherSources) (hearing : Hearing) : Type 0 where
  read : HasTaken (followed_extent events) capture.progress capture.pending fed
  no_fault : capture.fault ≡ None
  limit : capture.limit ≡ followed_extent events
  wanted : capture.progress.gathering.wanted ≡ followed_by events
  senders_are : senders.senders.entries ≡ senders_followed read.leads.gathered.made
  has_heard : HasHeard events (followed read.leads.gathered.made) all hearing
  others_too : KnowsOthers events (followed read.leads.gathered.made) others

-- a follower took the records of a piece more, and what they told was written
module _ (events : Events) (fed piece : List ℕ) (told : Tellings) (old : Followed) (is : IsFollowed events fed told old) (capture : State) (follower : Follower) where
  followed_by_more : capture.limit ≡ old.capture.limit → capture.progress.gathering.wanted ≡ old.capture.progress.gathering.wanted → capture.fault ≡ None
      → Sinks Follows old.follower follower (FeedMore old.capture.progress old.capture.pending capture.progress capture.pending piece) → follower.fault ≡ None
      → (follower.events.now ≡ events) × IsFollowedBy events (fed ++ piece) (told ++ follower.told.items) capture follower.senders follower.other_sources follower.hearing
  followed_by_more limit wanted none sinks sound =
      let follows = sinks.took old.follower [] (follows_none old.follower) in
      let read = sinks.are_read (followed_extent events) fed is.read in
      let made = is.read.leads.gathered.made in
      let here = old.follower.events.now in
      let was = subst (λ (e : Events). HasHeardFollowed e made told old.follower) (sym is.events_are) is.has_heard in
      let heard = subst (λ (m : List Made). HasHeardFollowed events m told follower) (sym read.1)
      (subst (λ (e : Events). HasHeardFollowed e (made ++ sinks.more) told follower) is.events_are ((follows.1 sound).1 made told was)) in (
        follows.0 ∙ is.events_are,
        record {
          read = read.0;
          no_fault = none;
          limit = limit ∙ is.limit;
          wanted = wanted ∙ is.wanted;
          senders_are = heard.0;
          has_heard = heard.1;
          others_too = heard.2;
        },
      )

  pub followed_on : (new : Followed) → capture.limit ≡ old.capture.limit → capture.progress.gathering.wanted ≡ old.capture.progress.gathering.wanted → capture.fault ≡ None
      → Sinks Follows old.follower follower (FeedMore old.capture.progress old.capture.pending capture.progress capture.pending piece) → follower.fault ≡ None
      → new.capture ≡ capture → new.follower.events.now ≡ follower.events.now → new.follower.hearing ≡ follower.hearing → new.follower.fault ≡ follower.fault
      → new.follower.senders ≡ follower.senders → new.follower.other_sources ≡ follower.other_sources → new.follower.told.items ≡ []
      → IsFollowed events (fed ++ piece) (told ++ follower.told.items) new
  followed_on new limit wanted none sinks sound same_capture same_events same_hearing same_fault same_senders same_others written =
      let all = told ++ follower.told.items in
      let by = followed_by_more limit wanted none sinks sound in
      let whole : all ≡ all ++ new.follower.told.items = sym (append-nil all) ∙ ap (λ (v : Tellings). all ++ v) (sym written) in
      let now = subst (λ (v : Tellings). IsFollowedBy events (fed ++ piece) v new.capture new.follower.senders new.follower.other_sources new.follower.hearing) whole
      (subst (IsFollowedBy events (fed ++ piece) all new.capture new.follower.senders new.follower.other_sources) (sym same_hearing)
      (subst (λ (o : Option OtherSources). IsFollowedBy events (fed ++ piece) all new.capture new.follower.senders o follower.hearing) (sym same_others)
      (subst (λ (k : FollowedSenders). IsFollowedBy events (fed ++ piece) all new.capture k follower.other_sources follower.hearing) (sym same_senders)
      (subst (λ (s : State). IsFollowedBy events (fed ++ piece) all s follower.senders follower.other_sources follower.hearing) (sym same_capture) by.1)))) in
      record {
        read = now.read;
        no_fault = now.no_fault;
        limit = now.limit;
        wanted = now.wanted;
        events_are = same_events ∙ by.0;
        sound = same_fault ∙ sound;
        has_heard = (now.senders_are, now.has_heard, now.others_too);
      }

-- ---- its end

-- what has ended by the moment, if there is one, is told
record HasEnded (events : Events) (made : List Made) (moment : Option ℕ) (steps : List Step) (written : Tellings) : Type 0 where
  ended : Tellings
  rows : Rows Speaker
  have_told : HaveTold events moment made (told_in steps ++ ended) rows
  all_last : IfSome moment (λ m. AllLast speaker_cmp events.expiry m rows)
  counts : CountsRoutes events made (told_in steps) ended
  silent : IfSome moment (λ m. last_time made ≤ m → TellsSilent events m made (told_in steps ++ ended))
  opening : Tellings
  opens : OpensBy (since_in events.since (made_in steps)) moment (made_in steps) (told_in steps ++ ended) opening
  written_is : written ≡ written_in events [] steps ++ unlost (made_in steps) (opening ++ told_from (since_in events.since (made_in steps)) ended)

-- a moment does not come where there is no time
never_opens : (since : Option ℕ) (made : List Made) (told : Tellings) → OpensBy since None made told []
never_opens None made told = refl
never_opens (Some moment) made told = by (have_come (Some moment) made)
  where
    by : (b : Bool) → Opens (Some moment) (not b && false) told []
    by true = refl
    by false = refl

ended_by_then : (events : Events) (made : List Made) (told : Tellings) (moment : Option ℕ) (old new : Followed) → EndsAt events moment old new
    → (was : HasHeard events made (told ++ old.follower.told.items) old.follower.hearing) → HasEnded events (made_in was.steps) moment was.steps (told ++ new.follower.told.items)
ended_by_then events made told None old new same was = record {
  ended = [];
  rows = old.follower.hearing.teller.timeline.rows;
  have_told = subst (λ (t : Tellings). HaveTold events None (made_in was.steps) t old.follower.hearing.teller.timeline.rows) (sym (append-nil (told_in was.steps))) was.have_told;
  all_last = tt;
  counts = counts_none events (made_in was.steps) (told_in was.steps);
  silent = tt;
  opening = [];
  opens = never_opens (since_in events.since (made_in was.steps)) (made_in was.steps) (told_in was.steps ++ []);
  written_is = ap (λ (f : Follower). told ++ f.told.items) same ∙ was.written_is ∙ sym (append-nil (written_in events [] was.steps));
}
ended_by_then events made told (Some moment) old new ends was = record {
  ended = ends.ended;
  rows = new.follower.hearing.teller.timeline.rows;
  have_told = told_until events (made_in was.steps) moment old.follower.hearing.teller.timeline.rows new.follower.hearing.teller.timeline.rows (told_in was.steps) ends.ended ends.tells was.have_told;
  all_last = ends.last;
  counts = counts_so events (made_in was.steps) old.follower.hearing.teller.timeline.rows (told_in was.steps) ends.ended ends.counts was.have_told;
  silent = silent_until events (made_in was.steps) moment (told_in was.steps) ends.ended old.follower.hearing.teller new.follower.hearing.teller ends.silences was.knows;
  opening = from.opening;
  opens = from.opens;
  written_is = ap (λ (t : Tellings). told ++ t) ends.written ∙ sym (append_assoc told old.follower.told.items (unlost_by old.follower.hearing.lost ends.printed))
      ∙ ap (λ (t : Tellings). t ++ unlost_by old.follower.hearing.lost ends.printed) was.written_is
      ∙ ap (λ (t : Tellings). written_in events [] was.steps ++ t)
      (unlost_is events made (told ++ old.follower.told.items) old.follower.hearing was ends.printed ∙ ap (unlost (made_in was.steps)) from.told_is);
}
  where
    since : Option ℕ
    since = since_in events.since (made_in was.steps)

    from : TellsFrom since (have_come since (made_in was.steps)) (Some moment) (told_in was.steps) ends.ended new.follower.hearing.since ends.printed
    from = ends.from since (have_come since (made_in was.steps)) (told_in was.steps) was.awaits

-- the moment from which on it is told stays
still_since : (events : Events) (made : List Made) (told : Tellings) (moment : Option ℕ) (old new : Followed) → EndsAt events moment old new
    → (was : HasHeard events made (told ++ old.follower.told.items) old.follower.hearing) → new.follower.hearing.since.moment ≡ since_in events.since (made_in was.steps)
still_since events made told None old new same was = ap (λ (f : Follower). f.hearing.since.moment) same ∙ was.awaits.moment
still_since events made told (Some moment) old new ends was =
    (ends.from (since_in events.since (made_in was.steps)) (have_come (since_in events.since (made_in was.steps)) (made_in was.steps)) (told_in was.steps) was.awaits).awaits.moment

-- the moment is none where a record has no time
when_timed : (untimed : Bool) (moment : Option ℕ) → untimed ≡ false → (if untimed then None else moment) ≡ moment
when_timed true moment timed = absurd (let bad : true ≡ false = timed in cc)
when_timed false moment timed = refl

-- a follower took what is seen at the end of a capture
module _ (events : Events) (fed : List ℕ) (told : Tellings) (old : Followed) (cut : Option ℕ) (is : IsFollowed events fed told old) (capture : State) (follower : Follower) where
  record IsEndedBy (ended : State) (senders : FollowedSenders) (others : Option OtherSources) (hearing : Hearing) (items : Tellings) : Type 0 where
    is_read : IsReadToCut (followed_extent events) fed ended.progress.gathering cut
    limit : ended.limit ≡ followed_extent events
    wanted : ended.progress.gathering.wanted ≡ followed_by events
    context : ended.progress.context ≡ context_behind (start (followed_extent events)) is_read.is_read.blocks
    senders_are : senders.senders.entries ≡ senders_followed is_read.is_read.gathered.made
    has_heard : HasHeard events (followed is_read.is_read.gathered.made) (told ++ items) hearing
    others_too : KnowsOthers events (followed is_read.is_read.gathered.made) others

  ended_by : Sinks Follows old.follower follower (EndMore old.capture.progress old.capture.pending capture.progress.gathering cut) → follower.fault ≡ None
      → capture.limit ≡ old.capture.limit → capture.progress.context ≡ old.capture.progress.context
      → capture.progress.gathering.wanted ≡ old.capture.progress.gathering.wanted → IsEndedBy capture follower.senders follower.other_sources follower.hearing follower.told.items
  ended_by sinks sound limit context wanted =
      let extent = followed_extent events in
      let follows = sinks.took old.follower [] (follows_none old.follower) in
      let ends = sinks.are_read extent fed is.read in
      let made = is.read.leads.gathered.made in
      let was = subst (λ (e : Events). HasHeardFollowed e made told old.follower) (sym is.events_are) is.has_heard in
      let heard = subst (λ (m : List Made). HasHeardFollowed events m told follower) (sym ends.1)
      (subst (λ (e : Events). HasHeardFollowed e (made ++ sinks.more) told follower) is.events_are ((follows.1 sound).1 made told was)) in
      let same = same_made extent fed old.capture.progress old.capture.pending capture.progress.gathering cut wanted is.read ends.0 in
      record {
        is_read = ends.0;
        limit = limit ∙ is.limit;
        wanted = wanted ∙ is.wanted;
        context = context ∙ is.read.leads.context ∙ ap (context_behind (start extent)) (sym same.blocks);
        senders_are = heard.0;
        has_heard = heard.1;
        others_too = heard.2;
      }

  pub followed_to_end : (new : Followed) → new.capture ≡ capture → new.follower.hearing ≡ follower.hearing → new.follower.told.items ≡ follower.told.items
      → new.follower.senders ≡ follower.senders → new.follower.other_sources ≡ follower.other_sources
      → Sinks Follows old.follower follower (EndMore old.capture.progress old.capture.pending capture.progress.gathering cut) → follower.fault ≡ None
      → (events.accept_cut ≡ false → cut ≡ None) → capture.limit ≡ old.capture.limit → capture.progress.context ≡ old.capture.progress.context
      → capture.progress.gathering.wanted ≡ old.capture.progress.gathering.wanted → IsFollowedToEnd events fed told cut new
  followed_to_end new same_capture same_hearing same_told same_senders same_others sinks sound accepted limit context wanted =
      let by = ended_by sinks sound limit context wanted in
      let now = subst (λ (v : Tellings). IsEndedBy new.capture new.follower.senders new.follower.other_sources new.follower.hearing v) (sym same_told)
      (subst (λ (h : Hearing). IsEndedBy new.capture new.follower.senders new.follower.other_sources h follower.told.items) (sym same_hearing)
      (subst (λ (o : Option OtherSources). IsEndedBy new.capture new.follower.senders o follower.hearing follower.told.items) (sym same_others)
      (subst (λ (k : FollowedSenders). IsEndedBy new.capture k follower.other_sources follower.hearing follower.told.items) (sym same_senders)
      (subst (λ (s : State). IsEndedBy s follower.senders follower.other_sources follower.hearing follower.told.items) (sym same_capture) by)))) in
      record {
        is_read = now.is_read;
        accepted = accepted;
        limit = now.limit;
        wanted = now.wanted;
        context = now.context;
        has_heard = (now.senders_are, now.has_heard, now.others_too);
      }

pub ending : (events : Events) (fed : List ℕ) (told : Tellings) (writer : Output) (old new : Followed) (status : ℕ) (cut : Option ℕ) (answer : EventsOutcome)
    → (is : IsFollowedToEnd events fed told cut old)
    → EndsAt events (moment_of old.capture) old new → WroteLines events new.follower.told.items writer
    → status ≡ heard_status answer.senders.items → IsOutcomeOf answer.outcome status old.capture.progress.gathering.report cut
    → map heard_told answer.senders.items ≡ map (heard_of old) (with_packets old.follower.senders.senders.entries)
    → (events.strict ≡ true → AreReadWhole old.capture.progress.gathering.report answer.senders.items)
    → ((made : List Made) → new.follower.hearing.since.moment ≡ since_in events.since made → KnowsOthers events made old.follower.other_sources
    → NotesSome events (moment_of old.capture) made answer.other_sources)
    → Ends events fed told writer answer
ending events fed told writer old new status cut answer is ends wrote status_is outcome_is senders whole notes = record {
  more = new.follower.told.items;
  tells = record {
    gathering = gathering;
    cut = cut;
    is_read = is.is_read;
    wanted = is.wanted;
    accepted = is.accepted;
    steps = was.steps;
    are_made = was.are_made;
    each = was.each;
    counts = was.counts;
    ended = done.ended;
    counts_last = done.counts;
    rows = done.rows;
    have_told = known untimed moment (told_in was.steps ++ done.ended) done.rows done.have_told;
    all_last = λ timed. subst (λ (m : Option ℕ). IfSome m (λ t. AllLast speaker_cmp events.expiry t done.rows)) (when_timed untimed moment timed) done.all_last;
    silent = was.silent;
    silent_last = λ timed. subst (λ (m : Option ℕ). IfSome m (λ t. last_time (made_in was.steps) ≤ t → TellsSilent events t (made_in was.steps) (told_in was.steps ++ done.ended))) (when_timed untimed moment timed) done.silent;
    opening = done.opening;
    opens_last = done.opens;
    opens = was.opens;
    written_is = done.written_is;
    senders = heard.0 ∙ ap with_packets is.has_heard.0;
    heard = heard.1;
    outcome_is = subst (λ (s : ℕ). IsOutcomeOf answer.outcome s gathering.report cut) status_is outcome_is;
    whole = whole;
    others = notes_until events (made_in was.steps) moment answer.other_sources untimed
        (subst (λ (m : Option ℕ). NotesSome events m (made_in was.steps) answer.other_sources) same_moment
        (notes (made_in was.steps) (still_since events (followed is.is_read.is_read.gathered.made) told (moment_of old.capture) old new ends was)
        (subst (λ (m : List Made). KnowsOthers events m old.follower.other_sources) (sym was.are_made) is.has_heard.2)));
  };
  wrote = wrote;
}
  where
    extent : Extent
    extent = followed_extent events

    gathering : Gathering
    gathering = old.capture.progress.gathering

    untimed : Bool
    untimed = gathering.report.timing.has_untimed

    moment : Option ℕ
    moment = moment_read events is.is_read.is_read.blocks gathering

    same_moment : moment_of old.capture ≡ (if untimed then None else moment)
    same_moment =
        ap (λ (e : Extent). if untimed then None else moment_up_to e.window old.capture.progress.context.start gathering.report.timing.latest) is.limit
        ∙ ap (λ (b : Before). if untimed then None else moment_up_to events.window b.start gathering.report.timing.latest) is.context

    was : HasHeard events (followed is.is_read.is_read.gathered.made) (told ++ old.follower.told.items) old.follower.hearing
    was = is.has_heard.1

    done : HasEnded events (made_in was.steps) (if untimed then None else moment) was.steps (told ++ new.follower.told.items)
    done = ended_by_then events (followed is.is_read.is_read.gathered.made) told (if untimed then None else moment) old new (subst (λ (m : Option ℕ). EndsAt events m old new) same_moment ends) was

    heard : (map (λ (h : HeardSender). h.origin) answer.senders.items ≡ with_packets old.follower.senders.senders.entries)
        × AllByRecursion (IsHeardSender events (made_in was.steps) gathering) answer.senders.items
    heard = heard_senders events (made_in was.steps) old was.heard answer.senders.items (with_packets old.follower.senders.senders.entries) senders

    known : (no : Bool) (m : Option ℕ) (t : Tellings) (rows : Rows Speaker) → HaveTold events (if no then None else m) (made_in was.steps) t rows
        → HaveTold events m (made_in was.steps) t rows
    known true m t rows of = told_so events (made_in was.steps) m t rows of
    known false m t rows of = of

-- ---- what has expired

pub last_so : (cmp : Speaker → Speaker → Ordering) → cmp ≡ speaker_cmp → (events : Events) (teller : Teller Speaker) → Suits events teller → (moment : ℕ) (rows : Rows Speaker)
    → AllLast cmp teller.timeline.factor moment rows → AllLast speaker_cmp events.expiry moment rows
last_so cmp order events teller suits moment rows last =
    subst (λ (f : Option ℕ). AllLast speaker_cmp f moment rows) suits.factor (subst (λ (k : Speaker → Speaker → Ordering). AllLast k teller.timeline.factor moment rows) order last)

pub ends_by : {T E : Type 0} (result : Result T E) (events : Events) (moment : Option ℕ) (time : ℕ) → moment ≡ Some time → (old new : Followed)
    → OnOk result (EndsBy events time old.follower.hearing new.follower.hearing old.follower.told.items new.follower.told.items)
    → OnOk result (EndsAt events moment old new)
ends_by (Ok done) events moment time is old new ends = subst (λ (m : Option ℕ). EndsAt events m old new) (sym is) ends
ends_by (Err fault) events moment time is old new ends = tt
