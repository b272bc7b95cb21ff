-- A capture that is followed, read by read, to its end.
use Rattle.std.proofs.Common.{ℕ, ◌+◌, ◌<◌, ◌≤◌, ◌^◌, List, [], ◌++◌, length, length-append, length-take, take, Result, Ok, Err, IfOk, arith, refl}
use Rattle.std.proofs.KnownBytes.{Appends-nil}
use Rattle.babel_timeline.specs.declared.telling.Telling.{Telling}
use Rattle.babel_dump.specs.Device.{Gave, InputState, IsSpent, OutputState}
use Rattle.babel_dump.specs.EventsRun.{AreLines, TellsEvents, WroteLines, followed_extent}
use Rattle.babel_dump.specs.Followed.{Ends, Goes, HasFollowed, IsFollowed}
use Rattle.babel_dump.specs.Run.{Output, output}
use Rattle.babel_dump.specs.declared.events.Followed.{Followed}
use Rattle.babel_dump.specs.declared.events_job.Events.{Events}
use Rattle.babel_dump.specs.declared.events_outcome.EventsOutcome.{EventsOutcome}
use Rattle.babel_dump.specs.declared.speaker.Speaker.{Speaker}
use Rattle.babel_dump.specs.declared.trouble.Trouble.{Trouble}
use Rattle.babel_dump.proofs.CaptureLimits.{taken_within}
use Rattle.babel_dump.proofs.Devices.{gave_itself, gave_more, gave_none}
use Rattle.babel_dump.proofs.EventLineLaws.{wrote_both}

-- ---- lines

pub lines_none : (events : Events) → AreLines events [] []
lines_none events = record { named = []; are = refl; text_is = refl }

wrote_none : (events : Events) (w : OutputState) → WroteLines events [] (output w w)
wrote_none events w = record { text = []; lines = lines_none events; wrote = Appends-nil w.taken }

-- ---- read by read

-- the reader gave these octets, at least one in each turn, the capture was followed so far, and the
-- writer took the lines of what they told
pub record IsFollowedSoFar (events : Events) (old new : InputState) (writer : Output) (turns : ℕ) (followed : Followed) : Type 0 where
  pub octets : List ℕ
  pub gave : Gave old new octets
  pub some_each : turns ≤ length octets
  pub goes : Goes events octets [] writer followed

-- nothing was read yet
pub followed_none : (events : Events) (a : InputState) (w : OutputState) (followed : Followed) → IsFollowed events [] [] followed → IsFollowedSoFar events a a (output w w) 0 followed
followed_none events a w followed none = record {
  octets = [];
  gave = gave_itself a;
  some_each = omega arith;
  goes = record { more = []; is_followed = none; wrote = wrote_none events w };
}

goes_on : (events : Events) (old new : Followed) (u v w : OutputState) (fed more : List ℕ) → Goes events fed [] (output u v) old
    → ((fed : List ℕ) (told : List (Telling Speaker)) → IsFollowed events fed told old → Goes events (fed ++ more) told (output v w) new)
    → Goes events (fed ++ more) [] (output u w) new
goes_on events old new u v w fed more first goes =
    let next = goes fed first.more first.is_followed in
    record { more = first.more ++ next.more; is_followed = next.is_followed; wrote = wrote_both events u v w first.more next.more first.wrote next.wrote }

-- one more read
pub followed_more : (events : Events) (old new : Followed) (a b c : InputState) (u v w : OutputState) (turns n : ℕ) (buf : List ℕ) → IsFollowedSoFar events a b (output u v) turns old
    → Gave b c (take n buf) → 0 < n → n ≤ length buf
    → ((fed : List ℕ) (told : List (Telling Speaker)) → IsFollowed events fed told old → Goes events (fed ++ take n buf) told (output v w) new)
    → IsFollowedSoFar events a c (output u w) (turns + 1) new
followed_more events old new a b c u v w turns n buf so_far gave some within goes = record {
  octets = so_far.octets ++ take n buf;
  gave = gave_more a b c so_far.octets (take n buf) so_far.gave gave;
  some_each = let _more = so_far.some_each in omega (arith, length-append so_far.octets (take n buf), length-take n buf);
  goes = goes_on events old new u v w so_far.octets (take n buf) so_far.goes goes;
}

-- without a fault the turns are fewer than the limit and 24
pub followed_within : (events : Events) (followed : Followed) (a b : InputState) (writer : Output) (turns : ℕ) → IsFollowedSoFar events a b writer turns followed → turns < 2 ^ 62 + 24
followed_within events followed a b writer turns so_far =
    let is = so_far.goes.is_followed in
    let within : length so_far.octets < 2 ^ 62 + 24 = taken_within (followed_extent events) followed.capture.progress followed.capture.pending so_far.octets is.read in
    let _some = so_far.some_each in
    omega arith

-- the end was met
pub followed_whole : (events : Events) (followed : Followed) (a b c : InputState) (writer : Output) (turns : ℕ) (buf : List ℕ) → IsFollowedSoFar events a b writer turns followed
    → Gave b c (take 0 buf) → IsSpent c → a.ends < c.ends → HasFollowed events a c writer followed
followed_whole events followed a b c writer turns buf so_far gave spent met = record {
  octets = so_far.octets;
  gave = record { gave = gave_none a b c so_far.octets buf so_far.gave gave; all = spent; met_end = met };
  goes = so_far.goes;
}

-- ---- the run

-- it was followed to its end, and ended
pub followed_ended : (events : Events) (followed : Followed) (a b : InputState) (u v w : OutputState) (result : Result EventsOutcome Trouble) → HasFollowed events a b (output u v) followed
    → IfOk result (λ answer. (fed : List ℕ) (told : List (Telling Speaker)) → IsFollowed events fed told followed → Ends events fed told (output v w) answer)
    → IfOk result (TellsEvents events a b (output u w))
followed_ended events followed a b u v w (Err fault) has ends = tt
followed_ended events followed a b u v w (Ok answer) has ends =
    let first = has.goes in
    let end = ends has.octets first.more first.is_followed in
    record {
      octets = has.octets;
      gave = has.gave;
      written = first.more ++ end.more;
      tells = end.tells;
      wrote = wrote_both events u v w first.more end.more first.wrote end.wrote;
    }
