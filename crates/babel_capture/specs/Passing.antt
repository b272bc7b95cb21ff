-- How far the packets of a capture were passed, inside: this project's own.
use Rattle.std.specs.Prelude.{◌≡◌, ℕ, List, ◌++◌}
use Rattle.babel_capture.specs.Contents.{Captured}
use Rattle.babel_capture.specs.Counts.{Made}
use Rattle.babel_capture.specs.Fragments.{Datagrams}
use Rattle.babel_capture.specs.Gathering.{AreLeft, Gathering}
use Rattle.babel_capture.specs.Passage.{Passage, Sighting, clock_after, given_up, left_known}
use Rattle.babel_capture.specs.Passage.{missing_in}
use Rattle.babel_capture.specs.Sinking.{GatherMore}

-- what was gathered of them, the latest of their times, and the datagrams that are known
pub record Passed : Type 0 where
  pub gathering : Gathering
  pub clock : ℕ
  pub known : Datagrams

abbrev pub passage_of_passed : Passed → Passage
passage_of_passed passed = record {
  count = passed.gathering.report.packets;
  clock = passed.clock;
  known = passed.known;
}

-- once the time of this packet moved the clock, and gave up others than those that lack fragments
abbrev pub ticked : Passed → Captured → Passed
ticked passed packet =
    let clock : ℕ = clock_after (passage_of_passed passed) packet in
    record passed {
      clock = clock;
      known = record passed.known { others = left_known clock passed.known.others };
    }

-- these were given up, so that it goes from the one to the other
pub record AreGivenUp (old new : Passed) (sightings : List Sighting) : Type 0 where
  pub parts : missing_in (given_up old.clock old.known.unfinished)
      ≡ sightings ++ missing_in (given_up new.clock new.known.unfinished)
  pub left : left_known old.clock old.known.unfinished
      ≡ left_known new.clock new.known.unfinished
  pub others : new.known.others ≡ old.known.others
  pub clock : new.clock ≡ old.clock
  pub packets : new.gathering.report.packets ≡ old.gathering.report.packets
  pub senders : new.gathering.senders ≡ old.gathering.senders
  pub names : new.gathering.names ≡ old.gathering.names
  pub wanted : new.gathering.wanted ≡ old.gathering.wanted
  pub are_left : AreLeft old.gathering.wanted sightings

abbrev pub GivesUp : (old new : Passed) → List Made → Type 0
GivesUp old new more =
    (sightings : List Sighting) × AreGivenUp old new sightings
    × GatherMore old.gathering new.gathering sightings more

-- at the end of a capture all of them are
pub record AreLast (old new : Passed) (sightings : List Sighting) : Type 0 where
  pub parts : missing_in old.known.unfinished ≡ sightings ++ missing_in new.known.unfinished
  pub senders : new.gathering.senders ≡ old.gathering.senders
  pub names : new.gathering.names ≡ old.gathering.names
  pub wanted : new.gathering.wanted ≡ old.gathering.wanted
  pub are_left : AreLeft old.gathering.wanted sightings

abbrev pub GivesLast : (old new : Passed) → List Made → Type 0
GivesLast old new more =
    (sightings : List Sighting) × AreLast old new sightings
    × GatherMore old.gathering new.gathering sightings more
