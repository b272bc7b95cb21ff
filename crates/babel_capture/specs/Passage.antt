-- What is seen of the packets of a capture, one after another, where fragments of datagrams are put
-- together: RFC 791, 3.2; RFC 8200, 4.5. When a datagram counts is this project's own.
use Rattle.std.specs.Prelude.{ℕ, ◌+◌, Bool, ◌&&◌, true, false, if◌then◌else◌, List, [], ◌∷◌, ◌++◌}
use Rattle.std.specs.Prelude.{map, length, max, Option, None, Some}
use Rattle.std.specs.List.{filter}
use Rattle.babel_prefix.specs.Address.{Address}
use Rattle.babel_capture.specs.declared.datagram.Datagram.{Datagram}
use Rattle.babel_capture.specs.declared.datagram.Step.{Step}
use Rattle.babel_capture.specs.declared.datagram.Step.TheVariants as steps
use Rattle.babel_capture.specs.declared.link.Link.{Link}
use Rattle.babel_capture.specs.declared.link.Link.TheVariants as links
use Rattle.babel_capture.specs.Contents.{Captured}
use Rattle.babel_capture.specs.Fragments.{Datagrams, Known, clock_at, is_open, is_past}
use Rattle.babel_capture.specs.Fragments.{known_with, lost_sight, of_id_after, step_among}
use Rattle.babel_capture.specs.Fragments.{whole_sight}
use Rattle.babel_capture.specs.Frame.{frame_sight}
use Rattle.babel_capture.specs.Pieces.{Fragment}
use Rattle.babel_capture.specs.Sight.{Sight, other, fragmented, datagram, carries}
use Rattle.babel_capture.specs.Times.{Came, kept, missing, skipped, time_in}

-- a packet of a capture: its number among the packets, from 1, the offset of its block, its link
-- type, and what its frame is; or a datagram of which fragments are missing, where the first of
-- them to come has these, but for the link type
pub record Sighting : Type 0 where
  pub number : ℕ
  pub at : ℕ
  pub link : Link
  pub came : Came
  pub what : Sight

-- what the frame of a packet is, which had at least the octets that were kept
abbrev pub sight_in : Captured → Sight
sight_in packet =
    frame_sight packet.interface packet.link packet.frame (max packet.whole_len (length
    packet.frame))

-- the section of a datagram of Babel that a router may read
abbrev pub section_with : ℕ → Sight → Option ℕ
section_with first (datagram place ends (carries payload)) = Some first
section_with first what = None

-- who sent it
abbrev pub sender_with : Sight → Option Address
sender_with (datagram place ends (carries payload)) = Some ends.sender
sender_with what = None

-- when the packet came, and in which section, which is seen so
abbrev pub came_with : Captured → Sight → Came
came_with packet what = kept (time_in packet.moment) (section_with packet.section what)

abbrev pub sighting_as : ℕ → ℕ → Captured → Sight → Sighting
sighting_as number at packet what = record {
  number = number;
  at = at;
  link = packet.link;
  came = came_with packet what;
  what = what;
}

-- ---- datagrams that come in fragments

-- The datagrams that are given up, the oldest first, and those that are not, of those that lack
-- fragments. Those and the others are given up each for themselves, so that no others give up one
-- that lacks fragments.
abbrev pub given_up : (clock : ℕ) → Known → Known
given_up clock [] = []
given_up clock (oldest ∷ known) =
    if is_past clock (oldest ∷ known) then oldest ∷ given_up clock known else []

abbrev pub left_known : (clock : ℕ) → Known → Known
left_known clock [] = []
left_known clock (oldest ∷ known) =
    if is_past clock (oldest ∷ known) then left_known clock known else oldest ∷ known

abbrev pub left_among : (clock : ℕ) → Datagrams → Datagrams
left_among clock known = record {
  unfinished = left_known clock known.unfinished;
  others = left_known clock known.others;
}

-- it counts if fragments of it are missing, where its 60 seconds end within the window
abbrev pub is_lost : Datagram → Bool
is_lost one = is_open one.standing && one.ends_within

-- what is seen of such a datagram, and of those among the ones that are given up
abbrev pub missing_of : ℕ × Datagram → Sighting
missing_of one = record {
  number = one.0;
  at = one.1.at;
  link = links.Null;
  came = missing;
  what = lost_sight one.1;
}

abbrev pub missing_in : Known → List Sighting
missing_in known = map missing_of (filter (λ one. is_lost one.1) known)

-- What is seen at a fragment of this datagram, after it: that is whole where no other is missing,
-- and lost where it overlaps others.
abbrev pub sight_at : Step → Option (ℕ × Datagram) → Sight
sight_at steps.Completes (Some one) = whole_sight one.1
sight_at step one = other

abbrev pub missing_at : Step → Option (ℕ × Datagram) → List Sighting
missing_at steps.Overlaps (Some one) = missing_of one ∷ []
missing_at step one = []

-- ---- packets

-- how many packets there were, the latest of their times, 0 before any, and the datagrams that are
-- known
pub record Passage : Type 0 where
  pub count : ℕ
  pub clock : ℕ
  pub known : Datagrams

-- what is seen at the next packet, in the block at this offset, which is seen so: a fragment as the
-- datagram that it completes
abbrev pub fragment_sightings : Passage → ℕ → Captured → Fragment → List Sighting
fragment_sightings before at packet fragment =
    let step = step_among before.known fragment in
    let found = of_id_after before.known.unfinished fragment in
    missing_at step found
    ++ sighting_as (before.count + 1) at packet (sight_at step found) ∷ []

abbrev pub seen_at : Passage → ℕ → Captured → Sight → List Sighting
seen_at before at packet (fragmented fragment) = fragment_sightings before at packet fragment
seen_at before at packet what = sighting_as (before.count + 1) at packet what ∷ []

-- and the datagrams that are known after it
abbrev pub known_after : Passage → ℕ → (ends_within : Bool) → Sight → Datagrams
known_after before at ends_within (fragmented fragment) =
    known_with before.known (before.count + 1) at before.clock ends_within fragment
known_after before at ends_within what = before.known

-- the passage once the time of the next packet gave datagrams up
abbrev pub clock_after : Passage → Captured → ℕ
clock_after before packet = clock_at before.clock (time_in packet.moment)

abbrev pub passage_to : Passage → Captured → Passage
passage_to before packet = record {
  count = before.count;
  clock = clock_after before packet;
  known = left_among (clock_after before packet) before.known;
}

-- nothing is seen of one that is skipped
abbrev pub skipped_of : ℕ → ℕ → Captured → Sighting
skipped_of number at packet = record {
  number = number;
  at = at;
  link = packet.link;
  came = skipped;
  what = other;
}

-- all that is seen at it or where it is skipped, and the passage after it in both cases: a fragment
-- is one of its datagram whenever it came
abbrev pub sightings_at : Passage → ℕ → Captured → List Sighting
sightings_at before at packet =
    missing_in (given_up (clock_after before packet) before.known.unfinished)
    ++ seen_at (passage_to before packet) at packet (sight_in packet)

abbrev pub sightings_skipped : Passage → ℕ → Captured → List Sighting
sightings_skipped before at packet =
    missing_in (given_up (clock_after before packet) before.known.unfinished)
    ++ skipped_of (before.count + 1) at packet ∷ []

abbrev pub passed_at : Passage → ℕ → Captured → Passage
passed_at before at packet = record {
  count = before.count + 1;
  clock = clock_after before packet;
  known = known_after (passage_to before packet) at packet.ends_within (sight_in packet);
}
