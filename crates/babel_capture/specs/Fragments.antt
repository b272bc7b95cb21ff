-- Datagrams that are put together of their fragments: RFC 791, 3.2; RFC 8200, 4.5; RFC 5722, 4. For
-- how long a datagram is known after it is whole, and how much is kept, is this project's own.
use Rattle.std.specs.Prelude.{ℕ, ◌+◌, ◌-◌, Bool, not, true, false, ◌==◌, ◌&&◌, ◌||◌, nat_lt}
use Rattle.std.specs.Prelude.{is_some, if◌then◌else◌, List, [], ◌∷◌, drop, length, max, sum_by}
use Rattle.std.specs.Prelude.{Option, None, Some}
use Rattle.std.specs.declared.cmp.Ordering.{Ordering}
use Rattle.std.specs.BTreeMap.{insert_entry, is_at}
use Rattle.std.specs.List.{find}
use Rattle.std.specs.Map.{remove_entry, set_value, values_of}
use Rattle.std.specs.Option.{option_map, option_or, unwrap_or}
use Rattle.std.specs.Ordering.{nat_cmp, on, then_cmp}
use Rattle.babel_prefix.specs.Order.{address_cmp}
use Rattle.babel_capture.specs.declared.datagram.Datagram.{Datagram}
use Rattle.babel_capture.specs.declared.datagram.Standing.{Standing}
use Rattle.babel_capture.specs.declared.datagram.Standing.TheVariants as standings
use Rattle.babel_capture.specs.declared.datagram.Step.{Step}
use Rattle.babel_capture.specs.declared.datagram.Step.TheVariants as steps
use Rattle.babel_capture.specs.declared.ends.Ends.{Ends}
use Rattle.babel_capture.specs.declared.fragment.DatagramId.{DatagramId}
use Rattle.babel_capture.specs.declared.fragment.UdpPlace.{UdpPlace}
use Rattle.babel_capture.specs.declared.pieces.Meeting.{Meeting}
use Rattle.babel_capture.specs.declared.pieces.Meeting.TheVariants as meetings
use Rattle.babel_capture.specs.Pieces.{Fragment, KeptPieces, furthest, is_whole, joined, len_of}
use Rattle.babel_capture.specs.Pieces.{meeting, piece_of}
use Rattle.babel_capture.specs.Sight as sights
use Rattle.babel_capture.specs.Sight.{Sight}
use Rattle.babel_capture.specs.Tallies.{origin_cmp}
use Rattle.babel_capture.specs.Udp.{missing_sight, udp_sight}

-- ---- which datagram

-- by sender and place, by destination and by identification; each of IPv4 is of UDP
abbrev pub id_cmp : DatagramId → DatagramId → Ordering
id_cmp =
    then_cmp (on (λ i. i.origin) origin_cmp)
    (then_cmp (on (λ i. i.destination) address_cmp) (on (λ i. i.identification) nat_cmp))

-- the first fragment of a datagram that neither comes from the port of Babel nor goes to it
abbrev pub is_of_another : Fragment → Bool
is_of_another fragment = fragment.offset == 0 && not (is_some fragment.udp)

-- ---- one datagram

-- one fragment of it came then, in the block at this offset, and the 60 seconds after it end within
-- the window or not
abbrev pub begun : (at came : ℕ) → (ends_within : Bool) → Fragment → Datagram
begun at came ends_within fragment = record {
  id = fragment.id;
  at = at;
  came = came;
  ends_within = ends_within;
  is_to_group = fragment.is_to_group;
  udp = fragment.udp;
  standing = standings.Open;
  pieces = (fragment.offset, piece_of fragment) ∷ [];
}

-- one that is none of Babel's, as its first fragment says, is known as that, and nothing of it kept
abbrev pub begins : (at came : ℕ) → (ends_within : Bool) → Fragment → Datagram
begins at came ends_within fragment =
    if is_of_another fragment
    then record (begun at came ends_within fragment) { standing = standings.Other; pieces = [] }
    else begun at came ends_within fragment

-- with one more
abbrev pub with_fragment : Datagram → Fragment → Datagram
with_fragment datagram fragment =
    let pieces : KeptPieces =
    insert_entry nat_cmp datagram.pieces fragment.offset (piece_of fragment) in
    record datagram {
      udp = option_or fragment.udp datagram.udp;
      standing = if is_whole pieces then standings.Whole else standings.Open;
      pieces = pieces;
    }

-- What a fragment is to a datagram of which some are missing: RFC 5722, 4, has one that overlaps
-- drop it. The first one of a datagram that is not Babel's begins another.
abbrev pub step_to_open : Datagram → Fragment → Meeting → Step
step_to_open datagram fragment meetings.Repeats = steps.Ignored
step_to_open datagram fragment meetings.Overlaps =
    if is_of_another fragment then steps.Anew else steps.Overlaps
step_to_open datagram fragment meetings.Apart =
    if is_of_another fragment then steps.Anew
    else if is_whole (with_fragment datagram fragment).pieces then steps.Completes
    else steps.Added

-- and to one that is whole: it repeats one, or begins another
abbrev pub step_to_whole : Meeting → Step
step_to_whole meetings.Repeats = steps.Ignored
step_to_whole other = steps.Anew

-- and to one that is none of Babel's: the first one of a datagram of Babel begins that
abbrev pub step_to_other : Fragment → Step
step_to_other fragment = if is_some fragment.udp then steps.Anew else steps.Ignored

-- and to one that was dropped: it is dropped with it
abbrev pub step_to_settled : Datagram → Fragment → Standing → Step
step_to_settled datagram fragment standings.Whole =
    step_to_whole (meeting datagram.pieces fragment)
step_to_settled datagram fragment standings.Other = step_to_other fragment
step_to_settled datagram fragment standing = steps.Ignored

-- and so to each
abbrev pub step_by : Datagram → Fragment → Standing → Step
step_by datagram fragment standings.Open =
    step_to_open datagram fragment (meeting datagram.pieces fragment)
step_by datagram fragment standing = step_to_settled datagram fragment standing

abbrev pub step_in : Datagram → Fragment → Step
step_in datagram fragment = step_by datagram fragment datagram.standing

-- the datagram after that
abbrev pub stepped : Datagram → Fragment → Step → Datagram
stepped datagram fragment steps.Added = with_fragment datagram fragment
stepped datagram fragment steps.Completes = with_fragment datagram fragment
stepped datagram fragment steps.Overlaps = record datagram { standing = standings.Dropped }
stepped datagram fragment steps.Ignored = datagram
stepped datagram fragment steps.Anew = datagram

-- between which addresses it is sent
abbrev pub ends_of : DatagramId → Ends
ends_of id = record { sender = id.origin.sender; destination = id.destination }

-- What it is where fragments of it are missing: as its first one tells or, without that, as its
-- group does.
abbrev pub lost_by : Datagram → Option UdpPlace → Sight
lost_by datagram (Some udp) =
    missing_sight datagram.id.origin.place (ends_of datagram.id) udp.is_of_routers
lost_by datagram None =
    if datagram.is_to_group
    then missing_sight datagram.id.origin.place (ends_of datagram.id) true
    else sights.other

abbrev pub lost_sight : Datagram → Sight
lost_sight datagram = lost_by datagram datagram.udp

-- and where it is whole: UDP in the octets of its fragments, as one that was sent so
abbrev pub whole_by : Datagram → Option UdpPlace → Sight
whole_by datagram (Some udp) =
    udp_sight datagram.id.origin.place (ends_of datagram.id) false
    (drop udp.at (joined (values_of datagram.pieces))) (furthest datagram.pieces - udp.at)
whole_by datagram None = sights.other

abbrev pub whole_sight : Datagram → Sight
whole_sight datagram = whole_by datagram datagram.udp

-- whether fragments of it are missing
abbrev pub is_open : Standing → Bool
is_open standings.Open = true
is_open standing = false

-- ---- datagrams that are known

-- each by the number of the packet that the first of its fragments to come came in, so that the
-- oldest stands first
abbrev pub Known : Type 0
Known = List (ℕ × Datagram)

abbrev pub of_id : DatagramId → Known → Option (ℕ × Datagram)
of_id id known = find (λ one. is_at (id_cmp id) one.1.id) known

abbrev pub octets_in : Known → ℕ
octets_in known = sum_by (λ datagram. len_of datagram.pieces) (values_of known)

-- what a fragment is to the one of its identification, if that is known
abbrev pub step_of : Known → Fragment → Option Step
step_of known fragment = option_map (λ one. step_in one.1 fragment) (of_id fragment.id known)

-- they are so after that
abbrev pub changed_with : Known → Fragment → Option (ℕ × Datagram) → Known
changed_with known fragment None = known
changed_with known fragment (Some one) =
    set_value (is_at (nat_cmp one.0)) known (stepped one.1 fragment (step_in one.1 fragment))

abbrev pub changed : Known → Fragment → Known
changed known fragment = changed_with known fragment (of_id fragment.id known)

-- so that the one of its identification is then this
abbrev pub of_id_after : Known → Fragment → Option (ℕ × Datagram)
of_id_after known fragment =
    option_map (λ one. (one.0, stepped one.1 fragment (step_in one.1 fragment)))
    (of_id fragment.id known)

-- without the one of this identification
abbrev pub forgotten_with : Known → Option (ℕ × Datagram) → Known
forgotten_with known None = known
forgotten_with known (Some one) = remove_entry (is_at (nat_cmp one.0)) known

abbrev pub forgotten : DatagramId → Known → Known
forgotten id known = forgotten_with known (of_id id known)

-- ---- all of them

-- those that lack fragments, and the others, which are whole, dropped or none of Babel's
pub record Datagrams : Type 0 where
  pub unfinished : Known
  pub others : Known

-- what a fragment is to one of the others
abbrev pub settled_step_of : Known → Fragment → Option Step
settled_step_of others fragment =
    option_map (λ one. step_to_settled one.1 fragment one.1.standing) (of_id fragment.id others)

-- and to all: where none of its identification is known, it begins one
abbrev pub step_among : Datagrams → Fragment → Step
step_among known fragment =
    unwrap_or
    (option_or (step_of known.unfinished fragment) (settled_step_of known.others fragment))
    steps.Anew

abbrev pub changed_among : Datagrams → Fragment → Datagrams
changed_among known fragment =
    record known { unfinished = changed known.unfinished fragment }

abbrev pub forgotten_among : DatagramId → Datagrams → Datagrams
forgotten_among id known = record {
  unfinished = forgotten id known.unfinished;
  others = forgotten id known.others;
}

-- one that lacks none, or was dropped, is one of the others
abbrev pub settled_with : Datagrams → Option (ℕ × Datagram) → Datagrams
settled_with known None = known
settled_with known (Some one) =
    record known { others = insert_entry nat_cmp known.others one.0 one.1 }

abbrev pub settled : DatagramId → Datagrams → Datagrams
settled id known = settled_with (forgotten_among id known) (of_id id known.unfinished)

-- a datagram begins with a fragment: one that is none of Babel's is one of the others
abbrev pub begun_in : Datagrams → (number at came : ℕ) → (ends_within : Bool) → Fragment
    → Datagrams
begun_in known number at came ends_within fragment =
    let one : Datagram = begins at came ends_within fragment in
    if is_of_another fragment
    then record known { others = insert_entry nat_cmp known.others number one }
    else record known { unfinished = insert_entry nat_cmp known.unfinished number one }

-- after a fragment: one that it begins takes the place of one of the same identification
abbrev pub known_by : Step → Datagrams → (number at came : ℕ) → (ends_within : Bool) → Fragment
    → Datagrams
known_by steps.Anew known number at came ends_within fragment =
    begun_in (forgotten_among fragment.id known) number at came ends_within fragment
known_by steps.Completes known number at came ends_within fragment =
    settled fragment.id (changed_among known fragment)
known_by steps.Overlaps known number at came ends_within fragment =
    settled fragment.id (changed_among known fragment)
known_by other known number at came ends_within fragment = changed_among known fragment

abbrev pub known_with : Datagrams → (number at came : ℕ) → (ends_within : Bool) → Fragment
    → Datagrams
known_with known number at came ends_within fragment =
    known_by (step_among known fragment) known number at came ends_within fragment

-- ---- what is given up

-- the latest time that was read, 0 before any; the number of the last packet that had a fragment;
-- and the datagrams that are known
pub record Reassembly : Type 0 where
  pub clock : ℕ
  pub last : ℕ
  pub known : Datagrams

-- RFC 8200, 4.5: more than 60 seconds passed after its first fragment to come
abbrev pub is_old : (clock : ℕ) → Datagram → Bool
is_old clock datagram = nat_lt 60000000000 (clock - datagram.came)

-- they are more than 65,536, or of more than 16 MiB
abbrev pub are_too_many : Known → Bool
are_too_many known = nat_lt 65536 (length known) || nat_lt 16777216 (octets_in known)

-- the oldest of those that lack fragments, or of the others, is given up: it is old, or they are
-- too many
abbrev pub is_past : (clock : ℕ) → Known → Bool
is_past clock [] = false
is_past clock (oldest ∷ known) =
    is_old clock oldest.1 || are_too_many (oldest ∷ known)

-- a record that came then moves the clock, if it has a time
abbrev pub clock_at : (clock : ℕ) → Option ℕ → ℕ
clock_at clock time = max clock (unwrap_or time 0)
