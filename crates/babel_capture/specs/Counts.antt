-- What a report says of the packets of a capture. It is this project's own.
use Rattle.std.specs.Prelude.{ℕ, Bool, true, false, not, ◌==◌, List, [], ◌∷◌, map, slice_get}
use Rattle.std.specs.Prelude.{Option, None, Some, count_by, fold, length, min}
use Rattle.std.specs.List.{filter}
use Rattle.std.specs.Option.{option_map, option_flatten}
use Rattle.babel_capture.specs.declared.link.Link.{Link}
use Rattle.babel_capture.specs.declared.link.Link.TheVariants as links
use Rattle.babel_capture.specs.declared.reason.Reason.{Reason}
use Rattle.babel_capture.specs.declared.reason.Reason.TheVariants as reasons
use Rattle.babel_capture.specs.declared.sections.Sections.{Sections}
use Rattle.babel_capture.specs.declared.timing.Timing.{Timing}
use Rattle.babel_capture.specs.Findings.{Found, untold, left, found}
use Rattle.babel_capture.specs.Sections.{no_sections, sectioned}
use Rattle.babel_capture.specs.Times.{Came, missing}
use Rattle.babel_capture.specs.Timing.{greatest, no_times, timed}
use Rattle.babel_capture.specs.Updates.{interval_in}

-- what is made of a packet, its number among the packets, from 1, its link type, and when and where
-- it came
pub record Made : Type 0 where
  pub number : ℕ
  pub link : Link
  pub came : Came
  pub what : Found

-- how many packets there are, and of how many datagrams fragments are missing; for each reason, in
-- the order of the reasons, how many datagrams were left out for it and the lowest number; how many
-- frames were too short to tell; how many Babel packets came in frames of Linux cooked, version 1,
-- which name no interface, and how many have octets after the body; in how many sections datagrams
-- of Babel came; the times of the packets; and the greatest Interval of the Updates that announce
pub record Counts : Type 0 where
  pub packets : ℕ
  pub missing : ℕ
  pub left_out : List (Option (ℕ × ℕ))
  pub short : ℕ
  pub cooked : ℕ
  pub trailers : ℕ
  pub sections : Sections
  pub timing : Timing
  pub interval : Option ℕ

-- the place of a reason in their order
abbrev pub reason_place : Reason → ℕ
reason_place reasons.Truncated = 0
reason_place reasons.BadMagic = 1
reason_place reasons.BadVersion = 2
reason_place reasons.Fragment = 3
reason_place reasons.Snapped = 4
reason_place reasons.CutShort = 5
reason_place reasons.OtherPort = 6
reason_place reasons.NotLinkLocal = 7

abbrev pub all_reasons : List Reason
all_reasons = reasons.Truncated ∷ reasons.BadMagic ∷ reasons.BadVersion ∷ reasons.Fragment
    ∷ reasons.Snapped ∷ reasons.CutShort ∷ reasons.OtherPort ∷ reasons.NotLinkLocal ∷ []

abbrev pub count_at : List (Option (ℕ × ℕ)) → ℕ → Option (ℕ × ℕ)
count_at counts place = option_flatten (slice_get counts place)

-- the datagram was left out for this reason
abbrev pub is_left_for : Reason → Found → Bool
is_left_for reason (left other missed) = reason_place other == reason_place reason
is_left_for reason what = false

-- the lowest of these numbers, if there are any
abbrev pub lowest : List ℕ → Option ℕ
lowest [] = None
lowest (first ∷ rest) = Some (fold min first rest)

-- how many datagrams were left out for the reason, and the lowest of their numbers
abbrev pub left_for : List Made → Reason → Option (ℕ × ℕ)
left_for made reason =
    let left_out = filter (λ one. is_left_for reason one.what) made in
    let numbers = map (λ one. one.number) left_out in
    option_map (λ first. (length numbers, first)) (lowest numbers)

-- its frame was too short to tell
abbrev pub is_short : Found → Bool
is_short untold = true
is_short what = false

-- a Babel packet was found, in a frame of Linux cooked, version 1
abbrev pub is_cooked_link : Link → Bool
is_cooked_link links.Cooked = true
is_cooked_link link = false

abbrev pub is_cooked : Link → Found → Bool
is_cooked link (found place ends packet has_trailer) = is_cooked_link link
is_cooked link what = false

-- a Babel packet was found, and octets come after its body
abbrev pub has_trailer : Found → Bool
has_trailer (found place ends packet trails) = trails
has_trailer what = false

abbrev pub sections_of : List Made → Sections
sections_of made = fold (λ sections one. sectioned sections one.came) no_sections made

abbrev pub timing_of : List Made → Timing
timing_of made = fold (λ timing one. timed timing one.number one.came) no_times made

-- the Interval of the packet, if one was found
abbrev pub interval_found : Found → Option ℕ
interval_found (found place ends packet has_trailer) = interval_in packet
interval_found what = None

abbrev pub interval_made : List Made → Option ℕ
interval_made made = fold (λ interval one. greatest interval (interval_found one.what)) None made

-- it is a packet, and no datagram of which fragments are missing
abbrev pub is_packet : Came → Bool
is_packet missing = false
is_packet other = true

abbrev pub counts_of : List Made → Counts
counts_of made = record {
  packets = count_by (λ one. is_packet one.came) made;
  missing = count_by (λ one. not (is_packet one.came)) made;
  left_out = map (left_for made) all_reasons;
  short = count_by (λ one. is_short one.what) made;
  cooked = count_by (λ one. is_cooked one.link one.what) made;
  trailers = count_by (λ one. has_trailer one.what) made;
  sections = sections_of made;
  timing = timing_of made;
  interval = interval_made made;
}
