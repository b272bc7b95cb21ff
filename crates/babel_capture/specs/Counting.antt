-- The counts of packets, one more at a time.
use Rattle.std.specs.Prelude.{ℕ, ◌+◌, Bool, if◌then◌else◌, List, slice_set, Option, None, Some, min}
use Rattle.babel_capture.specs.declared.link.Link.{Link}
use Rattle.babel_capture.specs.declared.reason.Reason.{Reason}
use Rattle.babel_capture.specs.Findings.{Found, untold, left, found}
use Rattle.babel_capture.specs.Counts.{Counts, reason_place, count_at, is_cooked_link}
use Rattle.babel_capture.specs.Sections.{sectioned}
use Rattle.babel_capture.specs.Times.{Came}
use Rattle.babel_capture.specs.Timing.{greatest, timed}
use Rattle.babel_capture.specs.Updates.{interval_in}

-- one more datagram left out, with this number
abbrev pub one_more : ℕ → Option (ℕ × ℕ) → Option (ℕ × ℕ)
one_more number None = Some (1, number)
one_more number (Some counted) = Some (counted.0 + 1, min counted.1 number)

-- the counts of packets, and of one more, which is left out for this reason, if for any
abbrev pub left_with : List (Option (ℕ × ℕ)) → Option Reason → ℕ → List (Option (ℕ × ℕ))
left_with counts None number = counts
left_with counts (Some reason) number =
    slice_set counts (reason_place reason) (one_more number (count_at counts (reason_place reason)))

abbrev pub counted_with : Counts → Option Reason → Counts
counted_with counts reason =
    record {
      packets = counts.packets + 1;
      missing = counts.missing;
      left_out = left_with counts.left_out reason (counts.packets + 1);
      short = counts.short;
      cooked = counts.cooked;
      trailers = counts.trailers;
      sections = counts.sections;
      timing = counts.timing;
      interval = counts.interval;
    }

-- the counts with a frame more that is too short to tell
abbrev pub short_counted : Counts → Counts
short_counted counts = record (counted_with counts None) { short = counts.short + 1 }

-- the counts with a Babel packet more, in a frame of this link type, with this Interval, and
-- whether octets come after its body
abbrev pub packet_counted : Counts → Link → Option ℕ → (has_trailer : Bool) → Counts
packet_counted counts link interval has_trailer =
    record (counted_with counts None) {
      cooked = counts.cooked + (if is_cooked_link link then 1 else 0);
      trailers = counts.trailers + (if has_trailer then 1 else 0);
      interval = greatest counts.interval interval;
    }

-- the counts with what is made of one packet more, of this link type
abbrev pub counted : Counts → Link → Found → Counts
counted counts link untold = short_counted counts
counted counts link (left reason missed) = counted_with counts (Some reason)
counted counts link (found place ends packet has_trailer) =
    packet_counted counts link (interval_in packet) has_trailer
counted counts link what = counted_with counts None

-- the counts with a datagram more of which fragments are missing, and the first to come had this
-- number
abbrev pub counted_missing : Counts → ℕ → Found → Counts
counted_missing counts number (left reason missed) = record counts {
  missing = counts.missing + 1;
  left_out = left_with counts.left_out (Some reason) number;
}
counted_missing counts number what = record counts { missing = counts.missing + 1 }

-- the counts with the time and the section of the next packet
abbrev pub counted_at : Counts → Came → Counts
counted_at counts came = record counts {
  timing = timed counts.timing (counts.packets + 1) came;
  sections = sectioned counts.sections came;
}
