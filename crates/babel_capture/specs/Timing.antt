-- What is told of the times of a capture's packets. It is this project's own.
use Rattle.std.specs.Prelude.{ℕ, true, false, min, max, nat_lt, if◌then◌else◌, Option, None}
use Rattle.std.specs.Prelude.{Some}
use Rattle.std.specs.Option.{option_or}
use Rattle.babel_capture.specs.declared.timing.Timing.{Timing}
use Rattle.babel_capture.specs.Times.{Came, skipped, missing, kept}

-- the least and the greatest number, where there is one
abbrev pub least : Option ℕ → Option ℕ → Option ℕ
least None number = number
least (Some one) None = Some one
least (Some one) (Some other) = Some (min one other)

abbrev pub greatest : Option ℕ → Option ℕ → Option ℕ
greatest None number = number
greatest (Some one) None = Some one
greatest (Some one) (Some other) = Some (max one other)

abbrev pub no_times : Timing
no_times = record {
  has_untimed = false;
  earliest = None;
  latest = None;
  backwards = None;
}

-- the packet with this number came then, which is before the latest of those before it
abbrev pub backwards_at : ℕ → ℕ → Option ℕ → Option ℕ
backwards_at number time None = None
backwards_at number time (Some latest) = if nat_lt time latest then Some number else None

-- with one packet more, which has this number and came then
abbrev pub with_time : Timing → ℕ → Option ℕ → Timing
with_time timing number None = record timing { has_untimed = true }
with_time timing number (Some time) = record {
  has_untimed = timing.has_untimed;
  earliest = least timing.earliest (Some time);
  latest = greatest timing.latest (Some time);
  backwards = option_or timing.backwards (backwards_at number time timing.latest);
}

-- one that is skipped does not count, and neither does a datagram of which fragments are missing
abbrev pub timed : Timing → ℕ → Came → Timing
timed timing number skipped = timing
timed timing number missing = timing
timed timing number (kept time section) = with_time timing number time
