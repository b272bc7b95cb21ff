-- Which packets of a capture are read, by when they came. It is this project's own.
use Rattle.std.specs.Prelude.{ℕ, ◌+◌, ◌*◌, Bool, true, false, ◌&&◌, nat_le, nat_lt, Option, None}
use Rattle.std.specs.Prelude.{Some}
use Rattle.std.specs.Option.{option_map}
use Rattle.babel_capture.specs.declared.window.Moment.{Moment}
use Rattle.babel_capture.specs.declared.window.Moment.TheVariants as moments
use Rattle.babel_capture.specs.declared.window.Window.{Window}
use Rattle.babel_capture.specs.declared.window.Window.TheVariants as windows

-- How much of a capture is read: so many octets at most, and the packets of these times. Where
-- `to_cut` is set, what a full disk leaves is its end: `Lengths.record_len`.
pub record Extent : Type 0 where
  pub octets : ℕ
  pub window : Window
  pub to_cut : Bool

-- so many octets, up to the last, and all packets, whether they have a time or not
abbrev pub all_times : ℕ → Extent
all_times octets = record { octets = octets; window = windows.Whole; to_cut = false }

-- a moment in nanoseconds since the start of 1970, of a capture whose first packet came then
abbrev pub moment_from : ℕ → Moment → ℕ
moment_from first (moments.At time) = time
moment_from first (moments.After seconds nanoseconds) =
    first + (seconds * 1000000000 + nanoseconds)

-- The moment up to which packets are read, of a capture whose first packet came at `start`, and of
-- which the latest time that was read is `latest`: that of the window, if it names one.
abbrev pub moment_up_to : Window → (start latest : Option ℕ) → Option ℕ
moment_up_to (windows.Between since (Some until)) start latest =
    option_map (λ first. moment_from first until) start
moment_up_to (windows.Between since None) start latest = latest
moment_up_to windows.Whole start latest = latest

-- a packet of such a capture came neither before the one moment nor after the other
abbrev pub is_since : ℕ → ℕ → Option Moment → Bool
is_since first time None = true
is_since first time (Some moment) = nat_le (moment_from first moment) time

abbrev pub is_until : ℕ → ℕ → Option Moment → Bool
is_until first time None = true
is_until first time (Some moment) = nat_le time (moment_from first moment)

abbrev pub is_between : Option Moment → Option Moment → ℕ → ℕ → Bool
is_between since until first time = is_since first time since && is_until first time until

-- the one moment is later than the other, so that no packet can come between them
abbrev pub is_empty : Option Moment → Option Moment → ℕ → Bool
is_empty None until first = false
is_empty (Some since) None first = false
is_empty (Some since) (Some until) first =
    nat_lt (moment_from first until) (moment_from first since)
