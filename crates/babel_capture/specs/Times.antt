-- When the packets of a capture came: draft-ietf-opsawg-pcap, 4 and 5; draft-ietf-opsawg-pcapng,
-- 4.2 and 4.3. That only times of the years 1970 to 9999 are told is this project's own.
use Rattle.std.specs.Prelude.{ℕ, ◌+◌, ◌-◌, ◌*◌, ◌/◌, ◌^◌, ℤ, pos, negsuc, ◌+ℤ◌, ◌*ℤ◌, nat_lt}
use Rattle.std.specs.Prelude.{if◌then◌else◌, Option, Some, None, Result, Ok, Err}
use Rattle.babel_capture.specs.declared.clock.Clock.{Clock}
use Rattle.babel_capture.specs.declared.clock.Resolution.{Resolution}
use Rattle.babel_capture.specs.declared.clock.Resolution.TheVariants as resolutions
use Rattle.babel_capture.specs.declared.clock.Stamp.{Stamp}
use Rattle.babel_capture.specs.declared.fault.Fault.{Fault}
use Rattle.babel_capture.specs.declared.fault.Fault.TheVariants as faults

-- how many units a second has
abbrev pub per_second : Resolution → ℕ
per_second (resolutions.Ten power) = 10 ^ power
per_second (resolutions.Two power) = 2 ^ power

-- draft-ietf-opsawg-pcapng, 4.2: an octet says a power of two where its highest bit is set, and
-- else one of ten
abbrev pub resolution_of : ℕ → Resolution
resolution_of octet =
    if nat_lt octet 128 then resolutions.Ten octet else resolutions.Two (octet - 128)

-- whole nanoseconds since the start of 1970, rounded down: the seconds that the interface adds to
-- each time, which may be less than 0, those of the packet, and its units
abbrev pub moment_of : Clock → Stamp → ℤ
moment_of clock stamp =
    clock.offset *ℤ pos 1000000000
    +ℤ pos (stamp.seconds * 1000000000
    + stamp.units * 1000000000 / per_second clock.resolution)

-- the time of a packet, where its block has one
abbrev pub moment_in : Clock → Option Stamp → Option ℤ
moment_in clock None = None
moment_in clock (Some stamp) = Some (moment_of clock stamp)

-- before the start of the year 10000, 253,402,300,800 seconds after that of 1970
abbrev pub within_years : ℕ → Option ℕ
within_years nanoseconds =
    if nat_lt nanoseconds 253402300800000000000 then Some nanoseconds else None

-- of the years 1970 to 9999
abbrev pub in_years : ℤ → Option ℕ
in_years (pos nanoseconds) = within_years nanoseconds
in_years (negsuc before) = None

-- the time, if it is of these years, where there is one
abbrev pub time_in : Option ℤ → Option ℕ
time_in None = None
time_in (Some moment) = in_years moment

-- a packet was skipped for its time; or it is a datagram of which fragments are missing, and no
-- packet; or it came then, where it has a time of these years, and in the section whose first
-- interface has this number, where it is a datagram of Babel
pub data Came : Type 0 where
  skipped : Came
  missing : Came
  kept : (time section : Option ℕ) → Came

abbrev pub time_of : Came → Option ℕ
time_of skipped = None
time_of missing = None
time_of (kept time section) = time

-- where a time is asked for: the time of the packet in the block at this offset, or the fault
abbrev pub time_or : Fault → Option ℕ → Result ℕ Fault
time_or fault None = Err fault
time_or fault (Some time) = Ok time

abbrev pub time_asked : ℕ → Option ℤ → Result ℕ Fault
time_asked at None = Err (faults.NoTime at)
time_asked at (Some moment) = time_or (faults.BadTime at) (in_years moment)
