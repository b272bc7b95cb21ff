-- How many packets of Babel each sender sent, of how many octets, with how many Updates, how many
-- with octets after the body, when, and at which Interval. It is this project's own.
use Rattle.std.specs.Prelude.{◌≡◌, ◌≤◌, ◌+◌, ◌^◌, ◌⊎◌, ℕ, List, [], length, fold, Option, None}
use Rattle.std.specs.Prelude.{Bool, Some, if◌then◌else◌}
use Rattle.std.specs.declared.cmp.Ordering.{Ordering}
use Rattle.std.specs.Ordering.{on, then_cmp, nat_cmp}
use Rattle.std.specs.BTreeMap.{insert_entry, is_at}
use Rattle.std.specs.Map.{lookup}
use Rattle.std.specs.Option.{unwrap_or, option_cmp}
use Rattle.babel_prefix.specs.Order.{address_cmp}
use Rattle.babel_capture.specs.declared.place.Place.{Place}
use Rattle.babel_capture.specs.declared.place.Vlans.{Vlans}
use Rattle.babel_capture.specs.declared.tallies.Origin.{Origin}
use Rattle.babel_capture.specs.declared.tallies.Tally.{Tally}
use Rattle.babel_capture.specs.Counts.{Made}
use Rattle.babel_capture.specs.Times.{time_of}
use Rattle.babel_capture.specs.Timing.{greatest, least}
use Rattle.babel_capture.specs.Updates.{interval_in, updates_in}
use Rattle.babel_capture.specs.Findings.{Found, found}

-- by the outer number, none first, then by the others
abbrev pub vlans_cmp : Vlans → Vlans → Ordering
vlans_cmp =
    then_cmp (on (λ v. v.first) nat_cmp)
    (then_cmp (on (λ v. v.second) nat_cmp)
    (then_cmp (on (λ v. v.third) nat_cmp) (on (λ v. v.fourth) nat_cmp)))

-- by interface, then by link, none first, then by VLANs
abbrev pub place_cmp : Place → Place → Ordering
place_cmp =
    then_cmp (on (λ p. p.interface) nat_cmp)
    (then_cmp (on (λ p. p.link) (option_cmp nat_cmp)) (on (λ p. p.vlans) vlans_cmp))

-- by place, then by address
abbrev pub origin_cmp : Origin → Origin → Ordering
origin_cmp = then_cmp (on (λ o. o.place) place_cmp) (on (λ o. o.sender) address_cmp)

-- the tally of each sender at each place
abbrev pub Senders : Type 0
Senders = List (Origin × Tally)

abbrev pub tally_of : Senders → Origin → Option Tally
tally_of senders origin = lookup (is_at (origin_cmp origin)) senders

abbrev pub no_packets : Tally
no_packets = record {
  packets = 0;
  octets = 0;
  updates = 0;
  trailers = 0;
  interval = None;
  first = None;
  last = None;
}

-- one packet more, which came then, and whether octets come after its body
abbrev pub one_more : Tally → Option ℕ → List ℕ → (has_trailer : Bool) → Tally
one_more tally time packet has_trailer = record {
  packets = tally.packets + 1;
  octets = tally.octets + length packet;
  updates = tally.updates + updates_in packet;
  trailers = tally.trailers + (if has_trailer then 1 else 0);
  interval = greatest tally.interval (interval_in packet);
  first = least tally.first time;
  last = greatest tally.last time;
}

-- one packet more makes a number that has more than 64 bits
abbrev pub Overflows : Tally → List ℕ → (has_trailer : Bool) → Type 0
Overflows tally packet has_trailer =
    (2 ^ 64 ≤ tally.packets + 1)
    ⊎ (2 ^ 64 ≤ tally.octets + length packet)
    ⊎ (2 ^ 64 ≤ tally.updates + updates_in packet)
    ⊎ (2 ^ 64 ≤ tally.trailers + (if has_trailer then 1 else 0))

-- memory is needed to count a packet of a sender that is not listed yet, or where a number
-- overflows
abbrev pub CountNeedsMemory : Option Tally → List ℕ → (has_trailer : Bool) → Type 0
CountNeedsMemory None packet has_trailer = Unit {0}
CountNeedsMemory (Some tally) packet has_trailer = Overflows tally packet has_trailer

-- with a packet of this sender, which came then
abbrev pub tallied : Senders → Origin → Option ℕ → List ℕ → (has_trailer : Bool) → Senders
tallied senders origin time packet has_trailer =
    let before : Tally = unwrap_or (tally_of senders origin) no_packets in
    insert_entry origin_cmp senders origin (one_more before time packet has_trailer)

-- with what was made of one packet of the capture, which came then
abbrev pub senders_with : Senders → Option ℕ → Found → Senders
senders_with senders time (found place ends packet has_trailer) =
    tallied senders (record { place = place; sender = ends.sender }) time packet has_trailer
senders_with senders time what = senders

-- each sender at each place of which a packet was found, by place, then by address
abbrev pub senders_of : List Made → Senders
senders_of made = fold (λ senders one. senders_with senders (time_of one.came) one.what) [] made

-- nobody where senders are not listed
abbrev pub listed_with : (are_listed : Bool) → Senders → Option ℕ → Found → Senders
listed_with are_listed senders time what =
    if are_listed then senders_with senders time what else senders

abbrev pub senders_listed : (are_listed : Bool) → List Made → Senders
senders_listed are_listed made = if are_listed then senders_of made else []

-- the sender is one more than are listed
abbrev pub IsOneTooMany : Senders → Origin → Type 0
IsOneTooMany senders origin = (65536 ≤ length senders) × (tally_of senders origin ≡ None)
