-- The senders of a capture, as what has to hold of them. It is this project's own.
use Rattle.std.specs.Prelude.{◌≡◌, ℕ, Bool, false, List, [], ◌∷◌, length, map, fold, sum_by}
use Rattle.std.specs.Prelude.{count_by, Option, None, Some}
use Rattle.std.specs.List.{filter}
use Rattle.std.specs.List.Sorted.{IsStrictlySortedBy}
use Rattle.std.specs.BTreeMap.{is_at}
use Rattle.std.specs.Map.{keys_of}
use Rattle.babel_capture.specs.declared.tallies.Origin.{Origin}
use Rattle.babel_capture.specs.declared.tallies.Tally.{Tally}
use Rattle.babel_capture.specs.Counts.{Made, has_trailer}
use Rattle.babel_capture.specs.Findings.{Found, found, octets_found}
use Rattle.babel_capture.specs.Times.{time_of}
use Rattle.babel_capture.specs.Timing.{greatest, least}
use Rattle.babel_capture.specs.Updates.{interval_in, updates_in}
use Rattle.babel_capture.specs.Tallies.{Senders, origin_cmp, tally_of}

-- a packet of this sender at this place was found
abbrev pub is_from : Origin → Found → Bool
is_from origin (found place ends packet has_trailer) =
    is_at (origin_cmp origin) (record { place = place; sender = ends.sender })
is_from origin what = false

-- what was made of its packets
abbrev pub made_from : Origin → List Made → List Made
made_from origin made = filter (λ one. is_from origin one.what) made

-- a packet, when it came, and whether octets come after its body
pub record Sent : Type 0 where
  pub time : Option ℕ
  pub octets : List ℕ
  pub has_trailer : Bool

-- its packets, in order
abbrev pub sent_of : Made → Sent
sent_of one = record {
  time = time_of one.came;
  octets = octets_found one.what;
  has_trailer = has_trailer one.what;
}

abbrev pub packets_from : Origin → List Made → List Sent
packets_from origin made = map sent_of (made_from origin made)

-- how many packets these are, of how many octets and with how many Updates in all, how many have
-- octets after the body, the greatest Interval of the Updates, and the earliest and the latest
-- time; nothing where there are no packets
abbrev pub tally_for : List Sent → Option Tally
tally_for [] = None
tally_for (packet ∷ packets) = Some (record {
  packets = length (packet ∷ packets);
  octets = sum_by (λ sent. length sent.octets) (packet ∷ packets);
  updates = sum_by (λ sent. updates_in sent.octets) (packet ∷ packets);
  trailers = count_by (λ sent. sent.has_trailer) (packet ∷ packets);
  interval = fold (λ i sent. greatest i (interval_in sent.octets)) None (packet ∷ packets);
  first = fold (λ t sent. least t sent.time) None (packet ∷ packets);
  last = fold (λ t sent. greatest t sent.time) None (packet ∷ packets);
})

-- The senders, each at each place, by place and then by address, and each once: exactly
-- those of whom a packet was found, with the tally of their packets.
pub record AreSenders (made : List Made) (senders : Senders) : Type 0 where
  pub in_order : IsStrictlySortedBy origin_cmp (keys_of senders)
  pub tallies : (origin : Origin) → tally_of senders origin ≡ tally_for (packets_from origin made)
