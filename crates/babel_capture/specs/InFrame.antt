-- What stands in a frame where a Babel packet is seen.
use Rattle.std.specs.Prelude.{◌≡◌, ℕ, ◌+◌, ◌^◌, ◌<◌, ◌≤◌, List, ◌++◌, length}
use Rattle.std.specs.List.{All}
use Rattle.babel_capture.specs.declared.ends.Ends.{Ends}
use Rattle.babel_capture.specs.declared.link.Link.{Link}
use Rattle.babel_capture.specs.declared.place.Place.{Place}
use Rattle.babel_capture.specs.LaidOut.{IsWhole}
use Rattle.babel_capture.specs.LinkHeaders.{IsHeader}
use Rattle.babel_capture.specs.Sight.{carries}

abbrev pub AreOctets : List ℕ → Type 0
AreOctets octets = All (λ octet. octet < 2 ^ 8) octets

-- these octets, of a frame that had `all`, are a link header, then a whole Babel datagram in an IP
-- packet between these addresses, with this payload, and then whatever comes after it
pub record IsInFrame (link : Link) (interface : ℕ) (place : Place) (ends : Ends)
    (payload octets : List ℕ) (all : ℕ) : Type 0 where
  pub ether_type : ℕ
  pub header : List ℕ
  pub packet : List ℕ
  pub after : List ℕ
  pub more : ℕ
  pub is_header : IsHeader link interface ether_type place header
  pub is_whole : IsWhole ether_type ends packet more (carries payload)
  pub laid_out : octets ≡ header ++ (packet ++ after)
  pub fits : length header + (length packet + more) ≤ all
