-- What is seen of a frame is in the frame.
use Rattle.std.specs.Prelude.{◌≡◌, ℕ, ◌+◌, ◌<◌, ◌^◌, List, drop, length, ◌++◌, true}
use Rattle.babel_prefix.specs.Address.{Address}
use Rattle.babel_capture.specs.declared.lack.Lack.{Lack}
use Rattle.babel_capture.specs.declared.lack.Lack.TheVariants as lacks
use Rattle.babel_capture.specs.Sight.{Sight, Carried, other, too_short, fragmented, datagram}
use Rattle.babel_capture.specs.Sight.{other_port, not_link_local, lacking, carries}
use Rattle.babel_capture.specs.Udp.{source_port, destination_port, udp_len, may_send}

-- octets that stand in others, one after the other
pub record StandIn (part octets : List ℕ) : Type 0 where
  pub before : List ℕ
  pub after : List ℕ
  pub joined : octets ≡ before ++ part ++ after

-- RFC 768; RFC 8966, 4: the octets of a UDP datagram, both of whose ports are that of Babel, by its
-- length, of a sender that may send it: this is its payload
pub record IsDatagram (sender : Address) (udp payload : List ℕ) : Type 0 where
  pub source : source_port udp ≡ 6696
  pub destination : destination_port udp ≡ 6696
  pub len : udp_len udp ≡ length udp
  pub is_sender : may_send sender ≡ true
  pub after_header : payload ≡ drop 8 udp

-- A frame that had `all` octets, of which the recorder kept these: it is said to have kept a part
-- only if there were more, and a payload is that of a datagram of Babel that stands in it.
abbrev pub BacksLack : List ℕ → ℕ → Lack → Type 0
BacksLack octets all lacks.Fragment = Unit {0}
BacksLack octets all lacks.CutShort = Unit {0}
BacksLack octets all lacks.Snapped = length octets < all

abbrev pub BacksCarried : Address → List ℕ → ℕ → Carried → Type 0
BacksCarried sender octets all other_port = Unit {0}
BacksCarried sender octets all not_link_local = Unit {0}
BacksCarried sender octets all (lacking lack) = BacksLack octets all lack
BacksCarried sender octets all (carries payload) =
    (udp : List ℕ) × IsDatagram sender udp payload × StandIn udp octets

abbrev pub Backs : List ℕ → ℕ → Sight → Type 0
Backs octets all other = Unit {0}
Backs octets all too_short = Unit {0}
Backs octets all (fragmented fragment) =
    StandIn fragment.octets octets × (fragment.offset + fragment.len < 2 ^ 16)
Backs octets all (datagram place ends carried) = BacksCarried ends.sender octets all carried
